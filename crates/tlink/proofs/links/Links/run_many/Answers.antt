use Rattle.std.proofs.Common.{Some, refl, sym, ap, ◌∙◌}
use Rattle.tlink.specs.declared.event.Runs.{Runs}
use Rattle.tlink.specs.Roles.{Processor}
use Rattle.tlink.proofs.RunRows.{row-lifted, runs-frozen}
use Rattle.tlink.proofs.links.Links.run_many.Goals as goal

pub returns-then-is_frozen : goal.returns-then-is_frozen
returns-then-is_frozen c =
    ap (λ (r : Runs). (c.args.self.now, r)) c.not_enabled.ensures
    ∙ sym (runs-frozen c.args.most c.args.self.now
    (rw (← c.self.view_is) (sym c.is_some-is_frozen.ensures ∙ c.if-is_frozen.true)))

pub returns-in-Some : goal.returns-in-Some
returns-in-Some c =
    row-lifted c.args.most c.args.self.now
    (record {
      role = Processor;
      machine = c.self.inside.processor;
      counts = c.self.inside.counts;
      wired = c.self.inside.wired;
      broken = c.self.inside.broken;
    }) _ c.run_many-count.new.self c.run_many-count.result _ c.self.view_is refl
    (sym c.is_some-is_frozen.ensures ∙ c.if-is_frozen.false) c.run_many-count.ensures
    (rw c.in-Some.is c.told.ensures.left)
    (rw c.in-Some.is (ap (λ a. Some a) (c.answer.ensures ∙ c.told.ensures.told)))

pub returns-in-None : goal.returns-in-None
returns-in-None c =
    row-lifted c.args.most c.args.self.now
    (record {
      role = Processor;
      machine = c.self.inside.processor;
      counts = c.self.inside.counts;
      wired = c.self.inside.wired;
      broken = c.self.inside.broken;
    }) _ c.run_many-count.new.self c.run_many-count.result _ c.self.view_is refl
    (sym c.is_some-is_frozen.ensures ∙ c.if-is_frozen.false) c.run_many-count.ensures (rw c.in-None.is refl)
    (rw c.in-None.is refl)
