use Rattle.std.proofs.Common.{◌≡◌, refl, ap, ◌∙◌, length, Some}
use Rattle.std.specs.Prelude.{option_map, slice_get}
use Rattle.std.proofs.lemmas.Option.{slice_get_read}
use Rattle.tcertify.specs.declared.process.Process.{Process}
use Rattle.tcertify.proofs.QuietSteps.{quiet}
use Rattle.tcertify.proofs.node.Node.quiet_step.Goals as goal

pub returns-clause-done : goal.returns-clause-done
returns-clause-done c = λ yes.
    let a = c.args.self.now in let k = c.args.process in let p = c.index.result.now in
    let ps = a.processes.items.items in
    let there : slice_get ps k ≡ Some p = slice_get_read ps (length ps) k p refl c.requires c.index.ensures in
    let ran = ap (option_map (λ (q : Process). q.stand)) there ∙ ap Some c.in-Runs.is in
    let e = c.in-Some-executes_noted.ensures in let g = c.goes_on_noted.ensures in
    record {
      before = c.in-Runs.running;
      runs = ran;
      after = _;
      goes_on = g.goes;
      does = quiet a c.goes_on_noted.new.self k p c.in-Runs.running c.in-Some.instruction there ran
          (c.is_stand_noted.ensures c.if-not-is_stand_noted.false) c.in-Some.ensures (e.done _ g.done);
      notes = ap (λ w. w.notes) g.words ∙ e.notes;
      leads = g.leads ∙ e.leads;
      processes = g.processes ∙ ap (λ q. length q.items.items) e.same;
      channels = g.channels ∙ e.channels;
      population = g.population ∙ e.besides.population;
    }
