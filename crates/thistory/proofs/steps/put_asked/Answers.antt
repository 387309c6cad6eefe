use Rattle.std.proofs.Common.{sym, ap, ap₂, ◌∙◌, Bool, []}
use Rattle.std.specs.Prelude.{if◌then◌else◌}
use Rattle.tnet.specs.Net.{NetState}
use Rattle.tfiles.proofs.Told.{tells_as, tells_none}
use Rattle.thistory.specs.declared.deed.Done.{Done}
use Rattle.thistory.specs.Deeds.{done_of, net_behind}
use Rattle.thistory.specs.Steps.{step_text}
use Rattle.thistory.proofs.steps.put_asked.Goals as goal

pub returns-then-is_asked : goal.returns-then-is_asked
returns-then-is_asked g c = record {
  text = tells_as c.put_step.ensures
      (ap₂ (λ (d : Done) (net : NetState). step_text c.args.number d net) c.do_event-done.ensures.done
      c.do_event-done.ensures.left
      ∙ ap
      (λ (b : Bool). if b
      then step_text c.args.number (done_of c.args.net.now c.args.event) (net_behind c.args.net.now c.args.event)
      else []) (sym c.if-is_asked.true ∙ c.is_asked.ensures));
  left = c.do_event-done.ensures.left;
}

pub returns-else-is_asked : goal.returns-else-is_asked
returns-else-is_asked g c = record {
  text = tells_as (tells_none c.args.out.now)
      (ap
      (λ (b : Bool). if b
      then step_text c.args.number (done_of c.args.net.now c.args.event) (net_behind c.args.net.now c.args.event)
      else []) (sym c.if-is_asked.false ∙ c.is_asked.ensures));
  left = c.do_event-done.ensures.left;
}
