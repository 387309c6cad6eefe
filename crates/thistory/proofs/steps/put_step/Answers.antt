use Rattle.std.proofs.Common.{sym, ap, ◌∙◌, Bool, []}
use Rattle.std.specs.Prelude.{if◌then◌else◌}
use Rattle.tplan.specs.Wires.{far_ends}
use Rattle.tfiles.proofs.Told.{tells_as, tells_none, tells_then}
use Rattle.thistory.specs.Deeds.{processor_in}
use Rattle.thistory.specs.Steps.{left_text, step_line}
use Rattle.thistory.proofs.steps.put_step.Goals as goal

pub returns-then-was_done : goal.returns-then-was_done
returns-then-was_done g c =
    tells_as
    (tells_then c.put_head.ensures
    (tells_then
    (tells_as c.put_left.ensures
    (ap (left_text c.args.done.now.deed c.args.done.now.answer) c.processor_in.ensures)) c.put_tail.ensures))
    (ap
    (λ (b : Bool). if b then step_line c.args.number
    (far_ends c.args.net.now.wires c.args.done.now.event.node) c.args.done.now
    (processor_in c.args.net.now c.args.done.now.event.node)
    else []) (sym c.if-was_done.true ∙ c.was_done.ensures))

pub returns-else-was_done : goal.returns-else-was_done
returns-else-was_done g c =
    tells_as (tells_none c.args.out.now)
    (ap
    (λ (b : Bool). if b then step_line c.args.number
    (far_ends c.args.net.now.wires c.args.done.now.event.node) c.args.done.now
    (processor_in c.args.net.now c.args.done.now.event.node)
    else []) (sym c.if-was_done.false ∙ c.was_done.ensures))
