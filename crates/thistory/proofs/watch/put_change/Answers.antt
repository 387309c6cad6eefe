use Rattle.std.proofs.Common.{sym, ap, ◌∙◌, Bool, []}
use Rattle.std.specs.Prelude.{if◌then◌else◌}
use Rattle.tplan.specs.Wires.{far_ends}
use Rattle.tfiles.proofs.Told.{tells_as, tells_none, tells_then}
use Rattle.thistory.specs.Deeds.{processor_in}
use Rattle.thistory.specs.Lines.{event_line}
use Rattle.thistory.specs.Watch.{change_text}
use Rattle.thistory.proofs.watch.put_change.Goals as goal

pub returns-then-has_changed : goal.returns-then-has_changed
returns-then-has_changed g c =
    tells_as
    (tells_then c.put_head.ensures
    (tells_then
    (tells_then c.put.ensures
    (tells_then c.put_cells.ensures
    (tells_then c.put-then-has_changed.ensures c.put_cells-then-has_changed.ensures)))
    c.put_tail.ensures))
    (ap
    (λ (b : Bool). if b
    then event_line (change_text c.args.before.now c.args.after.now) c.args.number
    (far_ends c.args.net.now.wires c.args.done.now.event.node) c.args.done.now
    (processor_in c.args.net.now c.args.done.now.event.node)
    else []) (sym c.if-has_changed.true ∙ c.has_changed.ensures))

pub returns-else-has_changed : goal.returns-else-has_changed
returns-else-has_changed g c =
    tells_as (tells_none c.args.out.now)
    (ap
    (λ (b : Bool). if b
    then event_line (change_text c.args.before.now c.args.after.now) c.args.number
    (far_ends c.args.net.now.wires c.args.done.now.event.node) c.args.done.now
    (processor_in c.args.net.now c.args.done.now.event.node)
    else []) (sym c.if-has_changed.false ∙ c.has_changed.ensures))
