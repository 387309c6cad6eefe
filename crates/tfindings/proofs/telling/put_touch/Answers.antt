use Rattle.std.proofs.Common.{ap, List}
use Rattle.tcertify.specs.declared.node.Node.{Node}
use Rattle.tfindings.specs.Places.{access_text}
use Rattle.tfiles.proofs.Told.{tells_then, tells_as}
use Rattle.tfindings.proofs.telling.put_touch.Goals as goal

pub returns : goal.returns
returns g c =
    tells_then
    (tells_then (tells_as c.put_access.ensures
    (ap (λ (ns : List Node). access_text ns c.args.machine.now.first_script c.args.place c.args.touch.now.mode)
    c.as_slice.ensures.value))
    (tells_then c.put.ensures c.put_made.ensures))
    c.put-2.ensures
