use Rattle.std.proofs.Common.{◌≡◌}
use Rattle.tword.specs.Stores.{as_cells}
use Rattle.tproc.specs.Machine.{claims_of}
use Rattle.tfiles.proofs.Told.{tells_as}
use Rattle.tjson.proofs.NodeLines.{node_known}
use Rattle.tjson.proofs.node.put_processor.Goals as goal

pub returns : goal.returns
returns g c =
    let halted : c.is_halted.result ≡ c.args.processor.now.control.halted = c.is_halted.ensures in
    let pending : c.pending_inputs-pending.result ≡ (claims_of c.args.processor.now.control).inputs =
    c.pending_inputs-pending.ensures in
    let store : as_cells c.bytes.result.now ≡ c.args.processor.now.store = c.bytes.ensures.bytes in
    tells_as c.put_node.ensures
    (node_known c.args.number c.args.processor.now c.args.broken c.is_halted.result c.pending_inputs-pending.result
    (as_cells c.bytes.result.now) halted pending store)
