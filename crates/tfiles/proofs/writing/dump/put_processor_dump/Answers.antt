use Rattle.std.proofs.Common.{◌≡◌}
use Rattle.tword.specs.Stores.{as_cells}
use Rattle.tproc.specs.Machine.{claims_of}
use Rattle.tfiles.proofs.NetDumps.{dump_known}
use Rattle.tfiles.proofs.Told.{tells_as}
use Rattle.tfiles.proofs.writing.dump.put_processor_dump.Goals as goal

pub returns : goal.returns
returns g c =
    let halted : c.is_halted.result ≡ c.args.processor.now.control.halted = c.is_halted.ensures in
    let pending : c.pending_inputs.result ≡ (claims_of c.args.processor.now.control).inputs =
    c.pending_inputs.ensures in
    let store : as_cells c.bytes.result.now ≡ c.args.processor.now.store = c.bytes.ensures.bytes in
    tells_as c.put_node_dump.ensures
    (dump_known c.args.number c.args.processor.now c.args.broken c.is_halted.result c.pending_inputs.result
    (as_cells c.bytes.result.now) halted pending store)
