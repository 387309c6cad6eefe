use Rattle.std.proofs.Common.{ap}
use Rattle.hex.specs.Hex.{encode_lower}
use Rattle.tword.specs.Stores.{as_cells, hiding_from}
use Rattle.tfiles.specs.Texts.{is_pending}
use Rattle.tfiles.proofs.DumpLines.{line_left_out, line_shown}
use Rattle.tfiles.proofs.Told.{tells_none, tells_then, tells_as}
use Rattle.tfiles.proofs.writing.node_dump.put_cells.Goals as goal

pub returns-then-are_zero : goal.returns-then-are_zero
returns-then-are_zero g c =
    tells_as (tells_none c.args.out.now)
    (line_left_out c.args.address
    (hiding_from (is_pending c.args.pending.now) c.args.address (as_cells c.args.bytes.now)) c.if-are_zero.ensures)

pub returns : goal.returns
returns g c =
    tells_as (tells_then
    (tells_then (tells_as c.put_hex.ensures (ap encode_lower c.to_be_bytes.ensures))
    (tells_then c.put.ensures c.put_shown.ensures)) c.put-2.ensures)
    (line_shown c.args.address (hiding_from (is_pending c.args.pending.now) c.args.address (as_cells c.args.bytes.now))
    c.if-are_zero.ensures)
