use Rattle.std.proofs.Common.{arith, rules}
use Rattle.std.proofs.lemmas.Grind.{common_steps}
use Rattle.tword.specs.Stores.{as_cells, hiding}
use Rattle.tfiles.specs.Texts.{is_pending, lines_of}
use Rattle.tfiles.specs.Outputs.{Tells}
use Rattle.tfiles.proofs.DumpLines.{blocks_begin, blocks_next, blocks_end, is_block_behind, block_of}
use Rattle.tfiles.proofs.Told.{goes_on-as, goes_on-start, goes_on-next, goes_on-end}
use Rattle.tfiles.proofs.writing.node_dump.put_lines.Goals as goal

pub loop-block-init : goal.loop-block-init
loop-block-init g c =
    goes_on-as
    (goes_on-start c.args.out.now (lines_of (hiding (is_pending c.args.pending.now) (as_cells c.args.bytes.now))))
    (blocks_begin (hiding (is_pending c.args.pending.now) (as_cells c.args.bytes.now)))

pub loop-block-preserved : goal.loop-block-preserved
loop-block-preserved g c =
    let told : Tells g.W.Write.contents g.W.CountedWrite.failures c.loop-block.out c.put_block.new.out
    (block_of (is_pending c.args.pending.now) c.loop-block.block c.args.bytes.now) =
    first_of (search rules, grind (arith, common_steps)) in
    goes_on-next (block_of (is_pending c.args.pending.now) c.loop-block.block c.args.bytes.now) _
    c.loop-block.invariant (blocks_next (is_pending c.args.pending.now) c.loop-block.block c.args.bytes.now) told

pub returns : goal.returns
returns g c =
    goes_on-end c.loop-block.invariant
    (blocks_end (is_pending c.args.pending.now) c.loop-block.block c.args.bytes.now
    (is_block_behind _ _ _ c.div_ceil-block-end.ensures c.loop-block-test.false))
