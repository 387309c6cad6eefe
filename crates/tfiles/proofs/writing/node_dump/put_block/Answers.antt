use Rattle.std.proofs.Common.{◌<◌, ◌*◌, length, sym, ◌∙◌, arith, rules}
use Rattle.std.proofs.lemmas.Grind.{common_steps}
use Rattle.tword.specs.Stores.{as_cells, hiding_from}
use Rattle.tfiles.specs.Texts.{is_pending, dump_lines}
use Rattle.tfiles.specs.Outputs.{Tells}
use Rattle.tfiles.proofs.DumpLines.{lines_begin, lines_next, lines_end, is_within, is_behind, line_of, block_left_out}
use Rattle.tfiles.proofs.Told.{goes_on-as, goes_on-start, goes_on-next, goes_on-end, tells_as, tells_none}
use Rattle.tfiles.proofs.writing.node_dump.put_block.Goals as goal

pub loop-line-init : goal.loop-line-init
loop-line-init g c =
    goes_on-as
    (goes_on-start c.args.out.now
    (dump_lines (length c.args.bytes.now) c.args.address
    (hiding_from (is_pending c.args.pending.now) c.args.address (as_cells c.args.bytes.now))))
    (lines_begin (is_pending c.args.pending.now) c.args.address c.args.bytes.now)

pub loop-line-preserved : goal.loop-line-preserved
loop-line-preserved g c =
    let within : 16 * c.loop-line.line < length c.args.bytes.now =
    is_within _ _ _ c.div_ceil-line-end.ensures c.loop-line-test.true in
    let told : Tells g.W.Write.contents g.W.CountedWrite.failures c.loop-line.out c.put_line.new.out
    (line_of (is_pending c.args.pending.now) c.args.address c.loop-line.line c.args.bytes.now) =
    first_of (search rules, grind (arith, common_steps)) in
    goes_on-next (line_of (is_pending c.args.pending.now) c.args.address c.loop-line.line c.args.bytes.now) _
    c.loop-line.invariant
    (lines_next (is_pending c.args.pending.now) c.args.address c.loop-line.line c.args.bytes.now within) told

pub returns : goal.returns
returns g c =
    goes_on-end c.loop-line.invariant
    (lines_end (is_pending c.args.pending.now) c.args.address c.loop-line.line c.args.bytes.now
    (is_behind _ _ _ c.div_ceil-line-end.ensures c.loop-line-test.false))

pub returns-then-sum_of-eq0 : goal.returns-then-sum_of-eq0
returns-then-sum_of-eq0 g c =
    tells_as (tells_none c.args.out.now)
    (block_left_out c.args.pending.now (length c.args.bytes.now) c.args.address c.args.bytes.now
    (sym c.sum_of.ensures ∙ c.if-sum_of-eq0.true) (sym c.if-not-has_pending.ensures))
