use Rattle.std.proofs.Common.{◌<◌, length, arith, rules}
use Rattle.std.specs.Int.{div_ceil}
use Rattle.std.proofs.lemmas.Grind.{common_steps}
use Rattle.tfiles.specs.Outputs.{Tells}
use Rattle.tfiles.proofs.Told.{goes_on-as, goes_on-start, goes_on-next, goes_on-end}
use Rattle.tfindings.specs.Cells.{memory_text, words_of}
use Rattle.tfindings.proofs.MemoryLines.{line_of, lines_begin, lines_next, lines_end}
use Rattle.tfindings.proofs.cells.put_words.Goals as goal

pub loop-number-init : goal.loop-number-init
loop-number-init g c =
    goes_on-as (goes_on-start c.args.out.now (memory_text (words_of c.args.words.now))) (lines_begin c.args.words.now)

pub loop-number-preserved : goal.loop-number-preserved
loop-number-preserved g c =
    let within : c.loop-number.number < div_ceil (length c.args.words.now) 4 =
    omega (arith, c.loop-number-test.true, c.div_ceil-number-end.ensures) in
    let told : Tells g.W.Write.contents g.W.CountedWrite.failures c.loop-number.out c.put_line.new.out
    (line_of c.loop-number.number c.args.words.now) = first_of (search rules, grind (arith, common_steps)) in
    goes_on-next (line_of c.loop-number.number c.args.words.now) _ c.loop-number.invariant
    (lines_next c.loop-number.number c.args.words.now within) told

pub returns : goal.returns
returns g c =
    goes_on-end c.loop-number.invariant
    (lines_end c.loop-number.number c.args.words.now
    (omega (arith, c.loop-number-test.false, c.div_ceil-number-end.ensures)))
