use Rattle.std.proofs.Common.{◌≡◌, length, None, arith}
use Rattle.tword.specs.Touches.{Writes, word_break, word_span}
use Rattle.tword.proofs.Open.{open_whole}
use Rattle.tword.proofs.Passing.{word_break-span, span_break-none}
use Rattle.tword.proofs.bytes.Bytes.is_clear_word.Goals as goal

pub returns-clause-free : goal.returns-clause-free
returns-clause-free c = λ _.
    open_whole c.args.counts.now (length c.args.self.now) c.args.marks.now Writes c.in-Some._place c.args.address
    c.requires c.in-Some.ensures.is.0 (omega arith) (omega (arith, c.size.ensures.is, c.size.ensures.sized))
    c.in-Some.ensures.is.1 c.in-Some.ensures.is.2 (omega (arith, c.get.ensures, c.if-get-ne0.false))

pub returns-clause-inside : goal.returns-clause-inside
returns-clause-inside c = λ _.
    let free : word_break (length c.args.self.now) c.args.marks.now Writes c.args.address ≡ None =
    open_whole c.args.counts.now (length c.args.self.now) c.args.marks.now Writes c.in-Some._place c.args.address
    c.requires c.in-Some.ensures.is.0 (omega arith) (omega (arith, c.size.ensures.is, c.size.ensures.sized))
    c.in-Some.ensures.is.1 c.in-Some.ensures.is.2 (omega (arith, c.get.ensures, c.if-get-ne0.false)) in
    (span_break-none _ _ _ (word_span c.args.address) (word_break-span _ _ _ c.args.address free)).inside
