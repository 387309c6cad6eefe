use Rattle.std.proofs.Common.{ℕ, List, refl}
use Rattle.tword.specs.Stores.{Store}
use Rattle.tword.specs.Words.{minus}
use Rattle.tword.specs.Claims.{Claims}
use Rattle.tcpu.specs.declared.registers.Registers.{Registers}
use Rattle.tcode.proofs.Known.{marked_same, marked_then}
use Rattle.tcpu.proofs.Marked.{put_none, put_word}
use Rattle.tcpu.proofs.registers.Registers.open_call.Goals as goal

pub returns-clause-marked : goal.returns-clause-marked
returns-clause-marked c =
    let words : List ℕ = c.args.words.now in
    let s : Store = c.args.memory.now in
    let claims : Claims = c.args.marks.now in
    let r : Registers = c.args.self.now in
    let one = put_word words s _ claims (minus r.wptr 16) r.iptr (put_none words s)
    (rw c.below.ensures at (c.if-not-may_set_word.ensures.free refl))
    (rw c.below.ensures at (c.if-not-may_set_word.ensures.unmarked refl)) in
    let two = put_word words s _ claims (minus r.wptr 12) r.a one
    (rw c.below-else-not-may_set_word.ensures at (c.if-not-may_set_word-2.ensures.free refl))
    (rw c.below-else-not-may_set_word.ensures at (c.if-not-may_set_word-2.ensures.unmarked refl)) in
    let three = put_word words s _ claims (minus r.wptr 8) r.b two
    (rw c.below-else-not-may_set_word-2.ensures at (c.if-not-may_set_word-3.ensures.free refl))
    (rw c.below-else-not-may_set_word-2.ensures at (c.if-not-may_set_word-3.ensures.unmarked refl)) in
    let four = put_word words s _ claims (minus r.wptr 4) r.c three
    (rw c.below-else-not-may_set_word-3.ensures at (c.if-not-may_set_word-4.ensures.free refl))
    (rw c.below-else-not-may_set_word-3.ensures at (c.if-not-may_set_word-4.ensures.unmarked refl)) in
    marked_then words s _ c.enter.new.memory four.stands (marked_same words _ c.enter.new.memory c.enter.ensures.memory)
