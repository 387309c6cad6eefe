use Rattle.std.proofs.Common.{◌≡◌, ◌∙◌, subst, sym, neg_ℤ, pos, ℤ}
use Rattle.std.proofs.Math.Facts.{to_z-of_z}
use Rattle.std.proofs.Common.{to_z, of_z}
use Rattle.clap.specs.Words.{found_of, rows_of}
use Rattle.std.specs.Int.{w64}
use Rattle.std.specs.Str.Parse.{ParsesSigned, ExplainsSignedError, HasSignedDigitsIfOk}
use Rattle.twords.specs.Arguments.{IsWithin, signed_at}
use Rattle.twords.proofs.WordReads.{signed_read}
use Rattle.twords.proofs.arguments.signed_number.Goals as goal

pub unwrap-requires : goal.unwrap-requires
unwrap-requires c =
    let read = signed_read _ (λ bs r. ParsesSigned w64 10 bs r × ExplainsSignedError 10 bs r
    × HasSignedDigitsIfOk bs r) (neg_ℤ (pos 4294967295)) (pos 4294967295) c.args.given.now c.args.id.now
    c.get_one.result c.get_one.ensures.value (λ u x g. g.0) c.requires in
    rw read.1

pub returns-clause-value : goal.returns-clause-value
returns-clause-value c =
    let read = signed_read _ (λ bs r. ParsesSigned w64 10 bs r × ExplainsSignedError 10 bs r
    × HasSignedDigitsIfOk bs r) (neg_ℤ (pos 4294967295)) (pos 4294967295) c.args.given.now c.args.id.now
    c.get_one.result c.get_one.ensures.value (λ u x g. g.0) c.requires in
    let same : read.0 ≡ c.unwrap.result = cc in
    subst (λ (n : ℤ). to_z w64 (of_z w64 n) ≡ signed_at c.args.id.now (rows_of (found_of c.args.given.now))) same
    (to_z-of_z read.4 ∙ read.2)

pub returns-clause-range : goal.returns-clause-range
returns-clause-range c =
    let read = signed_read _ (λ bs r. ParsesSigned w64 10 bs r × ExplainsSignedError 10 bs r
    × HasSignedDigitsIfOk bs r) (neg_ℤ (pos 4294967295)) (pos 4294967295) c.args.given.now c.args.id.now
    c.get_one.result c.get_one.ensures.value (λ u x g. g.0) c.requires in
    let same : read.0 ≡ c.unwrap.result = cc in
    subst (λ (n : ℤ). IsWithin 4294967295 (to_z w64 (of_z w64 n))) same
    (subst (IsWithin 4294967295) (sym (to_z-of_z read.4)) read.3)
