use Rattle.std.proofs.Common.{◌≡◌, ◌∙◌, ◌≤◌, arith, subst, sym}
use Rattle.std.specs.Str.Parse.{ParsesUnsigned, ExplainsUnsignedError, HasUnsignedDigitsIfOk}
use Rattle.twords.proofs.WordReads.{number_read}
use Rattle.twords.proofs.arguments.long_number.Goals as goal

pub unwrap-requires : goal.unwrap-requires
unwrap-requires c =
    let read = number_read _ (λ bs r. ParsesUnsigned 64 10 bs r × ExplainsUnsignedError 10 bs r
    × HasUnsignedDigitsIfOk bs r) 64 9223372036854775807 c.args.given.now c.args.id.now c.get_one.result
    c.get_one.ensures.value (λ u x g. g.0) (omega arith) c.requires in
    rw read.1

pub returns-clause-value : goal.returns-clause-value
returns-clause-value c =
    let read = number_read _ (λ bs r. ParsesUnsigned 64 10 bs r × ExplainsUnsignedError 10 bs r
    × HasUnsignedDigitsIfOk bs r) 64 9223372036854775807 c.args.given.now c.args.id.now c.get_one.result
    c.get_one.ensures.value (λ u x g. g.0) (omega arith) c.requires in
    let same : read.0 ≡ c.unwrap.result = cc in
    sym same ∙ read.2

pub returns-clause-range : goal.returns-clause-range
returns-clause-range c =
    let read = number_read _ (λ bs r. ParsesUnsigned 64 10 bs r × ExplainsUnsignedError 10 bs r
    × HasUnsignedDigitsIfOk bs r) 64 9223372036854775807 c.args.given.now c.args.id.now c.get_one.result
    c.get_one.ensures.value (λ u x g. g.0) (omega arith) c.requires in
    let same : read.0 ≡ c.unwrap.result = cc in
    subst (λ n. n ≤ 9223372036854775807) same read.3
