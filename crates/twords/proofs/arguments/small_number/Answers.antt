use Rattle.std.proofs.Common.{◌≡◌, ◌∙◌, arith, sym}
use Rattle.std.specs.Str.Parse.{ParsesUnsigned, ExplainsUnsignedError, HasUnsignedDigitsIfOk}
use Rattle.twords.proofs.WordReads.{number_read}
use Rattle.twords.proofs.arguments.small_number.Goals as goal

pub unwrap-requires : goal.unwrap-requires
unwrap-requires c =
    let read = number_read _ (λ bs r. ParsesUnsigned 8 10 bs r × ExplainsUnsignedError 10 bs r
    × HasUnsignedDigitsIfOk bs r) 8 255 c.args.given.now c.args.id.now c.get_one.result
    c.get_one.ensures.value (λ u x g. g.0) (omega arith) c.requires in
    rw read.1

pub returns : goal.returns
returns c =
    let read = number_read _ (λ bs r. ParsesUnsigned 8 10 bs r × ExplainsUnsignedError 10 bs r
    × HasUnsignedDigitsIfOk bs r) 8 255 c.args.given.now c.args.id.now c.get_one.result
    c.get_one.ensures.value (λ u x g. g.0) (omega arith) c.requires in
    let same : read.0 ≡ c.unwrap.result = cc in
    sym same ∙ read.2
