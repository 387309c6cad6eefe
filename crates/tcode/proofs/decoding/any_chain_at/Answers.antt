use Rattle.std.proofs.Common.{◌∙◌, ap, sym}
use Rattle.tword.specs.Words.{plus}
use Rattle.tcode.proofs.Coded.{decoded_so}
use Rattle.tcode.proofs.decoding.any_chain_at.Goals as goal

pub returns-in-Ok : goal.returns-in-Ok
returns-in-Ok c =
    decoded_so c.args.memory.now.kind _ c.in-Ok.i c.args.iptr c.code_of.result c.plus-behind.result
    (sym c.decode.ensures ∙ c.in-Ok.is) c.code_of.ensures.code
    (c.plus-behind.ensures ∙ ap (plus c.args.iptr) (c.new.ensures ∙ c.from.ensures))
