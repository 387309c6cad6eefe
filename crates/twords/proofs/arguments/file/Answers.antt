use Rattle.std.proofs.Common.{◌≡◌, ◌∙◌, Bor, ap, sym}
use Rattle.std.proofs.lemmas.Result.{IfOk-weaker}
use Rattle.clap.specs.Words.{Text}
use Rattle.twords.proofs.WordReads.{text_read}
use Rattle.twords.proofs.arguments.file.Goals as goal

pub unwrap-requires : goal.unwrap-requires
unwrap-requires c =
    let read = text_read c.args.given.now c.args.id.now c.get_str.result c.get_str.ensures c.requires in
    rw read.1

pub returns : goal.returns
returns c =
    let read = text_read c.args.given.now c.args.id.now c.get_str.result c.get_str.ensures c.requires in
    let same : read.0 ≡ c.unwrap.result = cc in
    IfOk-weaker c.from_str.result _ _ (λ s h. h ∙ sym (ap (λ (t : Bor Text). t.now) same) ∙ read.2)
    c.from_str.ensures
