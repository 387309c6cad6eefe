use Rattle.std.proofs.Common.{◌≡◌, ◌∙◌, Bor, ap, codes, sym}
use Rattle.clap.specs.Words.{Text}
use Rattle.twords.specs.Table.{show_of}
use Rattle.twords.proofs.WordReads.{text_read}
use Rattle.twords.proofs.table.shown.Goals as goal

pub unwrap-requires : goal.unwrap-requires
unwrap-requires c =
    let read = text_read c.args.given.now (codes "show") c.get_str.result c.get_str.ensures c.requires in
    rw read.1

pub returns : goal.returns
returns c =
    let read = text_read c.args.given.now (codes "show") c.get_str.result c.get_str.ensures c.requires in
    let same : read.0 ≡ c.unwrap.result = cc in
    c.show_of.ensures ∙ ap show_of (sym (ap (λ (t : Bor Text). t.now) same) ∙ read.2)
