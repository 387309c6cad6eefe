use Rattle.std.proofs.Common.{◌≡◌, ◌∙◌, Bor, ap, codes, sym}
use Rattle.clap.specs.Words.{Text}
use Rattle.twords.specs.Addresses.{address_of}
use Rattle.twords.proofs.WordReads.{text_read}
use Rattle.twords.proofs.addresses.address.Goals as goal

pub unwrap-requires : goal.unwrap-requires
unwrap-requires c =
    let read = text_read c.args.given.now (codes "address") c.get_str.result c.get_str.ensures c.requires in
    rw read.1

pub returns : goal.returns
returns c =
    let read = text_read c.args.given.now (codes "address") c.get_str.result c.get_str.ensures c.requires in
    let same : read.0 ≡ c.unwrap.result = cc in
    c.address_of.ensures ∙ ap address_of (sym (ap (λ (t : Bor Text). t.now) same) ∙ read.2)
