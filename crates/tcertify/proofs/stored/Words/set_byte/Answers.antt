use Rattle.std.proofs.Common.{◌<◌, ℕ, ◌/◌, refl, length, arith}
use Rattle.std.proofs.lemmas.Option.{slice_get_read}
use Rattle.tcertify.proofs.Written.{one_written}
use Rattle.tcertify.proofs.stored.Words.set_byte.Goals as goal

pub returns : goal.returns
returns c =
    let w = c.args.self.now in let words = w.items.items in let p : ℕ = c.args.place in
    let inside : p / 4 < length words = omega (arith, c.requires) in
    let x = c.index_mut-stored.result.now in
    let there = slice_get_read words (length words) (p / 4) x refl inside c.index_mut-stored.ensures.value in
    one_written w _ p x (record x { cells = c.with_byte-stored.result }) c.args.cell there refl
    c.with_byte-stored.ensures refl refl
    refl refl refl refl
