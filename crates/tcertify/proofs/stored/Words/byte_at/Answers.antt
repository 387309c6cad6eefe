use Rattle.std.proofs.Common.{◌≡◌, ◌<◌, ℕ, ◌+◌, ◌*◌, ◌/◌, ◌%◌, refl, sym, ap, ◌∙◌, length, arith, Option, Some}
use Rattle.std.proofs.lemmas.Option.{slice_get_read}
use Rattle.tcertify.proofs.WordBytes.{get_byte}
use Rattle.tcertify.proofs.stored.Words.byte_at.Goals as goal

pub returns : goal.returns
returns c =
    let words = c.args.self.now.items.items in let p : ℕ = c.args.place in
    let inside : p / 4 < length words = omega (arith, c.requires) in
    let low : p % 4 < 4 = omega arith in
    let parts : p ≡ 4 * (p / 4) + p % 4 = omega arith in
    let there = slice_get_read words (length words) (p / 4) c.index.result.now refl inside c.index.ensures in
    get_byte words (p / 4) p (p % 4) c.index.result.now there low parts
    ∙ ap (λ (o : Option ℕ). Some o) (sym c.byte.ensures)
