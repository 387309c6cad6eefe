use Rattle.std.proofs.Common.{◌≡◌, ◌<◌, ◌≤◌, ℕ, ◌+◌, ◌*◌, sym, subst, ap, ◌∙◌, length, arith, Option, Some}
use Rattle.std.specs.Prelude.{slice_get, slice_range}
use Rattle.tword.specs.Stores.{Store}
use Rattle.tcertify.specs.Spans.{IsWritten, bytes_in}
use Rattle.tcertify.proofs.Splices.{get_behind, range_behind, range_length, range_none}
use Rattle.tcertify.proofs.WordBytes.{bytes_length}
use Rattle.tcertify.proofs.Written.{none_written, written_behind}
use Rattle.tcertify.proofs.stored.Words.copy_down.Goals as goal

pub loop-k-init : goal.loop-k-init
loop-k-init c =
    let w = c.args.self.now in
    subst (λ (xs : Store). IsWritten w c.args.to xs w) (sym (range_none c.args.from (bytes_in w.items.items)))
    (none_written w c.args.to)

pub loop-k-preserved : goal.loop-k-preserved
loop-k-preserved c =
    let w = c.args.self.now in let u = c.loop-k.self in let v = c.set_byte.new.self in
    let from : ℕ = c.args.from in let to : ℕ = c.args.to in let k : ℕ = c.loop-k.k in
    let all : Store = bytes_in w.items.items in let xs : Store = slice_range all from (from + k) in
    let cell : Option ℕ = c.byte_at-cell.result in
    let low : k < c.args.size = omega (arith, c.loop-k-test.true) in
    let there = c.requires.inside k low in
    let room : from + k ≤ length all = omega (arith, there, bytes_length w.items.items) in
    let many = range_length from k all room in
    let at : to + k ≡ to + length xs = omega (arith, many) in
    let behind : to + length xs ≤ from + k = omega (arith, c.requires.order, many) in
    let inside : to + k < 4 * length w.items.items = omega (arith, c.requires.order, there) in
    let seen : slice_get all (from + k) ≡ Some cell =
    sym (get_behind to (from + k) xs all behind)
    ∙ sym (ap (λ (l : Store). slice_get l (from + k)) c.loop-k.invariant.left) ∙ c.byte_at-cell.ensures in
    subst (λ (l : Store). IsWritten w to l v) (sym (range_behind from k all cell seen))
    (written_behind w u v to xs cell (to + k) at inside c.loop-k.invariant c.set_byte.ensures)
