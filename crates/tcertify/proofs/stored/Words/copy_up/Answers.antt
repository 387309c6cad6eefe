use Rattle.std.proofs.Common.{◌≡◌, ◌<◌, ℕ, suc, ◌+◌, ◌-◌, ◌*◌, ◌∷◌, sym, subst, ap, ◌∙◌, length, arith, Option, Some}
use Rattle.std.specs.Prelude.{slice_get, slice_range}
use Rattle.tword.specs.Stores.{Store}
use Rattle.tcertify.specs.Spans.{IsWritten, bytes_in}
use Rattle.tcertify.proofs.Splices.{get_before, range_before, range_none}
use Rattle.tcertify.proofs.Written.{none_written, written_before}
use Rattle.tcertify.proofs.stored.Words.copy_up.Goals as goal

pub loop-k-init : goal.loop-k-init
loop-k-init c =
    let w = c.args.self.now in let size : ℕ = c.args.size in let from : ℕ = c.args.from in
    let all : Store = bytes_in w.items.items in
    let same : from + size ≡ from + (size - 0) + 0 = omega arith in
    subst (λ (xs : Store). IsWritten w (c.args.to + (size - 0)) xs w)
    (sym (ap (slice_range all (from + (size - 0))) same ∙ range_none (from + (size - 0)) all))
    (none_written w (c.args.to + (size - 0)))

pub loop-k-preserved : goal.loop-k-preserved
loop-k-preserved c =
    let w = c.args.self.now in let u = c.loop-k.self in let v = c.set_byte.new.self in
    let from : ℕ = c.args.from in let to : ℕ = c.args.to in let k : ℕ = c.loop-k.k in let size : ℕ = c.args.size in
    let all : Store = bytes_in w.items.items in
    let xs : Store = slice_range all (from + (size - k)) (from + size) in
    let cell : Option ℕ = c.byte_at-cell.result in
    let low : k < size = omega (arith, c.loop-k-test.true) in
    let left : ℕ = size - 1 - k in
    let before : from + left < to + (size - k) = omega (arith, c.requires.order) in
    let more : to + (size - k) ≡ to + left + 1 = omega arith in
    let lower : left < size = omega arith in
    let inside : to + left < 4 * length w.items.items = c.requires.inside left lower in
    let seen : slice_get all (from + left) ≡ Some cell =
    sym (get_before (to + (size - k)) (from + left) xs all before)
    ∙ sym (ap (λ (l : Store). slice_get l (from + left)) c.loop-k.invariant.left) ∙ c.byte_at-cell.ensures in
    let next : from + (size - k) ≡ suc (from + left) = omega arith in
    let short : from + left < from + size = omega arith in
    let place : to + left ≡ to + (size - (k + 1)) = omega arith in
    let start : from + left ≡ from + (size - (k + 1)) = omega arith in
    let list : slice_range all (from + left) (from + size) ≡ cell ∷ xs =
    range_before (from + left) (from + size) all cell seen short
    ∙ ap (λ (n : ℕ). cell ∷ slice_range all n (from + size)) (sym next) in
    subst (λ (n : ℕ). IsWritten w n (slice_range all (from + (size - (k + 1))) (from + size)) v) place
    (subst (λ (n : ℕ). IsWritten w (to + left) (slice_range all n (from + size)) v) start
    (subst (λ (l : Store). IsWritten w (to + left) l v) (sym list)
    (written_before w u v (to + left) xs cell (to + (size - k)) more inside c.loop-k.invariant c.set_byte.ensures)))
