-- Memories in which nothing was loaded.
use Rattle.std.proofs.Common.{◌≡◌, ◌≤◌, ℕ, ◌+◌, ◌^◌, ◌*◌, ◌/◌, ◌%◌, ap, sym, subst, ◌∙◌, arith, List, length, replicate}
use Rattle.std.proofs.lemmas.List.{length-replicate}
use Rattle.tword.specs.declared.kind.Kind.{Kind}
use Rattle.tword.specs.declared.kind.Kind.TheVariants.{One, Two}
use Rattle.tword.specs.Accesses.{IsMemorySize}
use Rattle.tcertify.specs.declared.stored.StoredWord.{StoredWord}

-- what any kind may have kind 2 may have
fits_two : (kind : Kind) (size : ℕ) → IsMemorySize kind size → IsMemorySize Two size
fits_two One size (low, high, whole) = (low, omega arith, whole)
fits_two Two size h = h

-- as many words as there are
pub count_is : (words : List StoredWord) (x : StoredWord) (kind : Kind) (size : ℕ) → IsMemorySize kind size
    → words ≡ replicate (size / 4) x → 4 * length words ≡ size
count_is words x kind size h e =
    let n : length words ≡ size / 4 = ap length e ∙ length-replicate (size / 4) x in
    let whole : size % 4 ≡ 0 = h.2 in
    omega arith

pub sized : (words : List StoredWord) (x : StoredWord) (kind : Kind) (size : ℕ) → IsMemorySize kind size
    → words ≡ replicate (size / 4) x → IsMemorySize Two (4 * length words)
sized words x kind size h e = subst (IsMemorySize Two) (sym (count_is words x kind size h e)) (fits_two kind size h)

-- as many places as there are words
pub places_fit : (words : List StoredWord) (x : StoredWord) (size first : ℕ) → first + size / 4 ≤ 2 ^ 32
    → words ≡ replicate (size / 4) x → first + length words ≤ 2 ^ 32
places_fit words x size first h e =
    subst (λ (n : ℕ). first + n ≤ 2 ^ 32) (sym (ap length e ∙ length-replicate (size / 4) x)) h
