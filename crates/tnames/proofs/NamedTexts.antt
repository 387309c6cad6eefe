-- The parts of texts with names.
use Rattle.std.proofs.Common.{◌≡◌, ◌≢◌, ◌∙◌, sym, ap, refl, ℕ, zero, suc, ◌+◌, List, [], ◌∷◌, ◌++◌, append-nil}
use Rattle.std.proofs.Common.{flat_map, codes, decimal}
use Rattle.std.proofs.Common.{add-one, add-zero, arith, length}
use Rattle.std.specs.List.{range_with_len}
use Rattle.std.proofs.lemmas.Grind.{flat_map-append}
use Rattle.tfiles.specs.Logs.{line}
use Rattle.tnames.specs.declared.names.Name.{Name}
use Rattle.tnames.specs.Texts.{name_text, label_at, named_byte, named_text}

pub name-above : (name : List ℕ) (n : ℕ) → n ≢ 0 → name ++ (codes "+" ++ decimal n) ≡ name_text name n
name-above name zero h = absurd (h refl)
name-above name (suc n) h = refl

pub name-there : (name : List ℕ) (n : ℕ) → n ≡ 0 → name ≡ name_text name n
name-there name zero h = refl
name-there name (suc n) h = absurd (omega (arith, h))

pub label-there : (name : List ℕ) (n : ℕ) → n ≡ 0 → line (name ++ codes ":") ≡ label_at name n
label-there name zero h = refl
label-there name (suc n) h = absurd (omega (arith, h))

pub label-above : (name : List ℕ) (n : ℕ) → n ≢ 0 → [] ≡ label_at name n
label-above name zero h = absurd (h refl)
label-above name (suc n) h = refl

-- one more number
range-more : (a n : ℕ) → range_with_len a (suc n) ≡ range_with_len a n ++ (a + n) ∷ []
range-more a zero = rw add-zero refl
range-more a (suc n) =
    let e : a + 1 + n ≡ a + suc n = omega arith in
    ap (λ (xs : List ℕ). a ∷ xs) (range-more (a + 1) n ∙ ap (λ (k : ℕ). range_with_len (a + 1) n ++ k ∷ []) e)

-- the text of the first n bytes
abbrev pub named_first : List Name → List ℕ → ℕ → List ℕ
named_first names text n = flat_map (named_byte names text) (range_with_len 0 n)

pub named-more : (names : List Name) (text : List ℕ) (n : ℕ)
    → named_first names text n ++ named_byte names text n ≡ named_first names text (n + 1)
named-more names text n =
    let e : 0 + n ≡ n = omega arith in
    ap (λ (xs : List ℕ). named_first names text n ++ xs) (sym (append-nil (named_byte names text n)))
    ∙ ap (λ (k : ℕ). named_first names text n ++ (named_byte names text k ++ [])) (sym e)
    ∙ sym (flat_map-append (named_byte names text) (range_with_len 0 n) ((0 + n) ∷ []))
    ∙ ap (flat_map (named_byte names text)) (sym (range-more 0 n))
    ∙ ap (named_first names text) (sym (add-one n))

pub named-all : (names : List Name) (text : List ℕ) (n : ℕ) → n ≡ length text
    → named_first names text n ≡ named_text names text
unfolding named_text
named-all names text n e = ap (named_first names text) e
