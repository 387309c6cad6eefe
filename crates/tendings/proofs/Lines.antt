-- The lines of a text, cut off one after another, and beside those of another text.
use Rattle.std.proofs.Common.{◌≡◌, ◌<◌, ◌==◌, ◌-◌, ℕ, suc, refl, ap, ap₂, sym, ◌∙◌, subst, Bool, cond, true}
use Rattle.std.proofs.Common.{false, arith, List, [], ◌∷◌, ◌++◌, length, take, drop}
use Rattle.std.proofs.lemmas.List.{take_all, length-drop}
use Rattle.std.proofs.lemmas.Bool.{eqb-false, eqb-true, ne_eqb}
use Rattle.tendings.specs.Differences.{agree_elsewhere, change_text, differing, heading_behind}
use Rattle.tendings.specs.Differences.{line_length, onto_line, text_lines}

-- ---- of one text

-- the first line, and those behind it
cut : (t : List ℕ) → 0 < length t → text_lines t ≡ take (line_length t) t ∷ text_lines (drop (line_length t) t)
cut [] lt = absurd (omega arith)
cut (b ∷ bs) lt = by (b == 10) bs (cut bs)
  where
    by : (e : Bool) (bs : List ℕ)
        → (0 < length bs → text_lines bs ≡ take (line_length bs) bs ∷ text_lines (drop (line_length bs) bs))
        → cond e ((b ∷ []) ∷ text_lines bs) (onto_line b (text_lines bs))
        ≡ take (cond e 1 (suc (line_length bs))) (b ∷ bs)
        ∷ text_lines (drop (cond e 1 (suc (line_length bs))) (b ∷ bs))
    by true bs h = refl
    by false [] h = refl
    by false (c ∷ cs) h = ap (onto_line b) (h (omega arith))

-- all that is left is kept
behind : (t : List ℕ) (n : ℕ) → take (length t - n) (drop n t) ≡ drop n t
behind t n = take_all (length t - n) (drop n t) (omega (arith, length-drop n t))

pub cut_at : (t : List ℕ) (n : ℕ) → 0 < length t → n ≡ line_length t
    → text_lines t ≡ take n t ∷ text_lines (take (length t - n) (drop n t))
cut_at t n lt is =
    subst (λ m. text_lines t ≡ take m t ∷ text_lines (drop m t)) (sym is) (cut t lt)
    ∙ ap (λ u. take n t ∷ text_lines u) (sym (behind t n))

-- the first line is not empty
some : (t : List ℕ) → 0 < length t → 0 < line_length t
some [] lt = absurd (omega arith)
some (b ∷ bs) lt = by (b == 10)
  where
    by : (e : Bool) → 0 < cond e 1 (suc (line_length bs))
    by true = omega arith
    by false = omega arith

pub shorter : (t : List ℕ) (n : ℕ) → 0 < length t → n ≡ line_length t
    → length (take (length t - n) (drop n t)) < length t
shorter t n lt is =
    let first = some t lt in
    omega (arith, ap length (behind t n), length-drop n t, first, is)

-- ---- of two

-- the other one is at its end
pub agree_over : (t u : List ℕ) (whole : Bool) → 0 < length t → length u ≡ 0
    → agree_elsewhere (text_lines t) (text_lines u) ≡ whole → false ≡ whole
agree_over [] u whole lt none h = absurd (omega arith)
agree_over (b ∷ bs) (c ∷ cs) whole lt none h = absurd (omega arith)
agree_over (b ∷ bs) [] whole lt none h = sym (ap (λ ls. agree_elsewhere ls []) (cut (b ∷ bs) lt)) ∙ h

-- the first one is
pub agree_end : (t u : List ℕ) (whole : Bool) → length t ≡ 0
    → agree_elsewhere (text_lines t) (text_lines u) ≡ whole → (length u == 0) ≡ whole
agree_end (b ∷ bs) u whole none h = absurd (omega arith)
agree_end [] [] whole none h = h
agree_end [] (c ∷ cs) whole none h =
    ne_eqb (suc (length cs)) 0 (λ e. omega arith) ∙ (sym (ap (agree_elsewhere []) (cut (c ∷ cs) (omega arith))) ∙ h)

-- what is printed of two lines, and of those behind them
pub differing_next : (heading : List ℕ) (t u : List ℕ) (a b : List ℕ) (ls ms : List (List ℕ))
    → text_lines t ≡ a ∷ ls → text_lines u ≡ b ∷ ms
    → differing heading (text_lines t) (text_lines u)
    ≡ change_text heading a b ++ differing (heading_behind heading a b) ls ms
differing_next heading t u a b ls ms p q = ap₂ (differing heading) p q

pub differing_over : (heading : List ℕ) (t u : List ℕ) → 0 < length t → length u ≡ 0
    → differing heading (text_lines t) (text_lines u) ≡ []
differing_over heading [] u lt none = absurd (omega arith)
differing_over heading (b ∷ bs) (c ∷ cs) lt none = absurd (omega arith)
differing_over heading (b ∷ bs) [] lt none = ap (λ ls. differing heading ls []) (cut (b ∷ bs) lt)

-- ---- what tests say

pub is_nonempty : (b : Bool) (t : List ℕ) → b ≡ (length t == 0) → b ≡ false → 0 < length t
is_nonempty b t is e = let some_byte = eqb-false (length t) 0 (sym is ∙ e) in omega (arith, some_byte)

pub is_nothing : (b : Bool) (t : List ℕ) → b ≡ (length t == 0) → b ≡ true → length t ≡ 0
is_nothing b t is e = eqb-true (length t) 0 (sym is ∙ e)
