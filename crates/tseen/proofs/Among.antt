-- Whether a workspace is among some.
use Rattle.std.proofs.Common.{◌≡◌, ℕ, ◌+◌, refl, sym, ◌∙◌, List, [], ◌∷◌, ◌++◌, Bool, true, false, true≢false, cond}
use Rattle.std.proofs.Common.{arith, ◌⊎◌, inl, inr}
use Rattle.std.specs.Prelude.{◌==◌}
use Rattle.std.proofs.lemmas.Bool.{eq-eqb, eqb-true, or_cases, or_left, or_right}
use Rattle.std.proofs.lemmas.List.Folds.{list_any-append}
use Rattle.std.proofs.lemmas.List.Sums.{sum_by-cons, sum_by-append}
use Rattle.tproc.specs.ProcessStatus.{is_among}
use Rattle.tproc.proofs.Occurs.{occurs}
use Rattle.tseen.proofs.Counted.{count_at}

-- one more at the back
pub among_more : (v w : ℕ) (ws : List ℕ) → is_among v ws ≡ true → is_among v (ws ++ w ∷ []) ≡ true
among_more v w ws h = list_any-append (λ a. a == v) ws (w ∷ []) ∙ or_left (is_among v ws) _ h

pub among_new : (w : ℕ) (ws : List ℕ) → is_among w (ws ++ w ∷ []) ≡ true
among_new w ws =
    list_any-append (λ a. a == w) ws (w ∷ [])
    ∙ or_right (is_among w ws) _ (or_left (w == w) false (eq-eqb w w refl))

pub among_were : (v w : ℕ) (ws : List ℕ) → is_among v (ws ++ w ∷ []) ≡ true → (is_among v ws ≡ true) ⊎ (v ≡ w)
among_were v w ws h = by (or_cases _ _ (sym (list_any-append (λ a. a == v) ws (w ∷ [])) ∙ h))
  where
    of : ((w == v) ≡ true) ⊎ (false ≡ true) → v ≡ w
    of (inl e) = sym (eqb-true _ _ e)
    of (inr e) = absurd (true≢false (sym e))

    by : (is_among v ws ≡ true) ⊎ (is_among v (w ∷ []) ≡ true) → (is_among v ws ≡ true) ⊎ (v ≡ w)
    by (inl e) = inl e
    by (inr e) = inr (of (or_cases (w == v) false e))

-- a workspace that nobody has
pub none_among : (w : ℕ) (ws : List ℕ) → count_at w ws ≡ 0 → is_among w ws ≡ false
none_among w [] e = refl
none_among w (v ∷ vs) e =
    by (v == w) refl (none_among w vs) (sym (sum_by-cons (λ z. cond (z == w) 1 0) v vs) ∙ e)
  where
    by : (b : Bool) → (v == w) ≡ b → (count_at w vs ≡ 0 → is_among w vs ≡ false)
        → cond (v == w) 1 0 + count_at w vs ≡ 0 → is_among w (v ∷ vs) ≡ false
    by true f rest g = let h : 1 + count_at w vs ≡ 0 = rw f at g in absurd (omega (arith, h))
    by false f rest g =
        let h : 0 + count_at w vs ≡ 0 = rw f at g in
        rw f (rest (omega (arith, h)))

-- how many have a workspace, by how often it stands there
pub count_is : (w : ℕ) (ws : List ℕ) → count_at w ws ≡ occurs w ws
count_is w [] = refl
count_is w (v ∷ vs) = sum_by-append (λ a. cond (a == w) 1 0) (v ∷ []) vs ∙ omega (arith, count_is w vs)
