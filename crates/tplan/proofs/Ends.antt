-- Ends.
use Rattle.std.proofs.Common.{◌≡◌, ◌≢◌, ℕ, refl, sym, ap, ◌∙◌, Bool, true, false, ◌⊎◌, inl, inr}
use Rattle.std.specs.Prelude.{◌==◌}
use Rattle.std.proofs.lemmas.Bool.{cases_eq, and_parts, and_from, eqb-true, eq-eqb}
use Rattle.tplan.specs.declared.plan.End.{End}
use Rattle.tplan.specs.Wires.{end_at, same_end}

-- two ends of the same node and link are the same
pub end_same : (e f : End) → e.node ≡ f.node → e.link ≡ f.link → e ≡ f
end_same e f p q = ap (λ (m : ℕ). end_at m e.link) p ∙ ap (λ (k : ℕ). end_at f.node k) q

-- ends that the test finds the same are equal
pub same_end-true : (e f : End) → same_end e f ≡ true → e ≡ f
same_end-true e f h =
    let both : ((e.node == f.node) ≡ true) × ((e.link == f.link) ≡ true) = and_parts _ _ h in
    end_same e f (eqb-true _ _ both.0) (eqb-true _ _ both.1)

-- an end is the same as itself
pub same_end-self : (e : End) → same_end e e ≡ true
same_end-self e = and_from _ _ (eq-eqb e.node e.node refl) (eq-eqb e.link e.link refl)

-- ends that the test tells apart differ
pub same_end-false : (e f : End) → same_end e f ≡ false → e ≢ f
same_end-false e f h q = let p : true ≡ false = sym (same_end-self f) ∙ rw q at h in cc

-- two ends are the same, or not
pub cases_end : (e f : End) → (e ≡ f) ⊎ (e ≢ f)
cases_end e f = by (same_end e f) refl
  where
    by : (b : Bool) → same_end e f ≡ b → (e ≡ f) ⊎ (e ≢ f)
    by true h = inl (same_end-true e f h)
    by false h = inr (same_end-false e f h)

-- ends that differ have other nodes or other links
pub other_part : (e f : End) → f ≢ e → (f.node ≢ e.node) ⊎ (f.link ≢ e.link)
other_part e f h = by (cases_eq f.node e.node)
  where
    by : (f.node ≡ e.node) ⊎ (f.node ≡ e.node → ⊥) → (f.node ≢ e.node) ⊎ (f.link ≢ e.link)
    by (inl p) = inr (λ q. h (end_same f e p q))
    by (inr p) = inl p
