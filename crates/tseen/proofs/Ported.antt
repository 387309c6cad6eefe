-- Lists of channels.
use Rattle.std.proofs.Common.{◌≡◌, ◌≢◌, ℕ, refl, sym, subst, ◌∙◌, Bool, true}
use Rattle.std.proofs.Common.{false, true≢false, List, [], ◌∷◌, ◌⊎◌, inl, inr}
use Rattle.std.proofs.Common.{not, cond}
use Rattle.std.specs.Prelude.{◌==◌, ◌||◌}
use Rattle.std.proofs.lemmas.Bool.{eqb-true, eq-eqb, or_cases, or_left, or_right}
use Rattle.tprocesses.specs.Choosing.{has_port, with_port, without_port}

-- a channel that is left is none that was dropped, and was there
pub without_has : (e channel : ℕ) (ports : List ℕ) → has_port e (without_port channel ports) ≡ true
    → (has_port e ports ≡ true) × (channel ≢ e)
without_has e channel [] h = absurd (true≢false (sym h))
without_has e channel (d ∷ ds) h = by (d == channel) refl (without_has e channel ds) h
  where
    by : (b : Bool) → (d == channel) ≡ b
        → (has_port e (without_port channel ds) ≡ true → (has_port e ds ≡ true) × (channel ≢ e))
        → has_port e (cond (not b) (d ∷ without_port channel ds) (without_port channel ds)) ≡ true
        → (has_port e (d ∷ ds) ≡ true) × (channel ≢ e)
    by true f rest h = (let r = rest h in (or_right (d == e) (has_port e ds) r.0, r.1))
    by false f rest h = of (or_cases (d == e) (has_port e (without_port channel ds)) h) rest
      where
        of : ((d == e) ≡ true) ⊎ (has_port e (without_port channel ds) ≡ true)
            → (has_port e (without_port channel ds) ≡ true → (has_port e ds ≡ true) × (channel ≢ e))
            → (has_port e (d ∷ ds) ≡ true) × (channel ≢ e)
        of (inl g) rest = (
          or_left (d == e) (has_port e ds) g,
          λ i. true≢false (sym (eq-eqb d channel (eqb-true d e g ∙ sym i)) ∙ f),
        )
        of (inr g) rest = (let r = rest g in (or_right (d == e) (has_port e ds) r.0, r.1))

pub has_without : (e channel : ℕ) (ports : List ℕ) → has_port e ports ≡ true → channel ≢ e
    → has_port e (without_port channel ports) ≡ true
has_without e channel [] h other = h
has_without e channel (d ∷ ds) h other = by (d == channel) refl (λ g. has_without e channel ds g other)
  where
    by : (b : Bool) → (d == channel) ≡ b → (has_port e ds ≡ true → has_port e (without_port channel ds) ≡ true)
        → has_port e (cond (not b) (d ∷ without_port channel ds) (without_port channel ds)) ≡ true
    by true f rest = of (or_cases (d == e) (has_port e ds) h) rest
      where
        of : ((d == e) ≡ true) ⊎ (has_port e ds ≡ true)
            → (has_port e ds ≡ true → has_port e (without_port channel ds) ≡ true)
            → has_port e (without_port channel ds) ≡ true
        of (inl g) rest = absurd (other (sym (eqb-true d channel f) ∙ eqb-true d e g))
        of (inr g) rest = rest g
    by false f rest = of (or_cases (d == e) (has_port e ds) h) rest
      where
        of : ((d == e) ≡ true) ⊎ (has_port e ds ≡ true)
            → (has_port e ds ≡ true → has_port e (without_port channel ds) ≡ true)
            → ((d == e) || has_port e (without_port channel ds)) ≡ true
        of (inl g) rest = or_left (d == e) _ g
        of (inr g) rest = or_right (d == e) _ (rest g)

-- one more channel
pub with_has : (e channel : ℕ) (ports : List ℕ) → has_port e (with_port channel ports) ≡ true
    → (channel ≡ e) ⊎ (has_port e ports ≡ true)
with_has e channel ports h = by (has_port channel ports) h
  where
    by : (b : Bool) → has_port e (cond b ports (channel ∷ ports)) ≡ true → (channel ≡ e) ⊎ (has_port e ports ≡ true)
    by true h = inr h
    by false h = of (or_cases (channel == e) (has_port e ports) h)
      where
        of : ((channel == e) ≡ true) ⊎ (has_port e ports ≡ true) → (channel ≡ e) ⊎ (has_port e ports ≡ true)
        of (inl g) = inl (eqb-true channel e g)
        of (inr g) = inr g

pub has_with : (e channel : ℕ) (ports : List ℕ) → (channel ≡ e) ⊎ (has_port e ports ≡ true)
    → has_port e (with_port channel ports) ≡ true
has_with e channel ports h = by (has_port channel ports) refl h
  where
    by : (b : Bool) → has_port channel ports ≡ b → (channel ≡ e) ⊎ (has_port e ports ≡ true)
        → has_port e (cond b ports (channel ∷ ports)) ≡ true
    by true f (inl g) = subst (λ z. has_port z ports ≡ true) g f
    by true f (inr g) = g
    by false f (inl g) = or_left (channel == e) (has_port e ports) (eq-eqb channel e g)
    by false f (inr g) = or_right (channel == e) (has_port e ports) g
