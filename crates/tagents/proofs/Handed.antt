-- Ends are handed on: what is chained to a step is chained to all that the step is chained to.
use Rattle.std.proofs.Common.{ℕ, zero, suc, ◌≡◌, refl, subst, Bool, true, false}
use Rattle.std.proofs.Common.{List, [], ◌∷◌, ◌++◌, inl, inr}
use Rattle.std.specs.Prelude.{if◌then◌else◌}
use Rattle.tagents.specs.Agents.{Agents}
use Rattle.tagents.specs.Chains.{IsChained}
use Rattle.tagents.specs.Crowds.{HaveEnded, EndsAreHandedOn}
use Rattle.tagents.proofs.Fronted.{test}
use Rattle.tagents.proofs.Crowded.{skipped}

module _ {State Agent Label : Type 0} (m : Agents State Agent Label) where
  -- one chain after another
  onward : (z e f : Label) (zs between : List Label) → IsChained m z zs e → IsChained m e between f
      → IsChained m z (zs ++ e ∷ between) f
  onward z e f [] between c d = inl (c, d)
  onward z e f (y ∷ ys) between (inl c) d = inl (c.0, onward y e f ys between c.1 d)
  onward z e f (y ∷ ys) between (inr c) d = inr (onward z e f ys between c d)

  module _ (ends : Label → Bool) where
    own_end : (e f : Label) (between : List Label) → IsChained m e between f
        → HaveEnded m ends (e ∷ between) f (if ends e then 1 else 0)
    own_end e f between c =
        elim (test (ends e)) as (λ _. HaveEnded m ends (e ∷ between) f (if ends e then 1 else 0)) [
          | inl b ↦ (let one : HaveEnded m ends (e ∷ between) f 1 = inl (b, c, tt) in rw b one)
          | inr b ↦ (let none : HaveEnded m ends (e ∷ between) f 0 = tt in rw b none)
        ]

    one_more : (b : Bool) (n : ℕ) → suc (if b then suc n else n) ≡ (if b then suc (suc n) else suc n)
    one_more true n = refl
    one_more false n = refl

    pub handed_on : (earlier between : List Label) (e f : Label) (n : ℕ) → HaveEnded m ends earlier e n
        → IsChained m e between f → HaveEnded m ends (earlier ++ e ∷ between) f (if ends e then suc n else n)
    handed_on [] between e f zero h c = own_end e f between c
    handed_on [] between e f (suc n) h c = absurd h
    handed_on (z ∷ zs) between e f zero h c =
        skipped m ends z f (zs ++ e ∷ between) (if ends e then 1 else 0) (handed_on zs between e f zero tt c)
    handed_on (z ∷ zs) between e f (suc n) (inl h) c =
        let more : HaveEnded m ends (z ∷ (zs ++ e ∷ between)) f (suc (if ends e then suc n else n)) =
        inl (h.0, onward z e f zs between h.1 c, handed_on zs between e f n h.2 c) in
        subst (HaveEnded m ends (z ∷ (zs ++ e ∷ between)) f) (one_more (ends e) n) more
    handed_on (z ∷ zs) between e f (suc n) (inr h) c =
        skipped m ends z f (zs ++ e ∷ between) (if ends e then suc (suc n) else suc n)
        (handed_on zs between e f (suc n) h c)

pub ends_are_handed_on : (State Agent Label : Type 0) → EndsAreHandedOn State Agent Label
ends_are_handed_on State Agent Label m ends earlier between e f n h c = handed_on m ends earlier between e f n h c
