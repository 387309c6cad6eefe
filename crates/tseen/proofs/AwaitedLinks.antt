-- The input of a link stays what it was where a process that has enabled it waits for it, or goes on by it.
use Rattle.std.proofs.Common.{None, true≢false, Some}
use Rattle.tproc.specs.declared.offer.Offer.{Offer}
use Rattle.tseen.specs.Halves.{IsInput}
use Rattle.std.proofs.Common.{◌≡◌, refl, sym, ap, ◌∙◌, Bool, true, false, ◌⊎◌, inl, inr, Option}
use Rattle.tprocesses.specs.Places.{Name}
use Rattle.tprocesses.specs.Values.{Value, Request}
use Rattle.tprocesses.specs.Values.{link_in, Offered, Enabled, Awaited, Fired, IsLink}
use Rattle.tseen.specs.Choices.{link_enabler, unfired}
use Rattle.tseen.specs.Seats.{Seat}

-- the input of a link stays, or who has enabled it waits for it, or goes on by it where a byte was noticed
abbrev pub IsLinkAwaitedNow : (noticed : Bool) → Value → Value → Type 0
IsLinkAwaitedNow noticed v w =
    (w ≡ v) ⊎ ((x : Name) × (v ≡ IsLink (Enabled x))
    × ((w ≡ IsLink (Awaited x)) ⊎ ((w ≡ IsLink (Fired x)) × (noticed ≡ true))))

-- what this leaves of such an input
module _ (noticed : Bool) (v w : Value) where
  pub enabler_still : IsLinkAwaitedNow noticed v w → link_enabler (link_in w) ≡ link_enabler (link_in v)
  enabler_still (inl e) = ap (λ (z : Value). link_enabler (link_in z)) e
  enabler_still (inr (x, e, inl f)) =
      ap (λ (z : Value). link_enabler (link_in z)) f ∙ sym (ap (λ (z : Value). link_enabler (link_in z)) e)
  enabler_still (inr (x, e, inr f)) =
      ap (λ (z : Value). link_enabler (link_in z)) f.0 ∙ sym (ap (λ (z : Value). link_enabler (link_in z)) e)

  pub unfired_still : noticed ≡ false → IsLinkAwaitedNow noticed v w → unfired (link_in w) ≡ unfired (link_in v)
  unfired_still h (inl e) = ap (λ (z : Value). unfired (link_in z)) e
  unfired_still h (inr (x, e, inl f)) =
      ap (λ (z : Value). unfired (link_in z)) f ∙ sym (ap (λ (z : Value). unfired (link_in z)) e)
  unfired_still h (inr (x, e, inr f)) = absurd (true≢false (sym f.1 ∙ h))

  pub awaited_still : (x : Name) → link_in v ≡ Awaited x → IsLinkAwaitedNow noticed v w → link_in w ≡ Awaited x
  awaited_still x h (inl e) = ap link_in e ∙ h
  awaited_still x h (inr (y, e, f)) = absurd (differ (sym (ap link_in e) ∙ h))
    where
      differ : Enabled y ≡ Awaited x → ⊥
      differ g = cc

  pub fired_still : (x : Name) → w ≡ IsLink (Fired x) → (v ≡ IsLink (Fired x) → noticed ≡ true)
      → IsLinkAwaitedNow noticed v w → noticed ≡ true
  fired_still x h before (inl e) = before (sym e ∙ h)
  fired_still x h before (inr (y, e, inl f)) = absurd (differ (sym f ∙ h))
    where
      differ : IsLink (Awaited y) ≡ IsLink (Fired x) → ⊥
      differ g = cc
  fired_still x h before (inr (y, e, inr f)) = f.1

  pub input_still : (named : Seat → Name) (o : Option Offer) → IsInput named o v → IsLinkAwaitedNow noticed v w
      → IsInput named o w
  input_still named None (h, e, f) (inl g) = (h, g ∙ e, f)
  input_still named None h (inr (x, e, inl f)) = (Awaited x, f, refl)
  input_still named None h (inr (x, e, inr f)) = (Fired x, f.0, refl)
  input_still named (Some o) h (inl g) = g ∙ h
  input_still named (Some o) h (inr (x, e, f)) = absurd (differ (sym e ∙ h))
    where
      differ : {q : Request} → IsLink (Enabled x) ≡ IsLink (Offered q) → ⊥
      differ g = cc
