-- A run without a race by fewer leads has none.
use Rattle.std.proofs.Common.{◌≡◌, Bool, true, List, [], ◌∷◌, inl, inr}
use Rattle.tagents.specs.Agents.{Agents}
use Rattle.tagents.specs.Races.{OneComesBefore, HasNoRace, IsRaceFree, with_leads, FewerLeadsAreEnough}

module _ {State Agent Label : Type 0} (m : Agents State Agent Label) (leads : Label → Label → Bool)
    (fewer : (e f : Label) → leads e f ≡ true → m.leads e f ≡ true) where
  one_before : (known : List Label) (f : Label) → OneComesBefore (with_leads m leads) known f
      → OneComesBefore m known f
  one_before [] f one = absurd one
  one_before (z ∷ zs) f (inl (inl same)) = inl (inl same)
  one_before (z ∷ zs) f (inl (inr led)) = inl (inr (fewer z f led))
  one_before (z ∷ zs) f (inr there) = inr (one_before zs f there)

  no_race : (e : Label) (known later : List Label) → HasNoRace (with_leads m leads) e known later
      → HasNoRace m e known later
  no_race e known [] h = tt
  no_race e known (f ∷ fs) (inl h) = inl (one_before known f h.0, no_race e (f ∷ known) fs h.1)
  no_race e known (f ∷ fs) (inr h) = inr (h.0, no_race e known fs h.1)

  pub race_free : (steps : List Label) → IsRaceFree (with_leads m leads) steps → IsRaceFree m steps
  race_free [] h = tt
  race_free (e ∷ es) h = (no_race e (e ∷ []) es h.0, race_free es h.1)

pub fewer_leads_are_enough : (State Agent Label : Type 0) → FewerLeadsAreEnough State Agent Label
fewer_leads_are_enough State Agent Label m leads steps fewer h = race_free m leads fewer steps h
