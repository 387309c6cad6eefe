-- Chains of steps, and what they tell of races.
use Rattle.std.proofs.Common.{◌≡◌, sym, ◌∙◌, refl, subst, true, false, true≢false, List, [], ◌∷◌, ◌++◌}
use Rattle.std.proofs.Common.{◌⊎◌, inl, inr, reverse, append-nil}
use Rattle.tagents.specs.Agents.{Agents}
use Rattle.tagents.specs.Races.{ComesBefore, OneComesBefore, HasNoRace, IsRaceFree}
use Rattle.tagents.specs.Chains.{AreChained, ChainsTellRaces}
use Rattle.tagents.proofs.Fronted.{test}
use Rattle.tagents.proofs.Parts.{turned, no_place}
use Rattle.tagents.proofs.Traced.{IsTraced, traces_lead, chains_lead}

-- the parts of a list that is not empty
pub first_same : {A : Type 0} (x y : A) (xs ys : List A) → x ∷ xs ≡ y ∷ ys → x ≡ y
first_same x y xs ys e = cc

pub rest_same : {A : Type 0} (x y : A) (xs ys : List A) → x ∷ xs ≡ y ∷ ys → xs ≡ ys
rest_same x y xs ys e = cc

module _ {State Agent Label : Type 0} (m : Agents State Agent Label) where
  -- two chains, one after the other
  pub joined : (e : Label) (between : List Label) (g : Label) (since : List Label) (f : Label)
      → IsTraced m e between g → IsTraced m g since f → IsTraced m e (since ++ g ∷ between) f
  joined e between g [] f c d = inr (c, d)
  joined e between g (h ∷ since) f c (inl d) = inl (joined e between g since f c d)
  joined e between g (h ∷ since) f c (inr d) = inr (joined e between g since h c d.0, d.1)

  -- of a run its beginning
  pub beginning : (P : Label → Label → Type 0) (since earlier : List Label) → AreChained m P (since ++ earlier)
      → AreChained m P earlier
  beginning P [] earlier c = c
  beginning P (g ∷ since) earlier c = beginning P since earlier c.1

  -- one of these comes before the step, or none
  one_or_none : (known : List Label) (f : Label) → OneComesBefore m known f ⊎ (OneComesBefore m known f → ⊥)
  one_or_none [] f = inr (λ one. one)
  one_or_none (z ∷ zs) f =
      elim (test (m.same (m.agent_of z) (m.agent_of f))) as
      (λ _. OneComesBefore m (z ∷ zs) f ⊎ (OneComesBefore m (z ∷ zs) f → ⊥)) [
        | inl same ↦ inl (inl (inl same))
        | inr other ↦ elim (test (m.leads z f)) as
            (λ _. OneComesBefore m (z ∷ zs) f ⊎ (OneComesBefore m (z ∷ zs) f → ⊥)) [
              | inl led ↦ inl (inl (inr led))
              | inr apart ↦ elim (one_or_none zs f) as
                  (λ _. OneComesBefore m (z ∷ zs) f ⊎ (OneComesBefore m (z ∷ zs) f → ⊥)) [
                    | inl one ↦ inl (inr one)
                    | inr none ↦ inr (neither other apart none)
                  ]
            ]
      ]
    where
      neither : m.same (m.agent_of z) (m.agent_of f) ≡ false → m.leads z f ≡ false → (OneComesBefore m zs f → ⊥)
          → OneComesBefore m (z ∷ zs) f → ⊥
      neither other apart none (inl (inl same)) = true≢false (sym same ∙ other)
      neither other apart none (inl (inr led)) = true≢false (sym led ∙ apart)
      neither other apart none (inr one) = none one

  abbrev Clash : Label → Label → Type 0
  Clash e f = m.clash e f ≡ true

  -- where clashes are chained, each step has no race: the known steps are those to which chains lead
  no_race : (e : Label) (before passed known later : List Label)
      → ((f : Label) → IsTraced m e passed f → OneComesBefore m known f)
      → AreChained m Clash (reverse later ++ (passed ++ e ∷ before)) → HasNoRace m e known later
  no_race e before passed known [] covers c = tt
  no_race e before passed known (f ∷ fs) covers c =
      let here : AreChained m Clash (reverse fs ++ f ∷ (passed ++ e ∷ before)) =
      subst (AreChained m Clash) (sym (turned f fs (passed ++ e ∷ before))) c in
      elim (one_or_none known f) as (λ _. HasNoRace m e known (f ∷ fs)) [
        | inl one ↦ inl (
          one,
          no_race e before (f ∷ passed) (f ∷ known) fs (more one) here,
        )
        | inr none ↦ elim (test (m.clash e f)) as (λ _. HasNoRace m e known (f ∷ fs)) [
          | inl clash ↦ absurd (none (covers f
              (traces_lead m (λ e. Clash e f) (passed ++ e ∷ before) f
              (beginning Clash (reverse fs) (f ∷ (passed ++ e ∷ before)) here).0 e passed before refl clash)))
          | inr calm ↦ inr (calm, no_race e before (f ∷ passed) known fs (still none) here)
        ]
      ]
    where
      more : OneComesBefore m known f → (g : Label) → IsTraced m e (f ∷ passed) g → OneComesBefore m (f ∷ known) g
      more one g (inl c) = inr (covers g c)
      more one g (inr c) = inl c.1

      still : (OneComesBefore m known f → ⊥) → (g : Label) → IsTraced m e (f ∷ passed) g → OneComesBefore m known g
      still none g (inl c) = covers g c
      still none g (inr c) = absurd (none (covers f c.0))

  race_free : (earlier later : List Label) → AreChained m Clash (reverse later ++ earlier) → IsRaceFree m later
  race_free earlier [] c = tt
  race_free earlier (e ∷ es) c =
      let here : AreChained m Clash (reverse es ++ e ∷ earlier) =
      subst (AreChained m Clash) (sym (turned e es earlier)) c in (
        no_race e earlier [] (e ∷ []) es (λ f b. inl b) here,
        race_free (e ∷ earlier) es here,
      )

  -- what is left to see of an earlier step: it has no race, and chains lead from it to those that are known
  record IsOpen (e : Label) (between later : List Label) : Type 0 where
    known : List Label
    calm : HasNoRace m e known later
    chained : (f : Label) → OneComesBefore m known f → IsTraced m e between f

  abbrev AreOpen : (earlier later : List Label) → Type 0
  AreOpen earlier later =
      (e : Label) (between before : List Label) → earlier ≡ between ++ e ∷ before → IsOpen e between later

  -- the next step
  passed_one : (e : Label) (between : List Label) (f : Label) (fs : List Label) → IsOpen e between (f ∷ fs)
      → (m.clash e f ≡ true → IsTraced m e between f) × IsOpen e (f ∷ between) fs
  passed_one e between f fs is = go is.calm
    where
      go : HasNoRace m e is.known (f ∷ fs)
          → (m.clash e f ≡ true → IsTraced m e between f) × IsOpen e (f ∷ between) fs
      go (inl h) = (
        λ clash. is.chained f h.0,
        record { known = f ∷ is.known; calm = h.1; chained = chained },
      )
        where
          chained : (g : Label) → OneComesBefore m (f ∷ is.known) g → IsTraced m e (f ∷ between) g
          chained g (inl b) = inr (is.chained f h.0, b)
          chained g (inr one) = inl (is.chained g one)
      go (inr h) = (
        λ clash. absurd (true≢false (sym clash ∙ h.0)),
        record { known = is.known; calm = h.1; chained = λ g one. inl (is.chained g one) },
      )

  -- the step itself
  opened : (e : Label) (later : List Label) → HasNoRace m e (e ∷ []) later → IsOpen e [] later
  opened e later h = record { known = e ∷ []; calm = h; chained = chained }
    where
      chained : (f : Label) → OneComesBefore m (e ∷ []) f → ComesBefore m e f
      chained f (inl b) = b
      chained f (inr none) = absurd none

  still_open : (f : Label) (earlier fs : List Label) → HasNoRace m f (f ∷ []) fs → AreOpen earlier (f ∷ fs)
      → AreOpen (f ∷ earlier) fs
  still_open f earlier fs h left e [] before same =
      subst (λ (x : Label). IsOpen x [] fs) (first_same f e earlier before same) (opened f fs h)
  still_open f earlier fs h left e (g ∷ between) before same =
      subst (λ (x : Label). IsOpen e (x ∷ between) fs) (first_same f g earlier (between ++ e ∷ before) same)
      (passed_one e between f fs (left e between before
      (rest_same f g earlier (between ++ e ∷ before) same))).1

  chained : (earlier later : List Label) → AreChained m Clash earlier → AreOpen earlier later → IsRaceFree m later
      → AreChained m Clash (reverse later ++ earlier)
  chained earlier [] c left h = c
  chained earlier (f ∷ fs) c left h =
      subst (AreChained m Clash) (turned f fs earlier)
      (chained (f ∷ earlier) fs (
        chains_lead m (λ e. Clash e f) earlier f
            (λ e between before same clash. (passed_one e between f fs (left e between before same)).0 clash),
        c,
      )
      (still_open f earlier fs h.0 left) h.1)

  nothing_open : (later : List Label) → AreOpen [] later
  nothing_open later e between before same = absurd (no_place e between before same)

  pub chains_of : (steps : List Label) → IsRaceFree m steps → AreChained m Clash (reverse steps)
  chains_of steps h = subst (AreChained m Clash) (append-nil (reverse steps))
      (chained [] steps tt (nothing_open steps) h)

  pub no_race_by_chains : (steps : List Label) → AreChained m Clash (reverse steps) → IsRaceFree m steps
  no_race_by_chains steps c = race_free [] steps (subst (AreChained m Clash) (sym (append-nil (reverse steps))) c)

pub chains_tell_races : (State Agent Label : Type 0) → ChainsTellRaces State Agent Label
chains_tell_races State Agent Label m steps = (chains_of m steps, no_race_by_chains m steps)
