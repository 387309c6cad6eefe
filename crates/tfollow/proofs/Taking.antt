-- A run is still followed where an agent takes the number of one that has ended.
use Rattle.std.proofs.Common.{◌≡◌, ◌≢◌, ℕ, ◌<◌, ◌≤◌, ◌⊎◌, inl, inr, sym, ap, ◌∙◌, subst, arith, true, false, List}
use Rattle.std.proofs.Common.{[], ◌∷◌, length, slice_get, slice_set, Bool, Some, cond}
use Rattle.std.proofs.lemmas.Bool.{eq-eqb, ne_eqb}
use Rattle.std.proofs.lemmas.List.{length-set}
use Rattle.std.proofs.lemmas.Option.{same_Some, slice_get_within}
use Rattle.tplan.specs.declared.plan.Plan.{Plan}
use Rattle.tagents.specs.Groups.{IsFree}
use Rattle.tclocks.specs.Checks.{Check, KnowsAll, with_cleared}
use Rattle.tclocks.specs.Followed.{EachOf}
use Rattle.tclocks.specs.Laws.{with_writers}
use Rattle.tclocks.proofs.Joining.{same-or-not}
use Rattle.tclocks.proofs.Lists.{test}
use Rattle.tclocks.proofs.Turning.{known_are_free}
use Rattle.tprocesses.specs.Machine.{Agent, same_agent}
use Rattle.tprocesses.specs.Certified.{ProcessStep, machine_of}
use Rattle.tcertify.specs.Running.{State}
use Rattle.tcertify.proofs.Places.{set_here, set_elsewhere}
use Rattle.tfollow.specs.Modes.{accesses_in, mode_at}
use Rattle.tfollow.specs.Numbering.{Places, AgentNumbers, HasNumber, IsNew, number_in}
use Rattle.tfollow.specs.Leading.{leads_on}
use Rattle.tfollow.specs.Following.{AreCounted, HasEnded, HasTurn, IsFollowed, number_by}
use Rattle.tfollow.specs.Following.HasTurn.{Next}
use Rattle.tfollow.specs.Laws.{HasCome, NumbersMayBeTaken}
use Rattle.tfollow.proofs.Agreeing.{placed-agree}
use Rattle.tfollow.proofs.Handing.{StartsWith, starts_with, last-cleared, seen-cleared}
use Rattle.tfollow.proofs.Numbered.{told, number-there, there-or-not, new-nowhere}
use Rattle.tfollow.proofs.Renumbered.{with_number, number-kept, number-given, number-other, may, agreed, counted-more}
use Rattle.tfollow.proofs.Renumbered.{turn-more, last-more}

module _ (plan : Plan) (places : Places) (group : AgentNumbers) (agents : List Agent) (step : ProcessStep)
    (earlier : List ProcessStep) (check : Check) (state : State) (a b : Agent) (number : ℕ)
    (f : IsFollowed plan places group agents (step ∷ earlier) check state) (new : IsNew agents a)
    (lives : HasEnded a state → ⊥) (had : HasNumber agents b number) (ended : HasEnded b state)
    (knows : KnowsAll check (group step.agent) number) (leads : leads_on plan step a ≡ true) where
  abbrev now : List Agent
  now = slice_set agents number a

  long : length now ≡ length agents
  long = length-set agents number a

  -- the new agent gets the number
  abbrev more : AgentNumbers
  more = with_number group (length agents) a number group

  same : (c : Agent) → group c < length agents → more c ≡ group c
  same c h = number-kept group (length agents) a number group c h

  given : more a ≡ number
  given = elim (f.others a new) as (λ _. more a ≡ number) [
    | inl far ↦ number-given group (length agents) a number group far
    | inr over ↦ absurd (lives over)
  ]

  -- who has a number now had it before, or has just taken it
  before : (i : ℕ) (c : Agent) → HasNumber now c i → i ≢ number → HasNumber agents c i
  before i c h other = sym (set_elsewhere agents number i a (λ e. other (sym e))) ∙ h

  taker : (i : ℕ) (c : Agent) → HasNumber now c i → i ≡ number → a ≡ c
  taker i c h at =
      same_Some a c (sym (set_here agents number a b had) ∙ ap (λ (k : ℕ). slice_get now k) (sym at) ∙ h)

  by-number : (i : ℕ) (c : Agent) → HasNumber now c i → more c ≡ i
  by-number i c h = elim (same-or-not i number) as (λ _. more c ≡ i) [
    | inl at ↦ ap more (sym (taker i c h at)) ∙ given ∙ sym at
    | inr other ↦
        let was : HasNumber agents c i = before i c h other in
        let by : group c ≡ i = f.numbered i c was in
        same c (omega (arith, by, slice_get_within agents i c was)) ∙ by
  ]

  starts : StartsWith plan places group agents step earlier check f.writers
  starts = starts_with plan places group agents step earlier check state f

  -- after the last step the number is free
  free : IsFree (machine_of plan) (number_by group) number step (step ∷ earlier)
  free = subst (λ (list : List ProcessStep). IsFree (machine_of plan) (number_by group) number step (step ∷ list))
      starts.labels
      (known_are_free (machine_of plan) (number_by group) (accesses_in plan) places mode_at starts.rest f.writers
      check step number starts.seen knows)

  turns : (i : ℕ) (c : Agent) → HasNumber now c i → HasTurn plan more (step ∷ earlier) i c
  turns i c h = elim (same-or-not i number) as (λ _. HasTurn plan more (step ∷ earlier) i c) [
    | inl at ↦
        turn-more plan places group agents (step ∷ earlier) check state f more same i c
        (subst (λ (k : ℕ). HasTurn plan group (step ∷ earlier) k c) (sym at)
        (Next step (subst (λ (d : Agent). leads_on plan step d ≡ true) (taker i c h at) leads) free))
    | inr other ↦
        turn-more plan places group agents (step ∷ earlier) check state f more same i c
        (f.turns i c (before i c h other))
  ]

  -- nobody wrote into the slot
  lead : (i : ℕ) (c : Agent) → HasNumber now c i
      → EachOf (λ e. leads_on plan e c ≡ true) (with_writers number [] f.writers i)
  lead i c h = elim (same-or-not i number) as
      (λ _. EachOf (λ e. leads_on plan e c ≡ true) (with_writers number [] f.writers i)) [
        | inl at ↦
            subst (λ (t : Bool). EachOf (λ e. leads_on plan e c ≡ true) (cond t [] (f.writers i)))
            (sym (eq-eqb i number at)) tt
        | inr other ↦
            subst (λ (t : Bool). EachOf (λ e. leads_on plan e c ≡ true) (cond t [] (f.writers i)))
            (sym (ne_eqb i number other)) (f.lead i c (before i c h other))
      ]

  -- whoever has no number now has had none, or has ended
  others : (c : Agent) → IsNew now c → (length now ≤ more c) ⊎ HasEnded c state
  others c away = elim (test (same_agent c b)) as (λ _. (length now ≤ more c) ⊎ HasEnded c state) [
    | inl is ↦ inr (subst (λ (d : Agent). HasEnded d state) (sym ((told plan).is_same c b is)) ended)
    | inr differ ↦ elim (f.others c (was differ (there-or-not plan agents c))) as
        (λ _. (length now ≤ more c) ⊎ HasEnded c state) [
          | inl far ↦
              let is : more c ≡ group c =
              number-other group (length agents) a number group c far (not-taker (test (same_agent c a))) in
              inl (omega (arith, is, far, long))
          | inr over ↦ inr over
        ]
  ]
    where
      at-number : HasNumber agents c number → c ≡ b
      at-number h = same_Some c b (sym h ∙ had)

      was : same_agent c b ≡ false → (number_in agents c < length agents) ⊎ IsNew agents c → IsNew agents c
      was differ (inr far) = far
      was differ (inl there) =
          let at : HasNumber agents c (number_in agents c) = number-there plan agents c there in
          absurd (new-nowhere plan now c (number_in agents c) away
          (set_elsewhere agents number (number_in agents c) a
          (λ e. (told plan).not_same c b differ
          (at-number (subst (λ (k : ℕ). HasNumber agents c k) (sym e) at))) ∙ at))

      not-taker : (same_agent c a ≡ true) ⊎ (same_agent c a ≡ false) → same_agent c a ≡ false
      not-taker (inr differ) = differ
      not-taker (inl is) = absurd (new-nowhere plan now c number away
          (set_here agents number a b had ∙ ap Some (sym ((told plan).is_same c a is))))

  has_come : HasCome plan places group now (step ∷ earlier) (with_cleared number check) state
  has_come =
      record {
        group = more;
        kept = agreed plan places group agents (step ∷ earlier) check state f more same;
        followed = record {
          run = f.run;
          takes_nothing = f.takes_nothing;
          entries = f.entries;
          labels = f.labels;
          writers = with_writers number [] f.writers;
          seen = seen-cleared plan places more now check number f.entries f.writers
              (may plan places group agents (step ∷ earlier) check state f more same).seen;
          placed = placed-agree group more f.entries
              (may plan places group agents (step ∷ earlier) check state f more same).agree f.placed;
          last = last-cleared plan places more now check number f.entries
              (last-more plan places group agents (step ∷ earlier) check state f more same now f.entries
              f.seen.seen.follows.agents f.last);
          clocks = f.clocks ∙ sym long;
          slots = length-set check.slots number [] ∙ f.slots ∙ sym long;
          numbered = by-number;
          counted = record { counts = was.counts; kept = was.kept };
          lead = lead;
          turns = turns;
          others = others;
        };
      }
    where
      was : AreCounted more (step ∷ earlier) check
      was = counted-more plan places group agents (step ∷ earlier) check state f more same

pub numbers_may_be_taken : NumbersMayBeTaken
numbers_may_be_taken plan places group agents step earlier check state a b number f new lives had ended knows leads =
    has_come plan places group agents step earlier check state a b number f new lives had ended knows leads
