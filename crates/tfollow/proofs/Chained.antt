-- A step that the clock of the last step has counted is chained to it.
use Rattle.std.proofs.Common.{ℕ, ◌≡◌, ◌≤◌, refl, sym, ap, ◌∙◌, subst, arith, List, [], ◌∷◌, ◌++◌, reverse}
use Rattle.std.proofs.Common.{slice_index, append_assoc}
use Rattle.std.proofs.lemmas.List.{reverse-append}
use Rattle.tplan.specs.declared.plan.Plan.{Plan}
use Rattle.tagents.specs.Agents.{Agents}
use Rattle.tagents.specs.Chains.{IsChained}
use Rattle.tagents.specs.Clocks.{Entry, labels}
use Rattle.tagents.specs.Groups.{grouped, AreInTurn}
use Rattle.tagents.specs.Times.{AreTimed}
use Rattle.tagents.proofs.Grouped.{grouped_chains_are_chains}
use Rattle.tagents.proofs.Timed.{clocks_tell_chains}
use Rattle.tclocks.specs.declared.step.Step.{Step}
use Rattle.tclocks.specs.Checks.{Check, HasCounted, clock_of}
use Rattle.tclocks.specs.NumberTurns.{numbers_of}
use Rattle.tclocks.proofs.Knowing.{are_timed}
use Rattle.tprocesses.specs.Machine.{Agent}
use Rattle.tprocesses.specs.Certified.{ProcessStep, machine_of}
use Rattle.tcertify.specs.Running.{State}
use Rattle.tfollow.specs.Modes.{accesses_in, mode_at}
use Rattle.tfollow.specs.Numbering.{Places, AgentNumbers}
use Rattle.tfollow.specs.Following.{number_by, count_with, IsDone, ArePlaced, IsFollowed}
use Rattle.tfollow.specs.Lodging.{CountedStepsAreChained}
use Rattle.tfollow.proofs.Running.{turned, labels-turned}
use Rattle.tfollow.proofs.Handing.{StartsWith, first, starts_with}

-- entries whose labels are in two parts
record IsSplit (entries : List (Entry ℕ ProcessStep)) (later : List ProcessStep) (label : ProcessStep)
    (before : List ProcessStep) : Type 0 where
  newer : List (Entry ℕ ProcessStep)
  entry : Entry ℕ ProcessStep
  older : List (Entry ℕ ProcessStep)
  within : entries ≡ newer ++ entry ∷ older
  since : labels newer ≡ later
  here : entry.label ≡ label
  until : labels older ≡ before

split : (entries : List (Entry ℕ ProcessStep)) (later : List ProcessStep) (label : ProcessStep)
    (before : List ProcessStep) → labels entries ≡ later ++ label ∷ before → IsSplit entries later label before
split [] [] label before h = absurd cc
split [] (e ∷ later) label before h = absurd cc
split (z ∷ zs) [] label before h =
    record { newer = []; entry = z; older = zs; within = refl; since = refl; here = cc; until = cc }
split (z ∷ zs) (e ∷ later) label before h =
    let rest : IsSplit zs later label before = split zs later label before cc in
    let one : z.label ≡ e = cc in record {
      newer = z ∷ rest.newer;
      entry = rest.entry;
      older = rest.older;
      within = λ i. z ∷ rest.within i;
      since = λ i. one i ∷ rest.since i;
      here = rest.here;
      until = rest.until;
    }

-- a list in two parts that is turned round
turned-parts : {A : Type 0} (xs : List A) (y : A) (ys zs : List A)
    → reverse (xs ++ y ∷ ys) ++ zs ≡ reverse ys ++ y ∷ (reverse xs ++ zs)
turned-parts xs y ys zs =
    ap (λ list. list ++ zs) (reverse-append xs (y ∷ ys) ∙ ap (λ list. list ++ reverse xs) (turned y ys))
    ∙ append_assoc (reverse ys ++ y ∷ []) (reverse xs) zs ∙ append_assoc (reverse ys) (y ∷ []) (reverse xs ++ zs)

placed-within : (group : AgentNumbers) (newer : List (Entry ℕ ProcessStep)) (entry : Entry ℕ ProcessStep)
    (older : List (Entry ℕ ProcessStep)) → ArePlaced group (newer ++ entry ∷ older)
    → entry.place ≡ count_with group (group entry.label.agent) (entry.label ∷ labels older)
placed-within group [] entry older h = h.0
placed-within group (z ∷ zs) entry older h = placed-within group zs entry older h.1

module _ (plan : Plan) (places : Places) (group : AgentNumbers) (agents : List Agent) (step : ProcessStep)
    (earlier : List ProcessStep) (check : Check) (state : State) (counted : Step)
    (f : IsFollowed plan places group agents (step ∷ earlier) check state)
    (d : IsDone group earlier counted) (knows : HasCounted check (group step.agent) counted) where
  starts : StartsWith plan places group agents step earlier check f.writers
  starts = starts_with plan places group agents step earlier check state f

  abbrev last : Entry ℕ ProcessStep
  last = first plan places group agents step earlier check

  -- the machine in which agents with one number are one
  abbrev numbered : Agents State ℕ ProcessStep
  numbered = grouped (machine_of plan) (number_by group)

  parts : IsSplit starts.rest d.later d.label d.before
  parts = split starts.rest d.later d.label d.before (starts.labels ∙ d.within)

  timed : AreTimed numbered [] (reverse parts.older ++ parts.entry ∷ (reverse parts.newer ++ last ∷ []))
  timed = subst (λ (list : List (Entry ℕ ProcessStep)). AreTimed numbered [] list)
      (turned last starts.rest
      ∙ ap (λ (list : List (Entry ℕ ProcessStep)). reverse list ++ last ∷ []) parts.within
      ∙ turned-parts parts.newer parts.entry parts.older (last ∷ []))
      (are_timed numbered (accesses_in plan) (numbers_of places mode_at) (last ∷ starts.rest) starts.seen.seen.table
      starts.seen.seen.follows.passed)

  place : parts.entry.place ≡ counted.number
  place =
      placed-within group parts.newer parts.entry parts.older
      (subst (λ (list : List (Entry ℕ ProcessStep)). ArePlaced group list) parts.within starts.placed.1)
      ∙ (λ i. count_with group (group (parts.here i).agent) (parts.here i ∷ parts.until i))
      ∙ ap (λ (n : ℕ). count_with group n (d.label ∷ d.before)) d.agent ∙ sym d.number

  known : parts.entry.place ≤ last.past (group parts.entry.label.agent)
  known =
      let agent : group parts.entry.label.agent ≡ counted.agent =
      ap (λ (e : ProcessStep). group e.agent) parts.here ∙ d.agent in
      let same : last.past (group parts.entry.label.agent)
      ≡ slice_index (clock_of check (group step.agent)) counted.agent =
      ap (λ (i : ℕ). slice_index (clock_of check (group step.agent)) i) agent in
      omega (arith, place, same, knows)

  -- a chain by numbers
  chained-by-numbers : IsChained numbered d.label (reverse d.later) step
  chained-by-numbers =
      subst (λ (e : ProcessStep). IsChained numbered e (reverse d.later) step) parts.here
      (subst (λ (list : List ProcessStep). IsChained numbered parts.entry.label list step)
      (labels-turned parts.newer ∙ ap reverse parts.since)
      (clocks_tell_chains State ℕ ProcessStep numbered (reverse parts.older) (reverse parts.newer) [] parts.entry last
      timed known))

  turns : AreInTurn (machine_of plan) (number_by group) (step ∷ (d.later ++ d.label ∷ d.before))
  turns =
      subst (λ (list : List ProcessStep). AreInTurn (machine_of plan) (number_by group) (step ∷ list))
      (starts.labels ∙ d.within) starts.seen.turns

  pub chained : IsChained (machine_of plan) d.label (reverse d.later) step
  chained =
      grouped_chains_are_chains State Agent ProcessStep (machine_of plan) (number_by group) d.later d.before d.label
      step turns chained-by-numbers

pub counted_steps_are_chained : CountedStepsAreChained
counted_steps_are_chained plan places group agents step earlier check state counted f d knows =
    chained plan places group agents step earlier check state counted f d knows
