-- A step that was done and told is one more.
use Rattle.std.proofs.Common.{◌≡◌, ◌≢◌, ℕ, ◌<◌, ◌≤◌, ◌⊎◌, inl, inr, refl, sym, ap, ◌∙◌, subst, arith, true, false}
use Rattle.std.proofs.Common.{List, [], ◌∷◌, ◌++◌, map, suc, length, slice_get, slice_index, Ok, Err, Result}
use Rattle.std.specs.Prelude.{All, is_some}
use Rattle.std.proofs.lemmas.Option.{same_Some, slice_get_within}
use Rattle.tplan.specs.declared.plan.Plan.{Plan}
use Rattle.tagents.specs.Agents.{Does}
use Rattle.tagents.specs.Clocks.{labels}
use Rattle.tagents.specs.Groups.{AreInTurn, NoneHas, IsHeld, IsFree, HasNumberTurn, GoOnInTurn}
use Rattle.tagents.specs.Groups.HasNumberTurn.{First as Fresh, Own as Held, Next as After}
use Rattle.tagents.specs.Tables.{Access, HasAccess}
use Rattle.tagents.specs.Walks.{Sight, sight, sights_of, label_of, are_open}
use Rattle.tagents.specs.WalkAccesses.{Looks, Changes, accesses_of_step}
use Rattle.tagents.specs.Tidy.{IsOneOf}
use Rattle.tagents.proofs.Grouped.{runs_go_on_in_turn}
use Rattle.tagents.proofs.Walking.{has_step}
use Rattle.tclocks.specs.declared.mode.Mode.{Mode}
use Rattle.tclocks.specs.declared.step.Step.{Step}
use Rattle.tclocks.specs.Modes.{covers}
use Rattle.tclocks.specs.Checks.{Check, clock_of, clock_in, steps_of, next_step, begun, with_joined}
use Rattle.tclocks.specs.Own.{IsOwnYet}
use Rattle.tclocks.specs.Followed.{AreAccessed, IsClockOf, HasCover, IsToldByCover}
use Rattle.tclocks.specs.NumberTurns.{HasSeenInTurn, grouped_entry}
use Rattle.tclocks.proofs.Joining.{same-or-not}
use Rattle.tclocks.proofs.Lists.{each-more}
use Rattle.tclocks.proofs.Turning.{checked_in_turn}
use Rattle.tprocesses.specs.Places.{Place}
use Rattle.tprocesses.specs.Values.{Value}
use Rattle.tprocesses.specs.Changes.{kind_of}
use Rattle.tprocesses.specs.Parts.{Reason, Part, gives, stopping, seeing, changing, telling, Changed, walk_of}
use Rattle.tprocesses.specs.Machine.{Agent, Process, Channel, Wire, Successor, gates, step_of, process_machine}
use Rattle.tprocesses.specs.Certified.{ProcessStep, machine_of}
use Rattle.tprocesses.specs.Opening.{opening_state}
use Rattle.tprocesses.proofs.EndedStay.{ended_stay_ended}
use Rattle.tcertify.specs.Running.{State, changed, run_part}
use Rattle.tcertify.specs.Walked.{stop_of, looks, changes, Accessed, accesses, IsWalkedAsRun}
use Rattle.tcertify.proofs.Walking.{walked}
use Rattle.tfollow.specs.Modes.{accesses_in, Manner, mode_at}
use Rattle.tfollow.specs.Numbering.{Places, AgentNumbers, HasNumber, IsNew}
use Rattle.tfollow.specs.Leading.{leads_on}
use Rattle.tfollow.specs.Following.{Told, IsToldOrOwn, AreCounted, HasEnded, HasTurn, IsFollowed, IsFollowedStep}
use Rattle.tfollow.specs.Following.{number_by, count_with}
use Rattle.tfollow.specs.Following.HasTurn.{First, Own, Next}
use Rattle.tfollow.specs.Laws.{StepsAreFollowed, StopsAreTold}
use Rattle.tfollow.proofs.Counting.{counted-step, clocks-long}
use Rattle.tfollow.proofs.Handing.{by_numbers, numbers_at}
use Rattle.tfollow.proofs.Listed.{one-of}
use Rattle.tfollow.proofs.Led.{leads_are_leads}
use Rattle.tfollow.proofs.Looked.{gates-looked}
use Rattle.tfollow.proofs.Numbered.{agent-same}
use Rattle.tfollow.proofs.Running.{runs-on, takes-on}

-- each look of a part is an access, and each change
look-accessed : {A : Type 0} (p : Part A) (s : State) (q : Place) → IsOneOf q (looks p s)
    → HasAccess (accesses p s) q Looks
look-accessed (gives x) s q h = absurd h
look-accessed (stopping why) s q h = absurd h
look-accessed (seeing p next) s q (inl here) = inl (here, refl)
look-accessed (seeing p next) s q (inr there) = inr (look-accessed (next (s p)) s q there)
look-accessed (changing p c next) s q h = inr (look-accessed next (changed p c s) q h)
look-accessed (telling m next) s q h = look-accessed next s q h

change-accessed : {A : Type 0} (p : Part A) (s : State) (x : Changed) → IsOneOf x (changes p s)
    → HasAccess (accesses p s) x.place (Changes (kind_of x.change))
change-accessed (gives y) s x h = absurd h
change-accessed (stopping why) s x h = absurd h
change-accessed (seeing p next) s x h = inr (change-accessed (next (s p)) s x h)
change-accessed (changing p c next) s x (inl here) =
    inl (ap (λ (y : Changed). y.place) here, ap (λ (y : Changed). Changes (kind_of y.change)) here)
change-accessed (changing p c next) s x (inr there) = inr (change-accessed next (changed p c s) x there)
change-accessed (telling m next) s x h = change-accessed next s x h

-- accesses of two lists
access-of : {P M : Type 0} (xs ys : List (Access P M)) (p : P) (k : M) → HasAccess (xs ++ ys) p k
    → HasAccess xs p k ⊎ HasAccess ys p k
access-of [] ys p k h = inr h
access-of (x ∷ xs) ys p k (inl here) = inl (inl here)
access-of (x ∷ xs) ys p k (inr there) =
    elim (access-of xs ys p k there) as (λ _. HasAccess (x ∷ xs) p k ⊎ HasAccess ys p k) [
      | inl first ↦ inl (inr first)
      | inr second ↦ inr second
    ]

-- an access to a place that was seen is a look
look-of : (seen : List (Sight Place Value)) (q : Place) (k : Manner)
    → HasAccess (map (λ x. record { place = x.place; mode = Looks }) seen) q k
    → (Looks ≡ k) × IsOneOf q (map (λ x. x.place) seen)
look-of [] q k h = absurd h
look-of (x ∷ xs) q k (inl here) = (here.1, inl here.0)
look-of (x ∷ xs) q k (inr there) = let rest : (Looks ≡ k) × IsOneOf q (map (λ x. x.place) xs) = look-of xs q k there in
    (rest.0, inr rest.1)

-- what is seen at gates, and on the way
place-of : (s : State) (ps : List Place) (seen : List (Sight Place Value)) (q : Place)
    → IsOneOf q (map (λ x. x.place) (map (sight s) ps ++ seen)) → IsOneOf q ps ⊎ IsOneOf q (map (λ x. x.place) seen)
place-of s [] seen q h = inr h
place-of s (p ∷ ps) seen q (inl here) = inl (inl here)
place-of s (p ∷ ps) seen q (inr there) =
    elim (place-of s ps seen q there) as (λ _. IsOneOf q (p ∷ ps) ⊎ IsOneOf q (map (λ x. x.place) seen)) [
      | inl first ↦ inl (inr first)
      | inr second ↦ inr second
    ]

-- an access to a place that is changed is a change
change-of : (cs : List Changed) (q : Place) (k : Manner)
    → HasAccess (map (λ x. record { place = x.place; mode = Changes (kind_of x.change) }) cs) q k
    → (x : Changed) × IsOneOf x cs × (x.place ≡ q) × (Changes (kind_of x.change) ≡ k)
change-of [] q k h = absurd h
change-of (x ∷ xs) q k (inl here) = (x, inl refl, here.0, here.1)
change-of (x ∷ xs) q k (inr there) =
    let (y, one, place, manner) = change-of xs q k there in (y, inr one, place, manner)

-- what holds of each access
at-access : (P : Accessed → Type 0) (xs : List Accessed) → All P xs → (q : Place) (k : Manner) → HasAccess xs q k
    → P (record { place = q; mode = k })
at-access P [] all q k h = absurd h
at-access P (x ∷ xs) all q k (inl here) =
    subst P (λ i. record { place = here.0 i; mode = here.1 i }) (all 0 x (omega arith))
at-access P (x ∷ xs) all q k (inr there) =
    at-access P xs (λ i d h. all (suc i) d (omega (arith, h))) q k there

-- the step of an agent as it runs
pub runs-so : (plan : Plan) (a : Agent) (s u : State) (r : Result (Unit {0}) Reason)
    → run_part (step_of plan a) s ≡ (r, u) → are_open (process_machine plan) a s ≡ true
    → Does (machine_of plan) s (label_of (process_machine plan) a s) u
runs-so plan a s u r run opened =
    subst (λ (t : State). Does (machine_of plan) s (label_of (process_machine plan) a s) t)
    ((walked plan (step_of plan a) s).state ∙ ap (λ (x : Result (Unit {0}) Reason × State). x.1) run)
    (has_step (process_machine plan) a s opened)

pub stops-so : (plan : Plan) (a : Agent) (s u : State) (r : Result (Unit {0}) Reason)
    → run_part (step_of plan a) s ≡ (r, u) → (label_of (process_machine plan) a s).deed.stops ≡ stop_of r
stops-so plan a s u r run =
    (walked plan (step_of plan a) s).stops ∙ ap (λ (x : Result (Unit {0}) Reason × State). stop_of x.0) run

module _ (plan : Plan) (a : Agent) (s u : State) (run : run_part (step_of plan a) s ≡ (Ok tt, u)) where
  abbrev label : ProcessStep
  label = label_of (process_machine plan) a s

  is-walked : IsWalkedAsRun plan (step_of plan a) s
  is-walked = walked plan (step_of plan a) s

  pub goes : (machine_of plan).stops label ≡ false
  goes = ap is_some (stops-so plan a s u (Ok tt) run)

  pub does : are_open (process_machine plan) a s ≡ true → Does (machine_of plan) s label u
  does opened = runs-so plan a s u (Ok tt) run opened

  -- each access of the label is one of the run
  accessed : (q : Place) (k : Manner) → HasAccess (accesses_of_step (process_machine plan) label) q k
      → HasAccess (accesses (step_of plan a) s) q k
  accessed q k h =
      elim (access-of (map (λ x. record { place = x.place; mode = Looks }) label.seen) _ q k h) as
      (λ _. HasAccess (accesses (step_of plan a) s) q k) [
        | inl look ↦
            let (manner, one) = look-of label.seen q k look in
            subst (λ (j : Manner). HasAccess (accesses (step_of plan a) s) q j) manner
            (look-accessed (step_of plan a) s q (looked one))
        | inr change ↦
            let (x, one, place, manner) = change-of label.deed.changes q k change in
            subst (λ (j : Manner). HasAccess (accesses (step_of plan a) s) q j) manner
            (subst (λ (p : Place). HasAccess (accesses (step_of plan a) s) p (Changes (kind_of x.change))) place
            (change-accessed (step_of plan a) s x
            (subst (λ (cs : List Changed). IsOneOf x cs) is-walked.changes one)))
      ]
    where
      looked : IsOneOf q (map (λ x. x.place) label.seen) → IsOneOf q (looks (step_of plan a) s)
      looked one =
          elim (place-of s (gates plan a) (sights_of (walk_of (step_of plan a)) s) q one) as
          (λ _. IsOneOf q (looks (step_of plan a) s)) [
            | inl gate ↦ gates-looked plan a s u run q gate
            | inr seen ↦ subst (λ (ps : List Place). IsOneOf q ps) is-walked.looks seen
          ]

-- one of these is told at the place, and covers
covered-by : (told : List Told) (by : Told) (place : ℕ) (mode : Mode) → IsOneOf by told → by.place ≡ place
    → covers by.mode mode ≡ true → HasCover told place mode
covered-by [] by place mode one e h = absurd one
covered-by (x ∷ xs) by place mode (inl here) e h =
    inl (ap (λ (y : Told). y.place) here ∙ e, ap (λ (y : Told). covers y.mode mode) here ∙ h)
covered-by (x ∷ xs) by place mode (inr there) e h = inr (covered-by xs by place mode there e h)

-- accesses add no slot
slots-accessed : (step : Step) (told : List Told) (c d : Check) → AreAccessed step told c d
    → length d.slots ≡ length c.slots
slots-accessed step [] c d same = ap (λ (e : Check). length e.slots) same
slots-accessed step (access ∷ rest) c d (between, is, are) =
    slots-accessed step rest between d are ∙ ap (λ (e : Check). length e.slots) is.only

-- a process that has ended has ended after each step that does not stop
ended-still : (plan : Plan) (b : Agent) (s u : State) (e : ProcessStep) → Does (machine_of plan) s e u
    → (machine_of plan).stops e ≡ false → HasEnded b s → HasEnded b u
ended-still plan (Process x) s u e does on over = ended_stay_ended plan s u e x does on over
ended-still plan (Channel n c) s u e does on over = over
ended-still plan (Wire end) s u e does on over = over
ended-still plan (Successor n k) s u e does on over = over

module _ (plan : Plan) (places : Places) (group : AgentNumbers) (agents : List Agent) (steps : List ProcessStep)
    (number : ℕ) (a : Agent) (told : List Told) (before after : Check) (s u : State)
    (f : IsFollowed plan places group agents steps before s)
    (d : IsFollowedStep plan places group agents number a told before after s u) where
  abbrev step : ProcessStep
  step = label_of (process_machine plan) a s

  by : group a ≡ number
  by = f.numbered number a d.listed

  is-told : IsToldByCover (by_numbers plan group) (accesses_in plan) (numbers_at places) before f.writers number
      (number ∷ []) told step
  is-told = record {
    by = by;
    added = (let within : number < length agents = slice_get_within agents number a d.listed in
        omega (arith, within, f.clocks));
    leads = (
      each-more (λ z. leads_on plan z a ≡ true) (λ z. (machine_of plan).leads z step ≡ true)
          (λ z h. leads_are_leads plan z a s d.opened (goes plan a s u d.runs) h) (f.writers number)
          (f.lead number a d.listed),
      tt,
    );
    all = λ p k h. known p k (at-access (IsToldOrOwn places before number told) (accesses (step_of plan a) s) d.covered
        p k (accessed plan a s u d.runs p k h));
  }
    where
      known : (p : Place) (k : Manner) → IsToldOrOwn places before number told (record { place = p; mode = k })
          → HasCover told (places p) (mode_at p k) ⊎ IsOwnYet before number (places p) (mode_at p k)
      known p k (inl t) =
          inl (covered-by told t.by (places p) (mode_at p k) (one-of t.by told t.there) t.place t.covers)
      known p k (inr own) = inr own

  -- the step may have its agent's number
  turn : HasTurn plan group steps number a → HasNumberTurn (machine_of plan) (number_by group) steps step
  turn (First none) = Fresh (subst (λ (n : ℕ). NoneHas (number_by group) n steps) (sym by) none)
  turn (Own is) = Held (subst (λ (n : ℕ). IsHeld (machine_of plan) (number_by group) n a steps) (sym by) is)
  turn (Next last leads is) =
      After last (inr (leads_are_leads plan last a s d.opened (goes plan a s u d.runs) leads))
      (subst (λ (n : ℕ). IsFree (machine_of plan) (number_by group) n last steps) (sym by) is)

  seen : HasSeenInTurn (machine_of plan) (number_by group) (accesses_in plan) places mode_at
      (grouped_entry (machine_of plan) (number_by group) (accesses_in plan) places mode_at step after ∷ f.entries)
      f.writers after
  seen = checked_in_turn (machine_of plan) (number_by group) (accesses_in plan) places mode_at f.entries f.writers
      before after number (number ∷ []) told step f.seen is-told d.checked (agent-same plan a)
      (subst (λ (list : List ProcessStep). HasNumberTurn (machine_of plan) (number_by group) list step)
      (sym f.labels) (turn (f.turns number a d.listed)))

  -- what holds of numbers and steps goes on
  goes-on : GoOnInTurn (machine_of plan) (number_by group) steps step
  goes-on = runs_go_on_in_turn State Agent ProcessStep (machine_of plan) (number_by group) steps step
      (subst (AreInTurn (machine_of plan) (number_by group)) f.labels f.seen.turns)

  -- other agents may have their numbers still
  turn-still : (n : ℕ) (b : Agent) → group a ≢ n → HasTurn plan group steps n b
      → HasTurn plan group (step ∷ steps) n b
  turn-still n b other (First none) = First (other, none)
  turn-still n b other (Own is) = Own (goes-on.others_held n b other is)
  turn-still n b other (Next last leads is) = Next last leads (goes-on.others_free n last other is)

  turns : (n : ℕ) (b : Agent) → HasNumber agents b n → HasTurn plan group (step ∷ steps) n b
  turns n b h = elim (same-or-not n number) as (λ _. HasTurn plan group (step ∷ steps) n b) [
    | inl same ↦
        let one : a ≡ b = same_Some a b (sym d.listed ∙ ap (λ (k : ℕ). slice_get agents k) (sym same) ∙ h) in
        Own (subst (λ (c : Agent). IsHeld (machine_of plan) (number_by group) n c (step ∷ steps)) one
        (subst (λ (k : ℕ). IsHeld (machine_of plan) (number_by group) k a (step ∷ steps)) (by ∙ sym same)
        goes-on.held))
    | inr other ↦ turn-still n b (λ e. other (sym e ∙ by)) (f.turns n b h)
  ]

  -- whoever has ended has ended still
  others : (b : Agent) → IsNew agents b → (length agents ≤ group b) ⊎ HasEnded b u
  others b new = elim (f.others b new) as (λ _. (length agents ≤ group b) ⊎ HasEnded b u) [
    | inl far ↦ inl far
    | inr over ↦ inr (ended-still plan b s u step (does plan a s u d.runs d.opened) (goes plan a s u d.runs) over)
  ]

  clock : IsClockOf (by_numbers plan group) (numbers_at places) f.entries before number (clock_of before number)
  clock = f.seen.seen.follows.clocks number is-told.added

  own-within : slice_index (clock_in before number) number ≤ steps_of before number
  own-within = (f.seen.seen.follows.slots number).within number

  -- the check as it is before the accesses
  abbrev joined_up : Check
  joined_up = with_joined number number (begun number before)

  pub followed : IsFollowed plan places group agents (step ∷ steps) after u
  followed =
      record {
        run = runs-on (machine_of plan) steps step (opening_state plan) s u f.run (does plan a s u d.runs d.opened);
        takes_nothing = takes-on (machine_of plan) steps step f.takes_nothing (goes plan a s u d.runs);
        entries = grouped_entry (machine_of plan) (number_by group) (accesses_in plan) places mode_at step after
            ∷ f.entries;
        labels = ap (λ (list : List ProcessStep). step ∷ list) f.labels;
        writers = f.writers;
        seen = seen;
        placed = (placed, f.placed);
        last = refl;
        clocks = clocks-same ∙ f.clocks;
        slots = slots-accessed (next_step before number) told joined_up after d.checked ∙ f.slots;
        numbered = f.numbered;
        counted = counts;
        lead = f.lead;
        turns = turns;
        others = others;
      }
    where
      counts : AreCounted group (step ∷ steps) after
      counts = counted-step group steps step number told before after by is-told.added clock.long own-within d.checked
          f.counted

      clocks-same : length after.clocks ≡ length before.clocks
      clocks-same = clocks-long group steps step number told before after by is-told.added clock.long own-within
          d.checked f.counted

      placed : steps_of after (group a) ≡ count_with group (group a) (step ∷ labels f.entries)
      placed =
          counts.counts (group a) (omega (arith, by, is-told.added, clocks-same))
          ∙ ap (λ (list : List ProcessStep). count_with group (group a) (step ∷ list)) (sym f.labels)

pub steps_are_followed : StepsAreFollowed
steps_are_followed plan places group agents steps number a told before after s u f d =
    followed plan places group agents steps number a told before after s u f d

pub stops_are_told : StopsAreTold
stops_are_told plan places group agents steps a check why s u f opened run =
    record {
      run = runs-on (machine_of plan) steps (label_of (process_machine plan) a s) (opening_state plan) s u f.run
          (runs-so plan a s u (Err why) run opened);
      stops = stops-so plan a s u (Err why) run;
    }
