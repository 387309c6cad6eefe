-- A refusal tells a race.
use Rattle.std.proofs.Common.{◌≡◌, ◌≢◌, ℕ, ◌<◌, inl, inr, refl, sym, ap, ◌∙◌, subst, arith, Bool, true, false, not}
use Rattle.std.proofs.Common.{◌==◌, nat_le, List, [], ◌∷◌, Some, find, cond, Contains, slice_index, true≢false}
use Rattle.std.proofs.lemmas.Bool.{and_parts, or_parts, eq-eqb}
use Rattle.std.proofs.lemmas.Option.{same_Some}
use Rattle.tplan.specs.declared.plan.Plan.{Plan}
use Rattle.tagents.specs.Walks.{label_of}
use Rattle.tclocks.specs.Checks.{Check, clock_of, accesses_at, next_step}
use Rattle.tclocks.specs.Places.{races, knows_of}
use Rattle.tclocks.specs.Modes.{collide}
use Rattle.tclocks.proofs.Lists.{test, contains-first, contains-rest}
use Rattle.tprocesses.specs.Machine.{Agent, process_machine}
use Rattle.tprocesses.specs.Certified.{ProcessStep, machine_of}
use Rattle.tprocesses.specs.Opening.{opening_state}
use Rattle.tcertify.specs.Running.{State}
use Rattle.tfollow.specs.Numbering.{Places, AgentNumbers}
use Rattle.tfollow.specs.Following.{Told, KeptAccess, IsFollowed, IsRefusedStep}
use Rattle.tfollow.specs.Laws.{HasRace, RefusalsTellRaces}
use Rattle.tfollow.proofs.Counting.{kept-since}
use Rattle.tfollow.proofs.Running.{runs-on, takes-on}
use Rattle.tfollow.proofs.Stepping.{does, goes}

-- what is found is in the list, and passes the test
found-some : {A : Type 0} (p : A → Bool) (xs : List A) (y : A) → find p xs ≡ Some y → Contains xs y × (p y ≡ true)
found-some p [] y h = absurd cc
found-some {A} p (x ∷ xs) y h = elim (test (p x)) as (λ _. Contains (x ∷ xs) y × (p y ≡ true)) [
  | inl pass ↦
      let same : x ≡ y = same_Some x y (sym (ap (λ (t : Bool). cond t (Some x) (find p xs)) pass) ∙ h) in
      subst (λ (z : A). Contains (x ∷ xs) z × (p z ≡ true)) same (contains-first x xs, pass)
  | inr fail ↦
      let rest : Contains xs y × (p y ≡ true) =
      found-some p xs y (sym (ap (λ (t : Bool). cond t (Some x) (find p xs)) fail) ∙ h) in
      (contains-rest x xs y rest.0, rest.1)
]

not-true : (t : Bool) → not t ≡ true → t ≡ false
not-true true h = absurd (true≢false (sym h))
not-true false h = refl

above : (i j : ℕ) → nat_le i j ≡ false → j < i
above i j h = grind arith

module _ (plan : Plan) (places : Places) (group : AgentNumbers) (agents : List Agent) (steps : List ProcessStep)
    (number : ℕ) (a : Agent) (told : List Told) (access : Told) (kept : KeptAccess) (before after : Check)
    (s u : State) (f : IsFollowed plan places group agents steps before s)
    (d : IsRefusedStep plan places group agents number a told access kept before after s u) where
  abbrev step : ProcessStep
  step = label_of (process_machine plan) a s

  found : Contains (accesses_at after access.place) kept
      × (races number (clock_of after number) access.mode kept ≡ true)
  found =
      found-some (races number (clock_of after number) access.mode) (accesses_at after access.place) kept d.refused

  parts : (collide kept.mode access.mode ≡ true) × (not (knows_of number (clock_of after number) kept.step) ≡ true)
  parts = and_parts _ _ found.1

  unknown : ((kept.step.agent == number) ≡ false)
      × (nat_le kept.step.number (slice_index (clock_of after number) kept.step.agent) ≡ false)
  unknown = or_parts _ _ (not-true (knows_of number (clock_of after number) kept.step) parts.1)

  other : kept.step.agent ≢ number
  other same = true≢false (sym (eq-eqb kept.step.agent number same) ∙ unknown.0)

  -- so the kept access is one from before the step
  pub since-before : Contains (accesses_at before access.place) kept
  since-before = elim (kept-since (next_step before number) told _ after d.checked access.place kept found.0) as
      (λ _. Contains (accesses_at before access.place) kept) [
        | inl old ↦ old
        | inr new ↦ absurd (other (ap (λ e. e.agent) new.0))
      ]

  pub has_race : HasRace plan group steps number a access kept after s u
  has_race =
      record {
        run = runs-on (machine_of plan) steps step (opening_state plan) s u f.run (does plan a s u d.runs d.opened);
        takes_nothing = takes-on (machine_of plan) steps step f.takes_nothing (goes plan a s u d.runs);
        earlier = f.counted.kept access.place kept since-before;
        other = other;
        collide = parts.0;
        unknown = above kept.step.number (slice_index (clock_of after number) kept.step.agent) unknown.1;
      }

pub refusals_tell_races : RefusalsTellRaces
refusals_tell_races plan places group agents steps number a told access kept before after s u f d =
    has_race plan places group agents steps number a told access kept before after s u f d
