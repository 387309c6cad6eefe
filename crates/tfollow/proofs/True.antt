-- What is kept is true where all that is told is.
use Rattle.std.proofs.Common.{◌≡◌, ℕ, ◌<◌, inl, inr, sym, ◌∙◌, subst, arith, List, [], ◌∷◌, length, replicate}
use Rattle.std.proofs.Common.{Contains}
use Rattle.std.proofs.lemmas.Option.{slice_get_within}
use Rattle.tplan.specs.declared.plan.Plan.{Plan}
use Rattle.tagents.specs.Groups.{AgreeOn}
use Rattle.tagents.specs.Walks.{label_of}
use Rattle.tclocks.specs.declared.step.Step.{Step}
use Rattle.tclocks.specs.Checks.{Check, accesses_at, next_step, with_places}
use Rattle.tprocesses.specs.Places.{Place}
use Rattle.tprocesses.specs.Machine.{Agent, process_machine}
use Rattle.tprocesses.specs.Certified.{ProcessStep}
use Rattle.tcertify.specs.Running.{State}
use Rattle.tfollow.specs.Numbering.{Places, AgentNumbers, HasNumber}
use Rattle.tfollow.specs.Following.{Told, KeptAccess, IsDone, IsFollowed, IsFollowedStep, number_by}
use Rattle.tfollow.specs.Laws.{HasRace}
use Rattle.tfollow.specs.Truth.{Makes, AreTrue, KeepsTruth, TruthIsKept, TrueRefusalsTellTrueRaces}
use Rattle.tfollow.proofs.Agreeing.{done-agree}
use Rattle.tfollow.proofs.Counting.{kept-since, done-now, done-still, defaults-behind, copies, past-end, below-or-not}
use Rattle.tfollow.proofs.Refused.{has_race, since-before}

-- an access that is kept of a place is of one that was added
within : (check : Check) (place : ℕ) (access : KeptAccess) → Contains (accesses_at check place) access
    → place < length check.places
within check place access has = elim (below-or-not place (length check.places)) as (λ _. place < length check.places) [
  | inl there ↦ there
  | inr far ↦ absurd (none (subst (λ (list : List KeptAccess). Contains list access)
      (past-end check.places place [] far) has))
]
  where
    none : Contains [] access → ⊥
    none has = omega (arith, has.1)

module _ (plan : Plan) (places : Places) (group : AgentNumbers) (agents : List Agent) (steps : List ProcessStep)
    (check : Check) (s : State) (f : IsFollowed plan places group agents steps check s)
    (h : KeepsTruth plan places group steps check) where
  -- whoever has a number has a clock
  added : (number : ℕ) (a : Agent) → HasNumber agents a number → number < length check.clocks
  added number a listed =
      let within : number < length agents = slice_get_within agents number a listed in omega (arith, within, f.clocks)

  step-true : (number : ℕ) (a : Agent) (told : List Told) (after : Check) (u : State)
      → IsFollowedStep plan places group agents number a told check after s u
      → AreTrue plan places (label_of (process_machine plan) a s) told
      → KeepsTruth plan places group (label_of (process_machine plan) a s ∷ steps) after
  step-true number a told after u d all place access has =
      elim (kept-since (next_step check number) told _ after d.checked place access has) as
      (λ _. (done : IsDone group (label_of (process_machine plan) a s ∷ steps) access.step)
      × Makes plan places done.label place access.mode) [
        | inl old ↦
            let (done, made) = h place access old in
            (done-still group steps (label_of (process_machine plan) a s) access.step done, made)
        | inr new ↦
            subst (λ (step : Step). (done : IsDone group (label_of (process_machine plan) a s ∷ steps) step)
            × Makes plan places done.label place access.mode) (sym new.0) (
              done-now group steps (label_of (process_machine plan) a s) number check (f.numbered number a d.listed)
                  (added number a d.listed) f.counted,
              all (record { place = place; mode = access.mode }) new.1,
            )
      ]

  numbers-true : (more : AgentNumbers) → AgreeOn (number_by group) (number_by more) steps
      → KeepsTruth plan places more steps check
  numbers-true more agree place access has =
      let (done, made) = h place access has in (
        done-agree group more steps access.step agree done,
        record {
          place = made.place;
          manner = made.manner;
          made = made.made;
          numbered = made.numbered;
          in_mode = made.in_mode;
        },
      )

  places-true : (more : Places) (count : ℕ) → ((p : Place) → places p < length check.places → more p ≡ places p)
      → KeepsTruth plan more group steps (with_places count check)
  places-true more count same place access has =
      let old : Contains (accesses_at check place) access =
      subst (λ (list : List KeptAccess). Contains list access)
      (defaults-behind check.places (replicate count []) place [] (λ k. copies count k [])) has in
      let (done, made) = h place access old in (
        done,
        record {
          place = made.place;
          manner = made.manner;
          made = made.made;
          numbered = same made.place (omega (arith, within check place access old, made.numbered)) ∙ made.numbered;
          in_mode = made.in_mode;
        },
      )

pub truth_is_kept : TruthIsKept
truth_is_kept plan places group agents steps check s f h =
    record {
      by_step = step-true plan places group agents steps check s f h;
      by_agent = numbers-true plan places group agents steps check s f h;
      by_number = numbers-true plan places group agents steps check s f h;
      by_places = places-true plan places group agents steps check s f h;
    }

pub true_refusals_tell_true_races : TrueRefusalsTellTrueRaces
true_refusals_tell_true_races plan places group agents steps number a told access kept before after s u f h d now =
    let race : HasRace plan group steps number a access kept after s u =
    has_race plan places group agents steps number a told access kept before after s u f d in
    let old : (done : IsDone group steps kept.step) × Makes plan places done.label access.place kept.mode =
    h access.place kept (since-before plan places group agents steps number a told access kept before after s u f d) in
    record {
      earlier = old.0;
      other = race.other;
      before = old.1;
      now = now;
      collide = race.collide;
      unknown = race.unknown;
    }
