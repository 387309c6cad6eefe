-- Notes that need not be told again.
use Rattle.std.proofs.Common.{◌≡◌, ◌≤◌, ◌<◌, ◌⊎◌, ◌∙◌, ℕ, zero, suc, inl, inr, refl, ap, subst, List, [], ◌∷◌, Some}
use Rattle.std.proofs.Common.{All, Contains, arith, drop, length, map}
use Rattle.std.specs.Prelude.{slice_get, slice_index_or}
use Rattle.std.proofs.lemmas.Option.{get_or_from_slice_get, none-some, same_Some, slice_get-get_or}
use Rattle.tplan.specs.declared.plan.Plan.{Plan}
use Rattle.tagents.specs.Groups.{grouped}
use Rattle.tclocks.specs.declared.mode.Mode.{Mode}
use Rattle.tclocks.specs.Checks.{Check, with_agent, with_cleared, with_places, with_slot}
use Rattle.tclocks.specs.Followed.{HasCover, IsStep}
use Rattle.tclocks.specs.NumberTurns.{numbers_of}
use Rattle.tclocks.specs.Own.{AreBegun, IsOwnYet}
use Rattle.tclocks.specs.Owning.{HasNoNewSteps}
use Rattle.tclocks.proofs.ModeLemmas.{covers-self}
use Rattle.tclocks.proofs.Owning.{own_accesses_stay, told_accesses_are_own}
use Rattle.tclocks.proofs.Stepping.{none-new}
use Rattle.tprocesses.specs.Certified.{ProcessStep, machine_of}
use Rattle.tprocesses.specs.Machine as machine
use Rattle.tcertify.specs.declared.node.Node.{Node}
use Rattle.tcertify.specs.declared.notes.Note.{Note}
use Rattle.tcertify.specs.Running.{State}
use Rattle.tfollow.specs.Following.{IsFollowed, Told, number_by}
use Rattle.tfollow.specs.Modes.{accesses_in, mode_at}
use Rattle.tfollow.specs.Numbering.{AgentNumbers, Places}
use Rattle.tfollow.specs.Telling.{told_mode, told_of}
use Rattle.tfollow.proofs.Counting.{below-or-not}
use Rattle.tverdict.specs.Machines.{AreOwn}

-- nobody else knows of steps that were not begun
pub no_new_steps : (plan : Plan) (places : Places) (group : AgentNumbers) (agents : List machine.Agent)
    (steps : List ProcessStep) (check : Check) (state : State)
    → IsFollowed plan places group agents steps check state → HasNoNewSteps check
no_new_steps plan places group agents steps check state f =
    none-new (grouped (machine_of plan) (number_by group)) (accesses_in plan) (numbers_of places mode_at) f.entries
    f.seen.seen.table f.writers check f.seen.seen.follows

-- places come
pub own_placed : (check : Check) (number place : ℕ) (mode : Mode) (count : ℕ) → AreBegun check
    → IsOwnYet check number place mode → IsOwnYet (with_places count check) number place mode
own_placed check number place mode count begun own =
    (own_accesses_stay check number place mode begun own).by_places count

-- a slot is cleared, or an agent comes
module _ (check : Check) (begun : AreBegun check) (nodes : List Node) (number n : ℕ)
    (own : AreOwn nodes check number n) where
  pub own_cleared : (slot : ℕ) → AreOwn nodes (with_cleared slot check) number n
  own_cleared slot node note there none has =
      (own_accesses_stay check number note.place (told_mode note.mode) begun
      (own node note there none has)).by_cleared slot

  own_slot : AreOwn nodes (with_slot check) number n
  own_slot node note there none has =
      (own_accesses_stay check number note.place (told_mode note.mode) begun (own node note there none has)).by_slot

  pub own_grown : AreOwn nodes (with_slot (with_agent check)) number n
  own_grown node note there none has =
      (own_accesses_stay (with_slot check) number note.place (told_mode note.mode) begun
      (own_slot node note there none has)).by_agent

-- what is told of a note covers it
cover_all : (notes : List Note) (k : ℕ) (note : Note) → slice_get notes k ≡ Some note
    → HasCover (map told_of notes) note.place (told_mode note.mode)
cover_all [] k note at = absurd (none-some note at)
cover_all (x ∷ xs) zero note at =
    subst (λ (y : Note). HasCover (map told_of (x ∷ xs)) y.place (told_mode y.mode)) (same_Some x note at)
    (inl (refl, covers-self (told_mode x.mode)))
cover_all (x ∷ xs) (suc k) note at = inr (cover_all xs k note at)

cover_new : (notes : List Note) (earlier k : ℕ) (note : Note) → earlier ≤ k → slice_get notes k ≡ Some note
    → HasCover (map told_of (drop earlier notes)) note.place (told_mode note.mode)
cover_new [] earlier k note high at = absurd (none-some note at)
cover_new (x ∷ xs) zero k note high at = cover_all (x ∷ xs) k note at
cover_new (x ∷ xs) (suc earlier) zero note high at = absurd (omega (arith, high))
cover_new (x ∷ xs) (suc earlier) (suc k) note high at = cover_new xs earlier k note (omega (arith, high)) at

-- notes are told behind those of earlier steps
module _ (check after : Check) (number : ℕ) (notes : List Note) (earlier : ℕ) (low : number < length check.clocks)
    (none : HasNoNewSteps check)
    (own : (k : ℕ) (note : Note) → k < earlier → slice_get notes k ≡ Some note
    → IsOwnYet check number note.place (told_mode note.mode))
    (is : IsStep number (number ∷ []) (map told_of (drop earlier notes)) check after) where
  abbrev told : List Told
  told = map told_of (drop earlier notes)

  abbrev ToldOrOwn : Note → Type 0
  ToldOrOwn note =
      HasCover told note.place (told_mode note.mode) ⊎ IsOwnYet check number note.place (told_mode note.mode)

  told_or_own : (note : Note) → Contains notes note → ToldOrOwn note
  told_or_own note (k, within, e) = by (below-or-not k earlier)
    where
      at : slice_get notes k ≡ Some note
      at = slice_get-get_or notes k note within ∙ ap Some e

      by : (k < earlier) ⊎ (earlier ≤ k) → ToldOrOwn note
      by (inl before) = inr (own k note before at)
      by (inr high) = inl (cover_new notes earlier k note high at)

  pub each_told_or_own : All ToldOrOwn notes
  each_told_or_own k d within =
      let note : Note = slice_index_or notes k d in
      told_or_own note (k, within, get_or_from_slice_get notes k note note (slice_get-get_or notes k d within))

  -- and behind the step none needs to be told again
  pub own_after : (note : Note) → Contains notes note → IsOwnYet after number note.place (told_mode note.mode)
  own_after note has = by (told_or_own note has)
    where
      by : ToldOrOwn note → IsOwnYet after number note.place (told_mode note.mode)
      by (inl cover) =
          told_accesses_are_own check after number (number ∷ []) told note.place (told_mode note.mode) low
          (none.unknown number) is cover
      by (inr before) =
          (own_accesses_stay check number note.place (told_mode note.mode) none.begun before).by_step number
          (number ∷ []) told after low is
