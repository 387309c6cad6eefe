-- Messages of sources and sinks.
use Rattle.std.proofs.Common.{◌≡◌, ◌≤◌, ℕ, zero, suc, ◌-◌, refl, sym, ap, subst, arith, Bool, true, false}
use Rattle.std.proofs.Common.{List, [], ◌∷◌, ◌++◌}
use Rattle.std.proofs.Common.{Ok, Err, length}
use Rattle.std.specs.Prelude.{drop, nat_le}
use Rattle.tplan.specs.declared.plan.End.{End}
use Rattle.tword.specs.Stores.{Store, as_cells}
use Rattle.tprocesses.specs.Changes.{Put}
use Rattle.tprocesses.specs.LinkMessages.{first_message, keeps, sink_receives, source_sends}
use Rattle.tprocesses.specs.Parts.{Doing, FullSink, HasNoStep, require, change, ◌>>◌}
use Rattle.tprocesses.specs.Places.{Kept, Messages}
use Rattle.tprocesses.specs.Values.{AreKept, AreMessages}
use Rattle.tcertify.specs.declared.notes.Mode.TheVariants as noted
use Rattle.tcertify.specs.declared.notes.Notes.{Notes}
use Rattle.tcertify.specs.Ends.{RunsThere}
use Rattle.tcertify.specs.Notes.{Keeps, Tells}
use Rattle.tcertify.proofs.OneSpot.{puts_there, stops_there}

-- behind the last one nothing is left
pub none_left : {X : Type 0} (xs : List X) (n : ℕ) → length xs ≤ n → drop n xs ≡ []
none_left [] zero h = refl
none_left [] (suc n) h = refl
none_left (x ∷ xs) zero h = absurd (omega (arith, h))
none_left (x ∷ xs) (suc n) h = none_left xs n (omega (arith, h))

-- a source sends
module _ (e : End) (place : ℕ) (before notes : Notes) (kept : Keeps before notes)
    (tells : Tells notes place noted.Puts) where
  pub source_is_done : (left : List (List ℕ)) → left ≡ []
      → RunsThere (Messages e) place (source_sends e) (record { value = AreMessages left; notes = before }) (Err
      HasNoStep)
      (record { value = AreMessages left; notes = notes })
  source_is_done left none =
      stops_there (Messages e) place (first_message e) (record { value = AreMessages left; notes = before }) notes kept
      tells
      refl HasNoStep (ap (λ (l : List (List ℕ)). first_message e (AreMessages l)) none)

  pub source_sends_one : (left rest : List (List ℕ)) (m : List ℕ) (sent : Store) → left ≡ m ∷ rest → sent ≡ as_cells m
      → RunsThere (Messages e) place (source_sends e) (record { value = AreMessages left; notes = before }) (Ok sent)
      (record { value = AreMessages rest; notes = notes })
  source_sends_one left rest m sent first same =
      subst (λ (s : Store). RunsThere (Messages e) place (source_sends e)
      (record { value = AreMessages left; notes = before }) (Ok s) (record { value = AreMessages rest; notes = notes }))
      (sym same)
      (puts_there (Messages e) place (first_message e) (record { value = AreMessages left; notes = before }) notes kept
      tells refl refl (AreMessages rest) (as_cells m)
      (ap (λ (l : List (List ℕ)). first_message e (AreMessages l)) first))

  -- a sink receives
  module _ (room : ℕ) (messages : List Store) (message : Store) where
    abbrev keeps_if : Bool → Doing
    keeps_if t =
        require t FullSink
        >> change (Kept e) (Put (AreKept (room - length message) (messages ++ message ∷ [])))

    pub sink_is_full : nat_le (length message) room ≡ false
        → RunsThere (Kept e) place (sink_receives message e) (record { value = AreKept room messages; notes = before })
        (Err FullSink) (record { value = AreKept room messages; notes = notes })
    sink_is_full full =
        stops_there (Kept e) place (keeps e message) (record { value = AreKept room messages; notes = before }) notes
        kept
        tells refl FullSink (ap keeps_if full)

    pub sink_keeps : (left : ℕ) (all : List Store) → nat_le (length message) room ≡ true → left ≡ room - length message
        → all ≡ messages ++ message ∷ []
        → RunsThere (Kept e) place (sink_receives message e) (record { value = AreKept room messages; notes = before })
        (Ok tt) (record { value = AreKept left all; notes = notes })
    sink_keeps left all fits e_left e_all =
        subst (λ (n : ℕ). RunsThere (Kept e) place (sink_receives message e)
        (record { value = AreKept room messages; notes = before }) (Ok tt)
        (record { value = AreKept n all; notes = notes })) (sym e_left)
        (subst (λ (l : List Store). RunsThere (Kept e) place (sink_receives message e)
        (record { value = AreKept room messages; notes = before }) (Ok tt)
        (record { value = AreKept (room - length message) l; notes = notes })) (sym e_all)
        (puts_there (Kept e) place (keeps e message) (record { value = AreKept room messages; notes = before }) notes
        kept
        tells refl refl (AreKept (room - length message) (messages ++ message ∷ [])) tt (ap keeps_if fits)))
