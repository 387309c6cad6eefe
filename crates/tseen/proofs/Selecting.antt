-- A guard that is disabled is chosen where it is the first that is ready.
use Rattle.tprocesses.specs.Standing.{goes_on}
use Rattle.std.proofs.Common.{◌≡◌, ℕ, ◌+◌, ◌*◌, ◌%◌, refl, sym, ap, subst, ◌∙◌, Bool, true, false, arith}
use Rattle.std.proofs.Common.{Some, None, ◌&&◌}
use Rattle.std.specs.Prelude.{◌==◌, if◌then◌else◌}
use Rattle.std.specs.Int.{w32, from_le_bytes}
use Rattle.tword.specs.Words.{most_neg}
use Rattle.tword.specs.Stores.{Store, word_at, shown}
use Rattle.tword.specs.Touches.{Writes}
use Rattle.tproc.specs.Alternatives.{none_selected}
use Rattle.tplan.specs.declared.plan.Plan.{Plan}
use Rattle.tprocesses.specs.Places.{Name, WordAt}
use Rattle.tprocesses.specs.Values.{Context, Runs, IsWord}
use Rattle.tprocesses.specs.Changes.{Put, free_word, known_word, are_known}
use Rattle.tprocesses.specs.Parts.{gives, ◌>>=◌}
use Rattle.tprocesses.specs.Standing.{known}
use Rattle.tprocesses.specs.Touching.{Site, word_number, touch_word_at}
use Rattle.tprocesses.specs.Choosing.{is_first, sets_offset, answers, selects}
use Rattle.tseen.specs.Known.{Knows}
use Rattle.tseen.proofs.After.{State, After, changed, after_bind}
use Rattle.tseen.proofs.Cells.{word_of, Tells}
use Rattle.tseen.proofs.Finished.{StandsNow, stands_then}
use Rattle.tseen.proofs.SkipsSeen.{known_then}
use Rattle.tseen.proofs.Stored.{word_known}
use Rattle.tseen.proofs.Writing.{IsWordTouched, touch_word_at_then}

-- the offset of the guard is kept if it is chosen
abbrev pub with_offset : (chosen : Bool) → (n w offset : ℕ) → State → State
with_offset chosen n w offset u =
    if chosen then changed (WordAt n (word_number w)) (Put (IsWord (free_word offset))) u else u

-- it is, if none was before it
abbrev pub is_chosen : (ready : Bool) → Store → ℕ → Bool
is_chosen ready store w = ready && (word_at store w == none_selected)

module _ (p : Plan) (site : Site) (whole : site.size % 4 ≡ 0) (x : Name) (context : Context) (u : State)
    (store : Store) (tells : Tells u site.number site.size store) (offset : ℕ) (knows : Knows context.a offset)
    (Q : Unit {0} → State → Type 0) where
  abbrev n : ℕ
  n = site.number

  abbrev w : ℕ
  w = context.wptr

  selected : (ready : Bool) (s : State) (R : Bool → State → Type 0) → IsWordTouched site whole u Writes w
      → R (is_chosen ready store w) s → After (is_first ready (known_word (word_of u n (word_number w)).cells)) s R
  selected false s R t h = h
  selected true s R t h = by (are_known (word_of u n (word_number w)).cells) refl
    where
      at : most_neg + 4 * word_number w ≡ w
      at = omega (arith, t.at, t.above)

      by : (b : Bool) → are_known (word_of u n (word_number w)).cells ≡ b
          → After (known (if b then Some (from_le_bytes w32 (shown (word_of u n (word_number w)).cells)) else None)
          >>= (λ v. gives (v == none_selected))) s R
      by false e = tt
      by true e =
          subst (λ v. R (v == none_selected) s) (sym (word_known n site.size u store (word_number w) tells t.within e
          ∙ ap (word_at store) at)) h

  pub selects_then : (ready : Bool)
      → (IsWordTouched site whole u Writes w → (s' : State)
      → StandsNow site x (Runs (answers (is_chosen ready store w) context))
      (with_offset (is_chosen ready store w) n w offset u) s' → Q tt s')
      → After (selects site x context ready) u Q
  selects_then ready h =
      after_bind (touch_word_at site Writes w) _ u Q (touch_word_at_then site whole Writes w u _ (λ t.
      after_bind (is_first ready (known_word (word_of u n (word_number w)).cells)) _ u Q
      (selected ready u _ t (put t (is_chosen ready store w) (h t)))))
    where
      put : IsWordTouched site whole u Writes w → (chosen : Bool)
          → ((s' : State) → StandsNow site x (Runs (answers chosen context)) (with_offset chosen n w offset u) s'
          → Q tt s')
          → After (sets_offset site context chosen >>= (λ _. goes_on x (answers chosen context))) u Q
      put t false h = stands_then site p x (Runs (answers false context)) u Q h
      put t true h =
          after_bind (sets_offset site context true) _ u Q
          (after_bind (known context.a) _ u _ (known_then context.a offset u _ knows
          (stands_then site p x (Runs (answers true context)) (with_offset true n w offset u) Q h)))
