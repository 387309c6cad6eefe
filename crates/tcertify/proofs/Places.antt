-- The words of a node as places: what is seen there, and what a change makes of them.
use Rattle.std.proofs.Common.{◌≡◌, ◌<◌, ℕ, zero, suc, length, arith, refl, sym, subst, ap, ◌∙◌, Bool, true, false}
use Rattle.std.proofs.Common.{pos, List, [], ◌∷◌}
use Rattle.std.proofs.Common.{Option, Some, None, Result, Ok, Err, eq-eqb, ◌⊎◌, inl, inr}
use Rattle.std.specs.Prelude.{◌==◌, ◌&&◌, IfNone, IfSome, slice_get, slice_set, if◌then◌else◌}
use Rattle.std.proofs.lemmas.Bool.{cases_eq, eqb-true}
use Rattle.tword.specs.declared.breaks.Break.{Break}
use Rattle.tword.specs.declared.breaks.Break.TheVariants.{InTransit}
use Rattle.tword.specs.Stores.{Store}
use Rattle.tword.specs.Actions.{or_break}
use Rattle.tword.specs.Touches.{Mode, Reads, Writes, word_place_break}
use Rattle.tprocesses.specs.Places.{Place, WordAt, Sending, Standing, Ports, Half, LinkHalf, Error, HaltOnError}
use Rattle.tprocesses.specs.Places.{Unfinished, Life, Successions, Messages, Kept, Population, HasRun, FlagChanged}
use Rattle.tprocesses.specs.Values.{Use, Free, Saved, Receiving, Engaged, Choosing, Awaiting, Last, Spoilt, Value, Word}
use Rattle.tprocesses.specs.Values.{IsWord}
use Rattle.tprocesses.specs.Values.{IsAmount, word_in, amount_in}
use Rattle.tprocesses.specs.Changes.{Change, Put}
use Rattle.tprocesses.specs.Parts.{Reason, Breaks, Part, Doing, gives, stopping, done, see, change, unless, ◌>>=◌, ◌>>◌}
use Rattle.tprocesses.specs.Touching.{Site, free_cells, is_zero, settled, touch_word, touch_word_at, unsent}
use Rattle.tprocesses.specs.Touching.{word_number}
use Rattle.tcertify.specs.declared.cells.Cells.{Cells}
use Rattle.tcertify.specs.declared.notes.Mode as notes
use Rattle.tcertify.specs.declared.notes.Mode.TheVariants as noted
use Rattle.tcertify.specs.declared.stored.StoredWord.{StoredWord}
use Rattle.tcertify.specs.declared.stored.Words.{Words}
use Rattle.tcertify.specs.declared.word_use.WordUse.{WordUse}
use Rattle.tcertify.specs.declared.word_use.WordUse.TheVariants as uses
use Rattle.tcertify.specs.Cells.{cells_of}
use Rattle.tcertify.specs.Running.{State, changed, run_part}
use Rattle.tcertify.specs.Walked.{accesses, change_at, look_at}
use Rattle.tcertify.specs.Words.{IsSet, IsTouched, Runs, sending_of, sending_or, site_of, standing, use_of, with_words}
use Rattle.tcertify.specs.Words.{word_of, word_or}
use Rattle.tcertify.proofs.Noting.{Has, has_change, runs_changed, runs_seen, runs_touched, site_touched}
use Rattle.tcertify.proofs.Running.{runs_given, runs_on, runs_quiet, runs_stop, runs_stopping}

-- a choice by a test that holds
if_true : (b : Bool) (x y : Value) → b ≡ true → (if b then x else y) ≡ x
if_true b x y e = ap (λ (t : Bool). if t then x else y) e

-- what a set list has where it was set, and elsewhere
pub set_here : {X : Type 0} (xs : List X) (k : ℕ) (y x : X) → slice_get xs k ≡ Some x
    → slice_get (slice_set xs k y) k ≡ Some y
set_here [] k y x e = cc
set_here (z ∷ xs) zero y x e = refl
set_here (z ∷ xs) (suc k) y x e = set_here xs k y x e

pub set_elsewhere : {X : Type 0} (xs : List X) (k l : ℕ) (y : X) → (k ≡ l → ⊥)
    → slice_get (slice_set xs k y) l ≡ slice_get xs l
set_elsewhere [] k l y n = refl
set_elsewhere (z ∷ xs) zero zero y n = absurd (n refl)
set_elsewhere (z ∷ xs) zero (suc l) y n = refl
set_elsewhere (z ∷ xs) (suc k) zero y n = refl
set_elsewhere (z ∷ xs) (suc k) (suc l) y n = set_elsewhere xs k l y (λ e. n (ap suc e))

-- what stands at the place of a word that is there
module _ (w : Words) (k : ℕ) (x : StoredWord) (there : slice_get w.items.items k ≡ Some x) (rest : State) where
  pub word_stands : standing w rest (WordAt w.number k) ≡ IsWord (word_of x)
  word_stands =
      if_true (w.number == w.number) (word_or (slice_get w.items.items k) (rest (WordAt w.number k)))
      (rest (WordAt w.number k)) (eq-eqb w.number w.number refl)
      ∙ ap (λ (o : Option StoredWord). word_or o (rest (WordAt w.number k))) there

  pub sending_stands : standing w rest (Sending w.number k) ≡ IsAmount (pos x.sending)
  sending_stands =
      if_true (w.number == w.number) (sending_or (slice_get w.items.items k) (rest (Sending w.number k)))
      (rest (Sending w.number k)) (eq-eqb w.number w.number refl)
      ∙ ap (λ (o : Option StoredWord). sending_or o (rest (Sending w.number k))) there

-- what is seen of a word that programs may use, without an access
free_quiet : (u : Use) (cells : Store) (s : State) → accesses (free_cells u cells) s ≡ []
free_quiet Free cells s = refl
free_quiet Saved cells s = refl
free_quiet Receiving cells s = refl
free_quiet Engaged cells s = refl
free_quiet Choosing cells s = refl
free_quiet Awaiting cells s = refl
free_quiet (Last p) cells s = refl
free_quiet Spoilt cells s = refl

-- a look at the outputs of a word
module _ (w : Words) (k : ℕ) (x : StoredWord) (there : slice_get w.items.items k ≡ Some x)
    (sent : Has w (look_at (Sending w.number k))) where
  abbrev tested : Bool → Doing
  tested t = if t then done else stopping (Breaks InTransit)

  abbrev sent_on : Value → Doing
  sent_on v = tested (is_zero (amount_in v))

  pub outputs_seen : (r : Result (Unit {0}) Reason) (t : Bool) → (x.sending == 0) ≡ t → Runs (tested t) w r w
      → Runs (unsent (site_of w) k) w r w
  outputs_seen r t e h =
      runs_on (see (Sending w.number k)) sent_on w w w (IsAmount (pos x.sending)) r
      (runs_seen w (Sending w.number k) (IsAmount (pos x.sending)) (sending_stands w k x there) sent)
      (subst (λ (b : Bool). Runs (tested b) w r w) (sym e) h)

-- a word that programs may use is touched
module _ (w : Words) (k : ℕ) (x : StoredWord) (there : slice_get w.items.items k ≡ Some x)
    (seen : Has w (look_at (WordAt w.number k))) where
  -- what follows the look at the word
  abbrev pub look_on : Mode → Store → Part Store
  look_on mode cells = settled (site_of w) mode k >> gives cells

  abbrev used_on : Mode → Value → Part Store
  used_on mode v = free_cells (word_in v).used (word_in v).cells >>= look_on mode

  pub look_goes : (mode : Mode) (r : Result Store Reason) (v : Words)
      → Runs (free_cells (use_of x.used) (cells_of x.cells) >>= look_on mode) w r v
      → Runs (touch_word (site_of w) mode k) w r v
  look_goes mode r v h =
      runs_on (see (WordAt w.number k)) (used_on mode) w w v (IsWord (word_of x)) r
      (runs_seen w (WordAt w.number k) (IsWord (word_of x)) (word_stands w k x there) seen) h

  -- it may not be used
  pub touch_stops : (mode : Mode) (why : Reason)
      → ((cells : Store) (s : State) → run_part (free_cells (use_of x.used) cells) s ≡ (Err why, s))
      → Runs (touch_word (site_of w) mode k) w (Err why) w
  touch_stops mode why busy =
      look_goes mode (Err why) w
      (runs_stop (free_cells (use_of x.used) (cells_of x.cells)) (look_on mode) w w why
      (runs_quiet (free_cells (use_of x.used) (cells_of x.cells)) w (Err why) (busy (cells_of x.cells))
      (free_quiet (use_of x.used) (cells_of x.cells))))

  -- it is looked at, with what follows
  pub touch_on : (mode : Mode) (r : Result Store Reason)
      → ((cells : Store) (s : State) → run_part (free_cells (use_of x.used) cells) s ≡ (Ok cells, s))
      → Runs (look_on mode (cells_of x.cells)) w r w → Runs (touch_word (site_of w) mode k) w r w
  touch_on mode r free next =
      look_goes mode r w
      (runs_on (free_cells (use_of x.used) (cells_of x.cells)) (look_on mode) w w w (cells_of x.cells) r
      (runs_quiet (free_cells (use_of x.used) (cells_of x.cells)) w (Ok (cells_of x.cells)) (free (cells_of x.cells))
      (free_quiet (use_of x.used) (cells_of x.cells))) next)

  -- it is read
  pub reads : ((cells : Store) (s : State) → run_part (free_cells (use_of x.used) cells) s ≡ (Ok cells, s))
      → Runs (touch_word (site_of w) Reads k) w (Ok (cells_of x.cells)) w
  reads free = touch_on Reads (Ok (cells_of x.cells)) free (runs_given (cells_of x.cells) w)

  module _ (sent : Has w (look_at (Sending w.number k))) where
    -- it is written
    pub writes : ((cells : Store) (s : State) → run_part (free_cells (use_of x.used) cells) s ≡ (Ok cells, s))
        → (x.sending == 0) ≡ true → Runs (touch_word (site_of w) Writes k) w (Ok (cells_of x.cells)) w
    writes free none =
        touch_on Writes (Ok (cells_of x.cells)) free
        (runs_on (settled (site_of w) Writes k) (λ _. gives (cells_of x.cells)) w w w tt (Ok (cells_of x.cells))
        (outputs_seen w k x there sent (Ok tt) true none (runs_given tt w)) (runs_given (cells_of x.cells) w))

    pub writes_in_transit :
        ((cells : Store) (s : State) → run_part (free_cells (use_of x.used) cells) s ≡ (Ok cells, s))
        → (x.sending == 0) ≡ false → Runs (touch_word (site_of w) Writes k) w (Err (Breaks InTransit)) w
    writes_in_transit free some =
        touch_on Writes (Err (Breaks InTransit)) free
        (runs_stop (settled (site_of w) Writes k) (λ _. gives (cells_of x.cells)) w w (Breaks InTransit)
        (outputs_seen w k x there sent (Err (Breaks InTransit)) false some (runs_stopping (Breaks InTransit) w)))

-- a word that was noted is touched
pub touched_word : (w v : Words) (k : ℕ) (mode : Mode) (note : notes.Mode) (r : Result Store Reason)
    → IsTouched w k note v → Runs (touch_word (site_of v) mode k) v r v → Runs (touch_word (site_of w) mode k) w r v
touched_word w v k mode note r t h =
    runs_touched (touch_word (site_of w) mode k) w v v k note r t
    (subst (λ (s : Site). Runs (touch_word s mode k) v r v) (site_touched w v k note t) h)

-- a word is set: the place changes, and no other one
module _ (n : ℕ) (ws : List StoredWord) (k : ℕ) (x y : StoredWord) (there : slice_get ws k ≡ Some x) where
  word_set : (b : Bool) (l : ℕ) (d : Value) → (if b then word_or (slice_get (slice_set ws k y) l) d else d)
      ≡ (if b && (k == l) then IsWord (word_of y) else (if b then word_or (slice_get ws l) d else d))
  word_set false l d = refl
  word_set true l d = by (k == l) refl
    where
      by : (t : Bool) → (k == l) ≡ t → word_or (slice_get (slice_set ws k y) l) d
          ≡ (if t then IsWord (word_of y) else word_or (slice_get ws l) d)
      by true e =
          ap (λ (m : ℕ). word_or (slice_get (slice_set ws k y) m) d) (sym (eqb-true k l e))
          ∙ ap (λ (o : Option StoredWord). word_or o d) (set_here ws k y x there)
      by false e =
          ap (λ (o : Option StoredWord). word_or o d)
          (set_elsewhere ws k l y (λ same. cc (e, eq-eqb k l same)))

  sending_set : y.sending ≡ x.sending → (b : Bool) (l : ℕ) (d : Value)
      → (if b then sending_or (slice_get (slice_set ws k y) l) d else d)
      ≡ (if b then sending_or (slice_get ws l) d else d)
  sending_set same false l d = refl
  sending_set same true l d = by (cases_eq k l)
    where
      by : (k ≡ l) ⊎ (k ≡ l → ⊥) → sending_or (slice_get (slice_set ws k y) l) d ≡ sending_or (slice_get ws l) d
      by (inl e) =
          ap (λ (m : ℕ). sending_or (slice_get (slice_set ws k y) m) d) (sym e)
          ∙ ap (λ (o : Option StoredWord). sending_or o d) (set_here ws k y x there)
          ∙ ap (λ (m : ℕ). IsAmount (pos m)) same
          ∙ ap (λ (o : Option StoredWord). sending_or o d) (sym there)
          ∙ ap (λ (m : ℕ). sending_or (slice_get ws m) d) e
      by (inr ne) = ap (λ (o : Option StoredWord). sending_or o d) (set_elsewhere ws k l y ne)

  pub place_set : y.sending ≡ x.sending → (rest : State) (p : Place) → with_words n (slice_set ws k y) rest p
      ≡ changed (WordAt n k) (Put (IsWord (word_of y))) (with_words n ws rest) p
  place_set same rest (WordAt m l) = word_set (n == m) l (rest (WordAt m l))
  place_set same rest (Sending m l) = sending_set same (n == m) l (rest (Sending m l))
  place_set same rest (Standing z) = refl
  place_set same rest (Ports z) = refl
  place_set same rest (Half m l z) = refl
  place_set same rest (LinkHalf z l) = refl
  place_set same rest (Unfinished z) = refl
  place_set same rest (Error m) = refl
  place_set same rest (HaltOnError m) = refl
  place_set same rest (Life m l) = refl
  place_set same rest (Successions m l) = refl
  place_set same rest (Messages z) = refl
  place_set same rest (Kept z) = refl
  place_set same rest (Population m) = refl
  place_set same rest (HasRun m l) = refl
  place_set same rest (FlagChanged m) = refl

  pub state_set : y.sending ≡ x.sending → (rest : State)
      → with_words n (slice_set ws k y) rest ≡ changed (WordAt n k) (Put (IsWord (word_of y))) (with_words n ws rest)
  state_set same rest = λ i p. place_set same rest p i

-- a word of these words is set
module _ (w v : Words) (k : ℕ) (x : StoredWord) (cells : Cells) (used : WordUse)
    (there : slice_get w.items.items k ≡ Some x) (s : IsSet w k cells used v) where
  -- what is put there
  abbrev pub left : Word
  left = record { cells = cells_of cells; used = use_of used }

  pub set_state : (rest : State) → changed (WordAt w.number k) (Put (IsWord left)) (standing w rest) ≡ standing v rest
  set_state rest =
      sym (state_set w.number w.items.items k x
      (record { cells = cells; used = used; sending = sending_of (slice_get w.items.items k) }) there
      (ap sending_of there) rest)
      ∙ sym (λ i. with_words (s.number i) (s.items i) rest)

  pub puts : Has w (change_at (WordAt w.number k) (Put (IsWord left)))
      → Runs (change (WordAt w.number k) (Put (IsWord left))) w (Ok tt) v
  puts has = runs_changed w v (WordAt w.number k) (Put (IsWord left)) set_state s.number s.first s.notes has

-- a place in a list has an item
pub there_is : {X : Type 0} (xs : List X) (k : ℕ) → k < length xs → (x : X) × (slice_get xs k ≡ Some x)
there_is [] k h = absurd (omega arith)
there_is (x ∷ xs) zero h = (x, refl)
there_is (x ∷ xs) (suc k) h = there_is xs k (omega arith)

-- a word that was noted is changed, whatever the change
module _ (w v u : Words) (k : ℕ) (note : notes.Mode) (c : Change) (t : IsTouched w k note v) where
  pub touched_change : Runs (change (WordAt v.number k) c) v (Ok tt) u → Runs (change (WordAt w.number k) c) w (Ok tt) u
  touched_change h =
      runs_touched (change (WordAt w.number k) c) w v u k note (Ok tt) t
      (subst (λ (n : ℕ). Runs (change (WordAt n k) c) v (Ok tt) u) t.number h)

-- a word is noted as put, and put
pub puts_noted : (w v u : Words) (k : ℕ) (cells : Cells) (used : WordUse) → k < length w.items.items
    → IsTouched w k noted.Puts v → IsSet v k cells used u
    → Runs (change (WordAt w.number k) (Put (IsWord (record { cells = cells_of cells; used = use_of used })))) w
    (Ok tt) u
puts_noted w v u k cells used inside t s =
    let x = there_is v.items.items k (subst (λ (n : ℕ). k < n) (sym (ap length t.items)) inside) in
    let c : Change = Put (IsWord (record { cells = cells_of cells; used = use_of used })) in
    touched_change w v u k noted.Puts c t
    (puts v u k x.0 cells used x.1 s (has_change v k noted.Puts t.tells c refl))

-- an answer of a check of where a word lies
pub broken : (o : Option Break) (n : ℕ) (b : Break) → or_break o n ≡ Err b → o ≡ Some b
broken None n b e = cc
broken (Some x) n b e = cc

pub passed : (o : Option Break) (n k : ℕ) → or_break o n ≡ Ok k → (o ≡ None) × (n ≡ k)
passed None n k e = (refl, cc)
passed (Some x) n k e = cc

-- the word at an address is touched
module _ (w : Words) (mode : Mode) (a : ℕ) where
  abbrev by_break : Option Break → ℕ → Part Store
  by_break o n = unless o >> touch_word (site_of w) mode n

  pub misplaced : (b : Break) → or_break (word_place_break (site_of w).size a) (word_number a) ≡ Err b
      → Runs (touch_word_at (site_of w) mode a) w (Err (Breaks b)) w
  misplaced b e =
      subst (λ (o : Option Break). Runs (by_break o (word_number a)) w (Err (Breaks b)) w)
      (sym (broken (word_place_break (site_of w).size a) (word_number a) b e)) (runs_stopping (Breaks b) w)

  pub placed : (v : Words) (k : ℕ) (r : Result Store Reason)
      → or_break (word_place_break (site_of w).size a) (word_number a) ≡ Ok k
      → Runs (touch_word (site_of w) mode k) w r v → Runs (touch_word_at (site_of w) mode a) w r v
  placed v k r e h = let o = passed (word_place_break (site_of w).size a) (word_number a) k e in
      subst (λ (b : Option Break). Runs (by_break b (word_number a)) w r v) (sym o.0)
      (subst (λ (n : ℕ). Runs (touch_word (site_of w) mode n) w r v) (sym o.1) h)

-- the number of a word that is there
pub word_number_is : (w : Words) (a k : ℕ) → or_break (word_place_break (site_of w).size a) (word_number a) ≡ Ok k
    → word_number a ≡ k
word_number_is w a k e = (passed (word_place_break (site_of w).size a) (word_number a) k e).1

-- a word that is free may be used
pub free_so : (x : StoredWord) → x.used ≡ uses.Free
    → (cells : Store) (s : State) → run_part (free_cells (use_of x.used) cells) s ≡ (Ok cells, s)
free_so x e cells s =
    subst (λ (u : WordUse). run_part (free_cells (use_of u) cells) s ≡ (Ok cells, s)) (sym e) refl

-- what is told of a value, if there is one
pub told_if : {X : Type 0} {P : X → Type 0} (o : Option X) → ((x : X) → o ≡ Some x → P x) → IfSome o P
told_if None h = tt
told_if (Some x) h = h x refl

-- what holds in any case, where there is no value
pub none_so : {X P : Type 0} (o : Option X) → P → IfNone o P
none_so None p = p
none_so (Some x) p = tt
