-- Looks at words, and changes of them, that are noted.
use Rattle.std.proofs.Common.{◌≡◌, ℕ, ◌+◌, ◌*◌, refl, ap, sym, subst, ◌∙◌, true, false, Result, Ok, [], ◌∷◌, length}
use Rattle.std.proofs.Common.{arith}
use Rattle.std.proofs.lemmas.List.Elements.{All-cons, All-nil}
use Rattle.tagents.specs.WalkAccesses.{Looks, Changes}
use Rattle.tprocesses.specs.Places.{Place, WordAt, Sending}
use Rattle.tprocesses.specs.Values.{Value}
use Rattle.tprocesses.specs.Changes.{Change, kind_of}
use Rattle.tprocesses.specs.Parts.{Reason, Part, see, change}
use Rattle.tprocesses.specs.Touching.{Site}
use Rattle.tcertify.specs.declared.notes.Mode.{Mode}
use Rattle.tcertify.specs.declared.notes.Notes.{Notes}
use Rattle.tcertify.specs.declared.stored.Words.{Words}
use Rattle.tcertify.specs.Notes.{AreNoted, IsNoted, Keeps, Numbering, NumbersWords, Tells, tells_of_value}
use Rattle.tcertify.specs.Notes.{tells_of_outputs}
use Rattle.tcertify.specs.Running.{State, changed, run_part}
use Rattle.tcertify.specs.Walked.{Accessed, accesses, change_at, look_at}
use Rattle.tcertify.specs.Words.{IsTouched, Runs, site_of, standing, with_words}
use Rattle.tcertify.proofs.Running.{keeps_all, keeps_on, numbers_same}

-- the notes of words tell of an access
abbrev pub Has : Words → Accessed → Type 0
Has w a =
    (numbering : Numbering) → NumbersWords numbering w.number w.first_place → AreNoted numbering w.notes (a ∷ [])

module _ (w : Words) (k : ℕ) (mode : Mode) (t : Tells w.notes (w.first_place + k) mode) where
  has_one : (a : Accessed)
      → ((numbering : Numbering) → NumbersWords numbering w.number w.first_place
      → w.notes.is_lost ≡ false → IsNoted numbering w.notes.items.items a) → Has w a
  has_one a h numbering numbers e =
      All-cons (IsNoted numbering w.notes.items.items) a [] (h numbering numbers e)
      (All-nil (IsNoted numbering w.notes.items.items))

  -- of a look at the word
  pub has_look : tells_of_value mode Looks ≡ true → Has w (look_at (WordAt w.number k))
  has_look e =
      has_one (look_at (WordAt w.number k))
      (λ numbering numbers kept. t.noted kept numbering (look_at (WordAt w.number k)) (numbers.word k) e)

  -- of a look at its outputs
  pub has_outputs : tells_of_outputs mode Looks ≡ true → Has w (look_at (Sending w.number k))
  has_outputs e =
      has_one (look_at (Sending w.number k))
      (λ numbering numbers kept. t.noted kept numbering (look_at (Sending w.number k)) (numbers.sending k) e)

  -- of a change of the word
  pub has_change : (c : Change) → tells_of_value mode (Changes (kind_of c)) ≡ true
      → Has w (change_at (WordAt w.number k) c)
  has_change c e =
      has_one (change_at (WordAt w.number k) c)
      (λ numbering numbers kept. t.noted kept numbering (change_at (WordAt w.number k) c) (numbers.word k) e)

  -- of a change of its outputs
  pub has_count : (c : Change) → tells_of_outputs mode (Changes (kind_of c)) ≡ true
      → Has w (change_at (Sending w.number k) c)
  has_count c e =
      has_one (change_at (Sending w.number k) c)
      (λ numbering numbers kept. t.noted kept numbering (change_at (Sending w.number k) c) (numbers.sending k) e)

-- a look at a place that is noted
pub runs_seen : (w : Words) (p : Place) (v : Value) → ((rest : State) → standing w rest p ≡ v) → Has w (look_at p)
    → Runs (see p) w (Ok v) w
runs_seen w p v stands has =
    record {
      runs = λ rest. ap (λ (x : Value). (Ok x, standing w rest)) (stands rest);
      node = refl;
      first = refl;
      keeps = keeps_all w.notes;
      noted = λ numbering numbers rest. has numbering numbers;
    }

-- a change of a place that is noted
pub runs_changed : (w v : Words) (p : Place) (c : Change)
    → ((rest : State) → changed p c (standing w rest) ≡ standing v rest) → v.number ≡ w.number
    → v.first_place ≡ w.first_place → v.notes ≡ w.notes → Has w (change_at p c) → Runs (change p c) w (Ok tt) v
runs_changed w v p c leaves node first notes has =
    record {
      runs = λ rest. ap (λ (s : State). (Ok tt, s)) (leaves rest);
      node = node;
      first = first;
      keeps = subst (λ (n : Notes). Keeps w.notes n) (sym notes) (keeps_all w.notes);
      noted = λ numbering numbers rest. subst (λ (n : Notes). AreNoted numbering n (change_at p c ∷ [])) (sym notes)
          (has numbering numbers);
    }

-- a part behind a note
module _ {A : Type 0} (p : Part A) (w v u : Words) (k : ℕ) (mode : Mode) (r : Result A Reason)
    (t : IsTouched w k mode v) where
  stands_same : (rest : State) → standing w rest ≡ standing v rest
  stands_same rest = sym (λ i. with_words (t.number i) (t.items i) rest)

  pub runs_touched : Runs p v r u → Runs p w r u
  runs_touched h =
      record {
        runs = λ rest. ap (run_part p) (stands_same rest) ∙ h.runs rest;
        node = h.node ∙ t.number;
        first = h.first ∙ t.first;
        keeps = keeps_on w.notes v.notes u.notes t.keeps h.keeps;
        noted = λ numbering numbers rest.
            subst (λ (s : State). AreNoted numbering u.notes (accesses p s)) (sym (stands_same rest))
            (h.noted numbering (numbers_same numbering w.number v.number w.first_place v.first_place t.number t.first
            numbers) rest);
      }

-- it is the same node
pub site_touched : (w v : Words) (k : ℕ) (mode : Mode) → IsTouched w k mode v → site_of v ≡ site_of w
site_touched w v k mode t = λ i. record { number = t.number i; size = 4 * length (t.items i); kind = t.kind i }

-- a part at the same node, behind a note
pub runs_noted : {A : Type 0} (part : Site → Part A) (w v u : Words) (k : ℕ) (mode : Mode) (r : Result A Reason)
    → IsTouched w k mode v → Runs (part (site_of v)) v r u → Runs (part (site_of w)) w r u
runs_noted part w v u k mode r t h =
    runs_touched (part (site_of w)) w v u k mode r t
    (subst (λ (s : Site). Runs (part s) v r u) (site_touched w v k mode t) h)

-- a node of the same size has as many words
pub as_many_words : (w v : Words) → site_of v ≡ site_of w → length v.items.items ≡ length w.items.items
as_many_words w v e =
    let sizes : 4 * length v.items.items ≡ 4 * length w.items.items = ap (λ (s : Site). s.size) e in omega arith
