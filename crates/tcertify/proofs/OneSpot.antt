-- Calls on what stands at one place alone.
use Rattle.std.proofs.Common.{◌≡◌, ℕ, ◌∙◌, refl, sym, ap, subst, Bool, true, false, [], ◌∷◌, Ok, Err}
use Rattle.std.specs.Prelude.{All, if◌then◌else◌}
use Rattle.std.proofs.lemmas.List.Elements.{All-cons, All-nil}
use Rattle.tagents.specs.WalkAccesses as walks
use Rattle.tprocesses.specs.Changes.{Put, Puts}
use Rattle.tprocesses.specs.Parts.{Part, Reason, gives, stopping, seeing, changing}
use Rattle.tprocesses.specs.Places.{Place, same_place}
use Rattle.tprocesses.specs.Values.{Value}
use Rattle.tcertify.specs.declared.notes.Mode.TheVariants as noted
use Rattle.tcertify.specs.declared.notes.Notes.{Notes}
use Rattle.tcertify.specs.Ends.{RunsThere, Spot, standing_at}
use Rattle.tcertify.specs.Notes.{IsNoted, Keeps, Numbering, Tells, tells_of}
use Rattle.tcertify.specs.Running.{State, changed, run_part}
use Rattle.tcertify.specs.Walked.{accesses, change_at, look_at}
use Rattle.tcertify.proofs.Telling.{same_place-self}

-- what stands at the place
there_by : (b : Bool) (v w : Value) → b ≡ true → (if b then v else w) ≡ v
there_by true v w e = refl
there_by false v w e = cc

there : (p : Place) (v : Value) (rest : State) → standing_at p v rest p ≡ v
there p v rest = there_by (same_place p p) v (rest p) (same_place-self p)

-- what is put there takes its place
put_by : (b : Bool) (v w x : Value) → (if b then w else (if b then v else x)) ≡ (if b then w else x)
put_by true v w x = refl
put_by false v w x = refl

put_there : (p : Place) (v w : Value) (rest : State) → changed p (Put w) (standing_at p v rest) ≡ standing_at p w rest
put_there p v w rest = λ i q. put_by (same_place p q) v w (rest q) i

module _ {A : Type 0} (p : Place) (place : ℕ) (next : Value → Part A) (old : Spot) (notes : Notes)
    (keeps : Keeps old.notes notes) (tells : Tells notes place noted.Puts)
    (looks : tells_of noted.Puts p walks.Looks ≡ true) where
  -- a look at the place is noted
  look_noted : (numbering : Numbering) → numbering p ≡ place → notes.is_lost ≡ false
      → IsNoted numbering notes.items.items (look_at p)
  look_noted numbering at kept = tells.noted kept numbering (look_at p) at looks

  -- the part stops behind the look
  pub stops_there : (why : Reason) → next old.value ≡ stopping why
      → RunsThere p place (seeing p next) old (Err why) (record { value = old.value; notes = notes })
  stops_there why e =
      record {
        runs = λ rest. ap (λ (v : Value). run_part (next v) (standing_at p old.value rest)) (there p old.value rest)
            ∙ ap (λ (q : Part A). run_part q (standing_at p old.value rest)) e;
        keeps = keeps;
        noted = λ numbering at rest kept.
            subst (λ (v : Value). All (IsNoted numbering notes.items.items)
            (look_at p ∷ accesses (next v) (standing_at p old.value rest))) (sym (there p old.value rest))
            (subst (λ (q : Part A). All (IsNoted numbering notes.items.items)
            (look_at p ∷ accesses q (standing_at p old.value rest))) (sym e)
            (All-cons (IsNoted numbering notes.items.items) (look_at p) [] (look_noted numbering at kept)
            (All-nil (IsNoted numbering notes.items.items))));
      }

  -- the part puts a value there, and answers
  pub puts_there : (puts : tells_of noted.Puts p (walks.Changes Puts) ≡ true) (w : Value) (x : A)
      → next old.value ≡ changing p (Put w) (gives x)
      → RunsThere p place (seeing p next) old (Ok x) (record { value = w; notes = notes })
  puts_there puts w x e =
      record {
        runs = λ rest. ap (λ (v : Value). run_part (next v) (standing_at p old.value rest)) (there p old.value rest)
            ∙ ap (λ (q : Part A). run_part q (standing_at p old.value rest)) e
            ∙ ap (λ (s : State). (Ok x, s)) (put_there p old.value w rest);
        keeps = keeps;
        noted = λ numbering at rest kept.
            subst (λ (v : Value). All (IsNoted numbering notes.items.items)
            (look_at p ∷ accesses (next v) (standing_at p old.value rest))) (sym (there p old.value rest))
            (subst (λ (q : Part A). All (IsNoted numbering notes.items.items)
            (look_at p ∷ accesses q (standing_at p old.value rest))) (sym e)
            (All-cons (IsNoted numbering notes.items.items) (look_at p) (change_at p (Put w) ∷ [])
            (look_noted numbering at kept)
            (All-cons (IsNoted numbering notes.items.items) (change_at p (Put w)) []
            (tells.noted kept numbering (change_at p (Put w)) at puts)
            (All-nil (IsNoted numbering notes.items.items)))));
      }
