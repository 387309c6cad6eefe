-- Parts that are run one after another, and what they access.
use Rattle.std.proofs.Common.{◌≡◌, ◌<◌, ℕ, refl, ap, sym, subst, ◌∙◌, Result, Ok, Err, List, [], ◌∷◌, ◌++◌, append-nil}
use Rattle.std.specs.Prelude.{All}
use Rattle.std.proofs.lemmas.List.Elements.{All-append, All-nil, All-weaker}
use Rattle.tprocesses.specs.Parts.{Reason, Part, gives, stopping, seeing, changing, telling, ◌>>=◌}
use Rattle.tcertify.specs.declared.notes.Notes.{Notes}
use Rattle.tcertify.specs.declared.stored.Words.{Words}
use Rattle.tcertify.specs.Notes.{AreNoted, IsNoted, Keeps, Numbering, NumbersWords}
use Rattle.tcertify.specs.Running.{State, changed, run_part}
use Rattle.tcertify.specs.Walked.{Accessed, accesses, change_at, look_at}
use Rattle.tcertify.specs.Words.{Runs, standing}

-- what follows an answer
abbrev pub run_next : {A B : Type 0} → (A → Part B) → Result A Reason × State → Result B Reason × State
run_next f (Ok x, s) = run_part (f x) s
run_next f (Err why, s) = (Err why, s)

-- a part and one that takes its answer
pub run_bind : {A B : Type 0} (p : Part A) (f : A → Part B) (s : State)
    → run_part (p >>= f) s ≡ run_next f (run_part p s)
run_bind (gives x) f s = refl
run_bind (stopping why) f s = refl
run_bind (seeing p next) f s = run_bind (next (s p)) f s
run_bind (changing p c next) f s = run_bind next f (changed p c s)
run_bind (telling m next) f s = run_bind next f s

-- so where the first answers, and where it stops
pub run_on : {A B : Type 0} (p : Part A) (f : A → Part B) (s t : State) (x : A) → run_part p s ≡ (Ok x, t)
    → run_part (p >>= f) s ≡ run_part (f x) t
run_on p f s t x e = run_bind p f s ∙ ap (run_next f) e

pub run_stops : {A B : Type 0} (p : Part A) (f : A → Part B) (s t : State) (why : Reason) → run_part p s ≡ (Err why, t)
    → run_part (p >>= f) s ≡ (Err why, t)
run_stops p f s t why e = run_bind p f s ∙ ap (run_next f) e

-- what is accessed behind an answer
abbrev pub accesses_next : {A B : Type 0} → (A → Part B) → Result A Reason × State → List Accessed
accesses_next f (Ok x, s) = accesses (f x) s
accesses_next f (Err why, s) = []

-- a part and one that takes its answer access what both do
pub accesses_bind : {A B : Type 0} (p : Part A) (f : A → Part B) (s : State)
    → accesses (p >>= f) s ≡ accesses p s ++ accesses_next f (run_part p s)
accesses_bind (gives x) f s = refl
accesses_bind (stopping why) f s = refl
accesses_bind (seeing p next) f s = ap (λ (a : List Accessed). look_at p ∷ a) (accesses_bind (next (s p)) f s)
accesses_bind (changing p c next) f s =
    ap (λ (a : List Accessed). change_at p c ∷ a) (accesses_bind next f (changed p c s))
accesses_bind (telling m next) f s = accesses_bind next f s

pub accesses_on : {A B : Type 0} (p : Part A) (f : A → Part B) (s t : State) (x : A) → run_part p s ≡ (Ok x, t)
    → accesses (p >>= f) s ≡ accesses p s ++ accesses (f x) t
accesses_on {A} p f s t x e =
    accesses_bind p f s ∙ ap (λ (r : Result A Reason × State). accesses p s ++ accesses_next f r) e

pub accesses_stop : {A B : Type 0} (p : Part A) (f : A → Part B) (s t : State) (why : Reason)
    → run_part p s ≡ (Err why, t) → accesses (p >>= f) s ≡ accesses p s
accesses_stop {A} p f s t why e =
    accesses_bind p f s ∙ ap (λ (r : Result A Reason × State). accesses p s ++ accesses_next f r) e
    ∙ append-nil (accesses p s)

-- parts in a row, and a part whose answer is handed on
pub in_a_row : {A B C : Type 0} (p : Part A) (f : A → Part B) (g : B → Part C)
    → (p >>= f) >>= g ≡ p >>= (λ x. f x >>= g)
in_a_row (gives x) f g = refl
in_a_row (stopping why) f g = refl
in_a_row (seeing p next) f g = λ i. seeing p (λ v. in_a_row (next v) f g i)
in_a_row (changing p c next) f g = λ i. changing p c (in_a_row next f g i)
in_a_row (telling m next) f g = λ i. telling m (in_a_row next f g i)

pub through : {A B C : Type 0} (p : Part A) (f : A → B) (g : B → Part C)
    → p >>= (λ x. g (f x)) ≡ (p >>= (λ x. gives (f x))) >>= g
through p f g = sym (in_a_row p (λ x. gives (f x)) g)

-- notes that are kept twice
pub keeps_on : (old between new : Notes) → Keeps old between → Keeps between new → Keeps old new
keeps_on old between new a b =
    record {
      lost = λ e. a.lost (b.lost e);
      notes = λ e numbering access h. b.notes e numbering access (a.notes (b.lost e) numbering access h);
      earlier = b.earlier ∙ a.earlier;
      stay = λ k note low at. b.stay k note (subst (λ (n : ℕ). k < n) (sym a.earlier) low) (a.stay k note low at);
    }

pub keeps_all : (notes : Notes) → Keeps notes notes
keeps_all notes =
    record { lost = λ e. e; notes = λ e numbering access h. h; earlier = refl; stay = λ k note low at. at }

-- accesses that were noted
pub noted_still : (numbering : Numbering) (old new : Notes) (told : List Accessed) → Keeps old new
    → AreNoted numbering old told → AreNoted numbering new told
noted_still numbering old new told k h e =
    All-weaker (IsNoted numbering old.items.items) (IsNoted numbering new.items.items) (k.notes e numbering) told
    (h (k.lost e))

pub none_noted : (numbering : Numbering) (notes : Notes) → AreNoted numbering notes []
none_noted numbering notes e = All-nil (IsNoted numbering notes.items.items)

-- the same words are numbered
pub numbers_same : (numbering : Numbering) (n m i j : ℕ) → m ≡ n → j ≡ i → NumbersWords numbering n i
    → NumbersWords numbering m j
numbers_same numbering n m i j e f h =
    subst (λ (k : ℕ). NumbersWords numbering k j) (sym e)
    (subst (λ (k : ℕ). NumbersWords numbering n k) (sym f) h)

-- calls on words one after another
module _ {A B : Type 0} (p : Part A) (f : A → Part B) (w v u : Words) (x : A) (r : Result B Reason) where
  both_noted : Runs p w (Ok x) v → Runs (f x) v r u → (numbering : Numbering)
      → NumbersWords numbering w.number w.first_place → (rest : State)
      → AreNoted numbering u.notes (accesses (p >>= f) (standing w rest))
  both_noted a b numbering numbers rest e =
      subst (All (IsNoted numbering u.notes.items.items))
      (sym (accesses_on p f (standing w rest) (standing v rest) x (a.runs rest)))
      (All-append (IsNoted numbering u.notes.items.items) (accesses p (standing w rest))
      (accesses (f x) (standing v rest))
      (noted_still numbering v.notes u.notes (accesses p (standing w rest)) b.keeps (a.noted numbering numbers rest) e)
      (b.noted numbering
      (numbers_same numbering w.number v.number w.first_place v.first_place a.node a.first numbers) rest e))

  pub runs_on : Runs p w (Ok x) v → Runs (f x) v r u → Runs (p >>= f) w r u
  runs_on a b =
      record {
        runs = λ rest. run_on p f (standing w rest) (standing v rest) x (a.runs rest) ∙ b.runs rest;
        node = b.node ∙ a.node;
        first = b.first ∙ a.first;
        keeps = keeps_on w.notes v.notes u.notes a.keeps b.keeps;
        noted = both_noted a b;
      }

pub runs_stop : {A B : Type 0} (p : Part A) (f : A → Part B) (w v : Words) (why : Reason) → Runs p w (Err why) v
    → Runs (p >>= f) w (Err why) v
runs_stop p f w v why a =
    record {
      runs = λ rest. run_stops p f (standing w rest) (standing v rest) why (a.runs rest);
      node = a.node;
      first = a.first;
      keeps = a.keeps;
      noted = λ numbering numbers rest. subst (AreNoted numbering v.notes)
          (sym (accesses_stop p f (standing w rest) (standing v rest) why (a.runs rest)))
          (a.noted numbering numbers rest);
    }

-- a part that looks at nothing and changes nothing
pub runs_quiet : {A : Type 0} (p : Part A) (w : Words) (r : Result A Reason) → ((s : State) → run_part p s ≡ (r, s))
    → ((s : State) → accesses p s ≡ []) → Runs p w r w
runs_quiet p w r answers none =
    record {
      runs = λ rest. answers (standing w rest);
      node = refl;
      first = refl;
      keeps = keeps_all w.notes;
      noted = λ numbering numbers rest. subst (AreNoted numbering w.notes) (sym (none (standing w rest)))
          (none_noted numbering w.notes);
    }

-- an answer alone
pub runs_given : {A : Type 0} (x : A) (w : Words) → Runs (gives x) w (Ok x) w
runs_given x w = runs_quiet (gives x) w (Ok x) (λ s. refl) (λ s. refl)

pub runs_stopping : {A : Type 0} (why : Reason) (w : Words) → Runs {A = A} (stopping why) w (Err why) w
runs_stopping why w = runs_quiet (stopping why) w (Err why) (λ s. refl) (λ s. refl)

-- the same part, told otherwise
pub runs_as : {A : Type 0} (p q : Part A) (w v : Words) (r : Result A Reason) → p ≡ q → Runs q w r v → Runs p w r v
runs_as {A} p q w v r e h = subst (λ (o : Part A). Runs o w r v) (sym e) h
