-- What an action sets of the first two saved words of each process: one queue link at most.
use Rattle.std.proofs.Common.{◌≡◌, ℕ, refl, cond, List, Bool, true, false, Option, Some, None, ◌⊎◌, inl, inr}
use Rattle.tword.specs.Actions.{Action, answer, breaks, requiring, touching_word, touching_byte, touching, writing_word}
use Rattle.tword.specs.Actions.{writing_byte, copying, descheduling, reading_saved, setting_saved, ◌>>=◌}
use Rattle.tproc.specs.ProcessStatus.{is_among}
use Rattle.tproc.specs.Queues.{link_word, state_word}

-- what an action sets of saved words: words of a workspace that it has descheduled itself, third words, and one queue
-- link at most. watched: the workspaces whose words stand, link: the workspace whose link was set so far, with the
-- word. Q holds of each answer and of that link
abbrev pub Sets : {A : Type 0} → List ℕ → (Option (ℕ × ℕ) → A → Type 0) → Option (ℕ × ℕ) → Action A → Type 0
Sets watched Q link (answer x) = Q link x
Sets watched Q link (breaks b) = Unit {0}
Sets watched Q link (requiring t b next) = t ≡ true → Sets watched Q link next
Sets watched Q link (touching_word mode a next) = (v : ℕ) → Sets watched Q link (next v)
Sets watched Q link (touching_byte mode a next) = (v : ℕ) → Sets watched Q link (next v)
Sets watched Q link (touching mode span next) = Sets watched Q link next
Sets watched Q link (writing_word a v next) = Sets watched Q link next
Sets watched Q link (writing_byte a v next) = Sets watched Q link next
Sets watched Q link (copying from to count next) = Sets watched Q link next
Sets watched Q link (descheduling w next) = is_among w watched ≡ false → Sets watched Q link next
Sets watched Q link (reading_saved w k next) = (v : ℕ) → Sets watched Q link (next v)
Sets watched Q link (setting_saved w k v next) =
    ((is_among w watched ≡ false) × Sets watched Q link next)
    ⊎ (((k ≡ state_word) × Sets watched Q link next)
    ⊎ ((k ≡ link_word) × (link ≡ None) × Sets watched Q (Some (w, v)) next))

-- one action and then another
pub sets_bind : {A B : Type 0} (D : List ℕ) (P : Option (ℕ × ℕ) → A → Type 0) (Q : Option (ℕ × ℕ) → B → Type 0)
    (x : Action A) (f : A → Action B) (l : Option (ℕ × ℕ))
    → Sets D P l x → ((l' : Option (ℕ × ℕ)) (a : A) → P l' a → Sets D Q l' (f a)) → Sets D Q l (x >>= f)
sets_bind D P Q (answer x) f l h k = k l x h
sets_bind D P Q (breaks b) f l h k = tt
sets_bind D P Q (requiring t b next) f l h k = λ e. sets_bind D P Q next f l (h e) k
sets_bind D P Q (touching_word mode b next) f l h k = λ v. sets_bind D P Q (next v) f l (h v) k
sets_bind D P Q (touching_byte mode b next) f l h k = λ v. sets_bind D P Q (next v) f l (h v) k
sets_bind D P Q (touching mode span next) f l h k = sets_bind D P Q next f l h k
sets_bind D P Q (writing_word b v next) f l h k = sets_bind D P Q next f l h k
sets_bind D P Q (writing_byte b v next) f l h k = sets_bind D P Q next f l h k
sets_bind D P Q (copying from to count next) f l h k = sets_bind D P Q next f l h k
sets_bind D P Q (descheduling w next) f l h k = λ e. sets_bind D P Q next f l (h e) k
sets_bind D P Q (reading_saved w b next) f l h k = λ v. sets_bind D P Q (next v) f l (h v) k
sets_bind D P Q (setting_saved w b v next) f l (inl h) k = inl (h.0, sets_bind D P Q next f l h.1 k)
sets_bind D P Q (setting_saved w b v next) f l (inr (inl h)) k = inr (inl (h.0, sets_bind D P Q next f l h.1 k))
sets_bind D P Q (setting_saved w b v next) f l (inr (inr h)) k =
    inr (inr (h.0, h.1, sets_bind D P Q next f (Some (w, v)) h.2 k))

-- a choice
pub sets_if : {A : Type 0} (D : List ℕ) (Q : Option (ℕ × ℕ) → A → Type 0) (b : Bool) (x y : Action A)
    (l : Option (ℕ × ℕ)) → Sets D Q l x → Sets D Q l y → Sets D Q l (cond b x y)
sets_if D Q true x y l h k = h
sets_if D Q false x y l h k = k

-- an action that sets no saved word and deschedules nobody
abbrev pub SetsNone : {A : Type 0} → Action A → Type 0
SetsNone (answer x) = Unit {0}
SetsNone (breaks b) = Unit {0}
SetsNone (requiring t b next) = SetsNone next
SetsNone (touching_word mode a next) = (v : ℕ) → SetsNone (next v)
SetsNone (touching_byte mode a next) = (v : ℕ) → SetsNone (next v)
SetsNone (touching mode span next) = SetsNone next
SetsNone (writing_word a v next) = SetsNone next
SetsNone (writing_byte a v next) = SetsNone next
SetsNone (copying from to count next) = SetsNone next
SetsNone (descheduling w next) = ⊥
SetsNone (reading_saved w k next) = (v : ℕ) → SetsNone (next v)
SetsNone (setting_saved w k v next) = ⊥

-- such an action sets none
pub sets_none : {A : Type 0} (D : List ℕ) (x : Action A) (l : Option (ℕ × ℕ)) → SetsNone x → Sets D (λ l' _. l' ≡ l) l x
sets_none D (answer x) l h = refl
sets_none D (breaks b) l h = tt
sets_none D (requiring t b next) l h = λ e. sets_none D next l h
sets_none D (touching_word mode a next) l h = λ v. sets_none D (next v) l (h v)
sets_none D (touching_byte mode a next) l h = λ v. sets_none D (next v) l (h v)
sets_none D (touching mode span next) l h = sets_none D next l h
sets_none D (writing_word a v next) l h = sets_none D next l h
sets_none D (writing_byte a v next) l h = sets_none D next l h
sets_none D (copying from to count next) l h = sets_none D next l h
sets_none D (descheduling w next) l h = absurd h
sets_none D (reading_saved w k next) l h = λ v. sets_none D (next v) l (h v)
sets_none D (setting_saved w k v next) l h = absurd h
