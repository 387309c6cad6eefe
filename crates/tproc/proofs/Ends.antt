-- What holds of each answer of an action and of the store that it leaves, where each check that came before is known to
-- have passed. One induction gives it for a run.
use Rattle.std.proofs.Common.{◌≡◌, refl, subst, [], ◌∷◌, length, Bool, true, false, cond, ◌%◌, Ok, None, unwrap_or}
use Rattle.tword.specs.Stores.{Store, word_at, with_word, with_cells, as_cells, byte_at, cells}
use Rattle.tword.specs.Claims.{Claims, saving}
use Rattle.tword.specs.Touches.{Writes, span_break, word_break, deschedule_break, copy_break, byte_span}
use Rattle.tword.specs.Actions.{Action, answer, breaks, requiring, unmet, touching_word, touching_byte, touching}
use Rattle.tword.specs.Actions.{writing_word, writing_byte, copying, descheduling, reading_saved, setting_saved}
use Rattle.tword.specs.Actions.{run_from, saved_word_at, with_saved_word, ◌>>=◌}
use Rattle.tword.proofs.Leads.{passed, met}

-- Q holds of each answer, with the claims at the end and the store that is left. old: the store before the action, c:
-- the claims so far, new: the store with the changes so far
abbrev pub Ends : {A : Type 0} → (Claims → A → Store → Type 0) → Store → Claims → Store → Action A → Type 0
Ends Q old c new (answer x) = Q c x new
Ends Q old c new (breaks b) = Unit {0}
Ends Q old c new (requiring t b next) = t ≡ true → Ends Q old c new next
Ends Q old c new (touching_word mode a next) = word_break (length old) c mode a ≡ None
    → Ends Q old c new (next (word_at old a))
Ends Q old c new (touching_byte mode a next) = span_break (length old) c mode (byte_span a) ≡ None
    → Ends Q old c new (next (unwrap_or (byte_at old a) 0))
Ends Q old c new (touching mode span next) = span_break (length old) c mode span ≡ None → Ends Q old c new next
Ends Q old c new (writing_word a v next) = word_break (length old) c Writes a ≡ None
    → Ends Q old c (with_word new a v) next
Ends Q old c new (writing_byte a v next) = span_break (length old) c Writes (byte_span a) ≡ None
    → Ends Q old c (with_cells new a (as_cells (v % 256 ∷ []))) next
Ends Q old c new (copying from to count next) = copy_break (length old) c from to count ≡ None
    → Ends Q old c (with_cells new to (cells new from count)) next
Ends Q old c new (descheduling w next) = deschedule_break (length old) c w ≡ None → Ends Q old (saving w c) new next
Ends Q old c new (reading_saved w k next) = Ends Q old c new (next (saved_word_at old c w k))
Ends Q old c new (setting_saved w k v next) = Ends Q old c (with_saved_word new c w k v) next

-- so it holds of the answer of a run
pub ends_run : {A : Type 0} (Q : Claims → A → Store → Type 0) (x : Action A) (old new : Store) (c : Claims) (a : A)
    (s : Store)
    → Ends Q old c new x → run_from x old c new ≡ Ok (a, s) → (d : Claims) × Q d a s
ends_run {A} Q (answer x) old new c a s h r =
    let e : ◌≡◌ {A = A × Store} (x, new) (a, s) = cc in
    (c, subst (λ (p : A × Store). Q c p.0 p.1) e h)
ends_run Q (breaks b) old new c a s h r = cc
ends_run Q (requiring t b next) old new c a s h r =
    let p : (unmet t b ≡ None) × (run_from next old c new ≡ Ok (a, s)) = passed _ _ _ r in
    ends_run Q next old new c a s (h (met t b p.0)) p.1
ends_run Q (touching_word mode b next) old new c a s h r =
    let p : (word_break (length old) c mode b ≡ None) × (run_from (next (word_at old b)) old c new ≡ Ok (a, s)) =
    passed _ _ _ r in
    ends_run Q (next (word_at old b)) old new c a s (h p.0) p.1
ends_run Q (touching_byte mode b next) old new c a s h r =
    let p : (span_break (length old) c mode (byte_span b) ≡ None)
    × (run_from (next (unwrap_or (byte_at old b) 0)) old c new ≡ Ok (a, s)) = passed _ _ _ r in
    ends_run Q (next (unwrap_or (byte_at old b) 0)) old new c a s (h p.0) p.1
ends_run Q (touching mode span next) old new c a s h r =
    let p : (span_break (length old) c mode span ≡ None) × (run_from next old c new ≡ Ok (a, s)) = passed _ _ _ r in
    ends_run Q next old new c a s (h p.0) p.1
ends_run Q (writing_word b v next) old new c a s h r =
    let p : (word_break (length old) c Writes b ≡ None) × (run_from next old c (with_word new b v) ≡ Ok (a, s)) =
    passed _ _ _ r in
    ends_run Q next old (with_word new b v) c a s (h p.0) p.1
ends_run Q (writing_byte b v next) old new c a s h r =
    let p : (span_break (length old) c Writes (byte_span b) ≡ None)
    × (run_from next old c (with_cells new b (as_cells (v % 256 ∷ []))) ≡ Ok (a, s)) = passed _ _ _ r in
    ends_run Q next old (with_cells new b (as_cells (v % 256 ∷ []))) c a s (h p.0) p.1
ends_run Q (copying from to count next) old new c a s h r =
    let p : (copy_break (length old) c from to count ≡ None)
    × (run_from next old c (with_cells new to (cells new from count)) ≡ Ok (a, s)) = passed _ _ _ r in
    ends_run Q next old (with_cells new to (cells new from count)) c a s (h p.0) p.1
ends_run Q (descheduling w next) old new c a s h r =
    let p : (deschedule_break (length old) c w ≡ None) × (run_from next old (saving w c) new ≡ Ok (a, s)) =
    passed _ _ _ r in
    ends_run Q next old new (saving w c) a s (h p.0) p.1
ends_run Q (reading_saved w k next) old new c a s h r = ends_run Q (next (saved_word_at old c w k)) old new c a s h r
ends_run Q (setting_saved w k v next) old new c a s h r = ends_run Q next old (with_saved_word new c w k v) c a s h r

-- one action and then another
pub ends_bind : {A B : Type 0} (P : Claims → A → Store → Type 0) (Q : Claims → B → Store → Type 0) (x : Action A) (f : A
    → Action B) (old : Store) (c : Claims) (new : Store)
    → Ends P old c new x → ((d : Claims) (a : A) (s : Store) → P d a s → Ends Q old d s (f a))
    → Ends Q old c new (x >>= f)
ends_bind P Q (answer x) f old c new h k = k c x new h
ends_bind P Q (breaks b) f old c new h k = tt
ends_bind P Q (requiring t b next) f old c new h k = λ e. ends_bind P Q next f old c new (h e) k
ends_bind P Q (touching_word mode b next) f old c new h k =
    λ e. ends_bind P Q (next (word_at old b)) f old c new (h e) k
ends_bind P Q (touching_byte mode b next) f old c new h k =
    λ e. ends_bind P Q (next (unwrap_or (byte_at old b) 0)) f old c new (h e) k
ends_bind P Q (touching mode span next) f old c new h k = λ e. ends_bind P Q next f old c new (h e) k
ends_bind P Q (writing_word b v next) f old c new h k = λ e. ends_bind P Q next f old c (with_word new b v) (h e) k
ends_bind P Q (writing_byte b v next) f old c new h k =
    λ e. ends_bind P Q next f old c (with_cells new b (as_cells (v % 256 ∷ []))) (h e) k
ends_bind P Q (copying from to count next) f old c new h k =
    λ e. ends_bind P Q next f old c (with_cells new to (cells new from count)) (h e) k
ends_bind P Q (descheduling w next) f old c new h k = λ e. ends_bind P Q next f old (saving w c) new (h e) k
ends_bind P Q (reading_saved w b next) f old c new h k = ends_bind P Q (next (saved_word_at old c w b)) f old c new h k
ends_bind P Q (setting_saved w b v next) f old c new h k = ends_bind P Q next f old c (with_saved_word new c w b v) h k

-- a choice
pub ends_if : {A : Type 0} (Q : Claims → A → Store → Type 0) (b : Bool) (x y : Action A) (old : Store) (c : Claims)
    (new : Store)
    → (b ≡ true → Ends Q old c new x) → (b ≡ false → Ends Q old c new y) → Ends Q old c new (cond b x y)
ends_if Q true x y old c new k l = k refl
ends_if Q false x y old c new k l = l refl
