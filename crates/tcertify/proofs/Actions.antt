-- Actions that are performed on words, one part after another.
use Rattle.std.proofs.Common.{◌≡◌, ℕ, refl, subst, sym, ◌∙◌, ◌%◌, arith, Bool, true, false}
use Rattle.std.proofs.Common.{List, [], ◌∷◌, Option, Result, Ok, Err, unwrap_or}
use Rattle.std.specs.Prelude.{◌&&◌, is_some}
use Rattle.std.specs.Int.{w32, from_le_bytes, to_le_bytes}
use Rattle.tword.specs.declared.breaks.Break.{Break}
use Rattle.tword.specs.Stores.{Store, shown}
use Rattle.tword.specs.Claims.{Claims}
use Rattle.tword.specs.Touches.{Mode, Reads, byte_span}
use Rattle.tword.specs.Actions.{Action, answer, breaks, requiring, touching_word, touching_byte, touching, writing_word}
use Rattle.tword.specs.Actions.{writing_byte, copying, descheduling, reading_saved, setting_saved, run_from}
use Rattle.tprocesses.specs.Changes.{are_known}
use Rattle.tprocesses.specs.Parts.{Reason, Breaks, Part, gives, ◌>>=◌}
use Rattle.tprocesses.specs.Touching.{Site, part_of, touch, touch_word_at, write, write_word_at}
use Rattle.tprocesses.specs.Performing.{Performed, perform, noted, bytes_if, is_next_known, after_next}
use Rattle.tcertify.specs.declared.stored.Words.{Words}
use Rattle.tcertify.specs.Running.{State, run_part}
use Rattle.tcertify.specs.Walked.{accesses}
use Rattle.tcertify.specs.Words.{Runs, site_of}
use Rattle.tcertify.specs.Instructions.{touch_byte, touches_nothing}
use Rattle.tcertify.proofs.Running.{runs_as, runs_given, runs_on, runs_stop, through}

pub and_true : (b : Bool) → (b && true) ≡ b
and_true true = refl
and_true false = refl

module _ {A : Type 0} (s : Site) (known : List Bool) where
  -- what is read is handed on, and it is noted whether it is known
  abbrev pub read_on : (ℕ → Action A) → Store → Part (Performed A)
  read_on next cells = noted (are_known cells) (perform s known (next (from_le_bytes w32 (shown cells))))

  -- a word is read, and the action answers
  pub reads_last : (w t v : Words) (mode : Mode) (a : ℕ) (next : ℕ → Action A) (cells : Store) (p : Performed A)
      → Runs (touch_word_at s mode a) w (Ok cells) t
      → Runs (perform s known (next (from_le_bytes w32 (shown cells)))) t (Ok p) v
      → Runs (perform s known (touching_word mode a next)) w
      (Ok (record { value = p.value; known = are_known cells && p.known })) v
  reads_last w t v mode a next cells p read rest =
      runs_on (touch_word_at s mode a) (read_on next) w t v cells
      (Ok (record { value = p.value; known = are_known cells && p.known })) read
      (runs_on (perform s known (next (from_le_bytes w32 (shown cells))))
      (λ (q : Performed A). gives (record { value = q.value; known = are_known cells && q.known })) t v v p
      (Ok (record { value = p.value; known = are_known cells && p.known })) rest (runs_given _ v))

  -- a word is read, and the rest stops
  pub reads_stop_behind : (w t v : Words) (mode : Mode) (a : ℕ) (next : ℕ → Action A) (cells : Store) (why : Reason)
      → Runs (touch_word_at s mode a) w (Ok cells) t
      → Runs (perform s known (next (from_le_bytes w32 (shown cells)))) t (Err why) v
      → Runs (perform s known (touching_word mode a next)) w (Err why) v
  reads_stop_behind w t v mode a next cells why read rest =
      runs_on (touch_word_at s mode a) (read_on next) w t v cells (Err why) read
      (runs_stop (perform s known (next (from_le_bytes w32 (shown cells))))
      (λ (q : Performed A). gives (record { value = q.value; known = are_known cells && q.known })) t v why rest)

  -- a word may not be read
  pub reads_not : (w v : Words) (mode : Mode) (a : ℕ) (next : ℕ → Action A) (why : Reason)
      → Runs (touch_word_at s mode a) w (Err why) v → Runs (perform s known (touching_word mode a next)) w (Err why) v
  reads_not w v mode a next why read = runs_stop (touch_word_at s mode a) (read_on next) w v why read

  -- a word is read, and the action answers at once
  pub reads_alone : (w v : Words) (mode : Mode) (a : ℕ) (next : ℕ → Action A) (cells : Store) (x : A)
      → Runs (touch_word_at s mode a) w (Ok cells) v → next (from_le_bytes w32 (shown cells)) ≡ answer x
      → Runs (perform s known (touching_word mode a next)) w (Ok (record { value = x; known = are_known cells })) v
  reads_alone w v mode a next cells x read is =
      subst (λ (k : Bool). Runs (perform s known (touching_word mode a next)) w
      (Ok (record { value = x; known = k })) v)
      (and_true (are_known cells))
      (reads_last w v v mode a next cells (record { value = x; known = true }) read
      (subst (λ (e : Action A). Runs (perform s known e) v (Ok (record { value = x; known = true })) v) (sym is)
      (runs_given (record { value = x; known = true }) v)))

  -- a word is written, and the rest is done
  pub writes_on : (w v u : Words) (a n : ℕ) (next : Action A) (r : Result (Performed A) Reason)
      → Runs (write_word_at s a (bytes_if (is_next_known known) (to_le_bytes w32 n))) w (Ok tt) v
      → Runs (perform s (after_next known) next) v r u → Runs (perform s known (writing_word a n next)) w r u
  writes_on w v u a n next r write rest =
      runs_on (write_word_at s a (bytes_if (is_next_known known) (to_le_bytes w32 n)))
      (λ _. perform s (after_next known) next) w v u tt r write rest

  -- a word may not be written
  pub writes_not : (w v : Words) (a n : ℕ) (next : Action A) (why : Reason)
      → Runs (write_word_at s a (bytes_if (is_next_known known) (to_le_bytes w32 n))) w (Err why) v
      → Runs (perform s known (writing_word a n next)) w (Err why) v
  writes_not w v a n next why write =
      runs_stop (write_word_at s a (bytes_if (is_next_known known) (to_le_bytes w32 n)))
      (λ _. perform s (after_next known) next) w v why write

  -- a byte is written, and the rest is done
  pub byte_writes_on : (w v u : Words) (a n : ℕ) (next : Action A) (r : Result (Performed A) Reason)
      → Runs (write s (byte_span a) (bytes_if (is_next_known known) (n % 256 ∷ []))) w (Ok tt) v
      → Runs (perform s (after_next known) next) v r u → Runs (perform s known (writing_byte a n next)) w r u
  byte_writes_on w v u a n next r write_it rest =
      runs_on (write s (byte_span a) (bytes_if (is_next_known known) (n % 256 ∷ [])))
      (λ _. perform s (after_next known) next) w v u tt r write_it rest

  -- a byte may not be written
  pub byte_writes_not : (w v : Words) (a n : ℕ) (next : Action A) (why : Reason)
      → Runs (write s (byte_span a) (bytes_if (is_next_known known) (n % 256 ∷ []))) w (Err why) v
      → Runs (perform s known (writing_byte a n next)) w (Err why) v
  byte_writes_not w v a n next why write_it =
      runs_stop (write s (byte_span a) (bytes_if (is_next_known known) (n % 256 ∷ [])))
      (λ _. perform s (after_next known) next) w v why write_it

-- the number of a byte, where one that is not known reads as 0
pub number_of_byte : (cell : Option ℕ) → from_le_bytes w32 (shown (cell ∷ [])) ≡ unwrap_or cell 0
number_of_byte cell = omega arith

-- a byte is read
module _ {A : Type 0} (s : Site) (known : List Bool) (w v : Words) (a : ℕ) (next : ℕ → Action A) where
  abbrev byte_on : Store → Part (Performed A)
  byte_on cells = noted (are_known cells) (perform s known (next (from_le_bytes w32 (shown cells))))

  by_byte : (r : Result (Performed A) Reason) → Runs (touch_byte s Reads a >>= byte_on) w r v
      → Runs (perform s known (touching_byte Reads a next)) w r v
  by_byte r h =
      runs_as (perform s known (touching_byte Reads a next)) (touch_byte s Reads a >>= byte_on) w v r
      (through (touch s Reads (byte_span a)) (part_of (byte_span a)) byte_on) h

  -- it may not be read
  pub byte_not_read : (why : Reason) → Runs (touch_byte s Reads a) w (Err why) v
      → Runs (perform s known (touching_byte Reads a next)) w (Err why) v
  byte_not_read why h = by_byte (Err why) (runs_stop (touch_byte s Reads a) byte_on w v why h)

  -- the action answers at once
  pub byte_read_alone : (cell : Option ℕ) (x : A) → Runs (touch_byte s Reads a) w (Ok (cell ∷ [])) v
      → next (from_le_bytes w32 (shown (cell ∷ []))) ≡ answer x
      → Runs (perform s known (touching_byte Reads a next)) w (Ok (record { value = x; known = is_some cell })) v
  byte_read_alone cell x h is =
      subst (λ (k : Bool). Runs (perform s known (touching_byte Reads a next)) w
      (Ok (record { value = x; known = k })) v)
      (and_true (is_some cell && true) ∙ and_true (is_some cell))
      (by_byte (Ok (record { value = x; known = (is_some cell && true) && true }))
      (runs_on (touch_byte s Reads a) byte_on w v v (cell ∷ [])
      (Ok (record { value = x; known = (is_some cell && true) && true })) h
      (subst (λ (e : Action A). Runs (noted (is_some cell && true) (perform s known e)) v
      (Ok (record { value = x; known = (is_some cell && true) && true })) v) (sym is)
      (runs_given (record { value = x; known = (is_some cell && true) && true }) v))))

-- a part at words of the same node
pub at_site : {A : Type 0} (part : Site → Part A) (s t : Site) (w v : Words) (r : Result A Reason) → t ≡ s
    → Runs (part t) w r v → Runs (part s) w r v
at_site part s t w v r same h = subst (λ (z : Site). Runs (part z) w r v) same h

pub write_at : (w v u : Words) (a : ℕ) (x : Store) (r : Result (Unit {0}) Reason) → site_of v ≡ site_of w
    → Runs (write_word_at (site_of v) a x) v r u → Runs (write_word_at (site_of w) a x) v r u
write_at w v u a x r same h = subst (λ (s : Site). Runs (write_word_at s a x) v r u) same h

-- what an action without touches answers, as a part
abbrev pub answered : {A : Type 0} → Result (A × Store) Break → Result (Performed A) Reason
answered (Ok (x, store)) = Ok (record { value = x; known = true })
answered (Err b) = Err (Breaks b)

-- an action that touches nothing answers the same on words as on any store
pub performs_alone : {A : Type 0} (a : Action A) (s : Site) (known : List Bool) (old new : Store) (claims : Claims)
    → touches_nothing a ≡ true → (t : State)
    → run_part (perform s known a) t ≡ (answered (run_from a old claims new), t)
performs_alone (answer x) s known old new claims h t = refl
performs_alone (breaks b) s known old new claims h t = refl
performs_alone {A} (requiring true b next) s known old new claims h t =
    performs_alone next s known old new claims h t
performs_alone (requiring false b next) s known old new claims h t = refl
performs_alone (touching_word mode a next) s known old new claims h t = cc
performs_alone (touching_byte mode a next) s known old new claims h t = cc
performs_alone (touching mode span next) s known old new claims h t = cc
performs_alone (writing_word a v next) s known old new claims h t = cc
performs_alone (writing_byte a v next) s known old new claims h t = cc
performs_alone (copying from to count next) s known old new claims h t = cc
performs_alone (descheduling w next) s known old new claims h t = cc
performs_alone (reading_saved w k next) s known old new claims h t = cc
performs_alone (setting_saved w k v next) s known old new claims h t = cc

-- and it accesses nothing
pub accesses_nothing : {A : Type 0} (a : Action A) (s : Site) (known : List Bool) → touches_nothing a ≡ true
    → (t : State) → accesses (perform s known a) t ≡ []
accesses_nothing (answer x) s known h t = refl
accesses_nothing (breaks b) s known h t = refl
accesses_nothing (requiring true b next) s known h t = accesses_nothing next s known h t
accesses_nothing (requiring false b next) s known h t = refl
accesses_nothing (touching_word mode a next) s known h t = cc
accesses_nothing (touching_byte mode a next) s known h t = cc
accesses_nothing (touching mode span next) s known h t = cc
accesses_nothing (writing_word a v next) s known h t = cc
accesses_nothing (writing_byte a v next) s known h t = cc
accesses_nothing (copying from to count next) s known h t = cc
accesses_nothing (descheduling w next) s known h t = cc
accesses_nothing (reading_saved w k next) s known h t = cc
accesses_nothing (setting_saved w k v next) s known h t = cc
