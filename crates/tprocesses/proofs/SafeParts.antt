-- What agents have in common spares the gates of others: actions, and processes that come, wait, go on and end.
use Rattle.std.proofs.Common.{◌≡◌, ℕ, refl, sym, Bool, true, false, List, [], ◌∷◌, Option, Some, None, true≢false}
use Rattle.std.specs.Prelude.{◌==◌, pos, negsuc, ◌%◌, is_none}
use Rattle.std.specs.Int.{w32, from_le_bytes, to_le_bytes}
use Rattle.tword.specs.declared.breaks.Break.TheVariants.{AlreadyLive, Unaligned}
use Rattle.tword.specs.declared.span.Span.{Span}
use Rattle.tword.specs.Stores.{shown}
use Rattle.tword.specs.Words.{word_below}
use Rattle.tword.specs.Touches.{Mode, Reads, byte_span, is_aligned}
use Rattle.tword.specs.Actions.{Action, answer, breaks, requiring, touching_word, touching_byte, touching}
use Rattle.tword.specs.Actions.{writing_word, writing_byte, copying, descheduling, reading_saved, setting_saved}
use Rattle.tplan.specs.declared.plan.Plan.{Plan}
use Rattle.tplan.specs.Wires.{end_at}
use Rattle.tprocesses.specs.Places.{Name, Standing, Ports, Unfinished, Life, Population, HasRun}
use Rattle.tprocesses.specs.Values.{Free, Saved, Context, Lent, Stand, Absent, Rests, Runs, Waits, Chooses, Chosen}
use Rattle.tprocesses.specs.Values.{Ended, Value, IsWord, IsStand, IsFlag, ArePorts, stand_in, flag_in, amount_in}
use Rattle.tprocesses.specs.Values.{ports_in}
use Rattle.tprocesses.specs.Changes.{are_known}
use Rattle.tprocesses.specs.Parts.{Part, Breaks, WordInUse, HasNoStep}
use Rattle.tprocesses.specs.Touching.{Site, touch, touch_word_at, word_number, word_place, is_zero, part_of, kept}
use Rattle.tprocesses.specs.Performing.{Performed, noted, copied, perform, is_next_known, after_next, bytes_if}
use Rattle.tprocesses.specs.Standing.{stands, known, is_absent, comes, starts, ends, moves, ready, wakes}
use Rattle.tprocesses.specs.Standing.{unsave_word, unsave_upper, unsave, takes_back, resumes}
use Rattle.tprocesses.specs.Choosing.{changes_ports}
use Rattle.tprocesses.specs.Machine.{Agent, is_ready}
use Rattle.tprocesses.proofs.Gates.{standing_shut, unfinished_is_free, ports_are_free}
use Rattle.tprocesses.proofs.Safe.{Seen, Anything, Shut, Safely, IsShutTo, IsFine, andthen, nothing, stops, sees}
use Rattle.tprocesses.proofs.Safe.{sees_fine, plain, chooses, requires, requires_fine, puts, adds, raises}
use Rattle.tprocesses.proofs.SafeTouches.{touch_safe, write_safe, touch_word_at_safe, write_word_at_safe, save_safe}
use Rattle.tprocesses.proofs.SafeTouches.{word_for_safe, count_outputs_safe}

module _ (p : Plan) (a : Agent) where
  pub touch_fine : {K : Seen → Type 0} (s : Site) (mode : Mode) (span : Span)
      → Safely p a K (touch s mode span) Anything
  touch_fine s mode span = plain p a (touch_safe p a s mode span)

  pub touch_word_at_fine : {K : Seen → Type 0} (s : Site) (mode : Mode) (address : ℕ)
      → Safely p a K (touch_word_at s mode address) Anything
  touch_word_at_fine s mode address = plain p a (touch_word_at_safe p a s mode address)

  noted_fine : {A : Type 0} (known : Bool) (rest : Part (Performed A)) → IsFine p a rest → IsFine p a (noted known rest)
  noted_fine known rest h = andthen p a h (λ x. nothing p a _ (λ t k. tt))

  pub copied_fine : {K : Seen → Type 0} (s : Site) (from to : Span) → Safely p a K (copied s from to) Anything
  copied_fine s from to =
      andthen p a (touch_fine s Reads from) (λ words. write_safe p a s to (part_of from words))

  -- an action
  pub perform_fine : {A : Type 0} (s : Site) (known : List Bool) (x : Action A) → IsFine p a (perform s known x)
  perform_fine s known (answer x) = nothing p a _ (λ t k. tt)
  perform_fine s known (breaks b) = stops p a _
  perform_fine s known (requiring t b next) =
      andthen p a (requires_fine p a t _) (λ x. perform_fine s known next)
  perform_fine s known (touching_word mode address next) =
      andthen p a (touch_word_at_fine s mode address)
      (λ cells. noted_fine (are_known cells) (perform s known (next (from_le_bytes w32 (shown cells))))
      (perform_fine s known (next (from_le_bytes w32 (shown cells)))))
  perform_fine s known (touching_byte mode address next) =
      andthen p a (touch_fine s mode (byte_span address))
      (λ words. noted_fine (are_known (part_of (byte_span address) words))
      (perform s known (next (from_le_bytes w32 (shown (part_of (byte_span address) words)))))
      (perform_fine s known (next (from_le_bytes w32 (shown (part_of (byte_span address) words))))))
  perform_fine s known (touching mode span next) =
      andthen p a (touch_fine s mode span) (λ x. perform_fine s known next)
  perform_fine s known (writing_word address v next) =
      andthen p a (write_word_at_safe p a s address (bytes_if (is_next_known known) (to_le_bytes w32 v)))
      (λ x. perform_fine s (after_next known) next)
  perform_fine s known (writing_byte address v next) =
      andthen p a (write_safe p a s (byte_span address) (bytes_if (is_next_known known) (v % 256 ∷ [])))
      (λ x. perform_fine s (after_next known) next)
  perform_fine s known (copying from to count next) =
      andthen p a (copied_fine s (record { start = from; size = count }) (record { start = to; size = count }))
      (λ x. perform_fine s known next)
  perform_fine s known (descheduling w next) = stops p a _
  perform_fine s known (reading_saved w k next) = stops p a _
  perform_fine s known (setting_saved w k v next) = stops p a _

  -- the place where a process stands is its own
  abbrev pub IsOwn : Name → Type 0
  IsOwn x = (t : Seen) → Shut p a (Standing x) t

  pub stands_safe : {K : Seen → Type 0} (x : Name) (stand : Stand) → IsOwn x → Safely p a K (stands x stand) Anything
  stands_safe x stand own = puts p a (Standing x) (IsStand stand) (λ t k. own t)

  pub known_fine : {K : Seen → Type 0} (v : Option ℕ) → Safely p a K (known v) Anything
  known_fine (Some v) = nothing p a v (λ t k. tt)
  known_fine None = stops p a _

  absent_shut : (t : Stand) → is_absent t ≡ true → is_ready t ≡ false
  absent_shut Absent h = refl
  absent_shut _ h = absurd (true≢false (sym h))

  pub comes_fine : {K : Seen → Type 0} (s : Site) (x : Name) (c : Context) (stand : Context → Stand)
      → Safely p a K (comes s x c stand) Anything
  comes_fine s x c stand =
      andthen p a (sees_fine p a (Life s.number c.wptr))
      (λ life. andthen p a (requires_fine p a (is_zero (amount_in life)) (Breaks AlreadyLive))
      (λ y. andthen p a (adds p a (Life s.number c.wptr) (pos 1))
      (λ z. andthen p a (sees p a (Standing x))
      (λ stood. andthen p a (requires p a (is_absent (stand_in stood)) HasNoStep)
      (λ u. andthen p a
      (puts p a (Standing x) (IsStand (stand c))
      (λ t k. k.1 (standing_shut p a x stood (absent_shut (stand_in stood) k.0))))
      (λ w. andthen p a (adds p a (Population s.number) (pos 1))
      (λ r. raises p a (HasRun s.number c.priority))))))))

  pub starts_fine : {K : Seen → Type 0} (s : Site) (x : Name) (c : Context) → Safely p a K (starts s x c) Anything
  starts_fine s x c =
      andthen p a (requires_fine p a (is_aligned c.wptr) (Breaks Unaligned))
      (λ y. andthen p a (comes_fine s x c Rests) (λ z. save_safe p a s c.wptr kept))

  pub ends_safe : {K : Seen → Type 0} (s : Site) (x : Name) (c : Context) → IsOwn x → Safely p a K (ends s x c) Anything
  ends_safe s x c own =
      andthen p a (requires_fine p a (is_none c.choice) WordInUse)
      (λ y. andthen p a (adds p a (Life s.number c.wptr) (negsuc 0)) (λ z. stands_safe x Ended own))

  pub moves_fine : {K : Seen → Type 0} (s : Site) (old new : ℕ) → Safely p a K (moves s old new) Anything
  moves_fine s old new =
      chooses p a (old == new) (nothing p a tt (λ t k. tt))
      (andthen p a (adds p a (Life s.number old) (negsuc 0)) (λ y. adds p a (Life s.number new) (pos 1)))

  ready_safe : (v : Value) (x : Name) (lent : Option Lent)
      → Safely p a (λ t. IsShutTo p a (Standing x) v → Shut p a (Standing x) t) (ready (stand_in v) x lent) Anything
  ready_safe (IsStand (Waits c)) x lent =
      puts p a (Standing x) (IsStand (Rests (record c { lent = lent })))
      (λ t k. k (standing_shut p a x (IsStand (Waits c)) refl))
  ready_safe (IsStand Absent) x lent = stops p a _
  ready_safe (IsStand (Rests c)) x lent = stops p a _
  ready_safe (IsStand (Runs c)) x lent = stops p a _
  ready_safe (IsStand (Chooses c)) x lent = stops p a _
  ready_safe (IsStand (Chosen c)) x lent = stops p a _
  ready_safe (IsStand Ended) x lent = stops p a _
  ready_safe _ x lent = stops p a _

  pub wakes_fine : {K : Seen → Type 0} (x : Name) (lent : Option Lent) → Safely p a K (wakes x lent) Anything
  wakes_fine x lent = andthen p a (sees p a (Standing x)) (λ v. ready_safe v x lent)

  unsave_word_fine : {K : Seen → Type 0} (s : Site) (address : ℕ) → Safely p a K (unsave_word s address) Anything
  unsave_word_fine s address =
      andthen p a (word_for_safe p a s Saved (word_number address) refl)
      (λ cells. puts p a (word_place s address) (IsWord (record { cells = cells; used = Free })) (λ t k. k))

  pub unsave_upper_fine : {K : Seen → Type 0} (s : Site) (w : ℕ) → Safely p a K (unsave_upper s w) Anything
  unsave_upper_fine s w =
      andthen p a (unsave_word_fine s (word_below w 2)) (λ y. unsave_word_fine s (word_below w 1))

  unsave_fine : {K : Seen → Type 0} (s : Site) (w : ℕ) → Safely p a K (unsave s w) Anything
  unsave_fine s w = andthen p a (unsave_word_fine s (word_below w 3)) (λ x. unsave_upper_fine s w)

  takes_back_fine : {K : Seen → Type 0} (s : Site) (lent : Option Lent) → Safely p a K (takes_back s lent) Anything
  takes_back_fine s None = nothing p a tt (λ t k. tt)
  takes_back_fine s (Some l) = let e = end_at s.number l.link in
      andthen p a (count_outputs_safe p a s (negsuc 0) l.buffer)
      (λ x. andthen p a (sees_fine p a (Unfinished e))
      (λ unfinished. andthen p a (requires_fine p a (flag_in unfinished) HasNoStep)
      (λ y. puts p a (Unfinished e) (IsFlag false) (λ t k. unfinished_is_free p a e t))))

  pub resumes_safe : {K : Seen → Type 0} (s : Site) (x : Name) (c : Context) → IsOwn x
      → Safely p a K (resumes s x c) Anything
  resumes_safe s x c own =
      andthen p a (unsave_fine s c.wptr)
      (λ y. andthen p a (takes_back_fine s c.lent) (λ z. stands_safe x (Runs (record c { lent = None })) own))

  -- which channels a process has enabled is no gate
  pub changes_ports_safe : {K : Seen → Type 0} (x : Name) (next : List ℕ → List ℕ)
      → Safely p a K (changes_ports x next) Anything
  changes_ports_safe x next =
      andthen p a (sees_fine p a (Ports x))
      (λ ports. puts p a (Ports x) (ArePorts (next (ports_in ports))) (λ t k. ports_are_free p a x t))
