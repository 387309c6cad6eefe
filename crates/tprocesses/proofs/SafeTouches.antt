-- Touches of the memory spare the gates of others: a word that programs may use awaits no successor.
use Rattle.std.proofs.Common.{◌≡◌, ℕ, zero, suc, refl, sym, true, false, ◌++◌, [], true≢false, take, drop}
use Rattle.std.specs.Prelude.{ℤ}
use Rattle.tword.specs.declared.span.Span.{Span}
use Rattle.tword.specs.Stores.{Store}
use Rattle.tword.specs.Words.{word_below}
use Rattle.tword.specs.Touches.{Mode, Reads, Writes, place_break, word_place_break}
use Rattle.tplan.specs.declared.plan.Plan.{Plan}
use Rattle.tprocesses.specs.Places.{Place, WordAt, Sending}
use Rattle.tprocesses.specs.Values.{Use, Free, Saved, Receiving, Engaged, Choosing}
use Rattle.tprocesses.specs.Values.{Awaiting, Last, Spoilt, Value, IsWord}
use Rattle.tprocesses.specs.Values.{word_in, amount_in}
use Rattle.tprocesses.specs.Parts.{Part}
use Rattle.tprocesses.specs.Touching.{Site, free_cells, unsent, settled, touch_word, touch_words, touch, is_zero}
use Rattle.tprocesses.specs.Touching.{replaced, word_number, word_count, word_place, put_words, put, write, count_words}
use Rattle.tprocesses.specs.Touching.{count_outputs, touch_word_at, write_word_at, save_word, save_upper, save}
use Rattle.tprocesses.specs.Touching.{forgotten, same_use, word_for, words_for}
use Rattle.tprocesses.specs.Machine.{Agent, awaits_successor}
use Rattle.tprocesses.proofs.Changing.{word_shut}
use Rattle.tprocesses.proofs.Safe.{Seen, Anything, Always, Shut, Safely, IsShutTo, Stays, andthen, nothing, stops}
use Rattle.tprocesses.proofs.Safe.{sees, keeping, lighter, plain, chooses, requires, unless_broken, puts, adds}

module _ (p : Plan) (a : Agent) where
  pub unsent_safe : {K : Seen → Type 0} (s : Site) (k : ℕ) → Safely p a K (unsent s k) Anything
  unsent_safe s k =
      andthen p a (sees p a (Sending s.number k))
      (λ x. chooses p a (is_zero (amount_in x)) (nothing p a tt (λ t h. tt)) (stops p a _))

  settled_safe : {K : Seen → Type 0} (s : Site) (mode : Mode) (k : ℕ) → Safely p a K (settled s mode k) Anything
  settled_safe s Reads k = nothing p a tt (λ t h. tt)
  settled_safe s Writes k = unsent_safe s k

  -- the word that is seen awaits no successor
  abbrev pub IsTame : Value → Type 0
  IsTame x = awaits_successor (word_in x).used ≡ false

  tame_shut : (q : Place) (x : Value) → IsTame x → IsShutTo p a q x
  tame_shut q (IsWord w) h b gate = word_shut p b q w h
  tame_shut q _ h b gate = absurd (true≢false h)

  free_safe : {K : Seen → Type 0} (u : Use) (cells : Store)
      → Safely p a K (free_cells u cells) (λ x s. (awaits_successor u ≡ false) × K s)
  free_safe {K} Free cells = nothing p a cells (λ s k. (refl, k))
  free_safe {K} Saved cells = stops p a _
  free_safe {K} Receiving cells = stops p a _
  free_safe {K} Engaged cells = stops p a _
  free_safe {K} Choosing cells = stops p a _
  free_safe {K} Awaiting cells = stops p a _
  free_safe {K} (Last r) cells = stops p a _
  free_safe {K} Spoilt cells = stops p a _

  pub stays_shut : (q : Place) → Stays p a (Shut p a q)
  stays_shut q s s' later shut b other gate = later b (shut b other gate)

  -- a place that was seen shut still is known to be
  pub still : {A : Type 0} {F : A → Seen → Type 0} {part : Part A} (q : Place)
      → Safely p a (λ t. Shut p a q t) part F → Safely p a (λ t. Shut p a q t) part (λ x t. Shut p a q t)
  still q h =
      lighter p a (λ t known. known) (λ x t known. known.0) (keeping p a (stays_shut q) (λ t known. known) h)

  pub touch_word_safe : {K : Seen → Type 0} (s : Site) (mode : Mode) (k : ℕ)
      → Safely p a K (touch_word s mode k) (λ x t. Shut p a (WordAt s.number k) t)
  touch_word_safe s mode k = let q = WordAt s.number k in
      andthen p a (sees p a q)
      (λ x. andthen p a
      (lighter p a (λ t known. known) (λ cells t known. known.1 (tame_shut q x known.0))
      (free_safe (word_in x).used (word_in x).cells))
      (λ cells. andthen p a (keeping p a (stays_shut q) (λ t known. known) (settled_safe s mode k))
      (λ y. nothing p a cells (λ t known. known.0))))

  -- words in a row were seen shut
  abbrev pub AllShut : Site → (first count : ℕ) → Seen → Type 0
  AllShut s k zero t = Unit {0}
  AllShut s k (suc count) t = Shut p a (WordAt s.number k) t × AllShut s (suc k) count t

  all_stay : (s : Site) (k count : ℕ) → Stays p a (AllShut s k count)
  all_stay s k zero t t' later h = tt
  all_stay s k (suc count) t t' later h = (
    stays_shut (WordAt s.number k) t t' later h.0,
    all_stay s (suc k) count t t' later h.1,
  )

  touch_words_safe : (s : Site) (mode : Mode) (k count : ℕ)
      → Safely p a Always (touch_words s mode k count) (λ x t. AllShut s k count t)
  touch_words_safe s mode k zero = nothing p a [] (λ t h. tt)
  touch_words_safe s mode k (suc count) =
      andthen p a (touch_word_safe s mode k)
      (λ cells. andthen p a
      (keeping p a (stays_shut (WordAt s.number k)) (λ t known. tt) (touch_words_safe s mode (suc k) count))
      (λ rest. nothing p a (cells ++ rest) (λ t known. known)))

  -- the words of a span were seen shut
  abbrev pub SpanShut : Site → Span → Seen → Type 0
  SpanShut s span t = AllShut s (word_number span.start) (word_count span) t

  pub span_stays : (s : Site) (span : Span) → Stays p a (SpanShut s span)
  span_stays s span = all_stay s (word_number span.start) (word_count span)

  pub touch_safe : {K : Seen → Type 0} (s : Site) (mode : Mode) (span : Span)
      → Safely p a K (touch s mode span) (λ x t. SpanShut s span t)
  touch_safe s mode span =
      andthen p a (unless_broken p a (place_break s.size span))
      (λ x. lighter p a (λ t known. tt) (λ y t known. known)
      (touch_words_safe s mode (word_number span.start) (word_count span)))

  pub put_words_safe : (s : Site) (u : Use) (k count : ℕ) (words : Store)
      → Safely p a (AllShut s k count) (put_words s u k count words) Anything
  put_words_safe s u k zero words = nothing p a tt (λ t h. tt)
  put_words_safe s u k (suc count) words =
      andthen p a
      (keeping p a (all_stay s k (suc count)) (λ t known. known)
      (puts p a (WordAt s.number k) (IsWord (record { cells = take 4 words; used = u })) (λ t known. known.0)))
      (λ x. lighter p a (λ t known. known.0.1) (λ y t known. known) (put_words_safe s u (suc k) count (drop 4 words)))

  pub put_safe : (s : Site) (u : Use) (span : Span) (words : Store)
      → Safely p a (SpanShut s span) (put s u span words) Anything
  put_safe s u span words = put_words_safe s u (word_number span.start) (word_count span) words

  pub write_safe : {K : Seen → Type 0} (s : Site) (span : Span) (new : Store) → Safely p a K (write s span new) Anything
  write_safe s span new =
      andthen p a (touch_safe s Writes span) (λ words. put_safe s Free span (replaced span words new))

  count_words_safe : (s : Site) (z : ℤ) (k count : ℕ) → Safely p a Always (count_words s z k count) Anything
  count_words_safe s z k zero = nothing p a tt (λ t h. tt)
  count_words_safe s z k (suc count) =
      andthen p a (adds p a (Sending s.number k) z) (λ x. count_words_safe s z (suc k) count)

  pub count_outputs_safe : {K : Seen → Type 0} (s : Site) (z : ℤ) (span : Span)
      → Safely p a K (count_outputs s z span) Anything
  count_outputs_safe s z span = plain p a (count_words_safe s z (word_number span.start) (word_count span))

  pub touch_word_at_safe : {K : Seen → Type 0} (s : Site) (mode : Mode) (address : ℕ)
      → Safely p a K (touch_word_at s mode address) (λ x t. Shut p a (word_place s address) t)
  touch_word_at_safe s mode address =
      andthen p a (unless_broken p a (word_place_break s.size address))
      (λ x. touch_word_safe s mode (word_number address))

  pub write_word_at_safe : {K : Seen → Type 0} (s : Site) (address : ℕ) (new : Store)
      → Safely p a K (write_word_at s address new) Anything
  write_word_at_safe s address new =
      andthen p a (touch_word_at_safe s Writes address)
      (λ cells. puts p a (word_place s address) (IsWord (record { cells = new; used = Free })) (λ t known. known))

  save_word_safe : {K : Seen → Type 0} (s : Site) (address : ℕ) (new : Store → Store)
      → Safely p a K (save_word s address new) Anything
  save_word_safe s address new =
      andthen p a (touch_word_at_safe s Writes address)
      (λ cells. puts p a (word_place s address) (IsWord (record { cells = new cells; used = Saved }))
      (λ t known. known))

  pub save_upper_safe : {K : Seen → Type 0} (s : Site) (w : ℕ) → Safely p a K (save_upper s w) Anything
  save_upper_safe s w =
      andthen p a (save_word_safe s (word_below w 2) forgotten)
      (λ y. save_word_safe s (word_below w 1) forgotten)

  pub save_safe : {K : Seen → Type 0} (s : Site) (w : ℕ) (lowest : Store → Store)
      → Safely p a K (save s w lowest) Anything
  save_safe s w lowest = andthen p a (save_word_safe s (word_below w 3) lowest) (λ x. save_upper_safe s w)

  -- a word that has the use of another that awaits no successor awaits none
  alike_uses : (u v : Use) → same_use u v ≡ true → awaits_successor v ≡ false → awaits_successor u ≡ false
  alike_uses Free v h k = refl
  alike_uses Saved v h k = refl
  alike_uses Receiving v h k = refl
  alike_uses Engaged v h k = refl
  alike_uses Choosing v h k = refl
  alike_uses Awaiting v h k = refl
  alike_uses (Last r) (Last r') h k = k
  alike_uses Spoilt Spoilt h k = k
  alike_uses _ _ h k = absurd (true≢false (sym h))

  pub word_for_safe : {K : Seen → Type 0} (s : Site) (u : Use) (k : ℕ) → awaits_successor u ≡ false
      → Safely p a K (word_for s u k) (λ x t. Shut p a (WordAt s.number k) t)
  word_for_safe s u k tame = let q = WordAt s.number k in
      andthen p a (sees p a q)
      (λ x. andthen p a (requires p a (same_use (word_in x).used u) _)
      (λ y. nothing p a (word_in x).cells
      (λ t known. known.1 (tame_shut q x (alike_uses (word_in x).used u known.0 tame)))))

  pub words_for_safe : (s : Site) (u : Use) (k count : ℕ) → awaits_successor u ≡ false
      → Safely p a Always (words_for s u k count) (λ x t. AllShut s k count t)
  words_for_safe s u k zero tame = nothing p a [] (λ t h. tt)
  words_for_safe s u k (suc count) tame =
      andthen p a (word_for_safe s u k tame)
      (λ cells. andthen p a
      (keeping p a (stays_shut (WordAt s.number k)) (λ t known. tt) (words_for_safe s u (suc k) count tame))
      (λ rest. nothing p a (cells ++ rest) (λ t known. known)))
