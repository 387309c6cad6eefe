-- What writes within a span leave outside it.
use Rattle.std.proofs.Common.{◌≡◌, ℕ, ◌+◌, ◌-◌, ◌<◌, ◌≤◌, ◌%◌, refl, sym, ◌∙◌, ap, [], ◌∷◌, length, take}
use Rattle.std.proofs.Common.{get_or, true, false, cond, Ok, Option, Some, None, unwrap_or, ◌⊎◌, inl, inr}
use Rattle.std.proofs.Common.{arith}
use Rattle.std.specs.Prelude.{nat_lt, option_and_then, slice_get}
use Rattle.std.specs.Int.{w32, to_le_bytes}
use Rattle.std.proofs.lemmas.Bool.{cases_lt, both_ways, lt-ltb}
use Rattle.std.proofs.lemmas.List.{nil_from_length, append-nil, take-append-drop}
use Rattle.std.proofs.lemmas.Option.{unwrap_or-slice_get}
use Rattle.tword.specs.Words.{most_neg}
use Rattle.tword.specs.Stores.{Store, place, cells, with_cells, word_at, with_word, as_cells, byte_at}
use Rattle.tword.specs.declared.span.Span.{Span}
use Rattle.tword.specs.Claims.{Claims, overlap}
use Rattle.tword.specs.Touches.{Mode, Writes, is_inside, byte_span, word_span, span_break, word_break}
use Rattle.tword.specs.Touches.{copy_break}
use Rattle.tword.specs.Actions.{Action, answer, breaks, requiring, touching_word, touching_byte, touching}
use Rattle.tword.specs.Actions.{writing_word, writing_byte, copying, descheduling, reading_saved, setting_saved}
use Rattle.tword.specs.Actions.{run_from, saved_word_at}
use Rattle.tword.specs.Outside.{StandsOutside}
use Rattle.tword.proofs.Passing.{span_break-none, word_break-span, word_break-passes, inside_bounds, both_none}
use Rattle.tword.proofs.Leads.{passed}
use Rattle.tword.proofs.EachCell.{length-put}
use Rattle.tword.proofs.Standing.{cells-length}
use Rattle.tword.proofs.Hiding.{overlap-from, overlap_back, overlap-inner}
use Rattle.tword.proofs.Copying.{with_cells-below, with_cells-above}

-- the same store
pub outside_same : (span : Span) (s t : Store) → t ≡ s → StandsOutside span s t
outside_same span s t e = λ a _. ap (λ (u : Store). byte_at u a) e

-- one change and then another
pub outside_then : (span : Span) (s t u : Store) → StandsOutside span s t → StandsOutside span t u
    → StandsOutside span s u
outside_then span s t u g h = λ a clear. h a clear ∙ g a clear

-- what stands outside a span stands outside one that contains it
pub outside_wider : (inner span : Span) (s t : Store) → span.start ≤ inner.start
    → inner.start + inner.size ≤ span.start + span.size → StandsOutside inner s t → StandsOutside span s t
outside_wider inner span s t low high h =
    λ a clear. h a
    (overlap_back inner (byte_span a) (overlap-inner span inner (byte_span a) low high
    (overlap_back (byte_span a) span clear)))

-- a byte is what its cell holds, and nothing below the least address or behind the last
byte_at-any : (s : Store) (a : ℕ) → byte_at s a ≡ cond (nat_lt a most_neg) None (get_or s (place a) None)
byte_at-any s a =
    ap (cond (nat_lt a most_neg) None)
    (either (slice_get s (place a)) ∙ unwrap_or-slice_get s (place a) None)
  where
    either : (cell : Option (Option ℕ)) → option_and_then (λ (c : Option ℕ). c) cell ≡ unwrap_or cell None
    either None = refl
    either (Some c) = refl

-- the same byte, if the cell of its address is the same
same_byte : (s t : Store) (a : ℕ) → (most_neg ≤ a → get_or t (place a) None ≡ get_or s (place a) None)
    → byte_at t a ≡ byte_at s a
same_byte s t a same = byte_at-any t a ∙ by (cases_lt a most_neg) ∙ sym (byte_at-any s a)
  where
    by : (a < most_neg) ⊎ (most_neg ≤ a) → cond (nat_lt a most_neg) None (get_or t (place a) None)
        ≡ cond (nat_lt a most_neg) None (get_or s (place a) None)
    by (inl l) = rw (lt-ltb a most_neg l) refl
    by (inr l) = rw (same l) refl

-- cells that are put where they fit
pub outside_cells : (s : Store) (a m : ℕ) (new : Store) → length new ≡ m
    → is_inside (length s) (record { start = a; size = m }) ≡ true
    → StandsOutside (record { start = a; size = m }) s (with_cells s a new)
outside_cells s a m new size inside = λ b clear. by b clear (inside_bounds (length s) _ inside)
  where
    none : m ≡ 0 → with_cells s a new ≡ s
    none z =
        let f : new ≡ [] = nil_from_length new (size ∙ z) in
        let h : place a + 0 ≡ place a = omega arith in
        rw (f, append-nil (take (place a) s), h, take-append-drop (place a) s) refl

    cell : (b : ℕ) → overlap (byte_span b) (record { start = a; size = m }) ≡ false → most_neg ≤ a
        → place a + m ≤ length s → most_neg ≤ b → (place b < place a) ⊎ (place a ≤ place b)
        → (place b < place a + m) ⊎ (place a + m ≤ place b)
        → get_or (with_cells s a new) (place b) None ≡ get_or s (place b) None
    cell b clear above within low (inl c) _ = with_cells-below s a m new above within size (place b) c
    cell b clear above within low (inr c) (inr d) = with_cells-above s a m new above within size (place b) d
    cell b clear above within low (inr c) (inl d) =
        absurd (both_ways (overlap (byte_span b) (record { start = a; size = m })) clear
        (overlap-from (byte_span b) (record { start = a; size = m }) (omega arith) (omega arith) (omega arith)
        (omega arith)))

    by : (b : ℕ) → overlap (byte_span b) (record { start = a; size = m }) ≡ false → (m ≡ 0)
        ⊎ ((most_neg ≤ a) × (place a + m ≤ length s)) → byte_at (with_cells s a new) b ≡ byte_at s b
    by b clear (inl z) = ap (λ (t : Store). byte_at t b) (none z)
    by b clear (inr c) =
        same_byte s (with_cells s a new) b (λ low. cell b clear c.0 c.1 low (cases_lt (place b) (place a))
        (cases_lt (place b) (place a + m)))

-- a word
pub outside_word : (s : Store) (a v : ℕ) → is_inside (length s) (word_span a) ≡ true
    → StandsOutside (word_span a) s (with_word s a v)
outside_word s a v inside = outside_cells s a 4 (as_cells (to_le_bytes w32 v)) refl inside

-- a byte
pub outside_byte : (s : Store) (a v : ℕ) → is_inside (length s) (byte_span a) ≡ true
    → StandsOutside (byte_span a) s (with_cells s a (as_cells (v ∷ [])))
outside_byte s a v inside = outside_cells s a 1 (as_cells (v ∷ [])) refl inside

-- the part lies in the span
abbrev pub IsPart : Span → Span → Type 0
IsPart part span = (span.start ≤ part.start) × (part.start + part.size ≤ span.start + span.size)

-- nobody is descheduled, and each write lies in the span, where each check of a word up to it is known to have passed.
-- n: the size of the memory, c: the claims
abbrev pub WritesWithin : {A : Type 0} → ℕ → Claims → Span → Action A → Type 0
WritesWithin n c p (answer x) = Unit {0}
WritesWithin n c p (breaks b) = Unit {0}
WritesWithin n c p (requiring t b next) = WritesWithin n c p next
WritesWithin n c p (touching_word mode a next) = word_break n c mode a ≡ None → (v : ℕ) → WritesWithin n c p (next v)
WritesWithin n c p (touching_byte mode a next) = (v : ℕ) → WritesWithin n c p (next v)
WritesWithin n c p (touching mode span next) = WritesWithin n c p next
WritesWithin n c p (writing_word a v next) =
    word_break n c Writes a ≡ None → IsPart (word_span a) p × WritesWithin n c p next
WritesWithin n c p (writing_byte a v next) = IsPart (byte_span a) p × WritesWithin n c p next
WritesWithin n c p (copying from to count next) =
    IsPart (record { start = to; size = count }) p × WritesWithin n c p next
WritesWithin n c p (descheduling w next) = ⊥
WritesWithin n c p (reading_saved w k next) = (v : ℕ) → WritesWithin n c p (next v)
WritesWithin n c p (setting_saved w k v next) = ⊥

-- a store in which cells were put within a span, of the size that it had
record IsPut (p : Span) (old s t : Store) : Type 0 where
  pub outside : StandsOutside p s t
  pub size : length t ≡ length old

put-within : (p : Span) (old s : Store) (c : Claims) (a m : ℕ) (new : Store) → length s ≡ length old → length new ≡ m
    → span_break (length old) c Writes (record { start = a; size = m }) ≡ None
    → IsPart (record { start = a; size = m }) p → IsPut p old s (with_cells s a new)
put-within p old s c a m new same size passes part =
    record {
      outside = outside_wider (record { start = a; size = m }) p s (with_cells s a new) part.0 part.1
          (outside_cells s a m new size inside);
      size = length-put s a new (by (inside_bounds (length s) (record { start = a; size = m }) inside)) ∙ same;
    }
  where
    inside : is_inside (length s) (record { start = a; size = m }) ≡ true
    inside = rw same (span_break-none (length old) c Writes (record { start = a; size = m }) passes).inside

    by : (m ≡ 0) ⊎ ((most_neg ≤ a) × (a - most_neg + m ≤ length s)) → (length new ≡ 0)
        ⊎ ((most_neg ≤ a) × (a - most_neg + length new ≤ length s))
    by (inl z) = inl (size ∙ z)
    by (inr b) = inr (b.0, rw size b.1)

-- what was written by such an action stands outside the span
pub run_from-outside : {A : Type 0} (p : Span) (x : Action A) (old new : Store) (c : Claims) (a : A) (s : Store)
    → length new ≡ length old → WritesWithin (length old) c p x → run_from x old c new ≡ Ok (a, s)
    → StandsOutside p new s
unfolding copy_break
run_from-outside {A} p (answer x) old new c a s same w e =
    let k : ◌≡◌ {A = A × Store} (x, new) (a, s) = cc in
    outside_same p new s (sym (ap (λ (q : A × Store). q.1) k))
run_from-outside p (breaks b) old new c a s same w e = cc
run_from-outside p (requiring t b next) old new c a s same w e =
    run_from-outside p next old new c a s same w (passed _ _ _ e).1
run_from-outside p (touching_word mode b next) old new c a s same w e =
    let h = passed _ _ _ e in
    run_from-outside p (next (word_at old b)) old new c a s same (w h.0 (word_at old b)) h.1
run_from-outside p (touching_byte mode b next) old new c a s same w e =
    run_from-outside p (next (unwrap_or (byte_at old b) 0)) old new c a s same (w (unwrap_or (byte_at old b) 0))
    (passed _ _ _ e).1
run_from-outside p (touching mode span next) old new c a s same w e =
    run_from-outside p next old new c a s same w (passed _ _ _ e).1
run_from-outside p (writing_word b v next) old new c a s same w e =
    let h = passed _ _ _ e in
    let k = w h.0 in
    let put = put-within p old new c b 4 (as_cells (to_le_bytes w32 v)) same refl
    (word_break-span (length old) c Writes b h.0) k.0 in
    outside_then p new (with_word new b v) s put.outside
    (run_from-outside p next old (with_word new b v) c a s put.size k.1 h.1)
run_from-outside p (writing_byte b v next) old new c a s same w e =
    let h = passed _ _ _ e in
    let put = put-within p old new c b 1 (as_cells (v % 256 ∷ [])) same refl h.0 w.0 in
    outside_then p new (with_cells new b (as_cells (v % 256 ∷ []))) s put.outside
    (run_from-outside p next old (with_cells new b (as_cells (v % 256 ∷ []))) c a s put.size w.1 h.1)
run_from-outside p (copying from to count next) old new c a s same w e =
    let h = passed _ _ _ e in
    let both = both_none _ _ h.0 in
    let put = put-within p old new c to count (cells new from count) same
    (cells-length new (length old) from count c same both.0) both.1 w.0 in
    outside_then p new (with_cells new to (cells new from count)) s put.outside
    (run_from-outside p next old (with_cells new to (cells new from count)) c a s put.size w.1 h.1)
run_from-outside p (descheduling b next) old new c a s same w e = absurd w
run_from-outside p (reading_saved b k next) old new c a s same w e =
    run_from-outside p (next (saved_word_at old c b k)) old new c a s same (w (saved_word_at old c b k)) e
run_from-outside p (setting_saved b k v next) old new c a s same w e = absurd w

-- a word that a check let pass lies above the least address
pub word_above : (n : ℕ) (c : Claims) (mode : Mode) (a : ℕ) → word_break n c mode a ≡ None → most_neg ≤ a
word_above n c mode a h = by (inside_bounds n (word_span a) (word_break-passes n c mode a h).inside)
  where
    by : ((word_span a).size ≡ 0) ⊎ ((most_neg ≤ a) × (a - most_neg + 4 ≤ n)) → most_neg ≤ a
    by (inl z) = absurd (omega arith)
    by (inr b) = b.0
