-- An action that is performed on places without a stop is done by the store, with the same answer up to what is not
-- known.
use Rattle.std.proofs.Common.{◌≡◌, ℕ, ◌+◌, ◌-◌, ◌*◌, ◌<◌, ◌≤◌, ◌/◌, ◌%◌, refl, sym, ap, subst, ◌∙◌, List, [], ◌∷◌}
use Rattle.std.proofs.Common.{length, get_or, Bool, true, false, true≢false, Result, Ok, Option, None, arith, inl, inr}
use Rattle.std.proofs.Common.{unwrap_or, length-take, length-drop}
use Rattle.std.proofs.lemmas.Bool.{ne_eqb}
use Rattle.std.specs.Int.{w32, from_le_bytes, to_le_bytes}
use Rattle.tword.specs.declared.breaks.Break.{Break}
use Rattle.tword.specs.declared.span.Span.{Span}
use Rattle.tword.specs.Words.{most_neg}
use Rattle.tword.specs.Stores.{Store, place, shown, cells, word_at, with_word, byte_at, with_cells, as_cells}
use Rattle.tword.specs.Claims.{Claims}
use Rattle.tword.specs.Touches.{Mode, Reads, Writes, byte_span, word_span, span_break, word_break, copy_break}
use Rattle.tword.specs.Touches.{claim_break, place_break}
use Rattle.tword.specs.Actions.{Action, answer, breaks, requiring, touching_word, touching_byte, touching}
use Rattle.tword.specs.Actions.{writing_word}
use Rattle.tword.specs.Actions.{writing_byte, copying, descheduling, reading_saved, setting_saved, run_from, unless}
use Rattle.tword.proofs.Passing.{inside_bounds}
use Rattle.tcpu.specs.declared.registers.Registers.{Registers}
use Rattle.tcpu.specs.Outcomes.{Outcome}
use Rattle.tprocesses.specs.Values.{Free}
use Rattle.tprocesses.specs.Changes.{are_known}
use Rattle.tprocesses.specs.Parts.{Part, Breaks, require}
use Rattle.tprocesses.specs.Touching.{Site, word_number, word_count, touch, touch_word_at, part_of, write}
use Rattle.tprocesses.specs.Touching.{write_word_at}
use Rattle.tprocesses.specs.Performing.{Performed, perform, noted, is_next_known, after_next, bytes_if, copied}
use Rattle.tprocesses.specs.Uses.{Origin, Uses}
use Rattle.tprocesses.specs.Depending.{AreAlike, ForReads, EndAlike, DoAlike, next_origin, later_origins}
use Rattle.tseen.proofs.After.{State, After, after_bind, after_weaken, after_all, after_require}
use Rattle.tseen.proofs.Spans.{IsWordOf, span_clear, placed_span, placed_above, touchable, word_touchable}
use Rattle.tseen.proofs.Cells.{word_of, use_of, cell, Knows, Tells, range-at, range-length}
use Rattle.tseen.proofs.Touched.{IsTouched, Permits, permitted}
use Rattle.tseen.proofs.Writing.{IsSpanTouched, span_read, part-length, part-at, touch_then, IsWritten, write_then}
use Rattle.tseen.proofs.Writing.{IsWordTouched, touch_word_at_then, IsWordWritten, write_word_at_then, IsCopied}
use Rattle.tseen.proofs.Writing.{copied_then}
use Rattle.tseen.proofs.Stored.{GoesOn, goes_on_self, goes_on_more, permits_on, LieThere, set_both, knows_bytes}
use Rattle.tseen.proofs.Stored.{word_known, byte_known}

-- an action reads nothing after it has written. written: whether it has
abbrev pub ReadsFirst : {A : Type 0} → Bool → Action A → Type 0
ReadsFirst written (answer x) = Unit {0}
ReadsFirst written (breaks b) = Unit {0}
ReadsFirst written (requiring t b next) = ReadsFirst written next
ReadsFirst written (touching_word mode a next) = (written ≡ false) × ((v : ℕ) → ReadsFirst false (next v))
ReadsFirst written (touching_byte mode a next) = (written ≡ false) × ((v : ℕ) → ReadsFirst false (next v))
ReadsFirst written (touching mode span next) = ReadsFirst written next
ReadsFirst written (writing_word a v next) = ReadsFirst true next
ReadsFirst written (writing_byte a v next) = ReadsFirst true next
ReadsFirst written (copying from to count next) = ReadsFirst true next
ReadsFirst written (descheduling w next) = ReadsFirst written next
ReadsFirst written (reading_saved w k next) = (v : ℕ) → ReadsFirst written (next v)
ReadsFirst written (setting_saved w k v next) = ReadsFirst true next

-- what a touch that went through tells of the checks on the store
module _ (site : Site) (whole : site.size % 4 ≡ 0) (claims : Claims) where
  pub word_passes : (s : State) (mode : Mode) (a : ℕ) → Permits s site.number claims
      → IsWordTouched site whole s mode a → word_break site.size claims mode a ≡ None
  word_passes s mode a p t =
      word_touchable site.size claims mode a t.placed
      (subst (λ x. claim_break claims mode (word_span x) ≡ None) same
      (permitted s site.number claims mode (word_number a) p t.touched))
    where
      same : most_neg + 4 * word_number a ≡ a
      same = omega (arith, t.at, t.above)

  pub span_passes : (s : State) (mode : Mode) (span : Span) → Permits s site.number claims
      → place_break site.size span ≡ None → ((k : ℕ) → IsWordOf span k → IsTouched s site.number mode k)
      → span_break site.size claims mode span ≡ None
  span_passes s mode span p placed t =
      touchable site.size claims mode span placed
      (span_clear claims mode span (placed_above site.size span placed)
      (λ k w. permitted s site.number claims mode k p (t k w)))

  -- a span lies in the memory
  pub span_lies : (span : Span) → place_break site.size span ≡ None → LieThere site.size span.start span.size
  span_lies span placed = inside_bounds site.size span (placed_span site.size span placed).0

  -- each byte of a span is in a word of it
  pub byte_word : (span : Span) → place_break site.size span ≡ None → (i : ℕ) → place span.start ≤ i
      → i < place span.start + span.size → IsWordOf span (i / 4)
  byte_word span placed i a b = by (span_lies span placed)
    where
      many : word_count span ≡ (place span.start % 4 + span.size + 3) / 4
      many = rw (ne_eqb span.size 0 (λ z. omega (arith, z, a, b))) refl

      by : LieThere site.size span.start span.size → IsWordOf span (i / 4)
      by h = record { from = omega (arith, a); to = omega (arith, many, b) }

  -- a byte that was read, if it is known
  pub byte_value : (s : State) (store : Store) (mode : Mode) (a : ℕ) (words : Store)
      → Tells s site.number site.size store
      → IsSpanTouched s site.number site.size mode (byte_span a) words → are_known (part_of (byte_span a) words) ≡ true
      → from_le_bytes w32 (shown (part_of (byte_span a) words)) ≡ unwrap_or (byte_at store a) 0
  byte_value s store mode a words tells t known = by (span_lies (byte_span a) t.placed)
    where
      at : get_or (part_of (byte_span a) words) 0 None ≡ cell s site.number (place a)
      at =
          let e : place a + 0 ≡ place a = omega arith in
          part-at s site.number site.size (byte_span a) words whole
          (span_read s site.number site.size mode (byte_span a) words t) 0 (omega arith) ∙ ap (cell s site.number) e

      by : LieThere site.size a 1
          → from_le_bytes w32 (shown (part_of (byte_span a) words)) ≡ unwrap_or (byte_at store a) 0
      by (inl z) = absurd (omega (arith, z))
      by (inr l) =
          byte_known site.number site.size s store a (part_of (byte_span a) words) tells l.0 (omega (arith, l.0, l.1))
          (part-length s site.number site.size (byte_span a) words whole
          (span_read s site.number site.size mode (byte_span a) words t)) at known

  -- a copy is made on both sides
  pub both_copied : (s t : State) (new : Store) (from to count : ℕ) → Tells s site.number site.size new
      → IsCopied site whole s t (record { start = from; size = count }) (record { start = to; size = count })
      → GoesOn site.number site.size s t new (with_cells new to (cells new from count))
  both_copied s t new from to count tells k =
      set_both site.number site.size s t new to (part_of source k.words) (cells new from count) tells k.written.keeps
      k.written.set (part ∙ sym many)
      (λ j h. each j (omega (arith, part, h)))
      (λ i l h. (k.written.touched (i / 4) (byte_word target k.written.placed i l
      (omega (arith, many, h)))).free)
      (subst (λ m. LieThere site.size to m) (sym many) (span_lies target k.written.placed))
    where
      source : Span
      source = record { start = from; size = count }

      target : Span
      target = record { start = to; size = count }

      part : length (part_of source k.words) ≡ count
      part =
          part-length s site.number site.size source k.words whole
          (span_read s site.number site.size Reads source k.words k.read)

      many : length (cells new from count) ≡ count
      many = by (span_lies source k.read.placed)
        where
          by : LieThere site.size from count → length (cells new from count) ≡ count
          by (inl z) =
              let none : place from + count - place from ≡ count = omega arith in
              rw (none, length-take, length-drop) (omega (arith, z))
          by (inr l) = range-length new (place from) count (omega (arith, l.0, l.1, tells.length))

      each : (j : ℕ) → j < count
          → Knows (get_or (part_of source k.words) j None) (get_or (cells new from count) j None)
      each j h = by (span_lies source k.read.placed)
        where
          by : LieThere site.size from count
              → Knows (get_or (part_of source k.words) j None) (get_or (cells new from count) j None)
          by (inl z) = absurd (omega (arith, z, h))
          by (inr l) =
              rw (
                part-at s site.number site.size source k.words whole
                    (span_read s site.number site.size Reads source k.words k.read) j h,
                range-at new (place from) count j h,
              )
              (tells.cells (place from + j) (omega (arith, l.0, l.1, h)))

  -- and passes the check on the store
  pub copy_passes : (s t : State) (from to count : ℕ) → Permits s site.number claims
      → IsCopied site whole s t (record { start = from; size = count }) (record { start = to; size = count })
      → copy_break site.size claims from to count ≡ None
  unfolding copy_break
  copy_passes s t from to count p k =
      let one : span_break site.size claims Reads (record { start = from; size = count }) ≡ None =
      span_passes s Reads (record { start = from; size = count }) p k.read.placed
      (λ i l. k.read.are.touched i l.from l.to) in
      let other : span_break site.size claims Writes (record { start = to; size = count }) ≡ None =
      span_passes s Writes (record { start = to; size = count }) p k.written.placed k.written.touched in
      rw (one, other) refl

-- whether a value that is written is known is told
abbrev pub KnownAs : (same : Bool) → (r r' : Registers) → List Origin → List Bool → Type 0
KnownAs same r r' [] ks = Unit {0}
KnownAs same r r' (o ∷ os) ks =
    (is_next_known ks ≡ true → (v w : ℕ) → AreAlike o same r r' v w → v ≡ w) × KnownAs same r r' os (after_next ks)

next_known : (same : Bool) (r r' : Registers) (ws : List Origin) (ks : List Bool) (v w : ℕ) → KnownAs same r r' ws ks
    → AreAlike (next_origin ws) same r r' v w → is_next_known ks ≡ true → v ≡ w
next_known same r r' [] ks v w h a k = a
next_known same r r' (o ∷ os) ks v w h a k = h.0 k v w a

later_known : (same : Bool) (r r' : Registers) (ws : List Origin) (ks : List Bool) → KnownAs same r r' ws ks
    → KnownAs same r r' (later_origins ws) (after_next ks)
later_known same r r' [] ks h = tt
later_known same r r' (o ∷ os) ks h = h.1

module _ (site : Site) (whole : site.size % 4 ≡ 0) (claims : Claims) (u : Uses) (r r' : Registers) where
  abbrev n : ℕ
  n = site.number

  -- the store does another action, which ends alike
  pub record IsDone (same : Bool) (y : Action Outcome) (old new : Store) (s : State) (x : Outcome) (t : State)
      : Type 0 where
    pub outcome : Outcome
    pub store : Store
    pub ran : run_from y old claims new ≡ Ok (outcome, store)
    pub alike : EndAlike u same r r' x outcome
    pub on : GoesOn n site.size s t new store

  -- the same holds after an action was performed, where all that it read is known or need not be
  abbrev pub Ends : Bool → Action Outcome → Store → Store → State → Performed Outcome → State → Type 0
  Ends same y old new s p t = (same ≡ true → p.known ≡ true) → IsDone same y old new s p.value t

  -- state and store as an action begins, or goes on
  pub record Begins (written : Bool) (s : State) (old new : Store) : Type 0 where
    pub tells : Tells s n site.size new
    pub permits : Permits s n claims
    pub size : length old ≡ site.size
    pub unwritten : written ≡ false → new ≡ old

  -- a check that passed
  skip : {X : Type 0} (c : Option Break) (rest : Result X Break) → c ≡ None → unless c rest ≡ rest
  skip c rest e = rw e refl

  -- what is done after a first part
  more : (same : Bool) (z y : Action Outcome) (old new new' : Store) (s s' t : State) (x : Outcome)
      → run_from z old claims new ≡ run_from y old claims new' → GoesOn n site.size s s' new new'
      → IsDone same y old new' s' x t → IsDone same z old new s x t
  more same z y old new new' s s' t x e g d =
      record {
        outcome = d.outcome;
        store = d.store;
        ran = e ∙ d.ran;
        alike = d.alike;
        on = goes_on_more n site.size s s' t new new' d.store g d.on;
      }

  -- nothing is written yet
  again : (written : Bool) (s : State) (old new : Store) → written ≡ false → Begins written s old new
      → Begins false s old new
  again written s old new e b =
      record { tells = b.tells; permits = b.permits; size = b.size; unwritten = λ f. b.unwritten e }

  -- after a write
  wrote : (written : Bool) (s t : State) (old new new' : Store) → Begins written s old new
      → GoesOn n site.size s t new new' → Begins true t old new'
  wrote written s t old new new' b g =
      record {
        tells = g.tells;
        permits = permits_on s t n claims g.keeps b.permits;
        size = b.size;
        unwritten = λ e. absurd (true≢false e);
      }

  -- the check of a word on the store
  word_goes : (written : Bool) (s : State) (old new : Store) (mode : Mode) (a : ℕ) → Begins written s old new
      → IsWordTouched site whole s mode a → word_break (length old) claims mode a ≡ None
  word_goes written s old new mode a b t = rw b.size (word_passes site whole claims s mode a b.permits t)

  span_goes : (written : Bool) (s : State) (old new : Store) (mode : Mode) (span : Span) → Begins written s old new
      → place_break site.size span ≡ None → ((k : ℕ) → IsWordOf span k → IsTouched s n mode k)
      → span_break (length old) claims mode span ≡ None
  span_goes written s old new mode span b placed t =
      rw b.size (span_passes site whole claims s mode span b.permits placed t)

  -- the check of a copy
  copy_goes : (written : Bool) (s t : State) (old new : Store) (from to count : ℕ) → Begins written s old new
      → IsCopied site whole s t (record { start = from; size = count }) (record { start = to; size = count })
      → copy_break (length old) claims from to count ≡ None
  copy_goes written s t old new from to count b k =
      rw b.size (copy_passes site whole claims s t from to count b.permits k)

  -- a byte that was read
  byte_read_on : (written : Bool) (s : State) (old new : Store) (mode : Mode) (a : ℕ) (words : Store)
      → Begins written s old new → written ≡ false → IsSpanTouched s n site.size mode (byte_span a) words
      → are_known (part_of (byte_span a) words) ≡ true
      → from_le_bytes w32 (shown (part_of (byte_span a) words)) ≡ unwrap_or (byte_at old a) 0
  byte_read_on written s old new mode a words b none t known =
      byte_value site whole claims s new mode a words b.tells t known
      ∙ ap (λ (z : Store). unwrap_or (byte_at z a) 0) (b.unwritten none)

  -- a word was written on both sides
  word_set_on : (written : Bool) (s t : State) (old new : Store) (a v w : ℕ) (known : Bool) → Begins written s old new
      → IsWordWritten site whole s t a (bytes_if known (to_le_bytes w32 v)) → (known ≡ true → v ≡ w)
      → GoesOn n site.size s t new (with_word new a w)
  word_set_on written s t old new a v w known b k e =
      set_both n site.size s t new a (bytes_if known (to_le_bytes w32 v)) (as_cells (to_le_bytes w32 w)) b.tells k.keeps
      k.set refl
      (λ j h. knows_bytes known (to_le_bytes w32 v) (to_le_bytes w32 w) (λ f. ap (to_le_bytes w32) (e f)) j)
      (λ i l h. subst (λ m. use_of s n m ≡ Free) (word i l h) k.touched.touched.free)
      (inr (k.touched.above, omega (arith, k.touched.at, k.touched.within)))
    where
      word : (i : ℕ) → place a ≤ i → i < place a + 4 → word_number a ≡ i / 4
      word i l h = omega (arith, k.touched.at, l, h)

  -- a byte
  byte_set_on : (written : Bool) (s t : State) (old new : Store) (a v w : ℕ) (known : Bool) → Begins written s old new
      → IsWritten site whole s t (byte_span a) (bytes_if known (v % 256 ∷ [])) → (known ≡ true → v ≡ w)
      → GoesOn n site.size s t new (with_cells new a (as_cells (w % 256 ∷ [])))
  byte_set_on written s t old new a v w known b k e =
      set_both n site.size s t new a (bytes_if known (v % 256 ∷ [])) (as_cells (w % 256 ∷ [])) b.tells k.keeps
      k.set refl
      (λ j h. knows_bytes known (v % 256 ∷ []) (w % 256 ∷ []) (λ f. ap (λ (m : ℕ). m % 256 ∷ []) (e f)) j)
      (λ i l h. (k.touched (i / 4) (byte_word site whole claims (byte_span a) k.placed i l h)).free)
      (span_lies site whole claims (byte_span a) k.placed)

  -- a copy
  copied_on : (written : Bool) (s t : State) (old new : Store) (from to count : ℕ) → Begins written s old new
      → IsCopied site whole s t (record { start = from; size = count }) (record { start = to; size = count })
      → GoesOn n site.size s t new (with_cells new to (cells new from count))
  copied_on written s t old new from to count b k = both_copied site whole claims s t new from to count b.tells k

  -- what was read before is known or not, and what follows
  read_on : (same known : Bool) (ks : List Bool) (x y : ℕ → Action Outcome) (ws : List Origin) (v w : ℕ) (old new
      : Store) (s : State) → ForReads same (λ v w. DoAlike u ws same r r' (x v) (y w)) → (known ≡ true → v ≡ w)
      → (DoAlike u ws same r r' (x v) (y w)
      → After (perform site ks (x v)) s (Ends same (y w) old new s))
      → After (noted known (perform site ks (x v))) s (Ends same (y w) old new s)
  read_on true true ks x y ws v w old new s h e rec =
      after_bind (perform site ks (x v)) _ s (Ends true (y w) old new s)
      (after_weaken (perform site ks (x v)) s (Ends true (y w) old new s) _
      (rec (subst (λ z. DoAlike u ws true r r' (x v) (y z)) (e refl) (h v))) (λ p t q. q))
  read_on true false ks x y ws v w old new s h e rec =
      after_bind (perform site ks (x v)) _ s (Ends true (y w) old new s)
      (after_all (perform site ks (x v)) s _ (λ p t k. absurd (true≢false (sym (k refl)))))
  read_on false known ks x y ws v w old new s h e rec =
      after_bind (perform site ks (x v)) _ s (Ends false (y w) old new s)
      (after_weaken (perform site ks (x v)) s (Ends false (y w) old new s) _ (rec (h v w))
      (λ p t q k. q (λ f. absurd (true≢false (sym f)))))

  pub performs : (same : Bool) (x y : Action Outcome) (ws : List Origin) (ks : List Bool) (written : Bool) (s : State)
      (old new : Store) → DoAlike u ws same r r' x y → ReadsFirst written x → KnownAs same r r' ws ks
      → Begins written s old new → After (perform site ks x) s (Ends same y old new s)
  performs same (answer x) (answer y) ws ks written s old new h f k b = λ e.
      record { outcome = y; store = new; ran = refl; alike = h; on = goes_on_self n site.size s new b.tells }
  performs same (breaks c) (breaks d) ws ks written s old new h f k b = tt
  performs same (requiring t c x) (requiring t' d y) ws ks written s old new h f k b =
      after_bind (require t (Breaks c)) _ s _ (after_require t (Breaks c) s _ (λ e.
      after_weaken (perform site ks x) s (Ends same y old new s) _
      (performs same x y ws ks written s old new h.2 f k b)
      (λ p u q known. more same (requiring t' d y) y old new new s s u p.value
      (let e' : t' ≡ true = sym h.0 ∙ e in rw e' refl) (goes_on_self n site.size s new b.tells) (q known))))
  performs same (touching_word m a x) (touching_word m' c y) ws ks written s old new h f k b =
      subst (λ z. After (perform site ks (touching_word m a x)) s (Ends same (touching_word m' z y) old new s)) h.1
      (subst (λ z. After (perform site ks (touching_word m a x)) s (Ends same (touching_word z a y) old new s)) h.0
      (after_bind (touch_word_at site m a) _ s _ (touch_word_at_then site whole m a s _ (λ t.
      after_weaken (noted (are_known (here t)) (perform site ks (x (from_le_bytes w32 (shown (here t)))))) s
      (Ends same (y (word_at old a)) old new s) _
      (read_on same (are_known (here t)) ks x y ws (from_le_bytes w32 (shown (here t))) (word_at old a) old new s h.2
      (same_value t)
      (λ d. performs same (x (from_le_bytes w32 (shown (here t)))) (y (word_at old a)) ws ks false s old new d
      (f.1 (from_le_bytes w32 (shown (here t)))) k (again written s old new f.0 b)))
      (λ p u q known. more same (touching_word m a y) (y (word_at old a)) old new new s s u p.value
      (skip (word_break (length old) claims m a) _ (word_goes written s old new m a b t))
      (goes_on_self n site.size s new b.tells) (q known))))))
    where
      here : IsWordTouched site whole s m a → Store
      here t = (word_of s n (word_number a)).cells

      same_value : (t : IsWordTouched site whole s m a) → are_known (here t) ≡ true
          → from_le_bytes w32 (shown (here t)) ≡ word_at old a
      same_value t known =
          let at : most_neg + 4 * word_number a ≡ a = omega (arith, t.at, t.above) in
          word_known n site.size s new (word_number a) b.tells t.within known
          ∙ ap (word_at new) at
          ∙ ap (λ (z : Store). word_at z a) (b.unwritten f.0)
  performs same (writing_word a v x) (writing_word c w y) ws ks written s old new h f k b =
      subst (λ z. After (perform site ks (writing_word a v x)) s (Ends same (writing_word z w y) old new s)) h.0
      (after_bind (write_word_at site a (bytes_if (is_next_known ks) (to_le_bytes w32 v))) _ s _
      (write_word_at_then site whole a (bytes_if (is_next_known ks) (to_le_bytes w32 v)) s _ refl (λ t wr.
      let g : GoesOn n site.size s t new (with_word new a w) =
      word_set_on written s t old new a v w (is_next_known ks) b wr (next_known same r r' ws ks v w k h.1) in
      after_weaken (perform site (after_next ks) x) t (Ends same y old (with_word new a w) t) _
      (performs same x y (later_origins ws) (after_next ks) true t old (with_word new a w) h.2 f
      (later_known same r r' ws ks k) (wrote written s t old new (with_word new a w) b g))
      (λ p u q known. more same (writing_word a w y) y old new (with_word new a w) s t u p.value
      (skip (word_break (length old) claims Writes a) _ (word_goes written s old new Writes a b wr.touched)) g
      (q known)))))
  performs same (writing_byte a v x) (writing_byte c w y) ws ks written s old new h f k b =
      subst (λ z. After (perform site ks (writing_byte a v x)) s (Ends same (writing_byte z w y) old new s)) h.0
      (after_bind (write site (byte_span a) (bytes_if (is_next_known ks) (v % 256 ∷ []))) _ s _
      (write_then site whole (byte_span a) (bytes_if (is_next_known ks) (v % 256 ∷ [])) s _ refl b.tells.words (λ t wr.
      let new' : Store = with_cells new a (as_cells (w % 256 ∷ [])) in
      let g : GoesOn n site.size s t new (with_cells new a (as_cells (w % 256 ∷ []))) =
      byte_set_on written s t old new a v w (is_next_known ks) b wr (next_known same r r' ws ks v w k h.1) in
      after_weaken (perform site (after_next ks) x) t (Ends same y old new' t) _
      (performs same x y (later_origins ws) (after_next ks) true t old new' h.2 f
      (later_known same r r' ws ks k) (wrote written s t old new new' b g))
      (λ p u q known. more same (writing_byte a w y) y old new new' s t u p.value
      (skip (span_break (length old) claims Writes (byte_span a)) _
      (span_goes written s old new Writes (byte_span a) b wr.placed wr.touched)) g
      (q known)))))
  performs same (touching_byte m a x) (touching_byte m' c y) ws ks written s old new h f k b =
      subst (λ z. After (perform site ks (touching_byte m a x)) s (Ends same (touching_byte m' z y) old new s)) h.1
      (subst (λ z. After (perform site ks (touching_byte m a x)) s (Ends same (touching_byte z a y) old new s)) h.0
      (after_bind (touch site m (byte_span a)) _ s _
      (touch_then site whole m (byte_span a) s _ b.tells.words (λ words t.
      let here : Store = part_of (byte_span a) words in
      let w : ℕ = unwrap_or (byte_at old a) 0 in
      after_weaken (noted (are_known here) (perform site ks (x (from_le_bytes w32 (shown here))))) s
      (Ends same (y w) old new s) _
      (read_on same (are_known here) ks x y ws (from_le_bytes w32 (shown here)) w old new s h.2
      (byte_read_on written s old new m a words b f.0 t)
      (λ d. performs same (x (from_le_bytes w32 (shown here))) (y w) ws ks false s old new d
      (f.1 (from_le_bytes w32 (shown here))) k (again written s old new f.0 b)))
      (λ p u q known. more same (touching_byte m a y) (y w) old new new s s u p.value
      (skip (span_break (length old) claims m (byte_span a)) _
      (span_goes written s old new m (byte_span a) b t.placed (λ i l. t.are.touched i l.from l.to)))
      (goes_on_self n site.size s new b.tells) (q known))))))
  performs same (copying a c m x) (copying a' c' m' y) ws ks written s old new h f k b =
      subst (λ z. After P s (Ends same (copying a' c' z y) old new s)) h.2
      (subst (λ z. After P s (Ends same (copying a' z m y) old new s)) h.1
      (subst (λ z. After P s (Ends same (copying z c m y) old new s)) h.0
      (after_bind (copied site (record { start = a; size = m }) (record { start = c; size = m })) _ s _
      (copied_then site whole (record { start = a; size = m }) (record { start = c; size = m }) s _ refl b.tells.words
      (λ t cp.
      let new' : Store = with_cells new c (cells new a m) in
      let g : GoesOn n site.size s t new (with_cells new c (cells new a m)) =
      copied_on written s t old new a c m b cp in
      after_weaken (perform site ks x) t (Ends same y old new' t) _
      (performs same x y ws ks true t old new' h.3 f k (wrote written s t old new new' b g))
      (λ p u q known. more same (copying a c m y) y old new new' s t u p.value
      (skip (copy_break (length old) claims a c m) _ (copy_goes written s t old new a c m b cp)) g (q known)))))))
    where
      P : Part (Performed Outcome)
      P = perform site ks (copying a c m x)
  performs same _ _ ws ks written s old new h f k b = absurd h
