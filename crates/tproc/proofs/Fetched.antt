-- What is kept as decoded code is still fetched, where it has no byte of what has changed.
use Rattle.std.proofs.Common.{◌≡◌, ◌≤◌, ℕ, zero, suc, refl, sym, ◌∙◌, List, [], ◌∷◌, length, set, Bool, true}
use Rattle.std.proofs.Common.{false, not, Option, Some, None, arith}
use Rattle.std.specs.Prelude.{◌==◌, unwrap_or}
use Rattle.std.specs.List.{list_any}
use Rattle.std.proofs.lemmas.Bool.{and_parts, both_ways, or_parts, or_right, eq-eqb}
use Rattle.tword.specs.declared.span.Span.{Span}
use Rattle.tword.specs.Accesses.{Frees, with_input, with_output, without_input, without_output}
use Rattle.tword.specs.Claims.{Claims, has_saved, is_input, is_saved, overlap, overlaps_claim, saved_words, saving}
use Rattle.tword.specs.Outside.{StandsOutside}
use Rattle.tword.specs.Stores.{Store, byte_at, with_cells}
use Rattle.tword.specs.Actions.{is_slot}
use Rattle.tword.specs.Touches.{Reads, byte_span, is_inside, span_break, word_span}
use Rattle.tword.specs.Words.{plus, word_below}
use Rattle.tword.proofs.Blind.{Clear}
use Rattle.tword.proofs.Descheduling.{saved_word-clear}
use Rattle.tword.proofs.Hiding.{overlap-parts, overlap_back}
use Rattle.tword.proofs.Outside.{outside_cells}
use Rattle.tword.proofs.Passing.{Passes, span_break-none}
use Rattle.tcpu.specs.Written.{nothing}
use Rattle.tcode.specs.Decoding.{IsFetched}
use Rattle.tcode.proofs.StoreSteps.{or_break-ok}
use Rattle.tcode.specs.Known.{AreFetched, AreForgotten}
use Rattle.tcode.specs.declared.code_table.CodeEntry.{CodeEntry}
use Rattle.tproc.proofs.Occurs.{found}

-- ---- one byte

-- a byte of a store of the same size is still fetched, where it is the same and nothing more stops it
fetched_alike : (s t : Store) (c d : Claims) (a b : ℕ) → length t ≡ length s → byte_at t a ≡ byte_at s a
    → (is_input c (byte_span a) ≡ false → is_input d (byte_span a) ≡ false)
    → (is_saved c (byte_span a) ≡ false → is_saved d (byte_span a) ≡ false)
    → IsFetched s c a b → IsFetched t d a b
unfolding span_break
fetched_alike s t c d a b size same inputs saved h =
    let k : (span_break (length s) c Reads (byte_span a) ≡ None)
    × (unwrap_or (byte_at s a) 0 ≡ b) = or_break-ok _ _ _ h in
    let p : Passes (length s) c Reads (byte_span a) = span_break-none (length s) c Reads (byte_span a) k.0 in
    rw (size, p.inside, p.open_to_all, inputs p.still, saved p.unsaved, same, k.1) refl

-- ---- the tables

-- entries that are left are still fetched, if all bytes without one of the span are
kept_fetched : (span : Span) (old new : List CodeEntry) (s t : Store) (c d : Claims)
    → ((a b : ℕ) → overlap (byte_span a) span ≡ false → IsFetched s c a b → IsFetched t d a b)
    → AreForgotten span old new → AreFetched old s c → AreFetched new t d
kept_fetched span old new s t c d each forgotten fetched k e there =
    record {
      first = λ l. let p = forgotten k e there l in
          each e.address e.first (p.1.first l) ((fetched k e p.0).first l);
      second = λ l. let p = forgotten k e there (omega (arith, l)) in
          each (plus e.address 1) e.second (p.1.second l) ((fetched k e p.0).second l);
    }

-- where nothing is forgotten all bytes have to be
all_fetched : (entries : List CodeEntry) (s t : Store) (c d : Claims)
    → ((a b : ℕ) → IsFetched s c a b → IsFetched t d a b) → AreFetched entries s c → AreFetched entries t d
all_fetched entries s t c d each fetched k e there =
    record {
      first = λ l. each e.address e.first ((fetched k e there).first l);
      second = λ l. each (plus e.address 1) e.second ((fetched k e there).second l);
    }

-- ---- what changes

-- bytes of the store
pub fetched_outside : (span : Span) (old new : List CodeEntry) (s t : Store) (c : Claims) → length t ≡ length s
    → StandsOutside span s t → AreForgotten span old new → AreFetched old s c → AreFetched new t c
fetched_outside span old new s t c size stands =
    kept_fetched span old new s t c c
    (λ a b clear. fetched_alike s t c c a b size (stands a clear) (λ h. h) (λ h. h))

-- where nothing is written, nothing is forgotten
pub forgotten_nothing : (span : Span) (entries : List CodeEntry) → span ≡ nothing → AreForgotten span entries entries
forgotten_nothing span entries none k e g some =
    rw none (g, record { first = λ l. refl; second = λ l. refl })

-- cells that are put where they fit
pub fetched_cells : (a m : ℕ) (put : Store) (old new : List CodeEntry) (s t : Store) (c : Claims)
    → t ≡ with_cells s a put → length put ≡ m → is_inside (length s) (record { start = a; size = m }) ≡ true
    → length t ≡ length s → AreForgotten (record { start = a; size = m }) old new → AreFetched old s c
    → AreFetched new t c
fetched_cells a m put old new s t c made size inside same =
    fetched_outside (record { start = a; size = m }) old new s t c same (rw made (outside_cells s a m put size inside))

-- ---- what no fetch finds

-- a byte that is fetched passes its touch
fetched_passes : (s : Store) (c : Claims) (a b : ℕ) → IsFetched s c a b → Passes (length s) c Reads (byte_span a)
fetched_passes s c a b h = span_break-none (length s) c Reads (byte_span a) (or_break-ok _ _ _ h).0

-- so it is in no saved word, nor in a span within the three of a workspace
not_saved : (s : Store) (c : Claims) (w a b : ℕ) → has_saved c w ≡ true → IsFetched s c a b
    → overlap (saved_words w) (byte_span a) ≡ false
not_saved s c w a b saved h = overlap_back (byte_span a) (saved_words w)
    (by (overlap (byte_span a) (saved_words w)) refl)
  where
    by : (t : Bool) → overlap (byte_span a) (saved_words w) ≡ t → overlap (byte_span a) (saved_words w) ≡ false
    by false e = e
    by true e =
        absurd (both_ways (is_saved c (byte_span a)) (fetched_passes s c a b h).unsaved
        (found (λ v. overlap (byte_span a) (saved_words v)) w c.saved e saved))

not_slot : (s : Store) (c : Claims) (w k a b : ℕ) → length s ≤ 16777216 → is_slot k ≡ true
    → is_inside (length s) (saved_words w) ≡ true → has_saved c w ≡ true → IsFetched s c a b
    → overlap (byte_span a) (word_span (word_below w k)) ≡ false
not_slot s c w k a b small slot inside saved h =
    let clear : list_any (overlaps_claim (saved_words w)) (Some (byte_span a) ∷ []) ≡ false =
    rw (not_saved s c w a b saved h) refl in
    let p : Clear (length s) (Some (byte_span a) ∷ []) (word_span (word_below w k)) =
    saved_word-clear (Some (byte_span a) ∷ []) (length s) w k (omega (arith, small)) inside slot clear in
    overlap_back (word_span (word_below w k)) (byte_span a)
    (or_parts (overlap (word_span (word_below w k)) (byte_span a)) false p.apart).0

-- nor is it one of a pending input
not_input : (s : Store) (c : Claims) (i a b : ℕ) → is_input c (byte_span i) ≡ true → IsFetched s c a b
    → overlap (byte_span a) (byte_span i) ≡ false
not_input s c i a b input h = by (overlap (byte_span a) (byte_span i)) refl
  where
    by : (t : Bool) → overlap (byte_span a) (byte_span i) ≡ t → overlap (byte_span a) (byte_span i) ≡ false
    by false e = e
    by true e =
        let p = overlap-parts (byte_span a) (byte_span i) e in
        let same : a ≡ i = omega (arith, p.2, p.3) in
        absurd (both_ways (is_input c (byte_span i)) (rw same at (fetched_passes s c a b h).still) input)

-- so what is set in a saved word leaves all that is fetched
pub fetched_beside_slot : (w k : ℕ) (put : Store) (entries : List CodeEntry) (s t : Store) (c : Claims)
    → length s ≤ 16777216 → is_slot k ≡ true → is_inside (length s) (saved_words w) ≡ true → has_saved c w ≡ true
    → t ≡ with_cells s (word_below w k) put → length put ≡ 4
    → is_inside (length s) (word_span (word_below w k)) ≡ true → length t ≡ length s → AreFetched entries s c
    → AreFetched entries t c
fetched_beside_slot w k put entries s t c small slot lies saved made size inside same =
    let stands : StandsOutside (word_span (word_below w k)) s t =
    rw made (outside_cells s (word_below w k) 4 put size inside) in
    all_fetched entries s t c c
    (λ a b h. fetched_alike s t c c a b same (stands a (not_slot s c w k a b small slot lies saved h)) (λ i. i) (λ i. i)
    h)

-- and so does a byte of a pending input
pub fetched_beside_input : (i : ℕ) (put : Store) (entries : List CodeEntry) (s t : Store) (c : Claims)
    → is_input c (byte_span i) ≡ true → t ≡ with_cells s i put → length put ≡ 1
    → is_inside (length s) (byte_span i) ≡ true → length t ≡ length s → AreFetched entries s c
    → AreFetched entries t c
fetched_beside_input i put entries s t c input made size inside same =
    let stands : StandsOutside (byte_span i) s t = rw made (outside_cells s i 1 put size inside) in
    all_fetched entries s t c c
    (λ a b h. fetched_alike s t c c a b same (stands a (not_input s c i a b input h)) (λ i. i) (λ i. i) h)

-- ---- what claims change

-- the words of one more workspace are saved
pub fetched_saving : (w : ℕ) (old new : List CodeEntry) (s : Store) (c : Claims)
    → AreForgotten (saved_words w) old new → AreFetched old s c → AreFetched new s (saving w c)
fetched_saving w old new s c =
    kept_fetched (saved_words w) old new s s c (saving w c)
    (λ a b clear. fetched_alike s s c (saving w c) a b refl refl (λ h. h) (λ h. rw clear h))

-- the input of a link has a buffer
with_claim : (f : Option Span → Bool) (claims : List (Option Span)) (l : ℕ) (claim : Option Span) → f claim ≡ false
    → list_any f claims ≡ false → list_any f (set claims l claim) ≡ false
with_claim f [] l claim clear h = refl
with_claim f (x ∷ claims) zero claim clear h = rw (clear, (or_parts (f x) (list_any f claims) h).1) refl
with_claim f (x ∷ claims) (suc l) claim clear h =
    let both : (f x ≡ false) × (list_any f claims ≡ false) = or_parts (f x) (list_any f claims) h in
    rw (both.0, with_claim f claims l claim clear both.1) refl

pub fetched_input : (l : ℕ) (span : Span) (old new : List CodeEntry) (s : Store) (c : Claims)
    → AreForgotten span old new → AreFetched old s c → AreFetched new s (with_input l span c)
fetched_input l span old new s c =
    kept_fetched span old new s s c (with_input l span c)
    (λ a b clear. fetched_alike s s c (with_input l span c) a b refl refl
    (with_claim (overlaps_claim (byte_span a)) c.inputs l (Some span) clear) (λ h. h))

-- or none
pub fetched_without_input : (l : ℕ) (entries : List CodeEntry) (s : Store) (c : Claims) → AreFetched entries s c
    → AreFetched entries s (without_input l c)
fetched_without_input l entries s c =
    all_fetched entries s s c (without_input l c)
    (λ a b. fetched_alike s s c (without_input l c) a b refl refl
    (with_claim (overlaps_claim (byte_span a)) c.inputs l None refl) (λ h. h))

-- the output of a link has a buffer, or none
pub fetched_output : (l : ℕ) (span : Span) (entries : List CodeEntry) (s : Store) (c : Claims)
    → AreFetched entries s c → AreFetched entries s (with_output l span c)
fetched_output l span entries s c =
    all_fetched entries s s c (with_output l span c)
    (λ a b. fetched_alike s s c (with_output l span c) a b refl refl (λ h. h) (λ h. h))

pub fetched_without_output : (l : ℕ) (entries : List CodeEntry) (s : Store) (c : Claims) → AreFetched entries s c
    → AreFetched entries s (without_output l c)
fetched_without_output l entries s c =
    all_fetched entries s s c (without_output l c)
    (λ a b. fetched_alike s s c (without_output l c) a b refl refl (λ h. h) (λ h. h))

-- the words of a workspace are free
fewer_saved : (f : ℕ → Bool) (old new : List ℕ)
    → ((v : ℕ) → list_any (λ w. w == v) new ≡ true → list_any (λ w. w == v) old ≡ true)
    → list_any f old ≡ false → list_any f new ≡ false
fewer_saved f old [] among h = refl
fewer_saved f old (x ∷ new) among h =
    by (f x) refl (fewer_saved f old new (λ v k. among v (or_right (x == v) _ k)) h)
  where
    by : (b : Bool) → f x ≡ b → list_any f new ≡ false → list_any f (x ∷ new) ≡ false
    by false e rest = rw (e, rest) refl
    by true e rest =
        absurd (both_ways (list_any f old) h (found f x old e (among x (rw (eq-eqb x x refl) refl))))

pub fetched_freed : (w : ℕ) (entries : List CodeEntry) (s : Store) (c d : Claims) → Frees w c d
    → d.inputs ≡ c.inputs → AreFetched entries s c → AreFetched entries s d
fetched_freed w entries s c d frees inputs =
    all_fetched entries s s c d
    (λ a b. fetched_alike s s c d a b refl refl (λ h. rw inputs h)
    (fewer_saved (λ v. overlap (byte_span a) (saved_words v)) c.saved d.saved
    (λ v k. (and_parts (not (v == w)) (has_saved c v) (sym (frees v) ∙ k)).1)))
