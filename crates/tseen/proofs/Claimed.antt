-- What is claimed, by what words are in use for: the bytes of pending inputs, the saved words of one more process, and
-- words that are no saved words and not of a pending input.
use Rattle.std.proofs.Common.{◌≡◌, ◌≢◌, ℕ, ◌+◌, ◌-◌, ◌*◌, ◌≤◌, ◌<◌, ◌/◌, ◌%◌, ◌^◌, refl, sym, ap, subst, ◌∙◌, Bool}
use Rattle.std.proofs.Common.{true, false, length, map, Option, Some, None, arith, ◌⊎◌, inl, inr, option_map}
use Rattle.std.specs.Prelude.{IfSome}
use Rattle.std.proofs.lemmas.Bool.{ne_eqb}
use Rattle.std.proofs.lemmas.List.{length-map, get_or-map}
use Rattle.std.proofs.lemmas.List.Folds.{Any-from_list_any}
use Rattle.tword.specs.Words.{most_neg, word_below}
use Rattle.tword.specs.Stores.{place}
use Rattle.tword.specs.declared.span.Span.{Span}
use Rattle.tword.specs.Claims.{Claims, overlap, overlaps_claim, is_input, saved_words, saving}
use Rattle.tword.specs.Touches.{Mode, Reads, Writes, byte_span, claim_break}
use Rattle.tword.proofs.Hiding.{overlap-parts}
use Rattle.tword.proofs.Passing.{inside_bounds}
use Rattle.tproc.specs.declared.offer.Offer.{Offer}
use Rattle.tproc.specs.declared.waiter.LinkEnd.{LinkEnd}
use Rattle.tproc.specs.declared.waiter.Reason.TheVariants.{LinkInput}
use Rattle.tproc.specs.Machine.{Machine, buffer_of, claims_of}
use Rattle.tproc.specs.LinkChannels.{link_end, quiet_end}
use Rattle.tproc.specs.Placement.{IsPlaced, IsBuffer, WaitsFor}
use Rattle.tproc.proofs.WordsApart.{LiesWord}
use Rattle.tprocesses.specs.Values.{Receiving}
use Rattle.tprocesses.specs.Touching.{word_number, word_count}
use Rattle.tseen.specs.Outputs.{Pending}
use Rattle.tseen.specs.Words.{AreMarked}
use Rattle.tseen.proofs.After.{State}
use Rattle.tseen.proofs.Spans.{word_of_number}
use Rattle.tseen.proofs.Cells.{use_of}
use Rattle.tseen.proofs.Saving.{below}

-- a byte of a pending input lies in a word that is in use for one
pub input_received : (s : State) (n : ℕ) (sent : ℕ → Option Pending) (m : Machine) → IsPlaced m
    → AreMarked s n sent m.control → (i : ℕ) → is_input (claims_of m.control) (byte_span (most_neg + i)) ≡ true
    → use_of s n (i / 4) ≡ Receiving
input_received s n sent m placed marks i h =
    let a = Any-from_list_any (overlaps_claim (byte_span (most_neg + i))) (map claim m.control.links) h in
    let inside : a.0 < length m.control.links = omega (arith, a.2, length-map m.control.links claim) in
    let is : a.1 ≡ claim (link_end m.control a.0) =
    sym a.3 ∙ get_or-map claim m.control.links a.0 quiet_end a.1 inside in
    by a.0 (link_end m.control a.0).input refl
    (subst (λ (x : Option Span). overlaps_claim (byte_span (most_neg + i)) x ≡ true) is a.4)
  where
    claim : LinkEnd → Option Span
    claim e = option_map buffer_of e.input

    of : (l : ℕ) (o : Offer) → (link_end m.control l).input ≡ Some o
        → (0 < 1) × (0 < o.length) × (most_neg + i < o.buffer + o.length) × (o.buffer < most_neg + i + 1)
        → ((buffer_of o).size ≡ 0) ⊎ ((most_neg ≤ o.buffer) × (o.buffer - most_neg + o.length ≤ length m.store))
        → use_of s n (i / 4) ≡ Receiving
    of l o is parts (inl z) = absurd (omega (arith, parts.1, z))
    of l o is parts (inr b) =
        let many : word_count (buffer_of o) ≡ (place o.buffer % 4 + o.length + 3) / 4 =
        rw (ne_eqb o.length 0 (λ z. omega (arith, parts.1, z))) refl in
        let within : i / 4 - word_number o.buffer < word_count (buffer_of o) =
        omega (arith, many, parts.2, parts.3, b.0) in
        let same : word_number o.buffer + (i / 4 - word_number o.buffer) ≡ i / 4 = omega (arith, parts.3, b.0) in
        ap (use_of s n) (sym same) ∙ marks.inputs l o is (i / 4 - word_number o.buffer) within

    by : (l : ℕ) (o : Option Offer) → (link_end m.control l).input ≡ o
        → overlaps_claim (byte_span (most_neg + i)) (option_map buffer_of o) ≡ true → use_of s n (i / 4) ≡ Receiving
    by l None is e = cc
    by l (Some o) is e =
        let buffer : IsBuffer (length m.store) o =
        (subst (λ (x : Option Offer). IfSome x (λ o. WaitsFor m.control o.wdesc (LinkInput l)
        × IsBuffer (length m.store) o)) is (placed.claimed.inputs l)).1 in
        of l o is (overlap-parts (byte_span (most_neg + i)) (buffer_of o) e)
        (inside_bounds (length m.store) (buffer_of o) buffer.1)

-- a word is none of those below a workspace
pub none_below : (size w k : ℕ) → w < 2 ^ 32 → size ≤ 2 ^ 31 → LiesWord size (word_below w 1)
    → LiesWord size (word_below w 2) → LiesWord size (word_below w 3) → k ≢ below w 1 → k ≢ below w 2
    → k ≢ below w 3 → overlap (word_of_number k) (saved_words w) ≡ false
none_below size w k small room one two three a b c = by (overlap (word_of_number k) (saved_words w)) refl
  where
    second : word_below w 2 ≡ word_below w 3 + 4
    second = omega (arith, small, room, one.above, one.within, two.above, two.within, three.above, three.within)

    first : word_below w 1 ≡ word_below w 3 + 8
    first = omega (arith, small, room, one.above, one.within, two.above, two.within, three.above, three.within)

    by : (t : Bool) → overlap (word_of_number k) (saved_words w) ≡ t
        → overlap (word_of_number k) (saved_words w) ≡ false
    by false e = e
    by true e =
        let parts : (0 < 4) × (0 < 12) × (most_neg + 4 * k < word_below w 3 + 12)
        × (word_below w 3 < most_neg + 4 * k + 4) = overlap-parts (word_of_number k) (saved_words w) e in
        absurd (omega (
          arith,
          parts.2,
          parts.3,
          first,
          second,
          three.above,
          three.aligned,
          a,
          b,
          c,
        ))

-- so it may be touched where it might be before the words below the workspace were saved
pub saving_permits : (claims : Claims) (mode : Mode) (w k : ℕ) → overlap (word_of_number k) (saved_words w) ≡ false
    → claim_break claims mode (word_of_number k) ≡ None → claim_break (saving w claims) mode (word_of_number k) ≡ None
saving_permits claims Reads w k apart h = rw apart h
saving_permits claims Writes w k apart h = rw apart h
