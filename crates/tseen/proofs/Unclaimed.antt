-- A word that is free in the process machine has no byte of a saved word or of a pending input.
use Rattle.std.proofs.Common.{◌≡◌, ℕ, ◌+◌, ◌-◌, ◌*◌, ◌/◌, ◌%◌, ◌<◌, ◌≤◌, refl, sym, ap, ◌∙◌, subst, length, map, Bool}
use Rattle.std.proofs.Common.{true, false, cond, Option, Some, None, ◌⊎◌, inl, inr, arith, Contains, option_map}
use Rattle.std.proofs.Common.{zero, suc, pos, IfSome, true≢false}
use Rattle.std.proofs.lemmas.Bool.{cases_eq, ne_eqb, and_from, le-leb, lt-ltb, both_ways}
use Rattle.std.proofs.lemmas.List.{length-map, get_or-map}
use Rattle.std.proofs.lemmas.List.Elements.{All-contains}
use Rattle.std.proofs.lemmas.List.Folds.{Any-from_list_any}
use Rattle.tword.specs.Words.{most_neg, word_below}
use Rattle.tword.specs.Claims.{overlap, overlaps_claim, is_saved, is_input, is_output, saved_words}
use Rattle.tword.specs.Touches.{Reads, Writes, word_span, claim_break}
use Rattle.tword.specs.Stores.{place}
use Rattle.tword.specs.declared.span.Span.{Span}
use Rattle.tword.proofs.Hiding.{overlap-parts}
use Rattle.tword.proofs.Passing.{inside_bounds}
use Rattle.tproc.specs.declared.offer.Offer.{Offer}
use Rattle.tproc.specs.declared.waiter.LinkEnd.{LinkEnd}
use Rattle.tproc.specs.Machine.{Machine, buffer_of, claims_of, descheduled}
use Rattle.tproc.specs.LinkChannels.{link_end, quiet_end}
use Rattle.tproc.specs.Placement.{IsWord, IsPlaced, IsWorkspace, IsBuffer, WaitsFor}
use Rattle.tproc.specs.declared.waiter.Reason.TheVariants.{LinkInput, LinkOutput}
use Rattle.tproc.proofs.WordsApart.{LiesWord}
use Rattle.tprocesses.specs.Places.{Place, WordAt}
use Rattle.tprocesses.specs.Values.{Value, Use, Free, Receiving, word_in, amount_in}
use Rattle.tprocesses.specs.Touching.{word_number, word_count}
use Rattle.tseen.specs.Words.{AreMarked, AreSavedWords, use_at, is_set_aside}
use Rattle.tseen.specs.Outputs.{Pending, sendings, is_sending, covers}
use Rattle.tseen.specs.Halves.{request_of}
use Rattle.tnet.specs.Rendezvous.{was_copied}
use Rattle.tseen.specs.Shown.{FreeWordsAreReadable, UnsentWordsAreWritable}
use Rattle.tseen.proofs.Built.{lies_below}
use Rattle.tplan.specs.declared.plan.NodePlan.{NodePlan}
use Rattle.tnet.specs.Rendezvous.{Node}
use Rattle.tprocesses.specs.Places.{Name, Sending}
use Rattle.tseen.specs.Seats.{Seat}
use Rattle.tseen.specs.Shown.{ShowsNode}

-- a word that is set aside is not free
pub aside_not_free : {used : Use} → is_set_aside used ≡ true → used ≡ Free → ⊥
aside_not_free e f = true≢false (sym e ∙ ap is_set_aside f)

not_receiving : Receiving ≡ Free → ⊥
not_receiving e = cc

module _ (s : Place → Value) (n : ℕ) (sent : ℕ → Option Pending) (m : Machine) (placed : IsPlaced m)
    (marks : AreMarked s n sent m.control) (k : ℕ)
    (not_in_saved : is_set_aside (word_in (s (WordAt n k))).used ≡ true → ⊥)
    (not_in_input : (word_in (s (WordAt n k))).used ≡ Receiving → ⊥) where
  abbrev span : Span
  span = word_span (most_neg + 4 * k)

  -- the word is none of those below a workspace
  other_below : (w j : ℕ) → is_set_aside (use_at s n (word_below w j)) ≡ true
      → LiesWord (length m.store) (word_below w j)
      → word_below w j ≡ most_neg + 4 * k → ⊥
  other_below w j used l e =
      let same : word_number (word_below w j) ≡ k = omega (arith, e) in
      not_in_saved (sym (ap (λ i. is_set_aside (word_in (s (WordAt n i))).used) same) ∙ used)

  unsaved_by : (w : ℕ) → Contains (descheduled m.control) w → overlap span (saved_words w) ≡ true → ⊥
  unsaved_by w c o =
      let parts : (0 < 4) × (0 < 12) × (most_neg + 4 * k < word_below w 3 + 12)
      × (word_below w 3 < most_neg + 4 * k + 4) = overlap-parts span (saved_words w) o in
      let h : IsWorkspace (length m.store) w =
      All-contains (IsWorkspace (length m.store)) (descheduled m.control) w placed.claimed.saved c in
      let small : IsWord w = All-contains IsWord (descheduled m.control) w placed.workspaces c in
      let saved : AreSavedWords s n w =
      All-contains (AreSavedWords s n) (descheduled m.control) w marks.saved c in
      by (lies_below (length m.store) w 1 placed.claimed.size h small ((omega arith), (omega arith)))
      (lies_below (length m.store) w 2 placed.claimed.size h small ((omega arith), (omega arith)))
      (lies_below (length m.store) w 3 placed.claimed.size h small ((omega arith), (omega arith)))
      (ap is_set_aside (saved.used 0 1 (omega arith))) (ap is_set_aside (saved.used 1 1 (omega arith))) saved.third
      parts.2 parts.3
      (cases_eq (word_below w 1) (most_neg + 4 * k)) (cases_eq (word_below w 2) (most_neg + 4 * k))
      (inside_bounds (length m.store) (saved_words w) h.1)
    where
      by : LiesWord (length m.store) (word_below w 1) → LiesWord (length m.store) (word_below w 2)
          → LiesWord (length m.store) (word_below w 3) → is_set_aside (use_at s n (word_below w 1)) ≡ true
          → is_set_aside (use_at s n (word_below w 2)) ≡ true → is_set_aside (use_at s n (word_below w 3)) ≡ true
          → most_neg + 4 * k < word_below w 3 + 12 → word_below w 3 < most_neg + 4 * k + 4
          → (word_below w 1 ≡ most_neg + 4 * k) ⊎ (word_below w 1 ≡ most_neg + 4 * k → ⊥)
          → (word_below w 2 ≡ most_neg + 4 * k) ⊎ (word_below w 2 ≡ most_neg + 4 * k → ⊥)
          → ((saved_words w).size ≡ 0)
          ⊎ ((most_neg ≤ word_below w 3) × (word_below w 3 - most_neg + 12 ≤ length m.store)) → ⊥
      by a b c x y z low high (inl e) f g = other_below w 1 x a e
      by a b c x y z low high (inr d) (inl e) g = other_below w 2 y b e
      by a b c x y z low high (inr d) (inr e) (inl g) = absurd (omega arith)
      by a b c x y z low high (inr d) (inr e) (inr g) = other_below w 3 z c (third d e)
        where
          third : (word_below w 1 ≡ most_neg + 4 * k → ⊥) → (word_below w 2 ≡ most_neg + 4 * k → ⊥)
              → word_below w 3 ≡ most_neg + 4 * k
          third d e = last (cases_eq (word_below w 3) (most_neg + 4 * k))
            where
              last : (word_below w 3 ≡ most_neg + 4 * k) ⊎ (word_below w 3 ≡ most_neg + 4 * k → ⊥)
                  → word_below w 3 ≡ most_neg + 4 * k
              last (inl h) = h
              last (inr h) =
                  absurd (h (omega (
                    arith,
                    low,
                    high,
                    c.aligned,
                    b.aligned,
                    a.aligned,
                    g.0,
                    g.1,
                    d,
                    e,
                    placed.claimed.size,
                  )))

  unsaved : is_saved (claims_of m.control) span ≡ false
  unsaved = by (is_saved (claims_of m.control) span) refl
    where
      by : (t : Bool) → is_saved (claims_of m.control) span ≡ t → is_saved (claims_of m.control) span ≡ false
      by false e = e
      by true e =
          let a = Any-from_list_any (λ w. overlap span (saved_words w)) (descheduled m.control) e in
          absurd (unsaved_by a.1 (a.0, a.2, a.3) a.4)

  -- the word is none of the buffer of a pending input
  other_input : (l : ℕ) (o : Offer) → (link_end m.control l).input ≡ Some o → overlap span (buffer_of o) ≡ true → ⊥
  other_input l o is e =
      let parts : (0 < 4) × (0 < o.length) × (most_neg + 4 * k < o.buffer + o.length)
      × (o.buffer < most_neg + 4 * k + 4) = overlap-parts span (buffer_of o) e in
      let buffer : IsBuffer (length m.store) o =
      (subst (λ (x : Option Offer). IfSome x (λ o. WaitsFor m.control o.wdesc (LinkInput l)
      × IsBuffer (length m.store) o)) is (placed.claimed.inputs l)).1 in
      by parts.1 parts.2 parts.3 (inside_bounds (length m.store) (buffer_of o) buffer.1)
    where
      by : 0 < o.length → most_neg + 4 * k < o.buffer + o.length → o.buffer < most_neg + 4 * k + 4
          → ((buffer_of o).size ≡ 0)
          ⊎ ((most_neg ≤ o.buffer) × (o.buffer - most_neg + o.length ≤ length m.store)) → ⊥
      by some low high (inl z) = absurd (omega (arith, some, z))
      by some low high (inr b) =
          let many : word_count (buffer_of o) ≡ (place o.buffer % 4 + o.length + 3) / 4 =
          rw (ne_eqb o.length 0 (λ z. omega (arith, some, z))) refl in
          let within : k - word_number o.buffer < word_count (buffer_of o) =
          omega (arith, many, low, high, b.0, some) in
          let same : word_number o.buffer + (k - word_number o.buffer) ≡ k = omega (arith, low, high, b.0) in
          not_in_input
          (sym (ap (λ i. (word_in (s (WordAt n i))).used) same)
          ∙ marks.inputs l o is (k - word_number o.buffer) within)

  abbrev claim : LinkEnd → Option Span
  claim e = option_map buffer_of e.input

  no_claim : (l : ℕ) (o : Option Offer) → (link_end m.control l).input ≡ o
      → overlaps_claim span (option_map buffer_of o) ≡ true → ⊥
  no_claim l None is e = cc
  no_claim l (Some o) is e = other_input l o is e

  still : is_input (claims_of m.control) span ≡ false
  still = by (is_input (claims_of m.control) span) refl
    where
      by : (t : Bool) → is_input (claims_of m.control) span ≡ t → is_input (claims_of m.control) span ≡ false
      by false e = e
      by true e =
          let a = Any-from_list_any (overlaps_claim span) (map claim m.control.links) e in
          let inside : a.0 < length m.control.links = omega (arith, a.2, length-map m.control.links claim) in
          let is : a.1 ≡ claim (link_end m.control a.0) =
          sym a.3 ∙ get_or-map claim m.control.links a.0 quiet_end a.1 inside in
          absurd (no_claim a.0 (link_end m.control a.0).input refl
          (subst (λ (x : Option Span). overlaps_claim span x ≡ true) is a.4))

  readable : claim_break (claims_of m.control) Reads span ≡ None
  readable = rw (still, unsaved) refl

  module _ (shows : (l : ℕ) → l < 4 → (o : Offer) → (link_end m.control l).output ≡ Some o
      → (p : Pending) × (sent l ≡ Some p) × (p.request.buffer ≡ buffer_of o))
      (none : sendings sent k ≡ 0) where
    -- no link has an output with a byte of the word
    none_sends : (l : ℕ) → l < 4 → is_sending k (sent l) ≡ false
    none_sends l small = by l small none
      where
        parts : (a b c d : Bool) → cond a 1 0 + (cond b 1 0 + (cond c 1 0 + (cond d 1 0 + 0))) ≡ 0
            → (a ≡ false) × (b ≡ false) × (c ≡ false) × (d ≡ false)
        parts false false false false e = (refl, refl, refl, refl)
        parts true b c d e = absurd (omega (arith, e))
        parts false true c d e = absurd (omega (arith, e))
        parts false false true d e = absurd (omega (arith, e))
        parts false false false true e = absurd (omega (arith, e))

        by : (l : ℕ) → l < 4 → sendings sent k ≡ 0 → is_sending k (sent l) ≡ false
        by l small e = of l small (parts (is_sending k (sent 0)) (is_sending k (sent 1)) (is_sending k (sent 2))
            (is_sending k (sent 3)) (omega (arith, e)))
          where
            of : (l : ℕ) → l < 4 → (is_sending k (sent 0) ≡ false) × (is_sending k (sent 1) ≡ false)
                × (is_sending k (sent 2) ≡ false) × (is_sending k (sent 3) ≡ false) → is_sending k (sent l) ≡ false
            of zero small h = h.0
            of (suc zero) small h = h.1
            of (suc (suc zero)) small h = h.2
            of (suc (suc (suc zero))) small h = h.3
            of (suc (suc (suc (suc l)))) small h = absurd (omega (arith, small))

    other_output : (l : ℕ) → l < 4 → (o : Offer) → (link_end m.control l).output ≡ Some o
        → overlap span (buffer_of o) ≡ true → ⊥
    other_output l small o is e =
        let parts : (0 < 4) × (0 < o.length) × (most_neg + 4 * k < o.buffer + o.length)
        × (o.buffer < most_neg + 4 * k + 4) = overlap-parts span (buffer_of o) e in
        let buffer : IsBuffer (length m.store) o =
        (subst (λ (x : Option Offer). IfSome x (λ o. WaitsFor m.control o.wdesc (LinkOutput l)
        × IsBuffer (length m.store) o)) is (placed.claimed.outputs l)).1 in
        by parts.1 parts.2 parts.3 (inside_bounds (length m.store) (buffer_of o) buffer.1) (shows l small o is)
      where
        by : 0 < o.length → most_neg + 4 * k < o.buffer + o.length → o.buffer < most_neg + 4 * k + 4
            → ((buffer_of o).size ≡ 0)
            ⊎ ((most_neg ≤ o.buffer) × (o.buffer - most_neg + o.length ≤ length m.store))
            → (p : Pending) × (sent l ≡ Some p) × (p.request.buffer ≡ buffer_of o) → ⊥
        by some low high (inl z) p = absurd (omega (arith, some, z))
        by some low high (inr b) p =
            let many : word_count (buffer_of o) ≡ (place o.buffer % 4 + o.length + 3) / 4 =
            rw (ne_eqb o.length 0 (λ z. omega (arith, some, z))) refl in
            let covered : covers k (buffer_of o) ≡ true =
            and_from _ _ (le-leb (word_number o.buffer) k (omega (arith, low, high, b.0)))
            (lt-ltb k (word_number o.buffer + word_count (buffer_of o)) (omega (arith, many, low, high, b.0, some))) in
            both_ways (is_sending k (sent l)) (none_sends l small)
            (ap (is_sending k) p.1 ∙ ap (covers k) p.2 ∙ covered)

    no_output : (l : ℕ) → l < 4 → (o : Option Offer) → (link_end m.control l).output ≡ o
        → overlaps_claim span (option_map buffer_of o) ≡ true → ⊥
    no_output l small None is e = cc
    no_output l small (Some o) is e = other_output l small o is e

    abbrev out_claim : LinkEnd → Option Span
    out_claim e = option_map buffer_of e.output

    unsent : is_output (claims_of m.control) span ≡ false
    unsent = by (is_output (claims_of m.control) span) refl
      where
        by : (t : Bool) → is_output (claims_of m.control) span ≡ t → is_output (claims_of m.control) span ≡ false
        by false e = e
        by true e =
            let a = Any-from_list_any (overlaps_claim span) (map out_claim m.control.links) e in
            let inside : a.0 < length m.control.links = omega (arith, a.2, length-map m.control.links out_claim) in
            let is : a.1 ≡ out_claim (link_end m.control a.0) =
            sym a.3 ∙ get_or-map out_claim m.control.links a.0 quiet_end a.1 inside in
            absurd (no_output a.0 (omega (arith, inside, placed.claimed.links)) (link_end m.control a.0).output refl
            (subst (λ (x : Option Span). overlaps_claim span x ≡ true) is a.4))

    writable : claim_break (claims_of m.control) Writes span ≡ None
    writable = rw (still, unsent, unsaved) refl

-- the same holds for each node that is shown, with a word that is no saved word and not of a pending input
module _ (s : Place → Value) (n : ℕ) (plan : NodePlan) (named : Seat → Name) (sent : ℕ → Option Pending) (node : Node)
    (shown : ShowsNode s n plan named sent node) (placed : IsPlaced node.machine) (k : ℕ)
    (not_in_saved : is_set_aside (word_in (s (WordAt n k))).used ≡ true → ⊥)
    (not_in_input : (word_in (s (WordAt n k))).used ≡ Receiving → ⊥) where
  same_number : (a b : ℕ) → pos a ≡ pos b → a ≡ b
  same_number a b e = cc

  pub unclaimed_readable : claim_break (claims_of node.machine.control) Reads (word_span (most_neg + 4 * k)) ≡ None
  unclaimed_readable = readable s n sent node.machine placed shown.marks k not_in_saved not_in_input

  pub unclaimed_writable : amount_in (s (Sending n k)) ≡ pos 0
      → claim_break (claims_of node.machine.control) Writes (word_span (most_neg + 4 * k)) ≡ None
  unclaimed_writable none =
      writable s n sent node.machine placed shown.marks k not_in_saved not_in_input
      (λ l small o is. (
        record { request = request_of named o; copied = was_copied node l },
        (shown.links l small).offered o is,
        refl,
      ))
      (same_number (sendings sent k) 0 (sym (ap amount_in (shown.marks.outputs k)) ∙ none))

-- a word that is free is one
pub free_words_are_readable : FreeWordsAreReadable
free_words_are_readable s n plan named sent node shown placed k free =
    unclaimed_readable s n plan named sent node shown placed k (λ e. aside_not_free e free)
    (λ e. not_receiving (sym e ∙ free))

pub unsent_words_are_writable : UnsentWordsAreWritable
unsent_words_are_writable s n plan named sent node shown placed k free none =
    unclaimed_writable s n plan named sent node shown placed k (λ e. aside_not_free e free)
    (λ e. not_receiving (sym e ∙ free)) none
