-- A byte of a pending input lies in a word that is in use for that.
use Rattle.std.proofs.Common.{◌≡◌, ℕ, ◌+◌, ◌-◌, ◌<◌, ◌≤◌, ◌/◌, ◌%◌, refl, sym, subst, ◌∙◌, length, map, true, Option}
use Rattle.std.proofs.Common.{Some, None, arith, ◌⊎◌, inl, inr, option_map, IfSome}
use Rattle.std.proofs.lemmas.Bool.{ne_eqb}
use Rattle.std.proofs.lemmas.List.{length-map, get_or-map}
use Rattle.std.proofs.lemmas.List.Folds.{Any-from_list_any}
use Rattle.tword.specs.Words.{most_neg}
use Rattle.tword.specs.Stores.{place}
use Rattle.tword.specs.declared.span.Span.{Span}
use Rattle.tword.specs.Claims.{overlap, overlaps_claim, is_input}
use Rattle.tword.specs.Touches.{byte_span}
use Rattle.tword.proofs.Hiding.{overlap-parts}
use Rattle.tword.proofs.Passing.{inside_bounds}
use Rattle.tproc.specs.declared.offer.Offer.{Offer}
use Rattle.tproc.specs.declared.waiter.LinkEnd.{LinkEnd}
use Rattle.tproc.specs.Machine.{Control, buffer_of, claims_of}
use Rattle.tproc.specs.LinkChannels.{link_end, quiet_end}
use Rattle.tproc.specs.Placement.{IsBuffer}
use Rattle.tprocesses.specs.Values.{Receiving}
use Rattle.tprocesses.specs.Touching.{word_number, word_count}
use Rattle.tseen.specs.Outputs.{Pending}
use Rattle.tseen.specs.Words.{AreMarked}
use Rattle.tseen.proofs.After.{State}
use Rattle.tseen.proofs.Cells.{use_of}

module _ (s : State) (n : ℕ) (sent : ℕ → Option Pending) (m : Control) (size : ℕ)
    (buffers : (l : ℕ) → IfSome (link_end m l).input (IsBuffer size)) (marks : AreMarked s n sent m) (i : ℕ) where
  abbrev span : Span
  span = byte_span (most_neg + i)

  of_input : (l : ℕ) (o : Offer) → (link_end m l).input ≡ Some o → overlap span (buffer_of o) ≡ true
      → use_of s n (i / 4) ≡ Receiving
  of_input l o is e =
      let parts : (0 < 1) × (0 < o.length) × (most_neg + i < o.buffer + o.length)
      × (o.buffer < most_neg + i + 1) = overlap-parts span (buffer_of o) e in
      let buffer : IsBuffer size o =
      subst (λ (x : Option Offer). IfSome x (IsBuffer size)) is (buffers l) in
      by parts.1 parts.2 parts.3 (inside_bounds size (buffer_of o) buffer.1)
    where
      by : 0 < o.length → most_neg + i < o.buffer + o.length → o.buffer < most_neg + i + 1
          → ((buffer_of o).size ≡ 0)
          ⊎ ((most_neg ≤ o.buffer) × (o.buffer - most_neg + o.length ≤ size))
          → use_of s n (i / 4) ≡ Receiving
      by some low high (inl z) = absurd (omega (arith, some, z))
      by some low high (inr b) =
          let many : word_count (buffer_of o) ≡ (place o.buffer % 4 + o.length + 3) / 4 =
          rw (ne_eqb o.length 0 (λ z. omega (arith, some, z))) refl in
          let within : i / 4 - word_number o.buffer < word_count (buffer_of o) =
          omega (arith, many, low, high, b.0, some) in
          let same : word_number o.buffer + (i / 4 - word_number o.buffer) ≡ i / 4 = omega (arith, low, high, b.0) in
          subst (λ j. use_of s n j ≡ Receiving) same (marks.inputs l o is (i / 4 - word_number o.buffer) within)

  abbrev claim : LinkEnd → Option Span
  claim e = option_map buffer_of e.input

  of_claim : (l : ℕ) (o : Option Offer) → (link_end m l).input ≡ o
      → overlaps_claim span (option_map buffer_of o) ≡ true → use_of s n (i / 4) ≡ Receiving
  of_claim l None is e = cc
  of_claim l (Some o) is e = of_input l o is e

  pub input_receives : is_input (claims_of m) span ≡ true → use_of s n (i / 4) ≡ Receiving
  input_receives e =
      let a = Any-from_list_any (overlaps_claim span) (map claim m.links) e in
      let inside : a.0 < length m.links = omega (arith, a.2, length-map m.links claim) in
      let is : a.1 ≡ claim (link_end m a.0) =
      sym a.3 ∙ get_or-map claim m.links a.0 quiet_end a.1 inside in
      of_claim a.0 (link_end m a.0).input refl
      (subst (λ (x : Option Span). overlaps_claim span x ≡ true) is a.4)
