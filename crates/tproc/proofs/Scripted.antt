-- Links where a script stands in for processes: an input goes on behind a part of itself, an output is set, and the
-- processor without a process does nothing.
use Rattle.std.proofs.Common.{◌≡◌, ℕ, ◌+◌, ◌<◌, ◌≤◌, refl, sym, ap, ◌∙◌, List, [], ◌∷◌, length}
use Rattle.std.proofs.Common.{Bool, true, false, Ok, Option, Some, None, ◌⊎◌, inl, inr, arith}
use Rattle.std.specs.List.{list_any}
use Rattle.std.proofs.lemmas.Bool.{both_ways, cases_eq, cases_lt}
use Rattle.std.proofs.lemmas.List.{get_or_past, get_or-set_same, get_or-set_other}
use Rattle.tword.specs.Words.{most_neg}
use Rattle.tword.specs.Stores.{place, cells, with_cells, as_cells, hiding}
use Rattle.tword.specs.declared.span.Span.{Span}
use Rattle.tword.specs.Claims.{overlap, overlaps_claim, is_input}
use Rattle.tword.specs.Touches.{byte_span}
use Rattle.tword.proofs.Hiding.{covers, hiding-agrees, agree-hiding, overlap-parts, overlap-from}
use Rattle.tproc.specs.declared.offer.Offer.{Offer}
use Rattle.tproc.specs.declared.ran.Ran.TheVariants as ran
use Rattle.tproc.specs.declared.waiter.LinkEnd.{LinkEnd}
use Rattle.tproc.specs.Machine.{Control, Machine, buffer_of, claims_of}
use Rattle.tproc.specs.LinkChannels.{quiet_end, link_end}
use Rattle.tproc.specs.Hidden.{hidden}
use Rattle.tproc.specs.Scripts.{offer_moved, input_moved, output_set}
use Rattle.tproc.specs.Steps.{step}
use Rattle.tproc.proofs.LinkClaims.{input_claim, set_same}
use Rattle.tproc.proofs.LinkClaims.{inputs_apart, apart_from_inputs}
use Rattle.tproc.proofs.Handing.{LastByte, input_lies, last_byte-moves}

module _ (c : Control) (l k : ℕ) where
  -- the other links are as before
  pub input_moved-else : (j : ℕ) → (j ≡ l → ⊥) → link_end (input_moved l k c) j ≡ link_end c j
  input_moved-else j other = get_or-set_other c.links l j _ quiet_end other

  module _ (o : Offer) (asks : (link_end c l).input ≡ Some o) where
    -- a link with an input is there
    pub input_there : l < length c.links
    input_there = by (cases_lt l (length c.links))
      where
        by : (l < length c.links) ⊎ (length c.links ≤ l) → l < length c.links
        by (inl b) = b
        by (inr b) =
            let e : link_end c l ≡ quiet_end = get_or_past c.links l quiet_end b in
            let f : None ≡ Some o = sym (ap (λ (x : LinkEnd). x.input) e) ∙ asks in cc

    -- and this one has what is left of its input
    pub input_moved-here : link_end (input_moved l k c) l
        ≡ record (link_end c l) { input = Some (offer_moved k o) }
    input_moved-here = get_or-set_same c.links l _ quiet_end input_there ∙ rw asks refl

    -- a byte outside the part that is over is claimed no more often before than after
    pub input_moved-outside : most_neg ≤ o.buffer → (i : ℕ) → (i < place o.buffer) ⊎ (place o.buffer + k ≤ i)
        → covers (claims_of (input_moved l k c)).inputs (most_neg + i) ≡ false
        → covers (claims_of c).inputs (most_neg + i) ≡ false
    input_moved-outside above i d u =
        apart_from_inputs (byte_span (most_neg + i)) c.links (λ j. by j (cases_eq j l))
      where
        after : (j : ℕ) → overlaps_claim (byte_span (most_neg + i)) (input_claim (link_end (input_moved l k c) j))
            ≡ false
        after = inputs_apart (byte_span (most_neg + i)) (input_moved l k c).links u

        left : overlap (byte_span (most_neg + i)) (buffer_of (offer_moved k o)) ≡ false
        left = rw input_moved-here at (after l)

        no : (i < place o.buffer) ⊎ (place o.buffer + k ≤ i) → (0 < 1) × (0 < o.length)
            × (most_neg + i < o.buffer + o.length) × (o.buffer < most_neg + i + 1) → ⊥
        no (inl b) p = omega (arith, above, p.3)
        no (inr b) p =
            both_ways _ left
            (overlap-from (byte_span (most_neg + i)) (buffer_of (offer_moved k o)) (omega arith)
            (omega (arith, above, p.2)) (omega (arith, above, p.2)) (omega (arith, above)))

        own : (t : Bool) → overlap (byte_span (most_neg + i)) (buffer_of o) ≡ t
            → overlap (byte_span (most_neg + i)) (buffer_of o) ≡ false
        own false e = e
        own true e = absurd (no d (overlap-parts _ _ e))

        by : (j : ℕ) → (j ≡ l) ⊎ (j ≡ l → ⊥)
            → overlaps_claim (byte_span (most_neg + i)) (input_claim (link_end c j)) ≡ false
        by j (inl e) = rw (e, asks) (own (overlap (byte_span (most_neg + i)) (buffer_of o)) refl)
        by j (inr e) = rw (input_moved-else j e) at (after j)

-- a receiver whose input goes on behind the message looks as after a copy of the whole message
pub last_byte-input_moved : (a b : Machine) (k l : ℕ) (out inp : Offer) (got byte : ℕ)
    → LastByte a b k l out inp got byte
    → hidden (record {
      control = input_moved l out.length b.control;
      store = with_cells (hidden b).store inp.buffer (cells (hidden a).store out.buffer out.length);
    })
    ≡ hidden (record {
      control = input_moved l out.length b.control;
      store = with_cells b.store (inp.buffer + got) (as_cells (byte ∷ []));
    })
last_byte-input_moved a b k l out inp got byte h =
    last_byte-moves a b k l out inp got byte h (input_moved l out.length b.control)
    (input_moved-outside b.control l out.length inp h.asks (input_lies b l inp h.receiver h.asks).0)

-- it hides nothing more, and nothing less
pub output_set-hidden : (n : Machine) (l : ℕ) (o : Option Offer)
    → hidden (record n { control = output_set l o n.control })
    ≡ record (hidden n) { control = output_set l o n.control }
output_set-hidden n l o =
    ap (λ (spans : List (Option Span)). record {
      control = output_set l o n.control;
      store = hiding (λ a. list_any (overlaps_claim (byte_span a)) spans) n.store;
    }) (set_same input_claim n.control.links l (record (link_end n.control l) { output = o }) refl)

-- what is hidden looks as it does
pub hidden_again : (n : Machine) → hidden (hidden n) ≡ hidden n
hidden_again n =
    ap (λ s. record { control = n.control; store = s })
    (agree-hiding (claims_of n.control).inputs (λ a. is_input (claims_of n.control) (byte_span a)) (hidden n).store
    n.store
    (hiding-agrees (claims_of n.control).inputs (λ a. is_input (claims_of n.control) (byte_span a)) n.store
    (λ a h. h)) (λ a h. h))

pub output_set-hidden_again : (n : Machine) (l : ℕ) (o : Option Offer)
    → hidden (record (hidden n) { control = output_set l o n.control })
    ≡ hidden (record n { control = output_set l o n.control })
output_set-hidden_again n l o =
    output_set-hidden (hidden n) l o
    ∙ ap (λ (m : Machine). record m { control = output_set l o n.control }) (hidden_again n)
    ∙ sym (output_set-hidden n l o)

-- a processor without a process that could run does nothing
pub idle-step : (m : Machine) → m.control.halted ≡ false → m.control.current ≡ None → m.control.high ≡ []
    → m.control.interrupted ≡ None → m.control.low ≡ [] → step m ≡ Ok (m, ran.Idle)
unfolding step
idle-step m going none high interrupted low = rw (going, none, high, interrupted, low) refl
