-- The links of a node after a byte was noticed at one of them.
use Rattle.std.proofs.Common.{◌≡◌, ℕ, ◌<◌, sym, ap, subst, ◌∙◌, true, false, true≢false, List, set, length}
use Rattle.std.proofs.Common.{Option, Some, None, ◌⊎◌, inl, inr, get_or}
use Rattle.std.proofs.lemmas.Bool.{cases_eq}
use Rattle.std.proofs.lemmas.List.{get_or-set_same, get_or-set_other}
use Rattle.tproc.specs.declared.channels.Side.{Side}
use Rattle.tproc.specs.declared.channels.Side.TheVariants.{Input, Output}
use Rattle.tproc.specs.declared.offer.Offer.{Offer}
use Rattle.tproc.specs.declared.waiter.LinkEnd.{LinkEnd}
use Rattle.tproc.specs.LinkChannels.{link_end, quiet_end}
use Rattle.tproc.specs.Machine.{buffer_of}
use Rattle.tplan.specs.Wires.{end_at}
use Rattle.tnet.specs.Rendezvous.{Node, was_copied}
use Rattle.tprocesses.specs.Places.{Name, LinkHalf, Unfinished}
use Rattle.tprocesses.specs.Values.{Link, IsLink}
use Rattle.tprocesses.specs.Machine.{is_offered}
use Rattle.tseen.specs.Seats.{Seat, Waiting}
use Rattle.tseen.specs.Outputs.{Pending}
use Rattle.tseen.specs.Choices.{unfired, input_at, descriptor_at}
use Rattle.tseen.specs.Halves.{ShowsLink, IsInput}
use Rattle.tseen.proofs.After.{State}
use Rattle.tseen.proofs.NoticedOffers.{has_noticed}
use Rattle.tseen.proofs.Staying.{link_renamed}

-- the end of a link that has noticed a byte
abbrev pub with_notice : LinkEnd → LinkEnd
with_notice e = record e { noticed = true; remembered = None }

module _ (s s' : State) (n l : ℕ) (named named' : Seat → Name) (sent : ℕ → Option Pending) (node node' : Node)
    (links : node'.machine.control.links
    ≡ set node.machine.control.links l (with_notice (link_end node.machine.control l)))
    (within : l < length node.machine.control.links) where
  pub own_end : link_end node'.machine.control l ≡ with_notice (link_end node.machine.control l)
  own_end =
      ap (λ (ls : List LinkEnd). get_or ls l quiet_end) links
      ∙ get_or-set_same node.machine.control.links l (with_notice (link_end node.machine.control l)) quiet_end within

  pub other_end : (j : ℕ) → (j ≡ l → ⊥) → link_end node'.machine.control j ≡ link_end node.machine.control j
  other_end j h =
      ap (λ (ls : List LinkEnd). get_or ls j quiet_end) links
      ∙ get_or-set_other node.machine.control.links l j (with_notice (link_end node.machine.control l)) quiet_end h

  -- inputs and outputs stay
  pub input_stays : (j : ℕ) → (link_end node'.machine.control j).input ≡ (link_end node.machine.control j).input
  input_stays j = by (cases_eq j l)
    where
      by : (j ≡ l) ⊎ (j ≡ l → ⊥) → (link_end node'.machine.control j).input ≡ (link_end node.machine.control j).input
      by (inl e) =
          ap (λ i. (link_end node'.machine.control i).input) e ∙ ap (λ (z : LinkEnd). z.input) own_end
          ∙ ap (λ i. (link_end node.machine.control i).input) (sym e)
      by (inr e) = ap (λ (z : LinkEnd). z.input) (other_end j e)

  -- a link that has noticed the byte, or had noticed one
  pub noticed_before : (j : ℕ) → (j ≡ l → ⊥) → has_noticed node' j ≡ true → has_noticed node j ≡ true
  noticed_before j e h = sym (ap (λ (z : LinkEnd). z.noticed) (other_end j e)) ∙ h

  module _ (waits : (w : ℕ) → named' (Waiting w) ≡ named (Waiting w))
      (copied : (j : ℕ) → was_copied node' j ≡ was_copied node j)
      (no_input : (link_end node.machine.control l).input ≡ None)
      (outputs : (j : ℕ) → s' (LinkHalf (end_at n j) Output) ≡ s (LinkHalf (end_at n j) Output))
      (flags : (j : ℕ) → s' (Unfinished (end_at n j)) ≡ s (Unfinished (end_at n j)))
      (inputs : (j : ℕ) → (j ≡ l → ⊥) → s' (LinkHalf (end_at n j) Input) ≡ s (LinkHalf (end_at n j) Input))
      (own : (h : Link) × (s' (LinkHalf (end_at n l) Input) ≡ IsLink h) × (is_offered h ≡ false))
      (descriptors : (j : ℕ) → j < 4 → (y : Name) → unfired (input_at s n j) ≡ Some y
      → descriptor_at s' n y ≡ descriptor_at s n y) where
    other_noticed : (j : ℕ) → j < 4 → (j ≡ l → ⊥) → ShowsLink s n named sent node j → ShowsLink s' n named' sent node' j
    other_noticed j b e =
        link_renamed s s' n named named' sent node node' j (λ o f. waits o.wdesc) (halves j e) (flags j)
        (descriptors j b) (other_end j e) (copied j)
      where
        halves : (j : ℕ) → (j ≡ l → ⊥) → (side : Side)
            → s' (LinkHalf (end_at n j) side) ≡ s (LinkHalf (end_at n j) side)
        halves j e Input = inputs j e
        halves j e Output = outputs j

    own_noticed : ShowsLink s n named sent node l → ShowsLink s' n named' sent node' l
    own_noticed k =
        record {
          input = subst (λ (o : Option Offer). IsInput named' o (s' (LinkHalf (end_at n l) Input)))
              (sym (input_stays l ∙ no_input)) own;
          output = outputs l ∙ k.output;
          unfinished = flags l ∙ k.unfinished;
          offered = λ o f. k.offered o (sym output ∙ f)
              ∙ ap (λ b. Some (record {
                request = record { process = named (Waiting o.wdesc); buffer = buffer_of o };
                copied = b;
              })) (sym (copied l))
              ∙ ap (λ y. Some (record {
                request = record { process = y; buffer = buffer_of o };
                copied = was_copied node' l;
              })) (sym (waits o.wdesc));
          fresh = λ f. copied l ∙ k.fresh (sym output ∙ f);
          unnoticed = λ o f. absurd (differ (sym f ∙ input_stays l ∙ no_input));
          remembered = λ f. absurd (true≢false (sym noticed ∙ f));
          forgotten = λ f. ap (λ (z : LinkEnd). z.remembered) own_end;
          fired = λ y f. noticed;
          pending = λ q f g. (let o = k.pending q f g in (o.0, output ∙ o.1));
        }
      where
        differ : {o : Offer} → Some o ≡ None → ⊥
        differ e = cc

        output : (link_end node'.machine.control l).output ≡ (link_end node.machine.control l).output
        output = ap (λ (z : LinkEnd). z.output) own_end

        noticed : (link_end node'.machine.control l).noticed ≡ true
        noticed = ap (λ (z : LinkEnd). z.noticed) own_end

    pub links_noticed : (j : ℕ) → j < 4 → ShowsLink s n named sent node j → ShowsLink s' n named' sent node' j
    links_noticed j b k = by (cases_eq j l)
      where
        by : (j ≡ l) ⊎ (j ≡ l → ⊥) → ShowsLink s' n named' sent node' j
        by (inl e) =
            subst (ShowsLink s' n named' sent node') (sym e) (own_noticed (subst (ShowsLink s n named sent node) e k))
        by (inr e) = other_noticed j b e k
