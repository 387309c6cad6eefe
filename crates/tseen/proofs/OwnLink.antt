-- The input of a link that the current process may enable, or has enabled.
use Rattle.std.proofs.Common.{◌≡◌, ℕ, ◌+◌, ◌-◌, ◌%◌, ◌<◌, ◌≤◌, refl, sym, ap, subst, ◌∙◌, Bool, true, false}
use Rattle.std.proofs.Common.{arith, ◌⊎◌, inl, inr, Option, Some, None, option_map, not, length}
use Rattle.std.specs.Prelude.{◌&&◌, option_and_then, slice_index_or, slice_set, is_none, nat_le, nat_lt}
use Rattle.std.proofs.lemmas.Bool.{eqb-true, leb-true, ltb-true, and_parts}
use Rattle.std.proofs.lemmas.List.{get_or-set_same, get_or-set_other}
use Rattle.tword.specs.Words.{most_neg}
use Rattle.tword.specs.Touches.{is_aligned}
use Rattle.tproc.specs.declared.channels.Side.TheVariants.{Input}
use Rattle.tproc.specs.declared.offer.Offer.{Offer}
use Rattle.tproc.specs.declared.waiter.LinkEnd.{LinkEnd}
use Rattle.tproc.specs.LinkChannels.{is_link, is_right_end, link_index, link_of, link_end, quiet_end, is_free}
use Rattle.tproc.specs.LinkChannels.{is_enabled_by_other}
use Rattle.tproc.specs.Machine.{Control, claims_of, buffer_of, descheduled}
use Rattle.tproc.proofs.LinkClaims.{set_same}
use Rattle.tplan.specs.declared.plan.Plan.{Plan}
use Rattle.tplan.specs.Wires.{end_at}
use Rattle.tnet.specs.Rendezvous.{Configuration}
use Rattle.tprocesses.specs.Places.{Name, LinkHalf}
use Rattle.tprocesses.specs.Values.{Choice, Link, Empty, Offered, Enabled, Awaited, Fired}
use Rattle.tprocesses.specs.Machine.{is_offered}
use Rattle.tseen.specs.Choices.{Alternative, input_channel, input_at, enabler_on, link_enabler, unfired, descriptor_at}
use Rattle.tseen.specs.Halves.{ShowsLink}
use Rattle.tseen.specs.Shown.{ShowsNode}
use Rattle.tseen.specs.Steps.{IsCurrent}
use Rattle.tseen.proofs.After.{State}
use Rattle.tseen.proofs.ChannelFound.{own_runs}
use Rattle.tseen.proofs.LinkPort.{no_input}
use Rattle.tseen.proofs.OwnChoice.{own_is}
use Rattle.tseen.proofs.Running.{RunsThere}
use Rattle.tseen.proofs.Stepped.{shown_node, there}

-- a channel word that names the input of a link is that of its link
pub names_input : (channel : ℕ) → is_link channel ≡ true → is_aligned channel ≡ true
    → is_right_end Input channel ≡ true
    → (link_of Input channel < 4) × (channel ≡ input_channel (link_of Input channel))
names_input channel link aligned right =
    let b = and_parts (nat_le most_neg channel) (nat_lt channel (most_neg + 32)) link in
    let low : most_neg ≤ channel = leb-true most_neg channel b.0 in
    let high : channel < most_neg + 32 = ltb-true channel (most_neg + 32) b.1 in
    let four : channel % 4 ≡ 0 = eqb-true (channel % 4) 0 aligned in
    let above : 4 ≤ link_index channel = leb-true 4 (link_index channel) right in
    (omega (arith, low, high, above), omega (arith, low, high, four, above))

-- who has not enabled an input is not remembered there
unfired_none : (h : Link) → link_enabler h ≡ None → unfired h ≡ None
unfired_none Empty e = refl
unfired_none (Offered q) e = refl
unfired_none (Fired y) e = refl
unfired_none (Enabled y) e = e
unfired_none (Awaited y) e = e

-- and who has is, unless the input made it go on
unfired_by : (h : Link) (x : Name) → link_enabler h ≡ Some x → (unfired h ≡ None) ⊎ (unfired h ≡ Some x)
unfired_by Empty x e = inl refl
unfired_by (Offered q) x e = inl refl
unfired_by (Fired y) x e = inl refl
unfired_by (Enabled y) x e = inr e
unfired_by (Awaited y) x e = inr e

-- the claims of a node stay where a link is set with the same messages
pub claims_stay : (m : Control) (l : ℕ) (e : LinkEnd) → e.input ≡ (link_end m l).input
    → e.output ≡ (link_end m l).output → claims_of (record m { links = slice_set m.links l e }) ≡ claims_of m
claims_stay m l e input output =
    λ i. record {
      inputs = set_same (λ (z : LinkEnd). option_map buffer_of z.input) m.links l e (ap (option_map buffer_of) input) i;
      outputs = set_same (λ (z : LinkEnd). option_map buffer_of z.output) m.links l e
          (ap (option_map buffer_of) output) i;
      saved = descheduled m;
    }

module _ (p : Plan) (c : Configuration) (s : State) (n : ℕ) (x : Name) (k : IsCurrent p c s n x) (choice : Choice)
    (is : (there p c s n x k).context.choice ≡ Some choice) (l : ℕ) (small : l < 4) where
  abbrev m : Control
  m = k.node.machine.control

  abbrev running : RunsThere s n k.plan k.node x
  running = there p c s n x k

  abbrev shown : ShowsNode s n k.plan (k.shows.named n) (k.shows.sent n) k.node
  shown = shown_node p c s n x k

  abbrev w : ℕ
  w = m.registers.wptr

  link : ShowsLink s n (k.shows.named n) (k.shows.sent n) k.node l
  link = shown.links l small

  pub own_described : descriptor_at s n x ≡ Some (w + running.level)
  own_described =
      ap (option_map (λ (a : Alternative). a.wptr + a.priority)) (own_is p c s n x k choice is)
      ∙ ap (λ z. Some (w + z)) running.registers.priority

  module _ (by_self : (enabler_on s n l ≡ None) ⊎ (enabler_on s n l ≡ Some x)) where
    -- the link remembers nobody but the process
    pub remembers : ((link_end m l).remembered ≡ None) ⊎ ((link_end m l).remembered ≡ Some (w + running.level))
    remembers = by (link_end m l).noticed refl
      where
        described : (o : Option Name) → unfired (input_at s n l) ≡ o → (o ≡ None) ⊎ (o ≡ Some x)
            → (option_and_then (descriptor_at s n) (unfired (input_at s n l)) ≡ None)
            ⊎ (option_and_then (descriptor_at s n) (unfired (input_at s n l)) ≡ Some (w + running.level))
        described o e (inl f) = inl (ap (option_and_then (descriptor_at s n)) (e ∙ f))
        described o e (inr f) = inr (ap (option_and_then (descriptor_at s n)) (e ∙ f) ∙ own_described)

        who : (enabler_on s n l ≡ None) ⊎ (enabler_on s n l ≡ Some x)
            → (unfired (input_at s n l) ≡ None) ⊎ (unfired (input_at s n l) ≡ Some x)
        who (inl e) = inl (unfired_none (input_at s n l) e)
        who (inr e) = unfired_by (input_at s n l) x e

        of : (option_and_then (descriptor_at s n) (unfired (input_at s n l)) ≡ None)
            ⊎ (option_and_then (descriptor_at s n) (unfired (input_at s n l)) ≡ Some (w + running.level))
            → (link_end m l).noticed ≡ false
            → ((link_end m l).remembered ≡ None) ⊎ ((link_end m l).remembered ≡ Some (w + running.level))
        of (inl e) f = inl (link.remembered f ∙ e)
        of (inr e) f = inr (link.remembered f ∙ e)

        by : (b : Bool) → (link_end m l).noticed ≡ b
            → ((link_end m l).remembered ≡ None) ⊎ ((link_end m l).remembered ≡ Some (w + running.level))
        by true e = inl (link.forgotten e)
        by false e = of (described (unfired (input_at s n l)) refl (who by_self)) e

    -- so its input is free for the process
    pub input_free : is_offered (input_at s n l) ≡ false → is_free Input (link_end m l) m ≡ true
    input_free free =
        by (link_end m l).input
        (no_input (k.shows.named n) (link_end m l).input (s (LinkHalf (end_at n l) Input)) link.input free)
        (link_end m l).remembered remembers
      where
        by : (o : Option Offer) → o ≡ None → (r : Option ℕ) → (r ≡ None) ⊎ (r ≡ Some (w + running.level))
            → (is_none o && not (is_enabled_by_other m r)) ≡ true
        by o e r (inl f) = rw (e, f) refl
        by o e r (inr f) = rw (e, f, own_runs p c s n x k choice is) refl

-- a link that is set
module _ (m : Control) (l : ℕ) (e : LinkEnd) where
  pub set_there : length m.links ≡ 4 → l < 4 → slice_index_or (slice_set m.links l e) l quiet_end ≡ e
  set_there four small = get_or-set_same m.links l e quiet_end (subst (λ z. l < z) (sym four) small)

  pub set_other : (j : ℕ) → (j ≡ l → ⊥) → slice_index_or (slice_set m.links l e) j quiet_end ≡ link_end m j
  set_other j h = get_or-set_other m.links l j e quiet_end h
