-- A notice at a link that nobody has enabled: its node is shown as before.
use Rattle.std.proofs.Common.{◌≡◌, ℕ, ◌+◌, ◌<◌, ◌%◌, refl, sym, ap, subst, ◌∙◌, false, true≢false, length}
use Rattle.std.proofs.Common.{Option, Some, None, ◌⊎◌, inl, inr}
use Rattle.std.specs.Prelude.{option_map, option_and_then}
use Rattle.std.proofs.lemmas.Bool.{cases_eq}
use Rattle.tproc.specs.declared.channels.Side.TheVariants.{Input}
use Rattle.tproc.specs.declared.waiter.LinkEnd.{LinkEnd}
use Rattle.tproc.specs.Hidden.{hidden}
use Rattle.tproc.specs.LinkChannels.{link_end}
use Rattle.tproc.specs.Links.{notice}
use Rattle.tproc.specs.Machine.{Control, Machine}
use Rattle.tproc.proofs.LinkClaims.{noticing}
use Rattle.tplan.specs.declared.plan.NodePlan.{NodePlan}
use Rattle.tplan.specs.Wires.{end_at}
use Rattle.tnet.specs.Rendezvous.{Node}
use Rattle.treduction.proofs.LinkActions.{notice_is}
use Rattle.tprocesses.specs.Places.{Name, LinkHalf}
use Rattle.tprocesses.specs.Values.{Link, Empty, Offered, Enabled, Awaited, Fired, IsLink, link_in}
use Rattle.tprocesses.specs.Machine.{is_offered}
use Rattle.tseen.specs.Seats.{Seat}
use Rattle.tseen.specs.Outputs.{Pending}
use Rattle.tseen.specs.Choices.{Alternative, alternative_at, descriptor_at, remembered_at, input_at, enabler_on}
use Rattle.tseen.specs.Choices.{unfired}
use Rattle.tseen.specs.Choices.{link_enabler, IsEnabledLink}
use Rattle.tseen.specs.Halves.{IsInput}
use Rattle.tseen.specs.Shown.{ShowsNode}
use Rattle.tseen.specs.Steps.{IsSteady}
use Rattle.tseen.proofs.After.{State}
use Rattle.tseen.proofs.Cells.{tells_from}
use Rattle.tseen.proofs.Choices.{choices_stay}
use Rattle.tseen.proofs.InputChannels.{unfired_enabler}
use Rattle.tseen.proofs.NoticedLinks.{other_end}
use Rattle.tseen.proofs.NoticedNode.{noticed_node, noticed_shown, still_hidden, KeepsStore}

module _ (s : State) (n : ℕ) (plan : NodePlan) (named : Seat → Name) (sent : ℕ → Option Pending) (node : Node)
    (shown : ShowsNode s n plan named sent node) (steady : IsSteady node) (l : ℕ) (small : l < 4)
    (no_input : (link_end node.machine.control l).input ≡ None)
    (not_noticed : (link_end node.machine.control l).noticed ≡ false) where
  abbrev m : Control
  m = node.machine.control

  -- who has enabled the link and was not made to go on by it
  pub record IsEnabler (x : Name) : Type 0 where
    pub home : x.node ≡ n
    pub alternative : Alternative
    pub is : alternative_at s n x ≡ Some alternative
    pub enabled : enabler_on s n l ≡ Some x
    pub linked : IsEnabledLink s n l x
    pub remembers : (link_end m l).remembered ≡ Some (alternative.wptr + alternative.priority)

  remembered : (link_end m l).remembered ≡ remembered_at s n l
  remembered = (shown.links l small).remembered not_noticed

  unfired_there : (x : Name) → unfired (input_at s n l) ≡ Some x → IsEnabler x
  unfired_there x e =
      let enabled : enabler_on s n l ≡ Some x = unfired_enabler (input_at s n l) x e in
      let linked : IsEnabledLink s n l x = shown.choices.linked l x small enabled in
      let own = shown.choices.owner x _ linked.home linked.port in
      record {
        home = linked.home;
        alternative = own.0;
        is = own.1;
        enabled = enabled;
        linked = linked;
        remembers = remembered ∙ ap (option_and_then (descriptor_at s n)) e
            ∙ ap (option_map (λ (a : Alternative). a.wptr + a.priority)) own.1;
      }

  -- somebody has, or nobody has enabled it
  pub enabler_cases : ((x : Name) × IsEnabler x) ⊎ (enabler_on s n l ≡ None)
  enabler_cases = by (input_at s n l) refl
    where
      half : (h : Link) × (s (LinkHalf (end_at n l) Input) ≡ IsLink h) × (is_offered h ≡ false)
      half =
          subst (λ o. IsInput named o (s (LinkHalf (end_at n l) Input))) no_input (shown.links l small).input

      by : (h : Link) → input_at s n l ≡ h → ((x : Name) × IsEnabler x) ⊎ (enabler_on s n l ≡ None)
      by Empty e = inr (ap link_enabler e)
      by (Offered q) e = inr (ap link_enabler e)
      by (Enabled x) e = inl (x, unfired_there x (ap unfired e))
      by (Awaited x) e = inl (x, unfired_there x (ap unfired e))
      by (Fired x) e =
          absurd (true≢false (sym ((shown.links l small).fired x
          (half.1 ∙ ap IsLink (sym (ap link_in half.1) ∙ e))) ∙ not_noticed))

  module _ (nobody : enabler_on s n l ≡ None) where
    forgotten : (link_end m l).remembered ≡ None
    forgotten = remembered ∙ ap (option_and_then (descriptor_at s n)) (none_unfired (input_at s n l) nobody)
      where
        none_unfired : (h : Link) → link_enabler h ≡ None → unfired h ≡ None
        none_unfired Empty e = refl
        none_unfired (Offered q) e = refl
        none_unfired (Fired x) e = refl
        none_unfired (Enabled x) e = e
        none_unfired (Awaited x) e = e

    whole : plan.memory % 4 ≡ 0
    whole = subst (λ z. z % 4 ≡ 0) shown.size steady.sized.size.2

    within : l < length m.links
    within = subst (λ z. l < z) (sym steady.placed.claimed.links) small

    noticed_stays : (j : ℕ) (x : Name) → enabler_on s n j ≡ Some x → (j ≡ l) ⊎ (j ≡ l → ⊥)
        → (link_end (noticing l node.machine).control j).noticed ≡ (link_end m j).noticed
    noticed_stays j x e (inl f) = absurd (differ (sym nobody ∙ ap (enabler_on s n) (sym f) ∙ e))
      where
        differ : {z : Name} → None ≡ Some z → ⊥
        differ e = cc
    noticed_stays j x e (inr f) =
        ap (λ (z : LinkEnd). z.noticed)
        (other_end s s n l named named sent node (noticed_node s n plan named sent node shown steady l small no_input
        node.machine.store) refl within j f)

    keeps : KeepsStore s n plan named sent node shown steady l small no_input node.machine.store
    keeps =
        record {
          size = refl;
          tells = tells_from s n plan.memory node.machine.store shown.size whole shown.store;
          words = λ d h e. refl;
          iptrs = λ v h. refl;
          received = λ i e. refl;
          choices = choices_stay s s n m.links (noticing l node.machine).control.links node.machine.store
              node.machine.store
              (record { inputs = λ j. inl refl; noticed = λ j x e. noticed_stays j x e (cases_eq j l) })
              (λ x h. refl) (λ x h e. e) (λ x h. refl) (λ d side. refl) (λ j e z. z) (λ j e. refl) refl
              (λ d e f. refl) shown.choices;
        }

    pub quiet_shown : ShowsNode s n plan named sent (record node { machine = hidden (notice l node.machine) })
    quiet_shown =
        subst (λ (z : Machine). ShowsNode s n plan named sent (record node { machine = z }))
        (sym (ap hidden (notice_is l node.machine forgotten)
        ∙ still_hidden s n plan named sent node shown steady l small no_input node.machine.store keeps))
        (noticed_shown s n plan named sent node shown steady l small no_input node.machine.store keeps)
