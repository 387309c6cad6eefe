-- A byte that was noticed comes from somebody who sends, also after a message went over: the end that takes it had an
-- input pending, and has noticed nothing.
use Rattle.std.proofs.Common.{◌≡◌, ℕ, ◌<◌, refl, sym, ap, ◌∙◌, true, false, true≢false, length}
use Rattle.std.proofs.Common.{Some, None, ◌⊎◌, inl, inr, ◌≤◌, arith}
use Rattle.std.specs.Prelude.{slice_get}
use Rattle.std.proofs.lemmas.Bool.{cases_eq, ne_eqb}
use Rattle.tplan.specs.declared.plan.End.{End}
use Rattle.tplan.specs.declared.plan.NodePlan.{NodePlan}
use Rattle.tplan.specs.declared.plan.Plan.{Plan}
use Rattle.tplan.specs.Wires.{all_wires, end_at, far_end}
use Rattle.tproc.specs.declared.offer.Offer.{Offer}
use Rattle.tproc.specs.LinkChannels.{link_end}
use Rattle.tnet.specs.Building.{fault_of}
use Rattle.tnet.specs.Rendezvous.{Node, Configuration, node_of, put_node, marked, Asks}
use Rattle.tnet.proofs.Puts.{put-same, put-other}
use Rattle.tproc.specs.declared.channels.Side.TheVariants.{Output}
use Rattle.tprocesses.specs.Places.{Place, LinkHalf, Messages}
use Rattle.tprocesses.specs.Machine.{Role, Processor, Source, Sink, Nothing, role_at, offer_place, sender_to}
use Rattle.tseen.specs.Shown.{Shows}
use Rattle.tseen.proofs.After.{State}
use Rattle.tseen.proofs.EndRoles.{back, sender_is_far, small_link}
use Rattle.tseen.proofs.NetScripts.{is_script_of}
use Rattle.tseen.proofs.NoticedOffers.{has_noticed, NoticesSent, is_sending_at, notices_from, offers_stay}
use Rattle.tseen.proofs.WireEnds.{wire_proper}

some_is : {X : Type 0} {a b : X} → Some a ≡ Some b → a ≡ b
some_is e = cc

module _ (p : Plan) (none : fault_of p ≡ None) (c : Configuration) (s : State) (f e : End) (shows : Shows p c s)
    (wired : far_end (all_wires p) e ≡ Some f) where
  -- an end to which the same one sends
  one_receiver : (d : End) → sender_to p d ≡ Some f → d ≡ e
  one_receiver d h =
      some_is (sym (back p none d f (sender_is_far p d f h)) ∙ back p none e f wired)

  module _ (receiver : Node) (inp : Offer) (asked : Asks c e receiver inp) where
    -- the end that takes the message has noticed nothing
    unnoticed_there : (plan : NodePlan) (node : Node) → slice_get p.nodes e.node ≡ Some plan
        → node_of c e.node ≡ Some node → has_noticed node e.link ≡ false
    unnoticed_there plan node planned here =
        let old = shows.processors e.node plan planned in
        let same : old.0 ≡ node = some_is (sym old.1 ∙ here) in
        ap (λ (x : Node). has_noticed x e.link) (sym same)
        ∙ (old.2.links e.link (small_link p none e f wired)).unnoticed inp
        (ap (λ (x : Node). (link_end x.machine.control e.link).input) (some_is (sym old.1 ∙ asked.node)) ∙ asked.input)

    -- after the message of the sender was taken, what was noticed comes from others
    pub sent_notices : (sender : Node) → node_of c f.node ≡ Some sender → (t : State)
        → ((g d : End) → sender_to p d ≡ Some g → (g ≡ f → ⊥) → is_sending_at p s g ≡ true → is_sending_at p t g ≡ true)
        → NoticesSent p (put_node f.node (marked f.link true sender) c) t
    sent_notices sender here t others =
        notices_from p c (put_node f.node (marked f.link true sender) c) s t shows.noticed (λ n l plan new planned is h.
        by n l plan new planned is h (cases_eq n f.node))
      where
        still : (n l : ℕ) (plan : NodePlan) (node : Node) → slice_get p.nodes n ≡ Some plan
            → node_of c n ≡ Some node → has_noticed node l ≡ true → (g : End) → sender_to p (end_at n l) ≡ Some g
            → is_sending_at p s g ≡ true → is_sending_at p t g ≡ true
        still n l plan node planned there h g joined = others g (end_at n l) joined (λ same.
            let at : end_at n l ≡ e = one_receiver (end_at n l) (joined ∙ ap (λ (z : End). Some z) same) in
            let node_is : n ≡ e.node = ap (λ (z : End). z.node) at in
            true≢false (sym h ∙ ap (has_noticed node) (ap (λ (z : End). z.link) at)
            ∙ unnoticed_there plan node (ap (slice_get p.nodes) (sym node_is) ∙ planned)
            (ap (node_of c) (sym node_is) ∙ there)))

        by : (n l : ℕ) (plan : NodePlan) (new : Node) → slice_get p.nodes n ≡ Some plan
            → node_of (put_node f.node (marked f.link true sender) c) n ≡ Some new
            → has_noticed new l ≡ true → (n ≡ f.node) ⊎ (n ≡ f.node → ⊥)
            → (node : Node) × (node_of c n ≡ Some node) × (has_noticed node l ≡ true)
            × ((g : End) → sender_to p (end_at n l) ≡ Some g → is_sending_at p s g ≡ true → is_sending_at p t g ≡ true)
        by n l plan new planned is h (inl same) =
            let there : node_of c n ≡ Some sender = ap (node_of c) same ∙ here in
            let old : has_noticed sender l ≡ true =
            ap (λ (z : Node). has_noticed z l) (some_is (sym (put-same c f.node (marked f.link true sender) sender here)
            ∙ ap (node_of (put_node f.node (marked f.link true sender) c)) (sym same) ∙ is)) ∙ h in
            (sender, there, old, still n l plan sender planned there old)
        by n l plan new planned is h (inr other) =
            let there : node_of c n ≡ Some new = sym (put-other c f.node n (marked f.link true sender) other) ∙ is in
            (new, there, h, still n l plan new planned there h)

-- a sink takes what others offer, and offers nothing
pub sink_offers : (p : Plan) (s s' : State) (n : ℕ) → role_at p n ≡ Sink
    → ((q : Place) → is_script_of n q ≡ false → s' q ≡ s q)
    → (g : End) → is_sending_at p s g ≡ true → is_sending_at p s' g ≡ true
sink_offers p s s' n role same g h = offers_stay p s s' g (by (role_at p g.node) refl) h
  where
    differ : Source ≡ Sink → ⊥
    differ e = cc

    by : (r : Role) → role_at p g.node ≡ r → s' (offer_place r g) ≡ s (offer_place r g)
    by Processor e = same (LinkHalf g Output) refl
    by Sink e = same (LinkHalf g Output) refl
    by Nothing e = same (LinkHalf g Output) refl
    by Source e =
        same (Messages g) (ne_eqb n g.node (λ f. differ (sym e ∙ ap (role_at p) (sym f) ∙ role)))

-- a source takes back what it offered alone
pub source_offers : (p : Plan) → fault_of p ≡ None → (s s' : State) (f : End) → length p.nodes ≤ f.node
    → f.link ≡ 0 → ((q : Place) → is_script_of f.node q ≡ false → s' q ≡ s q)
    → (g d : End) → sender_to p d ≡ Some g → (g ≡ f → ⊥) → is_sending_at p s g ≡ true → is_sending_at p s' g ≡ true
source_offers p none s s' f past zero_link same g d joined other =
    offers_stay p s s' g (by (role_at p g.node) (cases_eq f.node g.node))
  where
    proper : (g.node < length p.nodes) ⊎ (g.link ≡ 0)
    proper = wire_proper p none g d (back p none d g (sender_is_far p d g joined))

    one : f.node ≡ g.node → (g.node < length p.nodes) ⊎ (g.link ≡ 0) → ⊥
    one e (inl b) = omega (arith, past, e, b)
    one e (inr z) = other (λ i. record { node = sym e i; link = (z ∙ sym zero_link) i })

    by : (r : Role) → (f.node ≡ g.node) ⊎ (f.node ≡ g.node → ⊥) → s' (offer_place r g) ≡ s (offer_place r g)
    by Processor k = same (LinkHalf g Output) refl
    by Sink k = same (LinkHalf g Output) refl
    by Nothing k = same (LinkHalf g Output) refl
    by Source (inl e) = absurd (one e proper)
    by Source (inr e) = same (Messages g) (ne_eqb f.node g.node e)
