-- A byte that was noticed comes from somebody who sends: what keeps that so.
use Rattle.std.proofs.Common.{◌≡◌, ◌≢◌, ℕ, refl, sym, ap, subst, ◌∙◌, Bool, true, length, Some}
use Rattle.std.proofs.Common.{◌⊎◌, inl, inr, ◌≤◌, arith}
use Rattle.std.specs.Prelude.{slice_get}
use Rattle.std.proofs.lemmas.Bool.{cases_eq}
use Rattle.std.proofs.lemmas.Option.{slice_get_within}
use Rattle.tplan.specs.declared.plan.End.{End}
use Rattle.tplan.specs.declared.plan.NodePlan.{NodePlan}
use Rattle.tplan.specs.declared.plan.Plan.{Plan}
use Rattle.tplan.specs.Wires.{end_at}
use Rattle.tproc.specs.declared.channels.Side.TheVariants.{Output}
use Rattle.tproc.specs.declared.waiter.LinkEnd.{LinkEnd}
use Rattle.tproc.specs.LinkChannels.{link_end}
use Rattle.tnet.specs.Rendezvous.{Node, Configuration, node_of, put_node}
use Rattle.tnet.proofs.Puts.{put-same, put-other}
use Rattle.tprocesses.specs.Places.{Place, LinkHalf}
use Rattle.tprocesses.specs.Machine.{Role, Processor, Source, Sink, Nothing, role_at, offer_place, is_passable}
use Rattle.tprocesses.specs.Machine.{sender_to}
use Rattle.tseen.specs.Shown.{HasSender}
use Rattle.tseen.proofs.After.{State}
use Rattle.tseen.proofs.EndRoles.{node_role}
use Rattle.tseen.proofs.Frames.{node_at}

-- a byte was noticed at a link of a node
abbrev pub has_noticed : Node → ℕ → Bool
has_noticed node l = (link_end node.machine.control l).noticed

-- each byte that was noticed comes from somebody who sends
abbrev pub NoticesSent : Plan → Configuration → State → Type 0
NoticesSent p c s =
    (n l : ℕ) (plan : NodePlan) (node : Node) → slice_get p.nodes n ≡ Some plan → node_of c n ≡ Some node
    → has_noticed node l ≡ true → HasSender p s (end_at n l)

-- where an end offers messages
abbrev pub offers_at : Plan → End → Place
offers_at p f = offer_place (role_at p f.node) f

-- a message is offered at an end
abbrev pub is_sending_at : Plan → State → End → Bool
is_sending_at p s f = is_passable (offers_at p f) (s (offers_at p f))

-- who notices has noticed before, and its sender sends still
pub notices_from : (p : Plan) (c c' : Configuration) (s s' : State) → NoticesSent p c s
    → ((n l : ℕ) (plan : NodePlan) (new : Node) → slice_get p.nodes n ≡ Some plan → node_of c' n ≡ Some new
    → has_noticed new l ≡ true → (node : Node) × (node_of c n ≡ Some node) × (has_noticed node l ≡ true)
    × ((f : End) → sender_to p (end_at n l) ≡ Some f → is_sending_at p s f ≡ true → is_sending_at p s' f ≡ true))
    → NoticesSent p c' s'
notices_from p c c' s s' before h n l plan new planned here noticed =
    let k = h n l plan new planned here noticed in
    let old = before n l plan k.0 planned k.1 k.2 in
    record { from = old.from; joined = old.joined; sends = k.3 old.from old.joined old.sends }

-- the place of an offer is one of its node
offer_home : (r : Role) (f : End) → node_at (offer_place r f) ≡ f.node
offer_home Processor f = refl
offer_home Source f = refl
offer_home Sink f = refl
offer_home Nothing f = refl

-- where nothing changes that is offered
pub offers_stay : (p : Plan) (s s' : State) (f : End) → s' (offers_at p f) ≡ s (offers_at p f)
    → is_sending_at p s f ≡ true → is_sending_at p s' f ≡ true
offers_stay p s s' f same h = ap (is_passable (offers_at p f)) same ∙ h

-- what one node does keeps what it offers, and notices nothing
pub record KeepsOffers (s s' : State) (n : ℕ) (node new : Node) : Type 0 where
  pub offers : (l : ℕ)
      → is_passable (LinkHalf (end_at n l) Output) (s (LinkHalf (end_at n l) Output)) ≡ true
      → is_passable (LinkHalf (end_at n l) Output) (s' (LinkHalf (end_at n l) Output)) ≡ true
  pub notices : (l : ℕ) → has_noticed new l ≡ true → has_noticed node l ≡ true

-- where all outputs stay, and all links
pub outputs_stay : (s s' : State) (n : ℕ) (node new : Node)
    → ((l : ℕ) → s' (LinkHalf (end_at n l) Output) ≡ s (LinkHalf (end_at n l) Output))
    → ((l : ℕ) → link_end new.machine.control l ≡ link_end node.machine.control l) → KeepsOffers s s' n node new
outputs_stay s s' n node new outputs links =
    record {
      offers = λ l h. ap (is_passable (LinkHalf (end_at n l) Output)) (outputs l) ∙ h;
      notices = λ l h. sym (ap (λ (e : LinkEnd). e.noticed) (links l)) ∙ h;
    }

-- so what was noticed still comes from somebody who sends
pub own_notices : (p : Plan) (c : Configuration) (s s' : State) (n : ℕ) (plan : NodePlan) (node new : Node)
    → slice_get p.nodes n ≡ Some plan → node_of c n ≡ Some node → NoticesSent p c s → KeepsOffers s s' n node new
    → ((q : Place) → node_at q ≢ n → s' q ≡ s q) → NoticesSent p (put_node n new c) s'
own_notices p c s s' n plan node new planned here before k same =
    notices_from p c (put_node n new c) s s' before (λ m l other x is there noticed.
    by m l x there noticed (cases_eq m n))
  where
    some_is : {a b : Node} → Some a ≡ Some b → a ≡ b
    some_is e = cc

    still : (f : End) → is_sending_at p s f ≡ true → is_sending_at p s' f ≡ true
    still f h = at (cases_eq f.node n)
      where
        at : (f.node ≡ n) ⊎ (f.node ≡ n → ⊥) → is_sending_at p s' f ≡ true
        at (inr d) = offers_stay p s s' f (same (offers_at p f) (λ e. d (sym (offer_home (role_at p f.node) f) ∙ e))) h
        at (inl e) =
            let r : role_at p f.node ≡ Processor =
            ap (role_at p) e ∙ node_role p n (slice_get_within p.nodes n plan planned) in
            let P : State → Role → ℕ → Type 0 =
            λ t z i. is_passable (offer_place z (end_at i f.link)) (t (offer_place z (end_at i f.link))) ≡ true in
            subst (λ z. P s' z f.node) (sym r) (subst (λ i. P s' Processor i) (sym e)
            (k.offers f.link (subst (λ i. P s Processor i) e (subst (λ z. P s z f.node) r h))))

    by : (m l : ℕ) (x : Node) → node_of (put_node n new c) m ≡ Some x → has_noticed x l ≡ true
        → (m ≡ n) ⊎ (m ≡ n → ⊥) → (old : Node) × (node_of c m ≡ Some old) × (has_noticed old l ≡ true)
        × ((f : End) → sender_to p (end_at m l) ≡ Some f → is_sending_at p s f ≡ true → is_sending_at p s' f ≡ true)
    by m l x there noticed (inl e) =
        let is : new ≡ x =
        some_is (sym (put-same c n new node here) ∙ ap (node_of (put_node n new c)) (sym e) ∙ there) in (
          node,
          ap (node_of c) e ∙ here,
          k.notices l (ap (λ z. has_noticed z l) is ∙ noticed),
          λ f joined h. still f h,
        )
    by m l x there noticed (inr d) = (
      x,
      sym (put-other c n m new d) ∙ there,
      noticed,
      λ f joined h. still f h,
    )

-- a script notices nothing that is told of
pub script_notices : (p : Plan) (c : Configuration) (s s' : State) (n : ℕ) (new : Node) → length p.nodes ≤ n
    → NoticesSent p c s → ((g : End) → is_sending_at p s g ≡ true → is_sending_at p s' g ≡ true)
    → NoticesSent p (put_node n new c) s'
script_notices p c s s' n new past before still =
    notices_from p c (put_node n new c) s s' before (λ m l plan x planned there h. (
      x,
      sym (put-other c n m new (λ e. absurd (omega (arith, past, e, slice_get_within p.nodes m plan planned)))) ∙ there,
      h,
      λ g joined sends. still g sends,
    ))
