-- A net of which one node changed is shown where that node is, and no place of others changed.
use Rattle.std.proofs.Common.{◌≡◌, ◌≢◌, ℕ, ◌+◌, ◌<◌, refl, sym, ap, subst, ◌∙◌, Bool, length, Ok, Option, Some}
use Rattle.std.proofs.Common.{None, arith, ◌⊎◌, inl, inr}
use Rattle.std.specs.Prelude.{◌==◌, slice_get, if◌then◌else◌}
use Rattle.std.proofs.lemmas.Bool.{eq-eqb, ne_eqb, cases_eq}
use Rattle.std.proofs.lemmas.Option.{slice_get_within}
use Rattle.tplan.specs.declared.plan.End.{End}
use Rattle.tplan.specs.declared.plan.NodePlan.{NodePlan}
use Rattle.tplan.specs.declared.plan.Plan.{Plan}
use Rattle.tplan.specs.Wires.{end_at}
use Rattle.tproc.specs.declared.ran.Ran.{Ran}
use Rattle.tproc.specs.Machine.{Machine}
use Rattle.tproc.specs.Hidden.{hidden}
use Rattle.tproc.specs.Steps.{step}
use Rattle.tnet.specs.Rendezvous.{Node, Configuration, node_of, put_node, IsStep}
use Rattle.tseen.specs.Steps.{LeadsTo}
use Rattle.tnet.proofs.Puts.{put-same, put-other}
use Rattle.tproc.specs.declared.channels.Side.TheVariants.{Output}
use Rattle.tprocesses.specs.Places.{Place, Name, Standing, LinkHalf, Messages, Kept}
use Rattle.tseen.specs.Seats.{Seat}
use Rattle.tseen.specs.Outputs.{Pending}
use Rattle.tseen.specs.Scripts.{ShowsSource, ShowsSink}
use Rattle.tseen.specs.Shown.{Shows, ShowsNode}
use Rattle.tseen.proofs.After.{State}
use Rattle.tseen.proofs.Frames.{node_at, node_stays}
use Rattle.tseen.proofs.NoticedOffers.{NoticesSent, KeepsOffers, own_notices}
use Rattle.tproc.specs.declared.channels.Side.TheVariants.{Output}

-- a script stays shown
pub source_stays : (s s' : State) (e : End) (node : Node) → s' (Messages e) ≡ s (Messages e) → ShowsSource s e node
    → ShowsSource s' e node
source_stays s s' e node same k =
    record {
      works = k.works;
      over = k.over;
      rest = k.rest;
      role = k.role;
      seen = k.seen;
      address = k.address;
      above = k.above;
      lies = k.lies;
      output = k.output;
      input = k.input;
      messages = same ∙ k.messages;
    }

pub sink_stays : (s s' : State) (e : End) (node : Node) → s' (Kept e) ≡ s (Kept e)
    → s' (LinkHalf e Output) ≡ s (LinkHalf e Output) → ShowsSink s e node → ShowsSink s' e node
sink_stays s s' e node same half k =
    record {
      works = k.works;
      kept = k.kept;
      role = k.role;
      room = k.room;
      input = k.input;
      output = k.output;
      silent = half ∙ k.silent;
      alone = k.alone;
      lies = k.lies;
      messages = k.messages;
      stands = same ∙ k.stands;
      knows = k.knows;
    }

-- one of two, by a test
abbrev pub chosen : {X : Type 0} → Bool → X → X → X
chosen t x y = if t then x else y

module _ (p : Plan) (c : Configuration) (s s' : State) (k : Shows p c s) (n : ℕ) (plan : NodePlan)
    (planned : slice_get p.nodes n ≡ Some plan) (node : Node) (here : node_of c n ≡ Some node) (new : Node)
    (named : Seat → Name) (sent : ℕ → Option Pending) (shown : ShowsNode s' n plan named sent new)
    (same : (q : Place) → node_at q ≢ n → s' q ≡ s q) (noticed : NoticesSent p (put_node n new c) s') where
  inside : n < length p.nodes
  inside = slice_get_within p.nodes n plan planned

  processors : (m : ℕ) (other : NodePlan) → slice_get p.nodes m ≡ Some other
      → (x : Node) × (node_of (put_node n new c) m ≡ Some x)
      × ShowsNode s' m other (chosen (m == n) named (k.named m)) (chosen (m == n) sent (k.sent m)) x
  processors m other is = by (cases_eq m n)
    where
      by : (m ≡ n) ⊎ (m ≡ n → ⊥) → (x : Node) × (node_of (put_node n new c) m ≡ Some x)
          × ShowsNode s' m other (chosen (m == n) named (k.named m)) (chosen (m == n) sent (k.sent m)) x
      by (inl e) =
          let f : plan ≡ other = some_is (sym planned ∙ ap (slice_get p.nodes) (sym e) ∙ is) in (
            new,
            ap (node_of (put_node n new c)) e ∙ put-same c n new node here,
            rw (eq-eqb m n e)
                (subst (λ (z : NodePlan). ShowsNode s' m z named sent new) f
                (subst (λ j. ShowsNode s' j plan named sent new) (sym e) shown)),
          )
        where
          some_is : {a b : NodePlan} → Some a ≡ Some b → a ≡ b
          some_is e = cc
      by (inr e) =
          let old = k.processors m other is in (
            old.0,
            put-other c n m new e ∙ old.1,
            rw (ne_eqb m n e)
                (node_stays m s s' (λ q h. same q (λ g. e (sym h ∙ g))) other (k.named m) (k.sent m) old.0 old.2),
          )

  -- so the net is shown
  pub net_shown : Shows p (put_node n new c) s'
  net_shown =
      record {
        named = λ m. chosen (m == n) named (k.named m);
        sent = λ m. chosen (m == n) sent (k.sent m);
        wires = k.wires;
        processors = processors;
        sources = λ j source is. (let old = k.sources j source is in (
          old.0,
          put-other c n (length p.nodes + j) new (λ e. omega (arith, inside, e)) ∙ old.1,
          source_stays s s' (end_at (length p.nodes + j) 0) old.0
              (same (Messages (end_at (length p.nodes + j) 0)) (λ e. omega (arith, inside, e))) old.2,
        ));
        sinks = λ j sink is. (let old = k.sinks j sink is in (
          old.0,
          put-other c n (length p.nodes + length p.sources + j) new (λ e. omega (arith, inside, e)) ∙ old.1,
          sink_stays s s' (end_at (length p.nodes + length p.sources + j) 0) old.0
              (same (Kept (end_at (length p.nodes + length p.sources + j) 0)) (λ e. omega (arith, inside, e)))
              (same (LinkHalf (end_at (length p.nodes + length p.sources + j) 0) Output)
              (λ e. omega (arith, inside, e))) old.2,
        ));
        noticed = noticed;
        nobody = λ x none. same (Standing x) (λ e. elsewhere x none e) ∙ k.nobody x none;
      }
    where
      elsewhere : (x : Name) → slice_get p.nodes x.node ≡ None → x.node ≡ n → ⊥
      elsewhere x none e =
          let f : ◌≡◌ {A = Option NodePlan} None (Some plan) = sym none ∙ ap (slice_get p.nodes) e ∙ planned in cc

  -- with these names at the node
  pub net_named : net_shown.named n ≡ named
  unfolding net_shown
  net_named = ap (λ t. chosen t named (k.named n)) (eq-eqb n n refl)

-- what a step of a processor leaves is shown
pub leads_by : (p : Plan) (c : Configuration) (s s' : State) (k : Shows p c s) (n : ℕ) (plan : NodePlan)
    → slice_get p.nodes n ≡ Some plan → (node : Node) → node_of c n ≡ Some node → node.broken ≡ None
    → (m : Machine) (ran : Ran) → IsStep ran → step node.machine ≡ Ok (m, ran) → hidden m ≡ m
    → (named : Seat → Name) (sent : ℕ → Option Pending)
    → ShowsNode s' n plan named sent (record node { machine = m })
    → ((q : Place) → node_at q ≢ n → s' q ≡ s q) → KeepsOffers s s' n node (record node { machine = m })
    → LeadsTo p c n s'
leads_by p c s s' k n plan planned node here works m ran is stepped same named sent shown others offers =
    record {
      configuration = put_node n (record node { machine = hidden m }) c;
      local = record {
        node = node;
        machine = m;
        ran = ran;
        here = here;
        works = works;
        steps = stepped;
        is_step = is;
        after = refl;
      };
      shows = net_shown p c s s' k n plan planned node here (record node { machine = hidden m }) named sent
          (subst (λ (z : Machine). ShowsNode s' n plan named sent (record node { machine = z }))
          (sym same) shown) others
          (own_notices p c s s' n plan node (record node { machine = hidden m }) planned here k.noticed
          (record { offers = offers.offers; notices = offers.notices }) others);
    }
