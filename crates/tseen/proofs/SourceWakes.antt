-- What is shown of a net stays shown where the output of a source is over.
use Rattle.std.proofs.Common.{◌≡◌, ℕ, ◌+◌, ◌≤◌, refl, sym, ap, subst, ◌∙◌, List, [], ◌∷◌, ◌++◌, length, get_or, set}
use Rattle.std.proofs.Common.{take, Bool, true, false, Option, Some, None, ◌⊎◌, inl, inr, slice_get, slice_index_or}
use Rattle.std.proofs.Common.{slice_set, arith}
use Rattle.std.proofs.lemmas.Bool.{cases_eq}
use Rattle.std.proofs.lemmas.Option.{slice_get_within}
use Rattle.std.specs.Prelude.{sum}
use Rattle.std.proofs.lemmas.List.Sums.{sum_by-cons}
use Rattle.tword.specs.Words.{most_neg}
use Rattle.tword.specs.Stores.{as_cells, shown, place}
use Rattle.tlink.specs.Roles.{Role, Source, first_offer, address_behind, role_woken, woken}
use Rattle.tplan.specs.declared.plan.SourcePlan.{SourcePlan}
use Rattle.tproc.specs.declared.offer.Offer.{Offer}
use Rattle.tproc.specs.declared.waiter.LinkEnd.{LinkEnd}
use Rattle.tproc.specs.Machine.{Machine}
use Rattle.tproc.specs.Hidden.{hidden}
use Rattle.tproc.specs.LinkChannels.{link_end, quiet_end}
use Rattle.tproc.specs.Scripts.{output_set}
use Rattle.tproc.proofs.Scripted.{output_set-hidden}
use Rattle.tnet.specs.Rendezvous.{Node, Configuration, node_of, put_node, marked, was_copied}
use Rattle.tplan.specs.Wires.{end_at}
use Rattle.tnet.proofs.Puts.{put-same, put-other}
use Rattle.tprocesses.specs.Places.{Messages}
use Rattle.tprocesses.specs.Values.{AreMessages}
use Rattle.tseen.specs.Scripts.{ShowsSource, messages_from, to_come}
use Rattle.tseen.specs.Shown.{Shows}
use Rattle.tseen.specs.Steps.{SourceWakesAreSeen}
use Rattle.tseen.proofs.NoticedOffers.{script_notices}
use Rattle.tseen.proofs.After.{State}

-- whether an output was copied, after that is cleared
cleared : (copied : List Bool) → slice_index_or (slice_set copied 0 false) 0 false ≡ false
cleared [] = refl
cleared (b ∷ copied) = refl

-- link 0 after it is set, where it had an output
set_there : (ls : List LinkEnd) (e : LinkEnd) (o : Offer) → (get_or ls 0 quiet_end).output ≡ Some o
    → get_or (set ls 0 e) 0 quiet_end ≡ e
set_there [] e o h = absurd (differ h)
  where
    differ : None ≡ Some o → ⊥
    differ e = cc
set_there (x ∷ ls) e o h = refl

-- the node of a source after its wake
abbrev awake : Node → Node
awake node =
    marked 0 false (record node { role = role_woken node.role; machine = hidden (woken node.role 0 node.machine) })

module _ (s : State) (n : ℕ) (node : Node) (hides : hidden node.machine ≡ node.machine) (out : Offer)
    (sends : (link_end node.machine.control 0).output ≡ Some out) (copied : was_copied node 0 ≡ true)
    (alive : node.broken ≡ None) where
  abbrev m : Machine
  m = node.machine

  module _ (over rest : List ℕ) (size address : ℕ) (role : node.role ≡ Source over (size ∷ rest))
      (output : (link_end m.control 0).output ≡ first_offer address (size ∷ rest)) where
    abbrev next : Option Offer
    next = first_offer (address_behind (link_end m.control 0).output) rest

    machine_is : hidden (woken node.role 0 m) ≡ record m { control = output_set 0 next m.control }
    machine_is =
        ap (λ (r : Role). hidden (woken r 0 m)) role ∙ output_set-hidden m 0 next
        ∙ ap (λ (z : Machine). record z { control = output_set 0 next m.control }) hides

    next_is : next ≡ first_offer (address + size) rest
    next_is = ap (λ (o : Option Offer). first_offer (address_behind o) rest) output

    output_now : (link_end (awake node).machine.control 0).output ≡ first_offer (address + size) rest
    output_now =
        ap (λ (z : Machine). (link_end z.control 0).output) machine_is
        ∙ ap (λ (e : LinkEnd). e.output) (set_there m.control.links _ out sends) ∙ next_is

    shown_awake : as_cells (shown m.store) ≡ m.store → most_neg ≤ address
        → place address + sum (size ∷ rest) ≤ length m.store → (link_end m.control 0).input ≡ None
        → s (Messages (end_at n 0)) ≡ AreMessages (to_come (was_copied node 0)
        (messages_from m.store address (size ∷ rest))) → ShowsSource s (end_at n 0) (awake node)
    shown_awake seen above lies input messages =
        record {
          works = alive;
          over = over ++ take 1 (size ∷ rest);
          rest = rest;
          role = ap role_woken role;
          seen = ap (λ (z : Machine). as_cells (shown z.store)) machine_is ∙ seen
              ∙ ap (λ (z : Machine). z.store) (sym machine_is);
          address = address + size;
          above = omega (arith, above);
          lies = omega (
            arith,
            above,
            lies,
            sum_by-cons (λ x. x) size rest,
            ap (λ (z : Machine). length z.store) machine_is,
          );
          output = output_now;
          input = ap (λ (z : Machine). (link_end z.control 0).input) machine_is
              ∙ ap (λ (e : LinkEnd). e.input) (set_there m.control.links _ out sends) ∙ input;
          messages = messages
              ∙ ap (λ b. AreMessages (to_come b (messages_from m.store address (size ∷ rest)))) copied
              ∙ ap (λ b. AreMessages (to_come b (messages_from m.store (address + size) rest)))
              (sym (cleared node.copied))
              ∙ ap (λ (z : Machine). AreMessages (to_come (was_copied (awake node) 0)
              (messages_from z.store (address + size) rest))) (sym machine_is);
        }

  pub source_awake : ShowsSource s (end_at n 0) node → ShowsSource s (end_at n 0) (awake node)
  source_awake k = by k.rest k.role k.output k.lies k.messages
    where
      by : (rest : List ℕ) → node.role ≡ Source k.over rest
          → (link_end m.control 0).output ≡ first_offer k.address rest
          → place k.address + sum rest ≤ length m.store
          → s (Messages (end_at n 0)) ≡ AreMessages (to_come (was_copied node 0) (messages_from m.store k.address rest))
          → ShowsSource s (end_at n 0) (awake node)
      by [] role output lies messages = absurd (differ (sym sends ∙ output))
        where
          differ : Some out ≡ None → ⊥
          differ e = cc
      by (size ∷ rest) role output lies messages =
          shown_awake k.over rest size k.address role output k.seen k.above lies k.input messages

-- wakes of sources
pub source_wakes_are_seen : SourceWakesAreSeen
source_wakes_are_seen p c c' s k source there shows steady l =
    subst (λ (z : Configuration). Shows p z s) (sym l.after) (record {
      named = shows.named;
      sent = shows.sent;
      wires = shows.wires;
      processors = λ m plan is. (let old = shows.processors m plan is in (
        old.0,
        put-other c n m (awake l.node) (λ e. omega (arith, e, slice_get_within p.nodes m plan is)) ∙ old.1,
        old.2,
      ));
      sources = λ j other is. by_source j other is (cases_eq j k);
      sinks = λ j sink is. (let old = shows.sinks j sink is in (
        old.0,
        put-other c n (length p.nodes + length p.sources + j) (awake l.node)
            (λ e. omega (arith, e, slice_get_within p.sources k source there)) ∙ old.1,
        old.2,
      ));
      noticed = script_notices p c s s n (awake l.node) (omega arith) shows.noticed (λ g h. h);
      nobody = shows.nobody;
    })
  where
    n : ℕ
    n = length p.nodes + k

    some_is : {a b : Node} → Some a ≡ Some b → a ≡ b
    some_is e = cc

    own : ShowsSource s (end_at n 0) l.node
    own =
        let old = shows.sources k source there in
        subst (ShowsSource s (end_at n 0)) (some_is (sym old.1 ∙ l.copied.node)) old.2

    by_source : (j : ℕ) (other : SourcePlan) → slice_get p.sources j ≡ Some other → (j ≡ k) ⊎ (j ≡ k → ⊥)
        → (node : Node) × (node_of (put_node n (awake l.node) c) (length p.nodes + j) ≡ Some node)
        × ShowsSource s (end_at (length p.nodes + j) 0) node
    by_source j other is (inl e) =
        subst (λ i. (node : Node) × (node_of (put_node n (awake l.node) c) (length p.nodes + i) ≡ Some node)
        × ShowsSource s (end_at (length p.nodes + i) 0) node) (sym e) (
          awake l.node,
          put-same c n (awake l.node) l.node l.copied.node,
          source_awake s n l.node (steady n l.node l.copied.node).hides
              l.out l.copied.output l.copied.copied l.works own,
        )
    by_source j other is (inr e) =
        let old = shows.sources j other is in (
          old.0,
          put-other c n (length p.nodes + j) (awake l.node) (λ f. e (omega (arith, f))) ∙ old.1,
          old.2,
        )
