-- The step of a process that listens.
use Rattle.std.proofs.Common.{◌≡◌, ◌<◌, ◌∙◌, ℕ, inl, inr, sym, ap, subst, arith, length, List, [], ◌∷◌}
use Rattle.std.proofs.Common.{Contains, Option, Some, Ok, Err, Result}
use Rattle.std.specs.Prelude.{slice_get, slice_set}
use Rattle.std.proofs.lemmas.Bool.{cases_eq}
use Rattle.std.proofs.lemmas.Option.{slice_get_within}
use Rattle.tclocks.proofs.Lists.{contains-first, contains-rest}
use Rattle.tproc.specs.LinkChannels.{link_of}
use Rattle.tproc.specs.declared.channels.Side.TheVariants.{Input}
use Rattle.tplan.specs.Wires.{end_at}
use Rattle.tplan.specs.declared.plan.End.{End}
use Rattle.tplan.specs.declared.plan.NodePlan.{NodePlan}
use Rattle.tplan.specs.declared.plan.Plan.{Plan}
use Rattle.tprocesses.specs.Choosing.{goes_on_unfired}
use Rattle.tprocesses.specs.Machine as machine
use Rattle.tprocesses.specs.Machine.{requires_no_sender, sender_to, site_of, step_of, stepped}
use Rattle.tprocesses.specs.Parts.{Doing, Part, Reason, see, ◌>>=◌}
use Rattle.tprocesses.specs.Places.{Name, Standing}
use Rattle.tprocesses.specs.Touching.{Site}
use Rattle.tprocesses.specs.Values as value
use Rattle.tprocesses.specs.Values.{IsStand, Value, stand_in}
use Rattle.tcertify.specs.declared.context.Context.{Context}
use Rattle.tcertify.specs.declared.fault.Fault.{Fault}
use Rattle.tcertify.specs.declared.node.Node.{Node}
use Rattle.tcertify.specs.declared.notes.Notes.{Notes}
use Rattle.tcertify.specs.declared.standing.Stand.{Stand}
use Rattle.tcertify.specs.declared.standing.Stand.TheVariants as stand
use Rattle.tcertify.specs.Contexts.{context_of}
use Rattle.tcertify.specs.Nodes.{name_at, nothing}
use Rattle.tcertify.specs.Running.{State}
use Rattle.tcertify.specs.Standing.{stand_of}
use Rattle.tcertify.proofs.NodeStands.{stand_seen}
use Rattle.tcertify.proofs.Places.{set_here}
use Rattle.tfollow.proofs.Sited.{steps_are_at_sites}
use Rattle.tverdict.specs.declared.agent.Agent.TheVariants as agent
use Rattle.tverdict.specs.declared.machine.Machine.{Machine}
use Rattle.tverdict.specs.Agents.{HasProcess, name_there}
use Rattle.tverdict.specs.Apart.{IsApart}
use Rattle.tverdict.specs.Listening.{ListensAt, far_node}
use Rattle.tverdict.specs.Machines.{HasStep, machine_at}
use Rattle.tverdict.specs.Passing.{DoesHalf, NodesGrow, RunsHalf}
use Rattle.tverdict.specs.Stepping.{Fits}
use Rattle.tverdict.specs.Wired.{BeginsAt, DoesAtTwo, RunsAtTwo}
use Rattle.tverdict.proofs.AtTwo.{at_second, does_both, does_second, fails_both}
use Rattle.tverdict.proofs.Distinct.{at_low, name_known}
use Rattle.tverdict.proofs.Frames.{nodes_are_apart}
use Rattle.tverdict.proofs.Half.{name_there_is}
use Rattle.tverdict.proofs.Staying.{grow_twice, name_stays}
use Rattle.tverdict.proofs.Wiring.{agent_is, begin_elsewhere, numbers_begun}

-- a process that listens is there
pub listens_there : (nodes : List Node) (n k channel : ℕ) → ListensAt nodes n k channel → HasProcess nodes n k
listens_there nodes n k channel l =
    (l.node, l.there, slice_get_within l.node.processes.items.items k l.known l.has)

-- it listens still where a node begins afresh
module _ (plan : Plan) (m m' : Machine) (n : ℕ) (b : BeginsAt m n m')
    (numbers : (k : ℕ) (x : Node) → slice_get m.nodes.items k ≡ Some x → x.words.number ≡ k) where
  pub listens_begun : (j k channel : ℕ) → ListensAt m.nodes.items j k channel → ListensAt m'.nodes.items j k channel
  listens_begun j k channel l = elim (cases_eq j n) [
    | inl e ↦
        let (x, afresh, set) = b.node l.node (ap (λ (i : ℕ). slice_get m.nodes.items i) (sym e) ∙ l.there) in
        record {
          node = x;
          there = ap (λ (ns : List Node). slice_get ns j) set
              ∙ ap (λ (i : ℕ). slice_get (slice_set m.nodes.items n x) i) e
              ∙ set_here m.nodes.items n x l.node (ap (λ (i : ℕ). slice_get m.nodes.items i) (sym e) ∙ l.there);
          known = l.known;
          has = ap (λ (y : Node). slice_get y.processes.items.items k) afresh.same ∙ l.has;
          listens = l.listens;
        }
    | inr other ↦ record {
      node = l.node;
      there = begin_elsewhere plan m m' n b numbers j other ∙ l.there;
      known = l.known;
      has = l.has;
      listens = l.listens;
    }
  ]

-- a look answers one value
answered : (v w : Value) → ◌≡◌ {A = Result Value Reason} (Ok v) (Ok w) → v ≡ w
answered v w e = cc

-- the node of such a process is one of the plan
pub site_there : (plan : Plan) (m : Machine) (n k channel : ℕ) → Fits plan m → ListensAt m.nodes.items n k channel
    → (p : NodePlan) × (slice_get plan.nodes n ≡ Some p)
site_there plan m n k channel fits l =
    let within : n < length m.nodes.items = slice_get_within m.nodes.items n l.node l.there in
    at_low plan.nodes n (omega (arith, within, fits.nodes.many))

-- the step of a process that listens to the input of the link that this channel names
module _ (plan : Plan) (m m1 m2 m3 : Machine) (n k : ℕ) (from : Option End) (before after : Notes) (fits : Fits plan m)
    (channel : ℕ) (l : ListensAt m.nodes.items n k channel)
    (sender : from ≡ sender_to plan (end_at n (link_of Input channel))) where
  abbrev x : Name
  x = name_there m.nodes.items n k

  number : l.node.words.number ≡ n
  number = fits.nodes.numbers n l.node l.there

  home : x.node ≡ n
  home = ap (λ (y : Name). y.node) (name_known m.nodes.items fits.nodes.numbers n k l.node l.known l.there l.has)

  abbrev planned : (p : NodePlan) × (slice_get plan.nodes n ≡ Some p)
  planned = site_there plan m n k channel fits l

  abbrev site : Site
  site = site_of n planned.0

  abbrev looking : Part Value
  looking = see (Standing x)

  abbrev next : Value → Doing
  next stood = stepped plan x (stand_in stood) site

  step_is : step_of plan (machine.Process x) ≡ (looking >>= next)
  step_is =
      (steps_are_at_sites plan).process x planned.0 (ap (λ (j : ℕ). slice_get plan.nodes j) home ∙ planned.1)
      ∙ ap (λ (j : ℕ). looking >>= (λ stood. stepped plan x (stand_in stood) (site_of j planned.0))) home

  -- where it stands
  stands_now : machine_at plan m (Standing x) ≡ IsStand (value.Listens channel (context_of l.listens.0))
  stands_now =
      let apart : IsApart plan m.nodes.items m.sent.items m.sinks.items n l.node =
      nodes_are_apart plan m.nodes.items m.sent.items m.sinks.items n l.node l.there number in
      ap (λ (y : Name). machine_at plan m (Standing y)) (name_there_is m.nodes.items n l.node k l.there)
      ∙ ap (λ (s : State). s (Standing (name_at l.node k))) (sym apart.before)
      ∙ stand_seen l.node k l.known l.has apart.rest
      ∙ ap (λ (s : Stand). IsStand (stand_of s)) l.listens.1

  module _ (stood : Stand) (seen : RunsHalf plan looking n m before (Ok (IsStand (stand_of stood))) m1 before)
      (channel' : ℕ) (context : Context) (is : stood ≡ stand.Listens channel' context) where
    abbrev c : value.Context
    c = context_of context

    same_channel : channel' ≡ channel
    same_channel =
        let seen_so : machine_at plan m (Standing x) ≡ IsStand (stand_of stood) =
        answered (machine_at plan m (Standing x)) (IsStand (stand_of stood))
        (ap (λ (r : Result Value Reason × State). r.0) seen.runs) in
        let both : IsStand (value.Listens channel' c) ≡ IsStand (value.Listens channel (context_of l.listens.0)) =
        ap (λ (s : Stand). IsStand (stand_of s)) (sym is) ∙ sym seen_so ∙ stands_now in
        cc

    from_is : from ≡ sender_to plan (end_at x.node (link_of Input channel'))
    from_is =
        sender ∙ ap (λ (j : ℕ). sender_to plan (end_at j (link_of Input channel))) (sym home)
        ∙ ap (λ (j : ℕ). sender_to plan (end_at x.node (link_of Input j))) (sym same_channel)

    abbrev silence : Doing
    silence = requires_no_sender plan from

    abbrev going : Doing
    going = goes_on_unfired site x channel' c

    abbrev far : ℕ
    far = far_node n from

    listened : next (IsStand (stand_of stood)) ≡ (silence >>= (λ y. going))
    listened =
        ap (λ (s : Stand). stepped plan x (stand_of s) site) is
        ∙ ap (λ (o : Option End). requires_no_sender plan o >>= (λ y. going)) (sym from_is)

    whole : (m' : Machine) (notes : Notes) (result : Result (Unit {0}) Fault)
        → DoesAtTwo plan (silence >>= (λ y. going)) far n m1 before result m' notes
        → DoesAtTwo plan (step_of plan (machine.Process x)) far n m before result m' notes
    whole m' notes result does =
        subst (λ (p : Doing). DoesAtTwo plan p far n m before result m' notes) (sym step_is)
        (does_both plan far n looking next m m1 m' before before notes (IsStand (stand_of stood)) result
        (at_second plan far n looking m m1 before before (Ok (IsStand (stand_of stood))) seen)
        (subst (λ (p : Doing). DoesAtTwo plan p far n m1 before result m' notes) (sym listened) does))

    -- somebody sends at the far end
    pub listening_fails : (e : Fault) → DoesAtTwo plan silence far n m1 before (Err e) m2 after
        → DoesAtTwo plan (step_of plan (machine.Process x)) far n m before (Err e) m2 after
    listening_fails e does =
        whole m2 after (Err e) (fails_both plan far n silence (λ y. going) m1 m2 before after e does)

    -- or nobody does, and the process goes on
    pub listening_goes : RunsAtTwo plan silence far n m1 before (Ok tt) m2 after → (result : Result (Unit {0}) Fault)
        → DoesHalf plan (goes_on_unfired site (name_there m2.nodes.items n k) channel' c) nothing n m2 after result m3
        after
        → DoesAtTwo plan (step_of plan (machine.Process x)) far n m before result m3 after
    listening_goes quiet result does =
        let name : name_there m2.nodes.items n k ≡ x =
        name_stays m.nodes.items m2.nodes.items
        (grow_twice m.nodes.items m1.nodes.items m2.nodes.items seen.goes.nodes quiet.nodes) n k
        (listens_there m.nodes.items n k channel l) in
        whole m3 after result
        (does_both plan far n silence (λ y. going) m1 m2 m3 before after after tt result quiet
        (does_second plan far n going m2 m3 after after result
        (subst (λ (y : Name). DoesHalf plan (goes_on_unfired site y channel' c) nothing n m2 after result m3 after) name
        does)))

-- the agent of a step that listens, and its node
module _ (plan : Plan) (m m2 : Machine) (number n k channel far : ℕ) (h : HasStep plan m number)
    (fits : Fits plan m) (at : slice_get m.agents.items number ≡ Some (agent.Process n k))
    (l : ListensAt m.nodes.items n k channel)
    (grow : NodesGrow m.nodes.items m2.nodes.items) where
  is_agent : h.agent ≡ machine.Process (name_there m.nodes.items n k)
  is_agent = agent_is plan m number h (agent.Process n k) at

  pub listening_is : step_of plan h.agent ≡ step_of plan (machine.Process (name_there m2.nodes.items n k))
  listening_is =
      ap (step_of plan) is_agent
      ∙ ap (λ (y : Name). step_of plan (machine.Process y))
      (sym (name_stays m.nodes.items m2.nodes.items grow n k (listens_there m.nodes.items n k channel l)))

  pub listening_home : (x : Name) → h.agent ≡ machine.Process x → Contains (far ∷ n ∷ []) x.node
  listening_home x is =
      let same : machine.Process (name_there m.nodes.items n k) ≡ machine.Process x = sym is_agent ∙ is in
      let name : name_there m.nodes.items n k ≡ x = cc in
      let home : n ≡ x.node =
      sym (ap (λ (y : Name). y.node) (name_known m.nodes.items fits.nodes.numbers n k l.node l.known l.there l.has))
      ∙ ap (λ (y : Name). y.node) name in
      subst (λ (j : ℕ). Contains (far ∷ n ∷ []) j) home (contains-rest far (n ∷ []) n (contains-first n []))

-- and what it does, from before its nodes begin
module _ (plan : Plan) (m m1 m2 m3 : Machine) (n k channel far link : ℕ) (from : Option End) (n2 n3 : Notes)
    (fits : Fits plan m) (l : ListensAt m.nodes.items n k channel) (b : BeginsAt m far m1) (b' : BeginsAt m1 n m2) where
  pub listens_still : ListensAt m2.nodes.items n k channel
  listens_still =
      listens_begun plan m1 m2 n b' (numbers_begun plan m m1 far b fits.nodes.numbers) n k channel
      (listens_begun plan m m1 far b fits.nodes.numbers n k channel l)

  pub listening_does : from ≡ sender_to plan (end_at n link) → link ≡ link_of Input channel → far ≡ far_node n from
      → (result : Result (Unit {0}) Fault)
      → ((j : ℕ) → ListensAt m2.nodes.items n k j → from ≡ sender_to plan (end_at n (link_of Input j))
      → DoesAtTwo plan (step_of plan (machine.Process (name_there m2.nodes.items n k))) (far_node n from) n m2 n2 result
      m3 n3)
      → DoesAtTwo plan (step_of plan (machine.Process (name_there m2.nodes.items n k))) far n m2 n2 result m3 n3
  listening_does sender named at result does =
      subst (λ (j : ℕ). DoesAtTwo plan (step_of plan (machine.Process (name_there m2.nodes.items n k))) j n m2 n2 result
      m3 n3) (sym at)
      (does channel listens_still (sender ∙ ap (λ (j : ℕ). sender_to plan (end_at n j)) named))
