-- The whole machine before the first step.
use Rattle.std.proofs.Common.{◌≡◌, ◌<◌, ◌≤◌, ◌+◌, ◌-◌, ◌^◌, ℕ, zero, suc, refl, sym, ap, ◌∙◌, subst, Bool, true}
use Rattle.std.proofs.Common.{false, List}
use Rattle.std.proofs.Common.{[], ◌∷◌, ◌++◌, All, arith, drop, get_or, length, map, replicate, take, Option, Some, None}
use Rattle.std.proofs.Common.{length-append, ◌⊎◌, inl, inr}
use Rattle.std.specs.List.{range_with_len}
use Rattle.std.specs.Prelude.{◌==◌, ◌&&◌, nat_le, slice_get, slice_index, if◌then◌else◌}
use Rattle.std.proofs.Math.Seq.{take-length, take-suc}
use Rattle.std.proofs.lemmas.Bool.{cases_eq}
use Rattle.std.proofs.lemmas.List.{length-replicate, length-take-le, map-append}
use Rattle.std.proofs.lemmas.List.FromFn.{get_or-range_with_len, length-range_with_len}
use Rattle.std.proofs.lemmas.Option.{get_or_from_slice_get, none-some, same_Some, slice_get_within, slice_get-get_or}
use Rattle.tplan.specs.declared.plan.NodePlan.{NodePlan}
use Rattle.tplan.specs.declared.plan.Plan.{Plan}
use Rattle.tplan.specs.declared.plan.SinkPlan.{SinkPlan}
use Rattle.tplan.specs.Wires.{all_wires}
use Rattle.tclocks.specs.Checks.{Check, nothing_checked, with_places}
use Rattle.tprocesses.specs.Opening.{capacity_of, messages_of, opening_state, source_at}
use Rattle.tprocesses.specs.Places.{Place, Messages, Kept}
use Rattle.tprocesses.specs.Touching.{Site}
use Rattle.tprocesses.specs.Values.{AreKept, AreMessages, Value}
use Rattle.tcertify.specs.declared.node.Node.{Node}
use Rattle.tcertify.specs.declared.sink.Sink.{Sink}
use Rattle.tcertify.specs.Finding.{AreApart}
use Rattle.tcertify.specs.NodeOpened.{IsOpen}
use Rattle.tcertify.proofs.Keeping.{get_pushed}
use Rattle.tcertify.proofs.NodeOpening.{get_else}
use Rattle.tcertify.proofs.OwnWorkspaces.{among_first}
use Rattle.tfollow.specs.Following.{IsFollowed}
use Rattle.tfollow.specs.Laws as laws
use Rattle.tfollow.specs.Numbering.{AgentNumbers, Places}
use Rattle.tfollow.proofs.Growing.{agents_may_come, places_may_come}
use Rattle.tfollow.proofs.Handing.{following_begins}
use Rattle.tverdict.specs.declared.agent.Agent.{Agent}
use Rattle.tverdict.specs.Agents.{IsThere, agent_of}
use Rattle.tverdict.specs.declared.machine.Machine.{Machine}
use Rattle.tverdict.specs.Lodging.{AreFirstLodgings}
use Rattle.tverdict.specs.Machines.{AreNodesOf, IsAtStart, at_node, at_nodes, kept_by, machine_at, places, state_of}
use Rattle.tverdict.specs.Machines.{with_scripts}
use Rattle.tverdict.specs.Machines.{agents as agents_of}
use Rattle.tverdict.specs.Numbers.{node_in}
use Rattle.tverdict.specs.Opening.{AllMayHaveSteps, AreAgents, AreEmpty, AreOpen, HasPlacesInOrder, first_check}
use Rattle.tverdict.specs.Opening.{fresh_after, with_agents}
use Rattle.tverdict.proofs.Distinct.{agent_new, at_low}
use Rattle.tverdict.proofs.FirstLodgings.{all_first}
use Rattle.tverdict.proofs.Gone.{all_live}
use Rattle.tverdict.proofs.FoundAgents.{all_found, found_apart, found_there}

-- the nodes
module _ (plan : Plan) (nodes : List Node) (h : AreOpen plan.nodes nodes) where
  planned : (k : ℕ) (n : Node) → slice_get nodes k ≡ Some n → (p : NodePlan) × (slice_get plan.nodes k ≡ Some p)
  planned k n at = at_low plan.nodes k (omega (arith, slice_get_within nodes k n at, h.many))

  pub nodes_of : AreNodesOf plan nodes
  nodes_of =
      record {
        many = h.many;
        numbers = λ k n at.
            let (p, there) = planned k n at in ap (λ (s : Site). s.number) ((h.nodes k p n there at).site);
        sites = λ k n p at there. (h.nodes k p n there at).site;
      }

  stand_at : (q : Place) (o : Option Node) → slice_get nodes (node_in q) ≡ o
      → at_node o (opening_state plan) q ≡ opening_state plan q
  stand_at q None at = refl
  stand_at q (Some n) at =
      let (p, there) = planned (node_in q) n at in
      ap (λ (s : Place → Value). s q) ((h.nodes (node_in q) p n there at).opens plan there)

  pub nodes_stand : at_nodes nodes (opening_state plan) ≡ opening_state plan
  nodes_stand = λ j q. stand_at q (slice_get nodes (node_in q)) refl j

-- the sources
zeros : (n k : ℕ) → slice_index (replicate n 0) k ≡ 0
zeros zero k = refl
zeros (suc n) zero = refl
zeros (suc n) (suc k) = zeros n k

-- the sinks
module _ (plan : Plan) (first : ℕ) (sinks : List Sink) (h : AreEmpty plan.sinks first sinks) where
  kept_there : (k : ℕ) (o : Option SinkPlan) → slice_get plan.sinks k ≡ o
      → kept_by o (slice_get sinks k) ≡ AreKept (capacity_of o) []
  kept_there k None at = refl
  kept_there k (Some p) at =
      let (s, there) = at_low sinks k (omega (arith, slice_get_within plan.sinks k p at, h.many)) in
      let (room, none, place) = h.sinks k p s at there in
      ap (kept_by (Some p)) there
      ∙ ap (λ (r : ℕ). AreKept r (map (λ m. m.items) s.messages.items)) room
      ∙ ap (λ ms. AreKept p.capacity (map (λ m. m.items) ms)) none

  kept_if : (t : Bool) (k : ℕ)
      → kept_by (if t then slice_get plan.sinks k else None) (slice_get sinks k)
      ≡ AreKept (capacity_of (if t then slice_get plan.sinks k else None)) []
  kept_if true k = kept_there k (slice_get plan.sinks k) refl
  kept_if false k = refl

  scripts_at : (n : ℕ) (q : Place)
      → with_scripts plan (replicate n 0) sinks (opening_state plan) q ≡ opening_state plan q
  scripts_at n (Messages e) =
      ap (λ (k : ℕ). AreMessages (drop k (messages_of (source_at plan e)))) (zeros n (e.node - length plan.nodes))
  scripts_at n (Kept e) =
      kept_if ((e.link == 0) && nat_le (length plan.nodes + length plan.sources) e.node)
      (e.node - (length plan.nodes + length plan.sources))
  scripts_at n q = refl

  pub opens_so : (nodes : List Node) (n : ℕ) → at_nodes nodes (opening_state plan) ≡ opening_state plan
      → state_of plan nodes (replicate n 0) sinks ≡ opening_state plan
  opens_so nodes n stand = ap (with_scripts plan (replicate n 0) sinks) stand ∙ (λ j q. scripts_at n q j)

-- numbers before any agent has come
abbrev no_number : AgentNumbers
no_number a = 0

-- the check
module _ (plan : Plan) (places : Places) (nodes : List Node) (count : ℕ)
    (numbers : (k : ℕ) (n : Node) → slice_get nodes k ≡ Some n → n.words.number ≡ k) (found : List Agent)
    (there : All (IsThere nodes) found) (apart : AreApart (λ (a : Agent). a) found) where
  abbrev so_far : ℕ → Type 0
  so_far k =
      (group : AgentNumbers) × IsFollowed plan places group (map (agent_of nodes) (take k found)) []
      (with_agents k (with_places count nothing_checked)) (opening_state plan)

  there_first : (k : ℕ) → All (IsThere nodes) (take k found)
  there_first k = λ i d low.
      let at : slice_get (take k found) i ≡ Some (get_or (take k found) i d) =
      slice_get-get_or (take k found) i d low in
      let (below, is) = among_first found k i (get_or (take k found) i d) at in
      subst (IsThere nodes) (get_or_from_slice_get found i (get_or (take k found) i d) d is)
      (there i d (slice_get_within found i (get_or (take k found) i d) is))

  pub followed : (k : ℕ) → k ≤ length found → so_far k
  followed zero low = (
    no_number,
    places_may_come plan places places no_number [] [] nothing_checked (opening_state plan) count
        (following_begins plan places no_number) (λ p h. refl),
  )
  followed (suc k) low = by (followed k (omega (arith, low))) (at_low found k (omega (arith, low)))
    where
      by : so_far k → (a : Agent) × (slice_get found k ≡ Some a) → so_far (suc k)
      by (group, rest) (a, at) = (
        come.group,
        subst (λ agents. IsFollowed plan places come.group agents []
            (with_agents (suc k) (with_places count nothing_checked)) (opening_state plan))
            (sym (ap (map (agent_of nodes)) (take-suc found k a (omega (arith, low))
            ∙ ap (λ (x : Agent). take k found ++ x ∷ []) (get_or_from_slice_get found k a a at))
            ∙ map-append (agent_of nodes) (take k found) (a ∷ []))) come.followed,
      )
        where
          come : laws.HasCome plan places group (map (agent_of nodes) (take k found) ++ agent_of nodes a ∷ []) []
              (with_agents (suc k) (with_places count nothing_checked)) (opening_state plan)
          come =
              agents_may_come plan places group (map (agent_of nodes) (take k found)) []
              (with_agents k (with_places count nothing_checked)) (opening_state plan) (agent_of nodes a) rest
              (agent_new nodes numbers (take k found) a (there_first k)
              (subst (IsThere nodes) (get_or_from_slice_get found k a a at) (there k a (omega (arith, low))))
              (λ i b is same.
              let (below, real) = among_first found k i b is in
              let one : i ≡ k = apart i k b a real at same in absurd (omega (arith, below, one))))
              (all_live plan (agent_of nodes a))

  pub all_followed : (group : AgentNumbers) × IsFollowed plan places group (map (agent_of nodes) found) []
      (first_check count (length found)) (opening_state plan)
  all_followed =
      subst (λ (xs : List Agent). (group : AgentNumbers) × IsFollowed plan places group (map (agent_of nodes) xs) []
      (first_check count (length found)) (opening_state plan)) (take-length found)
      (followed (length found) (omega arith))

-- the first of two lists, and one of those below a number
take_before : {X : Type 0} (xs ys : List X) (j : ℕ) → j ≤ length xs → take j (xs ++ ys) ≡ take j xs
take_before [] ys zero low = refl
take_before [] ys (suc j) low = absurd (omega (arith, low))
take_before (x ∷ xs) ys zero low = refl
take_before (x ∷ xs) ys (suc j) low = ap (λ (zs : List _). x ∷ zs) (take_before xs ys j (omega (arith, low)))

in_first : {X : Type 0} (xs : List X) (k j : ℕ) (x : X) → j < k → slice_get xs j ≡ Some x
    → slice_get (take k xs) j ≡ Some x
in_first [] k j x low e = cc
in_first (y ∷ ys) zero j x low e = absurd (omega (arith, low))
in_first (y ∷ ys) (suc k) zero x low e = e
in_first (y ∷ ys) (suc k) (suc j) x low e = in_first ys k j x (omega (arith, low)) e

-- one more node
pub node_opened : (plans : List NodePlan) (opened new : List Node) (k : ℕ) (plan : NodePlan) (node : Node)
    → slice_get plans k ≡ Some plan → AreOpen (take k plans) opened → IsOpen plan k (fresh_after opened) node
    → new ≡ opened ++ node ∷ [] → AreOpen (take (k + 1) plans) new
node_opened plans opened new k plan node there h is more =
    record {
      many = ap length more ∙ length-append opened (node ∷ []) ∙ ap (λ (n : ℕ). n + 1) count
          ∙ sym (length-take-le (k + 1) plans (omega (arith, low)));
      nodes = λ j p n at found. by j p n at found (among_first plans (k + 1) j p at) (cases_eq k j);
    }
  where
    low : k < length plans
    low = slice_get_within plans k plan there

    count : length opened ≡ k
    count = h.many ∙ length-take-le k plans (omega (arith, low))

    first : (j : ℕ) → j ≤ k → take j new ≡ take j opened
    first j below = ap (take j) more ∙ take_before opened (node ∷ []) j (omega (arith, below, count))

    by : (j : ℕ) (p : NodePlan) (n : Node) → slice_get (take (k + 1) plans) j ≡ Some p → slice_get new j ≡ Some n
        → (j < k + 1) × (slice_get plans j ≡ Some p) → (k ≡ j) ⊎ (k ≡ j → ⊥) → IsOpen p j (fresh_after (take j new)) n
    by j p n at found (below, here) (inl e) =
        let same : plan ≡ p = same_Some plan p (sym there ∙ ap (λ (i : ℕ). slice_get plans i) e ∙ here) in
        let own : node ≡ n = same_Some node n (sym (get_pushed opened node)
        ∙ ap (λ (i : ℕ). slice_get (opened ++ node ∷ []) i) (count ∙ e)
        ∙ ap (λ (xs : List Node). slice_get xs j) (sym more) ∙ found) in
        let all : opened ≡ take j new =
        sym (first j (omega (arith, e)) ∙ ap (λ (i : ℕ). take i opened) (sym (count ∙ e)) ∙ take-length opened) in
        subst (λ (a : NodePlan). IsOpen a j (fresh_after (take j new)) n) same
        (subst (λ (a : Node). IsOpen plan j (fresh_after (take j new)) a) own
        (subst (λ (xs : List Node). IsOpen plan j (fresh_after xs) node) all
        (subst (λ (i : ℕ). IsOpen plan i (fresh_after opened) node) e is)))
    by j p n at found (below, here) (inr ne) =
        let under : j < k = omega (arith, below, ne) in
        subst (λ (xs : List Node). IsOpen p j (fresh_after xs) n) (sym (first j (omega (arith, under))))
        (h.nodes j p n (in_first plans k j p under here)
        (sym (get_else opened node j (λ e. absurd (omega (arith, e, count, under))))
        ∙ ap (λ (xs : List Node). slice_get xs j) (sym more) ∙ found))

-- numbers from 0 on
pub range_more : (a n : ℕ) → range_with_len a (suc n) ≡ range_with_len a n ++ (a + n) ∷ []
range_more a zero = let is : a ≡ a + 0 = omega arith in ap (λ (m : ℕ). m ∷ []) is
range_more a (suc n) =
    let is : a + 1 + n ≡ a + suc n = omega arith in
    ap (λ (xs : List ℕ). a ∷ xs) (range_more (a + 1) n ∙ ap (λ (m : ℕ). range_with_len (a + 1) n ++ m ∷ []) is)

pub number_more : (xs : List ℕ) (k : ℕ) → xs ≡ range_with_len 0 k → xs ++ k ∷ [] ≡ range_with_len 0 (k + 1)
number_more xs k e =
    let is : suc k ≡ k + 1 = omega arith in let zero_first : k ≡ 0 + k = omega arith in
    ap (λ (ys : List ℕ). ys ++ k ∷ []) e ∙ ap (λ (m : ℕ). range_with_len 0 k ++ m ∷ []) zero_first
    ∙ sym (range_more 0 k) ∙ ap (range_with_len 0) is

-- agents leave the places of a check as they are
places_stay : (n : ℕ) (check : Check) → (with_agents n check).places ≡ check.places
places_stay zero check = refl
places_stay (suc n) check = places_stay n check

all_below : (n : ℕ) → All (λ (k : ℕ). k < n) (range_with_len 0 n)
all_below n k d low =
    let below : k < n = omega (arith, low, length-range_with_len 0 n) in
    omega (arith, below, get_or-range_with_len 0 n k d below)

-- the places of sinks
pub sinks_numbered : (plan : Plan) (m : Machine) → HasPlacesInOrder plan m → (k : ℕ) (s : Sink)
    → slice_get m.sinks.items k ≡ Some s → s.place ≡ m.first_script + (length plan.nodes + length plan.sources + k)
sinks_numbered plan m h k s at =
    let (p, there) = at_low plan.sinks k (omega (arith, slice_get_within m.sinks.items k s at, h.sinks.many)) in
    let (room, none, place) = h.sinks.sinks k p s there at in omega (arith, place)

-- all of the machine
pub at_start : (plan : Plan) (m : Machine) → HasPlacesInOrder plan m
    → m.sent.items ≡ replicate (length plan.sources) 0 → m.wires ≡ all_wires plan
    → AreAgents (all_wires plan) m.nodes.items m.agents.items
    → m.check ≡ first_check m.fresh_place (length m.agents.items) → AllMayHaveSteps m → m.fresh_place < 2 ^ 32
    → 0 ≡ m.done → m.last ≡ None → AreFirstLodgings m.nodes.items m.lodgings.items → IsAtStart plan m
at_start plan m laid sent wires agents check candidates few none no_step lodgings =
    record {
      opens = opens;
      nothing = record {
        count = none;
        sound = record {
          nodes = nodes_of plan m.nodes.items laid.nodes;
          sent = ap length sent ∙ length-replicate (length plan.sources) 0;
          sinks = laid.sinks.many;
          wires = wires;
          found = all_found plan m.nodes.items m.agents.items agents;
          there = found_there plan m.nodes.items m.agents.items agents;
          candidates = subst (All (λ (k : ℕ). k < length m.agents.items)) (sym candidates)
              (all_below (length m.agents.items));
          places = ap (λ (c : Check). length c.places) check
              ∙ ap length (places_stay (length m.agents.items) (with_places m.fresh_place nothing_checked))
              ∙ length-replicate m.fresh_place [];
          few = few;
          kept_places = sinks_numbered plan m laid;
        };
        group = all.0;
        followed =
            subst (λ (c : Check). IsFollowed plan (places m) all.0 (agents_of m) [] c (machine_at plan m)) (sym check)
            (subst (IsFollowed plan (places m) all.0 (agents_of m) []
            (first_check m.fresh_place (length m.agents.items))) (sym opens) all.1);
        housed = all_first plan m all.0 (nodes_of plan m.nodes.items laid.nodes).numbers opens lodgings;
        own = λ j n is. absurd (none-some (record { number = j; node = n }) (sym no_step ∙ is));
      };
    }
  where
    all : (group : AgentNumbers) × IsFollowed plan (places m) group (agents_of m) []
        (first_check m.fresh_place (length m.agents.items)) (opening_state plan)
    all =
        all_followed plan (places m) m.nodes.items m.fresh_place (nodes_of plan m.nodes.items laid.nodes).numbers
        m.agents.items (found_there plan m.nodes.items m.agents.items agents)
        (found_apart plan m.nodes.items m.agents.items agents)

    opens : machine_at plan m ≡ opening_state plan
    opens =
        ap (λ (xs : List ℕ). state_of plan m.nodes.items xs m.sinks.items) sent
        ∙ opens_so plan (m.first_script + (length plan.nodes + length plan.sources)) m.sinks.items laid.sinks
        m.nodes.items (length plan.sources) (nodes_stand plan m.nodes.items laid.nodes)
