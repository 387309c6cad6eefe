-- Processes that have ended.
use Rattle.std.proofs.Common.{◌≡◌, ℕ, sym, ap, ◌∙◌, subst, true, List, [], ◌∷◌, Option, Some, None, Ok}
use Rattle.std.specs.Prelude.{slice_get}
use Rattle.std.proofs.lemmas.Option.{slice_get_within}
use Rattle.tplan.specs.declared.plan.NodePlan.{NodePlan}
use Rattle.tplan.specs.declared.plan.Plan.{Plan}
use Rattle.tplan.specs.declared.plan.Process as planned
use Rattle.tagents.specs.Walks.{are_open, label_of}
use Rattle.tprocesses.specs.Opening.{opened_stand, opening_state}
use Rattle.tprocesses.specs.Opening as opening
use Rattle.tprocesses.specs.Places.{Name, Root, Image, After, Standing}
use Rattle.tprocesses.specs.Values as value
use Rattle.tprocesses.specs.Values.{stand_in}
use Rattle.tprocesses.specs.Machine as machine
use Rattle.tprocesses.specs.Machine.{process_machine, step_of}
use Rattle.tcertify.specs.declared.node.Node.{Node}
use Rattle.tcertify.specs.declared.process.Process.{Process}
use Rattle.tcertify.specs.Running.{State, run_part}
use Rattle.tcertify.specs.Standing.{stand_of}
use Rattle.tprocesses.proofs.EndedStay.{ended_stay_ended}
use Rattle.tfollow.specs.Following.{HasEnded}
use Rattle.tfollow.proofs.Stepping.{does, goes}
use Rattle.tverdict.specs.declared.agent.Agent.{Agent}
use Rattle.tverdict.specs.declared.agent.Agent.TheVariants as agent
use Rattle.tverdict.specs.declared.machine.Machine.{Machine}
use Rattle.tverdict.specs.Agents.{IsEnded, IsThere, agent_of, name_there}
use Rattle.tverdict.specs.Machines.{machine_at}
use Rattle.tverdict.specs.Passing.{NodesGrow}
use Rattle.tverdict.proofs.Distinct.{at_low, name_known}
use Rattle.tverdict.proofs.Housed.{ended_so, stand_at}
use Rattle.tverdict.proofs.Staying.{agent_stays, there_stays}

module _ (plan : Plan) (m : Machine)
    (numbers : (k : ℕ) (x : Node) → slice_get m.nodes.items k ≡ Some x → x.words.number ≡ k) where
  -- where a process of a node stands
  process_stands : (n k : ℕ) (node : Node) (p : Process) → slice_get m.nodes.items n ≡ Some node
      → slice_get node.processes.items.items k ≡ Some p
      → stand_in (machine_at plan m (Standing (name_there m.nodes.items n k))) ≡ stand_of p.stand
  process_stands n k node p there at =
      ap (λ (x : Name). stand_in (machine_at plan m (Standing x)))
      (name_known m.nodes.items numbers n k node p there at)
      ∙ stand_at m.nodes.items n node there (numbers n node there) plan m.sent.items m.sinks.items k p at

  -- a process that has ended has so in the state of the machine
  pub ended_is : (a : Agent) → IsEnded m.nodes.items a → HasEnded (agent_of m.nodes.items a) (machine_at plan m)
  ended_is (agent.Process n k) h =
      process_stands n k h.node h.known h.there h.has ∙ ap stand_of h.ended
  ended_is (agent.Channel n k) h = absurd h
  ended_is (agent.Wire e) h = absurd h
  ended_is (agent.Successor n k) h = absurd h

  -- and the other way round
  pub is_ended : (a : Agent) → IsThere m.nodes.items a → HasEnded (agent_of m.nodes.items a) (machine_at plan m)
      → IsEnded m.nodes.items a
  is_ended (agent.Process n k) (node, there, low) h =
      let (p, at) = at_low node.processes.items.items k low in
      record {
        node = node;
        there = there;
        known = p;
        has = at;
        ended = ended_so p.stand (sym (process_stands n k node p there at) ∙ h);
      }
  is_ended (agent.Channel n k) there h = absurd h
  is_ended (agent.Wire e) there h = absurd h
  is_ended (agent.Successor n k) there h = absurd h

-- a process that has ended is there
pub ended_there : (nodes : List Node) (a : Agent) → IsEnded nodes a → IsThere nodes a
ended_there nodes (agent.Process n k) h =
    (h.node, h.there, slice_get_within h.node.processes.items.items k h.known h.has)
ended_there nodes (agent.Channel n k) h = absurd h
ended_there nodes (agent.Wire e) h = absurd h
ended_there nodes (agent.Successor n k) h = absurd h

-- a process that has ended in a state has so after each step
ended_on : (plan : Plan) (a b : machine.Agent) (s s' : State) → run_part (step_of plan a) s ≡ (Ok tt, s')
    → are_open (process_machine plan) a s ≡ true → HasEnded b s → HasEnded b s'
ended_on plan a (machine.Process x) s s' runs opened h =
    ended_stay_ended plan s s' (label_of (process_machine plan) a s) x (does plan a s s' runs opened)
    (goes plan a s s' runs) h
ended_on plan a (machine.Channel n c) s s' runs opened h = absurd h
ended_on plan a (machine.Wire e) s s' runs opened h = absurd h
ended_on plan a (machine.Successor n k) s s' runs opened h = absurd h

-- so it has at its node
pub ended_stays : (plan : Plan) (m m' : Machine)
    → ((k : ℕ) (x : Node) → slice_get m.nodes.items k ≡ Some x → x.words.number ≡ k)
    → ((k : ℕ) (x : Node) → slice_get m'.nodes.items k ≡ Some x → x.words.number ≡ k)
    → NodesGrow m.nodes.items m'.nodes.items → (a : machine.Agent)
    → run_part (step_of plan a) (machine_at plan m) ≡ (Ok tt, machine_at plan m')
    → are_open (process_machine plan) a (machine_at plan m) ≡ true → (b : Agent) → IsEnded m.nodes.items b
    → IsEnded m'.nodes.items b
ended_stays plan m m' numbers numbers' g a runs opened b h =
    let there : IsThere m.nodes.items b = ended_there m.nodes.items b h in
    is_ended plan m' numbers' b (there_stays m.nodes.items m'.nodes.items g b there)
    (subst (λ (c : machine.Agent). HasEnded c (machine_at plan m'))
    (sym (agent_stays m.nodes.items m'.nodes.items g b there))
    (ended_on plan a (agent_of m.nodes.items b) (machine_at plan m) (machine_at plan m') runs opened
    (ended_is plan m numbers b h)))

-- before the first step no process has ended
opened_lives : (o : Option planned.Process) → opened_stand o ≡ value.Ended → ⊥
opened_lives None e = cc
opened_lives (Some p) e = cc

stands_first : (r : Root) (path : List ℕ) (n : NodePlan) → opening.stand_of r path n ≡ value.Ended → ⊥
stands_first (Image k) [] n e = opened_lives (slice_get n.image.processes k) e
stands_first (Image k) (c ∷ path) n e = cc
stands_first (After w k) path n e = cc

first_lives : (x : Name) (o : Option NodePlan)
    → elim o [ Some p ↦ opening.stand_of x.root x.path p | None ↦ value.Absent ] ≡ value.Ended → ⊥
first_lives x None e = cc
first_lives x (Some p) e = stands_first x.root x.path p e

pub all_live : (plan : Plan) (a : machine.Agent) → HasEnded a (opening_state plan) → ⊥
all_live plan (machine.Process x) h = first_lives x (slice_get plan.nodes x.node) h
all_live plan (machine.Channel n c) h = h
all_live plan (machine.Wire e) h = h
all_live plan (machine.Successor n k) h = h
