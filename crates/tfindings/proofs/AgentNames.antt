-- The agents that the program has, by the names of the machine.
use Rattle.std.proofs.Common.{◌≡◌, ◌<◌, ℕ, refl, sym, ap, ◌∙◌, List, [], get_or, subst, Option, Some}
use Rattle.std.proofs.Common.{None, true, length}
use Rattle.std.proofs.Common.{arith, ltb-true}
use Rattle.std.specs.Prelude.{nat_lt, option_map, slice_get, unwrap_or}
use Rattle.std.proofs.lemmas.Option.{slice_get-map, get_or_from_slice_get, slice_get-get_or}
use Rattle.tprocesses.specs.Places.{Name, Image}
use Rattle.tcertify.specs.declared.channel.Channel.{Channel}
use Rattle.tcertify.specs.declared.node.Node.{Node}
use Rattle.tcertify.specs.declared.process.Process.{Process}
use Rattle.tcertify.specs.Nodes.{name_at, address_at}
use Rattle.tcertify.specs.Processes.{name_of}
use Rattle.tverdict.specs.declared.agent.Agent.{Agent}
use Rattle.tverdict.specs.declared.agent.Agent.TheVariants as agent
use Rattle.tverdict.specs.Agents.{HasChannel, HasProcess, IsThere, name_there, address_there}
use Rattle.tfindings.specs.Agents.{AreNumbered, count_at, is_there}

abbrev no_name : ℕ → Name
no_name n = record { node = n; root = Image 0; path = [] }

-- a process, by its name
pub process_named : (nodes : List Node) (n k : ℕ) (node : Node) (p : Process) → slice_get nodes n ≡ Some node
    → slice_get node.processes.items.items k ≡ Some p → name_there nodes n k ≡ name_of node.words.number p
process_named nodes n k node p h i =
    ap (λ (o : Option Node). unwrap_or (option_map (λ m. name_at m k) o) (no_name n)) h
    ∙ ap (λ (o : Option Name). unwrap_or o (no_name 0))
    (slice_get-map (name_of node.words.number) node.processes.items.items k)
    ∙ ap (λ (o : Option Process). unwrap_or (option_map (name_of node.words.number) o) (no_name 0)) i

-- a channel, by its address
pub channel_named : (nodes : List Node) (n k : ℕ) (node : Node) (c : Channel) → slice_get nodes n ≡ Some node
    → slice_get node.channels.items.items k ≡ Some c → address_there nodes n k ≡ c.address
channel_named nodes n k node c h i =
    ap (λ (o : Option Node). unwrap_or (option_map (λ m. address_at m k) o) 0) h
    ∙ ap (λ (o : Option ℕ). unwrap_or o 0) (slice_get-map (λ d. d.address) node.channels.items.items k)
    ∙ ap (λ (o : Option Channel). unwrap_or (option_map (λ d. d.address) o) 0) i

-- the same as the code finds them: by the numbers of the node and of the process or channel
pub process_there : (nodes : List Node) (n k : ℕ) (d : Node) (e : Process) → AreNumbered nodes → HasProcess nodes n k
    → name_of n (get_or (get_or nodes n d).processes.items.items k e) ≡ name_there nodes n k
process_there nodes n k d e numbered (node, there, within) =
    let found : get_or nodes n d ≡ node = get_or_from_slice_get nodes n node d there in
    ap (λ (m : Node). name_of n (get_or m.processes.items.items k e)) found
    ∙ ap (λ (m : ℕ). name_of m (get_or node.processes.items.items k e)) (sym (numbered n node there))
    ∙ sym (process_named nodes n k node (get_or node.processes.items.items k e) there
    (slice_get-get_or node.processes.items.items k e within))

pub channel_there : (nodes : List Node) (n k : ℕ) (d : Node) (e : Channel) → HasChannel nodes n k
    → (get_or (get_or nodes n d).channels.items.items k e).address ≡ address_there nodes n k
channel_there nodes n k d e (node, there, within) =
    let found : get_or nodes n d ≡ node = get_or_from_slice_get nodes n node d there in
    ap (λ (m : Node). (get_or m.channels.items.items k e).address) found
    ∙ sym (channel_named nodes n k node (get_or node.channels.items.items k e) there
    (slice_get-get_or node.channels.items.items k e within))

-- what tells that there is one, of an agent that is told by its kind
pub as_process : (nodes : List Node) (a : Agent) (n k : ℕ) → a ≡ agent.Process n k → IsThere nodes a
    → HasProcess nodes n k
as_process nodes a n k e there = subst (IsThere nodes) e there

pub as_channel : (nodes : List Node) (a : Agent) (n k : ℕ) → a ≡ agent.Channel n k → IsThere nodes a
    → HasChannel nodes n k
as_channel nodes a n k e there = subst (IsThere nodes) e there

-- a node has more things than this one
has_at : (count : Node → ℕ) (nodes : List Node) (n k : ℕ) → nat_lt k (count_at count nodes n) ≡ true
    → (node : Node) × (slice_get nodes n ≡ Some node) × (k < count node)
has_at count nodes n k e = by (slice_get nodes n) refl
  where
    by : (o : Option Node) → slice_get nodes n ≡ o → (node : Node) × (slice_get nodes n ≡ Some node) × (k < count node)
    by (Some node) at = (
      node,
      at,
      ltb-true k (count node) (sym (ap (λ (o : Option Node). nat_lt k (unwrap_or (option_map count o) 0)) at) ∙ e),
    )
    by None at =
        let low : k < 0 =
        ltb-true k 0 (sym (ap (λ (o : Option Node). nat_lt k (unwrap_or (option_map count o) 0)) at) ∙ e) in
        absurd (omega (arith, low))

-- what is tested to be there is
pub there_is : (nodes : List Node) (a : Agent) → is_there nodes a ≡ true → IsThere nodes a
there_is nodes (agent.Process n k) e = has_at (λ node. length node.processes.items.items) nodes n k e
there_is nodes (agent.Channel n k) e = has_at (λ node. length node.channels.items.items) nodes n k e
there_is nodes (agent.Wire f) e = tt
there_is nodes (agent.Successor n k) e = has_at (λ node. length node.words.items.items) nodes n k e
