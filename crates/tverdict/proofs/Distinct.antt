-- Agents that the program has found are apart as agents of the machine.
use Rattle.std.proofs.Common.{◌≡◌, ◌<◌, ℕ, inl, inr, refl, sym, ap, ◌∙◌, subst, List, Option, Some, None, All}
use Rattle.std.proofs.Common.{arith, length}
use Rattle.std.specs.Prelude.{map, option_map, slice_get, unwrap_or}
use Rattle.std.proofs.lemmas.Option.{same_Some, slice_get_cases, slice_get-map}
use Rattle.tprocesses.specs.Places.{Name}
use Rattle.tprocesses.specs.Machine as machine
use Rattle.tcertify.specs.declared.channel.Channel.{Channel}
use Rattle.tcertify.specs.declared.node.Node.{Node}
use Rattle.tcertify.specs.declared.process.Process.{Process}
use Rattle.tcertify.specs.Finding.{IsFound}
use Rattle.tcertify.specs.Processes.{name_of}
use Rattle.tcertify.proofs.NodeStands.{name_is}
use Rattle.tfollow.specs.Numbering.{HasNumber, IsNew, number_in}
use Rattle.tfollow.proofs.Numbered.{new-nowhere, number-there, some_plan, there-or-not}
use Rattle.tverdict.specs.declared.agent.Agent.{Agent}
use Rattle.tverdict.specs.declared.agent.Agent.TheVariants as agent
use Rattle.tverdict.specs.Agents.{HasChannel, HasProcess, IsThere, address_there, agent_of, name_there}
use Rattle.tverdict.proofs.Ended.{all_at}
use Rattle.tverdict.proofs.Staying.{address_or, name_or}

-- an element below the length
pub at_low : {X : Type 0} (xs : List X) (k : ℕ) → k < length xs → (x : X) × (slice_get xs k ≡ Some x)
at_low xs k low = elim (slice_get_cases xs k).1 [
  | inl (x, within, at, g) ↦ (x, at)
  | inr (past, none) ↦ absurd (omega (arith, low, past))
]

-- whoever stands in the list is not new
pub not_new : (agents : List machine.Agent) (a : machine.Agent) (k : ℕ) → HasNumber agents a k → IsNew agents a → ⊥
not_new agents a k at new = new-nowhere some_plan agents a k new at

-- and whoever stands nowhere is
pub others_new : (agents : List machine.Agent) (a : machine.Agent)
    → ((k : ℕ) (b : machine.Agent) → HasNumber agents b k → b ≡ a → ⊥) → IsNew agents a
others_new agents a others = elim (there-or-not some_plan agents a) as (λ _. IsNew agents a) [
  | inl there ↦ absurd (others (number_in agents a) a (number-there some_plan agents a there) refl)
  | inr new ↦ new
]

module _ (nodes : List Node)
    (numbers : (k : ℕ) (n : Node) → slice_get nodes k ≡ Some n → n.words.number ≡ k) where
  -- the name of a process of a node
  pub name_known : (n k : ℕ) (node : Node) (p : Process) → slice_get nodes n ≡ Some node
      → slice_get node.processes.items.items k ≡ Some p → name_there nodes n k ≡ name_of n p
  name_known n k node p there at =
      ap (name_or n k) there ∙ name_is node k p at ∙ ap (λ (j : ℕ). name_of j p) (numbers n node there)

  address_known : (n k : ℕ) (node : Node) (c : Channel) → slice_get nodes n ≡ Some node
      → slice_get node.channels.items.items k ≡ Some c → address_there nodes n k ≡ c.address
  address_known n k node c there at =
      ap (address_or k) there
      ∙ ap (λ (o : Option ℕ). unwrap_or o 0)
      (slice_get-map (λ (x : Channel). x.address) node.channels.items.items k
      ∙ ap (option_map (λ (x : Channel). x.address)) at)

  process_apart : (n k m l : ℕ) → HasProcess nodes n k → HasProcess nodes m l
      → name_there nodes n k ≡ name_there nodes m l → (n ≡ m) × (k ≡ l)
  process_apart n k m l (x, there, low) (y, beside, high) same =
      let (p, at) = at_low x.processes.items.items k low in
      let (q, by) = at_low y.processes.items.items l high in
      let names : name_of n p ≡ name_of m q =
      sym (name_known n k x p there at) ∙ same ∙ name_known m l y q beside by in
      let one : n ≡ m = ap (λ (z : Name). z.node) names in
      let node : y ≡ x = same_Some y x (sym beside ∙ ap (λ (j : ℕ). slice_get nodes j) (sym one) ∙ there) in (
        one,
        x.processes.apart k l p q at
            (ap (λ (z : Node). slice_get z.processes.items.items l) (sym node) ∙ by)
            (ap (λ (z : Name). record z { node = 0 }) names),
      )

  channel_apart : (n k l : ℕ) → HasChannel nodes n k → HasChannel nodes n l
      → address_there nodes n k ≡ address_there nodes n l → k ≡ l
  channel_apart n k l (x, there, low) (y, beside, high) same =
      let (c, at) = at_low x.channels.items.items k low in
      let (d, by) = at_low y.channels.items.items l high in
      let node : y ≡ x = same_Some y x (sym beside ∙ there) in
      x.channels.apart k l c d at (ap (λ (z : Node). slice_get z.channels.items.items l) (sym node) ∙ by)
      (sym (address_known n k x c there at) ∙ same ∙ address_known n l y d beside by)

  -- two agents that are there are the same if they are the same agent of the machine
  pub agents_apart : (a b : Agent) → IsThere nodes a → IsThere nodes b → agent_of nodes a ≡ agent_of nodes b → a ≡ b
  agents_apart (agent.Process n k) (agent.Process m l) h g e =
      let name : name_there nodes n k ≡ name_there nodes m l = cc in
      let (one, other) = process_apart n k m l h g name in
      (λ i. agent.Process (one i) (other i))
  agents_apart (agent.Channel n k) (agent.Channel m l) h g e =
      let one : n ≡ m = cc in
      let address : address_there nodes n k ≡ address_there nodes m l = cc in
      let other : k ≡ l = channel_apart n k l h (subst (λ (j : ℕ). HasChannel nodes j l) (sym one) g)
      (address ∙ ap (λ (j : ℕ). address_there nodes j l) (sym one)) in
      (λ i. agent.Channel (one i) (other i))
  agents_apart (agent.Wire e) (agent.Wire f) h g same = cc
  agents_apart (agent.Successor n k) (agent.Successor m l) h g same = cc
  agents_apart a b h g e = cc

  -- one that was not found is new
  pub agent_new : (found : List Agent) (a : Agent) → All (IsThere nodes) found → IsThere nodes a
      → IsFound (λ (x : Agent). x) a found None → IsNew (map (agent_of nodes) found) (agent_of nodes a)
  agent_new found a all there none = others_new (map (agent_of nodes) found) (agent_of nodes a) others
    where
      by : (k : ℕ) (b : machine.Agent) (o : Option Agent) → slice_get found k ≡ o
          → option_map (agent_of nodes) o ≡ Some b → b ≡ agent_of nodes a → ⊥
      by k b None is at same = cc
      by k b (Some x) is at same =
          none k x is (agents_apart x a (all_at (IsThere nodes) found all k x is) there
          (same_Some (agent_of nodes x) b at ∙ same))

      others : (k : ℕ) (b : machine.Agent) → HasNumber (map (agent_of nodes) found) b k → b ≡ agent_of nodes a → ⊥
      others k b has same = by k b (slice_get found k) refl (sym (slice_get-map (agent_of nodes) found k) ∙ has) same
