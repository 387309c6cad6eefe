-- Who has a step, by what the nodes have.
use Rattle.std.proofs.Common.{◌≡◌, ◌<◌, ℕ, refl, sym, ap, ◌∙◌, subst, Bool, true, false, List, [], Option, Some}
use Rattle.std.proofs.Common.{IsTrue, length}
use Rattle.std.proofs.lemmas.List.{length-map}
use Rattle.std.proofs.lemmas.Option.{same_Some, slice_get-map, slice_get_within}
use Rattle.std.specs.Prelude.{◌==◌, ◌&&◌, ◌↔◌, find, slice_get, unwrap_or, option_map}
use Rattle.std.proofs.lemmas.Bool.{eq-eqb, eqb-true, false≢true}
use Rattle.tagents.specs.Walks.{are_open}
use Rattle.tplan.specs.declared.plan.Plan.{Plan}
use Rattle.tproc.specs.declared.channels.Side.TheVariants.{Input, Output}
use Rattle.tprocesses.specs.Machine as machine
use Rattle.tprocesses.specs.Machine.{Process, Channel, Successor, process_machine, is_ready, is_met_at}
use Rattle.tprocesses.specs.Machine.{awaits_successor}
use Rattle.tprocesses.specs.Places.{Name, Image, Standing, Half, WordAt}
use Rattle.tprocesses.specs.Values.{Value, Holder, half_in, stand_in}
use Rattle.tcertify.specs.declared.channel.Channel as stored
use Rattle.tcertify.specs.declared.node.Node.{Node}
use Rattle.tcertify.specs.declared.process.Process as kept
use Rattle.tcertify.specs.declared.side.Side.TheVariants as side
use Rattle.tcertify.specs.declared.stored.StoredWord.{StoredWord}
use Rattle.tcertify.specs.Channels.{holder_of, held_half}
use Rattle.tcertify.specs.Nodes.{name_at, names, address_at}
use Rattle.tcertify.specs.Running.{State}
use Rattle.tcertify.specs.Standing.{stand_of}
use Rattle.tcertify.specs.Words.{use_of, word_of, word_or}
use Rattle.tcertify.proofs.Found.{find_apart}
use Rattle.tcertify.proofs.NodeStands.{stand_seen}
use Rattle.tfollow.proofs.Opened.{agents_are_open_by}
use Rattle.tcertify.specs.declared.sink.Sink.{Sink}
use Rattle.tfollow.specs.Numbering.{HasNumber}
use Rattle.tverdict.specs.declared.agent.Agent.{Agent}
use Rattle.tverdict.specs.declared.machine.Machine.{Machine}
use Rattle.tverdict.specs.Agents.{agent_of, name_there, address_there}
use Rattle.tverdict.specs.Apart.{IsApart}
use Rattle.tverdict.specs.Machines.{HasStep, agents, machine_at, state_of}
use Rattle.tverdict.proofs.Frames.{nodes_are_apart, chosen}

module _ (plan : Plan) (nodes : List Node) (sent : List ℕ) (sinks : List Sink) (n : ℕ) (node : Node)
    (there : slice_get nodes n ≡ Some node) (numbered : node.words.number ≡ n) where
  abbrev now : State
  now = state_of plan nodes sent sinks

  apart : IsApart plan nodes sent sinks n node
  apart = nodes_are_apart plan nodes sent sinks n node there numbered

  pub name_known : (k : ℕ) → name_there nodes n k ≡ name_at node k
  name_known k =
      ap (λ (o : Option Node). unwrap_or (option_map (λ a. name_at a k) o)
      (record { node = n; root = Image 0; path = [] })) there

  pub process_open : (k : ℕ) (p : kept.Process) → slice_get node.processes.items.items k ≡ Some p
      → are_open (process_machine plan) (Process (name_there nodes n k)) now ≡ is_ready (stand_of p.stand)
  process_open k p at =
      (agents_are_open_by plan now).process (name_there nodes n k)
      ∙ ap (λ (x : Name). is_ready (stand_in (now (Standing x)))) (name_known k)
      ∙ ap (λ (v : Value). is_ready (stand_in v))
      (ap (λ (s : State). s (Standing (name_at node k))) (sym apart.before) ∙ stand_seen node k p at apart.rest)

  pub successor_open : (k : ℕ) (w : StoredWord) → slice_get node.words.items.items k ≡ Some w
      → are_open (process_machine plan) (Successor n k) now ≡ awaits_successor (use_of w.used)
  successor_open k w at =
      (agents_are_open_by plan now).successor n k (word_of w)
      (ap (λ (s : State). s (WordAt n k)) (sym apart.before)
      ∙ chosen (node.words.number == n) _ _ (eq-eqb node.words.number n numbered)
      ∙ ap (λ (o : Option StoredWord). word_or o (apart.rest (WordAt n k))) at)

  pub address_known : (k : ℕ) (c : stored.Channel) → slice_get node.channels.items.items k ≡ Some c
      → address_there nodes n k ≡ c.address
  address_known k c at =
      ap (λ (o : Option Node). unwrap_or (option_map (λ a. address_at a k) o) 0) there
      ∙ ap (λ (o : Option ℕ). unwrap_or o 0)
      (slice_get-map (λ (x : stored.Channel). x.address) node.channels.items.items k
      ∙ ap (option_map (λ (x : stored.Channel). x.address)) at)

  found : (k : ℕ) (c : stored.Channel) → slice_get node.channels.items.items k ≡ Some c
      → find (λ h. h.address == c.address) node.channels.items.items ≡ Some c
  found k c at =
      find_apart (λ h. h.address) (λ h. h.address == c.address) node.channels.items.items k c node.channels.apart at
      (eq-eqb c.address c.address refl) (λ y e. eqb-true y.address c.address e)

  input_now : (k : ℕ) (c : stored.Channel) → slice_get node.channels.items.items k ≡ Some c
      → half_in (now (Half n c.address Input)) ≡ holder_of (names node) c.input.holder
  input_now k c at =
      ap (λ (s : State). half_in (s (Half n c.address Input))) (sym apart.before)
      ∙ ap half_in (chosen (node.words.number == n) _ _ (eq-eqb node.words.number n numbered))
      ∙ ap (held_half (names node) side.Input) (found k c at)

  output_now : (k : ℕ) (c : stored.Channel) → slice_get node.channels.items.items k ≡ Some c
      → half_in (now (Half n c.address Output)) ≡ holder_of (names node) c.output.holder
  output_now k c at =
      ap (λ (s : State). half_in (s (Half n c.address Output))) (sym apart.before)
      ∙ ap half_in (chosen (node.words.number == n) _ _ (eq-eqb node.words.number n numbered))
      ∙ ap (held_half (names node) side.Output) (found k c at)

  pub channel_open : (k : ℕ) (c : stored.Channel) → slice_get node.channels.items.items k ≡ Some c
      → are_open (process_machine plan) (Channel n (address_there nodes n k)) now
      ≡ (is_met_at (Half n c.address Input) (holder_of (names node) c.input.holder)
      && is_met_at (Half n c.address Output) (holder_of (names node) c.output.holder))
  channel_open k c at =
      ap (λ (a : ℕ). are_open (process_machine plan) (Channel n a) now) (address_known k c at)
      ∙ (agents_are_open_by plan now).channel n c.address
      ∙ ap (λ (h : Holder). is_met_at (Half n c.address Input) h
      && is_met_at (Half n c.address Output) (half_in (now (Half n c.address Output)))) (input_now k c at)
      ∙ ap (λ (h : Holder). is_met_at (Half n c.address Input) (holder_of (names node) c.input.holder)
      && is_met_at (Half n c.address Output) h) (output_now k c at)

-- what is false is false with anything
pub first_false : (b c : Bool) → b ≡ false → b ≡ (b && c)
first_false true c e = absurd (false≢true (sym e))
first_false false c e = refl

-- an agent that has a step is in the list
pub has_number : (plan : Plan) (m : Machine) (number : ℕ) → HasStep plan m number → number < length m.agents.items
has_number plan m number h =
    subst (λ (k : ℕ). number < k) (length-map m.agents.items (agent_of m.nodes.items))
    (slice_get_within (agents m) number h.agent h.numbered)

-- the agent of a number has a step exactly if it is open
pub open_by : (plan : Plan) (m : Machine) (number : ℕ) (a : Agent) → slice_get m.agents.items number ≡ Some a
    → (b : Bool) → b ≡ are_open (process_machine plan) (agent_of m.nodes.items a) (machine_at plan m)
    → IsTrue b ↔ HasStep plan m number
open_by plan m number a at b e =
    let numbered : HasNumber (agents m) (agent_of m.nodes.items a) number =
    slice_get-map (agent_of m.nodes.items) m.agents.items number ∙ ap (option_map (agent_of m.nodes.items)) at in (
      λ t. record { agent = agent_of m.nodes.items a; numbered = numbered; opened = sym e ∙ t },
      λ h. e
          ∙ ap (λ (x : machine.Agent). are_open (process_machine plan) x (machine_at plan m))
          (same_Some (agent_of m.nodes.items a) h.agent (sym numbered ∙ h.numbered))
          ∙ h.opened,
    )
