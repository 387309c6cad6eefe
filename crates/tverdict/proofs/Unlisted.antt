-- Agents that are not in the list have no step, if no word has a successor with one.
use Rattle.std.proofs.Common.{◌≡◌, ◌<◌, ◌≤◌, ◌+◌, ◌*◌, ℕ, suc, refl, sym, ap, ◌∙◌, subst, Bool, true, false, List, []}
use Rattle.std.proofs.Common.{◌∷◌, Option, Some, None, All, cond, length, ◌⊎◌, inl, inr}
use Rattle.std.proofs.Math.ListN.{get_or}
use Rattle.std.specs.Prelude.{◌==◌, ◌&&◌, find, slice_get, option_map, Contains, if◌then◌else◌}
use Rattle.std.proofs.lemmas.Bool.{eq-eqb, eqb-true}
use Rattle.std.proofs.lemmas.Option.{get_or_from_slice_get, slice_get_cases, slice_get-get_or, slice_get-map}
use Rattle.std.proofs.lemmas.Option.{same_Some, slice_get_past, slice_get_within}
use Rattle.tplan.specs.declared.plan.End.{End}
use Rattle.tplan.specs.declared.plan.NodePlan.{NodePlan}
use Rattle.tplan.specs.declared.plan.Plan.{Plan}
use Rattle.tagents.specs.Walks.{are_open}
use Rattle.tproc.specs.declared.channels.Side.TheVariants as machineside
use Rattle.tprocesses.specs.Machine as machine
use Rattle.tprocesses.specs.Machine.{awaits_successor, is_met_at, is_ready, process_machine, sender_to}
use Rattle.tprocesses.specs.Opening.{is_below, opened_word, opening_state, stand_of}
use Rattle.tprocesses.specs.Places.{Name, Half, Standing, WordAt, same_name}
use Rattle.tprocesses.specs.Values.{Absent, Free, IsStand, Saved, Use, Value, Word, half_in, stand_in}
use Rattle.tword.specs.Words.{most_neg}
use Rattle.tcertify.specs.declared.channel.Channel as stored
use Rattle.tcertify.specs.declared.node.Node.{Node}
use Rattle.tcertify.specs.declared.process.Process as kept
use Rattle.tcertify.specs.declared.side.Side.TheVariants as side
use Rattle.tcertify.specs.declared.stored.StoredWord.{StoredWord}
use Rattle.tcertify.specs.Channels.{held_half}
use Rattle.tcertify.specs.Nodes.{board_of, names}
use Rattle.tcertify.specs.Processes.{name_of, stand_or_absent}
use Rattle.tcertify.specs.Running.{State}
use Rattle.tcertify.specs.Standing as stood
use Rattle.tcertify.specs.Words.{use_of, word_or}
use Rattle.tcertify.proofs.NodeStands.{name_is}
use Rattle.tcertify.proofs.Telling.{same_name-true}
use Rattle.tfollow.specs.Numbering.{HasNumber, IsNew}
use Rattle.tfollow.proofs.Opened.{agents_are_open_by}
use Rattle.tverdict.specs.declared.agent.Agent.{Agent}
use Rattle.tverdict.specs.declared.agent.Agent.TheVariants as agent
use Rattle.tverdict.specs.declared.machine.Machine.{Machine}
use Rattle.tverdict.specs.Agents.{IsMet, agent_of, name_there, address_there}
use Rattle.tverdict.specs.Machines.{Follows, HasNoStep, HasStep, agents, at_node, machine_at}
use Rattle.tverdict.specs.Next.{AwaitNothing}
use Rattle.tverdict.proofs.Distinct.{not_new}
use Rattle.tverdict.proofs.Frames.{chosen}
use Rattle.tverdict.proofs.Opens.{successor_open, address_known, name_known}

-- what is found among things is one of them, and passes
found_there : {X : Type 0} (test : X → Bool) (xs : List X) (x : X) → find test xs ≡ Some x
    → (k : ℕ) × (slice_get xs k ≡ Some x) × (test x ≡ true)
found_there test [] x e = cc
found_there test (y ∷ ys) x e = by (test y) refl (λ h. found_there test ys x h)
  where
    by : (b : Bool) → test y ≡ b
        → (find test ys ≡ Some x → (k : ℕ) × (slice_get ys k ≡ Some x) × (test x ≡ true))
        → (k : ℕ) × (slice_get (y ∷ ys) k ≡ Some x) × (test x ≡ true)
    by true h rest =
        let at : Some y ≡ Some x = sym (ap (λ (c : Bool). cond c (Some y) (find test ys)) h) ∙ e in
        let same : y ≡ x = cc in
        (0, at, subst (λ (z : _). test z ≡ true) same h)
    by false h rest =
        let (k, at, passes) = rest (sym (ap (λ (c : Bool). cond c (Some y) (find test ys)) h) ∙ e) in
        (suc k, at, passes)

-- where a list contains something
there_at : {X : Type 0} (xs : List X) (x : X) → Contains xs x → (k : ℕ) × (slice_get xs k ≡ Some x)
there_at xs x (k, low, is) = (k, slice_get-get_or xs k x low ∙ ap Some is)

-- what holds of all holds of each
each : {X : Type 0} (P : X → Type 0) (xs : List X) → All P xs → (k : ℕ) (x : X) → slice_get xs k ≡ Some x → P x
each P xs h k x e = subst P (get_or_from_slice_get xs k x x e) (h k x (slice_get_within xs k x e))

-- a node of this number is there, or no node of the plan
abbrev Lies : List Node → ℕ → Type 0
Lies nodes n =
    ((x : Node) × (n < length nodes) × (slice_get nodes n ≡ Some x) × (get_or nodes n x ≡ x))
    ⊎ ((length nodes ≤ n) × (slice_get nodes n ≡ None))

-- a word that was opened awaits nobody
opened_awaits : (t : Bool) → awaits_successor (if t then Saved else Free) ≡ false
opened_awaits true = refl
opened_awaits false = refl

module _ (plan : Plan) (m : Machine) (f : Follows plan m) (quiet : All AwaitNothing m.nodes.items) where
  abbrev nodes : List Node
  nodes = m.nodes.items

  abbrev now : State
  now = machine_at plan m

  -- an agent of the list is not new
  listed : (a : Agent) (b : machine.Agent) → Contains m.agents.items a → agent_of nodes a ≡ b → IsNew (agents m) b → ⊥
  listed a b has is new =
      let (j, at) = there_at m.agents.items a has in
      let numbered : HasNumber (agents m) (agent_of nodes a) j =
      slice_get-map (agent_of nodes) m.agents.items j ∙ ap (option_map (agent_of nodes)) at in
      not_new (agents m) b j (numbered ∙ ap Some is) new

  gone_plan : (n : ℕ) → length nodes ≤ n → slice_get plan.nodes n ≡ None
  gone_plan n past = slice_get_past plan.nodes n (subst (λ (k : ℕ). k ≤ n) (f.1).sound.nodes.many past)

  module _ (n : ℕ) (node : Node) (there : slice_get nodes n ≡ Some node) where
    numbered_node : node.words.number ≡ n
    numbered_node = (f.1).sound.nodes.numbers n node there

    stands_here : (x : Name) → x.node ≡ n → now (Standing x) ≡ IsStand ((board_of node).stand x)
    stands_here x e =
        ap (λ (o : Option Node). at_node o (opening_state plan) (Standing x))
        (ap (λ (k : ℕ). slice_get nodes k) e ∙ there)
        ∙ chosen (node.words.number == x.node) _ _ (eq-eqb node.words.number x.node (numbered_node ∙ sym e))

  shut_process : (x : Name) → Lies nodes x.node → IsNew (agents m) (machine.Process x)
      → is_ready (stand_in (now (Standing x))) ≡ false
  shut_process x (inl (node, low, there, g)) new =
      ap (λ (v : Value). is_ready (stand_in v)) (stands_here x.node node there x refl)
      ∙ by (find (λ p. same_name (name_of node.words.number p) x) node.processes.items.items) refl
    where
      -- it is listed, or it has ended
      met : (k : ℕ) (p : kept.Process) → slice_get node.processes.items.items k ≡ Some p
          → name_there nodes x.node k ≡ x → IsMet nodes m.agents.items (agent.Process x.node k)
          → is_ready (stood.stand_of p.stand) ≡ false
      met k p at named (inl has) =
          absurd (listed (agent.Process x.node k) (machine.Process x) has (ap machine.Process named) new)
      met k p at named (inr h) =
          let one : h.node ≡ node = same_Some h.node node (sym h.there ∙ there) in
          let same : h.known ≡ p =
          same_Some h.known p
          (sym h.has ∙ ap (λ (y : Node). slice_get y.processes.items.items k) one ∙ at) in
          ap (λ (y : kept.Process). is_ready (stood.stand_of y.stand)) (sym same)
          ∙ ap (λ s. is_ready (stood.stand_of s)) h.ended

      by : (o : Option kept.Process)
          → find (λ p. same_name (name_of node.words.number p) x) node.processes.items.items ≡ o
          → is_ready (stand_or_absent o) ≡ false
      by None e = refl
      by (Some p) e =
          let (k, at, same) =
          found_there (λ q. same_name (name_of node.words.number q) x) node.processes.items.items p e in
          let named : name_there nodes x.node k ≡ x =
          name_known plan nodes m.sent.items m.sinks.items x.node node there
          (numbered_node x.node node there) k ∙ name_is node k p at
          ∙ same_name-true (name_of node.words.number p) x same in
          met k p at named
          ((f.1).sound.found.processes x.node k
          (node, there, slice_get_within node.processes.items.items k p at))
  shut_process x (inr (past, gone)) new =
      ap (λ (o : Option Node). is_ready (stand_in (at_node o (opening_state plan) (Standing x)))) gone
      ∙ ap (λ (o : Option NodePlan). is_ready (elim o [ Some p ↦ stand_of x.root x.path p | None ↦ Absent ]))
      (gone_plan x.node past)

  shut_half : (n c : ℕ) → Lies nodes n → IsNew (agents m) (machine.Channel n c)
      → is_met_at (Half n c machineside.Input) (half_in (now (Half n c machineside.Input))) ≡ false
  shut_half n c (inl (node, low, there, g)) new =
      ap (λ (o : Option Node). is_met_at (Half n c machineside.Input)
      (half_in (at_node o (opening_state plan) (Half n c machineside.Input)))) there
      ∙ ap (λ (v : Value). is_met_at (Half n c machineside.Input) (half_in v))
      (chosen (node.words.number == n) _ _ (eq-eqb node.words.number n (numbered_node n node there)))
      ∙ by (find (λ h. h.address == c) node.channels.items.items) refl
    where
      by : (o : Option stored.Channel) → find (λ h. h.address == c) node.channels.items.items ≡ o
          → is_met_at (Half n c machineside.Input) (held_half (names node) side.Input o) ≡ false
      by None e = refl
      by (Some h) e =
          let (k, at, same) = found_there (λ q. q.address == c) node.channels.items.items h e in
          let named : address_there nodes n k ≡ c =
          address_known plan nodes m.sent.items m.sinks.items n node there
          (numbered_node n node there) k h at ∙ eqb-true h.address c same in
          absurd (listed (agent.Channel n k) (machine.Channel n c)
          ((f.1).sound.found.channels n k (node, there, slice_get_within node.channels.items.items k h at))
          (ap (λ (a : ℕ). machine.Channel n a) named) new)
  shut_half n c (inr (past, gone)) new =
      ap (λ (o : Option Node). is_met_at (Half n c machineside.Input)
      (half_in (at_node o (opening_state plan) (Half n c machineside.Input)))) gone

  shut_channel : (n c : ℕ) → IsNew (agents m) (machine.Channel n c)
      → are_open (process_machine plan) (machine.Channel n c) now ≡ false
  shut_channel n c new =
      (agents_are_open_by plan now).channel n c
      ∙ ap (λ (b : Bool). b && is_met_at (Half n c machineside.Output) (half_in (now (Half n c machineside.Output))))
      (shut_half n c ((slice_get_cases nodes n).1) new)

  shut_wire : (e : End) → IsNew (agents m) (machine.Wire e)
      → are_open (process_machine plan) (machine.Wire e) now ≡ false
  shut_wire e new = by (sender_to plan e) refl
    where
      by : (o : Option End) → sender_to plan e ≡ o → are_open (process_machine plan) (machine.Wire e) now ≡ false
      by None h = (agents_are_open_by plan now).no_wire e h
      by (Some s) h = absurd (listed (agent.Wire e) (machine.Wire e) ((f.1).sound.found.wires e s h) refl new)

  -- what a word of the plan is in use for before the first step
  abbrev opened_use : ℕ → Option NodePlan → Use
  opened_use k (Some p) = (opened_word p (most_neg + 4 * k)).used
  opened_use k None = Free

  opened_shut : (k : ℕ) (o : Option NodePlan) → awaits_successor (opened_use k o) ≡ false
  opened_shut k (Some p) = opened_awaits (is_below p (1 ∷ 2 ∷ 3 ∷ []) (most_neg + 4 * k))
  opened_shut k None = refl

  abbrev opened_at : ℕ → Option NodePlan → Word
  opened_at k o =
      elim o [ Some p ↦ opened_word p (most_neg + 4 * k) | None ↦ record { cells = []; used = Free } ]

  opened_same : (k : ℕ) (o : Option NodePlan) → awaits_successor (opened_at k o).used ≡ false
  opened_same k (Some p) = opened_shut k (Some p)
  opened_same k None = refl

  shut_successor : (n k : ℕ) → Lies nodes n
      → are_open (process_machine plan) (machine.Successor n k) now ≡ false
  shut_successor n k (inl (node, low, there, g)) = by (slice_get node.words.items.items k) refl
    where
      by : (o : Option StoredWord) → slice_get node.words.items.items k ≡ o
          → are_open (process_machine plan) (machine.Successor n k) now ≡ false
      by (Some w) at =
          successor_open plan nodes m.sent.items m.sinks.items n node there (numbered_node n node there) k w at
          ∙ each (λ v. awaits_successor (use_of v.used) ≡ false) node.words.items.items
          (each AwaitNothing nodes quiet n node there) k w at
      by None at =
          (agents_are_open_by plan now).successor n k (opened_at k (slice_get plan.nodes n))
          (ap (λ (o : Option Node). at_node o (opening_state plan) (WordAt n k)) there
          ∙ chosen (node.words.number == n) _ _
          (eq-eqb node.words.number n (numbered_node n node there))
          ∙ ap (λ (o : Option StoredWord). word_or o (opening_state plan (WordAt n k))) at)
          ∙ opened_same k (slice_get plan.nodes n)
  shut_successor n k (inr (past, gone)) =
      (agents_are_open_by plan now).successor n k (opened_at k (slice_get plan.nodes n))
      (ap (λ (o : Option Node). at_node o (opening_state plan) (WordAt n k)) gone)
      ∙ opened_same k (slice_get plan.nodes n)

  shut_other : (a : machine.Agent) → IsNew (agents m) a → are_open (process_machine plan) a now ≡ false
  shut_other (machine.Process x) new =
      (agents_are_open_by plan now).process x ∙ shut_process x ((slice_get_cases nodes x.node).1) new
  shut_other (machine.Channel n c) new = shut_channel n c new
  shut_other (machine.Wire e) new = shut_wire e new
  shut_other (machine.Successor n k) new = shut_successor n k ((slice_get_cases nodes n).1)

  not_open : (t : Bool) → (t ≡ true → ⊥) → t ≡ false
  not_open true h = absurd (h refl)
  not_open false h = refl

  -- no agent at all has a step, if none of the list has one
  pub nobody_else : ((number : ℕ) → HasStep plan m number → ⊥) → HasNoStep plan m
  nobody_else none =
      record {
        listed = λ number a numbered. not_open (are_open (process_machine plan) a now)
            (λ opened. none number (record { agent = a; numbered = numbered; opened = opened }));
        others = λ a new. shut_other a new;
      }
