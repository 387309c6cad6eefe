-- What stays of agents and places where a node has grown.
use Rattle.std.proofs.Common.{◌≡◌, ◌<◌, ◌+◌, ◌*◌, ℕ, suc, inl, inr, refl, sym, ap, ◌∙◌, subst, arith}
use Rattle.std.proofs.Common.{Bool, true, false, List, [], ◌∷◌, Option, Some, None, All, length, cond, get_or}
use Rattle.std.specs.Prelude.{find, map, option_map, slice_get, slice_set, unwrap_or, ◌==◌}
use Rattle.std.proofs.lemmas.Bool.{cases_eq, eqb-true}
use Rattle.std.proofs.lemmas.List.{length-map, length-set}
use Rattle.std.proofs.lemmas.List.Elements.{All-head, All-tail}
use Rattle.std.proofs.lemmas.Option.{same_Some, slice_get_cases, slice_get-get_or, slice_get_within}
use Rattle.tplan.specs.declared.plan.End.{End}
use Rattle.tproc.specs.declared.channels.Side.{Side}
use Rattle.tproc.specs.declared.channels.Side.TheVariants.{Input, Output}
use Rattle.tprocesses.specs.Places as place
use Rattle.tprocesses.specs.Places.{Name, Place, same_name}
use Rattle.tprocesses.specs.Machine as machine
use Rattle.tprocesses.specs.Touching.{Site}
use Rattle.tcertify.specs.declared.channel.Channel.{Channel}
use Rattle.tcertify.specs.declared.life.Life.{Life}
use Rattle.tcertify.specs.declared.node.Node.{Node}
use Rattle.tcertify.specs.declared.process.Process.{Process}
use Rattle.tcertify.specs.Nodes.{Grows, NumbersNode, addresses, address_at, name_at, names}
use Rattle.tcertify.specs.Processes.{name_of}
use Rattle.tcertify.proofs.NodeRunning.{grows_not, grows_on}
use Rattle.tcertify.proofs.Places.{set_elsewhere, set_here}
use Rattle.tcertify.proofs.Telling.{same_name-true}
use Rattle.tverdict.specs.declared.agent.Agent.{Agent}
use Rattle.tverdict.specs.declared.agent.Agent.TheVariants as agent
use Rattle.tverdict.specs.Agents.{HasChannel, HasProcess, IsThere, address_there, agent_of, name_there}
use Rattle.tverdict.specs.Numbers.{beyond, half_or, half_place, link_number, node_in, number_among, number_at}
use Rattle.tverdict.specs.Numbers.{numbering, or_beyond, process_number}
use Rattle.tverdict.specs.Passing.{NodesGrow}
use Rattle.tverdict.proofs.Numbered.{places_are_numbered}

-- two functions that are alike on each of a list
map_same : {A B : Type 0} (f g : A → B) (P : A → Type 0) → ((x : A) → P x → f x ≡ g x) → (xs : List A) → All P xs
    → map f xs ≡ map g xs
map_same f g P same [] all = refl
map_same f g P same (x ∷ xs) all =
    (λ i. same x (All-head P x xs all) i ∷ map_same f g P same xs (All-tail P x xs all) i)

-- what is found is one of the list, and passes
found_in : {X : Type 0} (test : X → Bool) (xs : List X) (x : X) → find test xs ≡ Some x
    → (k : ℕ) × (slice_get xs k ≡ Some x) × (test x ≡ true)
found_in test [] x e = cc
found_in test (y ∷ ys) x e = by (found_in test ys x) (test y) refl e
  where
    by : (find test ys ≡ Some x → (k : ℕ) × (slice_get ys k ≡ Some x) × (test x ≡ true)) → (b : Bool) → test y ≡ b
        → cond b (Some y) (find test ys) ≡ Some x → (k : ℕ) × (slice_get (y ∷ ys) k ≡ Some x) × (test x ≡ true)
    by rest true t e = (0, e, ap test (sym (same_Some y x e)) ∙ t)
    by rest false t e = let (k, at, passes) = rest e in (suc k, at, passes)

-- the name of a process, and the address of a channel, of a node that may be there
abbrev pub name_or : ℕ → ℕ → Option Node → Name
name_or n k o = unwrap_or (option_map (λ a. name_at a k) o) (record { node = n; root = place.Image 0; path = [] })

abbrev pub address_or : ℕ → Option Node → ℕ
address_or k o = unwrap_or (option_map (λ a. address_at a k) o) 0

-- an element that is there has a value in each list that keeps it
kept_value : {X : Type 0} (xs ys : List X) (k : ℕ) (d : X) → k < length xs
    → ((x : X) → slice_get xs k ≡ Some x → slice_get ys k ≡ Some x)
    → unwrap_or (slice_get ys k) d ≡ unwrap_or (slice_get xs k) d
kept_value xs ys k d low keeps =
    let at : slice_get xs k ≡ Some (get_or xs k d) = slice_get-get_or xs k d low in
    ap (λ (o : Option _). unwrap_or o d) (keeps (get_or xs k d) at ∙ sym at)

-- one node of which another one has grown
module _ (old new : Node) (grows : Grows old new) where
  name_kept : (k : ℕ) → k < length old.processes.items.items → name_at new k ≡ name_at old k
  name_kept k low =
      kept_value (names old) (names new) k (record { node = 0; root = place.Image 0; path = [] })
      (omega (arith, low, length-map old.processes.items.items (name_of old.words.number))) (grows.names k)

  address_kept : (k : ℕ) → k < length old.channels.items.items → address_at new k ≡ address_at old k
  address_kept k low =
      kept_value (addresses old) (addresses new) k 0
      (omega (arith, low, length-map old.channels.items.items (λ c. c.address))) (grows.addresses k)

  words_kept : length new.words.items.items ≡ length old.words.items.items
  words_kept =
      let sizes : 4 * length new.words.items.items ≡ 4 * length old.words.items.items =
      ap (λ (s : Site). s.size) grows.site in
      omega (arith, sizes)

  pub number_kept : new.words.number ≡ old.words.number
  number_kept = ap (λ (s : Site). s.number) grows.site

module _ (nodes others : List Node) (g : NodesGrow nodes others) where
  pub name_stays : (j k : ℕ) → HasProcess nodes j k → name_there others j k ≡ name_there nodes j k
  name_stays j k (x, at, low) =
      let (y, by, grows) = g.grow j x at in
      ap (name_or j k) by ∙ name_kept x y grows k low ∙ sym (ap (name_or j k) at)

  address_stays : (j k : ℕ) → HasChannel nodes j k → address_there others j k ≡ address_there nodes j k
  address_stays j k (x, at, low) =
      let (y, by, grows) = g.grow j x at in
      ap (address_or k) by ∙ address_kept x y grows k low ∙ sym (ap (address_or k) at)

  pub agent_stays : (a : Agent) → IsThere nodes a → agent_of others a ≡ agent_of nodes a
  agent_stays (agent.Process j k) h = ap machine.Process (name_stays j k h)
  agent_stays (agent.Channel j k) h = ap (machine.Channel j) (address_stays j k h)
  agent_stays (agent.Wire e) h = refl
  agent_stays (agent.Successor j k) h = refl

  pub agents_stay : (found : List Agent) → All (IsThere nodes) found
      → map (agent_of others) found ≡ map (agent_of nodes) found
  agents_stay found all = map_same (agent_of others) (agent_of nodes) (IsThere nodes) agent_stays found all

  -- what is there stays there
  pub there_stays : (a : Agent) → IsThere nodes a → IsThere others a
  there_stays (agent.Process j k) (x, at, low) =
      let (y, by, grows) = g.grow j x at in (y, by, omega (arith, low, grows.processes))
  there_stays (agent.Channel j k) (x, at, low) =
      let (y, by, grows) = g.grow j x at in (y, by, omega (arith, low, grows.channels))
  there_stays (agent.Wire e) h = tt
  there_stays (agent.Successor j k) (x, at, low) =
      let (y, by, grows) = g.grow j x at in (y, by, omega (arith, low, words_kept x y grows))

  -- a node now was one before
  pub was_there : (j : ℕ) (y : Node) → slice_get others j ≡ Some y
      → (x : Node) × (slice_get nodes j ≡ Some x) × Grows x y
  was_there j y at =
      let within : j < length others = slice_get_within others j y at in
      elim (slice_get_cases nodes j).1 [
        | inl (x, low, by, r) ↦
            let (z, here, grows) = g.grow j x by in
            (x, by, subst (λ (b : Node). Grows x b) (same_Some z y (sym here ∙ at)) grows)
        | inr (past, none) ↦ absurd (omega (arith, within, past, g.many))
      ]

  pub none_stays : (j : ℕ) → slice_get nodes j ≡ None → slice_get others j ≡ None
  none_stays j none = elim (slice_get_cases others j).1 [
    | inl (y, low, at, r) ↦
        let (x, by, grows) = was_there j y at in
        absurd (some_not_none x (sym by ∙ none))
    | inr (past, is) ↦ is
  ]
    where
      some_not_none : (x : Node) → Some x ≡ None → ⊥
      some_not_none x e = cc

  -- numbers of the places of a node
  module _ (first n : ℕ) (old new : Node) (there : slice_get nodes n ≡ Some old) (here : slice_get others n ≡ Some new)
      (grows : Grows old new) (numbered : old.words.number ≡ n) where
    is_n : new.words.number ≡ n
    is_n = number_kept old new grows ∙ numbered

    among_new : (p : Place) → node_in p ≡ n → number_among others p ≡ number_at new p
    among_new p e =
        ap (or_beyond (λ (x : Node). number_at x p)) (ap (λ (j : ℕ). slice_get others j) e ∙ here)

    among_old : (p : Place) → node_in p ≡ n → number_among nodes p ≡ number_at old p
    among_old p e =
        ap (or_beyond (λ (x : Node). number_at x p)) (ap (λ (j : ℕ). slice_get nodes j) e ∙ there)

    -- the new node has the numbers that the old one had
    on : NumbersNode (numbering others first) old
    on = grows.numbers (numbering others first) (places_are_numbered others first n new here is_n)

    abbrev o : ℕ
    o = old.words.number

    first_stays : new.words.first_place ≡ old.words.first_place
    first_stays =
        let e : new.words.first_place + 0 ≡ old.words.first_place + 0 =
        sym (among_new (place.WordAt o 0) numbered) ∙ on.words.word 0 in
        omega (arith, e)

    fixed_stays : new.fixed_place ≡ old.fixed_place
    fixed_stays = sym (among_new (place.Error o) numbered) ∙ on.error

    -- a place that had a number has it still
    process_at : (x : Name) → x.node ≡ n → (f : Option Process)
        → find (λ p. same_name (name_of old.words.number p) x) old.processes.items.items ≡ f
        → or_beyond (λ p. p.place) f < beyond → process_number new x ≡ or_beyond (λ p. p.place) f
    process_at x e None is low = absurd (omega (arith, low))
    process_at x e (Some p) is low =
        let (k, at, same) = found_in _ old.processes.items.items p is in
        let name : name_of o p ≡ x = same_name-true (name_of o p) x same in
        sym (among_new (place.Standing x) e)
        ∙ sym (ap (λ (y : Name). number_among others (place.Standing y)) name) ∙ on.stand k p at

    input_at : (m c : ℕ) → m ≡ n → (f : Option Channel)
        → find (λ h. h.address == c) old.channels.items.items ≡ f → or_beyond (half_place Input) f < beyond
        → number_at new (place.Half m c Input) ≡ or_beyond (half_place Input) f
    input_at m c e None is low = absurd (omega (arith, low))
    input_at m c e (Some h) is low =
        let (k, at, same) = found_in _ old.channels.items.items h is in
        sym (among_new (place.Half m c Input) e)
        ∙ ap (λ (j : ℕ). number_among others (place.Half j c Input)) (e ∙ sym numbered)
        ∙ sym (ap (λ (d : ℕ). number_among others (place.Half o d Input)) (eqb-true h.address c same))
        ∙ on.input k h at

    output_at : (m c : ℕ) → m ≡ n → (f : Option Channel)
        → find (λ h. h.address == c) old.channels.items.items ≡ f → or_beyond (half_place Output) f < beyond
        → number_at new (place.Half m c Output) ≡ or_beyond (half_place Output) f
    output_at m c e None is low = absurd (omega (arith, low))
    output_at m c e (Some h) is low =
        let (k, at, same) = found_in _ old.channels.items.items h is in
        sym (among_new (place.Half m c Output) e)
        ∙ ap (λ (j : ℕ). number_among others (place.Half j c Output)) (e ∙ sym numbered)
        ∙ sym (ap (λ (d : ℕ). number_among others (place.Half o d Output)) (eqb-true h.address c same))
        ∙ on.output k h at

    life_at : (m w : ℕ) → m ≡ n → (f : Option Life) → find (λ l. l.workspace == w) old.lives.items.items ≡ f
        → or_beyond (λ l. l.count_place) f < beyond
        → number_at new (place.Life m w) ≡ or_beyond (λ l. l.count_place) f
    life_at m w e None is low = absurd (omega (arith, low))
    life_at m w e (Some l) is low =
        let (k, at, same) = found_in _ old.lives.items.items l is in
        sym (among_new (place.Life m w) e)
        ∙ ap (λ (j : ℕ). number_among others (place.Life j w)) (e ∙ sym numbered)
        ∙ sym (ap (λ (d : ℕ). number_among others (place.Life o d)) (eqb-true l.workspace w same))
        ∙ on.life k l at

    successions_at : (m w : ℕ) → m ≡ n → (f : Option Life)
        → find (λ l. l.workspace == w) old.lives.items.items ≡ f → or_beyond (λ l. l.successors_place) f < beyond
        → number_at new (place.Successions m w) ≡ or_beyond (λ l. l.successors_place) f
    successions_at m w e None is low = absurd (omega (arith, low))
    successions_at m w e (Some l) is low =
        let (k, at, same) = found_in _ old.lives.items.items l is in
        sym (among_new (place.Successions m w) e)
        ∙ ap (λ (j : ℕ). number_among others (place.Successions j w)) (e ∙ sym numbered)
        ∙ sym (ap (λ (d : ℕ). number_among others (place.Successions o d)) (eqb-true l.workspace w same))
        ∙ on.successions k l at

    number_stays : (p : Place) → node_in p ≡ n → number_at old p < beyond → number_at new p ≡ number_at old p
    number_stays (place.WordAt m k) e low = ap (λ (f : ℕ). f + k) first_stays
    number_stays (place.Sending m k) e low = ap (λ (f : ℕ). f + k) first_stays
    number_stays (place.Standing x) e low = process_at x e _ refl low
    number_stays (place.Ports x) e low = process_at x e _ refl low
    number_stays (place.Half m c Input) e low = input_at m c e _ refl low
    number_stays (place.Half m c Output) e low = output_at m c e _ refl low
    number_stays (place.LinkHalf f side) e low = ap (λ (b : ℕ). link_number b side f.link) fixed_stays
    number_stays (place.Unfinished f) e low = ap (λ (b : ℕ). b + 14 + f.link) fixed_stays
    number_stays (place.Error m) e low = fixed_stays
    number_stays (place.HaltOnError m) e low = ap (λ (f : ℕ). f + 1) fixed_stays
    number_stays (place.FlagChanged m) e low = ap (λ (f : ℕ). f + 2) fixed_stays
    number_stays (place.Population m) e low = ap (λ (f : ℕ). f + 3) fixed_stays
    number_stays (place.HasRun m q) e low = ap (λ (f : ℕ). f + 4 + q) fixed_stays
    number_stays (place.Life m w) e low = life_at m w e _ refl low
    number_stays (place.Successions m w) e low = successions_at m w e _ refl low
    number_stays (place.Messages f) e low = refl
    number_stays (place.Kept f) e low = refl

    pub among_stays : (p : Place) → n ≡ node_in p → number_among nodes p < beyond
        → number_among others p ≡ number_among nodes p
    among_stays p e low =
        among_new p (sym e)
        ∙ number_stays p (sym e) (subst (λ (k : ℕ). k < beyond) (among_old p (sym e)) low)
        ∙ sym (among_old p (sym e))

  module _ (first : ℕ) (numbers : (k : ℕ) (x : Node) → slice_get nodes k ≡ Some x → x.words.number ≡ k) where
    place_stays : (p : Place) → number_among nodes p < beyond → number_among others p ≡ number_among nodes p
    place_stays p low = elim (slice_get_cases nodes (node_in p)).1 [
      | inl (x, within, at, r) ↦
          let (y, here, grows) = g.grow (node_in p) x at in
          among_stays first (node_in p) x y at here grows (numbers (node_in p) x at) p refl low
      | inr (past, none) ↦
          ap (or_beyond (λ (x : Node). number_at x p)) (none_stays (node_in p) none ∙ sym none)
    ]

    half_stays : (f : End) (side : Side) → half_or first side f.link (slice_get others f.node)
        ≡ half_or first side f.link (slice_get nodes f.node)
    half_stays f side = elim (slice_get_cases nodes f.node).1 [
      | inl (x, within, at, r) ↦
          let (y, here, grows) = g.grow f.node x at in
          ap (half_or first side f.link) here
          ∙ ap (λ (b : ℕ). link_number b side f.link)
          (fixed_stays first f.node x y at here grows (numbers f.node x at))
          ∙ sym (ap (half_or first side f.link) at)
      | inr (past, none) ↦ ap (half_or first side f.link) (none_stays f.node none ∙ sym none)
    ]

    pub places_stay : (p : Place) → numbering nodes first p < beyond
        → numbering others first p ≡ numbering nodes first p
    places_stay (place.Messages e) low = refl
    places_stay (place.Kept e) low = refl
    places_stay (place.WordAt m k) low = place_stays (place.WordAt m k) low
    places_stay (place.Sending m k) low = place_stays (place.Sending m k) low
    places_stay (place.Standing x) low = place_stays (place.Standing x) low
    places_stay (place.Ports x) low = place_stays (place.Ports x) low
    places_stay (place.Half m c side) low = place_stays (place.Half m c side) low
    places_stay (place.LinkHalf f side) low = half_stays f side
    places_stay (place.Unfinished f) low = place_stays (place.Unfinished f) low
    places_stay (place.Error m) low = place_stays (place.Error m) low
    places_stay (place.HaltOnError m) low = place_stays (place.HaltOnError m) low
    places_stay (place.FlagChanged m) low = place_stays (place.FlagChanged m) low
    places_stay (place.Population m) low = place_stays (place.Population m) low
    places_stay (place.HasRun m q) low = place_stays (place.HasRun m q) low
    places_stay (place.Life m w) low = place_stays (place.Life m w) low
    places_stay (place.Successions m w) low = place_stays (place.Successions m w) low

-- a node is set to one that has grown
pub set_grows : (nodes : List Node) (n : ℕ) (old new : Node) → slice_get nodes n ≡ Some old → Grows old new
    → NodesGrow nodes (slice_set nodes n new)
set_grows nodes n old new there grows =
    record {
      many = length-set nodes n new;
      grow = λ k a at. elim (cases_eq n k) [
        | inl e ↦ (
          new,
          ap (λ (i : ℕ). slice_get (slice_set nodes n new) i) (sym e) ∙ set_here nodes n new old there,
          subst (λ (x : Node). Grows x new)
              (same_Some old a (sym there ∙ ap (λ (i : ℕ). slice_get nodes i) e ∙ at)) grows,
        )
        | inr other ↦ (a, set_elsewhere nodes n k new other ∙ at, grows_not a)
      ];
    }

-- nodes that have grown twice
pub grow_twice : (a b c : List Node) → NodesGrow a b → NodesGrow b c → NodesGrow a c
grow_twice a b c g h =
    record {
      many = h.many ∙ g.many;
      grow = λ k x at.
          let (y, by, first) = g.grow k x at in let (z, here, second) = h.grow k y by in
          (z, here, grows_on x y z first second);
    }
