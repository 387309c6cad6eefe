-- Processes that have their berths, from one step to the next.
use Rattle.std.proofs.Common.{◌≡◌, ◌≢◌, ◌<◌, ◌≤◌, ◌+◌, ◌∙◌, ◌⊎◌, ℕ, zero, suc, inl, inr, ap, refl, subst, sym, arith}
use Rattle.std.proofs.Common.{Bool, true, false, List, [], ◌∷◌, ◌++◌, Option, Some, Contains, length, take}
use Rattle.std.proofs.Common.{pos}
use Rattle.std.specs.Prelude.{◌==◌, find, option_map, slice_get, slice_index, slice_set, unwrap_or, if◌then◌else◌}
use Rattle.std.proofs.lemmas.Bool.{cases_eq, eq-eqb}
use Rattle.std.proofs.lemmas.Int.{ints}
use Rattle.std.proofs.lemmas.List.{length-map, length_push, take_all, take_more}
use Rattle.std.proofs.lemmas.Option.{get_or_from_slice_get, same_Some, slice_get-map, slice_get_within}
use Rattle.tplan.specs.declared.plan.Plan.{Plan}
use Rattle.tagents.specs.Groups.{AgreeOn}
use Rattle.tclocks.specs.Checks.{last_step}
use Rattle.tclocks.proofs.Lists.{contains-first, contains-rest}
use Rattle.tprocesses.specs.Opening.{opening_state}
use Rattle.tprocesses.specs.Places.{Name, Population, Standing, same_name}
use Rattle.tprocesses.specs.Values.{IsAmount, IsStand, Value, amount_in, stand_in}
use Rattle.tprocesses.specs.Values as value
use Rattle.tprocesses.specs.Machine as machine
use Rattle.tprocesses.specs.Standing.{is_absent}
use Rattle.tprocesses.specs.Certified.{ProcessStep, begins, ends}
use Rattle.tprocesses.specs.Lives.{TellsLives, lodger}
use Rattle.tcertify.specs.declared.node.Node.{Node}
use Rattle.tcertify.specs.declared.process.Process.{Process}
use Rattle.tcertify.specs.declared.sink.Sink.{Sink}
use Rattle.tcertify.specs.declared.standing.Stand.{Stand}
use Rattle.tcertify.specs.declared.standing.Stand.TheVariants as stand
use Rattle.tcertify.specs.Nodes.{names}
use Rattle.tcertify.specs.Processes.{name_of, stand_or_absent}
use Rattle.tcertify.specs.Running.{State}
use Rattle.tcertify.specs.Standing.{stand_of}
use Rattle.tcertify.proofs.Found.{find_none}
use Rattle.tcertify.proofs.NodeStands.{stand_found}
use Rattle.tcertify.proofs.OwnWorkspaces.{among_first}
use Rattle.tcertify.proofs.Telling.{same_name-self, same_name-true}
use Rattle.tfollow.specs.declared.berth.Berth.{Berth}
use Rattle.tfollow.specs.Lodging.{AreLodged, HasCountedIfAny, IsNewName, number_of_name}
use Rattle.tfollow.specs.Following.{number_by}
use Rattle.tfollow.specs.Numbering.{AgentNumbers}
use Rattle.tfollow.proofs.Lodged.{beginnings_take_berths, ends_leave_berths, lodged_agents_may_come}
use Rattle.tfollow.proofs.Lodged.{others_keep_berths}
use Rattle.tverdict.specs.declared.agent.Agent.{Agent}
use Rattle.tverdict.specs.declared.agent.Agent.TheVariants as agent
use Rattle.tverdict.specs.declared.lodging.Lodging.{Lodging}
use Rattle.tverdict.specs.declared.machine.Machine.{Machine}
use Rattle.tverdict.specs.Agents.{IsThere, agent_of, name_there}
use Rattle.tverdict.specs.Lodging.{AreHoused, HasEnded, HasHomes, HasHomesAt, IsHoused, Leaves, Lodges, LodgesAt, Moves}
use Rattle.tverdict.specs.Lodging.{Takes}
use Rattle.tverdict.specs.Lodging.{WasHoused, WereHoused, lodgers, moved_berth, names_in}
use Rattle.tverdict.specs.Machines.{HasDone, agents, at_node, machine_at, places, state_of}
use Rattle.tverdict.specs.Passing.{NodesGrow}
use Rattle.tverdict.specs.Stepping.{HasTold}
use Rattle.tverdict.proofs.Distinct.{at_low, name_known}
use Rattle.tverdict.proofs.Ended.{all_at}
use Rattle.tverdict.proofs.Frames.{chosen}

-- the first ones stay where each one stays
take_same : {X : Type 0} (h : ℕ) (xs ys : List X) → h ≤ length xs
    → ((k : ℕ) (x : X) → slice_get xs k ≡ Some x → slice_get ys k ≡ Some x) → take h ys ≡ take h xs
take_same zero xs ys low keeps = refl
take_same (suc h) [] ys low keeps = absurd (omega (arith, low))
take_same (suc h) (x ∷ xs) [] low keeps = let none = keeps 0 x refl in cc
take_same (suc h) (x ∷ xs) (y ∷ ys) low keeps =
    let first : y ≡ x = same_Some y x (keeps 0 x refl) in
    (λ i. first i ∷ take_same h xs ys (omega (arith, low)) (λ k z at. keeps (suc k) z at) i)

-- a number is in a list, or is not
contains_or_not : (xs : List ℕ) (n : ℕ) → Contains xs n ⊎ (Contains xs n → ⊥)
contains_or_not [] n = inr (λ has. absurd (omega (arith, has.1)))
contains_or_not (x ∷ xs) n = by (cases_eq x n) (contains_or_not xs n)
  where
    neither : (x ≡ n → ⊥) → (Contains xs n → ⊥) → Contains (x ∷ xs) n → ⊥
    neither other none (zero, low, e) = other e
    neither other none (suc k, low, e) = none (k, omega (arith, low), e)

    by : (x ≡ n) ⊎ (x ≡ n → ⊥) → Contains xs n ⊎ (Contains xs n → ⊥) → Contains (x ∷ xs) n ⊎ (Contains (x ∷ xs) n → ⊥)
    by (inl e) rest = inl (subst (λ (k : ℕ). Contains (x ∷ xs) k) e (contains-first x xs))
    by (inr other) (inl has) = inl (contains-rest x xs n has)
    by (inr other) (inr none) = inr (neither other none)

-- a name is new where each one is another one, and the other way round
new_name : (xs : List Name) (x : Name) → ((k : ℕ) (y : Name) → slice_get xs k ≡ Some y → y ≡ x → ⊥) → IsNewName xs x
new_name [] x none = refl
new_name (y ∷ ys) x none = by (same_name y x) refl (new_name ys x (λ k z at. none (suc k) z at))
  where
    by : (b : Bool) → same_name y x ≡ b → number_of_name ys x ≡ length ys
        → (if b then 0 else suc (number_of_name ys x)) ≡ length (y ∷ ys)
    by true e rest = absurd (none 0 y refl (same_name-true y x e))
    by false e rest = ap suc rest

others_differ : (xs : List Name) (x : Name) → IsNewName xs x → (k : ℕ) (y : Name) → slice_get xs k ≡ Some y
    → same_name y x ≡ false
others_differ [] x new k y at = cc
others_differ (z ∷ zs) x new k y at = by (same_name z x) refl new k at (others_differ zs x)
  where
    by : (b : Bool) → same_name z x ≡ b → (if b then 0 else suc (number_of_name zs x)) ≡ length (z ∷ zs) → (k : ℕ)
        → slice_get (z ∷ zs) k ≡ Some y
        → (IsNewName zs x → (j : ℕ) (u : Name) → slice_get zs j ≡ Some u → same_name u x ≡ false)
        → same_name y x ≡ false
    by true e h k at rest = absurd (omega (arith, h))
    by false e h zero at rest = ap (λ (u : Name). same_name u x) (sym (same_Some z y at)) ∙ e
    by false e h (suc k) at rest = rest (omega (arith, h)) k y at

-- the number of a name that stands there first
number_there : (xs : List Name) (k : ℕ) (x : Name) → slice_get xs k ≡ Some x
    → ((j : ℕ) (y : Name) → j < k → slice_get xs j ≡ Some y → y ≡ x → ⊥) → number_of_name xs x ≡ k
number_there [] k x at none = cc
number_there (y ∷ ys) zero x at none =
    let same : same_name y x ≡ true =
    ap (λ (u : Name). same_name u x) (same_Some y x at) ∙ same_name-self x in
    ap (λ (b : Bool). if b then 0 else suc (number_of_name ys x)) same
number_there (y ∷ ys) (suc k) x at none =
    by (same_name y x) refl
    (number_there ys k x at (λ j z low there. none (suc j) z (omega (arith, low)) there))
  where
    by : (b : Bool) → same_name y x ≡ b → number_of_name ys x ≡ k
        → (if b then 0 else suc (number_of_name ys x)) ≡ suc k
    by true e rest = absurd (none 0 y (omega arith) refl (same_name-true y x e))
    by false e rest = ap suc rest

-- who has ended
pub ended_so : (s : Stand) → stand_of s ≡ value.Ended → s ≡ stand.Ended
ended_so stand.Absent e = cc
ended_so (stand.Rests c) e = cc
ended_so (stand.Runs c) e = cc
ended_so (stand.Waits c) e = cc
ended_so (stand.Chooses c) e = cc
ended_so (stand.Chosen c) e = cc
ended_so (stand.Listens channel c) e = cc
ended_so stand.Ended e = refl

-- the node of a number has berths for all
pub homes_of : (nodes : List Node) (n : ℕ) (node : Node) → slice_get nodes n ≡ Some node → (l : Lodging)
    → HasHomes node l → HasHomesAt nodes n l
homes_of nodes n node there l homes x at_n =
    subst (λ (y : Node). HasHomes y l) (same_Some node x (sym there ∙ at_n)) homes

-- one of the nodes
module _ (nodes : List Node) (n : ℕ) (node : Node) (there : slice_get nodes n ≡ Some node)
    (numbered : node.words.number ≡ n) where
  abbrev processes : List Process
  processes = node.processes.items.items

  names_are : names_in nodes n ≡ names node
  names_are = ap (λ (o : Option Node). unwrap_or (option_map names o) []) there

  pub names_long : length (names node) ≡ length processes
  names_long = length-map processes (name_of node.words.number)

  -- a process, and its name
  named_at : (k : ℕ) (p : Process) → slice_get processes k ≡ Some p → slice_get (names node) k ≡ Some (name_of n p)
  named_at k p at =
      slice_get-map (name_of node.words.number) processes k ∙ ap (option_map (name_of node.words.number)) at
      ∙ ap (λ (j : ℕ). Some (name_of j p)) numbered

  -- no two have one name
  apart_at : (j k : ℕ) (y : Name) (p : Process) → slice_get (names node) j ≡ Some y → slice_get processes k ≡ Some p
      → y ≡ name_of n p → j ≡ k
  apart_at j k y p at there_p same =
      let long = names_long in
      let (q, there_q) = at_low processes j (omega (arith, slice_get_within (names node) j y at, long)) in
      let name : y ≡ name_of n q = same_Some y (name_of n q) (sym at ∙ named_at j q there_q) in
      node.processes.apart j k q p there_q there_p (ap (λ (x : Name). record x { node = 0 }) (sym name ∙ same))

  module _ (plan : Plan) (sent : List ℕ) (sinks : List Sink) where
    abbrev now : State
    now = state_of plan nodes sent sinks

    -- how many processes it has had, and where each stands
    pub population_at : now (Population n) ≡ IsAmount (pos node.population)
    population_at =
        ap (λ (o : Option Node). at_node o (opening_state plan) (Population n)) there
        ∙ chosen (node.words.number == n) _ _ (eq-eqb node.words.number n numbered)

    abbrev is_named : Name → Process → Bool
    is_named x q = same_name (name_of node.words.number q) x

    stands_at : (x : Name) → x.node ≡ n
        → now (Standing x) ≡ IsStand (stand_or_absent (find (λ q. is_named x q) processes))
    stands_at x at_n =
        ap (λ (k : ℕ). at_node (slice_get nodes k) (opening_state plan) (Standing x)) at_n
        ∙ ap (λ (o : Option Node). at_node o (opening_state plan) (Standing x)) there
        ∙ chosen (node.words.number == x.node) _ _ (eq-eqb node.words.number x.node (numbered ∙ sym at_n))

    pub stand_at : (k : ℕ) (p : Process) → slice_get processes k ≡ Some p
        → stand_in (now (Standing (name_of n p))) ≡ stand_of p.stand
    stand_at k p at =
        ap stand_in (stands_at (name_of n p) refl)
        ∙ ap (λ (j : ℕ). stand_or_absent (find (λ q. same_name (name_of node.words.number q) (name_of j p)) processes))
        (sym numbered)
        ∙ stand_found node.words.number processes k p node.processes.apart at

    -- whoever has another name is absent
    absent_at : (x : Name) → x.node ≡ n → IsNewName (names node) x → is_absent (stand_in (now (Standing x))) ≡ true
    absent_at x at_n new =
        ap (λ (v : Value). is_absent (stand_in v)) (stands_at x at_n
        ∙ ap (λ (o : Option Process). IsStand (stand_or_absent o)) (find_none (λ q. is_named x q) processes
        (λ k q at. others_differ (names node) x new k (name_of node.words.number q)
        (slice_get-map (name_of node.words.number) processes k
        ∙ ap (option_map (name_of node.words.number)) at))))

  -- all of its processes have berths
  module _ (l : Lodging) (homes : HasHomes node l) where
    pub all_lodge : lodgers nodes n l ≡ names node
    all_lodge =
        let long = names_long in
        ap (take (length l.homes.items)) names_are
        ∙ take_all (length l.homes.items) (names node) (omega (arith, long, homes.known))

-- all were housed before a call that changed some nodes
module _ (plan : Plan) (steps : List ProcessStep) (m : Machine) (done : HasDone plan m steps) (nodes : List Node)
    (g : NodesGrow m.nodes.items nodes) (changed : List ℕ)
    (stays : (k : ℕ) → (Contains changed k → ⊥) → slice_get nodes k ≡ slice_get m.nodes.items k) where
  was_housed : (n : ℕ) (l : Lodging) (node : Node) → slice_get m.nodes.items n ≡ Some node
      → IsHoused plan steps m.nodes.items done.group n l
      → WasHoused plan changed steps (machine_at plan m) nodes done.group n l
  was_housed n l node there h =
      let numbered = done.sound.nodes.numbers n node there in let homes = h.homes node there in
      let all = all_lodge m.nodes.items n node there numbered l homes in
      let long = names_long m.nodes.items n node there numbered in
      let (new, here, grows) = g.grow n node there in
      let same : lodgers nodes n l ≡ lodgers m.nodes.items n l =
      ap (λ (o : Option Node). take (length l.homes.items) (unwrap_or (option_map names o) [])) here
      ∙ take_same (length l.homes.items) (names node) (names new) (omega (arith, long, homes.known)) grows.names
      ∙ ap (take (length l.homes.items)) (sym (names_are m.nodes.items n node there numbered)) in
      record {
        lodged = subst (λ (xs : List Name). AreLodged plan n done.group xs l.homes.items steps l.berths.items)
            (sym same) h.lodged;
        had = ap amount_in (population_at m.nodes.items n node there numbered plan m.sent.items m.sinks.items)
            ∙ ap pos homes.had;
        others = λ x at_n new. absent_at m.nodes.items n node there numbered plan m.sent.items m.sinks.items x at_n
            (subst (λ (xs : List Name). IsNewName xs x) (same ∙ all) new);
        elsewhere = λ away x at. h.homes x (sym (stays n away) ∙ at);
      }

  pub were_housed : (a : machine.Agent) → ((x : Name) → a ≡ machine.Process x → Contains changed x.node)
      → WereHoused plan changed a steps (machine_at plan m) nodes done.group m.lodgings.items
  were_housed a home =
      record {
        many = done.housed.many ∙ sym g.many;
        home = home;
        housed = λ n l has free.
            let low : n < length m.nodes.items =
            omega (arith, slice_get_within m.lodgings.items n l has, done.housed.many) in
            let (node, there) = at_low m.nodes.items n low in
            was_housed n l node there (done.housed.housed n l has free);
      }

-- agents that have done no step may have other numbers
pub housed_more : (plan : Plan) (steps : List ProcessStep) (nodes : List Node) (group more : AgentNumbers)
    (lodgings : List Lodging) → AgreeOn (number_by group) (number_by more) steps
    → AreHoused plan steps nodes group lodgings → AreHoused plan steps nodes more lodgings
housed_more plan steps nodes group more lodgings agree h =
    record {
      many = h.many;
      housed = λ n l has free. let is = h.housed n l has free in record {
        homes = is.homes;
        lodged = lodged_agents_may_come plan n group more (lodgers nodes n l) l.homes.items steps l.berths.items
            is.lodged agree;
      };
    }

pub were_more : (plan : Plan) (changed : List ℕ) (a : machine.Agent) (steps : List ProcessStep) (s : State)
    (nodes : List Node) (group more : AgentNumbers) (lodgings : List Lodging)
    → AgreeOn (number_by group) (number_by more) steps → WereHoused plan changed a steps s nodes group lodgings
    → WereHoused plan changed a steps s nodes more lodgings
were_more plan changed a steps s nodes group more lodgings agree h =
    record {
      many = h.many;
      home = h.home;
      housed = λ n l has free. let was = h.housed n l has free in record {
        lodged = lodged_agents_may_come plan n group more (lodgers nodes n l) l.homes.items steps l.berths.items
            was.lodged agree;
        had = was.had;
        others = was.others;
        elsewhere = was.elsewhere;
      };
    }

-- the berths of one node follow the last step, which was told
module _ (plan : Plan) (number : ℕ) (at : List ℕ) (m : Machine) (t : HasTold plan number at m) (n : ℕ) (node : Node)
    (there : slice_get m.nodes.items n ≡ Some node) (old : Lodging)
    (was : WasHoused plan at t.earlier t.before m.nodes.items t.group n old) where
  abbrev ns : List Node
  ns = m.nodes.items

  abbrev lodging_names : List Name
  lodging_names = lodgers ns n old

  abbrev tells : TellsLives n t.step t.before (machine_at plan m)
  tells = t.tells n

  numbered : node.words.number ≡ n
  numbered = t.fits.nodes.numbers n node there

  had_now : amount_in (machine_at plan m (Population n)) ≡ pos node.population
  had_now = ap amount_in (population_at ns n node there numbered plan m.sent.items m.sinks.items)

  -- it has had as many as before
  as_many : HasHomes node old
      → amount_in (machine_at plan m (Population n)) ≡ amount_in (t.before (Population n))
  as_many homes = had_now ∙ ap pos homes.had ∙ sym was.had

  none_begins : HasHomes node old → begins n t.step ≡ false
  none_begins homes = tells.no_beginning (as_many homes)

  -- nothing begins or ends there
  still_housed : HasHomes node old
      → ((x : Name) → t.step.agent ≡ machine.Process x → x.node ≡ n
      → stand_in (machine_at plan m (Standing x)) ≢ value.Ended)
      → IsHoused plan (t.step ∷ t.earlier) ns t.group n old
  still_housed homes none =
      record {
        homes = homes_of ns n node there old homes;
        lodged = others_keep_berths plan n t.group lodging_names old.homes.items t.step t.earlier old.berths.items
            was.lodged (none_begins homes) (tells.no_ending none);
      }

  abbrev number_is : t.group t.step.agent ≡ number
  number_is = t.followed.numbered number t.step.agent t.numbered

  -- the clock of the step has counted the last one at a berth, which it takes or leaves
  counted_by : (berth : Berth) → HasCountedIfAny m.check number berth.last
      → HasCountedIfAny m.check (t.group t.step.agent) berth.last
  counted_by berth h = subst (λ (k : ℕ). HasCountedIfAny m.check k berth.last) (sym number_is) h

  set_by : (new : Lodging) (place : ℕ) (is_free : Bool)
      → new.berths.items ≡ slice_set old.berths.items place (moved_berth m.check number is_free)
      → slice_set old.berths.items place
      (record { is_free = is_free; last = Some (last_step m.check (t.group t.step.agent)) })
      ≡ new.berths.items
  set_by new place is_free e =
      ap (λ (k : ℕ). slice_set old.berths.items place (moved_berth m.check k is_free)) number_is ∙ sym e

  -- a process begins
  module _ (new : Lodging) (takes : Takes m.check number node old new) where
    abbrev h : ℕ
    h = length old.homes.items

    long : length new.homes.items ≡ h + 1
    long = ap length takes.housed ∙ length_push old.homes.items takes.place

    abbrev comer : Process
    comer = takes.present.known

    abbrev its_name : Name
    its_name = name_of n comer

    low : h < length (names node)
    low =
        let all = names_long ns n node there numbered in
        omega (arith, slice_get_within (processes ns n node there numbered) h comer takes.present.there, all)

    first_names : lodging_names ≡ take h (names node)
    first_names = ap (take h) (names_are ns n node there numbered)

    is_new : IsNewName lodging_names its_name
    is_new = new_name lodging_names its_name (λ k y at_k same.
        let (below, real) = among_first (names node) h k y
        (ap (λ (xs : List Name). slice_get xs k) (sym first_names) ∙ at_k) in
        let e : k ≡ h = apart_at ns n node there numbered k h y comer real takes.present.there same in
        absurd (omega (arith, below, e)))

    begun : begins n t.step ≡ true
    begun = tells.beginning (λ same.
        let one : pos node.population ≡ pos h = sym had_now ∙ same ∙ was.had in
        absurd (omega (arith, ints, one, takes.homes.had, long)))

    is_lodger : lodger t.step ≡ Some its_name
    is_lodger = tells.begun its_name begun (was.others its_name refl is_new)
        (ap is_absent (stand_at ns n node there numbered plan m.sent.items m.sinks.items h comer takes.present.there)
        ∙ takes.present.present)

    names_more : lodging_names ++ its_name ∷ [] ≡ lodgers ns n new
    names_more =
        ap (λ (xs : List Name). xs ++ its_name ∷ []) first_names
        ∙ ap (λ (x : Name). take h (names node) ++ x ∷ [])
        (sym (get_or_from_slice_get (names node) h its_name its_name
        (named_at ns n node there numbered h comer takes.present.there)))
        ∙ sym (take_more (names node) h its_name low)
        ∙ ap (λ (k : ℕ). take k (names node)) (sym long)
        ∙ ap (take (length new.homes.items)) (sym (names_are ns n node there numbered))

    taken_housed : IsHoused plan (t.step ∷ t.earlier) ns t.group n new
    taken_housed =
        record {
          homes = homes_of ns n node there new takes.homes;
          lodged =
              subst (λ (xs : List Name). AreLodged plan n t.group xs new.homes.items (t.step ∷ t.earlier)
              new.berths.items) names_more
              (subst (λ (hs : List ℕ). AreLodged plan n t.group (lodging_names ++ its_name ∷ []) hs
              (t.step ∷ t.earlier) new.berths.items) (sym takes.housed)
              (subst (AreLodged plan n t.group (lodging_names ++ its_name ∷ [])
              (old.homes.items ++ takes.place ∷ []) (t.step ∷ t.earlier))
              (set_by new takes.place false takes.berths)
              (beginnings_take_berths plan n (places m) t.group (agents m) lodging_names old.homes.items t.step
              t.earlier m.check (machine_at plan m) old.berths.items its_name takes.place takes.known.berth was.lodged
              t.followed
              begun (tells.one begun) is_lodger is_new takes.known.there takes.known.free
              (counted_by takes.known.berth takes.known.counted))));
        }

  -- the agent, by the number that it has
  module _ (a : Agent) (named : slice_get m.agents.items number ≡ Some a) where
    agent_is : t.step.agent ≡ agent_of ns a
    agent_is =
        same_Some t.step.agent (agent_of ns a)
        (sym t.numbered ∙ slice_get-map (agent_of ns) m.agents.items number ∙ ap (option_map (agent_of ns)) named)

    -- it has ended
    module _ (homes : HasHomes node old) (process : ℕ) (ended : HasEnded node a process) where
      abbrev gone : Name
      gone = name_of n ended.known

      its_own : t.step.agent ≡ machine.Process gone
      its_own =
          agent_is ∙ ap (agent_of ns) (ended.named ∙ ap (λ (k : ℕ). agent.Process k process) numbered)
          ∙ ap machine.Process (name_known ns t.fits.nodes.numbers n process node ended.known there ended.there)

      ends_now : ends n t.step ≡ true
      ends_now = tells.ending gone its_own refl
          (stand_at ns n node there numbered plan m.sent.items m.sinks.items process ended.known ended.there
          ∙ ap stand_of ended.ended)

      all_named : lodging_names ≡ names node
      all_named = all_lodge ns n node there numbered old homes

      within : process < length lodging_names
      within =
          let long = names_long ns n node there numbered in
          let low = slice_get_within (processes ns n node there numbered) process ended.known ended.there in
          omega (arith, low, long, ap length all_named)

      has_number : number_of_name lodging_names gone ≡ process
      has_number = number_there lodging_names process gone
          (ap (λ (xs : List Name). slice_get xs process) all_named
          ∙ named_at ns n node there numbered process ended.known ended.there)
          (λ j y below at_j same.
          let e : j ≡ process = apart_at ns n node there numbered j process y ended.known
          (ap (λ (xs : List Name). slice_get xs j) (sym all_named) ∙ at_j) ended.there same in
          absurd (omega (arith, below, e)))

      left_housed : (new : Lodging) → Leaves m.check number process old new
          → IsHoused plan (t.step ∷ t.earlier) ns t.group n new
      left_housed new leaves =
          let same : length new.homes.items ≡ length old.homes.items = ap length leaves.housed in
          record {
            homes = homes_of ns n node there new
                (record { had = homes.had ∙ sym same; known = homes.known ∙ sym same });
            lodged =
                subst (λ (hs : List ℕ). AreLodged plan n t.group (take (length hs) (names_in ns n)) hs
                (t.step ∷ t.earlier) new.berths.items) (sym leaves.housed)
                (subst (AreLodged plan n t.group lodging_names old.homes.items (t.step ∷ t.earlier))
                (set_by new leaves.place true leaves.berths)
                (ends_leave_berths plan n (places m) t.group (agents m) lodging_names old.homes.items t.step t.earlier
                m.check (machine_at plan m) old.berths.items gone leaves.place leaves.known.known.berth was.lodged
                t.followed (none_begins homes) ends_now (tells.ended gone its_own ends_now)
                (subst (λ (k : ℕ). k < length lodging_names) (sym has_number) within)
                (ap (slice_index old.homes.items) has_number
                ∙ get_or_from_slice_get old.homes.items process leaves.place 0 leaves.known.home)
                leaves.known.known.there leaves.known.known.free
                (counted_by leaves.known.known.berth leaves.known.known.counted)));
          }

    -- it has not ended there
    not_ended : ((process : ℕ) → HasEnded node a process → ⊥) → (x : Name) → t.step.agent ≡ machine.Process x
        → x.node ≡ n → stand_in (machine_at plan m (Standing x)) ≢ value.Ended
    not_ended none x is at_n ended = by a (all_at (IsThere ns) m.agents.items t.fits.there number a named) refl
      where
        by : (b : Agent) → IsThere ns b → a ≡ b → ⊥
        by (agent.Process k j) (y, at_k, low) e =
            let name : name_there ns k j ≡ x =
            let both : machine.Process (name_there ns k j) ≡ machine.Process x =
            sym (agent_is ∙ ap (agent_of ns) e) ∙ is in cc in
            let (p, at_j) = at_low y.processes.items.items j low in
            let known : name_there ns k j ≡ name_of k p = name_known ns t.fits.nodes.numbers k j y p at_k at_j in
            let one : k ≡ n = sym (ap (λ (z : Name). z.node) (sym name ∙ known)) ∙ at_n in
            let it : y ≡ node = same_Some y node (sym at_k ∙ ap (λ (i : ℕ). slice_get ns i) one ∙ there) in
            let here : slice_get node.processes.items.items j ≡ Some p =
            ap (λ (z : Node). slice_get z.processes.items.items j) (sym it) ∙ at_j in
            none j (record {
              named = e ∙ ap (λ (i : ℕ). agent.Process i j) (one ∙ sym numbered);
              known = p;
              there = here;
              ended = ended_so p.stand
                  (sym (stand_at ns n node there numbered plan m.sent.items m.sinks.items j p here)
                  ∙ ap (λ (z : Name). stand_in (machine_at plan m (Standing z)))
                  (ap (λ (i : ℕ). name_of i p) (sym one) ∙ sym known ∙ name)
                  ∙ ended);
            })
        by (agent.Channel k j) h e =
            let both : machine.Channel k _ ≡ machine.Process x = sym (agent_is ∙ ap (agent_of ns) e) ∙ is in cc
        by (agent.Wire f) h e =
            let both : machine.Wire f ≡ machine.Process x = sym (agent_is ∙ ap (agent_of ns) e) ∙ is in cc
        by (agent.Successor k j) h e =
            let both : machine.Successor k j ≡ machine.Process x = sym (agent_is ∙ ap (agent_of ns) e) ∙ is in cc

    -- in each case all have their berths
    moved_housed : (new : Lodging) → Moves m.check number node a old new
        → IsHoused plan (t.step ∷ t.earlier) ns t.group n new
    moved_housed new (inl takes) = taken_housed new takes
    moved_housed new (inr (inl (homes, (process, ended, leaves)))) = left_housed homes process ended new leaves
    moved_housed new (inr (inr (homes, none, same))) =
        subst (λ (l : Lodging). IsHoused plan (t.step ∷ t.earlier) ns t.group n l) (sym same)
        (still_housed homes (not_ended none))

-- those of all nodes
module _ (plan : Plan) (number : ℕ) (at : List ℕ) (m new : Machine) (t : HasTold plan number at m)
    (lodges : LodgesAt number at m new) where
  -- a node that has not changed
  away_housed : (n : ℕ) (l : Lodging) → (Contains at n → ⊥) → slice_get new.lodgings.items n ≡ Some l
      → l.is_crowded ≡ false → IsHoused plan (t.step ∷ t.earlier) m.nodes.items t.group n l
  away_housed n l away has free =
      let had : slice_get m.lodgings.items n ≡ Some l = sym (lodges.others n away) ∙ has in
      let low : n < length m.nodes.items =
      omega (arith, slice_get_within m.lodgings.items n l had, t.housed.many) in
      let (node, there) = at_low m.nodes.items n low in
      let was = t.housed.housed n l had free in
      still_housed plan number at m t n node there l was (was.elsewhere away node there)
      (λ x is at_n ended. away (subst (λ (k : ℕ). Contains at k) at_n (t.housed.home x is)))

  -- one that has
  here_by : (n : ℕ) (l old : Lodging) (node : Node) (a : Agent) → Contains at n
      → slice_get new.lodgings.items n ≡ Some l → l.is_crowded ≡ false → slice_get m.lodgings.items n ≡ Some old
      → slice_get m.nodes.items n ≡ Some node → slice_get m.agents.items number ≡ Some a
      → IsHoused plan (t.step ∷ t.earlier) m.nodes.items t.group n l
  here_by n l old node a among has free had there named = by (lodges.here n node a old among there named had)
    where
      by : (k : Lodging) × (slice_get new.lodgings.items n ≡ Some k) × Lodges m.check number node a old k
          → IsHoused plan (t.step ∷ t.earlier) m.nodes.items t.group n l
      by (k, is, follows) =
          let moves : (old.is_crowded ≡ false) × Moves m.check number node a old l =
          subst (Lodges m.check number node a old) (same_Some k l (sym is ∙ has)) follows free in
          moved_housed plan number at m t n node there old (t.housed.housed n old had moves.0) a named l moves.1

  agent_low : number < length m.agents.items
  agent_low =
      subst (λ (k : ℕ). number < k) (length-map m.agents.items (agent_of m.nodes.items))
      (slice_get_within (agents m) number t.step.agent t.numbered)

  here_housed : (n : ℕ) (l : Lodging) → Contains at n → slice_get new.lodgings.items n ≡ Some l
      → l.is_crowded ≡ false → IsHoused plan (t.step ∷ t.earlier) m.nodes.items t.group n l
  here_housed n l among has free =
      by (at_low m.lodgings.items n low)
      (at_low m.nodes.items n (subst (λ (k : ℕ). n < k) t.housed.many low)) (at_low m.agents.items number agent_low)
    where
      low : n < length m.lodgings.items
      low = subst (λ (k : ℕ). n < k) lodges.many (slice_get_within new.lodgings.items n l has)

      by : (old : Lodging) × (slice_get m.lodgings.items n ≡ Some old)
          → (node : Node) × (slice_get m.nodes.items n ≡ Some node)
          → (a : Agent) × (slice_get m.agents.items number ≡ Some a)
          → IsHoused plan (t.step ∷ t.earlier) m.nodes.items t.group n l
      by (old, had) (node, there) (a, named) = here_by n l old node a among has free had there named

  pub all_housed : AreHoused plan (t.step ∷ t.earlier) m.nodes.items t.group new.lodgings.items
  all_housed =
      record {
        many = lodges.many ∙ t.housed.many;
        housed = λ n l has free. elim (contains_or_not at n) [
          | inl among ↦ here_housed n l among has free
          | inr away ↦ away_housed n l away has free
        ];
      }
