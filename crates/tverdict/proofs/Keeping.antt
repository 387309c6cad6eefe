-- A step that was told to the check stays so where agents come.
use Rattle.std.proofs.Common.{◌≡◌, ◌≢◌, ◌≤◌, ◌<◌, ◌+◌, ◌⊎◌, ℕ, zero, suc, inl, inr, refl, sym, ap, ◌∙◌, subst, List, []}
use Rattle.std.proofs.Common.{◌∷◌, ◌++◌, Some, All, Contains, arith, length}
use Rattle.std.specs.Prelude.{map, option_map, slice_get}
use Rattle.std.proofs.lemmas.Bool.{cases_eq}
use Rattle.std.proofs.lemmas.List.{length-append, length-map, map-append}
use Rattle.std.proofs.lemmas.List.Elements.{All-push, All-weaker}
use Rattle.std.proofs.lemmas.Option.{slice_get_within, slice_get-map, get_or_from_slice_get, slice_get-get_or}
use Rattle.tplan.specs.declared.plan.Plan.{Plan}
use Rattle.tclocks.specs.Checks.{Check, with_agent, with_slot}
use Rattle.tprocesses.specs.Machine as machine
use Rattle.tcertify.specs.declared.node.Node.{Node}
use Rattle.tfollow.specs.Following.{HasEnded, IsFollowed}
use Rattle.tfollow.specs.Laws as laws
use Rattle.tfollow.specs.Numbering.{HasNumber, IsNew}
use Rattle.tfollow.proofs.Growing.{agents_may_come}
use Rattle.tverdict.specs.declared.agent.Agent.{Agent}
use Rattle.tverdict.specs.declared.machine.Machine.{Machine}
use Rattle.tverdict.specs.Agents.{IsEnded, IsMet, IsThere, agent_of}
use Rattle.tverdict.specs.Coming.{AddsAgent, HasClocks, IsMissing, Meets}
use Rattle.tverdict.specs.Machines.{AreOwn, agents, machine_at, places}
use Rattle.tverdict.specs.Stepping.{Fits, HasMore, HasTold, KeepsAgents, KeepsTold}
use Rattle.tverdict.proofs.Distinct.{agent_new, not_new}
use Rattle.tverdict.proofs.Gone.{is_ended}
use Rattle.tverdict.proofs.Housed.{were_more}
use Rattle.tverdict.proofs.Recalled.{no_new_steps, own_grown}

-- an element stays where more come behind it
pub get_more : {X : Type 0} (xs ys : List X) (k : ℕ) (x : X) → slice_get xs k ≡ Some x → slice_get (xs ++ ys) k ≡ Some x
get_more [] ys k x e = cc
get_more (z ∷ xs) ys zero x e = e
get_more (z ∷ xs) ys (suc k) x e = get_more xs ys k x e

pub get_last : {X : Type 0} (xs : List X) (x : X) → slice_get (xs ++ x ∷ []) (length xs) ≡ Some x
get_last [] x = refl
get_last (z ∷ xs) x = get_last xs x

-- what stands at a number is contained
pub contains_at : {X : Type 0} (xs : List X) (k : ℕ) (x : X) → slice_get xs k ≡ Some x → Contains xs x
contains_at xs k x e = (k, slice_get_within xs k x e, get_or_from_slice_get xs k x x e)

-- agents that were found are found still, or have ended
pub found_more : (old new : Machine) → HasMore old new → (a : Agent) → Contains old.agents.items a
    → IsMet new.nodes.items new.agents.items a
found_more old new more a (k, low, e) =
    elim (more.kept.kept k a (slice_get-get_or old.agents.items k a low ∙ ap Some e)) as
    (λ _. IsMet new.nodes.items new.agents.items a) [
      | inl at ↦ inl (contains_at new.agents.items k a at)
      | inr ended ↦ inr ended
    ]

pub met_more : (old new : Machine) → HasMore old new → (a : Agent) → IsMet old.nodes.items old.agents.items a
    → IsMet new.nodes.items new.agents.items a
met_more old new more a (inl has) = found_more old new more a has
met_more old new more a (inr ended) = inr (subst (λ (ns : List Node). IsEnded ns a) (sym more.nodes) ended)

-- those that cannot end are found still
pub found_still : (nodes : List Node) (found : List Agent) (a : Agent) → (IsEnded nodes a → ⊥) → IsMet nodes found a
    → Contains found a
found_still nodes found a none (inl has) = has
found_still nodes found a none (inr ended) = absurd (none ended)

-- nothing has come
pub keeps_agents : (old new : Machine) → new.agents ≡ old.agents → KeepsAgents old new
keeps_agents old new same =
    record {
      many = let long : length new.agents.items ≡ length old.agents.items = ap (λ v. length v.items) same in
          omega (arith, long);
      kept = λ k a h. inl (ap (λ v. slice_get v.items k) same ∙ h);
    }

pub more_same : (m : Machine) → HasMore m m
more_same m = record { nodes = refl; done = refl; kept = keeps_agents m m refl }

pub more_twice : (a b c : Machine) → HasMore a b → HasMore b c → HasMore a c
more_twice a b c g h =
    record {
      nodes = h.nodes ∙ g.nodes;
      done = h.done ∙ g.done;
      kept = record {
        many = omega (arith, g.kept.many, h.kept.many);
        kept = λ k x at. elim (g.kept.kept k x at) as
            (λ _. (slice_get c.agents.items k ≡ Some x) ⊎ IsEnded c.nodes.items x) [
              | inl there ↦ h.kept.kept k x there
              | inr ended ↦ inr (subst (λ (ns : List Node). IsEnded ns x) (sym h.nodes) ended)
            ];
      };
    }

pub keeps_same : (number n : ℕ) (m : Machine) → KeepsTold number n m m
keeps_same number n m = record { more = more_same m; told = λ plan at has t. t }

pub keeps_twice : (number n : ℕ) (a b c : Machine) → KeepsTold number n a b → KeepsTold number n b c
    → KeepsTold number n a c
keeps_twice number n a b c g h =
    record { more = more_twice a b c g.more h.more; told = λ plan at has t. h.told plan at has (g.told plan at has t) }

-- the agent at a number, as one of the machine
pub numbered_as : (m : Machine) (k : ℕ) (a : Agent) → slice_get m.agents.items k ≡ Some a
    → HasNumber (agents m) (agent_of m.nodes.items a) k
numbered_as m k a at =
    slice_get-map (agent_of m.nodes.items) m.agents.items k
    ∙ ap (λ o. option_map (agent_of m.nodes.items) o) at

-- each number has its clock and its slot, that of the agent that stepped among them
pub has_clocks : (plan : Plan) (number : ℕ) (at : List ℕ) (m : Machine) → HasTold plan number at m → HasClocks m number
has_clocks plan number at m t =
    let clocks : length m.check.clocks ≡ length (agents m) = t.followed.clocks in
    let slots : length m.check.slots ≡ length (agents m) = t.followed.slots in
    let within : number < length (agents m) = slice_get_within (agents m) number t.step.agent t.numbered in
    let long : length (agents m) ≡ length m.agents.items = length-map m.agents.items (agent_of m.nodes.items) in
    record {
      clocks = omega (arith, clocks, long);
      slots = omega (arith, slots, long);
      low = omega (arith, within, long);
    }

-- an agent that comes, to a machine at which a step was told
module _ (m : Machine) (a : Agent) (there : IsThere m.nodes.items a) (missing : IsMissing m a) (plan : Plan)
    (number : ℕ) (at : List ℕ) (t : HasTold plan number at m) where
  abbrev comer : machine.Agent
  comer = agent_of m.nodes.items a

  -- it is new, and has not ended
  pub is_new : IsNew (agents m) comer
  is_new = agent_new m.nodes.items t.fits.nodes.numbers m.agents.items a t.fits.there there missing.none

  pub not_ended : HasEnded comer (machine_at plan m) → ⊥
  not_ended ended = missing.lives (is_ended plan m t.fits.nodes.numbers a there ended)

  -- and is not the one that stepped
  pub is_another : comer ≢ t.step.agent
  is_another same = not_new (agents m) comer number (t.numbered ∙ ap Some (sym same)) is_new

-- an agent has come with a number of its own
module _ (m m' : Machine) (a : Agent) (k : ℕ) (adds : AddsAgent m a k m') where
  -- the machine with it
  abbrev it : Machine
  it = record m { agents = m'.agents; hints = m'.hints; check = m'.check; candidates = m'.candidates }

  pub agents_now : agents it ≡ agents m ++ agent_of m.nodes.items a ∷ []
  agents_now =
      ap (map (agent_of m.nodes.items)) adds.agents
      ∙ map-append (agent_of m.nodes.items) m.agents.items (a ∷ [])

  longer : length m'.agents.items ≡ length m.agents.items + 1
  longer = ap length adds.agents ∙ length-append m.agents.items (a ∷ [])

  fits_it : (plan : Plan) → IsThere m.nodes.items a → Fits plan m → Fits plan it
  fits_it plan there f =
      let long = longer in
      record {
        nodes = f.nodes;
        sent = f.sent;
        sinks = f.sinks;
        wires = f.wires;
        there = subst (All (IsThere m.nodes.items)) (sym adds.agents)
            (All-push (IsThere m.nodes.items) m.agents.items a f.there there);
        candidates = subst (All (λ j. j < length m'.agents.items)) (sym adds.candidates)
            (All-push (λ j. j < length m'.agents.items) m.candidates.items k
            (All-weaker (λ j. j < length m.agents.items) (λ j. j < length m'.agents.items)
            (λ j low. omega (arith, low, long)) m.candidates.items f.candidates)
            (omega (arith, long, adds.last)));
        places = ap (λ (c : Check). length c.places) adds.check ∙ f.places;
        few = f.few;
        kept_places = f.kept_places;
      }

  module _ (plan : Plan) (number : ℕ) (at : List ℕ) (there : IsThere m.nodes.items a) (missing : IsMissing m a)
      (t : HasTold plan number at m) where
    comes : laws.HasCome plan (places m) t.group (agents m ++ agent_of m.nodes.items a ∷ [])
        (t.step ∷ t.earlier) (with_slot (with_agent m.check)) (machine_at plan m)
    comes =
        agents_may_come plan (places m) t.group (agents m) (t.step ∷ t.earlier) m.check (machine_at plan m)
        (agent_of m.nodes.items a) t.followed (is_new m a there missing plan number at t)
        (not_ended m a there missing plan number at t)

    followed_it : IsFollowed plan (places m) comes.group (agents it) (t.step ∷ t.earlier) m'.check (machine_at plan m)
    followed_it =
        subst (λ (c : Check). IsFollowed plan (places m) comes.group (agents it) (t.step ∷ t.earlier) c
        (machine_at plan m)) (sym adds.check)
        (subst (λ (list : List machine.Agent). IsFollowed plan (places m) comes.group list (t.step ∷ t.earlier)
        (with_slot (with_agent m.check)) (machine_at plan m)) (sym agents_now) comes.followed)

    told_it : HasTold plan number at it
    told_it =
        record {
          step = t.step;
          earlier = t.earlier;
          count = t.count;
          numbered = subst (λ (list : List machine.Agent). HasNumber list t.step.agent number) (sym agents_now)
              (get_more (agents m) (agent_of m.nodes.items a ∷ []) number t.step.agent t.numbered);
          group = comes.group;
          followed = followed_it;
          leads = t.leads;
          fits = fits_it plan there t.fits;
          before = t.before;
          tells = t.tells;
          housed = were_more plan at t.step.agent t.earlier t.before m.nodes.items t.group comes.group m.lodgings.items
              comes.kept.1 t.housed;
          own = λ n is. subst (λ (c : Check). AreOwn m.nodes.items c number n) (sym adds.check)
              (own_grown m.check (no_new_steps plan (places m) t.group (agents m) (t.step ∷ t.earlier) m.check
              (machine_at plan m) t.followed).begun m.nodes.items number n (t.own n is));
        }

  pub adds_more : HasMore m m'
  adds_more =
      let long = longer in
      record {
        nodes = ap (λ (x : Machine). x.nodes.items) adds.same;
        done = ap (λ (x : Machine). x.done) adds.same;
        kept = record {
          many = omega (arith, long);
          kept = λ j x at. inl (subst (λ (xs : List Agent). slice_get xs j ≡ Some x) (sym adds.agents)
              (get_more m.agents.items (a ∷ []) j x at));
        };
      }

  pub told_more : (number n : ℕ) → IsThere m.nodes.items a → IsMissing m a → KeepsTold number n m m'
  told_more number n there missing =
      record {
        more = adds_more;
        told = λ plan at has t. subst (HasTold plan number at) (sym adds.same) (told_it plan number at there missing t);
      }

  pub number_more : slice_get m'.agents.items k ≡ Some a
  number_more =
      ap (λ (xs : List Agent). slice_get xs k) adds.agents
      ∙ ap (λ (j : ℕ). slice_get (m.agents.items ++ a ∷ []) j) adds.last ∙ get_last m.agents.items a

-- an agent was found or has ended, or has come with a number of its own
module _ (m m' : Machine) (a : Agent) (meets : Meets m a m') where
  pub told_met : (number n : ℕ) → IsThere m.nodes.items a → KeepsTold number n m m'
  told_met number n there = elim meets as (λ _. KeepsTold number n m m') [
    | inl (same, met) ↦ subst (KeepsTold number n m) (sym same) (keeps_same number n m)
    | inr (missing, (k, adds)) ↦ told_more m m' a k adds number n there missing
  ]

  pub is_met : IsMet m'.nodes.items m'.agents.items a
  is_met = elim meets as (λ _. IsMet m'.nodes.items m'.agents.items a) [
    | inl (same, met) ↦ subst (λ (x : Machine). IsMet x.nodes.items x.agents.items a) (sym same) met
    | inr (missing, (k, adds)) ↦ inl (contains_at m'.agents.items k a (number_more m m' a k adds))
  ]

-- agents are found one after another
abbrev pub AreMetFrom : (ℕ → Agent) → ℕ → ℕ → Machine → Type 0
AreMetFrom make first end m = (k : ℕ) → first ≤ k → k < end → IsMet m.nodes.items m.agents.items (make k)

pub met_next : (make : ℕ → Agent) (first k j : ℕ) (m m' : Machine) → j ≡ k → HasMore m m'
    → AreMetFrom make first k m → IsMet m'.nodes.items m'.agents.items (make j) → AreMetFrom make first (k + 1) m'
met_next make first k j m m' e more met this i low high = elim (cases_eq i k) [
  | inl same ↦ subst (λ (n : ℕ). IsMet m'.nodes.items m'.agents.items (make n)) (e ∙ sym same) this
  | inr other ↦ met_more m m' more (make i) (met i low (omega (arith, high, other)))
]
