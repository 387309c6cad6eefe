-- An agent that takes the number of a process that has ended.
use Rattle.std.proofs.Common.{◌≡◌, ◌≢◌, ◌<◌, ℕ, zero, suc, inl, inr, sym, ap, ◌∙◌, subst, true, List, ◌∷◌, ◌⊎◌, Some}
use Rattle.std.proofs.Common.{All, [], Contains, arith, length}
use Rattle.std.specs.Prelude.{map, slice_get, slice_set}
use Rattle.std.proofs.lemmas.Bool.{cases_eq}
use Rattle.std.proofs.lemmas.List.{length-set, map-set}
use Rattle.std.proofs.lemmas.List.Elements.{All-push, All-set}
use Rattle.std.proofs.lemmas.Option.{same_Some, slice_get_within}
use Rattle.tplan.specs.declared.plan.Plan.{Plan}
use Rattle.tclocks.specs.Checks.{Check, KnowsAll, with_added, with_cleared}
use Rattle.tprocesses.specs.Machine as machine
use Rattle.tcertify.specs.declared.lead.Lead.{Lead}
use Rattle.tcertify.specs.declared.node.Node.{Node}
use Rattle.tcertify.proofs.Places.{set_elsewhere, set_here}
use Rattle.tfollow.specs.Following.{IsFollowed}
use Rattle.tfollow.specs.Laws as laws
use Rattle.tfollow.specs.Leading.{leads_on}
use Rattle.tfollow.specs.Numbering.{HasNumber}
use Rattle.tfollow.proofs.Taking.{numbers_may_be_taken}
use Rattle.tfollow.proofs.Handing.{clocks_are_handed_on}
use Rattle.tverdict.specs.declared.agent.Agent.{Agent}
use Rattle.tverdict.specs.declared.machine.Machine.{Machine}
use Rattle.tverdict.specs.Agents.{IsEnded, IsThere, agent_of}
use Rattle.tverdict.specs.Coming.{HasCome, IsMissing, TakesNumber}
use Rattle.tverdict.specs.Machines.{AreOwn, agents, machine_at, places}
use Rattle.tverdict.specs.Stepping.{Fits, HandsOn, HasLead, HasMore, HasTold, IsLedTo, KeepsTold}
use Rattle.tverdict.proofs.Gone.{ended_is}
use Rattle.tverdict.proofs.Housed.{were_more}
use Rattle.tverdict.proofs.Keeping.{is_another, is_new, keeps_agents, keeps_same, not_ended, number_more, numbered_as}
use Rattle.tverdict.proofs.Keeping.{told_more}
use Rattle.tverdict.proofs.Recalled.{no_new_steps, own_cleared}

-- an agent has taken a number
module _ (m m' : Machine) (number : ℕ) (a : Agent) (k : ℕ) (takes : TakesNumber m number a k m') where
  -- the machine with it
  abbrev it : Machine
  it =
      record m {
        agents = m'.agents;
        hints = m'.hints;
        spare = m'.spare;
        check = m'.check;
        candidates = m'.candidates;
      }

  abbrev comer : machine.Agent
  comer = agent_of m.nodes.items a

  agents_now : agents it ≡ slice_set (agents m) k comer
  agents_now =
      ap (map (agent_of m.nodes.items)) takes.agents ∙ map-set (agent_of m.nodes.items) m.agents.items k a

  as_many : length m'.agents.items ≡ length m.agents.items
  as_many = ap length takes.agents ∙ length-set m.agents.items k a

  low : k < length m.agents.items
  low = slice_get_within m.agents.items k takes.free.holder takes.free.had

  fits_it : (plan : Plan) → IsThere m.nodes.items a → Fits plan m → Fits plan it
  fits_it plan there f =
      record {
        nodes = f.nodes;
        sent = f.sent;
        sinks = f.sinks;
        wires = f.wires;
        there = subst (All (IsThere m.nodes.items)) (sym takes.agents)
            (All-set (IsThere m.nodes.items) m.agents.items k a there f.there);
        candidates = subst (λ (n : ℕ). All (λ j. j < n) m'.candidates.items) (sym as_many)
            (subst (All (λ j. j < length m.agents.items)) (sym takes.candidates)
            (All-push (λ j. j < length m.agents.items) m.candidates.items k f.candidates low));
        places = ap (λ (c : Check). length c.places) takes.check ∙ f.places;
        few = f.few;
        kept_places = f.kept_places;
      }

  -- the last step leads to it
  module _ (n : ℕ) (l : Lead) (has : HasLead m.nodes.items n l) (there : IsThere m.nodes.items a)
      (missing : IsMissing m a) where
    module _ (plan : Plan) (at : List ℕ) (among : Contains at n) (named : IsLedTo plan n l a)
        (t : HasTold plan number at m) where
      leads : leads_on plan t.step comer ≡ true
      leads = t.leads n l a among has named (is_another m a there missing plan number at t)

      known : KnowsAll m.check (t.group t.step.agent) k
      known =
          subst (λ (j : ℕ). KnowsAll m.check j k) (sym (t.followed.numbered number t.step.agent t.numbered))
          takes.free.known

      comes : laws.HasCome plan (places m) t.group (slice_set (agents m) k comer) (t.step ∷ t.earlier)
          (with_cleared k m.check) (machine_at plan m)
      comes =
          numbers_may_be_taken plan (places m) t.group (agents m) t.step t.earlier m.check (machine_at plan m) comer
          (agent_of m.nodes.items takes.free.holder) k t.followed (is_new m a there missing plan number at t)
          (not_ended m a there missing plan number at t) (numbered_as m k takes.free.holder takes.free.had)
          (ended_is plan m t.fits.nodes.numbers takes.free.holder takes.free.ended) known leads

      followed_it : IsFollowed plan (places m) comes.group (agents it) (t.step ∷ t.earlier) m'.check
          (machine_at plan m)
      followed_it =
          subst (λ (c : Check). IsFollowed plan (places m) comes.group (agents it) (t.step ∷ t.earlier) c
          (machine_at plan m)) (sym takes.check)
          (subst (λ (list : List machine.Agent). IsFollowed plan (places m) comes.group list (t.step ∷ t.earlier)
          (with_cleared k m.check) (machine_at plan m)) (sym agents_now) comes.followed)

      told_it : HasTold plan number at it
      told_it =
          record {
            step = t.step;
            earlier = t.earlier;
            count = t.count;
            numbered = subst (λ (list : List machine.Agent). HasNumber list t.step.agent number) (sym agents_now)
                (set_elsewhere (agents m) k number comer takes.free.other ∙ t.numbered);
            group = comes.group;
            followed = followed_it;
            leads = t.leads;
            fits = fits_it plan there t.fits;
            before = t.before;
            tells = t.tells;
            housed = were_more plan at t.step.agent t.earlier t.before m.nodes.items t.group comes.group
                m.lodgings.items comes.kept.1 t.housed;
            own = λ j is. subst (λ (c : Check). AreOwn m.nodes.items c number j) (sym takes.check)
                (own_cleared m.check (no_new_steps plan (places m) t.group (agents m) (t.step ∷ t.earlier) m.check
                (machine_at plan m) t.followed).begun m.nodes.items number j (t.own j is) k);
          }

    -- all others keep their numbers, but the one that had it, which has ended
    taken_more : HasMore m m'
    taken_more =
        let nodes : m'.nodes.items ≡ m.nodes.items = ap (λ (x : Machine). x.nodes.items) takes.same in
        let long = as_many in
        record {
          nodes = nodes;
          done = ap (λ (x : Machine). x.done) takes.same;
          kept = record {
            many = omega (arith, long);
            kept = λ j x at. elim (cases_eq k j) as
                (λ _. (slice_get m'.agents.items j ≡ Some x) ⊎ IsEnded m'.nodes.items x) [
                  | inl e ↦
                      let same : takes.free.holder ≡ x =
                      same_Some takes.free.holder x
                      (sym takes.free.had ∙ ap (λ (i : ℕ). slice_get m.agents.items i) e ∙ at) in
                      inr (subst (λ (ns : List Node). IsEnded ns x) (sym nodes)
                      (subst (λ (y : Agent). IsEnded m.nodes.items y) same takes.free.ended))
                  | inr other ↦ inl (ap (λ (xs : List Agent). slice_get xs j) takes.agents
                      ∙ set_elsewhere m.agents.items k j a other ∙ at)
                ];
          };
        }

    told_taken : ((plan : Plan) → Fits plan m → IsLedTo plan n l a) → KeepsTold number n m m'
    told_taken named =
        record {
          more = taken_more;
          told = λ plan at among t. subst (HasTold plan number at) (sym takes.same)
              (told_it plan at among (named plan t.fits) t);
        }

  number_taken : slice_get m'.agents.items k ≡ Some a
  number_taken =
      ap (λ (xs : List Agent). slice_get xs k) takes.agents
      ∙ set_here m.agents.items k a takes.free.holder takes.free.had

-- an agent to which the last step leads has a number
module _ (m m' : Machine) (number : ℕ) (a : Agent) (k : ℕ) (come : HasCome m number a k m') where
  pub told_come : (n : ℕ) (l : Lead) → HasLead m.nodes.items n l → IsThere m.nodes.items a
      → ((plan : Plan) → Fits plan m → IsLedTo plan n l a) → KeepsTold number n m m'
  told_come n l has there named = elim come as (λ _. KeepsTold number n m m') [
    | inl (same, at) ↦ subst (KeepsTold number n m) (sym same) (keeps_same number n m)
    | inr (missing, comes) ↦ elim comes as (λ _. KeepsTold number n m m') [
      | inl adds ↦ told_more m m' a k adds number n there missing
      | inr takes ↦ told_taken m m' number a k takes n l has there missing named
    ]
  ]

  pub number_come : slice_get m'.agents.items k ≡ Some a
  number_come = elim come as (λ _. slice_get m'.agents.items k ≡ Some a) [
    | inl (same, at) ↦ ap (λ (x : Machine). slice_get x.agents.items k) same ∙ at
    | inr (missing, comes) ↦ elim comes as (λ _. slice_get m'.agents.items k ≡ Some a) [
      | inl adds ↦ number_more m m' a k adds
      | inr takes ↦ number_taken m m' number a k takes
    ]
  ]

  -- wires stay where it comes
  pub wires_come : m'.wires ≡ m.wires
  wires_come = elim come as (λ _. m'.wires ≡ m.wires) [
    | inl (same, at) ↦ ap (λ (x : Machine). x.wires) same
    | inr (missing, comes) ↦ elim comes as (λ _. m'.wires ≡ m.wires) [
      | inl adds ↦ ap (λ (x : Machine). x.wires) adds.same
      | inr takes ↦ ap (λ (x : Machine). x.wires) takes.same
    ]
  ]

only : (j n : ℕ) → Contains (j ∷ []) n → j ≡ n
only j n (zero, low, e) = e
only j n (suc i, low, e) = absurd (omega (arith, low))

-- the clock of the last step is handed on to another agent to which it leads
module _ (m m' : Machine) (number n to : ℕ) (hands : HandsOn m number to m') (a : Agent)
    (at : slice_get m.agents.items to ≡ Some a) (l : Lead) (has : HasLead m.nodes.items n l) (other : to ≡ number → ⊥)
  where
    abbrev handed : Machine
    handed = record m { check = m'.check; candidates = m'.candidates }

    module _ (plan : Plan) (at_nodes : List ℕ) (among : Contains at_nodes n) (named : IsLedTo plan n l a)
        (t : HasTold plan number at_nodes m) where
      -- it is another one
      is_other : agent_of m.nodes.items a ≢ t.step.agent
      is_other e =
          let f = t.followed in
          other (sym (f.numbered to (agent_of m.nodes.items a) (numbered_as m to a at))
          ∙ ap t.group e ∙ f.numbered number t.step.agent t.numbered)

      leads_other : leads_on plan t.step (agent_of m.nodes.items a) ≡ true
      leads_other = t.leads n l a among has named is_other

      followed_on : IsFollowed plan (places m) t.group (agents m) (t.step ∷ t.earlier) m'.check (machine_at plan m)
      followed_on =
          let f = t.followed in
          subst (λ (c : Check). IsFollowed plan (places m) t.group (agents m) (t.step ∷ t.earlier) c
          (machine_at plan m))
          (ap (λ (j : ℕ). with_added j to m.check) (f.numbered number t.step.agent t.numbered) ∙ sym hands.check)
          (clocks_are_handed_on plan (places m) t.group (agents m) t.step t.earlier m.check (machine_at plan m) to
          (agent_of m.nodes.items a) f (numbered_as m to a at) leads_other).added

      slots_same : length m'.check.places ≡ length m.check.places
      slots_same = ap (λ (c : Check). length c.places) hands.check

      -- the node has a lead
      no_lead : (j : ℕ) → at_nodes ≡ j ∷ [] → (node : Node) → slice_get m.nodes.items j ≡ Some node
          → node.leads.items ≡ [] → ⊥
      no_lead j is node there none =
          let (led, at_n, has_l) = has in
          let same : j ≡ n = only j n (subst (λ (ns : List ℕ). Contains ns n) is among) in
          let it : led ≡ node =
          same_Some led node (sym at_n ∙ ap (λ (i : ℕ). slice_get m.nodes.items i) (sym same) ∙ there) in
          let gone : Contains [] l =
          subst (λ (ls : List Lead). Contains ls l) (ap (λ (x : Node). x.leads.items) it ∙ none) has_l in
          absurd (omega (arith, gone.1))

      told_on : HasTold plan number at_nodes handed
      told_on =
          record {
            step = t.step;
            earlier = t.earlier;
            count = t.count;
            numbered = t.numbered;
            group = t.group;
            followed = followed_on;
            leads = t.leads;
            fits = record {
              nodes = t.fits.nodes;
              sent = t.fits.sent;
              sinks = t.fits.sinks;
              wires = t.fits.wires;
              there = t.fits.there;
              candidates = subst (All (λ j. j < length m.agents.items)) (sym hands.candidates)
                  (All-push (λ j. j < length m.agents.items) m.candidates.items to t.fits.candidates
                  (slice_get_within m.agents.items to a at));
              places = slots_same ∙ t.fits.places;
              few = t.fits.few;
              kept_places = t.fits.kept_places;
            };
            before = t.before;
            tells = t.tells;
            housed = t.housed;
            own = λ j is node note there none noted. absurd (no_lead j is node there none);
          }

    pub told_handed : ((plan : Plan) → Fits plan m → IsLedTo plan n l a) → KeepsTold number n m m'
    told_handed named =
        record {
          more = record {
            nodes = ap (λ (x : Machine). x.nodes.items) hands.same;
            done = ap (λ (x : Machine). x.done) hands.same;
            kept = keeps_agents m m' (ap (λ (x : Machine). x.agents) hands.same);
          };
          told = λ plan at_nodes among t. subst (HasTold plan number at_nodes) (sym hands.same)
              (told_on plan at_nodes among (named plan t.fits) t);
        }
