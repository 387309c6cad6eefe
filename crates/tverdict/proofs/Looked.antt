-- A machine that is looked at for agents that have a step.
use Rattle.std.proofs.Common.{◌≡◌, ◌<◌, ◌+◌, ℕ, refl, sym, ap, ◌∙◌, subst, true}
use Rattle.std.proofs.Common.{List, [], ◌∷◌, ◌++◌, Option, All, length, ◌⊎◌, inl, inr, arith, vec_len}
use Rattle.std.specs.Prelude.{slice_get, Contains, map, ◌↔◌, option_to_list, Result, Ok, Err, IfOk, OnOk}
use Rattle.std.proofs.lemmas.List.{length-map, map_push, length_push}
use Rattle.std.proofs.lemmas.List.Elements.{All-pop, All-push, All-weaker, Contains-append_left}
use Rattle.std.proofs.lemmas.List.Elements.{Contains-push, Contains-push_cases}
use Rattle.std.proofs.lemmas.Option.{slice_get_within}
use Rattle.tplan.specs.declared.plan.Plan.{Plan}
use Rattle.tagents.specs.Walks.{are_open}
use Rattle.tclocks.specs.Checks.{Check, with_agent, with_slot}
use Rattle.tprocesses.specs.Machine as machine
use Rattle.tprocesses.specs.Machine.{process_machine}
use Rattle.tfollow.specs.Following.{HasEnded, IsFollowed}
use Rattle.tfollow.specs.Laws as laws
use Rattle.tfollow.specs.Numbering.{HasNumber, IsNew}
use Rattle.tfollow.proofs.Growing.{agents_may_come}
use Rattle.tverdict.specs.declared.agent.Agent.{Agent}
use Rattle.tverdict.specs.declared.agent.Agent.TheVariants as agent
use Rattle.tverdict.specs.declared.machine.Machine.{Machine}
use Rattle.tverdict.specs.Agents.{IsMet, IsThere, agent_of}
use Rattle.tverdict.specs.Coming.{AddsAgent}
use Rattle.tverdict.specs.Lodging.{AreHoused}
use Rattle.tverdict.specs.Machines.{AreFound, AreOwn, Follows, HasStep, IsSound, agents, machine_at, places}
use Rattle.tverdict.specs.Next.{AreThoseWithSteps, IsLookedAt, IsLookedOver, IsNext, IsReadySuccessor}
use Rattle.tverdict.proofs.Distinct.{others_new}
use Rattle.tverdict.proofs.Housed.{housed_more}
use Rattle.tverdict.proofs.Keeping.{get_last}
use Rattle.tverdict.proofs.Opens.{has_number, successor_open}
use Rattle.tverdict.proofs.Recalled.{no_new_steps, own_grown}

pub looked_twice : (old mid new : Machine) → IsLookedAt old mid → IsLookedAt mid new → IsLookedAt old new
looked_twice old mid new first second =
    second ∙ ap (λ (m : Machine). record m { candidates = new.candidates }) first

module _ (plan : Plan) (old new : Machine) (same : IsLookedAt old new) where
  -- the machine with other candidates
  abbrev other : Machine
  other = record old { candidates = new.candidates }

  -- who has a step has it still
  pub steps_stay : (number : ℕ) → HasStep plan old number → HasStep plan new number
  steps_stay number h =
      let still : HasStep plan other number =
      record { agent = h.agent; numbered = h.numbered; opened = h.opened } in
      subst (λ (m : Machine). HasStep plan m number) (sym same) still

  -- and nobody else
  pub steps_were : (number : ℕ) → HasStep plan new number → HasStep plan old number
  steps_were number h =
      let still : HasStep plan other number = subst (λ (m : Machine). HasStep plan m number) same h in
      record { agent = still.agent; numbered = still.numbered; opened = still.opened }

  pub agents_stay : new.agents ≡ old.agents
  agents_stay = ap (λ (m : Machine). m.agents) same

  -- all fits together still, if all candidates have numbers of agents
  pub sound_still : IsSound plan old → All (λ number. number < length old.agents.items) new.candidates.items
      → IsSound plan new
  sound_still s fit =
      let still : IsSound plan other = record {
        nodes = s.nodes;
        sent = s.sent;
        sinks = s.sinks;
        wires = s.wires;
        found = s.found;
        there = s.there;
        candidates = fit;
        places = s.places;
        few = s.few;
        kept_places = s.kept_places;
      } in
      subst (λ (m : Machine). IsSound plan m) (sym same) still

  pub follows_still : Follows plan old → IsSound plan new → Follows plan new
  follows_still f s =
      let sound : IsSound plan other = subst (λ (m : Machine). IsSound plan m) same s in
      let still : Follows plan other = (
        f.0,
        record {
          count = (f.1).count;
          sound = sound;
          group = (f.1).group;
          followed = (f.1).followed;
          housed = (f.1).housed;
          own = (f.1).own;
        },
      ) in
      subst (λ (m : Machine). Follows plan m) (sym same) still

  pub looked_over : IsLookedOver old new
  looked_over =
      record {
        same = same
            ∙ ap (λ (m : Machine).
            record old { agents = m.agents; hints = m.hints; check = m.check; candidates = new.candidates })
            (sym same);
        comes = inl (agents_stay, ap (λ (m : Machine). m.check) same);
      }

  -- one candidate is taken out
  pub taken_sound : IsSound plan old → (taken : Option ℕ)
      → old.candidates.items ≡ new.candidates.items ++ option_to_list taken → IsSound plan new
  taken_sound s taken pops =
      sound_still s ((All-pop (λ number. number < length old.agents.items) old.candidates.items new.candidates.items
      taken pops s.candidates).0)

  -- one more candidate
  pub added_sound : IsSound plan old → (number : ℕ) → number < length old.agents.items
      → new.candidates.items ≡ old.candidates.items ++ number ∷ [] → IsSound plan new
  added_sound s number low adds =
      sound_still s (subst (λ (xs : List ℕ). All (λ k. k < length old.agents.items) xs) (sym adds)
      (All-push (λ k. k < length old.agents.items) old.candidates.items number s.candidates low))

  pub kept_sound : IsSound plan old → new.candidates.items ≡ old.candidates.items → IsSound plan new
  kept_sound s keeps =
      sound_still s (subst (λ (xs : List ℕ). All (λ k. k < length old.agents.items) xs) (sym keeps) s.candidates)

-- of the first agents those who have a step are candidates
pub record IsSeeking (plan : Plan) (old : Machine) (count : ℕ) (m : Machine) : Type 0 where
  pub sound : IsSound plan m
  pub looked : IsLookedAt old m
  pub those : (number : ℕ) → Contains m.candidates.items number ↔ ((number < count) × HasStep plan m number)

pub seeking_begins : (plan : Plan) (m : Machine) → IsSound plan m → m.candidates.items ≡ [] → IsSeeking plan m 0 m
seeking_begins plan m sound none =
    record {
      sound = sound;
      looked = refl;
      those = λ number. (
        λ has. (let (k, low, is) = has in absurd (omega (arith, low, ap length none))),
        λ h. absurd (omega (arith, h.0)),
      );
    }

module _ (plan : Plan) (old m : Machine) (count : ℕ) (i : IsSeeking plan old count m) where
  -- the next one has no step
  pub seeking_passes : (HasStep plan m count → ⊥) → IsSeeking plan old (count + 1) m
  seeking_passes none =
      record {
        sound = i.sound;
        looked = i.looked;
        those = λ number. (
          λ has. (let (low, h) = (i.those number).0 has in (omega (arith, low), h)),
          λ h. elim (below number h.0) as (λ _. Contains m.candidates.items number) [
            | inl low ↦ (i.those number).1 (low, h.1)
            | inr same ↦ absurd (none (subst (λ (k : ℕ). HasStep plan m k) same h.1))
          ],
        );
      }
    where
      below : (number : ℕ) → number < count + 1 → (number < count) ⊎ (number ≡ count)
      below number h = grind arith

  -- or it has one
  pub seeking_finds : HasStep plan m count → (new : Machine) → IsLookedAt m new
      → new.candidates.items ≡ m.candidates.items ++ count ∷ [] → IsSeeking plan old (count + 1) new
  seeking_finds has new same adds =
      record {
        sound = added_sound plan m new same i.sound count (has_number plan m count has) adds;
        looked = looked_twice old m new i.looked same;
        those = λ number. (
          λ is. elim (Contains-push_cases m.candidates.items count number
              (subst (λ (xs : List ℕ). Contains xs number) adds is)) as
              (λ _. (number < count + 1) × HasStep plan new number) [
                | inl before ↦
                    let (low, h) = (i.those number).0 before in
                    (omega (arith, low), steps_stay plan m new same number h)
                | inr last ↦ (
                  omega (arith, last),
                  subst (λ (k : ℕ). HasStep plan new k) last
                      (steps_stay plan m new same count has),
                )
              ],
          λ h. subst (λ (xs : List ℕ). Contains xs number) (sym adds)
              (elim (below number h.0) as (λ _. Contains (m.candidates.items ++ count ∷ []) number) [
                | inl low ↦ Contains-append_left m.candidates.items (count ∷ []) number
                    ((i.those number).1 (low, steps_were plan m new same number h.1))
                | inr same ↦ subst (λ (k : ℕ). Contains (m.candidates.items ++ count ∷ []) k) (sym same)
                    (Contains-push m.candidates.items count)
              ]),
        );
      }
    where
      below : (number : ℕ) → number < count + 1 → (number < count) ⊎ (number ≡ count)
      below number h = grind arith

  -- where all agents were looked at
  pub seeking_ends : count ≡ length old.agents.items → AreThoseWithSteps plan m
  seeking_ends all = λ number. (
    λ has. ((i.those number).0 has).1,
    λ h. (i.those number).1 (
      (let low : number < length m.agents.items = has_number plan m number h in
          let long : length m.agents.items ≡ length old.agents.items =
          ap (λ (x : Machine). length x.agents.items) i.looked in omega (arith, low, long, all)),
      h,
    ),
  )

-- a candidate among those who have a step is taken out: it has one
pub taken_has : (plan : Plan) (old new : Machine) (number : ℕ) → IsLookedAt old new → AreThoseWithSteps plan old
    → old.candidates.items ≡ new.candidates.items ++ number ∷ [] → HasStep plan new number
taken_has plan old new number same those pops =
    steps_stay plan old new same number ((those number).0 (subst (λ (xs : List ℕ). Contains xs number) (sym pops)
    (Contains-push new.candidates.items number)))

-- no candidate is left, so nobody has a step
pub nobody_has : (plan : Plan) (old new : Machine) → IsLookedAt old new → AreThoseWithSteps plan old
    → vec_len old.candidates ≡ 0 → (number : ℕ) → HasStep plan new number → ⊥
nobody_has plan old new same those none number h =
    let (k, low, is) = (those number).1 (steps_were plan old new same number h) in omega (arith, low, none)

-- a successor that has a step comes to the list, where nobody in it has one
module _ (plan : Plan) (old new : Machine) (f : Follows plan old) (none : (number : ℕ) → HasStep plan old number → ⊥)
    (a : Agent) (ready : IsReadySuccessor old.nodes.items a) (number : ℕ) (adds : AddsAgent old a number new) where
  place_is : ready.node.words.number ≡ ready.place
  place_is = (f.1).sound.nodes.numbers ready.place ready.node ready.there

  abbrev comer : machine.Agent
  comer = agent_of old.nodes.items a

  comer_is : comer ≡ machine.Successor ready.place ready.number
  comer_is =
      ap (agent_of old.nodes.items) ready.named
      ∙ ap (λ (n : ℕ). machine.Successor n ready.number) place_is

  opened : are_open (process_machine plan) comer (machine_at plan old) ≡ true
  opened =
      ap (λ (b : machine.Agent). are_open (process_machine plan) b (machine_at plan old)) comer_is
      ∙ successor_open plan old.nodes.items old.sent.items old.sinks.items ready.place ready.node ready.there place_is
      ready.number ready.word ready.has
      ∙ ready.awaits

  is_new : IsNew (agents old) comer
  is_new =
      others_new (agents old) comer (λ k b numbered same. none k (record {
        agent = b;
        numbered = numbered;
        opened = ap (λ (c : machine.Agent). are_open (process_machine plan) c (machine_at plan old)) same ∙ opened;
      }))

  not_ended : HasEnded comer (machine_at plan old) → ⊥
  not_ended ended = subst (λ (c : machine.Agent). HasEnded c (machine_at plan old)) comer_is ended

  comes : laws.HasCome plan (places old) (f.1).group (agents old ++ comer ∷ []) f.0
      (with_slot (with_agent old.check)) (machine_at plan old)
  comes =
      agents_may_come plan (places old) (f.1).group (agents old) f.0 old.check (machine_at plan old) comer
      (f.1).followed is_new not_ended

  -- the machine with one agent more
  abbrev more : Machine
  more = record old { agents = new.agents; hints = new.hints; check = new.check; candidates = new.candidates }

  agents_more : agents more ≡ agents old ++ comer ∷ []
  agents_more =
      ap (λ (xs : List Agent). map (agent_of old.nodes.items) xs) adds.agents
      ∙ map_push (agent_of old.nodes.items) old.agents.items a

  is_there : IsThere old.nodes.items a
  is_there =
      subst (λ (b : Agent). IsThere old.nodes.items b) (sym ready.named) (
        ready.node,
        ap (λ (n : ℕ). slice_get old.nodes.items n) place_is ∙ ready.there,
        slice_get_within ready.node.words.items.items ready.number ready.word ready.has,
      )

  more_found : AreFound plan old.nodes.items new.agents.items
  more_found =
      subst (λ (xs : List Agent). AreFound plan old.nodes.items xs) (sym adds.agents) (record {
        processes = λ n k h. elim ((f.1).sound.found.processes n k h) as
            (λ _. IsMet old.nodes.items (old.agents.items ++ a ∷ []) (agent.Process n k)) [
              | inl has ↦ inl (Contains-append_left old.agents.items (a ∷ []) (agent.Process n k) has)
              | inr ended ↦ inr ended
            ];
        channels = λ n k h. Contains-append_left old.agents.items (a ∷ []) (agent.Channel n k)
            ((f.1).sound.found.channels n k h);
        wires = λ e s h. Contains-append_left old.agents.items (a ∷ []) (agent.Wire e)
            ((f.1).sound.found.wires e s h);
      })

  long : length new.agents.items ≡ length old.agents.items + 1
  long = ap length adds.agents ∙ length_push old.agents.items a

  more_candidates : All (λ k. k < length new.agents.items) new.candidates.items
  more_candidates =
      subst (λ (xs : List ℕ). All (λ k. k < length new.agents.items) xs) (sym adds.candidates)
      (All-push (λ k. k < length new.agents.items) old.candidates.items number
      (All-weaker (λ k. k < length old.agents.items) (λ k. k < length new.agents.items)
      (λ k low. omega (arith, low, long)) old.candidates.items (f.1).sound.candidates)
      (omega (arith, long, adds.last)))

  more_sound : IsSound plan more
  more_sound =
      record {
        nodes = (f.1).sound.nodes;
        sent = (f.1).sound.sent;
        sinks = (f.1).sound.sinks;
        wires = (f.1).sound.wires;
        found = more_found;
        there = subst (λ (xs : List Agent). All (IsThere old.nodes.items) xs) (sym adds.agents)
            (All-push (IsThere old.nodes.items) old.agents.items a (f.1).sound.there is_there);
        candidates = more_candidates;
        places = ap (λ (c : Check). length c.places) adds.check ∙ (f.1).sound.places;
        few = (f.1).sound.few;
        kept_places = (f.1).sound.kept_places;
      }

  more_followed : IsFollowed plan (places old) comes.group (agents more) f.0 new.check (machine_at plan old)
  more_followed =
      subst (λ (c : Check). IsFollowed plan (places old) comes.group (agents more) f.0 c (machine_at plan old))
      (sym adds.check)
      (subst (λ (xs : List machine.Agent). IsFollowed plan (places old) comes.group xs f.0
      (with_slot (with_agent old.check)) (machine_at plan old)) (sym agents_more) comes.followed)

  more_housed : AreHoused plan f.0 old.nodes.items comes.group old.lodgings.items
  more_housed =
      housed_more plan f.0 old.nodes.items (f.1).group comes.group old.lodgings.items comes.kept (f.1).housed

  pub comer_follows : Follows plan new
  comer_follows =
      let still : Follows plan more = (
        f.0,
        record {
          count = (f.1).count;
          sound = more_sound;
          group = comes.group;
          followed = more_followed;
          housed = more_housed;
          own = λ j n is. subst (λ (c : Check). AreOwn old.nodes.items c j n) (sym adds.check)
              (own_grown old.check (no_new_steps plan (places old) (f.1).group (agents old) f.0 old.check
              (machine_at plan old) (f.1).followed).begun old.nodes.items j n ((f.1).own j n is));
        },
      ) in
      subst (λ (m : Machine). Follows plan m) (sym adds.same) still

  pub comer_steps : HasStep plan new number
  comer_steps =
      let last : HasNumber (agents more) comer number =
      ap (λ (xs : List machine.Agent). slice_get xs number) agents_more
      ∙ ap (λ (k : ℕ). slice_get (agents old ++ comer ∷ []) k)
      (adds.last ∙ sym (length-map old.agents.items (agent_of old.nodes.items)))
      ∙ get_last (agents old) comer in
      let still : HasStep plan more number =
      record { agent = comer; numbered = last; opened = opened } in
      subst (λ (m : Machine). HasStep plan m number) (sym adds.same) still

  pub comer_looked : IsLookedOver old new
  comer_looked =
      record {
        same = adds.same;
        comes = inr (
          ready.node.words.number,
          ready.number,
          adds.agents ∙ ap (λ (b : Agent). old.agents.items ++ b ∷ []) ready.named,
          adds.check,
        );
      }

-- a look, and then a look over all
pub looked_then_over : (old mid new : Machine) → IsLookedAt old mid → IsLookedOver mid new → IsLookedOver old new
looked_then_over old mid new first second =
    record {
      same = second.same
          ∙ ap (λ (m : Machine).
          record m { agents = new.agents; hints = new.hints; check = new.check; candidates = new.candidates }) first;
      comes = elim second.comes as (λ _. ((new.agents ≡ old.agents) × (new.check ≡ old.check))
          ⊎ ((n k : ℕ) × (new.agents.items ≡ old.agents.items ++ agent.Successor n k ∷ [])
          × (new.check ≡ with_slot (with_agent old.check)))) [
            | inl (same, check) ↦
                inl (same ∙ ap (λ (m : Machine). m.agents) first, check ∙ ap (λ (m : Machine). m.check) first)
            | inr (n, k, same, check) ↦ inr (
              n,
              k,
              same ∙ ap (λ (m : Machine). m.agents.items ++ agent.Successor n k ∷ []) first,
              check ∙ ap (λ (m : Machine). with_slot (with_agent m.check)) first,
            )
          ];
    }

-- where a look over all words has found the next one, if memory was there for it
abbrev pub Finds : Machine → Machine → Option ℕ → Type 0
Finds old new next =
    (plan : Plan) → Follows plan old → ((number : ℕ) → HasStep plan old number → ⊥)
    → Follows plan new × IsNext plan new next

module _ (plan : Plan) (old new : Machine) (f : Follows plan old)
    (none : (number : ℕ) → HasStep plan old number → ⊥) where
  pub found_follows : {E : Type 0} (r : Result (Option ℕ) E) → IfOk r (Finds old new) → OnOk r (Follows plan new)
  found_follows (Ok next) h = (h plan f none).0
  found_follows (Err e) h = tt

  pub found_next : {E : Type 0} (r : Result (Option ℕ) E) → IfOk r (Finds old new) → IfOk r (IsNext plan new)
  found_next (Ok next) h = (h plan f none).1
  found_next (Err e) h = tt
