-- A step that was made goes on with the run.
use Rattle.std.proofs.Common.{◌≡◌, ◌<◌, ◌≤◌, ◌+◌, ℕ, inl, inr, sym, ap, ◌∙◌, subst, List, [], ◌∷◌, ◌++◌, Some}
use Rattle.std.proofs.Common.{length}
use Rattle.std.proofs.Common.{arith}
use Rattle.std.specs.Prelude.{IfOk, Result, Ok, Err, slice_get}
use Rattle.std.proofs.lemmas.List.{length_push}
use Rattle.tplan.specs.declared.plan.Plan.{Plan}
use Rattle.tverdict.specs.declared.agent.Agent.{Agent}
use Rattle.tverdict.specs.declared.agent.Agent.TheVariants as agent
use Rattle.tverdict.specs.declared.machine.Machine.{Machine}
use Rattle.tverdict.specs.declared.turn.Turn.{Turn}
use Rattle.tverdict.specs.declared.turn.Turn.TheVariants as turn
use Rattle.tverdict.specs.Machines.{Follows, HasNoStep, HasStep}
use Rattle.tverdict.specs.Next.{IsLookedAt, IsLookedOver}
use Rattle.tverdict.specs.Stepping.{KeepsAgents}
use Rattle.tverdict.specs.Still.{HasGone, HasTurned}
use Rattle.tverdict.specs.Turns.{HasMade, IsTurned}
use Rattle.tverdict.proofs.Keeping.{get_more}
use Rattle.tverdict.proofs.Looked.{added_sound, follows_still, steps_stay}
use Rattle.tverdict.proofs.Opens.{has_number}

-- a look over all leaves agents their numbers
over_keeps : (old new : Machine) → IsLookedOver old new → (number : ℕ) (a : Agent)
    → slice_get old.agents.items number ≡ Some a → slice_get new.agents.items number ≡ Some a
over_keeps old new over number a at = elim over.comes [
  | inl (same, check) ↦ ap (λ v. slice_get v.items number) same ∙ at
  | inr (n, k, more, check) ↦ ap (λ (xs : List Agent). slice_get xs number) more
      ∙ get_more old.agents.items (agent.Successor n k ∷ []) number a at
]

-- and they become no fewer
over_many : (old new : Machine) → IsLookedOver old new → length old.agents.items ≤ length new.agents.items
over_many old new over = elim over.comes as (λ _. length old.agents.items ≤ length new.agents.items) [
  | inl (same, check) ↦
      let long : length new.agents.items ≡ length old.agents.items = ap (λ v. length v.items) same in
      omega (arith, long)
  | inr (n, k, more, check) ↦
      let long : length new.agents.items ≡ length old.agents.items + 1 =
      ap length more ∙ length_push old.agents.items (agent.Successor n k) in
      omega (arith, long)
]

pub made : (plan : Plan) (old mid new last : Machine) (number : ℕ) → IsLookedOver old mid → HasStep plan mid number
    → Follows plan new → new.done ≡ mid.done + 1 → KeepsAgents mid new → IsLookedAt new last
    → last.candidates.items ≡ new.candidates.items ++ number ∷ [] → HasMade plan old number last
made plan old mid new last number over had f done kept same adds =
    let before : number < length mid.agents.items = has_number plan mid number had in
    let low : number < length new.agents.items = omega (arith, before, kept.many) in
    record {
      looked = mid;
      over = over;
      had = had;
      follows = follows_still plan new last same f (added_sound plan new last same (f.1).sound number low adds);
      done = ap (λ (m : Machine). m.done) same ∙ done
          ∙ ap (λ (k : ℕ). k + 1) (ap (λ (m : Machine). m.done) over.same);
      kept = subst (KeepsAgents old) (sym same) (record {
        many = omega (arith, over_many old mid over, kept.many);
        kept = λ k b there. kept.kept k b (over_keeps old mid over k b there);
      });
    }

-- a run is cut where an agent has one more step
pub cut : (plan : Plan) (old mid last : Machine) (number : ℕ) → IsLookedOver old mid → Follows plan mid
    → HasStep plan mid number → IsLookedAt mid last
    → last.candidates.items ≡ mid.candidates.items ++ number ∷ [] → (most : ℕ) → most ≤ old.done
    → Follows plan last × (most ≤ last.done) × ((k : ℕ) × HasStep plan last k)
cut plan old mid last number over f had same adds most enough = (
  follows_still plan mid last same f
      (added_sound plan mid last same (f.1).sound number (has_number plan mid number had) adds),
  subst (λ (k : ℕ). most ≤ k)
      (sym (ap (λ (m : Machine). m.done) same ∙ ap (λ (m : Machine). m.done) over.same)) enough,
  (number, steps_stay plan mid last same number had),
)

-- a turn alone
pub one_turned : (plan : Plan) (old new : Machine) (t : Turn) → IsTurned plan old t new → HasTurned plan old t new
one_turned plan old new (turn.Made k) made = (made.follows, grown made.done)
  where
    grown : new.done ≡ old.done + 1 → old.done < new.done
    grown one = omega (arith, one)
one_turned plan old new turn.Over over = (over.0, over.1)
one_turned plan old new (turn.Stops k why) h = h
one_turned plan old new (turn.Race race) h = h

-- where the agent of a turn goes on
module _ (plan : Plan) (old mid new : Machine) (number : ℕ) (made : HasMade plan old number mid) where
  gone_turned : (t : Turn) → HasGone plan mid t new → HasTurned plan old t new
  gone_turned (turn.Made k) (follows, more) = (follows, grown made.done more)
    where
      grown : mid.done ≡ old.done + 1 → mid.done ≤ new.done → old.done < new.done
      grown one more = omega (arith, one, more)
  gone_turned turn.Over none = absurd none
  gone_turned (turn.Stops k why) h = h
  gone_turned (turn.Race race) h = h

  pub all_turned : {E : Type 0} (r : Result Turn E)
      → IfOk r (λ t. (p : Plan) → Follows p mid → HasGone p mid t new) → IfOk r (λ t. HasTurned plan old t new)
  all_turned (Ok t) h = gone_turned t (h plan made.follows)
  all_turned (Err e) h = tt

-- what a turn tells where an agent has made steps, and where no agent has one
pub made_follows : (plan : Plan) (old new : Machine) (t : Turn) (n : ℕ) → t ≡ turn.Made n → HasTurned plan old t new
    → Follows plan new
made_follows plan old new t n is turned =
    let made : HasTurned plan old (turn.Made n) new = subst (λ (u : Turn). HasTurned plan old u new) is turned in made.0

pub over_follows : (plan : Plan) (old new : Machine) (t : Turn) → t ≡ turn.Over → HasTurned plan old t new
    → Follows plan new × HasNoStep plan new
over_follows plan old new t is turned = subst (λ (u : Turn). HasTurned plan old u new) is turned
