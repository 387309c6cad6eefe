-- Steps that are told, by a run that is made again.
use Rattle.std.proofs.Common.{◌≡◌, ◌≢◌, ◌+◌, ◌-◌, ◌++◌, ◌∷◌, [], ℕ, suc, inl, inr, refl, sym, ap, ◌∙◌, subst, arith}
use Rattle.std.proofs.Common.{Bool, true, false, List, Option, Some, None, cond}
use Rattle.std.specs.Prelude.{◌==◌, IfSome, if◌then◌else◌, slice_get}
use Rattle.std.proofs.lemmas.Bool.{false≢true}
use Rattle.std.proofs.lemmas.List.Elements.{All-cons, All-nil}
use Rattle.std.proofs.lemmas.List.Sums.{sum_by-append, sum_by-cons}
use Rattle.std.proofs.lemmas.Option.{none-some}
use Rattle.tplan.specs.declared.plan.Plan.{Plan}
use Rattle.tcertify.specs.declared.node.Node.{Node}
use Rattle.tverdict.specs.declared.agent.Agent.{Agent}
use Rattle.tverdict.specs.declared.machine.Machine.{Machine}
use Rattle.tverdict.specs.declared.turn.Turn.{Turn}
use Rattle.tverdict.specs.declared.turn.Turn.TheVariants as turn
use Rattle.tverdict.specs.Machines.{Follows, IsAtStart}
use Rattle.tverdict.specs.Turns.{IsTurned}
use Rattle.tfindings.specs.declared.finding.Code.{Code}
use Rattle.tfindings.specs.Steps.{AreEarlier, AreMade, ArePartedBy, IsCounted, Past, address_of, goes_on, holder, is_by}
use Rattle.tfindings.specs.Steps.{stands_at, steps_with}

-- of the steps of a run so many with a number were made before this agent came to have it
pub record IsParted (number : ℕ) (who : Option Agent) (past : List Past) (many : ℕ) : Type 0 where
  pub since : List Past
  pub earlier : List Past
  pub parted : ArePartedBy number who past since earlier
  pub counted : many ≡ steps_with number earlier

-- a run was made again up to this machine: `count` of its steps were made with a number, and so many of them before the
-- agent that has it now came to have it
pub record IsAgain (plan : Plan) (number : ℕ) (m : Machine) (count earlier : ℕ) : Type 0 where
  pub past : List Past
  pub run : AreMade plan past m
  pub counted : count ≡ steps_with number past
  pub parted : IsParted number (holder m number) past earlier

-- before its first step
pub opens_again : (plan : Plan) (number : ℕ) (m : Machine) → IsAtStart plan m → IsAgain plan number m 0 0
opens_again plan number m start = record {
  past = [];
  run = start;
  counted = refl;
  parted = record {
    since = [];
    earlier = [];
    parted = record { all = refl; have = All-nil _; had = tt };
    counted = refl;
  };
}

-- its machine follows a run
pub follows_again : (plan : Plan) (past : List Past) (m : Machine) → AreMade plan past m → Follows plan m
follows_again plan [] m start = ([], start.nothing)
follows_again plan (s ∷ earlier) m (run, made, is) = subst (Follows plan) is made.follows

-- after the last step the agent that has the number now has it
last_holder : (plan : Plan) (number : ℕ) (past : List Past) (m : Machine) (who : Option Agent) → AreMade plan past m
    → holder m number ≢ who → IfSome (slice_get past 0) (λ s. holder s.after number ≢ who)
last_holder plan number [] m who start other = tt
last_holder plan number (s ∷ earlier) m who (run, made, is) other =
    λ e. other (ap (λ (x : Machine). holder x number) (sym is) ∙ e)

earlier_of : (b a h h' : Option Agent) (count earlier now : ℕ) → b ≡ h → a ≡ h' → AreEarlier b a count earlier now
    → AreEarlier h h' count earlier now
earlier_of b a h h' count earlier now e f x =
    subst (λ (o : Option Agent). AreEarlier h o count earlier now) f
    (subst (λ (o : Option Agent). AreEarlier o a count earlier now) e x)

parted_by : (plan : Plan) (number : ℕ) (m : Machine) (who : Option Agent) (count earlier now : ℕ)
    → (again : IsAgain plan number m count earlier) → AreEarlier (holder m number) who count earlier now
    → IsParted number who again.past now
parted_by plan number m who count earlier now again (inl (same, is)) =
    let old = again.parted in
    record {
      since = old.since;
      earlier = old.earlier;
      parted = subst (λ (a : Option Agent). ArePartedBy number a again.past old.since old.earlier) same old.parted;
      counted = is ∙ old.counted;
    }
parted_by plan number m who count earlier now again (inr (other, is)) = record {
  since = [];
  earlier = again.past;
  parted = record {
    all = refl;
    have = All-nil _;
    had = last_holder plan number again.past m who again.run other;
  };
  counted = is ∙ again.counted;
}

-- by who has the number after the next turn
pub parted_on : (plan : Plan) (number : ℕ) (m m' : Machine) (before after : Option Agent) (count earlier now : ℕ)
    → (again : IsAgain plan number m count earlier) → before ≡ holder m number → after ≡ holder m' number
    → AreEarlier before after count earlier now → IsParted number (holder m' number) again.past now
parted_on plan number m m' before after count earlier now again b a x =
    parted_by plan number m (holder m' number) count earlier now again
    (earlier_of before after (holder m number) (holder m' number) count earlier now b a x)

-- a turn after which the run goes on has made a step
made_step : (t : Turn) → goes_on t ≡ true → (number : ℕ) × (t ≡ turn.Made number)
made_step (turn.Made number) on = (number, refl)
made_step turn.Over on = absurd (false≢true on)
made_step (turn.Stops number why) on = absurd (false≢true on)
made_step (turn.Race race) on = absurd (false≢true on)

one_more : (b : Bool) (count old total now : ℕ) → now ≡ (if b then count + 1 else count) → count ≡ old
    → total ≡ cond b 1 0 + old → now ≡ total
one_more true count old total now is was all = omega (arith, is, was, all)
one_more false count old total now is was all = omega (arith, is, was, all)

-- after such a turn a longer run was made again
pub goes_on_again : (plan : Plan) (number : ℕ) (m m' : Machine) (t : Turn) (count earlier now counted : ℕ)
    → (again : IsAgain plan number m count earlier) → goes_on t ≡ true → IsTurned plan m t m'
    → IsParted number (holder m' number) again.past now
    → counted ≡ (if is_by t number then count + 1 else count) → IsAgain plan number m' counted now
goes_on_again plan number m m' t count earlier now counted again on turned parted is =
    let (k, made) = made_step t on in
    let s : Past = record { number = k; before = m; after = m' } in
    let test = λ (x : Past). x.number == number in
    record {
      past = s ∷ again.past;
      run = (again.run, subst (λ (x : Turn). IsTurned plan m x m') made turned, refl);
      counted =
          one_more (k == number) count (steps_with number again.past) (steps_with number (s ∷ again.past)) counted
          (is ∙ ap (λ (x : Turn). if is_by x number then count + 1 else count) made) again.counted
          (sum_by-cons (λ x. cond (test x) 1 0) s again.past);
      parted = record {
        since = s ∷ parted.since;
        earlier = parted.earlier;
        parted = record {
          all = ap (λ (xs : List Past). s ∷ xs) parted.parted.all;
          have = All-cons (λ x. holder x.after number ≡ holder m' number) s parted.since refl parted.parted.have;
          had = parted.parted.had;
        };
        counted = parted.counted;
      };
    }

-- how a step is counted among those with its number
pub counted_as : (b : Bool) (count old now : ℕ) (which : Option ℕ) (t : Turn) → b ≡ true → count ≡ old
    → now ≡ (if b then count + 1 else count) → IsCounted which now t → IsCounted which (suc old) t
counted_as true count old now which t by was is counted =
    let all : now ≡ suc old = omega (arith, is, was) in subst (λ (n : ℕ). IsCounted which n t) all counted
counted_as false count old now which t by was is counted = absurd (false≢true by)

both_parts : (number : ℕ) (past since earlier : List Past) → past ≡ since ++ earlier
    → steps_with number past ≡ steps_with number since + steps_with number earlier
both_parts number past since earlier e =
    ap (steps_with number) e ∙ sum_by-append (λ x. cond (x.number == number) 1 0) since earlier

-- its number since its agent has this number
pub numbered_as : (b : Bool) (number count many now told : ℕ) (who : Option Agent) (past : List Past)
    → (parted : IsParted number who past many) → b ≡ true → count ≡ steps_with number past
    → now ≡ (if b then count + 1 else count) → told ≡ now - many → told ≡ suc (steps_with number parted.since)
numbered_as true number count many now told who past parted by was is told_is =
    let parts = both_parts number past parted.since parted.earlier parted.parted.all in
    omega (arith, is, was, told_is, parts, parted.counted)
numbered_as false number count many now told who past parted by was is told_is = absurd (false≢true by)

-- where its agent stood before
pub stood_before : (nodes : List Node) (before : Option Agent) (a : Agent) (address : Option ℕ) (code : Option Code)
    → IfSome before (λ x. x ≡ a) → address ≡ address_of nodes before → IfSome code (λ c. address ≡ Some c.address)
    → IfSome code (λ c. stands_at nodes a ≡ Some c.address)
stood_before nodes before a address None had is at = tt
stood_before nodes None a address (Some c) had is at = absurd (none-some c.address (sym is ∙ at))
stood_before nodes (Some b) a address (Some c) had is at = ap (stands_at nodes) (sym had) ∙ sym is ∙ at
