-- What only grows was no more before, so what a certificate tells of its end holds before each of its steps.
use Rattle.std.proofs.Common.{◌≡◌, ℕ, refl, sym, subst, Bool, true, false, true≢false, List, [], ◌∷◌}
use Rattle.std.specs.Prelude.{◌&&◌, if◌then◌else◌}
use Rattle.tplan.specs.declared.plan.Plan.{Plan}
use Rattle.tagents.specs.Agents.{Does, IsRun}
use Rattle.tprocesses.specs.Places.{Place, HasRun, FlagChanged, same_place}
use Rattle.tprocesses.specs.Values.{Value, IsFlag, flag_in}
use Rattle.tprocesses.specs.Changes.{Change, Raise, apply}
use Rattle.tprocesses.specs.Parts.{Changed, made}
use Rattle.tprocesses.specs.Opening.{opening_state}
use Rattle.tprocesses.specs.Certified.{ProcessStep, machine_of}
use Rattle.tseen.specs.Throughout.{KeptFlagsThroughout, RunsAreTold}
use Rattle.tprocesses.proofs.Leaving.{IsTame, AllTame}
use Rattle.tprocesses.proofs.Living.{step_tame, step_makes}
use Rattle.tseen.proofs.After.{State}

-- something that held of a value before each tame change at a place, if it holds after it
module _ (p : Plan) (q : Place) (P : Value → Type 0)
    (back : (r : Place) (c : Change) → IsTame r c → same_place r q ≡ true → (v : Value) → P (apply c v) → P v) where
  before_changes : (cs : List Changed) (v : Value) → AllTame cs → P (made cs q v) → P v
  before_changes [] v t h = h
  before_changes (x ∷ cs) v t h = by (same_place x.place q) refl (λ u. before_changes cs u t.1) h
    where
      by : (b : Bool) → same_place x.place q ≡ b → ((u : Value) → P (made cs q u) → P u)
          → P (made cs q (if b then apply x.change v else v)) → P v
      by true e rest h = back x.place x.change t.0 e v (rest (apply x.change v) h)
      by false e rest h = rest v h

  before_step : (s s' : State) (e : ProcessStep) → Does (machine_of p) s e s' → P (s' q) → P (s q)
  before_step s s' e does h =
      before_changes e.deed.changes (s q) (step_tame p s s' e does) (subst P (sym (step_makes p s s' e does q)) h)

  pub before_run : (steps : List ProcessStep) (s end : State) → IsRun (machine_of p) s steps end → P (end q) → P (s q)
  before_run [] s end r h = subst (λ (z : State). P (z q)) (sym r) h
  before_run (e ∷ es) s end r h = before_step s r.0 e r.1 (before_run es r.0 end r.2 h)

-- which changes are tame
more_runs : (n q : ℕ) (r : Place) (c : Change) → IsTame r c → same_place r (HasRun n q) ≡ true → c ≡ Raise
more_runs n q (HasRun m i) c h e = h
more_runs n q _ c h e = absurd (true≢false (sym e))

more_changed : (n : ℕ) (r : Place) (c : Change) → IsTame r c → same_place r (FlagChanged n) ≡ true → c ≡ Raise
more_changed n (FlagChanged m) c h e = h
more_changed n _ c h e = absurd (true≢false (sym e))

-- what they make of a value
abbrev IsClear : Value → Type 0
IsClear v = flag_in v ≡ false

not_raised : (v : Value) → IsClear (apply Raise v) → IsClear v
not_raised (IsFlag b) h = absurd (true≢false h)
not_raised _ h = h

-- a flag that is clear at the end was clear before
run_clear : (p : Plan) (n q : ℕ) (s end : State) (steps : List ProcessStep) → IsRun (machine_of p) s steps end
    → IsClear (end (HasRun n q)) → IsClear (s (HasRun n q))
run_clear p n q s end steps run h =
    before_run p (HasRun n q) IsClear
    (λ r c t e v k. not_raised v (subst (λ (z : Change). IsClear (apply z v)) (more_runs n q r c t e) k))
    steps s end run h

changed_clear : (p : Plan) (n : ℕ) (s end : State) (steps : List ProcessStep) → IsRun (machine_of p) s steps end
    → IsClear (end (FlagChanged n)) → IsClear (s (FlagChanged n))
changed_clear p n s end steps run h =
    before_run p (FlagChanged n) IsClear
    (λ r c t e v k. not_raised v (subst (λ (z : Change). IsClear (apply z v)) (more_changed n r c t e) k))
    steps s end run h

-- not both flags are set, if they were not both set later
not_both : (a b a' b' : Bool) → (a' ≡ false → a ≡ false) → (b' ≡ false → b ≡ false) → (a' && b') ≡ false
    → (a && b) ≡ false
not_both false b a' b' f g h = refl
not_both true false a' b' f g h = refl
not_both true true false b' f g h = absurd (true≢false (f refl))
not_both true true true false f g h = absurd (true≢false (g refl))
not_both true true true true f g h = absurd (true≢false h)

pub kept_flags_throughout : KeptFlagsThroughout
kept_flags_throughout p s end steps run h n =
    not_both (flag_in (s (FlagChanged n)) && flag_in (s (HasRun n 0))) (flag_in (s (HasRun n 1)))
    (flag_in (end (FlagChanged n)) && flag_in (end (HasRun n 0))) (flag_in (end (HasRun n 1)))
    (not_both (flag_in (s (FlagChanged n))) (flag_in (s (HasRun n 0))) (flag_in (end (FlagChanged n)))
    (flag_in (end (HasRun n 0))) (changed_clear p n s end steps run) (run_clear p n 0 s end steps run))
    (run_clear p n 1 s end steps run) (h n)

-- what is no flag was none before
abbrev is_flag : Value → Bool
is_flag (IsFlag b) = true
is_flag _ = false

none_before : (v : Value) → is_flag (apply Raise v) ≡ false → is_flag v ≡ false
none_before (IsFlag b) h = h
none_before _ h = refl

flag_there : (v : Value) → is_flag v ≡ true → (b : Bool) × (v ≡ IsFlag b)
flag_there (IsFlag b) h = (b, refl)
flag_there _ h = absurd (true≢false (sym h))

pub runs_are_told : RunsAreTold
runs_are_told p s steps run n q = flag_there (s (HasRun n q)) (by (is_flag (s (HasRun n q))) refl)
  where
    by : (b : Bool) → is_flag (s (HasRun n q)) ≡ b → is_flag (s (HasRun n q)) ≡ true
    by true e = e
    by false e =
        absurd (true≢false (before_run p (HasRun n q) (λ v. is_flag v ≡ false)
        (λ r c t e v k. none_before v (subst (λ (z : Change). is_flag (apply z v) ≡ false) (more_runs n q r c t e) k))
        steps (opening_state p) s run e))
