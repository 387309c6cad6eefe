-- Runs that are over.
use Rattle.std.proofs.Common.{◌≡◌, ◌<◌, ◌≤◌, ℕ, sym, ap, ◌∙◌, subst, Bool, true, false, List, [], ◌∷◌}
use Rattle.std.proofs.Common.{Option, Some, None, All, length, ◌⊎◌, inl, inr, refl, reverse}
use Rattle.std.proofs.Math.ListN.{get_or}
use Rattle.std.specs.Prelude.{◌==◌, ◌&&◌, int_le, not, pos, position, slice_get}
use Rattle.std.proofs.lemmas.Bool.{eq-eqb, false≢true, not-false, true≢false}
use Rattle.std.proofs.lemmas.List.Quantifiers.{position-Some}
use Rattle.std.proofs.lemmas.Option.{get_or_from_slice_get, slice_get_cases, slice_get-get_or, slice_get_past}
use Rattle.std.proofs.lemmas.Option.{slice_get_within}
use Rattle.tword.specs.Limits.{most_processes}
use Rattle.tplan.specs.declared.plan.NodePlan.{NodePlan}
use Rattle.tplan.specs.declared.plan.Plan.{Plan}
use Rattle.tnet.proofs.FirstFaults.{no_position}
use Rattle.tprocesses.specs.Certified.{HadFewAt, LiveFewAt, ProcessStep}
use Rattle.tprocesses.specs.Opening.{opening_state}
use Rattle.tprocesses.specs.Places.{Population, HasRun, FlagChanged}
use Rattle.tprocesses.specs.Values.{Value, IsAmount, IsFlag, amount_in, flag_in}
use Rattle.tprocesses.proofs.Living.{had_few_is_enough}
use Rattle.tprocesses.proofs.Tidy.{only_run}
use Rattle.tcertify.specs.declared.node.Node.{Node}
use Rattle.tcertify.specs.Running.{State}
use Rattle.tfollow.proofs.Ending.{certified, followed_runs_are_certificates}
use Rattle.tfollow.proofs.Lodged.{berths_let_few_live}
use Rattle.tverdict.specs.declared.lodging.Lodging.{Lodging}
use Rattle.tverdict.specs.declared.machine.Machine.{Machine}
use Rattle.tverdict.specs.Lodging.{is_crowded, lodgers}
use Rattle.tverdict.specs.Machines.{Follows, HasNoStep, at_node, machine_at, places, agents}
use Rattle.tverdict.specs.Verdicts.{EndsCertified, HadMany, HaveRoom, ChangedFlags, IsTooFull, had_many, changed_flags}
use Rattle.tverdict.specs.Verdicts.{is_crowded_at}
use Rattle.tverdict.proofs.Frames.{chosen}

-- what holds of all holds of each
pub all_at : {X : Type 0} (P : X → Type 0) (xs : List X) → All P xs → (k : ℕ) (x : X) → slice_get xs k ≡ Some x → P x
all_at P xs h k x e = subst P (get_or_from_slice_get xs k x x e) (h k x (slice_get_within xs k x e))

-- the first one that passes
pub first_at : {X : Type 0} (test : X → Bool) (xs : List X) (k : ℕ) → position test xs ≡ Some k
    → (x : X) × (slice_get xs k ≡ Some x) × (test x ≡ true)
first_at test [] k e = cc
first_at test (y ∷ ys) k e =
    let (low, holds, first) = position-Some test (y ∷ ys) k y e in
    (_, slice_get-get_or (y ∷ ys) k y low, holds)

module _ (plan : Plan) (m : Machine) (f : Follows plan m) where
  module _ (n : ℕ) (node : Node) (there : slice_get m.nodes.items n ≡ Some node) where
    same : (node.words.number == n) ≡ true
    same = eq-eqb node.words.number n ((f.1).sound.nodes.numbers n node there)

    population : machine_at plan m (Population n) ≡ IsAmount (pos node.population)
    population =
        ap (λ (o : Option Node). at_node o (opening_state plan) (Population n)) there
        ∙ chosen (node.words.number == n) _ _ same

    flag : machine_at plan m (FlagChanged n) ≡ IsFlag node.is_flag_changed
    flag =
        ap (λ (o : Option Node). at_node o (opening_state plan) (FlagChanged n)) there
        ∙ chosen (node.words.number == n) _ _ same

    high : machine_at plan m (HasRun n 0) ≡ IsFlag node.has_run_high
    high =
        ap (λ (o : Option Node). at_node o (opening_state plan) (HasRun n 0)) there
        ∙ chosen (node.words.number == n) _ _ same

    low : machine_at plan m (HasRun n 1) ≡ IsFlag node.has_run_low
    low =
        ap (λ (o : Option Node). at_node o (opening_state plan) (HasRun n 1)) there
        ∙ chosen (node.words.number == n) _ _ same

  abbrev nodes : List Node
  nodes = m.nodes.items

  gone : (n : ℕ) → length nodes ≤ n → slice_get plan.nodes n ≡ None
  gone n past = slice_get_past plan.nodes n (subst (λ (k : ℕ). k ≤ n) ((f.1).sound.nodes.many) past)

  nothing_lived : (n : ℕ) → length nodes ≤ n → slice_get nodes n ≡ None
      → machine_at plan m (Population n) ≡ IsAmount (pos 0)
  nothing_lived n past at =
      ap (λ (o : Option Node). at_node o (opening_state plan) (Population n)) at
      ∙ ap (λ (o : Option NodePlan). IsAmount (pos (elim o [ Some p ↦ length p.image.processes | None ↦ 0 ])))
      (gone n past)

  nothing_changed : (n : ℕ) → length nodes ≤ n → slice_get nodes n ≡ None
      → machine_at plan m (FlagChanged n) ≡ IsFlag false
  nothing_changed n past at = ap (λ (o : Option Node). at_node o (opening_state plan) (FlagChanged n)) at

  -- no more lived than may, since there never were more, or since each had a berth
  module _ (over : HasNoStep plan m) where
    abbrev steps : List ProcessStep
    steps = f.0

    by_had : (n : ℕ) → HadFewAt (machine_at plan m) n → LiveFewAt plan n
    by_had n few =
        had_few_is_enough plan n (reverse steps) (machine_at plan m)
        (only_run plan (reverse steps) (machine_at plan m)
        (certified plan (places m) (f.1).group (agents m) steps m.check (machine_at plan m) (f.1).followed over)) few

    by_berths : (n : ℕ) (o : Option Lodging) → slice_get m.lodgings.items n ≡ o → is_crowded o ≡ false
        → LiveFewAt plan n
    by_berths n None at roomy = absurd (true≢false roomy)
    by_berths n (Some l) at roomy =
        berths_let_few_live plan n (places m) (f.1).group (agents m) (lodgers nodes n l) l.homes.items steps m.check
        (machine_at plan m) l.berths.items (f.1).followed over ((f.1).housed.housed n l at roomy).lodged

    by_node : (n : ℕ) (x : Node) → slice_get nodes n ≡ Some x → (b : Bool) → had_many x ≡ b
        → (b ≡ true → is_crowded_at m.lodgings.items n ≡ false) → LiveFewAt plan n
    by_node n x at true many room = by_berths n (slice_get m.lodgings.items n) refl (room refl)
    by_node n x at false few room =
        by_had n (ap (λ (v : Value). int_le (amount_in v) (pos most_processes)) (population n x at)
        ∙ not-false _ few)

    few_by : HaveRoom nodes m.lodgings.items (length nodes) → (n : ℕ)
        → ((x : Node) × (n < length nodes) × (slice_get nodes n ≡ Some x) × (get_or nodes n x ≡ x))
        ⊎ ((length nodes ≤ n) × (slice_get nodes n ≡ None))
        → LiveFewAt plan n
    few_by room n (inl (x, low, at, g)) =
        by_node n x at (had_many x) refl (λ many. room n x low at many)
    few_by room n (inr (past, at)) =
        by_had n (ap (λ (v : Value). int_le (amount_in v) (pos most_processes)) (nothing_lived n past at))

  abbrev swaps : State → ℕ → Bool
  swaps s n = flag_in (s (FlagChanged n)) && flag_in (s (HasRun n 0)) && flag_in (s (HasRun n 1))

  as_node : (n : ℕ) (x : Node) → slice_get nodes n ≡ Some x → swaps (machine_at plan m) n ≡ changed_flags x
  as_node n x at =
      ap (λ (v : Value). flag_in v && flag_in (machine_at plan m (HasRun n 0))
      && flag_in (machine_at plan m (HasRun n 1)))
      (flag n x at)
      ∙ ap (λ (v : Value). x.is_flag_changed && flag_in v && flag_in (machine_at plan m (HasRun n 1))) (high n x at)
      ∙ ap (λ (v : Value). x.is_flag_changed && x.has_run_high && flag_in v) (low n x at)

  kept_by : position changed_flags nodes ≡ None → (n : ℕ)
      → ((x : Node) × (n < length nodes) × (slice_get nodes n ≡ Some x) × (get_or nodes n x ≡ x))
      ⊎ ((length nodes ≤ n) × (slice_get nodes n ≡ None))
      → swaps (machine_at plan m) n ≡ false
  kept_by none n (inl (x, low, at, g)) =
      as_node n x at ∙ all_at (λ y. changed_flags y ≡ false) nodes (no_position changed_flags nodes none) n x at
  kept_by none n (inr (past, at)) =
      ap (λ (v : Value). flag_in v && flag_in (machine_at plan m (HasRun n 0))
      && flag_in (machine_at plan m (HasRun n 1)))
      (nothing_changed n past at)

  -- a run that is over is certified, where no node is at fault
  pub ends_certified : HaveRoom nodes m.lodgings.items (length nodes) → position changed_flags nodes ≡ None
      → HasNoStep plan m → EndsCertified plan m
  ends_certified room kept over =
      record {
        steps = f.0;
        count = (f.1).count;
        certified = followed_runs_are_certificates plan (places m) (f.1).group (agents m) (f.0) m.check
            (machine_at plan m) (f.1).followed over (λ n. few_by over room n ((slice_get_cases nodes n).1))
            (λ n. kept_by kept n ((slice_get_cases nodes n).1));
      }

  pub had_many_at : (n : ℕ) → IsTooFull nodes n → HadMany (machine_at plan m) n
  had_many_at n (x, at, holds) few =
      false≢true (sym (ap not (sym (ap (λ (v : Value). int_le (amount_in v) (pos most_processes))
      (population n x at)) ∙ few)) ∙ holds)

  pub changed_at : (n : ℕ) → position changed_flags nodes ≡ Some n → ChangedFlags (machine_at plan m) n
  changed_at n is =
      let (x, at, holds) = first_at changed_flags nodes n is in
      as_node n x at ∙ holds
