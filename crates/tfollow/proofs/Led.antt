-- A step that has seen a gate shut, or has counted down for a successor, leads to the step behind that gate.
use Rattle.std.proofs.Common.{◌≡◌, ℕ, inl, inr, refl, sym, ◌∙◌, Bool, true, false, List, [], ◌∷◌, Some, None, Option}
use Rattle.std.proofs.Common.{true≢false, ◌||◌, slice_get}
use Rattle.std.specs.Prelude.{is_some}
use Rattle.std.specs.List.{list_any}
use Rattle.std.proofs.lemmas.Bool.{or_cases, or_left, or_right, and_from}
use Rattle.tplan.specs.declared.plan.NodePlan.{NodePlan}
use Rattle.tplan.specs.declared.plan.Plan.{Plan}
use Rattle.tagents.specs.Walks.{was_shut, was_opened, has_awoken, changes_at, label_of}
use Rattle.tclocks.proofs.Lists.{test}
use Rattle.tprocesses.specs.Places.{Place, WordAt, same_place}
use Rattle.tprocesses.specs.Values.{Value, Use, Last, IsWord}
use Rattle.tprocesses.specs.Values.{word_in}
use Rattle.tprocesses.specs.Changes.{Change, Put, Engage, Decrement, Add, Raise, is_last}
use Rattle.tprocesses.specs.Parts.{Reason, stopping, HasNoStep}
use Rattle.tprocesses.specs.Touching.{Site}
use Rattle.tprocesses.specs.Scheduling.{goes_on_after, successor_step}
use Rattle.tprocesses.specs.Machine.{Agent, Process, Channel, Wire, Successor, gates, site_of, step_of, process_machine}
use Rattle.tprocesses.specs.Certified.{ProcessStep, machine_of}
use Rattle.tprocesses.proofs.Tidy.{process_machine_is_tidy}
use Rattle.tcertify.specs.Running.{State, run_part}
use Rattle.tcertify.specs.Walked.{stop_of}
use Rattle.tcertify.proofs.Walking.{walked}
use Rattle.tfollow.specs.Leading.{has_seen_shut, is_count_down, has_counted_down}
use Rattle.tfollow.specs.Laws.{LeadsAreLeads}

-- where a weaker test is passed too
any-more : {X : Type 0} (f g : X → Bool) → ((x : X) → f x ≡ true → g x ≡ true) → (xs : List X) → list_any f xs ≡ true
    → list_any g xs ≡ true
any-more f g h [] any = any
any-more f g h (x ∷ xs) any =
    elim (or_cases (f x) (list_any f xs) any) as (λ _. list_any g (x ∷ xs) ≡ true) [
      | inl here ↦ or_left (g x) (list_any g xs) (h x here)
      | inr there ↦ or_right (g x) (list_any g xs) (any-more f g h xs there)
    ]

not-some : {X : Type 0} (x : Option X) → is_some x ≡ false → x ≡ None
not-some None h = refl
not-some (Some x) h = absurd (true≢false h)

-- a count that has come to its end awakens
awakens-last : (plan : Plan) (cs : List Change) (v : Value) → is_count_down cs ≡ true → is_last (word_in v).used ≡ true
    → has_awoken (process_machine plan) cs v ≡ true
awakens-last plan [] v h last = absurd (true≢false (sym h))
awakens-last plan (Put x ∷ cs) v h last = absurd (true≢false (sym h))
awakens-last plan (Engage ∷ cs) v h last = absurd (true≢false (sym h))
awakens-last plan (Add z ∷ cs) v h last = absurd (true≢false (sym h))
awakens-last plan (Raise ∷ cs) v h last = absurd (true≢false (sym h))
awakens-last plan (Decrement p ∷ c ∷ cs) v h last = absurd (true≢false (sym h))
awakens-last plan (Decrement p ∷ []) (IsWord w) h last = last
awakens-last plan (Decrement p ∷ []) _ h last = absurd (true≢false (sym last))

-- a successor goes on where the count has come to its end
last-goes-on : (s : Site) (k : ℕ) (u : Use) (state : State) → stop_of (run_part (goes_on_after s k u) state).0 ≡ None
    → is_last u ≡ true
last-goes-on s k (Last p) state h = refl
last-goes-on s k _ state h = some-none h
  where
    some-none : {A : Type 0} {x : Reason} → Some x ≡ None → A
    some-none e = absurd cc

module _ (plan : Plan) where
  pub place-same : (p : Place) → same_place p p ≡ true
  place-same p = elim (test (same_place p p)) as (λ _. same_place p p ≡ true) [
    | inl same ↦ same
    | inr differ ↦ absurd ((process_machine_is_tidy plan).told.not_same_place p p differ refl)
  ]

  -- the step of an agent that does not stop is a run that does not stop
  pub not-stopped : (a : Agent) (state : State)
      → (machine_of plan).stops (label_of (process_machine plan) a state) ≡ false
      → stop_of (run_part (step_of plan a) state).0 ≡ None
  not-stopped a state h = sym (walked plan (step_of plan a) state).stops ∙ not-some _ h

  is-last : (n k : ℕ) (state : State) → stop_of (run_part (step_of plan (Successor n k)) state).0 ≡ None
      → is_last (word_in (state (WordAt n k))).used ≡ true
  is-last n k state h = by (slice_get plan.nodes n) h
    where
      by : (t : Option NodePlan)
          → stop_of (run_part (elim t [ Some node ↦ successor_step k (site_of n node) | None ↦ stopping HasNoStep ])
          state).0 ≡ None
          → is_last (word_in (state (WordAt n k))).used ≡ true
      by (Some node) h = last-goes-on (site_of n node) k (word_in (state (WordAt n k))).used state h
      by None h = absurd cc

  opened : (step : ProcessStep) (n k : ℕ) (state : State) → has_counted_down plan step (Successor n k) ≡ true
      → is_last (word_in (state (WordAt n k))).used ≡ true
      → was_opened (process_machine plan) step.deed (WordAt n k)
      (label_of (process_machine plan) (Successor n k) state).seen ≡ true
  opened step n k state counted last =
      or_left _ _ (and_from _ _ (place-same (WordAt n k))
      (awakens-last plan (changes_at (process_machine plan) step.deed (WordAt n k)) (state (WordAt n k)) counted last))

  -- the step leads by what it has seen, or by what it has counted
  seen-leads : (step : ProcessStep) (a : Agent) (state : State) → has_seen_shut plan step a ≡ true
      → (machine_of plan).leads step (label_of (process_machine plan) a state) ≡ true
  seen-leads step a state h =
      any-more (λ p. was_shut (process_machine plan) a p step.seen)
      (λ p. was_shut (process_machine plan) a p step.seen
      || was_opened (process_machine plan) step.deed p (label_of (process_machine plan) a state).seen)
      (λ p shut. or_left _ _ shut) (gates plan a) h

  counted-leads : (step : ProcessStep) (a : Agent) (state : State)
      → (machine_of plan).stops (label_of (process_machine plan) a state) ≡ false
      → has_counted_down plan step a ≡ true
      → (machine_of plan).leads step (label_of (process_machine plan) a state) ≡ true
  counted-leads step (Process x) state goes h = absurd (true≢false (sym h))
  counted-leads step (Channel n c) state goes h = absurd (true≢false (sym h))
  counted-leads step (Wire e) state goes h = absurd (true≢false (sym h))
  counted-leads step (Successor n k) state goes h =
      or_left _ _ (or_right _ _ (opened step n k state h
      (is-last n k state (not-stopped (Successor n k) state goes))))

pub leads_are_leads : LeadsAreLeads
leads_are_leads plan step a state opened goes h =
    elim (or_cases (has_seen_shut plan step a) (has_counted_down plan step a) h) as
    (λ _. (machine_of plan).leads step (label_of (process_machine plan) a state) ≡ true) [
      | inl seen ↦ seen-leads plan step a state seen
      | inr counted ↦ counted-leads plan step a state goes counted
    ]
