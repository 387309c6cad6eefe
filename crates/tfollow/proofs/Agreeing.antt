-- Steps are counted by the numbers of their agents. Numbers that agree on the steps that were done count them alike.
use Rattle.std.proofs.Common.{◌≡◌, ◌≢◌, ℕ, ◌+◌, refl, sym, ap, ◌∙◌, subst, arith, List, [], ◌∷◌, ◌++◌}
use Rattle.std.specs.Prelude.{◌==◌}
use Rattle.std.proofs.lemmas.Bool.{eq-eqb, ne_eqb}
use Rattle.tplan.specs.declared.plan.Plan.{Plan}
use Rattle.tagents.specs.Clocks.{Entry, labels}
use Rattle.tagents.specs.Groups.{AgreeOn, NoneHas}
use Rattle.tagents.proofs.Grouped.{alike}
use Rattle.tprocesses.proofs.Tally.{one_if, count_front}
use Rattle.tclocks.specs.declared.step.Step.{Step}
use Rattle.tprocesses.specs.Machine.{Agent}
use Rattle.tprocesses.specs.Certified.{ProcessStep, machine_of}
use Rattle.tfollow.specs.Numbering.{AgentNumbers}
use Rattle.tfollow.specs.Following.{IsDone, ArePlaced, HasTurn, number_by, count_with}
use Rattle.tfollow.specs.Following.HasTurn.{First, Own, Next}

module _ (group : AgentNumbers) where
  -- a step counts among those with its number
  pub count-same : (n : ℕ) (e : ProcessStep) (steps : List ProcessStep) → group e.agent ≡ n
      → count_with group n (e ∷ steps) ≡ count_with group n steps + 1
  count-same n e steps h =
      let one : one_if (group e.agent == n) ≡ 1 = ap one_if (eq-eqb (group e.agent) n h) in
      omega (arith, count_front (λ (s : ProcessStep). group s.agent == n) e steps, one)

  -- and not among others
  pub count-other : (n : ℕ) (e : ProcessStep) (steps : List ProcessStep) → group e.agent ≢ n
      → count_with group n (e ∷ steps) ≡ count_with group n steps
  count-other n e steps h =
      let none : one_if (group e.agent == n) ≡ 0 = ap one_if (ne_eqb (group e.agent) n h) in
      omega (arith, count_front (λ (s : ProcessStep). group s.agent == n) e steps, none)

  -- if none of the steps has a number, none counts with it
  pub count-none : (n : ℕ) (steps : List ProcessStep) → NoneHas (number_by group) n steps
      → count_with group n steps ≡ 0
  count-none n [] none = refl
  count-none n (e ∷ steps) none = count-other n e steps none.0 ∙ count-none n steps none.1

module _ (group more : AgentNumbers) where
  -- other numbers that agree on the steps
  abbrev pub AreAgreed : List ProcessStep → Type 0
  AreAgreed steps = AgreeOn (number_by group) (number_by more) steps

  -- what agrees on all steps agrees on the first ones
  pub agree-before : (later before : List ProcessStep) → AreAgreed (later ++ before) → AreAgreed before
  agree-before [] before agree = agree
  agree-before (e ∷ later) before agree = agree-before later before agree.1

  -- steps are counted alike
  pub count-agree : (n : ℕ) (steps : List ProcessStep) → AreAgreed steps
      → count_with more n steps ≡ count_with group n steps
  count-agree n [] agree = refl
  count-agree n (e ∷ steps) agree =
      let one : one_if (more e.agent == n) ≡ one_if (group e.agent == n) =
      ap (λ (k : ℕ). one_if (k == n)) agree.0 in
      omega (
        arith,
        count_front (λ (s : ProcessStep). more s.agent == n) e steps,
        count_front (λ (s : ProcessStep). group s.agent == n) e steps,
        one,
        count-agree n steps agree.1,
      )

  -- a step that is done is done by other numbers
  abbrev pub done-agree : (steps : List ProcessStep) (step : Step) → AreAgreed steps → IsDone group steps step
      → IsDone more steps step
  done-agree steps step agree done =
      let until : AreAgreed (done.label ∷ done.before) =
      agree-before done.later (done.label ∷ done.before) (subst AreAgreed done.within agree) in record {
        later = done.later;
        label = done.label;
        before = done.before;
        within = done.within;
        agent = until.0 ∙ done.agent;
        number = done.number ∙ sym (count-agree step.agent (done.label ∷ done.before) until);
      }

  -- entries have their places by other numbers
  pub placed-agree : (entries : List (Entry ℕ ProcessStep)) → AreAgreed (labels entries) → ArePlaced group entries
      → ArePlaced more entries
  placed-agree [] agree h = tt
  placed-agree (z ∷ zs) agree h = (
    h.0 ∙ sym (count-agree (group z.label.agent) (labels (z ∷ zs)) agree)
        ∙ ap (λ (n : ℕ). count_with more n (labels (z ∷ zs))) (sym agree.0),
    placed-agree zs agree.1 h.1,
  )

  -- who may do the next step with a number may do it still
  pub turn-agree : (plan : Plan) (steps : List ProcessStep) (n : ℕ) (a : Agent) → AreAgreed steps
      → HasTurn plan group steps n a → HasTurn plan more steps n a
  turn-agree plan steps n a agree (First none) =
      First ((alike (machine_of plan) (number_by group) (number_by more) steps agree).none n none)
  turn-agree plan steps n a agree (Own is) =
      Own ((alike (machine_of plan) (number_by group) (number_by more) steps agree).held n a is)
  turn-agree plan steps n a agree (Next last leads is) =
      Next last leads ((alike (machine_of plan) (number_by group) (number_by more) steps agree).free n last is)
