-- A run is still followed where one that has done no step gets another number.
use Rattle.std.proofs.Common.{◌≡◌, ℕ, ◌<◌, ◌≤◌, inl, inr, sym, ap, ◌∙◌, subst, arith, false, List, [], ◌∷◌}
use Rattle.std.proofs.Common.{length, slice_index, cond, Bool}
use Rattle.std.specs.Prelude.{nat_lt}
use Rattle.std.proofs.lemmas.Bool.{lt-ltb, ltb-true}
use Rattle.tplan.specs.declared.plan.Plan.{Plan}
use Rattle.tagents.specs.Clocks.{Entry, labels}
use Rattle.tagents.specs.Groups.{NoneHas}
use Rattle.tclocks.specs.Checks.{Check, clock_of, steps_of}
use Rattle.tclocks.specs.Followed.{EachOf}
use Rattle.tclocks.specs.NumberTurns.{MayHaveNumbers}
use Rattle.tclocks.proofs.Lists.{test}
use Rattle.tclocks.proofs.Turning.{may_have_numbers}
use Rattle.tprocesses.specs.Machine.{Agent, same_agent}
use Rattle.tprocesses.specs.Certified.{ProcessStep, machine_of}
use Rattle.tcertify.specs.Running.{State}
use Rattle.tfollow.specs.Modes.{accesses_in, mode_at}
use Rattle.tfollow.specs.Numbering.{Places, AgentNumbers}
use Rattle.tfollow.specs.Following.{AreCounted, HasTurn, IsLast, IsFollowed, number_by}
use Rattle.tfollow.proofs.Agreeing.{AreAgreed, count-agree, done-agree, turn-agree}
use Rattle.tfollow.proofs.Numbered.{agent-same, some_plan}

not-below : (i n : ℕ) → n ≤ i → nat_lt i n ≡ false
not-below i n h = elim (test (nat_lt i n)) as (λ _. nat_lt i n ≡ false) [
  | inl below ↦ absurd (omega (arith, h, ltb-true i n below))
  | inr behind ↦ behind
]

-- numbers below n are kept, and one agent that has none of these gets this number
module _ (group : AgentNumbers) (n : ℕ) (b : Agent) (number : ℕ) (others : AgentNumbers) where
  abbrev pub with_number : AgentNumbers
  with_number a = cond (nat_lt (group a) n) (group a) (cond (same_agent a b) number (others a))

  pub number-kept : (a : Agent) → group a < n → with_number a ≡ group a
  number-kept a h =
      ap (λ (t : Bool). cond t (group a) (cond (same_agent a b) number (others a))) (lt-ltb (group a) n h)

  pub number-far : (a : Agent) → n ≤ group a → with_number a ≡ cond (same_agent a b) number (others a)
  number-far a h =
      ap (λ (t : Bool). cond t (group a) (cond (same_agent a b) number (others a))) (not-below (group a) n h)

  pub number-given : n ≤ group b → with_number b ≡ number
  number-given h =
      number-far b h ∙ ap (λ (t : Bool). cond t number (others b)) (agent-same some_plan b)

  pub number-other : (a : Agent) → n ≤ group a → same_agent a b ≡ false → with_number a ≡ others a
  number-other a h differ = number-far a h ∙ ap (λ (t : Bool). cond t number (others a)) differ

module _ (plan : Plan) (places : Places) (group : AgentNumbers) (agents : List Agent) (steps : List ProcessStep)
    (check : Check) (state : State) (f : IsFollowed plan places group agents steps check state)
    (more : AgentNumbers) (same : (a : Agent) → group a < length agents → more a ≡ group a) where
  pub same-checked : (e : ProcessStep) → group e.agent < length check.clocks → more e.agent ≡ group e.agent
  same-checked e h = same e.agent (omega (arith, h, f.clocks))

  pub may : MayHaveNumbers (machine_of plan) (number_by group) (number_by more) (accesses_in plan) places mode_at
      f.entries f.writers check
  may = may_have_numbers (machine_of plan) (number_by group) (accesses_in plan) places mode_at (number_by more) check
      same-checked f.entries f.writers f.seen

  -- the steps that were done keep their numbers
  pub agreed : AreAgreed group more steps
  agreed = subst (AreAgreed group more) f.labels may.agree

  -- the check has counted them
  pub counted-more : AreCounted more steps check
  counted-more = record {
    counts = λ n h. f.counted.counts n h ∙ sym (count-agree group more n steps agreed);
    kept = λ place access has. done-agree group more steps access.step agreed (f.counted.kept place access has);
  }

  pub turn-more : (n : ℕ) (a : Agent) → HasTurn plan group steps n a → HasTurn plan more steps n a
  turn-more n a turn = turn-agree group more plan steps n a agreed turn

  -- no step has a number that is not there
  pub none-has : (n : ℕ) → length agents ≤ n → NoneHas (number_by more) n steps
  none-has n far =
      subst (NoneHas (number_by more) n) f.labels (none f.entries f.seen.seen.follows.agents)
    where
      none : (entries : List (Entry ℕ ProcessStep))
          → EachOf (λ z. group z.label.agent < length check.clocks) entries
          → NoneHas (number_by more) n (labels entries)
      none [] h = tt
      none (z ∷ zs) h = (
        λ at. absurd (let e : more z.label.agent ≡ group z.label.agent = same-checked z.label h.0 in
            omega (arith, at, e, h.0, f.clocks, far)),
        none zs h.1,
      )

  -- the entry of a step by a number
  abbrev entry_at : ProcessStep → ℕ → Entry ℕ ProcessStep
  entry_at label n = record {
    label = label;
    place = steps_of check n;
    past = λ m. slice_index (clock_of check n) m;
  }

  -- the clock of the last step is still that of its number
  pub last-more : (more_agents : List Agent) (entries : List (Entry ℕ ProcessStep))
      → EachOf (λ z. group z.label.agent < length check.clocks) entries
      → IsLast plan places group agents entries check → IsLast plan places more more_agents entries check
  last-more more_agents [] there h = tt
  last-more more_agents (z ∷ zs) there h =
      h ∙ ap (λ (n : ℕ). entry_at z.label n) (sym (same-checked z.label there.0))
