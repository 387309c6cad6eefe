-- A clock that has counted all steps of an agent: chains lead from them.
use Rattle.std.proofs.Common.{◌≡◌, ℕ, ◌≤◌, List, [], ◌∷◌, ◌++◌, sym, subst, reverse, arith}
use Rattle.tagents.specs.Agents.{Agents}
use Rattle.tagents.specs.Clocks.{Entry, labels}
use Rattle.tagents.specs.Tables.{Accesses, Table}
use Rattle.tagents.specs.Chains.{ChainsLead}
use Rattle.tagents.specs.Times.{AreTimed}
use Rattle.tagents.proofs.Counted.{counted_lead}
use Rattle.tagents.proofs.Timed.{runs_have_times}
use Rattle.tclocks.specs.Checks.{Check, steps_of, KnowsAll}
use Rattle.tclocks.specs.Numbers.{Numbers}
use Rattle.tclocks.specs.Followed.{EachOf, entry_of, HavePassed, Follows}
use Rattle.tclocks.proofs.Passing.{are_passed}

-- what holds of each of a list holds of one in it
pub each_within : {A : Type 0} (P : A → Type 0) (since : List A) (x : A) (before : List A)
    → EachOf P (since ++ x ∷ before) → P x
each_within P [] x before each = each.0
each_within P (y ∷ since) x before each = each_within P since x before each.1

module _ {State Agent Label Place Kind : Type 0} (m : Agents State Agent Label) (accesses : Accesses Place Kind Label)
    (numbers : Numbers Agent Place Kind) where
  pub are_timed : (entries : List (Entry Agent Label)) (table : Table m accesses)
      → HavePassed m accesses numbers entries table → AreTimed m [] (reverse entries)
  are_timed entries table h =
      (runs_have_times State Agent Label Place Kind m accesses (reverse entries)).checked
      (are_passed m accesses numbers entries table h).checked

  pub known_are_chained : (earlier : List (Entry Agent Label)) (table : Table m accesses) (writers : ℕ → List Label)
      (check : Check) (label : Label) (other : ℕ)
      → Follows m accesses numbers (entry_of m numbers label check ∷ earlier) table writers check
      → KnowsAll check (numbers.agent (m.agent_of label)) other
      → ChainsLead m (λ e. numbers.agent (m.agent_of e) ≡ other) (labels earlier) label
  known_are_chained earlier table writers check label other seen knows =
      counted_lead m (λ e. numbers.agent (m.agent_of e) ≡ other) (entry_of m numbers label check) earlier
      (are_timed (entry_of m numbers label check ∷ earlier) table seen.passed) counts
    where
      counts : (since : List (Entry Agent Label)) (z : Entry Agent Label) (before : List (Entry Agent Label))
          → earlier ≡ since ++ z ∷ before → numbers.agent (m.agent_of z.label) ≡ other
          → z.place ≤ (entry_of m numbers label check).past (m.agent_of z.label)
      counts since z before at number =
          let done : z.place ≤ steps_of check (numbers.agent (m.agent_of z.label)) =
          each_within (λ z. z.place ≤ steps_of check (numbers.agent (m.agent_of z.label))) since z before
          (subst (λ (l : List (Entry Agent Label)). EachOf
          (λ z. z.place ≤ steps_of check (numbers.agent (m.agent_of z.label))) l) at seen.places.1) in
          let known : KnowsAll check (numbers.agent (m.agent_of label)) (numbers.agent (m.agent_of z.label)) =
          subst (λ (i : ℕ). KnowsAll check (numbers.agent (m.agent_of label)) i) (sym number) knows in
          omega (arith, done, known)
