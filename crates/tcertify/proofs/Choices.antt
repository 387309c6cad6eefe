-- What alternatives require.
use Rattle.std.proofs.Common.{◌≡◌, refl, sym, subst, Bool, true, false, Result, Ok, Err}
use Rattle.std.specs.Prelude.{◌||◌, if◌then◌else◌}
use Rattle.tprocesses.specs.Parts.{Doing, Reason, require}
use Rattle.tcertify.specs.declared.fault.Fault.{Fault}
use Rattle.tcertify.specs.declared.node.Node.{Node}
use Rattle.tcertify.specs.Nodes.{Does, RunsAt, nothing}
use Rattle.tcertify.proofs.NodeRunning.{runs_at_given, runs_at_stopped}

-- a condition that holds, and one that does not
pub required : (t : Bool) (why : Reason) (a : Node) → t ≡ true → RunsAt (require t why) a (Ok tt) a
required t why a e = subst (λ (b : Bool). RunsAt (require b why) a (Ok tt) a) (sym e) (runs_at_given tt a)

pub refused : (t : Bool) (why : Reason) (a : Node) → t ≡ false → RunsAt (require t why) a (Err why) a
refused t why a e = subst (λ (b : Bool). RunsAt (require b why) a (Err why) a) (sym e) (runs_at_stopped why a)

-- one of two conditions holds
pub first_holds : (t u : Bool) → t ≡ true → (t || u) ≡ true
first_holds true u e = refl
first_holds false u e = cc

pub second_holds : (t u : Bool) → u ≡ true → (t || u) ≡ true
second_holds true u e = refl
second_holds false u e = e

-- one of two parts, by a condition
module _ (p q : Doing) (t : Bool) (a b : Node) (r : Result (Unit {0}) Fault) where
  pub does_first : t ≡ true → Does p nothing a r b → Does (if t then p else q) nothing a r b
  does_first e h = subst (λ (u : Bool). Does (if u then p else q) nothing a r b) (sym e) h

  pub does_second : t ≡ false → Does q nothing a r b → Does (if t then p else q) nothing a r b
  does_second e h = subst (λ (u : Bool). Does (if u then p else q) nothing a r b) (sym e) h
