-- What is done for each channel that a process has enabled, one after another.
use Rattle.std.proofs.Common.{◌≡◌, ℕ, zero, suc, ◌+◌, refl, sym, ap, ◌∙◌, subst, List, [], ◌∷◌, Some, Result, Ok, Err}
use Rattle.std.proofs.Common.{length, drop, arith}
use Rattle.std.specs.Prelude.{slice_get}
use Rattle.tprocesses.specs.Parts.{Doing, done, ◌>>◌}
use Rattle.tcertify.specs.declared.fault.Fault.{Fault}
use Rattle.tcertify.specs.declared.node.Node.{Node}
use Rattle.tcertify.specs.declared.process.Process.{Process}
use Rattle.tcertify.specs.Nodes.{Does, Grows, RunsAt, nothing, ports_at}
use Rattle.tcertify.proofs.NodePorts.{ports_are, ports_same}
use Rattle.tcertify.proofs.NodeRunning.{does_on, does_stop, grows_not, grows_on, runs_at_given}

-- what is left of a list behind an item
pub drop_at : {X : Type 0} (xs : List X) (i : ℕ) (x : X) → slice_get xs i ≡ Some x → drop i xs ≡ x ∷ drop (suc i) xs
drop_at [] i x e = cc
drop_at (y ∷ ys) zero x e = let same : y ≡ x = cc in ap (λ z. z ∷ ys) same
drop_at (y ∷ ys) (suc i) x e = drop_at ys i x e

drop_all : {X : Type 0} (xs : List X) (i : ℕ) → i ≡ length xs → drop i xs ≡ []
drop_all [] zero e = refl
drop_all [] (suc i) e = refl
drop_all (y ∷ ys) zero e = absurd (omega (arith, e))
drop_all (y ∷ ys) (suc i) e = drop_all ys i (omega (arith, e))

-- of a row of parts, one for each channel that a process has enabled, the first ones are done
pub record AreDone (row : List ℕ → Doing) (a : Node) (k index : ℕ) (u : Node) : Type 0 where
  pub same : u.processes.items.items ≡ a.processes.items.items
  pub grown : Grows a u
  pub leads : (c : Node) (r : Result (Unit {0}) Fault) → Does (row (drop index (ports_at a k))) nothing u r c
      → Does (row (ports_at a k)) nothing a r c

module _ (row : List ℕ → Doing) (a : Node) (k : ℕ) where
  pub none_done : AreDone row a k 0 a
  none_done = record { same = refl; grown = grows_not a; leads = λ c r h. h }

  module _ (index : ℕ) (u : Node) (before : AreDone row a k index u) where
    pub all_done : index ≡ length (ports_at a k) → row [] ≡ done → Does (row (ports_at a k)) nothing a (Ok tt) u
    all_done e empty =
        before.leads u (Ok tt)
        (subst (λ (xs : List ℕ). RunsAt (row xs) u (Ok tt) u) (sym (drop_all (ports_at a k) index e))
        (subst (λ (q : Doing). RunsAt q u (Ok tt) u) (sym empty) (runs_at_given tt u)))

    module _ (x : ℕ) (at : slice_get (ports_at a k) index ≡ Some x) (part : Doing)
        (cons : (rest : List ℕ) → (part >> row rest) ≡ row (x ∷ rest)) (v : Node) where
      abbrev rest : List ℕ
      rest = drop (suc index) (ports_at a k)

      next : (c : Node) (r : Result (Unit {0}) Fault) → Does (part >> row rest) nothing u r c
          → Does (row (ports_at a k)) nothing a r c
      next c r h =
          before.leads c r
          (subst (λ (xs : List ℕ). Does (row xs) nothing u r c) (sym (drop_at (ports_at a k) index x at))
          (subst (λ (q : Doing). Does q nothing u r c) (cons rest) h))

      pub one_stops : (e : Fault) → Does part nothing u (Err e) v → Does (row (ports_at a k)) nothing a (Err e) v
      one_stops e h = next v (Err e) (does_stop part (λ _. row rest) nothing nothing u v e h)

      pub one_more : RunsAt part u (Ok tt) v → v.processes.items.items ≡ u.processes.items.items
          → AreDone row a k (index + 1) v
      one_more first same =
          let up : index + 1 ≡ suc index = omega arith in
          record {
            same = same ∙ before.same;
            grown = grows_on a u v before.grown first.grows;
            leads = λ c r h. next c r
                (does_on part (λ _. row rest) nothing u v c tt r first
                (subst (λ (n : ℕ). Does (row (drop n (ports_at a k))) nothing v r c) up h));
          }

-- the process has as many channels as at first
pub as_many : (a u : Node) (k : ℕ) (p q : Process) → u.processes.items.items ≡ a.processes.items.items
    → slice_get a.processes.items.items k ≡ Some p → slice_get u.processes.items.items k ≡ Some q
    → q.ports.items ≡ ports_at a k
as_many a u k p q same at there = sym (ports_are u k q there) ∙ ports_same a u k same
