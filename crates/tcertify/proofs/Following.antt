-- Calls on a node that follow others: its site and the names of its processes stay.
use Rattle.std.proofs.Common.{◌<◌, ℕ, subst, length, arith, Result, Ok}
use Rattle.tprocesses.specs.Places.{Name}
use Rattle.tprocesses.specs.Parts.{Reason, Part, ◌>>=◌}
use Rattle.tprocesses.specs.Touching.{Site}
use Rattle.tcertify.specs.declared.fault.Fault.{Fault}
use Rattle.tcertify.specs.declared.node.Node.{Node}
use Rattle.tcertify.specs.Nodes.{Does, Grows, RunsAt, name_at, node_site}
use Rattle.tcertify.proofs.NodeRunning.{does_on, name_stays, runs_at_on}

module _ (a b : Node) (k : ℕ) (grows : Grows a b) (inside : k < length a.processes.items.items) where
  -- a part of the node's site and of a process's name is the same part behind a call
  pub runs_still : {A : Type 0} (part : Site → Name → Part A) (c : Node) (r : Result A Reason)
      → RunsAt (part (node_site b) (name_at b k)) b r c → RunsAt (part (node_site a) (name_at a k)) b r c
  runs_still part c r h =
      subst (λ (s : Site). RunsAt (part s (name_at a k)) b r c) grows.site
      (subst (λ (x : Name). RunsAt (part (node_site b) x) b r c) (name_stays a b k grows inside) h)

  pub does_still : {A X : Type 0} (part : Site → Name → Part A) (f : X → A) (c : Node) (r : Result X Fault)
      → Does (part (node_site b) (name_at b k)) f b r c → Does (part (node_site a) (name_at a k)) f b r c
  does_still part f c r h =
      subst (λ (s : Site). Does (part s (name_at a k)) f b r c) grows.site
      (subst (λ (x : Name). Does (part (node_site b) x) f b r c) (name_stays a b k grows inside) h)

-- a process that was there is there
pub inside_still : (a b : Node) (k : ℕ) → Grows a b → k < length a.processes.items.items
    → k < length b.processes.items.items
inside_still a b k g h = omega (arith, g.processes)

-- a part that was done, and one that follows it
module _ {A B : Type 0} (a b c : Node) (k : ℕ) (part : Part A) (next : Site → Name → A → Part B) (x : A)
    (first : RunsAt part a (Ok x) b) (inside : k < length a.processes.items.items) where
  pub runs_then : (r : Result B Reason) → RunsAt (next (node_site b) (name_at b k) x) b r c
      → RunsAt (part >>= next (node_site a) (name_at a k)) a r c
  runs_then r h =
      runs_at_on part (next (node_site a) (name_at a k)) a b c x r first
      (runs_still a b k first.grows inside (λ s y. next s y x) c r h)

  pub does_then : {X : Type 0} (f : X → B) (r : Result X Fault) → Does (next (node_site b) (name_at b k) x) f b r c
      → Does (part >>= next (node_site a) (name_at a k)) f a r c
  does_then f r h =
      does_on part (next (node_site a) (name_at a k)) f a b c x r first
      (does_still a b k first.grows inside (λ s y. next s y x) f c r h)

-- the same where the process does not matter
module _ {A B : Type 0} (a b c : Node) (part : Part A) (next : Site → A → Part B) (x : A)
    (first : RunsAt part a (Ok x) b) where
  pub runs_next : (r : Result B Reason) → RunsAt (next (node_site b) x) b r c
      → RunsAt (part >>= next (node_site a)) a r c
  runs_next r h =
      runs_at_on part (next (node_site a)) a b c x r first
      (subst (λ (s : Site). RunsAt (next s x) b r c) first.grows.site h)
