-- How a process is added: with a workspace, a name, and one more that was ever there.
use Rattle.std.proofs.Common.{◌≡◌, ℕ, sym, ap, ◌∙◌, subst, List, Result, Ok, Err, pos}
use Rattle.tword.specs.declared.breaks.Break.TheVariants.{AlreadyLive}
use Rattle.tprocesses.specs.Changes.{Add, Raise}
use Rattle.tprocesses.specs.Parts.{Breaks, Doing, HasNoStep, change, done, require, seeing, ◌>>◌}
use Rattle.tprocesses.specs.Places.{HasRun, Life, Name, Population, Standing}
use Rattle.tprocesses.specs.Standing.{comes, is_absent, stands}
use Rattle.tprocesses.specs.Touching.{Site, is_zero}
use Rattle.tprocesses.specs.Values.{Context, Stand, amount_in, stand_in}
use Rattle.tcertify.specs.declared.fault.Fault.{Fault}
use Rattle.tcertify.specs.declared.node.Node.{Node}
use Rattle.tcertify.specs.declared.process.Root.{Root}
use Rattle.tcertify.specs.Nodes.{Does, RunsAt, node_site, nothing}
use Rattle.tcertify.specs.Processes.{named}
use Rattle.tcertify.specs.Starts.{begins_life, joins}
use Rattle.tcertify.proofs.NodeRunning.{bind_assoc, does_after, does_on, does_stop, number_stays, runs_at_on}

-- what follows the name
abbrev pub counted : Site → ℕ → Doing
counted s priority = change (Population s.number) (Add (pos 1)) >> change (HasRun s.number priority) Raise

-- a process comes in three parts
abbrev pub by_parts : Site → Name → Context → Stand → Doing
by_parts s x c stood = begins_life s c.wptr >> (joins x stood >> counted s c.priority)

joins_first : (x : Name) (stood : Stand) (g : Doing)
    → (joins x stood >> g)
    ≡ seeing (Standing x) (λ v. require (is_absent (stand_in v)) HasNoStep >> (stands x stood >> g))
joins_first x stood g = λ i. seeing (Standing x)
    (λ v. bind_assoc (require (is_absent (stand_in v)) HasNoStep) (λ (u : Unit {0}). stands x stood)
    (λ (u : Unit {0}). g) i)

begins_first : (s : Site) (w : ℕ) (g : Doing)
    → (begins_life s w >> g)
    ≡ seeing (Life s.number w) (λ v. require (is_zero (amount_in v)) (Breaks AlreadyLive)
    >> (change (Life s.number w) (Add (pos 1)) >> g))
begins_first s w g = λ i. seeing (Life s.number w)
    (λ v. bind_assoc (require (is_zero (amount_in v)) (Breaks AlreadyLive))
    (λ (u : Unit {0}). change (Life s.number w) (Add (pos 1))) (λ (u : Unit {0}). g) i)

pub comes_by_parts : (s : Site) (x : Name) (c : Context) (stand : Context → Stand)
    → by_parts s x c (stand c) ≡ comes s x c stand
comes_by_parts s x c stand =
    begins_first s c.wptr (joins x (stand c) >> counted s c.priority)
    ∙ ap (λ (g : Doing). seeing (Life s.number c.wptr) (λ v. require (is_zero (amount_in v)) (Breaks AlreadyLive)
    >> (change (Life s.number c.wptr) (Add (pos 1)) >> g))) (joins_first x (stand c) (counted s c.priority))

-- a name and a stand told by other words for the same
pub joins_there : (m c : Node) (r : Result (Unit {0}) Fault) (n k : ℕ) (root : Root) (path : List ℕ) (s t : Stand)
    → n ≡ k → s ≡ t → Does (joins (named n root path) s) nothing m r c → Does (joins (named k root path) t) nothing m
    r c
joins_there m c r n k root path s t numbers stands h =
    subst (λ (y : Stand). Does (joins (named k root path) y) nothing m r c) stands
    (subst (λ (y : ℕ). Does (joins (named y root path) s) nothing m r c) numbers h)

-- a part that names the number of a node, told by other words for the same
does_at : (part : ℕ → Doing) (m c : Node) (r : Result (Unit {0}) Fault) (n k : ℕ) → n ≡ k
    → Does (part n) nothing m r c → Does (part k) nothing m r c
does_at part m c r n k e h = subst (λ (y : ℕ). Does (part y) nothing m r c) e h

module _ (a b : Node) (x : Name) (k : Context) (stand : Context → Stand) where
  told : (r : Result (Unit {0}) Fault) (c : Node) → Does (by_parts (node_site a) x k (stand k)) nothing a r c
      → Does (comes (node_site a) x k stand) nothing a r c
  told r c h = subst (λ (p : Doing). Does p nothing a r c) (comes_by_parts (node_site a) x k stand) h

  -- it gets no workspace
  pub comes_not : (e : Fault) → Does (begins_life (node_site a) k.wptr) nothing a (Err e) b
      → Does (comes (node_site a) x k stand) nothing a (Err e) b
  comes_not e h =
      told (Err e) b
      (does_stop (begins_life (node_site a) k.wptr)
      (λ (u : Unit {0}). joins x (stand k) >> counted (node_site a) k.priority) nothing nothing a b e h)

  module _ (m c : Node) (first : RunsAt (begins_life (node_site a) k.wptr) a (Ok tt) b) (grown : RunsAt done b (Ok
      tt) m) where
    rest : (r : Result (Unit {0}) Fault) (d : Node)
        → Does (joins x (stand k) >> counted (node_site a) k.priority) nothing m r d
        → Does (comes (node_site a) x k stand) nothing a r d
    rest r d h =
        told r d
        (does_on (begins_life (node_site a) k.wptr)
        (λ (u : Unit {0}). joins x (stand k) >> counted (node_site a) k.priority) nothing a b d tt r first
        (does_after (joins x (stand k) >> counted (node_site a) k.priority) nothing b m d r grown h))

    -- it gets no name
    pub comes_half : (e : Fault) → Does (joins x (stand k)) nothing m (Err e) c
        → Does (comes (node_site a) x k stand) nothing a (Err e) c
    comes_half e h =
        rest (Err e) c
        (does_stop (joins x (stand k)) (λ (u : Unit {0}). counted (node_site a) k.priority) nothing nothing m c e h)

    module _ (second : RunsAt (joins x (stand k)) m (Ok tt) c) where
      up : c.words.number ≡ a.words.number
      up =
          sym (number_stays a b first.grows ∙ number_stays b m grown.grows ∙ number_stays m c second.grows)

      -- it is not counted
      pub comes_uncounted : (d : Node) (e : Fault)
          → Does (change (Population c.words.number) (Add (pos 1))) nothing c (Err e) d
          → Does (comes (node_site a) x k stand) nothing a (Err e) d
      comes_uncounted d e h =
          rest (Err e) d
          (does_on (joins x (stand k)) (λ (u : Unit {0}). counted (node_site a) k.priority) nothing m c d tt (Err e)
          second
          (does_stop (change (Population a.words.number) (Add (pos 1)))
          (λ (u : Unit {0}). change (HasRun a.words.number k.priority) Raise) nothing nothing c d e
          (does_at (λ n. change (Population n) (Add (pos 1))) c d (Err e) c.words.number a.words.number up h)))

      -- it is there
      pub comes_all : (d e : Node) → RunsAt (change (Population c.words.number) (Add (pos 1))) c (Ok tt) d
          → RunsAt (change (HasRun d.words.number k.priority) Raise) d (Ok tt) e
          → RunsAt (comes (node_site a) x k stand) a (Ok tt) e
      comes_all d e third fourth =
          rest (Ok tt) e
          (runs_at_on (joins x (stand k)) (λ (u : Unit {0}). counted (node_site a) k.priority) m c e tt (Ok tt) second
          (runs_at_on (change (Population a.words.number) (Add (pos 1)))
          (λ (u : Unit {0}). change (HasRun a.words.number k.priority) Raise) c d e tt (Ok tt)
          (does_at (λ n. change (Population n) (Add (pos 1))) c d (Ok tt) c.words.number a.words.number up third)
          (does_at (λ n. change (HasRun n k.priority) Raise) d e (Ok tt) d.words.number a.words.number
          (sym (number_stays c d third.grows) ∙ up) fourth)))
