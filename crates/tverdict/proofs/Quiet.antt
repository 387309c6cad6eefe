-- Quiet steps are still ones.
use Rattle.std.proofs.Common.{◌≡◌, ◌+◌, ℕ, zero, suc, refl, ap, subst, sym, ◌∙◌, arith, length, Option, Some, None}
use Rattle.std.specs.Prelude.{option_map, slice_get}
use Rattle.tcertify.specs.declared.context.Context.{Context}
use Rattle.tcertify.specs.declared.node.Node.{Node}
use Rattle.tcertify.specs.declared.notes.Notes.{Notes}
use Rattle.tcertify.specs.declared.process.Process.{Process}
use Rattle.tcertify.specs.declared.standing.Stand.{Stand}
use Rattle.tcertify.specs.declared.standing.Stand.TheVariants.{Runs}
use Rattle.tcertify.specs.Quiet.{IsQuietStep}
use Rattle.tcertify.specs.Steps.{IsRunning}
use Rattle.tverdict.specs.Still.{AreStill, GoesOnAt, IsSettled, IsStill, StaysStill, goes_on}

-- a process that runs goes on
running_of : (o : Option Process) (c : Context) → option_map (λ (p : Process). p.stand) o ≡ Some (Runs c)
    → (p : Process) × (o ≡ Some p) × (p.stand ≡ Runs c)
running_of None c e = cc
running_of (Some p) c e = (p, refl, cc)

runs_on : (node : Node) (k : ℕ) (c : Context) → IsRunning node k c → GoesOnAt node k
runs_on node k c h =
    let (p, has, stands) = running_of (slice_get node.processes.items.items k) c h in
    record { known = p; has = has; goes = ap goes_on stands }

-- a node behind a still step is settled
pub settled_so : (k processes channels population : ℕ) (node : Node) → StaysStill k processes channels population node
    → IsSettled node
settled_so k processes channels population node s =
    record { leads = s.leads; earlier = s.earlier; kept = s.kept }

module _ (k : ℕ) (old new : Node) (settled : IsSettled old) (q : IsQuietStep k old new) where
  pub quiet_settled : IsSettled new
  quiet_settled =
      record {
        leads = ap (λ l. l.items) q.leads ∙ settled.leads;
        earlier = subst (λ (n : Notes). n.earlier ≡ length n.items.items) (sym q.notes) settled.earlier;
        kept = ap (λ (n : Notes). n.is_lost) q.notes ∙ settled.kept;
      }

  pub quiet_goes : GoesOnAt new k
  quiet_goes = runs_on new k q.after q.goes_on

  pub quiet_is_still : IsStill k old new
  quiet_is_still =
      record {
        before = runs_on old k q.before q.runs;
        does = record {
          begun = old;
          afresh = record { same = refl; leads = settled.leads };
          recalls = record { earlier = settled.earlier; notes = λ note there. (refl, settled.leads, there) };
          does = q.does;
        };
        stays = record {
          goes = quiet_goes;
          leads = quiet_settled.leads;
          earlier = quiet_settled.earlier;
          kept = quiet_settled.kept;
          processes = q.processes;
          channels = ap (λ c. length c.items.items) q.channels;
          population = q.population;
        };
      }

-- still steps, and as many behind them
pub still_on : (more some k : ℕ) (old mid new : Node) (n : ℕ) → n ≡ some + more → AreStill some k old mid
    → AreStill more k mid new → AreStill n k old new
still_on zero some k old mid new n e first last =
    let all : some ≡ n = omega (arith, e) in
    subst (λ (x : Node). AreStill n k old x) (sym last) (subst (λ (m : ℕ). AreStill m k old mid) all first)
still_on (suc more) some k old mid new n e first (m, rest, one) =
    let all : suc (some + more) ≡ n = omega (arith, e) in
    subst (λ (l : ℕ). AreStill l k old new) all
    (m, still_on more some k old mid m (some + more) refl first rest, one)
