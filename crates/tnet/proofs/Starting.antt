-- A processor while its segments are loaded and its processes are added, and the node that it becomes.
use Rattle.std.proofs.Common.{◌≡◌, ℕ, ◌<◌, ◌≤◌, ◌^◌, refl, sym, ap, ◌∙◌, List, length, get_or, replicate, false}
use Rattle.std.proofs.Common.{not, ◌&&◌, None, Result, Ok, Err, All, arith, Fits, w8}
use Rattle.std.specs.Prelude.{fold, OnOk}
use Rattle.std.proofs.lemmas.Bool.{not-false, and_parts}
use Rattle.tword.specs.declared.breaks.Break.{Break}
use Rattle.tword.specs.Touches.{is_inside, is_open}
use Rattle.tproc.specs.Machine.{Machine}
use Rattle.tproc.specs.declared.waiter.LinkEnd.{LinkEnd}
use Rattle.tproc.specs.LinkChannels.{quiet_end}
use Rattle.tproc.specs.Opening.{Adds, empty_machine, loaded, added}
use Rattle.tproc.proofs.Opening.{IsReadyMachine, is_ready_loaded, is_ready_added}
use Rattle.tlink.specs.Whole.{HasNoticedNothing}
use Rattle.tlink.proofs.Fresh.{are_bytes}
use Rattle.tplan.specs.declared.plan.Segment.{Segment}
use Rattle.tplan.specs.declared.plan.Process.{Process}
use Rattle.tplan.specs.declared.plan.NodePlan.{NodePlan}
use Rattle.tnet.specs.Building.{IsUnstarted, is_bad_segment, bad_segment, built_machine, added_from, loaded_machine}
use Rattle.tnet.specs.Building.{or_loaded}
use Rattle.tnet.proofs.OpenedPlans.{opened-links}
use Rattle.tnet.proofs.FirstFaults.{no_position}
use Rattle.tnet.proofs.OpenedNets.{quiet_link}

ready : (memory : ℕ) (m : Machine) → IsUnstarted memory m → IsReadyMachine memory 0 m
ready memory m u = record { size = u.size; visible = u.visible; placed = λ _. u.placed }

small : (memory : ℕ) (m : Machine) → IsUnstarted memory m → memory ≤ 2 ^ 31
small memory m u = omega (arith, u.size, u.placed.claimed.size)

unstarted : (memory : ℕ) (m : Machine) → memory ≤ 2 ^ 31 → IsReadyMachine memory 0 m → IsUnstarted memory m
unstarted memory m room r = record { size = r.size; visible = r.visible; placed = r.placed room }

-- bytes are loaded where programs may use the memory
pub still_loaded : (memory start : ℕ) (bytes : List ℕ) (m m' : Machine) → ((k : ℕ) → Fits w8 (get_or bytes k 0))
    → not (is_inside memory (record { start = start; size = length bytes }) && is_open
    (record { start = start; size = length bytes })) ≡ false
    → m' ≡ loaded start bytes m → IsUnstarted memory m → IsUnstarted memory m'
still_loaded memory start bytes m m' fit bounds is u =
    rw is (unstarted memory (loaded start bytes m) (small memory m u)
    (is_ready_loaded memory 0 start bytes m (ready memory m u) (are_bytes bytes fit)
    (and_parts _ _ (not-false _ bounds)).0))

-- a process is added
pub still_added : (memory process iptr : ℕ) (m m' : Machine) (r : Result (Unit {0}) Break) → process < 2 ^ 32
    → Adds (added process iptr m) m r m' → IsUnstarted memory m → OnOk r (IsUnstarted memory m')
still_added memory process iptr m m' r word does u = by (added process iptr m) refl does
  where
    by : (x : Result Machine Break) → added process iptr m ≡ x → Adds x m r m' → OnOk r (IsUnstarted memory m')
    by (Ok n) e d =
        rw (d.0, d.1)
        (unstarted memory n (small memory m u)
        (is_ready_added memory 0 process iptr m n (small memory m u) word (ready memory m u) e))
    by (Err b) e d = rw d.0 tt

-- no segment of a node is bad
pub good_segments : (n : NodePlan) → bad_segment n ≡ None
    → All (λ s. is_bad_segment n.memory s ≡ false) n.image.segments
good_segments n h = no_position (λ s. is_bad_segment n.memory s) n.image.segments h

-- a node's processor, in its three steps
pub built_of : (timeslice : ℕ) (n : NodePlan) (ss : List Segment) (ps : List Process) (empty full : Machine)
    (x : Result Machine (ℕ × Break))
    → empty ≡ empty_machine n.memory timeslice n.kind → ss ≡ n.image.segments
    → full ≡ fold (λ m s. loaded s.address s.bytes m) empty ss
    → ps ≡ n.image.processes → added_from 0 ps full ≡ x → built_machine timeslice n ≡ x
built_of timeslice n ss ps empty full x is_empty segments is_full processes h =
    ap (λ (qs : List Process). added_from 0 qs (loaded_machine timeslice n)) (sym processes)
    ∙ ap (λ (ts : List Segment). added_from 0 ps
    (fold (λ m s. loaded s.address s.bytes m) (empty_machine n.memory timeslice n.kind) ts)) (sym segments)
    ∙ ap (λ (m : Machine). added_from 0 ps (fold (λ m s. loaded s.address s.bytes m) m ss)) (sym is_empty)
    ∙ ap (added_from 0 ps) (sym is_full)
    ∙ h

built-links : (timeslice : ℕ) (n : NodePlan) (m : Machine) → built_machine timeslice n ≡ Ok m
    → m.control.links ≡ replicate 4 quiet_end
built-links timeslice n m h =
    ap (λ (x : Result Machine (ℕ × Break)). (or_loaded (loaded_machine timeslice n) x).control.links) (sym h)
    ∙ opened-links timeslice n

-- no link of a processor that was built has noticed a byte
pub unnoticed : (timeslice : ℕ) (n : NodePlan) (m : Machine) → built_machine timeslice n ≡ Ok m
    → HasNoticedNothing m.control
unnoticed timeslice n m h = λ l b. ap (λ (e : LinkEnd). e.noticed) (quiet_link m l (built-links timeslice n m h))
