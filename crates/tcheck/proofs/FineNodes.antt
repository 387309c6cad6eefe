-- Nodes with which nothing is wrong.
use Rattle.std.proofs.Common.{◌≡◌, ℕ, suc, refl, sym, ap, ◌∙◌, List, [], ◌∷◌, ◌++◌, length, Bool, false}
use Rattle.std.proofs.Common.{◌||◌, Option, Some, None, Result, Ok, Err, All, arith}
use Rattle.std.specs.Prelude.{fold, nat_lt, if◌then◌else◌}
use Rattle.std.proofs.lemmas.Bool.{or_parts}
use Rattle.tword.specs.declared.breaks.Break.{Break}
use Rattle.tword.specs.Limits.{most_segments, most_processes}
use Rattle.tproc.specs.Machine.{Machine}
use Rattle.tproc.specs.Opening.{added, empty_machine, loaded}
use Rattle.tplan.specs.declared.plan.Segment.{Segment}
use Rattle.tplan.specs.declared.plan.Process.{Process}
use Rattle.tplan.specs.declared.plan.NodePlan.{NodePlan}
use Rattle.tnet.specs.Building.{added_from, added_rest, bad_process, bad_segment, built_machine, is_bad_segment}
use Rattle.tnet.specs.Building.{is_bad_size, is_bad_timeslice, is_too_large, loaded_machine}
use Rattle.tnet.proofs.FirstFaults.{no_position, position_none}
use Rattle.tcheck.specs.declared.flaws.Place.TheVariants as place
use Rattle.tcheck.specs.declared.flaws.Plenty.TheVariants as plenty
use Rattle.tcheck.specs.declared.flaws.Flaw.TheVariants as flaw
use Rattle.tcheck.specs.declared.flaws.Wrong.{Wrong}
use Rattle.tcheck.specs.Wrongs.{each_from, memory_wrongs, wrong, wrong_if}
use Rattle.tcheck.specs.Wrongs.{held_wrongs, left_by, loaded_if, node_wrongs, process_wrongs, refused, segment_wrongs}
use Rattle.tcheck.specs.Wrongs.{tried_machine, tried_timeslice}
use Rattle.tcheck.proofs.Nothing.{all_each, both_nil, each_all, else_nil, if_nil, nil_both, nil_else, nil_if}

-- the first process that was refused, if one was
abbrev pub told : Result Machine (ℕ × Break) → Option (ℕ × Break)
told (Ok m) = None
told (Err f) = Some f

pub bad_is_told : (x : Result Machine (ℕ × Break))
    → elim x as (λ _. Option (ℕ × Break)) [ Ok m ↦ None | Err fault ↦ Some fault ] ≡ told x
bad_is_told (Ok m) = refl
bad_is_told (Err f) = refl

process_nil : (node k q : ℕ) (ps : List Process) (m : Machine) → process_wrongs node k ps m ≡ []
    → told (added_from q ps m) ≡ None
process_nil node k q [] m h = refl
process_nil node k q (p ∷ ps) m h =
    by (added p.wdesc p.iptr m) (λ n e. process_nil node (suc k) (suc q) ps n e) h
  where
    by : (x : Result Machine Break)
        → ((n : Machine) → process_wrongs node (suc k) ps n ≡ [] → told (added_from (suc q) ps n) ≡ None)
        → refused node k p x ++ process_wrongs node (suc k) ps (left_by m x) ≡ []
        → told (added_rest (added_from (suc q) ps) q x) ≡ None
    by (Ok n) rest e = rest n e
    by (Err b) rest e = cc

nil_process : (node k q : ℕ) (ps : List Process) (m : Machine) → told (added_from q ps m) ≡ None
    → process_wrongs node k ps m ≡ []
nil_process node k q [] m h = refl
nil_process node k q (p ∷ ps) m h =
    by (added p.wdesc p.iptr m) (λ n e. nil_process node (suc k) (suc q) ps n e) h
  where
    by : (x : Result Machine Break)
        → ((n : Machine) → told (added_from (suc q) ps n) ≡ None → process_wrongs node (suc k) ps n ≡ [])
        → told (added_rest (added_from (suc q) ps) q x) ≡ None
        → refused node k p x ++ process_wrongs node (suc k) ps (left_by m x) ≡ []
    by (Ok n) rest e = rest n e
    by (Err b) rest e = cc

-- where no segment is bad, all of them are loaded
all_loaded : (memory : ℕ) (m : Machine) (ss : List Segment) → All (λ s. is_bad_segment memory s ≡ false) ss
    → fold (loaded_if memory) m ss ≡ fold (λ m s. loaded s.address s.bytes m) m ss
all_loaded memory m [] h = refl
all_loaded memory m (s ∷ ss) h =
    let good : is_bad_segment memory s ≡ false = h 0 s (omega arith) in
    let here : loaded_if memory m s ≡ loaded s.address s.bytes m =
    ap (λ (b : Bool). if b then m else loaded s.address s.bytes m) good in
    ap (λ (n : Machine). fold (loaded_if memory) n ss) here
    ∙ all_loaded memory (loaded s.address s.bytes m) ss (λ j d l. h (suc j) d (omega (arith, l)))

pub tried_is_loaded : (t : ℕ) (n : NodePlan) → is_bad_timeslice t ≡ false
    → All (λ s. is_bad_segment n.memory s ≡ false) n.image.segments → tried_machine t n ≡ loaded_machine t n
tried_is_loaded t n good h =
    let same : tried_timeslice t ≡ t = ap (λ (b : Bool). if b then 1 else t) good in
    all_loaded n.memory (empty_machine n.memory (tried_timeslice t) n.kind) n.image.segments h
    ∙ ap (λ (u : ℕ). fold (λ m s. loaded s.address s.bytes m) (empty_machine n.memory u n.kind) n.image.segments) same

-- a node with none of the faults of a node
pub record IsFineNode (t : ℕ) (n : NodePlan) : Type 0 where
  pub large : is_too_large n.image ≡ false
  pub size : is_bad_size n ≡ false
  pub segments : bad_segment n ≡ None
  pub processes : bad_process t n ≡ None

segment_nil : (memory node k : ℕ) (s : Segment) → segment_wrongs memory node k s ≡ [] → is_bad_segment memory s ≡ false
segment_nil memory node k s e =
    if_nil (is_bad_segment memory s) (place.Node node) (flaw.BadSegment k s.address (length s.bytes) memory) e

nil_segment : (memory node k : ℕ) (s : Segment) → is_bad_segment memory s ≡ false → segment_wrongs memory node k s ≡ []
nil_segment memory node k s e =
    nil_if (is_bad_segment memory s) (place.Node node) (flaw.BadSegment k s.address (length s.bytes) memory) e

or_false : (a b : Bool) → a ≡ false → b ≡ false → (a || b) ≡ false
or_false a b p q = rw (p, q) refl

pub node_nil : (t : ℕ) → is_bad_timeslice t ≡ false → (k : ℕ) (n : NodePlan) → node_wrongs t k n ≡ [] → IsFineNode t n
node_nil t good k n h =
    let segments_many : List Wrong =
    wrong_if (nat_lt most_segments (length n.image.segments)) (place.Node k)
    (flaw.TooMany plenty.Segments (length n.image.segments)) in
    let processes_many : List Wrong =
    wrong_if (nat_lt most_processes (length n.image.processes)) (place.Node k)
    (flaw.TooMany plenty.Processes (length n.image.processes)) in
    let first : (segments_many ≡ []) × (processes_many ++ memory_wrongs t k n ≡ []) = both_nil _ _ h in
    let second : (processes_many ≡ []) × (memory_wrongs t k n ≡ []) = both_nil _ _ first.1 in
    let third : (is_bad_size n ≡ false) × (held_wrongs t k n ≡ []) =
    else_nil (is_bad_size n) (wrong (place.Node k) (flaw.BadSize n.memory n.kind)) (held_wrongs t k n) second.1 in
    let held : (each_from (segment_wrongs n.memory k) 0 n.image.segments ≡ [])
    × (process_wrongs k 0 n.image.processes (tried_machine t n) ≡ []) = both_nil _ _ third.1 in
    let segments : All (λ s. is_bad_segment n.memory s ≡ false) n.image.segments =
    each_all (segment_wrongs n.memory k) (λ s. is_bad_segment n.memory s ≡ false)
    (λ j s e. segment_nil n.memory k j s e) 0 n.image.segments held.0 in
    let added : told (added_from 0 n.image.processes (tried_machine t n)) ≡ None =
    process_nil k 0 0 n.image.processes (tried_machine t n) held.1 in
    record {
      large = or_false _ _
          (if_nil (nat_lt most_segments (length n.image.segments)) (place.Node k)
          (flaw.TooMany plenty.Segments (length n.image.segments)) first.0)
          (if_nil (nat_lt most_processes (length n.image.processes)) (place.Node k)
          (flaw.TooMany plenty.Processes (length n.image.processes)) second.0);
      size = third.0;
      segments = position_none (λ s. is_bad_segment n.memory s) n.image.segments segments;
      processes = bad_is_told (built_machine t n)
          ∙ ap (λ (m : Machine). told (added_from 0 n.image.processes m)) (sym (tried_is_loaded t n good segments))
          ∙ added;
    }

pub nil_node : (t : ℕ) → is_bad_timeslice t ≡ false → (k : ℕ) (n : NodePlan) → IsFineNode t n → node_wrongs t k n ≡ []
nil_node t good k n fine =
    let large : (nat_lt most_segments (length n.image.segments) ≡ false)
    × (nat_lt most_processes (length n.image.processes) ≡ false) = or_parts _ _ fine.large in
    let segments : All (λ s. is_bad_segment n.memory s ≡ false) n.image.segments =
    no_position (λ s. is_bad_segment n.memory s) n.image.segments fine.segments in
    let added : told (added_from 0 n.image.processes (tried_machine t n)) ≡ None =
    ap (λ (m : Machine). told (added_from 0 n.image.processes m)) (tried_is_loaded t n good segments)
    ∙ sym (bad_is_told (built_machine t n)) ∙ fine.processes in
    nil_both _ _ (nil_if _ _ _ large.0) (nil_both _ _ (nil_if _ _ _ large.1)
    (nil_else _ _ _ fine.size
    (nil_both _ _
    (all_each (segment_wrongs n.memory k) (λ s. is_bad_segment n.memory s ≡ false)
    (λ j s e. nil_segment n.memory k j s e) 0 n.image.segments segments)
    (nil_process k 0 0 n.image.processes (tried_machine t n) added))))
