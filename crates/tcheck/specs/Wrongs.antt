-- What is wrong with a plan: everything, in the order of its parts, and not only the lowest fault.
-- Source: own choice; what is a fault is said in `tnet`, `specs/Building`.
use Rattle.std.specs.Prelude.{ℕ, suc, ◌≡◌, ◌-◌, Bool, ◌||◌, nat_lt, List, [], ◌∷◌, ◌++◌, length, take, fold, ◌↔◌}
use Rattle.std.specs.Prelude.{Option, Some, None, Result, Ok, Err, IsOk, if◌then◌else◌}
use Rattle.tword.specs.declared.breaks.Break.{Break}
use Rattle.tword.specs.Limits.{most_nodes, most_wires, most_segments, most_processes, most_messages, is_bad_message}
use Rattle.tproc.specs.Machine.{Machine}
use Rattle.tproc.specs.Opening.{empty_machine, loaded, added}
use Rattle.tplan.specs.declared.plan.End.{End}
use Rattle.tplan.specs.declared.plan.Wire.{Wire}
use Rattle.tplan.specs.declared.plan.Segment.{Segment}
use Rattle.tplan.specs.declared.plan.Process.{Process}
use Rattle.tplan.specs.declared.plan.NodePlan.{NodePlan}
use Rattle.tplan.specs.declared.plan.SourcePlan.{SourcePlan}
use Rattle.tplan.specs.declared.plan.SinkPlan.{SinkPlan}
use Rattle.tplan.specs.declared.plan.Plan.{Plan}
use Rattle.tplan.specs.Wires.{same_end, joins}
use Rattle.tnet.specs.Building.{node_count, is_bad_size, is_bad_timeslice, is_bad_end, is_bad_capacity, is_bad_segment}
use Rattle.tplan.specs.Wires.{all_wires}
use Rattle.tnet.specs.Building.{built}
use Rattle.tcheck.specs.declared.flaws.Place.{Place}
use Rattle.tcheck.specs.declared.flaws.Place.TheVariants as place
use Rattle.tcheck.specs.declared.flaws.Plenty.TheVariants as plenty
use Rattle.tcheck.specs.declared.flaws.Flaw.{Flaw}
use Rattle.tcheck.specs.declared.flaws.Flaw.TheVariants as flaw
use Rattle.tcheck.specs.declared.flaws.Wrong.{Wrong}

-- a flaw at a place
abbrev pub wrong : Place → Flaw → Wrong
wrong p f = record { place = p; flaw = f }

-- something is wrong, where a test says so
abbrev pub wrong_if : Bool → Place → Flaw → List Wrong
wrong_if b p f = if b then wrong p f ∷ [] else []

-- what is wrong with each element of a list, whose numbers begin here
abbrev pub each_from : {A : Type 0} → (ℕ → A → List Wrong) → ℕ → List A → List Wrong
each_from f k [] = []
each_from f k (x ∷ xs) = f k x ++ each_from f (suc k) xs

-- ---- the net as a whole

-- there are more nodes, sources and sinks than may be
abbrev pub are_many : Plan → Bool
are_many p = nat_lt most_nodes (node_count p)

-- there are more wires than may be
abbrev pub are_many_wires : Plan → Bool
are_many_wires p = nat_lt most_wires (length p.wires)

-- there are too many nodes, sources and sinks, there are too many wires, and the timeslice is none that may be
abbrev pub net_wrongs : Plan → List Wrong
net_wrongs p =
    wrong_if (are_many p) place.Net flaw.TooManyNodes
    ++ (wrong_if (are_many_wires p) place.Net (flaw.TooMany plenty.Wires (length p.wires))
    ++ wrong_if (is_bad_timeslice p.timeslice) place.Net (flaw.BadTimeslice p.timeslice))

-- ---- nodes

-- a segment that does not lie in the memory that programs may use
abbrev pub segment_wrongs : (memory node segment : ℕ) → Segment → List Wrong
segment_wrongs memory node segment s =
    wrong_if (is_bad_segment memory s) (place.Node node)
    (flaw.BadSegment segment s.address (length s.bytes) memory)

-- a memory with a segment, where that lies in it
abbrev pub loaded_if : ℕ → Machine → Segment → Machine
loaded_if memory m s = if is_bad_segment memory s then m else loaded s.address s.bytes m

-- the timeslice with which processes are tried: 1, where that of the plan is none
abbrev pub tried_timeslice : ℕ → ℕ
tried_timeslice t = if is_bad_timeslice t then 1 else t

-- the processor to which processes are tried to be added: its memory has the segments that lie in it
abbrev pub tried_machine : ℕ → NodePlan → Machine
tried_machine t n =
    fold (loaded_if n.memory) (empty_machine n.memory (tried_timeslice t) n.kind) n.image.segments

-- a process that was refused
abbrev pub refused : (node number : ℕ) → Process → Result Machine Break → List Wrong
refused node number p (Ok m) = []
refused node number p (Err b) = wrong (place.Node node) (flaw.BadProcess number p.wdesc b) ∷ []

-- the processor behind a process that was added or refused
abbrev pub left_by : Machine → Result Machine Break → Machine
left_by m (Ok m') = m'
left_by m (Err b) = m

-- the processes that are refused, where those before them that are not refused have been added
abbrev pub process_wrongs : (node number : ℕ) → List Process → Machine → List Wrong
process_wrongs node number [] m = []
process_wrongs node number (p ∷ ps) m =
    refused node number p (added p.wdesc p.iptr m)
    ++ process_wrongs node (suc number) ps (left_by m (added p.wdesc p.iptr m))

-- what is wrong with the segments and processes of a node
abbrev pub held_wrongs : (timeslice node : ℕ) → NodePlan → List Wrong
held_wrongs t node n =
    each_from (segment_wrongs n.memory node) 0 n.image.segments
    ++ process_wrongs node 0 n.image.processes (tried_machine t n)

-- what is wrong with the memory of a node, or else with what it holds
abbrev pub memory_wrongs : (timeslice node : ℕ) → NodePlan → List Wrong
memory_wrongs t node n =
    if is_bad_size n then wrong (place.Node node) (flaw.BadSize n.memory n.kind) ∷ [] else held_wrongs t node n

-- what is wrong with a node
abbrev pub node_wrongs : (timeslice node : ℕ) → NodePlan → List Wrong
node_wrongs t node n =
    wrong_if (nat_lt most_segments (length n.image.segments)) (place.Node node)
    (flaw.TooMany plenty.Segments (length n.image.segments))
    ++ (wrong_if (nat_lt most_processes (length n.image.processes)) (place.Node node)
    (flaw.TooMany plenty.Processes (length n.image.processes))
    ++ memory_wrongs t node n)

-- ---- wires, sources and sinks

-- an end that is no link of a node, where there are this many nodes
abbrev pub end_wrongs : ℕ → Place → End → List Wrong
end_wrongs nodes p e = wrong_if (is_bad_end nodes e) p (flaw.BadEnd e)

-- what is wrong with a wire by itself
abbrev pub wire_wrongs : (nodes number : ℕ) → Wire → List Wrong
wire_wrongs nodes number w =
    end_wrongs nodes (place.Wire number) w.a
    ++ (end_wrongs nodes (place.Wire number) w.b
    ++ wrong_if (same_end w.a w.b) (place.Wire number) (flaw.SameEnd w.a))

-- a message that has no byte, or too many
abbrev pub message_wrongs : (source number : ℕ) → List ℕ → List Wrong
message_wrongs source number m =
    wrong_if (is_bad_message m) (place.Source source) (flaw.BadMessage number (length m))

-- what is wrong with a source by itself
abbrev pub source_wrongs : (nodes number : ℕ) → SourcePlan → List Wrong
source_wrongs nodes number s =
    end_wrongs nodes (place.Source number) s.«end»
    ++ (wrong_if (nat_lt most_messages (length s.messages)) (place.Source number)
    (flaw.TooMany plenty.Messages (length s.messages))
    ++ each_from (message_wrongs number) 0 s.messages)

-- what is wrong with a sink by itself
abbrev pub sink_wrongs : (nodes number : ℕ) → SinkPlan → List Wrong
sink_wrongs nodes number s =
    end_wrongs nodes (place.Sink number) s.«end»
    ++ wrong_if (is_bad_capacity s) (place.Sink number) (flaw.BadCapacity s.capacity)

-- ---- ends that are named twice

-- there are too many nodes or wires for their ends to be compared
abbrev pub is_crowded : Plan → Bool
is_crowded p = are_many p || are_many_wires p

-- what stands at a number among all wires: they count over the wires, then the sources, then the sinks
abbrev pub holder : (wires sources number : ℕ) → Place
holder wires sources number =
    if nat_lt number wires then place.Wire number
    else if nat_lt (number - wires) sources then place.Source (number - wires)
    else place.Sink (number - wires - sources)

-- the end that a wire shares with an earlier one, if it does
abbrev pub shared_end : Wire → Wire → Option End
shared_end w earlier = if joins w.a earlier then Some w.a else if joins w.b earlier then Some w.b else None

-- an end, and the number of the wire that it was found at
abbrev pub found_at : ℕ → Option End → Option (ℕ × End) → Option (ℕ × End)
found_at number None otherwise = otherwise
found_at number (Some e) otherwise = Some (number, e)

-- the first of some wires with which a wire shares an end, and that end
abbrev pub first_sharing : Wire → ℕ → List Wire → Option (ℕ × End)
first_sharing w number [] = None
first_sharing w number (v ∷ vs) = found_at number (shared_end w v) (first_sharing w (suc number) vs)

-- an end that is shared, with the place of the earlier wire
abbrev pub shared_wrongs : (wires sources number : ℕ) → Option (ℕ × End) → List Wrong
shared_wrongs wires sources number None = []
shared_wrongs wires sources number (Some (earlier, e)) =
    wrong (holder wires sources number) (flaw.SharedEnd e (holder wires sources earlier)) ∷ []

-- each wire with an end of an earlier one
abbrev pub twice_wrongs : (wires sources : ℕ) → List Wire → List Wrong
twice_wrongs wires sources ws =
    each_from (λ k w. shared_wrongs wires sources k (first_sharing w 0 (take k ws))) 0 ws

-- each end of a plan that is named twice, where its wires are few enough to be compared
abbrev pub sharing_wrongs : Plan → List Wrong
sharing_wrongs p =
    if is_crowded p then [] else twice_wrongs (length p.wires) (length p.sources) (all_wires p)

-- ---- all of it

-- what is wrong with the wires, sources and sinks of a plan
abbrev pub joint_wrongs : Plan → List Wrong
joint_wrongs p =
    each_from (wire_wrongs (length p.nodes)) 0 p.wires
    ++ (each_from (source_wrongs (length p.nodes)) 0 p.sources
    ++ (each_from (sink_wrongs (length p.nodes)) 0 p.sinks
    ++ sharing_wrongs p))

-- what is wrong with a plan
unfoldable pub plan_wrongs : Plan → List Wrong
plan_wrongs p = net_wrongs p ++ (each_from (node_wrongs p.timeslice) 0 p.nodes ++ joint_wrongs p)

-- nothing is wrong with a plan just where a net is built of it
abbrev pub NothingIsANet : Type 0
NothingIsANet = (p : Plan) → (plan_wrongs p ≡ []) ↔ IsOk (built p)
