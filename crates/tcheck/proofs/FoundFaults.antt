-- The fault of a plan is among what is wrong with it.
use Rattle.std.proofs.Common.{◌≡◌, ℕ, suc, ◌+◌, ◌-◌, ◌<◌, ◌≤◌, ◌⊎◌, inl, inr, refl, sym, ap, ◌∙◌, subst, List, []}
use Rattle.std.proofs.Common.{◌∷◌, ◌++◌, length, get_or, take, map, Bool, true, false, ◌||◌, Option, Some, None, Result}
use Rattle.std.proofs.Common.{Ok, Err, All, arith, zero-add}
use Rattle.std.specs.Prelude.{option_map, is_some, position, nat_lt, if◌then◌else◌}
use Rattle.std.specs.List.{list_any, range_with_len}
use Rattle.std.proofs.lemmas.Bool.{ltb-false, or_cases, or_parts}
use Rattle.std.proofs.lemmas.List.{length-map}
use Rattle.std.proofs.lemmas.List.FromFn.{length-range_with_len, get_or-range_with_len}
use Rattle.std.proofs.lemmas.Option.{slice_get-get_or}
use Rattle.tword.specs.declared.breaks.Break.{Break}
use Rattle.tword.specs.Limits.{is_bad_message, most_messages, most_processes, most_segments}
use Rattle.tproc.specs.Machine.{Machine}
use Rattle.tproc.specs.Opening.{added}
use Rattle.tplan.specs.declared.plan.End.{End}
use Rattle.tplan.specs.declared.plan.Wire.{Wire}
use Rattle.tplan.specs.declared.plan.Process.{Process}
use Rattle.tplan.specs.declared.plan.NodePlan.{NodePlan}
use Rattle.tplan.specs.declared.plan.SourcePlan.{SourcePlan}
use Rattle.tplan.specs.declared.plan.SinkPlan.{SinkPlan}
use Rattle.tplan.specs.declared.plan.Plan.{Plan}
use Rattle.tplan.specs.declared.plan.BuildFault.{BuildFault}
use Rattle.tplan.specs.declared.plan.BuildFault.TheVariants.{TooMany, BadSize, BadTimeslice, BadEnd, SameEnd, EndTwice}
use Rattle.tplan.specs.declared.plan.BuildFault.TheVariants.{BadSegment, BadProcess, BadCapacity}
use Rattle.tnet.specs.Net.{NetState}
use Rattle.tplan.specs.Wires.{same_end}
use Rattle.tplan.specs.Wires.{all_wires}
use Rattle.tnet.specs.Building.{added_from, added_rest, bad_process, bad_segment, built_machine}
use Rattle.tnet.specs.Building.{fault_at, fault_in, fault_of, first_end_twice, first_with_fault, has_end_twice}
use Rattle.tnet.specs.Building.{has_too_many}
use Rattle.tnet.specs.Building.{is_bad_capacity, is_bad_end, is_bad_segment, is_bad_size, is_bad_timeslice}
use Rattle.tnet.specs.Building.{is_too_large}
use Rattle.tplan.specs.Wires.{script_ends}
use Rattle.tnet.specs.Building.{late_fault, named_ends, opening_net, or_else, refused_process}
use Rattle.tnet.specs.Building.{share_an_end}
use Rattle.tnet.specs.Building.{too_many, unless_fault, when}
use Rattle.tnet.proofs.FirstFaults.{no_fault, no_position, twice_at}
use Rattle.tcheck.specs.declared.flaws.Place.TheVariants as place
use Rattle.tcheck.specs.declared.flaws.Plenty.TheVariants as plenty
use Rattle.tcheck.specs.declared.flaws.Flaw.TheVariants as flaw
use Rattle.tcheck.specs.declared.flaws.Wrong.{Wrong}
use Rattle.tcheck.specs.Wrongs.{are_many, are_many_wires, each_from, first_sharing, held_wrongs, holder}
use Rattle.tcheck.specs.Wrongs.{is_crowded, joint_wrongs, left_by, memory_wrongs, message_wrongs, net_wrongs}
use Rattle.tcheck.specs.Wrongs.{node_wrongs}
use Rattle.tcheck.specs.Wrongs.{plan_wrongs, process_wrongs, refused, segment_wrongs, shared_wrongs, sharing_wrongs}
use Rattle.tcheck.specs.Wrongs.{sink_wrongs, source_wrongs, tried_machine, twice_wrongs, wire_wrongs, wrong}
use Rattle.tcheck.specs.PlanFaults.{FaultIsFound, IsFault, number_in}
use Rattle.tcheck.proofs.FineEnds.{none_shares}
use Rattle.tcheck.proofs.FineNodes.{bad_is_told, told, tried_is_loaded}
use Rattle.tcheck.proofs.Ones.{any_of, at_position, Has, has_each, has_else, has_if, has_it, has_left, has_right}
use Rattle.tcheck.proofs.Ones.{has_then}
use Rattle.tcheck.proofs.Ones.{of_map, of_two, PassesAt, PassesBehind, some_passes}

-- ---- parts of a plan

module _ (P : Wrong → Type 0) (p : Plan) where
  in_net : Has P (net_wrongs p) → Has P (plan_wrongs p)
  unfolding plan_wrongs
  in_net h = has_left P (net_wrongs p) (each_from (node_wrongs p.timeslice) 0 p.nodes ++ joint_wrongs p) h

  in_nodes : Has P (each_from (node_wrongs p.timeslice) 0 p.nodes) → Has P (plan_wrongs p)
  unfolding plan_wrongs
  in_nodes h =
      has_right P (net_wrongs p) (each_from (node_wrongs p.timeslice) 0 p.nodes ++ joint_wrongs p)
      (has_left P (each_from (node_wrongs p.timeslice) 0 p.nodes) (joint_wrongs p) h)

  in_joint : Has P (joint_wrongs p) → Has P (plan_wrongs p)
  unfolding plan_wrongs
  in_joint h =
      has_right P (net_wrongs p) (each_from (node_wrongs p.timeslice) 0 p.nodes ++ joint_wrongs p)
      (has_right P (each_from (node_wrongs p.timeslice) 0 p.nodes) (joint_wrongs p) h)

  in_wires : Has P (each_from (wire_wrongs (length p.nodes)) 0 p.wires) → Has P (plan_wrongs p)
  in_wires h =
      in_joint (has_left P (each_from (wire_wrongs (length p.nodes)) 0 p.wires)
      (each_from (source_wrongs (length p.nodes)) 0 p.sources
      ++ (each_from (sink_wrongs (length p.nodes)) 0 p.sinks ++ sharing_wrongs p)) h)

  in_sources : Has P (each_from (source_wrongs (length p.nodes)) 0 p.sources) → Has P (plan_wrongs p)
  in_sources h =
      in_joint (has_right P (each_from (wire_wrongs (length p.nodes)) 0 p.wires)
      (each_from (source_wrongs (length p.nodes)) 0 p.sources
      ++ (each_from (sink_wrongs (length p.nodes)) 0 p.sinks ++ sharing_wrongs p))
      (has_left P (each_from (source_wrongs (length p.nodes)) 0 p.sources)
      (each_from (sink_wrongs (length p.nodes)) 0 p.sinks ++ sharing_wrongs p) h))

  in_last : Has P (each_from (sink_wrongs (length p.nodes)) 0 p.sinks ++ sharing_wrongs p) → Has P (plan_wrongs p)
  in_last h =
      in_joint (has_right P (each_from (wire_wrongs (length p.nodes)) 0 p.wires)
      (each_from (source_wrongs (length p.nodes)) 0 p.sources
      ++ (each_from (sink_wrongs (length p.nodes)) 0 p.sinks ++ sharing_wrongs p))
      (has_right P (each_from (source_wrongs (length p.nodes)) 0 p.sources)
      (each_from (sink_wrongs (length p.nodes)) 0 p.sinks ++ sharing_wrongs p) h))

  in_sinks : Has P (each_from (sink_wrongs (length p.nodes)) 0 p.sinks) → Has P (plan_wrongs p)
  in_sinks h = in_last (has_left P (each_from (sink_wrongs (length p.nodes)) 0 p.sinks) (sharing_wrongs p) h)

  in_sharing : Has P (sharing_wrongs p) → Has P (plan_wrongs p)
  in_sharing h = in_last (has_right P (each_from (sink_wrongs (length p.nodes)) 0 p.sinks) (sharing_wrongs p) h)

  -- a part of a node, a wire, a source or a sink
  node_has : (k : ℕ) (d : NodePlan) → k < length p.nodes → Has P (node_wrongs p.timeslice k (get_or p.nodes k d))
      → Has P (plan_wrongs p)
  node_has k d l h = in_nodes (has_each P (node_wrongs p.timeslice) k p.nodes d l h)

  wire_has : (k : ℕ) (d : Wire) → k < length p.wires → Has P (wire_wrongs (length p.nodes) k (get_or p.wires k d))
      → Has P (plan_wrongs p)
  wire_has k d l h = in_wires (has_each P (wire_wrongs (length p.nodes)) k p.wires d l h)

  source_has : (k : ℕ) (d : SourcePlan) → k < length p.sources
      → Has P (source_wrongs (length p.nodes) k (get_or p.sources k d)) → Has P (plan_wrongs p)
  source_has k d l h = in_sources (has_each P (source_wrongs (length p.nodes)) k p.sources d l h)

  sink_has : (k : ℕ) (d : SinkPlan) → k < length p.sinks
      → Has P (sink_wrongs (length p.nodes) k (get_or p.sinks k d)) → Has P (plan_wrongs p)
  sink_has k d l h = in_sinks (has_each P (sink_wrongs (length p.nodes)) k p.sinks d l h)

-- ---- parts of a node, a wire, a source or a sink

module _ (P : Wrong → Type 0) where
  many_segments : (t k : ℕ) (n : NodePlan) → nat_lt most_segments (length n.image.segments) ≡ true
      → P (wrong (place.Node k) (flaw.TooMany plenty.Segments (length n.image.segments)))
      → Has P (node_wrongs t k n)
  many_segments t k n so h =
      has_left P _ _
      (has_if P (nat_lt most_segments (length n.image.segments)) (place.Node k)
      (flaw.TooMany plenty.Segments (length n.image.segments)) so h)

  many_processes : (t k : ℕ) (n : NodePlan) → nat_lt most_processes (length n.image.processes) ≡ true
      → P (wrong (place.Node k) (flaw.TooMany plenty.Processes (length n.image.processes)))
      → Has P (node_wrongs t k n)
  many_processes t k n so h =
      has_right P _ _ (has_left P _ _
      (has_if P (nat_lt most_processes (length n.image.processes)) (place.Node k)
      (flaw.TooMany plenty.Processes (length n.image.processes)) so h))

  in_memory : (t k : ℕ) (n : NodePlan) → Has P (memory_wrongs t k n) → Has P (node_wrongs t k n)
  in_memory t k n h = has_right P _ _ (has_right P _ _ h)

  in_held : (t k : ℕ) (n : NodePlan) → is_bad_size n ≡ false → Has P (held_wrongs t k n) → Has P (node_wrongs t k n)
  in_held t k n good h =
      in_memory t k n
      (has_else P (is_bad_size n) (wrong (place.Node k) (flaw.BadSize n.memory n.kind) ∷ []) (held_wrongs t k n) good h)

  in_a : (nodes k : ℕ) (w : Wire) → is_bad_end nodes w.a ≡ true → P (wrong (place.Wire k) (flaw.BadEnd w.a))
      → Has P (wire_wrongs nodes k w)
  in_a nodes k w so h = has_left P _ _ (has_if P (is_bad_end nodes w.a) (place.Wire k) (flaw.BadEnd w.a) so h)

  in_b : (nodes k : ℕ) (w : Wire) → is_bad_end nodes w.b ≡ true → P (wrong (place.Wire k) (flaw.BadEnd w.b))
      → Has P (wire_wrongs nodes k w)
  in_b nodes k w so h =
      has_right P _ _ (has_left P _ _ (has_if P (is_bad_end nodes w.b) (place.Wire k) (flaw.BadEnd w.b) so h))

  in_same : (nodes k : ℕ) (w : Wire) → same_end w.a w.b ≡ true → P (wrong (place.Wire k) (flaw.SameEnd w.a))
      → Has P (wire_wrongs nodes k w)
  in_same nodes k w so h =
      has_right P _ _ (has_right P _ _ (has_if P (same_end w.a w.b) (place.Wire k) (flaw.SameEnd w.a) so h))

  in_source_end : (nodes k : ℕ) (s : SourcePlan) → is_bad_end nodes s.«end» ≡ true
      → P (wrong (place.Source k) (flaw.BadEnd s.«end»)) → Has P (source_wrongs nodes k s)
  in_source_end nodes k s so h =
      has_left P _ _ (has_if P (is_bad_end nodes s.«end») (place.Source k) (flaw.BadEnd s.«end») so h)

  in_sink_end : (nodes k : ℕ) (s : SinkPlan) → is_bad_end nodes s.«end» ≡ true
      → P (wrong (place.Sink k) (flaw.BadEnd s.«end»)) → Has P (sink_wrongs nodes k s)
  in_sink_end nodes k s so h =
      has_left P _ _ (has_if P (is_bad_end nodes s.«end») (place.Sink k) (flaw.BadEnd s.«end») so h)

  in_capacity : (nodes k : ℕ) (s : SinkPlan) → is_bad_capacity s ≡ true
      → P (wrong (place.Sink k) (flaw.BadCapacity s.capacity)) → Has P (sink_wrongs nodes k s)
  in_capacity nodes k s so h =
      has_right P _ _ (has_if P (is_bad_capacity s) (place.Sink k) (flaw.BadCapacity s.capacity) so h)

  many_messages : (nodes k : ℕ) (s : SourcePlan) → nat_lt most_messages (length s.messages) ≡ true
      → P (wrong (place.Source k) (flaw.TooMany plenty.Messages (length s.messages))) → Has P (source_wrongs nodes k s)
  many_messages nodes k s so h =
      has_right P _ _ (has_left P _ _
      (has_if P (nat_lt most_messages (length s.messages)) (place.Source k)
      (flaw.TooMany plenty.Messages (length s.messages)) so h))

  a_message : (nodes k : ℕ) (s : SourcePlan) → list_any is_bad_message s.messages ≡ true
      → ((j size : ℕ) → P (wrong (place.Source k) (flaw.BadMessage j size))) → Has P (source_wrongs nodes k s)
  a_message nodes k s so h =
      let one = some_passes is_bad_message s.messages so in
      let m : List ℕ = get_or s.messages one.number one.here.other in
      has_right P _ _ (has_right P _ _
      (has_each P (message_wrongs k) one.number s.messages one.here.other one.here.within
      (has_if P (is_bad_message m) (place.Source k) (flaw.BadMessage one.number (length m)) one.here.passes
      (h one.number (length m)))))

-- ---- too many

large_node : (p : Plan) (k : ℕ) (d : NodePlan) → k < length p.nodes
    → (nat_lt most_segments (length (get_or p.nodes k d).image.segments) ≡ true)
    ⊎ (nat_lt most_processes (length (get_or p.nodes k d).image.processes) ≡ true)
    → Has (IsFault p TooMany) (plan_wrongs p)
large_node p k d l (inl so) =
    node_has (IsFault p TooMany) p k d l
    (many_segments (IsFault p TooMany) p.timeslice k (get_or p.nodes k d) so refl)
large_node p k d l (inr so) =
    node_has (IsFault p TooMany) p k d l
    (many_processes (IsFault p TooMany) p.timeslice k (get_or p.nodes k d) so refl)

large_source : (p : Plan) (k : ℕ) (d : SourcePlan) → k < length p.sources
    → (nat_lt most_messages (length (get_or p.sources k d).messages) ≡ true)
    ⊎ (list_any is_bad_message (get_or p.sources k d).messages ≡ true)
    → Has (IsFault p TooMany) (plan_wrongs p)
large_source p k d l (inl so) =
    source_has (IsFault p TooMany) p k d l
    (many_messages (IsFault p TooMany) (length p.nodes) k (get_or p.sources k d) so refl)
large_source p k d l (inr so) =
    source_has (IsFault p TooMany) p k d l
    (a_message (IsFault p TooMany) (length p.nodes) k (get_or p.sources k d) so (λ j size. refl))

-- some image of a plan is too large
abbrev large_nodes : Plan → Bool
large_nodes p = list_any (λ n. is_too_large n.image) p.nodes

crowded_one : (p : Plan) → (are_many p ≡ true) ⊎ (are_many_wires p ≡ true) → Has (IsFault p TooMany) (plan_wrongs p)
crowded_one p (inl so) =
    in_net (IsFault p TooMany) p
    (has_left (IsFault p TooMany) _ _ (has_if (IsFault p TooMany) (are_many p) place.Net flaw.TooManyNodes so refl))
crowded_one p (inr so) =
    in_net (IsFault p TooMany) p
    (has_right (IsFault p TooMany) _ _ (has_left (IsFault p TooMany) _ _
    (has_if (IsFault p TooMany) (are_many_wires p) place.Net (flaw.TooMany plenty.Wires (length p.wires)) so refl)))

image_one : (p : Plan) → (is_crowded p ≡ true) ⊎ (large_nodes p ≡ true) → Has (IsFault p TooMany) (plan_wrongs p)
image_one p (inl so) = crowded_one p (or_cases (are_many p) (are_many_wires p) so)
image_one p (inr so) =
    let one = some_passes (λ (n : NodePlan). is_too_large n.image) p.nodes so in
    large_node p one.number one.here.other one.here.within (or_cases _ _ one.here.passes)

many_one : (p : Plan) → ((is_crowded p || large_nodes p) ≡ true) ⊎ (list_any has_too_many p.sources ≡ true)
    → Has (IsFault p TooMany) (plan_wrongs p)
many_one p (inl so) = image_one p (or_cases (is_crowded p) (large_nodes p) so)
many_one p (inr so) =
    let one = some_passes has_too_many p.sources so in
    large_source p one.number one.here.other one.here.within (or_cases _ _ one.here.passes)

too_many_found : (p : Plan) → too_many p ≡ true → Has (IsFault p TooMany) (plan_wrongs p)
too_many_found p so =
    many_one p (or_cases (is_crowded p || large_nodes p) (list_any has_too_many p.sources) so)

-- ---- sizes, the timeslice, capacities, wires of one end

size_found : (p : Plan) (k : ℕ) → position is_bad_size p.nodes ≡ Some k → Has (IsFault p (BadSize k)) (plan_wrongs p)
size_found p k h =
    let a = at_position is_bad_size p.nodes k h in
    let n : NodePlan = get_or p.nodes k a.other in
    node_has (IsFault p (BadSize k)) p k a.other a.within
    (in_memory (IsFault p (BadSize k)) p.timeslice k n
    (has_then (IsFault p (BadSize k)) (is_bad_size n) (wrong (place.Node k) (flaw.BadSize n.memory n.kind))
    (held_wrongs p.timeslice k n) a.passes refl))

timeslice_found : (p : Plan) → is_bad_timeslice p.timeslice ≡ true → Has (IsFault p BadTimeslice) (plan_wrongs p)
timeslice_found p so =
    in_net (IsFault p BadTimeslice) p
    (has_right (IsFault p BadTimeslice) _ _ (has_right (IsFault p BadTimeslice) _ _
    (has_if (IsFault p BadTimeslice) (is_bad_timeslice p.timeslice) place.Net (flaw.BadTimeslice p.timeslice) so refl)))

capacity_found : (p : Plan) (k : ℕ) → position is_bad_capacity p.sinks ≡ Some k
    → Has (IsFault p (BadCapacity k)) (plan_wrongs p)
capacity_found p k h =
    let a = at_position is_bad_capacity p.sinks k h in
    sink_has (IsFault p (BadCapacity k)) p k a.other a.within
    (in_capacity (IsFault p (BadCapacity k)) (length p.nodes) k (get_or p.sinks k a.other) a.passes refl)

same_found : (p : Plan) (k : ℕ) → position (λ w. same_end w.a w.b) p.wires ≡ Some k
    → Has (IsFault p (SameEnd k)) (plan_wrongs p)
same_found p k h =
    let a = at_position (λ (w : Wire). same_end w.a w.b) p.wires k h in
    wire_has (IsFault p (SameEnd k)) p k a.other a.within
    (in_same (IsFault p (SameEnd k)) (length p.nodes) k (get_or p.wires k a.other) a.passes refl)

-- ---- ends that are no links

-- an end of a wire, a source or a sink, by its number among them
a_wire : (p : Plan) (k : ℕ) (d : Wire) → k < length p.wires
    → (is_bad_end (length p.nodes) (get_or p.wires k d).a ≡ true)
    ⊎ ((is_bad_end (length p.nodes) (get_or p.wires k d).b || false) ≡ true)
    → Has (IsFault p (BadEnd k)) (plan_wrongs p)
a_wire p k d l (inl so) =
    wire_has (IsFault p (BadEnd k)) p k d l
    (in_a (IsFault p (BadEnd k)) (length p.nodes) k (get_or p.wires k d) so refl)
a_wire p k d l (inr so) =
    wire_has (IsFault p (BadEnd k)) p k d l
    (in_b (IsFault p (BadEnd k)) (length p.nodes) k (get_or p.wires k d) (only _ so) refl)
  where
    only : (b : Bool) → (b || false) ≡ true → b ≡ true
    only true h = refl
    only false h = h

only_one : (b : Bool) → (b || false) ≡ true → b ≡ true
only_one true h = refl
only_one false h = h

-- the ends of sources, then of sinks
abbrev source_ends : Plan → List End
source_ends p = map (λ s. s.«end») p.sources

abbrev sink_ends : Plan → List End
sink_ends p = map (λ s. s.«end») p.sinks

is_numbered : (p : Plan) (m n : ℕ) → m ≡ n → Some (BadEnd m) ≡ Some (BadEnd n)
is_numbered p m n e = ap (λ (j : ℕ). Some (BadEnd j)) e

a_source : (p : Plan) (k j : ℕ) → k ≡ length p.wires + j
    → PassesAt (λ s. list_any (is_bad_end (length p.nodes)) (s.«end» ∷ [])) p.sources j
    → Has (IsFault p (BadEnd k)) (plan_wrongs p)
a_source p k j e a =
    let s : SourcePlan = get_or p.sources j a.other in
    source_has (IsFault p (BadEnd k)) p j a.other a.within
    (in_source_end (IsFault p (BadEnd k)) (length p.nodes) j s (only_one _ a.passes)
    (is_numbered p (length p.wires + j) k (sym e)))

a_sink : (p : Plan) (k j : ℕ) → k ≡ length p.wires + (length p.sources + j)
    → PassesAt (λ s. list_any (is_bad_end (length p.nodes)) (s.«end» ∷ [])) p.sinks j
    → Has (IsFault p (BadEnd k)) (plan_wrongs p)
a_sink p k j e a =
    let s : SinkPlan = get_or p.sinks j a.other in
    sink_has (IsFault p (BadEnd k)) p j a.other a.within
    (in_sink_end (IsFault p (BadEnd k)) (length p.nodes) j s (only_one _ a.passes)
    (is_numbered p (length p.wires + (length p.sources + j)) k (sym e)))

a_script : (p : Plan) (k j : ℕ) → k ≡ length p.wires + j
    → (PassesAt (λ e. list_any (is_bad_end (length p.nodes)) (e ∷ [])) (source_ends p) j)
    ⊎ (PassesBehind (λ e. list_any (is_bad_end (length p.nodes)) (e ∷ [])) (source_ends p) (sink_ends p) j)
    → Has (IsFault p (BadEnd k)) (plan_wrongs p)
a_script p k j e (inl a) =
    a_source p k j e
    (of_map (λ e. list_any (is_bad_end (length p.nodes)) (e ∷ [])) (λ (s : SourcePlan). s.«end») p.sources j a)
a_script p k j e (inr b) =
    let count : length (source_ends p) ≡ length p.sources = length-map p.sources (λ (s : SourcePlan). s.«end») in
    a_sink p k b.number (omega (arith, e, b.is, count))
    (of_map (λ e. list_any (is_bad_end (length p.nodes)) (e ∷ [])) (λ (s : SinkPlan). s.«end») p.sinks b.number b.here)

-- both ends of each wire
abbrev wire_ends : Plan → List (List End)
wire_ends p = map (λ w. w.a ∷ w.b ∷ []) p.wires

an_end : (p : Plan) (k : ℕ)
    → (PassesAt (list_any (is_bad_end (length p.nodes))) (wire_ends p) k)
    ⊎ (PassesBehind (list_any (is_bad_end (length p.nodes))) (wire_ends p) (map (λ e. e ∷ []) (script_ends p)) k)
    → Has (IsFault p (BadEnd k)) (plan_wrongs p)
an_end p k (inl a) =
    let b = of_map (list_any (is_bad_end (length p.nodes))) (λ (w : Wire). w.a ∷ w.b ∷ []) p.wires k a in
    a_wire p k b.other b.within (or_cases _ _ b.passes)
an_end p k (inr b) =
    let bad : List End → Bool = list_any (is_bad_end (length p.nodes)) in
    let count : length (wire_ends p) ≡ length p.wires = length-map p.wires (λ (w : Wire). w.a ∷ w.b ∷ []) in
    a_script p k b.number (omega (arith, b.is, count))
    (of_two (λ e. bad (e ∷ [])) (source_ends p) (sink_ends p) b.number
    (of_map bad (λ (e : End). e ∷ []) (script_ends p) b.number b.here))

end_found : (p : Plan) (k : ℕ) → position (list_any (is_bad_end (length p.nodes))) (named_ends p) ≡ Some k
    → Has (IsFault p (BadEnd k)) (plan_wrongs p)
end_found p k h =
    let bad : List End → Bool = list_any (is_bad_end (length p.nodes)) in
    an_end p k
    (of_two bad (wire_ends p) (map (λ e. e ∷ []) (script_ends p)) k (at_position bad (named_ends p) k h))

-- ---- ends that are named twice

-- a number among all wires is that of what stands there
holder_number : (p : Plan) (k : ℕ) → number_in p (holder (length p.wires) (length p.sources) k) ≡ k
holder_number p k = by (nat_lt k (length p.wires)) refl
  where
    behind : length p.wires ≤ k → (b : Bool) → nat_lt (k - length p.wires) (length p.sources) ≡ b
        → number_in p (if b then place.Source (k - length p.wires)
        else place.Sink (k - length p.wires - length p.sources)) ≡ k
    behind l true e = omega (arith, l)
    behind l false e =
        let m : length p.sources ≤ k - length p.wires = ltb-false (k - length p.wires) (length p.sources) e in
        omega (arith, l, m)

    by : (b : Bool) → nat_lt k (length p.wires) ≡ b
        → number_in p (holder (length p.wires) (length p.sources) k) ≡ k
    by true e = rw e refl
    by false e =
        rw e (behind (ltb-false k (length p.wires) e) (nat_lt (k - length p.wires) (length p.sources)) refl)

-- a wire that shares an end with an earlier one is told
shared_has : (p : Plan) (k : ℕ) (w : Wire) (earlier : List Wire) (o : Option (ℕ × End))
    → first_sharing w 0 earlier ≡ o → list_any (share_an_end w) earlier ≡ true
    → Has (IsFault p (EndTwice k)) (shared_wrongs (length p.wires) (length p.sources) k o)
shared_has p k w earlier None e so =
    let none : list_any (share_an_end w) earlier ≡ false = none_shares w 0 earlier e in
    let no : false ≡ true = sym none ∙ so in cc
shared_has p k w earlier (Some (j, e)) is so =
    has_it (IsFault p (EndTwice k)) _ (ap (λ (n : ℕ). Some (EndTwice n)) (holder_number p k))

twice_found : (p : Plan) (k : ℕ) → is_crowded p ≡ false → first_end_twice (all_wires p) ≡ Some k
    → Has (IsFault p (EndTwice k)) (plan_wrongs p)
twice_found p k few h =
    let P : Wrong → Type 0 = IsFault p (EndTwice k) in
    let ws : List Wire = all_wires p in
    let d : Wire = record { a = record { node = 0; link = 0 }; b = record { node = 0; link = 0 } } in
    let a = at_position (has_end_twice ws) (range_with_len 0 (length ws)) k h in
    let count : length (range_with_len 0 (length ws)) ≡ length ws = length-range_with_len 0 (length ws) in
    let within : k < length ws = omega (arith, a.within, count) in
    let is : get_or (range_with_len 0 (length ws)) k a.other ≡ k =
    get_or-range_with_len 0 (length ws) k a.other within ∙ zero-add k in
    let so : list_any (share_an_end (get_or ws k d)) (take k ws) ≡ true =
    sym (twice_at ws k (get_or ws k d) (slice_get-get_or ws k d within)) ∙ ap (has_end_twice ws) (sym is) ∙ a.passes in
    in_sharing P p
    (has_else P (is_crowded p) [] (twice_wrongs (length p.wires) (length p.sources) ws) few
    (has_each P (λ j w. shared_wrongs (length p.wires) (length p.sources) j (first_sharing w 0 (take j ws))) k ws d
    within
    (shared_has p k (get_or ws k d) (take k ws) (first_sharing (get_or ws k d) 0 (take k ws)) refl so)))

-- ---- segments and processes

-- an element that has this fault
record HasFaultAt {A B : Type 0} (f : A → Option B) (xs : List A) (k : ℕ) (x : B) : Type 0 where
  pub other : A
  pub within : k < length xs
  pub is : f (get_or xs k other) ≡ Some x

mapped_at : {B : Type 0} (j : ℕ) (o : Option B) (q : ℕ × B) → option_map {U = ℕ × B} (λ y. (j, y)) o ≡ Some q
    → (j ≡ q.0) × (o ≡ Some q.1)
mapped_at j None q h = cc
mapped_at j (Some y) q h =
    let e : (j, y) ≡ q = cc in
    (ap (λ r. r.0) e, ap (λ r. Some r.1) e)

faulty : {A B : Type 0} (f : A → Option B) (xs : List A) (q : ℕ × B) → first_with_fault f xs ≡ Some q
    → HasFaultAt f xs q.0 q.1
faulty {A} {B} f xs q h = by (position (λ x. is_some (f x)) xs) refl h
  where
    by : (o : Option ℕ) → position (λ x. is_some (f x)) xs ≡ o → fault_at f xs o ≡ Some q → HasFaultAt f xs q.0 q.1
    by None e g = cc
    by (Some j) e g =
        let a = at_position (λ x. is_some (f x)) xs j e in
        let m = mapped_at j (f (get_or xs j a.other)) q
        (ap (fault_in f j) (sym (slice_get-get_or xs j a.other a.within)) ∙ g) in
        record {
          other = a.other;
          within = omega (arith, a.within, m.0);
          is = ap (λ (i : ℕ). f (get_or xs i a.other)) (sym m.0) ∙ m.1;
        }

segment_found : (p : Plan) (q : ℕ × ℕ) → position is_bad_size p.nodes ≡ None
    → first_with_fault bad_segment p.nodes ≡ Some q → Has (IsFault p (BadSegment q.0 q.1)) (plan_wrongs p)
segment_found p q sizes h =
    let P : Wrong → Type 0 = IsFault p (BadSegment q.0 q.1) in
    let a = faulty bad_segment p.nodes q h in
    let n : NodePlan = get_or p.nodes q.0 a.other in
    let good : is_bad_size n ≡ false = no_position is_bad_size p.nodes sizes q.0 a.other a.within in
    let s = at_position (λ s. is_bad_segment n.memory s) n.image.segments q.1 a.is in
    let segment = get_or n.image.segments q.1 s.other in
    node_has P p q.0 a.other a.within
    (in_held P p.timeslice q.0 n good
    (has_left P (each_from (segment_wrongs n.memory q.0) 0 n.image.segments)
    (process_wrongs q.0 0 n.image.processes (tried_machine p.timeslice n))
    (has_each P (segment_wrongs n.memory q.0) q.1 n.image.segments s.other s.within
    (has_if P (is_bad_segment n.memory segment) (place.Node q.0)
    (flaw.BadSegment q.1 segment.address (length segment.bytes) n.memory) s.passes refl))))

-- the first process that is refused is told
module _ (P : Wrong → Type 0) (node : ℕ) where
  process_has : (k : ℕ) (ps : List Process) (m : Machine) (q : ℕ × Break) → told (added_from k ps m) ≡ Some q
      → ((descriptor : ℕ) → P (wrong (place.Node node) (flaw.BadProcess q.0 descriptor q.1)))
      → Has P (process_wrongs node k ps m)
  process_has k [] m q h is = cc
  process_has k (p ∷ ps) m q h is =
      by (added p.wdesc p.iptr m) (λ n g. process_has (suc k) ps n q g is) h
    where
      by : (x : Result Machine Break)
          → ((n : Machine) → told (added_from (suc k) ps n) ≡ Some q → Has P (process_wrongs node (suc k) ps n))
          → told (added_rest (added_from (suc k) ps) k x) ≡ Some q
          → Has P (refused node k p x ++ process_wrongs node (suc k) ps (left_by m x))
      by (Ok n) rest e = rest n e
      by (Err b) rest e =
          let same : (k, b) ≡ q = cc in
          has_left P (refused node k p (Err b)) (process_wrongs node (suc k) ps m)
          (has_it P (wrong (place.Node node) (flaw.BadProcess k p.wdesc b))
          (subst (λ (r : ℕ × Break). P (wrong (place.Node node) (flaw.BadProcess r.0 p.wdesc r.1))) (sym same)
          (is p.wdesc)))

process_found : (p : Plan) (q : ℕ × (ℕ × Break)) → position is_bad_size p.nodes ≡ None
    → is_bad_timeslice p.timeslice ≡ false → first_with_fault bad_segment p.nodes ≡ None
    → first_with_fault (bad_process p.timeslice) p.nodes ≡ Some q
    → Has (IsFault p (BadProcess q.0 q.1.0 q.1.1)) (plan_wrongs p)
process_found p q sizes slice segments h =
    let P : Wrong → Type 0 = IsFault p (BadProcess q.0 q.1.0 q.1.1) in
    let t : ℕ = p.timeslice in
    let a = faulty (bad_process t) p.nodes q h in
    let n : NodePlan = get_or p.nodes q.0 a.other in
    let good : is_bad_size n ≡ false = no_position is_bad_size p.nodes sizes q.0 a.other a.within in
    let none : bad_segment n ≡ None = no_fault bad_segment p.nodes segments q.0 a.other a.within in
    let each : All (λ s. is_bad_segment n.memory s ≡ false) n.image.segments =
    no_position (λ s. is_bad_segment n.memory s) n.image.segments none in
    let is : told (added_from 0 n.image.processes (tried_machine t n)) ≡ Some q.1 =
    ap (λ (m : Machine). told (added_from 0 n.image.processes m)) (tried_is_loaded t n slice each)
    ∙ sym (bad_is_told (built_machine t n)) ∙ a.is in
    node_has P p q.0 a.other a.within
    (in_held P t q.0 n good
    (has_right P (each_from (segment_wrongs n.memory q.0) 0 n.image.segments)
    (process_wrongs q.0 0 n.image.processes (tried_machine t n))
    (process_has P q.0 0 n.image.processes (tried_machine t n) q.1 is (λ descriptor. refl))))

-- ---- the fault of a plan

either_fault : (a b : Option BuildFault) (f : BuildFault) → or_else a b ≡ Some f
    → (a ≡ Some f) ⊎ ((a ≡ None) × (b ≡ Some f))
either_fault None b f h = inr (refl, h)
either_fault (Some g) b f h = inl h

of_when : (b : Bool) (g f : BuildFault) → when b g ≡ Some f → (b ≡ true) × (g ≡ f)
of_when true g f h = (refl, cc)
of_when false g f h = cc

not_when : (b : Bool) (g : BuildFault) → when b g ≡ None → b ≡ false
not_when false g h = refl
not_when true g h = cc

-- a fault that is made of a place
record IsMadeOf {A : Type 0} (g : A → BuildFault) (o : Option A) (f : BuildFault) : Type 0 where
  pub place : A
  pub there : o ≡ Some place
  pub is : g place ≡ f

of_mapped : {A : Type 0} (g : A → BuildFault) (o : Option A) (f : BuildFault) → option_map g o ≡ Some f → IsMadeOf g o f
of_mapped g None f h = cc
of_mapped g (Some x) f h = record { place = x; there = refl; is = cc }

not_mapped : {A : Type 0} (g : A → BuildFault) (o : Option A) → option_map g o ≡ None → o ≡ None
not_mapped g None h = refl
not_mapped g (Some x) h = cc

-- what is found for one spelling of a fault is found for the other
found_as : (p : Plan) (g f : BuildFault) → g ≡ f → Has (IsFault p g) (plan_wrongs p) → Has (IsFault p f) (plan_wrongs p)
found_as p g f e h = subst (λ (x : BuildFault). Has (IsFault p x) (plan_wrongs p)) e h

module _ (p : Plan) (f : BuildFault) where
  abbrev Found : Type 0
  Found = Has (IsFault p f) (plan_wrongs p)

  by_many : when (too_many p) TooMany ≡ Some f → Found
  by_many h = let a = of_when (too_many p) TooMany f h in found_as p TooMany f a.1 (too_many_found p a.0)

  by_timeslice : when (is_bad_timeslice p.timeslice) BadTimeslice ≡ Some f → Found
  by_timeslice h =
      let a = of_when (is_bad_timeslice p.timeslice) BadTimeslice f h in
      found_as p BadTimeslice f a.1 (timeslice_found p a.0)

  by_place : (g : ℕ → BuildFault) (o : Option ℕ)
      → ((k : ℕ) → o ≡ Some k → Has (IsFault p (g k)) (plan_wrongs p)) → option_map g o ≡ Some f → Found
  by_place g o found h =
      let m = of_mapped g o f h in
      found_as p (g m.place) f m.is (found m.place m.there)

  by_segment : position is_bad_size p.nodes ≡ None
      → option_map (λ f. BadSegment f.0 f.1) (first_with_fault bad_segment p.nodes) ≡ Some f → Found
  by_segment sizes h =
      let m = of_mapped (λ (q : ℕ × ℕ). BadSegment q.0 q.1) (first_with_fault bad_segment p.nodes) f h in
      found_as p (BadSegment m.place.0 m.place.1) f m.is (segment_found p m.place sizes m.there)

  by_process : position is_bad_size p.nodes ≡ None → is_bad_timeslice p.timeslice ≡ false
      → first_with_fault bad_segment p.nodes ≡ None → refused_process p.timeslice p.nodes ≡ Some f → Found
  by_process sizes slice segments h =
      let m = of_mapped (λ (q : ℕ × (ℕ × Break)). BadProcess q.0 q.1.0 q.1.1)
      (first_with_fault (bad_process p.timeslice) p.nodes) f h in
      found_as p (BadProcess m.place.0 m.place.1.0 m.place.1.1) f m.is
      (process_found p m.place sizes slice segments m.there)

-- the faults behind one, where that one and those before it are not
behind_segments : (p : Plan) (f : BuildFault) → position is_bad_size p.nodes ≡ None
    → is_bad_timeslice p.timeslice ≡ false → first_with_fault bad_segment p.nodes ≡ None
    → (refused_process p.timeslice p.nodes ≡ Some f)
    ⊎ ((refused_process p.timeslice p.nodes ≡ None)
    × (option_map BadCapacity (position is_bad_capacity p.sinks) ≡ Some f))
    → Has (IsFault p f) (plan_wrongs p)
behind_segments p f sizes slice segments (inl now) = by_process p f sizes slice segments now
behind_segments p f sizes slice segments (inr later) =
    by_place p f BadCapacity (position is_bad_capacity p.sinks) (capacity_found p) later.1

-- the first bad segment of a plan as a fault
abbrev segment_fault : Plan → Option BuildFault
segment_fault p = option_map (λ f. BadSegment f.0 f.1) (first_with_fault bad_segment p.nodes)

behind_ends : (p : Plan) (f : BuildFault) → position is_bad_size p.nodes ≡ None → is_bad_timeslice p.timeslice ≡ false
    → (segment_fault p ≡ Some f) ⊎ ((segment_fault p ≡ None) × (late_fault p ≡ Some f))
    → Has (IsFault p f) (plan_wrongs p)
behind_ends p f sizes slice (inl now) = by_segment p f sizes now
behind_ends p f sizes slice (inr later) =
    behind_segments p f sizes slice
    (not_mapped (λ (q : ℕ × ℕ). BadSegment q.0 q.1) (first_with_fault bad_segment p.nodes) later.0)
    (either_fault _ _ f later.1)

-- the first end that is named twice as a fault, and those behind it
abbrev twice_fault : Plan → Option BuildFault
twice_fault p = option_map EndTwice (first_end_twice (all_wires p))

abbrev from_segments : Plan → Option BuildFault
from_segments p = or_else (segment_fault p) (late_fault p)

behind_same : (p : Plan) (f : BuildFault) → is_crowded p ≡ false → position is_bad_size p.nodes ≡ None
    → is_bad_timeslice p.timeslice ≡ false
    → (twice_fault p ≡ Some f) ⊎ ((twice_fault p ≡ None) × (from_segments p ≡ Some f))
    → Has (IsFault p f) (plan_wrongs p)
behind_same p f few sizes slice (inl now) =
    by_place p f EndTwice (first_end_twice (all_wires p)) (λ k h. twice_found p k few h) now
behind_same p f few sizes slice (inr later) = behind_ends p f sizes slice (either_fault _ _ f later.1)

-- the first wire whose ends are the same as a fault, and those behind it
abbrev same_fault : Plan → Option BuildFault
same_fault p = option_map SameEnd (position (λ w. same_end w.a w.b) p.wires)

abbrev from_twice : Plan → Option BuildFault
from_twice p = or_else (twice_fault p) (from_segments p)

behind_bad_ends : (p : Plan) (f : BuildFault) → is_crowded p ≡ false → position is_bad_size p.nodes ≡ None
    → is_bad_timeslice p.timeslice ≡ false
    → (same_fault p ≡ Some f) ⊎ ((same_fault p ≡ None) × (from_twice p ≡ Some f))
    → Has (IsFault p f) (plan_wrongs p)
behind_bad_ends p f few sizes slice (inl now) =
    by_place p f SameEnd (position (λ w. same_end w.a w.b) p.wires) (same_found p) now
behind_bad_ends p f few sizes slice (inr later) = behind_same p f few sizes slice (either_fault _ _ f later.1)

-- the first bad end as a fault, and those behind it
abbrev end_fault : Plan → Option BuildFault
end_fault p = option_map BadEnd (position (list_any (is_bad_end (length p.nodes))) (named_ends p))

abbrev from_same : Plan → Option BuildFault
from_same p = or_else (same_fault p) (from_twice p)

behind_timeslice : (p : Plan) (f : BuildFault) → is_crowded p ≡ false → position is_bad_size p.nodes ≡ None
    → is_bad_timeslice p.timeslice ≡ false
    → (end_fault p ≡ Some f) ⊎ ((end_fault p ≡ None) × (from_same p ≡ Some f))
    → Has (IsFault p f) (plan_wrongs p)
behind_timeslice p f few sizes slice (inl now) =
    by_place p f BadEnd (position (list_any (is_bad_end (length p.nodes))) (named_ends p)) (end_found p) now
behind_timeslice p f few sizes slice (inr later) = behind_bad_ends p f few sizes slice (either_fault _ _ f later.1)

-- a bad timeslice as a fault, and those behind it
abbrev slice_fault : Plan → Option BuildFault
slice_fault p = when (is_bad_timeslice p.timeslice) BadTimeslice

abbrev from_ends : Plan → Option BuildFault
from_ends p = or_else (end_fault p) (from_same p)

behind_sizes : (p : Plan) (f : BuildFault) → is_crowded p ≡ false → position is_bad_size p.nodes ≡ None
    → (slice_fault p ≡ Some f) ⊎ ((slice_fault p ≡ None) × (from_ends p ≡ Some f))
    → Has (IsFault p f) (plan_wrongs p)
behind_sizes p f few sizes (inl now) = by_timeslice p f now
behind_sizes p f few sizes (inr later) =
    behind_timeslice p f few sizes (not_when (is_bad_timeslice p.timeslice) BadTimeslice later.0)
    (either_fault _ _ f later.1)

-- the first bad size as a fault, and those behind it
abbrev size_fault : Plan → Option BuildFault
size_fault p = option_map BadSize (position is_bad_size p.nodes)

abbrev from_slice : Plan → Option BuildFault
from_slice p = or_else (slice_fault p) (from_ends p)

behind_many : (p : Plan) (f : BuildFault) → is_crowded p ≡ false
    → (size_fault p ≡ Some f) ⊎ ((size_fault p ≡ None) × (from_slice p ≡ Some f))
    → Has (IsFault p f) (plan_wrongs p)
behind_many p f few (inl now) = by_place p f BadSize (position is_bad_size p.nodes) (size_found p) now
behind_many p f few (inr later) =
    behind_sizes p f few (not_mapped BadSize (position is_bad_size p.nodes) later.0) (either_fault _ _ f later.1)

abbrev from_sizes : Plan → Option BuildFault
from_sizes p = or_else (size_fault p) (from_slice p)

each_fault : (p : Plan) (f : BuildFault)
    → (when (too_many p) TooMany ≡ Some f) ⊎ ((when (too_many p) TooMany ≡ None) × (from_sizes p ≡ Some f))
    → Has (IsFault p f) (plan_wrongs p)
each_fault p f (inl now) = by_many p f now
each_fault p f (inr later) =
    let few : too_many p ≡ false = not_when (too_many p) TooMany later.0 in
    let images : (is_crowded p || large_nodes p) ≡ false =
    (or_parts (is_crowded p || large_nodes p) (list_any has_too_many p.sources) few).0 in
    let crowd : is_crowded p ≡ false = (or_parts (is_crowded p) (large_nodes p) images).0 in
    behind_many p f crowd (either_fault _ _ f later.1)

fault_found : (p : Plan) (f : BuildFault) → fault_of p ≡ Some f → Has (IsFault p f) (plan_wrongs p)
unfolding fault_of
fault_found p f h = each_fault p f (either_fault (when (too_many p) TooMany) (from_sizes p) f h)

-- a plan without a net has a fault
has_fault : (net : NetState) (o : Option BuildFault) (f : BuildFault) → unless_fault net o ≡ Err f → o ≡ Some f
has_fault net None f h = cc
has_fault net (Some g) f h = let e : g ≡ f = cc in ap (λ (x : BuildFault). Some x) e

pub fault_is_found : FaultIsFound
fault_is_found p f h =
    any_of (IsFault p f) (plan_wrongs p) (fault_found p f (has_fault (opening_net p) (fault_of p) f h))
