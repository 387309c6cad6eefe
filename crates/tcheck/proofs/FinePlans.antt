-- Nothing is wrong with a plan just where a net is built of it.
use Rattle.std.proofs.Common.{◌≡◌, ℕ, zero, suc, arith, refl, List, [], ◌∷◌, ◌++◌, length, map, Bool, true, false, ◌||◌}
use Rattle.std.proofs.Common.{Option, Some, None, All, IsOk}
use Rattle.std.specs.Prelude.{option_map, position, nat_lt, if◌then◌else◌}
use Rattle.std.specs.List.{list_any}
use Rattle.std.proofs.lemmas.Bool.{or_parts}
use Rattle.std.proofs.lemmas.List.Folds.{list_any_none}
use Rattle.tword.specs.Limits.{is_bad_message, most_messages}
use Rattle.tplan.specs.declared.plan.End.{End}
use Rattle.tplan.specs.declared.plan.Wire.{Wire}
use Rattle.tplan.specs.declared.plan.NodePlan.{NodePlan}
use Rattle.tplan.specs.declared.plan.SourcePlan.{SourcePlan}
use Rattle.tplan.specs.declared.plan.SinkPlan.{SinkPlan}
use Rattle.tplan.specs.declared.plan.Plan.{Plan}
use Rattle.tplan.specs.declared.plan.BuildFault.{BuildFault}
use Rattle.tplan.specs.declared.plan.BuildFault.TheVariants.{BadSize, BadEnd, SameEnd, EndTwice}
use Rattle.tplan.specs.declared.plan.BuildFault.TheVariants.{BadSegment, BadProcess, BadCapacity}
use Rattle.tnet.specs.Net.{NetState}
use Rattle.tplan.specs.Wires.{same_end}
use Rattle.tplan.specs.Wires.{all_wires}
use Rattle.tnet.specs.Building.{bad_process, bad_segment, fault_of, first_end_twice, first_with_fault}
use Rattle.tnet.specs.Building.{has_too_many, is_bad_capacity, is_bad_end, is_bad_size, is_bad_timeslice, is_too_large}
use Rattle.tplan.specs.Wires.{script_ends}
use Rattle.tnet.specs.Building.{named_ends, opening_net, or_else, too_many, unless_fault, when}
use Rattle.tnet.proofs.FirstFaults.{no_fault, no_position, none_faulty, position_none}
use Rattle.tcheck.specs.declared.flaws.Place.TheVariants as place
use Rattle.tcheck.specs.declared.flaws.Plenty.TheVariants as plenty
use Rattle.tcheck.specs.declared.flaws.Flaw.TheVariants as flaw
use Rattle.tcheck.specs.declared.flaws.Wrong.{Wrong}
use Rattle.tcheck.specs.Wrongs.{are_many, are_many_wires, end_wrongs, joint_wrongs, net_wrongs, wrong_if}
use Rattle.tcheck.specs.Wrongs.{each_from, is_crowded, message_wrongs, node_wrongs, NothingIsANet, plan_wrongs}
use Rattle.tcheck.specs.Wrongs.{sharing_wrongs, sink_wrongs, source_wrongs, twice_wrongs, wire_wrongs}
use Rattle.tcheck.proofs.FineEnds.{nil_twice, twice_nil}
use Rattle.tcheck.proofs.FineNodes.{IsFineNode, nil_node, node_nil}
use Rattle.tcheck.proofs.Nothing.{all_append, all_each, all_left, all_map, all_right, both_nil, each_all, if_nil}
use Rattle.tcheck.proofs.Nothing.{map_all, nil_both, nil_if}

-- ---- a plan without a fault

either : (a b : Option BuildFault) → or_else a b ≡ None → (a ≡ None) × (b ≡ None)
either None b h = (refl, h)
either (Some x) b h = cc

neither : (a b : Option BuildFault) → a ≡ None → b ≡ None → or_else a b ≡ None
neither a b p q = rw p q

not_when : (b : Bool) (f : BuildFault) → when b f ≡ None → b ≡ false
not_when false f h = refl
not_when true f h = cc

when_not : (b : Bool) (f : BuildFault) → b ≡ false → when b f ≡ None
when_not b f h = rw h refl

not_mapped : {A : Type 0} (g : A → BuildFault) (o : Option A) → option_map g o ≡ None → o ≡ None
not_mapped g None h = refl
not_mapped g (Some x) h = cc

mapped_not : {A : Type 0} (g : A → BuildFault) (o : Option A) → o ≡ None → option_map g o ≡ None
mapped_not g o h = rw h refl

pub record IsFinePlan (p : Plan) : Type 0 where
  pub few : too_many p ≡ false
  pub sizes : position is_bad_size p.nodes ≡ None
  pub timeslice : is_bad_timeslice p.timeslice ≡ false
  pub ends : position (list_any (is_bad_end (length p.nodes))) (named_ends p) ≡ None
  pub apart : position (λ w. same_end w.a w.b) p.wires ≡ None
  pub once : first_end_twice (all_wires p) ≡ None
  pub segments : first_with_fault bad_segment p.nodes ≡ None
  pub processes : first_with_fault (bad_process p.timeslice) p.nodes ≡ None
  pub capacities : position is_bad_capacity p.sinks ≡ None

fine_of : (p : Plan) → fault_of p ≡ None → IsFinePlan p
unfolding fault_of
fine_of p h =
    let a = either _ _ h in
    let b = either _ _ a.1 in
    let c = either _ _ b.1 in
    let d = either _ _ c.1 in
    let e = either _ _ d.1 in
    let f = either _ _ e.1 in
    let g = either _ _ f.1 in
    let i = either _ _ g.1 in
    record {
      few = not_when _ _ a.0;
      sizes = not_mapped _ _ b.0;
      timeslice = not_when _ _ c.0;
      ends = not_mapped _ _ d.0;
      apart = not_mapped _ _ e.0;
      once = not_mapped _ _ f.0;
      segments = not_mapped _ _ g.0;
      processes = not_mapped _ _ i.0;
      capacities = not_mapped _ _ i.1;
    }

of_fine : (p : Plan) → IsFinePlan p → fault_of p ≡ None
unfolding fault_of
of_fine p fine =
    neither _ _ (when_not _ _ fine.few)
    (neither _ _ (mapped_not BadSize _ fine.sizes)
    (neither _ _ (when_not _ _ fine.timeslice)
    (neither _ _ (mapped_not BadEnd _ fine.ends)
    (neither _ _ (mapped_not SameEnd _ fine.apart)
    (neither _ _ (mapped_not EndTwice _ fine.once)
    (neither _ _ (mapped_not (λ f. BadSegment f.0 f.1) _ fine.segments)
    (neither _ _ (mapped_not (λ f. BadProcess f.0 f.1.0 f.1.1) _ fine.processes)
    (mapped_not BadCapacity _ fine.capacities))))))))

-- ---- a source by itself

no_any : {A : Type 0} (t : A → Bool) (xs : List A) → list_any t xs ≡ false → All (λ x. t x ≡ false) xs
no_any t [] h k d l = absurd (omega (arith, l))
no_any t (x ∷ xs) h zero d l =
    let both : (t x ≡ false) × (list_any t xs ≡ false) = or_parts _ _ h in
    both.0
no_any t (x ∷ xs) h (suc k) d l =
    let both : (t x ≡ false) × (list_any t xs ≡ false) = or_parts _ _ h in
    no_any t xs both.1 k d (omega (arith, l))

or_false : (a b : Bool) → a ≡ false → b ≡ false → (a || b) ≡ false
or_false a b p q = rw (p, q) refl

-- a source with none of the faults of a source
record IsFineSource (nodes : ℕ) (s : SourcePlan) : Type 0 where
  pub place : is_bad_end nodes s.«end» ≡ false
  pub messages : has_too_many s ≡ false

source_nil : (nodes k : ℕ) (s : SourcePlan) → source_wrongs nodes k s ≡ [] → IsFineSource nodes s
source_nil nodes k s h =
    let many : List Wrong =
    wrong_if (nat_lt most_messages (length s.messages)) (place.Source k)
    (flaw.TooMany plenty.Messages (length s.messages)) in
    let bad : List Wrong = each_from (message_wrongs k) 0 s.messages in
    let first : (end_wrongs nodes (place.Source k) s.«end» ≡ []) × (many ++ bad ≡ []) = both_nil _ _ h in
    let second : (many ≡ []) × (bad ≡ []) = both_nil _ _ first.1 in
    record {
      place = if_nil (is_bad_end nodes s.«end») (place.Source k) (flaw.BadEnd s.«end») first.0;
      messages = or_false _ _
          (if_nil (nat_lt most_messages (length s.messages)) (place.Source k)
          (flaw.TooMany plenty.Messages (length s.messages)) second.0)
          (list_any_none is_bad_message s.messages
          (each_all (message_wrongs k) (λ m. is_bad_message m ≡ false)
          (λ j m e. if_nil (is_bad_message m) (place.Source k) (flaw.BadMessage j (length m)) e) 0 s.messages
          second.1));
    }

nil_source : (nodes k : ℕ) (s : SourcePlan) → IsFineSource nodes s → source_wrongs nodes k s ≡ []
nil_source nodes k s fine =
    let both : (nat_lt most_messages (length s.messages) ≡ false) × (list_any is_bad_message s.messages ≡ false) =
    or_parts _ _ fine.messages in
    nil_both _ _ (nil_if _ _ _ fine.place)
    (nil_both _ _ (nil_if _ _ _ both.0)
    (all_each (message_wrongs k) (λ m. is_bad_message m ≡ false)
    (λ j m e. nil_if (is_bad_message m) (place.Source k) (flaw.BadMessage j (length m)) e) 0 s.messages
    (no_any is_bad_message s.messages both.1)))

-- ---- a wire by itself

record IsFineWire (nodes : ℕ) (w : Wire) : Type 0 where
  pub a : is_bad_end nodes w.a ≡ false
  pub b : is_bad_end nodes w.b ≡ false
  pub apart : same_end w.a w.b ≡ false

wire_nil : (nodes k : ℕ) (w : Wire) → wire_wrongs nodes k w ≡ [] → IsFineWire nodes w
wire_nil nodes k w h =
    let at_a : List Wrong = end_wrongs nodes (place.Wire k) w.a in
    let at_b : List Wrong = end_wrongs nodes (place.Wire k) w.b in
    let same : List Wrong = wrong_if (same_end w.a w.b) (place.Wire k) (flaw.SameEnd w.a) in
    let first : (at_a ≡ []) × (at_b ++ same ≡ []) = both_nil _ _ h in
    let second : (at_b ≡ []) × (same ≡ []) = both_nil _ _ first.1 in
    record {
      a = if_nil (is_bad_end nodes w.a) (place.Wire k) (flaw.BadEnd w.a) first.0;
      b = if_nil (is_bad_end nodes w.b) (place.Wire k) (flaw.BadEnd w.b) second.0;
      apart = if_nil (same_end w.a w.b) (place.Wire k) (flaw.SameEnd w.a) second.1;
    }

nil_wire : (nodes k : ℕ) (w : Wire) → IsFineWire nodes w → wire_wrongs nodes k w ≡ []
nil_wire nodes k w fine =
    nil_both _ _ (nil_if _ _ _ fine.a) (nil_both _ _ (nil_if _ _ _ fine.b) (nil_if _ _ _ fine.apart))

-- ---- a sink by itself

record IsFineSink (nodes : ℕ) (s : SinkPlan) : Type 0 where
  pub place : is_bad_end nodes s.«end» ≡ false
  pub capacity : is_bad_capacity s ≡ false

sink_nil : (nodes k : ℕ) (s : SinkPlan) → sink_wrongs nodes k s ≡ [] → IsFineSink nodes s
sink_nil nodes k s h =
    let bad : List Wrong = wrong_if (is_bad_capacity s) (place.Sink k) (flaw.BadCapacity s.capacity) in
    let first : (end_wrongs nodes (place.Sink k) s.«end» ≡ []) × (bad ≡ []) = both_nil _ _ h in
    record {
      place = if_nil (is_bad_end nodes s.«end») (place.Sink k) (flaw.BadEnd s.«end») first.0;
      capacity = if_nil (is_bad_capacity s) (place.Sink k) (flaw.BadCapacity s.capacity) first.1;
    }

nil_sink : (nodes k : ℕ) (s : SinkPlan) → IsFineSink nodes s → sink_wrongs nodes k s ≡ []
nil_sink nodes k s fine = nil_both _ _ (nil_if _ _ _ fine.place) (nil_if _ _ _ fine.capacity)

-- ---- the ends that are named

any_two : {A : Type 0} (t : A → Bool) (x y : A) → t x ≡ false → t y ≡ false → list_any t (x ∷ y ∷ []) ≡ false
any_two t x y p q = rw (p, q) refl

any_one : {A : Type 0} (t : A → Bool) (x : A) → t x ≡ false → list_any t (x ∷ []) ≡ false
any_one t x p = rw p refl

not_two : {A : Type 0} (t : A → Bool) (x y : A) → list_any t (x ∷ y ∷ []) ≡ false → (t x ≡ false) × (t y ≡ false)
not_two t x y h =
    let first : (t x ≡ false) × ((t y || false) ≡ false) = or_parts _ _ h in
    (first.0, (or_parts _ _ first.1).0)

not_one : {A : Type 0} (t : A → Bool) (x : A) → list_any t (x ∷ []) ≡ false → t x ≡ false
not_one t x h = (or_parts _ _ h).0

-- each end that is named is a link of a node
record HasFineEnds (p : Plan) : Type 0 where
  pub wires : All (IsFineWire (length p.nodes)) p.wires
  pub sources : All (IsFineSource (length p.nodes)) p.sources
  pub sinks : All (IsFineSink (length p.nodes)) p.sinks

named_fine : (p : Plan) → HasFineEnds p → position (list_any (is_bad_end (length p.nodes))) (named_ends p) ≡ None
named_fine p fine =
    let bad : End → Bool = is_bad_end (length p.nodes) in
    let P : List End → Type 0 = λ es. list_any bad es ≡ false in
    let Q : End → Type 0 = λ e. bad e ≡ false in
    position_none (list_any bad) (named_ends p)
    (all_append P (map (λ w. w.a ∷ w.b ∷ []) p.wires) (map (λ e. e ∷ []) (script_ends p))
    (all_map (λ (w : Wire). w.a ∷ w.b ∷ []) P p.wires
    (λ k d l. any_two bad _ _ (fine.wires k d l).a (fine.wires k d l).b))
    (all_map (λ (e : End). e ∷ []) P (script_ends p)
    (λ k d l. any_one bad _
    (all_append Q (map (λ s. s.«end») p.sources) (map (λ s. s.«end») p.sinks)
    (all_map (λ (s : SourcePlan). s.«end») Q p.sources (λ k d l. (fine.sources k d l).place))
    (all_map (λ (s : SinkPlan). s.«end») Q p.sinks (λ k d l. (fine.sinks k d l).place)) k d l))))

-- the ends of a plan without a bad one
record NamesFine (p : Plan) : Type 0 where
  pub wires : All (λ w. (is_bad_end (length p.nodes) w.a ≡ false) × (is_bad_end (length p.nodes) w.b ≡ false)) p.wires
  pub sources : All (λ s. is_bad_end (length p.nodes) s.«end» ≡ false) p.sources
  pub sinks : All (λ s. is_bad_end (length p.nodes) s.«end» ≡ false) p.sinks

fine_named : (p : Plan) → position (list_any (is_bad_end (length p.nodes))) (named_ends p) ≡ None → NamesFine p
fine_named p h =
    let bad : End → Bool = is_bad_end (length p.nodes) in
    let P : List End → Type 0 = λ es. list_any bad es ≡ false in
    let Q : End → Type 0 = λ e. bad e ≡ false in
    let all : All P (named_ends p) = no_position (list_any bad) (named_ends p) h in
    let wires : All P (map (λ w. w.a ∷ w.b ∷ []) p.wires) = all_left P _ _ all in
    let scripts : All P (map (λ e. e ∷ []) (script_ends p)) =
    all_right P (map (λ w. w.a ∷ w.b ∷ []) p.wires) _ all in
    let ends : All Q (script_ends p) =
    λ k d l. not_one bad _ (map_all (λ (e : End). e ∷ []) P (script_ends p) scripts k d l) in
    record {
      wires = λ k d l. not_two bad _ _ (map_all (λ (w : Wire). w.a ∷ w.b ∷ []) P p.wires wires k d l);
      sources = map_all (λ (s : SourcePlan). s.«end») Q p.sources (all_left Q _ _ ends);
      sinks = map_all (λ (s : SinkPlan). s.«end») Q p.sinks (all_right Q (map (λ s. s.«end») p.sources) _ ends);
    }

-- ---- the whole

-- what is not compared is left out
pub crowd_nil : (b : Bool) (ws : List Wrong) → b ≡ false → (if b then [] else ws) ≡ [] → ws ≡ []
crowd_nil false ws p h = h
crowd_nil true ws p h = cc

pub nil_crowd : (b : Bool) (ws : List Wrong) → ws ≡ [] → (if b then [] else ws) ≡ []
nil_crowd false ws h = h
nil_crowd true ws h = refl

-- what is wrong with the net as a whole
record IsFineNet (p : Plan) : Type 0 where
  pub nodes : are_many p ≡ false
  pub wires : are_many_wires p ≡ false
  pub timeslice : is_bad_timeslice p.timeslice ≡ false

net_nil : (p : Plan) → net_wrongs p ≡ [] → IsFineNet p
net_nil p h =
    let many : List Wrong = wrong_if (are_many p) place.Net flaw.TooManyNodes in
    let wires : List Wrong = wrong_if (are_many_wires p) place.Net (flaw.TooMany plenty.Wires (length p.wires)) in
    let slice : List Wrong = wrong_if (is_bad_timeslice p.timeslice) place.Net (flaw.BadTimeslice p.timeslice) in
    let first : (many ≡ []) × (wires ++ slice ≡ []) = both_nil _ _ h in
    let second : (wires ≡ []) × (slice ≡ []) = both_nil _ _ first.1 in
    record {
      nodes = if_nil (are_many p) place.Net flaw.TooManyNodes first.0;
      wires = if_nil (are_many_wires p) place.Net (flaw.TooMany plenty.Wires (length p.wires)) second.0;
      timeslice = if_nil (is_bad_timeslice p.timeslice) place.Net (flaw.BadTimeslice p.timeslice) second.1;
    }

-- a plan with which nothing is wrong is not crowded
pub not_crowded : (p : Plan) → plan_wrongs p ≡ [] → is_crowded p ≡ false
unfolding plan_wrongs
not_crowded p h =
    let top : (net_wrongs p ≡ []) × (each_from (node_wrongs p.timeslice) 0 p.nodes ++ joint_wrongs p ≡ []) =
    both_nil _ _ h in
    let net = net_nil p top.0 in
    or_false (are_many p) (are_many_wires p) net.nodes net.wires

plan_nil : (p : Plan) → plan_wrongs p ≡ [] → IsFinePlan p
unfolding plan_wrongs
plan_nil p h =
    let n : ℕ = length p.nodes in
    let wires : List Wrong = each_from (wire_wrongs n) 0 p.wires in
    let sources : List Wrong = each_from (source_wrongs n) 0 p.sources in
    let sinks : List Wrong = each_from (sink_wrongs n) 0 p.sinks in
    let top : (net_wrongs p ≡ []) × (each_from (node_wrongs p.timeslice) 0 p.nodes ++ joint_wrongs p ≡ []) =
    both_nil _ _ h in
    let net = net_nil p top.0 in
    let rest : (each_from (node_wrongs p.timeslice) 0 p.nodes ≡ []) × (joint_wrongs p ≡ []) = both_nil _ _ top.1 in
    let joint : (wires ≡ []) × (sources ++ (sinks ++ sharing_wrongs p) ≡ []) = both_nil _ _ rest.1 in
    let scripts : (sources ≡ []) × (sinks ++ sharing_wrongs p ≡ []) = both_nil _ _ joint.1 in
    let last : (sinks ≡ []) × (sharing_wrongs p ≡ []) = both_nil _ _ scripts.1 in
    let crowded : is_crowded p ≡ false = or_false (are_many p) (are_many_wires p) net.nodes net.wires in
    let nodes : All (IsFineNode p.timeslice) p.nodes =
    each_all (node_wrongs p.timeslice) (IsFineNode p.timeslice) (node_nil p.timeslice net.timeslice) 0 p.nodes rest.0 in
    let ends : HasFineEnds p = record {
      wires = each_all (wire_wrongs n) (IsFineWire n) (wire_nil n) 0 p.wires joint.0;
      sources = each_all (source_wrongs n) (IsFineSource n) (source_nil n) 0 p.sources scripts.0;
      sinks = each_all (sink_wrongs n) (IsFineSink n) (sink_nil n) 0 p.sinks last.0;
    } in
    record {
      few = or_false _ _ (or_false _ _ crowded
          (list_any_none (λ n. is_too_large n.image) p.nodes (λ k d l. (nodes k d l).large)))
          (list_any_none has_too_many p.sources (λ k d l. (ends.sources k d l).messages));
      sizes = position_none is_bad_size p.nodes (λ k d l. (nodes k d l).size);
      timeslice = net.timeslice;
      ends = named_fine p ends;
      apart = position_none (λ w. same_end w.a w.b) p.wires (λ k d l. (ends.wires k d l).apart);
      once = twice_nil (length p.wires) (length p.sources) (all_wires p)
          (crowd_nil (is_crowded p) (twice_wrongs (length p.wires) (length p.sources) (all_wires p)) crowded last.1);
      segments = none_faulty bad_segment p.nodes (λ k d l. (nodes k d l).segments);
      processes = none_faulty (bad_process p.timeslice) p.nodes (λ k d l. (nodes k d l).processes);
      capacities = position_none is_bad_capacity p.sinks (λ k d l. (ends.sinks k d l).capacity);
    }

nil_plan : (p : Plan) → IsFinePlan p → plan_wrongs p ≡ []
unfolding plan_wrongs
nil_plan p fine =
    let n : ℕ = length p.nodes in
    let sources : (_ ≡ false) × (list_any has_too_many p.sources ≡ false) = or_parts _ _ fine.few in
    let images : (is_crowded p ≡ false) × (list_any (λ n. is_too_large n.image) p.nodes ≡ false) =
    or_parts _ _ sources.0 in
    let counts : (are_many p ≡ false) × (are_many_wires p ≡ false) = or_parts _ _ images.0 in
    let large = no_any (λ (n : NodePlan). is_too_large n.image) p.nodes images.1 in
    let sizes = no_position is_bad_size p.nodes fine.sizes in
    let segments = no_fault bad_segment p.nodes fine.segments in
    let processes = no_fault (bad_process p.timeslice) p.nodes fine.processes in
    let messages = no_any has_too_many p.sources sources.1 in
    let names = fine_named p fine.ends in
    let apart = no_position (λ (w : Wire). same_end w.a w.b) p.wires fine.apart in
    let capacities = no_position is_bad_capacity p.sinks fine.capacities in
    nil_both _ _
    (nil_both _ _ (nil_if (are_many p) place.Net flaw.TooManyNodes counts.0)
    (nil_both _ _ (nil_if (are_many_wires p) place.Net (flaw.TooMany plenty.Wires (length p.wires)) counts.1)
    (nil_if (is_bad_timeslice p.timeslice) place.Net (flaw.BadTimeslice p.timeslice) fine.timeslice)))
    (nil_both _ _
    (all_each (node_wrongs p.timeslice) (IsFineNode p.timeslice) (nil_node p.timeslice fine.timeslice) 0 p.nodes
    (λ k d l. record {
      large = large k d l;
      size = sizes k d l;
      segments = segments k d l;
      processes = processes k d l;
    }))
    (nil_both _ _
    (all_each (wire_wrongs n) (IsFineWire n) (nil_wire n) 0 p.wires
    (λ k d l. record { a = (names.wires k d l).0; b = (names.wires k d l).1; apart = apart k d l }))
    (nil_both _ _
    (all_each (source_wrongs n) (IsFineSource n) (nil_source n) 0 p.sources
    (λ k d l. record { place = names.sources k d l; messages = messages k d l }))
    (nil_both _ _
    (all_each (sink_wrongs n) (IsFineSink n) (nil_sink n) 0 p.sinks
    (λ k d l. record { place = names.sinks k d l; capacity = capacities k d l }))
    (nil_crowd (is_crowded p) (twice_wrongs (length p.wires) (length p.sources) (all_wires p))
    (nil_twice (length p.wires) (length p.sources) (all_wires p) fine.once))))))

-- a net is built just where there is no fault
built_none : (net : NetState) (o : Option BuildFault) → IsOk (unless_fault net o) → o ≡ None
built_none net None h = refl
built_none net (Some f) h = cc

none_built : (net : NetState) (o : Option BuildFault) → o ≡ None → IsOk (unless_fault net o)
none_built net o h = rw h refl

pub nothing_is_a_net : NothingIsANet
nothing_is_a_net p = (
  λ h. none_built (opening_net p) (fault_of p) (of_fine p (plan_nil p h)),
  λ h. nil_plan p (fine_of p (built_none (opening_net p) (fault_of p) h)),
)
