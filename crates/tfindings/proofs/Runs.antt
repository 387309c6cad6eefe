-- Runs of the plan of a wiring, and the faults that come before them.
use Rattle.std.proofs.Common.{◌≡◌, ◌≤◌, ℕ, refl, sym, ap, subst, ◌∙◌, Bool, true, false, ◌||◌, List, Option, Some, None}
use Rattle.std.proofs.Common.{Result, Err, ltb-false, true≢false}
use Rattle.std.specs.Prelude.{IsOk}
use Rattle.std.proofs.lemmas.List.Elements.{All-get_or}
use Rattle.std.proofs.lemmas.Option.{get_or_from_slice_get, slice_get_within}
use Rattle.tnet.specs.Building.{or_else, when}
use Rattle.tplan.specs.declared.plan.Plan.{Plan}
use Rattle.tplan.specs.declared.plan.BuildFault.{BuildFault}
use Rattle.tplan.specs.declared.plan.BuildFault.TheVariants as build
use Rattle.tplan.specs.declared.wiring.Wiring.{Wiring}
use Rattle.tnet.specs.Net.{NetState}
use Rattle.tnet.specs.Building.{IsFaultOf as IsPlanFault, built, fault_of, node_count, opening_net, too_many}
use Rattle.tnet.specs.Building.{unless_fault}
use Rattle.tword.specs.Limits.{most_nodes}
use Rattle.topening.specs.declared.fault.Fault.{Fault}
use Rattle.topening.specs.declared.fault.Fault.TheVariants as fault
use Rattle.topening.specs.Faults.{settled, IsFaultOf}
use Rattle.topening.specs.Openings.{IsPlanOf, as_opened, opened_of, opened_with}
use Rattle.tverdict.specs.declared.agent.Agent.{Agent}
use Rattle.tverdict.specs.declared.machine.Machine.{Machine}
use Rattle.tverdict.specs.declared.verdict.Race.{Race}
use Rattle.tverdict.specs.declared.verdict.Refusal.TheVariants as refusal
use Rattle.tverdict.specs.declared.verdict.Verdict.{Verdict}
use Rattle.tverdict.specs.declared.verdict.Verdict.TheVariants as verdict
use Rattle.tverdict.specs.Agents.{IsThere}
use Rattle.tverdict.specs.Machines.{Follows, IsSound}
use Rattle.tverdict.specs.Verdicts.{AreTellable, IsTold}
use Rattle.tfindings.specs.declared.finding.Finding.{Finding}
use Rattle.tfindings.specs.declared.finding.Finding.TheVariants as finding
use Rattle.std.specs.Io.KnownBytes.{Appends}
use Rattle.tfiles.specs.Outputs.{IsCut}
use Rattle.tfiles.specs.declared.writing.output.WriteFault.{WriteFault}
use Rattle.tnames.specs.declared.nodes.NodeNames.{NodeNames}
use Rattle.topening.specs.declared.verdict.Verdict as outcomes
use Rattle.tfindings.specs.Findings.{HasFound, HasRun, IsFindingLeft, IsFindingOf, IsRaceOf, IsRunOf, is_certified}
use Rattle.tfindings.specs.Findings.{outcome_of}
use Rattle.tfindings.specs.Steps.{holder}
use Rattle.tfindings.specs.Telling.{AreThere, CanBePrinted, CanBeTold, finding_text}

-- ---- what a run leaves can be told

tellable_sound : (plan : Plan) (m : Machine) → Follows plan m → AreTellable m
tellable_sound plan m follows = record {
  there = follows.1.sound.there;
  numbers = follows.1.sound.nodes.numbers;
}

tellable : (plan : Plan) (most : ℕ) (m : Machine) (v : Verdict) → IsTold plan most m v
    → (v ≡ verdict.Certified → Follows plan m) → AreTellable m
tellable plan most m verdict.Certified told follows = tellable_sound plan m (follows refl)
tellable plan most m (verdict.Race race) told follows = told.tellable
tellable plan most m (verdict.Refused (refusal.Stops agent why)) told follows = told.tellable
tellable plan most m (verdict.Refused (refusal.TooManyProcesses n)) told follows = tellable_sound plan m told.0
tellable plan most m (verdict.Refused (refusal.FlagsChanged n)) told follows = tellable_sound plan m told.0
tellable plan most m verdict.Cut told follows = tellable_sound plan m told.0

-- an agent that has a number is there
holder_there : (m : Machine) (number : ℕ) (a : Agent) → AreTellable m → holder m number ≡ Some a
    → IsThere m.nodes.items a
holder_there m number a told at =
    let low = slice_get_within m.agents.items number a at in
    subst (IsThere m.nodes.items) (get_or_from_slice_get m.agents.items number a a at)
    (All-get_or (IsThere m.nodes.items) m.agents.items number a low told.there)

are_there : (plan : Plan) (m : Machine) (v : Verdict) (f : Finding) → AreTellable m → IsFindingOf plan m v f
    → AreThere m f
are_there plan m verdict.Certified f told found = subst (AreThere m) (sym found) tt
are_there plan m (verdict.Race race) finding.Certified told found = tt
are_there plan m (verdict.Race race) (finding.Race place earlier last) told found =
    (found.there, holder_there m race.step.agent last.made.agent told found.agent)
are_there plan m (verdict.Race race) (finding.Stopped made why) told found = absurd found
are_there plan m (verdict.Race race) (finding.TooManyProcesses n) told found = tt
are_there plan m (verdict.Race race) (finding.FlagsChanged n) told found = tt
are_there plan m (verdict.Race race) finding.Cut told found = tt
are_there plan m (verdict.Refused (refusal.Stops number why)) f told found =
    subst (AreThere m) (sym found.is) (holder_there m number found.made.agent told found.agent)
are_there plan m (verdict.Refused (refusal.TooManyProcesses n)) f told found = subst (AreThere m) (sym found) tt
are_there plan m (verdict.Refused (refusal.FlagsChanged n)) f told found = subst (AreThere m) (sym found) tt
are_there plan m verdict.Cut f told found = subst (AreThere m) (sym found) tt

can_be_told : (plan : Plan) (m : Machine) (v : Verdict) (f : Finding) → AreTellable m → IsFindingOf plan m v f
    → CanBeTold m f
can_be_told plan m v f told found = record { there = are_there plan m v f told found; numbered = told.numbers }

other : {T : Type 0} → (f : Finding) → is_certified f ≡ false → finding.Certified ≡ f → T
other f not_so is = absurd (true≢false (ap is_certified is ∙ not_so))

-- no race is told as a certificate
no_race : {T : Type 0} → (plan : Plan) (m : Machine) (race : Race) (f : Finding) → IsRaceOf plan m race f
    → finding.Certified ≡ f → T
no_race plan m race finding.Certified found is = absurd found
no_race plan m race (finding.Race place earlier last) found is = other (finding.Race place earlier last) refl is
no_race plan m race (finding.Stopped made why) found is = absurd found
no_race plan m race (finding.TooManyProcesses n) found is = absurd found
no_race plan m race (finding.FlagsChanged n) found is = absurd found
no_race plan m race finding.Cut found is = absurd found

-- and nothing else but a certificate is
pub certified_only : (plan : Plan) (m : Machine) (v : Verdict) (f : Finding) → IsFindingOf plan m v f
    → finding.Certified ≡ f → v ≡ verdict.Certified
certified_only plan m verdict.Certified f found is = refl
certified_only plan m (verdict.Race race) f found is = no_race plan m race f found is
certified_only plan m (verdict.Refused (refusal.Stops agent why)) f found is =
    other (finding.Stopped found.made why) refl (is ∙ found.is)
certified_only plan m (verdict.Refused (refusal.TooManyProcesses n)) f found is =
    other (finding.TooManyProcesses n) refl (is ∙ found)
certified_only plan m (verdict.Refused (refusal.FlagsChanged n)) f found is =
    other (finding.FlagsChanged n) refl (is ∙ found)
certified_only plan m verdict.Cut f found is = other finding.Cut refl (is ∙ found)

can_be_printed : (plan : Plan) (m : Machine) (f : Finding) → (finding.Certified ≡ f → IsSound plan m)
    → CanBePrinted plan m f
can_be_printed plan m finding.Certified sound = sound refl
can_be_printed plan m (finding.Race place earlier last) sound = tt
can_be_printed plan m (finding.Stopped made why) sound = tt
can_be_printed plan m (finding.TooManyProcesses n) sound = tt
can_be_printed plan m (finding.FlagsChanged n) sound = tt
can_be_printed plan m finding.Cut sound = tt

pub has_run : (plan : Plan) (most : ℕ) (m : Machine) (v : Verdict) (f : Finding) → IsTold plan most m v
    → (v ≡ verdict.Certified → Follows plan m) → IsFindingOf plan m v f → HasRun plan most m f
has_run plan most m v f told follows found = record {
  verdict = v;
  true = told;
  found = found;
  told = can_be_told plan m v f (tellable plan most m v told follows) found;
  printed = can_be_printed plan m f (λ is. (follows (certified_only plan m v f found is)).1.sound);
}

-- ---- the faults of a plan

left_false : (a b : Bool) → (a || b) ≡ false → a ≡ false
left_false false b h = refl
left_false true b h = cc

unless_too_many : (b : Bool) (rest : Option BuildFault) → or_else (when b build.TooMany) rest ≡ None → b ≡ false
unless_too_many false rest h = refl
unless_too_many true rest h = cc

pub few_nodes : (p : Plan) → fault_of p ≡ None → node_count p ≤ most_nodes
unfolding fault_of
few_nodes p h =
    let few : too_many p ≡ false = unless_too_many (too_many p) _ h in
    let first : _ ≡ false = left_false _ _ (left_false _ _ (left_false _ _ few)) in
    ltb-false most_nodes (node_count p) first

-- a plan without a fault has a net
pub opened_plan : (p : Plan) → fault_of p ≡ None → IsOk (as_opened (built p))
opened_plan p h =
    subst (λ (f : Option BuildFault). IsOk (as_opened (unless_fault (opening_net p) f))) (sym h) refl

-- a fault is the one that is due
due_as : (p : Plan) (f : BuildFault) → fault_of p ≡ Some f → as_opened (built p) ≡ Err (fault.Net f)
due_as p f h = ap (λ (g : Option BuildFault). as_opened (unless_fault (opening_net p) g)) h

settled_due : (p : Plan) (f : BuildFault) → IsPlanFault (fault_of p) f
    → IsFaultOf (as_opened (built p)) (settled (fault.Net f))
settled_due p build.OutOfMemory h = tt
settled_due p build.TooMany h = due_as p build.TooMany (h (λ e. cc))
settled_due p (build.BadSize n) h = due_as p (build.BadSize n) (h (λ e. cc))
settled_due p build.BadTimeslice h = due_as p build.BadTimeslice (h (λ e. cc))
settled_due p (build.BadEnd n) h = due_as p (build.BadEnd n) (h (λ e. cc))
settled_due p (build.SameEnd n) h = due_as p (build.SameEnd n) (h (λ e. cc))
settled_due p (build.EndTwice n) h = due_as p (build.EndTwice n) (h (λ e. cc))
settled_due p (build.BadSegment n k) h = due_as p (build.BadSegment n k) (h (λ e. cc))
settled_due p (build.BadProcess n k b) h = due_as p (build.BadProcess n k b) (h (λ e. cc))
settled_due p (build.BadCapacity n) h = due_as p (build.BadCapacity n) (h (λ e. cc))

pub fault_due : (p : Plan) (f : BuildFault) (g : Fault) → g ≡ settled (fault.Net f) → IsPlanFault (fault_of p) f
    → IsFaultOf (as_opened (built p)) g
fault_due p f g is h = subst (λ (g : Fault). IsFaultOf (as_opened (built p)) g) (sym is) (settled_due p f h)

-- ---- the plan of a wiring

pub opened_files : (w : Wiring) (files : List (List ℕ)) (p : Plan) → IsPlanOf w files p → IsOk (as_opened (built p))
    → IsOk (opened_of w files)
opened_files w files p planned fine =
    subst (λ (r : Result NetState Fault). IsOk r)
    (ap (λ (q : Plan). as_opened (built q)) planned.planned ∙ sym (ap (opened_with w) planned.read)) fine

pub due_of_files : (w : Wiring) (files : List (List ℕ)) (p : Plan) (g : Fault) → IsPlanOf w files p
    → IsFaultOf (as_opened (built p)) g → IsFaultOf (opened_of w files) g
due_of_files w files p g planned due =
    subst (λ (r : Result NetState Fault). IsFaultOf r g)
    (ap (λ (q : Plan). as_opened (built q)) planned.planned ∙ sym (ap (opened_with w) planned.read)) due

-- ---- what is written

pub has_found : (w : Wiring) (files : List (List ℕ)) (most : ℕ) (names : List NodeNames) (old new : Option (List ℕ))
    (outcome : outcomes.Verdict) (p : Plan) (m : Machine) (f : Finding) → IsRunOf w files most p m f
    → Appends old new (finding_text names p m f) → outcome ≡ outcome_of f
    → HasFound w files most names old new outcome
has_found w files most names old new outcome p m f run out is =
    (f, finding_text names p m f, record { plan = p; machine = m; run = run; is = refl }, out, is)

pub finding_cut : {W : Type 0} (contents : W → Option (List ℕ)) (w : Wiring) (files : List (List ℕ)) (most : ℕ)
    (names : List NodeNames) (old new : W) (p : Plan) (m : Machine) (f : Finding) (cut : WriteFault)
    → IsRunOf w files most p m f → IsCut (contents old) (contents new) (finding_text names p m f) cut.written
    → IsFindingLeft contents w files most names old new (fault.Output cut)
finding_cut contents w files most names old new p m f cut run out =
    (f, finding_text names p m f, record { plan = p; machine = m; run = run; is = refl }, out)
