-- What a certified run tells of all runs of the net.
use Rattle.std.proofs.Common.{◌≡◌, ℕ, refl, sym, ap, subst, ◌∙◌, List, Bool, true, Option, Some, None}
use Rattle.std.proofs.Common.{Result, Ok, reverse}
use Rattle.std.proofs.lemmas.List.{length-reverse}
use Rattle.std.specs.Io.KnownBytes.{Appends}
use Rattle.tplan.specs.declared.event.Event.{Event}
use Rattle.tplan.specs.declared.plan.BuildFault.{BuildFault}
use Rattle.tplan.specs.declared.plan.Image.{Image}
use Rattle.tplan.specs.declared.plan.Plan.{Plan}
use Rattle.tplan.specs.declared.wiring.Wiring.{Wiring}
use Rattle.tnet.specs.Building.{ArePlanWords, fault_of, opening_net, unless_fault}
use Rattle.tnet.specs.Net.{NetState}
use Rattle.tnet.specs.Packets.{after_events}
use Rattle.tfiles.specs.Outputs.{IsCut}
use Rattle.tfiles.specs.declared.writing.output.WriteFault.{WriteFault}
use Rattle.tnames.specs.declared.nodes.NodeNames.{NodeNames}
use Rattle.tprocesses.specs.Places.{Place}
use Rattle.tprocesses.specs.Values.{Value}
use Rattle.tprocesses.specs.Certified.{IsCertificate, ProcessStep}
use Rattle.tseen.specs.Packets.{IsToldOfNet}
use Rattle.tseen.proofs.AllRuns.{certificates_tell_of_the_net}
use Rattle.tseen.proofs.PacketNets.{certificates_tell_of_packets}
use Rattle.topening.specs.declared.fault.Fault.{Fault}
use Rattle.topening.specs.declared.fault.Fault.TheVariants as fault
use Rattle.topening.specs.declared.verdict.Verdict as outcomes
use Rattle.topening.specs.declared.verdict.Verdict.TheVariants.{Clear}
use Rattle.topening.specs.Openings.{IsOpening, IsPlanOf}
use Rattle.topening.specs.Plans.{plan_of}
use Rattle.tverdict.specs.declared.machine.Machine.{Machine}
use Rattle.tverdict.specs.Machines.{machine_at}
use Rattle.tverdict.specs.Verdicts.{EndsCertified, IsTold}
use Rattle.tfindings.specs.declared.finding.Finding.{Finding}
use Rattle.tfindings.specs.declared.finding.Finding.TheVariants as finding
use Rattle.tfindings.specs.Findings.{HasRun, IsRunOf, is_certified, outcome_of}
use Rattle.tfindings.specs.Nets.{HasCertified, IsLineLeft, TellsOfAllRuns, WritesOfAllRuns, with_timeslice}
use Rattle.tfindings.specs.Telling.{certified_line, certified_text, finding_text}
use Rattle.tfindings.proofs.Runs.{certified_only}

-- where the plan is certified, the run that was made is a certificate
ends_certified : (plan : Plan) (most : ℕ) (m : Machine) (f : Finding) → HasRun plan most m f → f ≡ finding.Certified
    → EndsCertified plan m
ends_certified plan most m f run is =
    subst (IsTold plan most m) (certified_only plan m run.verdict f run.found (sym is)) run.true

of_fault : (net opened : NetState) (f : Option BuildFault) → unless_fault net f ≡ Ok opened
    → (f ≡ None) × (opened ≡ net)
of_fault net opened None made = (refl, cc)
of_fault net opened (Some f) made = cc

-- all nets that a wiring and its files open are the opening of the plan, which has no fault then
module _ (w : Wiring) (files : List (List ℕ)) (plan : Plan) (planned : IsPlanOf w files plan) (opened : NetState)
    (opening : IsOpening w files opened) where
  same_images : opening.images ≡ planned.images
  same_images =
      let read : ◌≡◌ {A = Result (List Image) Fault} (Ok opening.images) (Ok planned.images) =
      sym opening.read ∙ planned.read in
      cc

  same_plan : plan_of w opening.images ≡ plan
  same_plan = ap (plan_of w) same_images ∙ sym planned.planned

  opens : (fault_of plan ≡ None) × (opened ≡ opening_net plan)
  opens = of_fault (opening_net plan) opened (fault_of plan)
      (subst (λ (p : Plan). unless_fault (opening_net p) (fault_of p) ≡ Ok opened) same_plan opening.made)

sliced_plan : (t : ℕ) (w : Wiring) (images : List Image)
    → plan_of (record w { timeslice = t }) images ≡ with_timeslice t (plan_of w images)
unfolding plan_of
sliced_plan t w images = refl

-- with another timeslice the process machine is the same
sliced_words : (t : ℕ) (plan : Plan) → ArePlanWords plan → ArePlanWords (with_timeslice t plan)
sliced_words t plan words = record { images = words.images; messages = words.messages }

sliced_certificate : (t : ℕ) (plan : Plan) (steps : List ProcessStep) (end : Place → Value)
    → IsCertificate plan steps end → IsCertificate (with_timeslice t plan) steps end
sliced_certificate t plan steps end is = record {
  run = is.run;
  over = is.over;
  takes_nothing = is.takes_nothing;
  race_free = is.race_free;
  few = is.few;
  flags = is.flags;
}

pub tells_all : (w : Wiring) (files : List (List ℕ)) (most : ℕ) (plan : Plan) (m : Machine) (f : Finding)
    → IsPlanOf w files plan → fault_of plan ≡ None → ArePlanWords plan → HasRun plan most m f → f ≡ finding.Certified
    → TellsOfAllRuns w files plan m
tells_all w files most plan m f planned built words run is =
    record {
      planned = planned;
      steps = reverse ends.steps;
      count = length-reverse ends.steps ∙ ends.count;
      certificate = certificate;
      runs = λ t c taken notes good ran. certificates_tell_of_the_net (with_timeslice t plan) (reverse ends.steps)
          (machine_at plan m) good (sliced_words t plan words)
          (sliced_certificate t plan (reverse ends.steps) (machine_at plan m) certificate) c taken notes ran;
      nets = nets;
    }
  where
    ends : EndsCertified plan m
    ends = ends_certified plan most m f run is

    certificate : IsCertificate plan (reverse ends.steps) (machine_at plan m)
    certificate = ends.certified.certificate

    sliced : (t : ℕ) → IsPlanOf (record w { timeslice = t }) files (with_timeslice t plan)
    sliced t = record {
      images = planned.images;
      read = planned.read;
      planned = ap (with_timeslice t) planned.planned ∙ sym (sliced_plan t w planned.images);
    }

    nets : (t : ℕ) (opened net : NetState) (events : List Event) → IsOpening (record w { timeslice = t }) files opened
        → after_events events opened ≡ Some net
        → IsToldOfNet (with_timeslice t plan) (reverse ends.steps) (machine_at plan m) opened events net
    nets t opened net events opening done =
        let same : (fault_of (with_timeslice t plan) ≡ None) × (opened ≡ opening_net (with_timeslice t plan)) =
        opens (record w { timeslice = t }) files (with_timeslice t plan) (sliced t) opened opening in
        subst (λ (o : NetState). IsToldOfNet (with_timeslice t plan) (reverse ends.steps) (machine_at plan m) o events net)
        (sym same.1)
        (certificates_tell_of_packets (with_timeslice t plan) (reverse ends.steps) (machine_at plan m) same.0
        (sliced_words t plan words)
        (sliced_certificate t plan (reverse ends.steps) (machine_at plan m) certificate) events net (subst (λ (o : NetState). after_events events o ≡ Some net) same.1 done))

-- only a certificate is told as clear
clear_certified : (f : Finding) → outcome_of f ≡ Clear → f ≡ finding.Certified
clear_certified finding.Certified e = refl
clear_certified (finding.Race place earlier last) e = cc
clear_certified (finding.Stopped made why) e = cc
clear_certified (finding.TooManyProcesses n) e = cc
clear_certified (finding.FlagsChanged n) e = cc
clear_certified finding.Cut e = cc

pub writes : (w : Wiring) (files : List (List ℕ)) (names : List NodeNames) (old new : Option (List ℕ))
    (outcome : outcomes.Verdict) (p : Plan) (m : Machine) (f : Finding)
    → (f ≡ finding.Certified → TellsOfAllRuns w files p m) → Appends old new (finding_text names p m f)
    → outcome ≡ outcome_of f → outcome ≡ Clear → WritesOfAllRuns w files certified_text old new
writes w files names old new outcome p m f all out told clear =
    let is : f ≡ finding.Certified = clear_certified f (sym told ∙ clear) in
    record {
      plan = p;
      machine = m;
      all = all is;
      written = subst (λ (g : Finding). Appends old new (finding_text names p m g)) is out;
    }

-- the same where only the last line is written
pub is_certified_only : (f : Finding) → is_certified f ≡ true → f ≡ finding.Certified
is_certified_only finding.Certified e = refl
is_certified_only (finding.Race place earlier last) e = cc
is_certified_only (finding.Stopped made why) e = cc
is_certified_only (finding.TooManyProcesses n) e = cc
is_certified_only (finding.FlagsChanged n) e = cc
is_certified_only finding.Cut e = cc

pub has_certified : (w : Wiring) (files : List (List ℕ)) (most : ℕ) (told : Bool) (p : Plan) (m : Machine) (f : Finding)
    → IsRunOf w files most p m f → told ≡ is_certified f → HasCertified w files most told
has_certified w files most told p m f run is = record { plan = p; machine = m; finding = f; run = run; is = is }

pub writes_line : (w : Wiring) (files : List (List ℕ)) (old new : Option (List ℕ)) (p : Plan) (m : Machine)
    (f : Finding) → (f ≡ finding.Certified → TellsOfAllRuns w files p m) → is_certified f ≡ true
    → Appends old new (certified_line p m) → WritesOfAllRuns w files certified_line old new
writes_line w files old new p m f all is out =
    record { plan = p; machine = m; all = all (is_certified_only f is); written = out }

pub line_cut : {W : Type 0} (contents : W → Option (List ℕ)) (w : Wiring) (files : List (List ℕ)) (most : ℕ)
    (old new : W) (p : Plan) (m : Machine) (f : Finding) (cut : WriteFault) → IsRunOf w files most p m f
    → is_certified f ≡ true → IsCut (contents old) (contents new) (certified_line p m) cut.written
    → IsLineLeft contents w files most old new (fault.Output cut)
line_cut contents w files most old new p m f cut run is out =
    let same : f ≡ finding.Certified = is_certified_only f is in (
      certified_line p m,
      record {
        plan = p;
        machine = m;
        run = subst (λ (g : Finding). IsRunOf w files most p m g) same run;
        is = refl;
      },
      out,
    )
