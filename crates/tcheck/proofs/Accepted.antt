-- Nothing is wrong with a wiring and its images just where it can be run.
use Rattle.std.proofs.Common.{◌≡◌, ℕ, refl, List, [], ◌++◌, Option, Some, None}
use Rattle.std.proofs.Common.{Result, Ok, Err, IsOk}
use Rattle.std.specs.Prelude.{◌↔◌}
use Rattle.tplan.specs.declared.plan.Image.{Image}
use Rattle.tplan.specs.declared.plan.Plan.{Plan}
use Rattle.tplan.specs.declared.plan.BuildFault.{BuildFault}
use Rattle.tplan.specs.declared.wiring.Wiring.{Wiring}
use Rattle.tnet.specs.Net.{NetState}
use Rattle.tplan.specs.Wires.{all_wires}
use Rattle.tnet.specs.Building.{built, fault_of, opening_net, unless_fault}
use Rattle.trounds.specs.Rounds.{bad_hold}
use Rattle.tfiles.specs.declared.image.ImageFault.{ImageFault}
use Rattle.tfiles.specs.Images.{image_of}
use Rattle.tcheck.specs.Checks.{check_wrongs, File, file_wrongs, image_wrongs, IsAccepted, IsImage, plan_hold_wrongs}
use Rattle.tcheck.specs.Checks.{plan_of}
use Rattle.tcheck.specs.HoldWrongs.{hold_wrongs}
use Rattle.tcheck.specs.Wrongs.{each_from, is_crowded, plan_wrongs}
use Rattle.tcheck.proofs.FineHolds.{no_hold_is_refused}
use Rattle.tcheck.proofs.FinePlans.{crowd_nil, nil_crowd, not_crowded, nothing_is_a_net}
use Rattle.tcheck.proofs.Nothing.{all_each, both_nil, each_all, nil_both}

image_nil : (k : ℕ) (r : Result Image ImageFault) → image_wrongs k r ≡ [] → IsOk r
image_nil k (Ok i) h = refl
image_nil k (Err f) h = cc

nil_image : (k : ℕ) (r : Result Image ImageFault) → IsOk r → image_wrongs k r ≡ []
nil_image k (Ok i) h = refl
nil_image k (Err f) h = cc

file_nil : (k : ℕ) (f : File) → file_wrongs k f ≡ [] → IsImage f
file_nil k None h = cc
file_nil k (Some bytes) h = image_nil k (image_of bytes) h

nil_file : (k : ℕ) (f : File) → IsImage f → file_wrongs k f ≡ []
nil_file k None h = absurd h
nil_file k (Some bytes) h = nil_image k (image_of bytes) h

-- the net that is built is the opening of the plan
the_opening : (net opened : NetState) (o : Option BuildFault) → unless_fault opened o ≡ Ok net → net ≡ opened
the_opening net opened None h = cc
the_opening net opened (Some f) h = cc

is_built : (opened : NetState) (o : Option BuildFault) → IsOk (unless_fault opened o)
    → unless_fault opened o ≡ Ok opened
is_built opened None h = refl
is_built opened (Some f) h = cc

ok_of : {A E : Type 0} (r : Result A E) (x : A) → r ≡ Ok x → IsOk r
ok_of r x h = rw h refl

pub accepted : (w : Wiring) (files : List File) → (check_wrongs w files ≡ []) ↔ IsAccepted w files
accepted w files = (
  λ h.
      let p : Plan = plan_of w files in
      let first : (each_from file_wrongs 0 files ≡ []) × (plan_wrongs p ++ plan_hold_wrongs p w.holds ≡ []) =
      both_nil _ _ h in
      let second : (plan_wrongs p ≡ []) × (plan_hold_wrongs p w.holds ≡ []) = both_nil _ _ first.1 in
      let holds : hold_wrongs (all_wires p) w.holds ≡ [] =
      crowd_nil (is_crowded p) (hold_wrongs (all_wires p) w.holds) (not_crowded p second.0) second.1 in
      record {
        images = each_all file_wrongs IsImage file_nil 0 files first.0;
        net = opening_net p;
        built = is_built (opening_net p) (fault_of p) ((nothing_is_a_net p).0 second.0);
        holds = (no_hold_is_refused w.holds (opening_net p)).0 holds;
      },
  λ a.
      let p : Plan = plan_of w files in
      let same : a.net ≡ opening_net p = the_opening a.net (opening_net p) (fault_of p) a.built in
      let holds : bad_hold (opening_net p) w.holds ≡ None = rw same at a.holds in
      nil_both _ _ (all_each file_wrongs IsImage nil_file 0 files a.images)
      (nil_both _ _ ((nothing_is_a_net p).1 (ok_of (built p) a.net a.built))
      (nil_crowd (is_crowded p) (hold_wrongs (all_wires p) w.holds)
      ((no_hold_is_refused w.holds (opening_net p)).1 holds))),
)
