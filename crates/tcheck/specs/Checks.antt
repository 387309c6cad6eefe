-- A wiring with the files of its images, looked through.
-- Source: own choice.
use Rattle.std.specs.Prelude.{ℕ, ◌≡◌, List, [], ◌∷◌, ◌++◌, map, zip, All, Option, Some, None, Result, Ok, Err, IsOk}
use Rattle.std.specs.Prelude.{if◌then◌else◌}
use Rattle.tplan.specs.declared.plan.Image.{Image}
use Rattle.tplan.specs.declared.plan.NodePlan.{NodePlan}
use Rattle.tplan.specs.declared.plan.Plan.{Plan}
use Rattle.tplan.specs.declared.plan.Wire.{Wire}
use Rattle.tplan.specs.declared.event.Hold.{Hold}
use Rattle.tplan.specs.declared.wiring.Wiring.{Wiring}
use Rattle.tplan.specs.declared.wiring.WiringNode.{WiringNode}
use Rattle.tnet.specs.Net.{NetState}
use Rattle.tplan.specs.Wires.{all_wires}
use Rattle.tnet.specs.Building.{built}
use Rattle.trounds.specs.Rounds.{bad_hold}
use Rattle.tfiles.specs.declared.image.ImageFault.{ImageFault}
use Rattle.tfiles.specs.Images.{image_of}
use Rattle.tcheck.specs.declared.flaws.Place.TheVariants as place
use Rattle.tcheck.specs.declared.flaws.Flaw.{Flaw}
use Rattle.tcheck.specs.declared.flaws.Flaw.TheVariants as flaw
use Rattle.tcheck.specs.declared.flaws.Wrong.{Wrong}
use Rattle.tcheck.specs.declared.checked.Checked.{Checked}
use Rattle.tcheck.specs.Sentences.{wrongs_text}
use Rattle.tcheck.specs.Summaries.{net_text}
use Rattle.tcheck.specs.Wrongs.{wrong, each_from, is_crowded, plan_wrongs}
use Rattle.tcheck.specs.HoldWrongs.{hold_wrongs}

-- the bytes of a file, none where it cannot be read
abbrev pub File : Type 0
File = Option (List ℕ)

-- an image of nothing, in place of one that cannot be read
abbrev pub empty_image : Image
empty_image = record { segments = []; processes = [] }

-- an image, or that of nothing
abbrev pub or_empty : Result Image ImageFault → Image
or_empty (Ok i) = i
or_empty (Err f) = empty_image

-- what a node of a file is loaded with
abbrev pub image_in : File → Image
image_in None = empty_image
image_in (Some bytes) = or_empty (image_of bytes)

-- a flaw of a node
abbrev pub flaw_of_node : ℕ → Flaw → List Wrong
flaw_of_node node f = wrong (place.Node node) f ∷ []

-- what is wrong with an image
abbrev pub image_wrongs : ℕ → Result Image ImageFault → List Wrong
image_wrongs node (Ok i) = []
image_wrongs node (Err f) = flaw_of_node node (flaw.BadImage f)

-- what is wrong with the file of a node
abbrev pub file_wrongs : ℕ → File → List Wrong
file_wrongs node None = flaw_of_node node flaw.NoFile
file_wrongs node (Some bytes) = image_wrongs node (image_of bytes)

-- a node with the image of its file
abbrev pub planned : WiringNode × File → NodePlan
planned n = record { memory = n.0.memory; kind = n.0.kind; image = image_in n.1 }

-- the plan of a wiring with the images of files
abbrev pub plan_of : Wiring → List File → Plan
plan_of w files =
    record {
      timeslice = w.timeslice;
      nodes = map planned (zip w.nodes files);
      wires = w.wires;
      sources = w.sources;
      sinks = w.sinks;
    }

-- what is wrong with the holds of a plan, where its wires are few enough to be looked through for each
abbrev pub plan_hold_wrongs : Plan → List Hold → List Wrong
plan_hold_wrongs p holds = if is_crowded p then [] else hold_wrongs (all_wires p) holds

-- what is wrong with a wiring and the files of its images: the files, then the plan, then the holds
abbrev pub check_wrongs : Wiring → List File → List Wrong
check_wrongs w files =
    each_from file_wrongs 0 files
    ++ (plan_wrongs (plan_of w files) ++ plan_hold_wrongs (plan_of w files) w.holds)

-- a file is an image
abbrev pub IsImage : File → Type 0
IsImage None = ⊥
IsImage (Some bytes) = IsOk (image_of bytes)

-- a wiring can be run: each file is an image, the plan gives a net, and rounds do not refuse the holds
pub record IsAccepted (w : Wiring) (files : List File) : Type 0 where
  pub images : All IsImage files
  pub net : NetState
  pub built : built (plan_of w files) ≡ Ok net
  pub holds : bad_hold net w.holds ≡ None

-- the wires of a plan, where they are few enough to be compared
abbrev pub compared_wires : Plan → List Wire
compared_wires p = if is_crowded p then [] else all_wires p

-- a wiring with the files of its images, looked through
abbrev pub checked_of : Wiring → List File → Checked
checked_of w files =
    record {
      nodes = w.nodes;
      plan = plan_of w files;
      wires = compared_wires (plan_of w files);
      wrongs = check_wrongs w files;
    }

-- what is told of it: all that is wrong, or what the net is
abbrev pub told_text : Checked → List Wrong → List ℕ
told_text c [] = net_text c.nodes c.wires c.plan
told_text c (w ∷ ws) = wrongs_text c.nodes (w ∷ ws)

-- what is told of a wiring that was looked through
abbrev pub checked_text : Checked → List ℕ
checked_text c = told_text c c.wrongs
