-- Which net a wiring and the files of its images stand for, before its first event.
-- Source: own choice; the net itself is that of the net's definitions.
use Rattle.std.specs.Prelude.{ℕ, suc, ◌≡◌, List, [], ◌∷◌, map, zip, Result, Ok, Err}
use Rattle.tplan.specs.declared.plan.Image.{Image}
use Rattle.tplan.specs.declared.plan.NodePlan.{NodePlan}
use Rattle.tplan.specs.declared.plan.Plan.{Plan}
use Rattle.tplan.specs.declared.plan.BuildFault.{BuildFault}
use Rattle.tplan.specs.declared.wiring.Wiring.{Wiring}
use Rattle.tplan.specs.declared.wiring.WiringNode.{WiringNode}
use Rattle.tnet.specs.Net.{NetState}
use Rattle.tnet.specs.Building.{opening_configuration}
use Rattle.tnet.specs.View.{view}
use Rattle.tfiles.specs.declared.image.ImageFault.{ImageFault}
use Rattle.tfiles.specs.Images.{image_of}
use Rattle.topening.specs.declared.fault.Fault.{Fault}
use Rattle.topening.specs.declared.fault.Fault.TheVariants as fault
use Rattle.topening.specs.Plans.{node_of, plan_of, net_of}

-- the image of a node, or its fault
abbrev pub as_image : ℕ → Result Image ImageFault → Result Image Fault
as_image n (Ok image) = Ok image
as_image n (Err f) = Err (fault.Image n f)

-- an image before those of the files behind it; the first fault counts
abbrev pub onto_images : Result Image Fault → Result (List Image) Fault → Result (List Image) Fault
onto_images (Err f) rest = Err f
onto_images (Ok image) (Ok images) = Ok (image ∷ images)
onto_images (Ok image) (Err f) = Err f

-- the images of files, whose nodes are numbered from here
abbrev pub images_from : ℕ → List (List ℕ) → Result (List Image) Fault
images_from n [] = Ok []
images_from n (file ∷ files) = onto_images (as_image n (image_of file)) (images_from (suc n) files)

-- the images of all nodes, or the first bad one
abbrev pub images_of : List (List ℕ) → Result (List Image) Fault
images_of files = images_from 0 files

-- a net, or the fault of its plan
abbrev pub as_opened : Result NetState BuildFault → Result NetState Fault
as_opened (Ok net) = Ok net
as_opened (Err f) = Err (fault.Net f)

-- the net of a wiring and its images, where these are good
abbrev pub opened_with : Wiring → Result (List Image) Fault → Result NetState Fault
opened_with w (Ok images) = as_opened (net_of w images)
opened_with w (Err f) = Err f

-- the net that a wiring and the files of its images stand for, before its first event
abbrev pub opened_of : Wiring → List (List ℕ) → Result NetState Fault
opened_of w files = opened_with w (images_of files)

-- the plans of nodes with the images of files
pub record ArePlansOf (nodes : List WiringNode) (files : List (List ℕ)) (plans : List NodePlan) : Type 0 where
  pub images : List Image
  pub read : images_of files ≡ Ok images
  pub planned : plans ≡ map node_of (zip nodes images)

-- the plan of a wiring with the images of files
pub record IsPlanOf (w : Wiring) (files : List (List ℕ)) (plan : Plan) : Type 0 where
  pub images : List Image
  pub read : images_of files ≡ Ok images
  pub planned : plan ≡ plan_of w images

-- a net is the opening of a wiring and the files of its images: nothing is offered in it
pub record IsOpening (w : Wiring) (files : List (List ℕ)) (opened : NetState) : Type 0 where
  pub images : List Image
  pub read : images_of files ≡ Ok images
  pub made : net_of w images ≡ Ok opened
  pub alike : view opened ≡ opening_configuration (plan_of w images)
