-- Files that are read as images one after another, and the plan of them.
use Rattle.std.proofs.Common.{◌≡◌, ◌<◌, ℕ, suc, refl, sym, ap, ◌∙◌, List, [], ◌∷◌, ◌++◌, length, length-append, drop}
use Rattle.std.proofs.Common.{get_or, Result, Ok, Err, append_assoc, append-nil, add-one, zip, map, arith, ◌+◌, ◌≤◌}
use Rattle.std.proofs.lemmas.List.{at_drop_more, at_drop_all, length-map}
use Rattle.std.proofs.lemmas.Slice.Zip.{length-zip}
use Rattle.tplan.specs.declared.plan.Image.{Image}
use Rattle.tplan.specs.declared.plan.NodePlan.{NodePlan}
use Rattle.topening.specs.declared.fault.Fault.{Fault}
use Rattle.topening.specs.declared.fault.Fault.TheVariants as fault
use Rattle.tfiles.specs.declared.image.ImageFault.{ImageFault}
use Rattle.tplan.specs.declared.wiring.WiringNode.{WiringNode}
use Rattle.topening.specs.Plans.{node_of}
use Rattle.tfiles.specs.Images.{image_of}
use Rattle.topening.specs.Openings.{as_image, onto_images, images_from, images_of, ArePlansOf}
use Rattle.topening.specs.Faults.{IsFaultOf}

-- some images stand before those of the other files
abbrev pub ahead : List Image → Result (List Image) Fault → Result (List Image) Fault
ahead images (Ok more) = Ok (images ++ more)
ahead images (Err f) = Err f

-- none stand ahead
pub ahead-none : (rest : Result (List Image) Fault) → rest ≡ ahead [] rest
ahead-none (Ok more) = refl
ahead-none (Err f) = refl

-- one more is read
pub ahead-more : (images : List Image) (image : Image) (rest : Result (List Image) Fault)
    → ahead images (onto_images (Ok image) rest) ≡ ahead (images ++ image ∷ []) rest
ahead-more images image (Ok more) = ap (λ (xs : List Image). Ok xs) (sym (append_assoc images (image ∷ []) more))
ahead-more images image (Err f) = refl

-- what the files from a place on stand for
step : (files : List (List ℕ)) (place : ℕ) (images : List Image) (d : List ℕ) → place < length files
    → ahead images (images_from place (drop place files))
    ≡ ahead images
    (onto_images (as_image place (image_of (get_or files place d)))
    (images_from (suc place) (drop (place + 1) files)))
step files place images d l = at_drop_more (λ (fs : List (List ℕ)). ahead images (images_from place fs)) files place d l

-- the next file is an image
pub next_image : (files : List (List ℕ)) (place : ℕ) (images : List Image) (image : Image) (d : List ℕ)
    → place < length files
    → images_of files ≡ ahead images (images_from place (drop place files)) → image_of (get_or files place d) ≡ Ok image
    → images_of files ≡ ahead (images ++ image ∷ []) (images_from (place + 1) (drop (place + 1) files))
next_image files place images image d l so_far read =
    so_far ∙ step files place images d l
    ∙ ap (λ (r : Result Image ImageFault). ahead images
    (onto_images (as_image place r) (images_from (suc place) (drop (place + 1) files)))) read
    ∙ ahead-more images image (images_from (suc place) (drop (place + 1) files))
    ∙ ap (λ (n : ℕ). ahead (images ++ image ∷ []) (images_from n (drop (place + 1) files))) (sym (add-one place))

-- the next file is none
pub next_fault : (files : List (List ℕ)) (place : ℕ) (images : List Image) (f : Fault) (d : List ℕ)
    → place < length files
    → images_of files ≡ ahead images (images_from place (drop place files))
    → IsFaultOf (as_image place (image_of (get_or files place d))) f
    → IsFaultOf (images_of files) f
next_fault files place images f d l so_far due = due_here f (image_of (get_or files place d)) refl due
  where
    behind : (f : Fault) (r : Result Image ImageFault) → image_of (get_or files place d) ≡ r → as_image place r ≡ Err f
        → images_of files ≡ Err f
    behind f r e h =
        so_far ∙ step files place images d l
        ∙ ap (λ (x : Result Image Fault). ahead images
        (onto_images x (images_from (suc place) (drop (place + 1) files)))) (ap (as_image place) e ∙ h)

    due_here : (f : Fault) (r : Result Image ImageFault) → image_of (get_or files place d) ≡ r
        → IsFaultOf (as_image place (image_of (get_or files place d))) f → IsFaultOf (images_of files) f
    due_here fault.Memory r e h = tt
    due_here (fault.File n) r e h = behind (fault.File n) r e (ap (as_image place) (sym e) ∙ h)
    due_here (fault.Wiring w) r e h = behind (fault.Wiring w) r e (ap (as_image place) (sym e) ∙ h)
    due_here (fault.Image n i) r e h = behind (fault.Image n i) r e (ap (as_image place) (sym e) ∙ h)
    due_here (fault.Net b) r e h = behind (fault.Net b) r e (ap (as_image place) (sym e) ∙ h)
    due_here (fault.Rounds n) r e h = behind (fault.Rounds n) r e (ap (as_image place) (sym e) ∙ h)
    due_here (fault.Log n) r e h = behind (fault.Log n) r e (ap (as_image place) (sym e) ∙ h)
    due_here (fault.Names n) r e h = behind (fault.Names n) r e (ap (as_image place) (sym e) ∙ h)
    due_here (fault.Replay n) r e h = behind (fault.Replay n) r e (ap (as_image place) (sym e) ∙ h)
    due_here (fault.NoNode n) r e h = behind (fault.NoNode n) r e (ap (as_image place) (sym e) ∙ h)
    due_here (fault.NoMemory a) r e h = behind (fault.NoMemory a) r e (ap (as_image place) (sym e) ∙ h)
    due_here fault.NoLog r e h = behind fault.NoLog r e (ap (as_image place) (sym e) ∙ h)
    due_here (fault.Output w) r e h = h

-- no file is left
pub all_images : (files : List (List ℕ)) (place : ℕ) (images : List Image) → length files ≤ place
    → images_of files ≡ ahead images (images_from place (drop place files)) → images_of files ≡ Ok images
all_images files place images l so_far =
    so_far ∙ at_drop_all (λ (fs : List (List ℕ)). ahead images (images_from place fs)) files place l
    ∙ ap (λ (xs : List Image). Ok xs) (append-nil images)

-- no image has a node
pub zip-none : {A B : Type 0} (ns : List A) → zip {X = B} ns [] ≡ []
zip-none [] = refl
zip-none (n ∷ ns) = refl

-- one more image has its node
pub plans-more : (ns : List WiringNode) (ys : List Image) (y : Image) (d : WiringNode) → length ys < length ns
    → map node_of (zip ns (ys ++ y ∷ [])) ≡ map node_of (zip ns ys) ++ node_of (get_or ns (length ys) d, y) ∷ []
plans-more [] ys y d l = absurd (omega (arith, l))
plans-more (n ∷ ns) [] y d l =
    ap (λ (rest : List (WiringNode × Image)). node_of (n, y) ∷ map node_of rest) (zip-none ns)
plans-more (n ∷ ns) (x ∷ ys) y d l =
    ap (λ (rest : List NodePlan). node_of (n, x) ∷ rest) (plans-more ns ys y d (omega (arith, l)))

-- the nodes so far, with their images
pub record ArePlannedSoFar (nodes : List WiringNode) (files : List (List ℕ)) (place : ℕ) (plans : List NodePlan) : Type
    0 where
  pub images : List Image
  pub ahead_of : images_of files ≡ ahead images (images_from place (drop place files))
  pub planned : plans ≡ map node_of (zip nodes images)
  pub as_many : length images ≡ place

-- none is planned
pub none_planned : (nodes : List WiringNode) (files : List (List ℕ)) (plans : List NodePlan) → plans ≡ []
    → ArePlannedSoFar nodes files 0 plans
none_planned nodes files plans e =
    record {
      images = [];
      ahead_of = ahead-none (images_of files);
      planned = e
          ∙ ap (map node_of) (sym (zip-none nodes));
      as_many = refl;
    }

-- one more is planned
pub one_planned : (nodes : List WiringNode) (files : List (List ℕ)) (place : ℕ) (plans more : List NodePlan)
    (image : Image) (n : WiringNode) (d : List ℕ) → ArePlannedSoFar nodes files place plans
    → length files ≡ length nodes → place < length files → image_of (get_or files place d) ≡ Ok image
    → more ≡ plans ++ node_of (get_or nodes place n, image) ∷ []
    → ArePlannedSoFar nodes files (place + 1) more
one_planned nodes files place plans more image n d h e l read pushed =
    record {
      images = h.images ++ image ∷ [];
      ahead_of = next_image files place h.images image d l h.ahead_of read;
      planned =
          pushed ∙ ap (λ (ps : List NodePlan). ps ++ node_of (get_or nodes place n, image) ∷ []) h.planned
          ∙ (ap (λ (k : ℕ). map node_of (zip nodes h.images) ++ node_of (get_or nodes k n, image) ∷ []) (sym h.as_many)
          ∙ sym (plans-more nodes h.images image n (omega (arith, l, e, h.as_many))));
      as_many = length-append h.images (image ∷ []) ∙ ap (λ (k : ℕ). k + 1) h.as_many;
    }

-- as many are planned as files were read
pub as_many_planned : (nodes : List WiringNode) (files : List (List ℕ)) (place : ℕ) (plans : List NodePlan)
    → length files ≡ length nodes → place ≤ length files → ArePlannedSoFar nodes files place plans
    → length plans ≡ place
as_many_planned nodes files place plans e within h =
    ap (λ (ps : List NodePlan). length ps) h.planned ∙ length-map (zip nodes h.images) node_of
    ∙ length-zip nodes h.images ∙ omega (arith, h.as_many)

-- all are planned
pub all_planned : (nodes : List WiringNode) (files : List (List ℕ)) (place : ℕ) (plans : List NodePlan)
    → ArePlannedSoFar nodes files place plans → length files ≤ place → ArePlansOf nodes files plans
all_planned nodes files place plans h l =
    record { images = h.images; read = all_images files place h.images l h.ahead_of; planned = h.planned }

-- the next file is no image
pub not_planned : (nodes : List WiringNode) (files : List (List ℕ)) (place : ℕ) (plans : List NodePlan) (f : Fault)
    (d : List ℕ) → ArePlannedSoFar nodes files place plans → place < length files
    → IsFaultOf (as_image place (image_of (get_or files place d))) f → IsFaultOf (images_of files) f
not_planned nodes files place plans f d h l due = next_fault files place h.images f d l h.ahead_of due
