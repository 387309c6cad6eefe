-- The places of the process machine, and the names of its processes.
-- Source: own choice.
use Rattle.std.specs.Prelude.{ℕ, ◌==◌, ◌&&◌, Bool, true, false, List, [], ◌∷◌}
use Rattle.tplan.specs.declared.plan.End.{End}
use Rattle.tproc.specs.declared.channels.Side.{Side}
use Rattle.tproc.specs.declared.channels.Side.TheVariants.{Input, Output}
use Rattle.tplan.specs.Wires.{same_end}

-- where a name begins: at a process of the image, by its number, or at a successor, by its workspace and by how many
-- successors went on there before it
pub data Root : Type 0 where
  Image : ℕ → Root
  After : (workspace earlier : ℕ) → Root

-- the name of a process, which is the same in all runs: its node, its root, and the numbers of the children that lead
-- from the root to it, the last one first
pub record Name : Type 0 where
  pub node : ℕ
  pub root : Root
  pub path : List ℕ

-- the name of a child, by its number
abbrev pub child_of : Name → ℕ → Name
child_of x number = record x { path = number ∷ x.path }

-- a place. Word k of a node is the one at address MostNeg + 4 k
pub data Place : Type 0 where
  -- a word of the memory of a node
  WordAt : (node word : ℕ) → Place
  -- how many outputs of links that are not over have a byte of the word
  Sending : (node word : ℕ) → Place
  -- where a process stands
  Standing : Name → Place
  -- the channels that a process has enabled
  Ports : Name → Place
  -- who waits to input, or to output, on the internal channel at an address
  Half : (node channel : ℕ) → Side → Place
  -- the input, or the output, of a link
  LinkHalf : End → Side → Place
  -- a message from the end of a link has gone over, and its process has not gone on
  Unfinished : End → Place
  -- the flags
  Error : ℕ → Place
  HaltOnError : ℕ → Place
  -- how many processes have this workspace
  Life : (node workspace : ℕ) → Place
  -- how many successors went on at this workspace
  Successions : (node workspace : ℕ) → Place
  -- the messages of a source that have not gone over, by the end of the source
  Messages : End → Place
  -- what a sink has kept, by the end of the sink
  Kept : End → Place
  -- how many processes a node has ever had
  Population : ℕ → Place
  -- a process of this priority has run at the node
  HasRun : (node priority : ℕ) → Place
  -- a flag of the node was changed
  FlagChanged : ℕ → Place

-- two paths are the same
abbrev pub same_path : List ℕ → List ℕ → Bool
same_path [] [] = true
same_path (x ∷ xs) (y ∷ ys) = (x == y) && same_path xs ys
same_path _ _ = false

-- two roots are the same
abbrev pub same_root : Root → Root → Bool
same_root (Image k) (Image l) = k == l
same_root (After w i) (After v j) = (w == v) && (i == j)
same_root _ _ = false

-- two names are the same
abbrev pub same_name : Name → Name → Bool
same_name x y = (x.node == y.node) && same_root x.root y.root && same_path x.path y.path

-- two sides are the same
abbrev pub same_side : Side → Side → Bool
same_side Input Input = true
same_side Output Output = true
same_side _ _ = false

-- two places are the same
abbrev pub same_place : Place → Place → Bool
same_place (WordAt n k) (WordAt m l) = (n == m) && (k == l)
same_place (Sending n k) (Sending m l) = (n == m) && (k == l)
same_place (Standing x) (Standing y) = same_name x y
same_place (Ports x) (Ports y) = same_name x y
same_place (Half n c s) (Half m d t) = (n == m) && (c == d) && same_side s t
same_place (LinkHalf e s) (LinkHalf f t) = same_end e f && same_side s t
same_place (Unfinished e) (Unfinished f) = same_end e f
same_place (Error n) (Error m) = n == m
same_place (HaltOnError n) (HaltOnError m) = n == m
same_place (Life n w) (Life m v) = (n == m) && (w == v)
same_place (Successions n w) (Successions m v) = (n == m) && (w == v)
same_place (Messages e) (Messages f) = same_end e f
same_place (Kept e) (Kept f) = same_end e f
same_place (Population n) (Population m) = n == m
same_place (HasRun n p) (HasRun m q) = (n == m) && (p == q)
same_place (FlagChanged n) (FlagChanged m) = n == m
same_place _ _ = false
