-- What `dis` writes: the instructions of an image, with labels where there are names.
-- Source: own choice.
use Rattle.std.specs.Prelude.{ℕ, List, Option, Some, None}
use Rattle.tword.specs.declared.kind.Kind.{Kind}
use Rattle.tplan.specs.declared.plan.Image.{Image}
use Rattle.tfiles.specs.Disassembly.{dis_text}
use Rattle.tnames.specs.declared.names.Name.{Name}
use Rattle.tnames.specs.Listings.{labelled_text}

-- the instructions of an image for a node of a kind, with labels where there are names
abbrev pub labelled_dis : Option (List Name) → Kind → Image → List ℕ
labelled_dis None kind image = dis_text kind image
labelled_dis (Some names) kind image = labelled_text names (dis_text kind image)
