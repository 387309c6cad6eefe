-- What a loop that reads parts of one kind answers.
use Rattle.std.proofs.Common.{◌≡◌, ℕ, ◌<◌, List, Some}
use Rattle.tfiles.specs.declared.image.ImageFault.{ImageFault}
use Rattle.tfiles.specs.declared.image.ImageFault.TheVariants.{BadMagic, TooMany, Truncated, Trailing, OutOfMemory}
use Rattle.tfiles.specs.Images.{Reading, parts_in, IsPartFault}
use Rattle.tfiles.proofs.PartLoops.{parts-none}

-- why one part could not be read is why they could not all be
pub IsPartFault-parts : {A : Type 0} (read : List ℕ → Reading A) (n k : ℕ) (bytes mid : List ℕ) (xs : List A)
    (fault : ImageFault)
    → parts_in read n bytes ≡ Some (xs, mid) → IsPartFault (read mid) fault → n < k
    → IsPartFault (parts_in read k bytes) fault
IsPartFault-parts read n k bytes mid xs Truncated h e l = parts-none read n k bytes mid xs h e l
IsPartFault-parts read n k bytes mid xs OutOfMemory h e l = tt
IsPartFault-parts read n k bytes mid xs BadMagic h e l = e
IsPartFault-parts read n k bytes mid xs TooMany h e l = e
IsPartFault-parts read n k bytes mid xs Trailing h e l = e
