-- An object that ends a line.
use Rattle.std.proofs.Common.{ℕ, sym, List, [], ◌∷◌, ◌++◌, append_assoc, Option}
use Rattle.std.specs.Prelude.{codes}
use Rattle.tfiles.specs.declared.writing.output.Output.{Output}
use Rattle.tfiles.specs.Outputs.{Tells}
use Rattle.tfiles.proofs.Told.{tells_as, tells_then}

module _ {W : Type 0} {contents : W → Option (List ℕ)} {failures : W → Option ℕ} where
  -- its members, and behind them the bracket and the end of the line
  pub ends_line : {a b c : Output W} {members : List ℕ} → Tells contents failures a b members
      → Tells contents failures b c (codes "}\n")
      → Tells contents failures a c ((members ++ codes "}") ++ 10 ∷ [])
  ends_line {members = members} f g = tells_as (tells_then f g) (sym (append_assoc members (codes "}") (10 ∷ [])))
