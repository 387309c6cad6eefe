-- Words that the parser refuses are refused for its reasons.
use Rattle.std.proofs.Common.{[], ◌∷◌, inl, inr}
use Rattle.clap.specs.Kinds.{HasKind, Kinds, or_else}
use Rattle.clap.specs.declared.error.Error.{Error}

pub by_parser : (kinds more : Kinds) (e : Error) → HasKind kinds e → HasKind (or_else kinds more) e
by_parser [] more e h = elim h [
  | inl memory ↦ inl memory
  | inr none ↦ absurd none
]
by_parser (k ∷ ks) more e h = h
