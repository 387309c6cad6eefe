-- What has an access has one that covers it.
use Rattle.std.proofs.Common.{◌≡◌, ℕ, true, inl, inr, List, [], ◌∷◌, subst}
use Rattle.tagents.specs.Agents.{Agents}
use Rattle.tagents.specs.Tables.{Access as PlaceAccess, Accesses, HasAccess}
use Rattle.tclocks.specs.declared.mode.Mode.{Mode}
use Rattle.tclocks.specs.Modes.{covers}
use Rattle.tclocks.specs.Checks.{Check}
use Rattle.tclocks.specs.Numbers.{Numbers}
use Rattle.tclocks.specs.Followed.{HasCover, IsTold, IsToldByCover}
use Rattle.tclocks.proofs.ModeLemmas.{covers-self}

has-cover : (done : List (PlaceAccess ℕ Mode)) (place : ℕ) (mode : Mode) → HasAccess done place mode
    → HasCover done place mode
has-cover [] place mode has = absurd has
has-cover (x ∷ xs) place mode (inl e) =
    inl (e.0, subst (λ (k : Mode). covers x.mode k ≡ true) e.1 (covers-self x.mode))
has-cover (x ∷ xs) place mode (inr rest) = inr (has-cover xs place mode rest)

pub told-by-cover : {State Agent Label Place Kind : Type 0} (m : Agents State Agent Label)
    (accesses : Accesses Place Kind Label) (numbers : Numbers Agent Place Kind) (check : Check)
    (writers : ℕ → List Label) (agent : ℕ) (slots : List ℕ) (done : List (PlaceAccess ℕ Mode)) (label : Label)
    → IsTold m accesses numbers check writers agent slots done label
    → IsToldByCover m accesses numbers check writers agent slots done label
told-by-cover m accesses numbers check writers agent slots done label told = record {
  by = told.by;
  added = told.added;
  leads = told.leads;
  all = λ p k has. inl (has-cover done (numbers.place p) (numbers.mode p k) (told.all p k has));
}
