-- Findings of which no step is told.
use Rattle.std.proofs.Common.{◌≡◌, ℕ, refl, []}
use Rattle.tcertify.specs.declared.stop.Stop.{Stop}
use Rattle.tverdict.specs.declared.machine.Machine.{Machine}
use Rattle.tfindings.specs.declared.finding.Finding.{Finding}
use Rattle.tfindings.specs.declared.finding.Finding.TheVariants as finding
use Rattle.tfindings.specs.declared.finding.Made.{Made}
use Rattle.tfindings.specs.declared.finding.Touch.{Touch}
use Rattle.tfindings.specs.Telling.{body_text}

pub nothing_told : (m : Machine) (f : Finding)
    → ((place : ℕ) (earlier last : Touch) → f ≡ finding.Race place earlier last → ⊥)
    → ((made : Made) (why : Stop) → f ≡ finding.Stopped made why → ⊥) → [] ≡ body_text m f
nothing_told m finding.Certified a b = refl
nothing_told m (finding.Race place earlier last) a b = absurd (a place earlier last refl)
nothing_told m (finding.Stopped made why) a b = absurd (b made why refl)
nothing_told m (finding.TooManyProcesses n) a b = refl
nothing_told m (finding.FlagsChanged n) a b = refl
nothing_told m finding.Cut a b = refl
