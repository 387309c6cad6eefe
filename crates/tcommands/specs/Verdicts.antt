-- The verdicts that commands may have.
-- Source: own choice.
use Rattle.std.specs.Prelude.{◌≡◌, ◌⊎◌}
use Rattle.topening.specs.declared.verdict.Verdict.{Verdict}
use Rattle.topening.specs.declared.verdict.Verdict.TheVariants as verdict

-- the verdicts that a run, or the events of a log, may have: a node is frozen, or none is
abbrev pub IsNetVerdict : Verdict → Type 0
IsNetVerdict v = (v ≡ verdict.Clear) ⊎ (v ≡ verdict.Marked)

-- the verdicts that the check of a wiring may have
abbrev pub IsCheckVerdict : Verdict → Type 0
IsCheckVerdict v = (v ≡ verdict.Clear) ⊎ (v ≡ verdict.Wrong)
