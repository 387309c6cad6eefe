use Rattle.std.proofs.Common.{◌≡◌, ℕ, ap, refl}
use denote.Enum.Declared.{tag_of}
use Rattle.tverdict.specs.contracts.verdict.Verdict.{the_type}
use Rattle.tplan.specs.declared.plan.Plan.{Plan}
use Rattle.tverdict.specs.declared.machine.Machine.{Machine}
use Rattle.tverdict.specs.declared.verdict.Verdict.{Verdict}
use Rattle.tverdict.specs.declared.verdict.Verdict.TheVariants as verdict
use Rattle.tverdict.specs.declared.verdict.Refusal.TheVariants as refusal
use Rattle.tverdict.specs.Verdicts.{IsTold}
use Rattle.tfindings.proofs.parts.certify_in_parts.Goals as goal

-- what is told of a run that was not cut does not depend on how many steps were permitted
told_anyhow : (plan : Plan) (part most : ℕ) (m : Machine) (v : Verdict) → (v ≡ verdict.Cut → ⊥)
    → IsTold plan part m v → IsTold plan most m v
told_anyhow plan part most m verdict.Certified other told = told
told_anyhow plan part most m (verdict.Race race) other told = told
told_anyhow plan part most m (verdict.Refused why) other told = told
told_anyhow plan part most m verdict.Cut other told = absurd (other refl)

pub returns-in_default-clause-told : goal.returns-in_default-clause-told
returns-in_default-clause-told g c =
    told_anyhow _ _ _ _ _ (λ e. c.in_default.in_default-own.refused-1.1 (ap (tag_of the_type) e))
    c.in_ok-verdict.ensures.told
