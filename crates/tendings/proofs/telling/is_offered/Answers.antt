use Rattle.std.proofs.Common.{ap, is_some, ◌∙◌, ℕ, Option}
use Rattle.trendezvous.specs.Calls.{fresh_output}
use Rattle.tendings.proofs.RoleDumps.{length_there}
use Rattle.tendings.proofs.telling.is_offered.Goals as goal

pub returns : goal.returns
returns c =
    c.is_some.ensures ∙ (ap (λ (o : Option ℕ). is_some o) c.fresh_output.ensures
    ∙ length_there (fresh_output c.args.site.now c.args.link))
