use Rattle.std.proofs.Common.{sym, ap, ◌∙◌, [], ◌∷◌, Bool}
use Rattle.std.specs.Prelude.{if◌then◌else◌}
use Rattle.tfiles.proofs.Told.{tells_as, tells_none}
use Rattle.twhere.specs.declared.stuck.Who.TheVariants.{TheSource}
use Rattle.twhere.specs.declared.waits.Want.TheVariants.{Output}
use Rattle.twhere.specs.Standing.{stuck_facts}
use Rattle.twhere.specs.Waits.{wait_at}
use Rattle.twhere.proofs.stuck.put_source.Goals as goal

pub returns-then-has_output : goal.returns-then-has_output
returns-then-has_output g c =
    tells_as c.put_wait_of.ensures
    (ap (λ (b : Bool). stuck_facts c.args.at.now.net.now c.args.at.now.number c.args.at.now.node.now TheSource
    (if b then wait_at Output 0 ∷ [] else [])) (sym c.if-has_output.true ∙ c.has_output.ensures))

pub returns-else-has_output : goal.returns-else-has_output
returns-else-has_output g c =
    tells_as (tells_none c.args.out.now)
    (ap (λ (b : Bool). stuck_facts c.args.at.now.net.now c.args.at.now.number c.args.at.now.node.now TheSource
    (if b then wait_at Output 0 ∷ [] else [])) (sym c.if-has_output.false ∙ c.has_output.ensures))
