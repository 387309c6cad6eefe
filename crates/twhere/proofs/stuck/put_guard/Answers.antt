use Rattle.std.proofs.Common.{sym, ap, ◌∙◌, [], ◌∷◌, Bool}
use Rattle.std.specs.Prelude.{if◌then◌else◌}
use Rattle.tfiles.proofs.Told.{tells_as, tells_none}
use Rattle.twhere.specs.declared.stuck.Who.TheVariants.{Process}
use Rattle.twhere.specs.declared.waits.Want.TheVariants.{Alternative}
use Rattle.twhere.specs.Standing.{stuck_facts}
use Rattle.twhere.specs.Waits.{is_enabled_by, wait_at}
use Rattle.twhere.proofs.stuck.put_guard.Goals as goal

pub returns-else-is_enabled_by : goal.returns-else-is_enabled_by
returns-else-is_enabled_by g c =
    tells_as (tells_none c.args.out.now)
    (ap (λ (b : Bool). stuck_facts c.args.at.now.net.now c.args.at.now.number c.args.at.now.node.now
    (Process c.args.process) (if b then wait_at Alternative c.args.link ∷ [] else []))
    (sym c.if-is_enabled_by.false ∙ c.is_enabled_by.ensures
    ∙ ap (is_enabled_by c.args.process) c.remembered.ensures))
