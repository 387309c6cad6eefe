use Rattle.std.proofs.Common.{sym, ap, [], ◌∷◌, Bool}
use Rattle.std.specs.Prelude.{if◌then◌else◌}
use Rattle.tfiles.proofs.Told.{tells_as, tells_none}
use Rattle.twhere.specs.declared.stuck.Who.TheVariants.{TheSink}
use Rattle.twhere.specs.declared.waits.Want.TheVariants.{Input}
use Rattle.twhere.specs.Standing.{stuck_facts}
use Rattle.twhere.specs.Waits.{wait_at}
use Rattle.twhere.proofs.StuckFacts.{has_none, has_some}
use Rattle.twhere.proofs.stuck.put_sink.Goals as goal

pub returns-then-counts-ne0 : goal.returns-then-counts-ne0
returns-then-counts-ne0 g c =
    tells_as c.put_wait_of.ensures
    (ap (λ (b : Bool). stuck_facts c.args.at.now.net.now c.args.at.now.number c.args.at.now.node.now TheSink
    (if b then [] else wait_at Input 0 ∷ []))
    (sym (has_some _ _ c.counts.ensures c.if-counts-ne0.true)))

pub returns-else-counts-ne0 : goal.returns-else-counts-ne0
returns-else-counts-ne0 g c =
    tells_as (tells_none c.args.out.now)
    (ap (λ (b : Bool). stuck_facts c.args.at.now.net.now c.args.at.now.number c.args.at.now.node.now TheSink
    (if b then [] else wait_at Input 0 ∷ []))
    (sym (has_none _ _ c.counts.ensures c.if-counts-ne0.false)))
