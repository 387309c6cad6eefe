use Rattle.std.proofs.Common.{sym, ap, ◌∙◌, Bool, [], ◌++◌}
use Rattle.std.specs.Prelude.{if◌then◌else◌}
use Rattle.tfiles.proofs.Told.{tells_as, tells_none, tells_then}
use Rattle.twhere.specs.Standing.{circles_text, node_stuck, texts_from}
use Rattle.twhere.proofs.QuietNets.{quiet_as}
use Rattle.twhere.proofs.stuck.put_stuck.Goals as goal

pub returns-then-is_quiet : goal.returns-then-is_quiet
returns-then-is_quiet g c =
    tells_as (tells_then c.put_nodes.ensures c.put_circles.ensures)
    (ap (λ (b : Bool). if b then texts_from (node_stuck c.args.net.now) 0 c.args.net.now.nodes
    ++ circles_text c.args.net.now else [])
    (sym (quiet_as c.args.net.now c.know_sound.ensures c.is_quiet.result c.is_quiet.ensures ∙ c.if-is_quiet.true)))

pub returns-else-is_quiet : goal.returns-else-is_quiet
returns-else-is_quiet g c =
    tells_as (tells_none c.args.out.now)
    (ap (λ (b : Bool). if b then texts_from (node_stuck c.args.net.now) 0 c.args.net.now.nodes
    ++ circles_text c.args.net.now else [])
    (sym (quiet_as c.args.net.now c.know_sound.ensures c.is_quiet.result c.is_quiet.ensures ∙ c.if-is_quiet.false)))
