use Rattle.std.proofs.Common.{◌≡◌, ap, ◌∙◌}
use Rattle.tplan.specs.Wires.{end_at, far_end, far_ends}
use Rattle.tfiles.proofs.Told.{tells_as, tells_none, tells_then}
use Rattle.twhere.specs.Standing.{lacking_text, wait_text}
use Rattle.twhere.specs.Waits.{wait_at}
use Rattle.twhere.proofs.QuietNets.{far_below}
use Rattle.twhere.proofs.stuck.put_wait_of.Goals as goal

pub put_lacking-requires : goal.put_lacking-requires
put_lacking-requires g c =
    far_below c.args.at.now.net.now c.know_sound.ensures (end_at c.args.at.now.number c.args.link) c.far_end-far.result
    (c.far_end-far.ensures ∙ ap (far_end c.args.at.now.net.now.wires) c.end_at.ensures)

pub returns : goal.returns
returns g c =
    let far : c.far_end-far.result ≡ far_ends c.args.at.now.net.now.wires c.args.at.now.number c.args.link =
    c.far_end-far.ensures ∙ ap (far_end c.args.at.now.net.now.wires) c.end_at.ensures in
    tells_then
    (tells_then
    (tells_then c.put.ensures
    (tells_then c.put_who.ensures
    (tells_then c.put-2.ensures
    (tells_then (tells_as c.put_wait.ensures (ap (wait_text (wait_at c.args.want c.args.link)) far))
    (tells_as c.put_lacking.ensures
    (ap (lacking_text c.args.at.now.net.now c.args.at.now.number c.args.at.now.node.now c.args.want) far))))))
    c.put-3.ensures)
    (tells_none c.put-3.new.self)
