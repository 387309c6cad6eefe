use Rattle.std.proofs.Common.{◌≡◌, ap, ap₂, Bool}
use Rattle.std.specs.Prelude.{codes}
use Rattle.tlink.specs.declared.counts.Counts.{Counts}
use Rattle.tlink.specs.Node.{counts_at}
use Rattle.tfiles.proofs.Told.{tells_as, tells_then}
use Rattle.twhere.specs.Standing.{byte_fact, enabled_fact, input_fact, output_fact}
use Rattle.twhere.proofs.links.put_link.Goals as goal

pub returns : goal.returns
returns g c =
    let counts : c.counts-counts.result ≡ counts_at c.args.node.now c.args.link = c.counts-counts.ensures in
    tells_then
    (tells_as c.put_output.ensures
    (ap₂ (λ (p : Bool) (n : Counts). output_fact c.args.link p n) c.has_output.ensures counts))
    (tells_then
    (tells_as c.put_input.ensures
    (ap₂ (λ (p : Bool) (n : Counts). input_fact c.args.link p n) c.has_input.ensures counts))
    (tells_then
    (tells_as c.put_arrival.ensures
    (ap (λ (n : Counts). byte_fact c.args.link (codes "byte waits ") n.arrived) counts))
    (tells_then c.put_arrival-2.ensures
    (tells_then c.put_ack.ensures
    (tells_as c.put_enabled.ensures (ap (enabled_fact c.args.link) c.remembered.ensures))))))
