use Rattle.std.proofs.lemmas.Result.{err_from_is_err_and}
use Rattle.tverdict.specs.declared.agent.Agent.TheVariants as agent
use Rattle.tverdict.specs.Listening.{far_node}
use Rattle.tverdict.proofs.Grown.{goes_fits, two_fits}
use Rattle.tverdict.proofs.Listened.{listening_fails, listening_goes, site_there}
use Rattle.tverdict.proofs.Staying.{grow_twice, there_stays}
use Rattle.tverdict.proofs.machine.Machine.listens.Goals as goal

pub requires_no_sender-requires : goal.requires_no_sender-requires
requires_no_sender-requires c =
    let plan = c.args.plan.now in
    goes_fits plan c.args.node c.args.self.now c.node_stand.new.self
    (c.node_stand.ensures plan c.args.notes.now c.requires.fits).goes c.requires.fits

pub returns-in_err-requires_no_sender : goal.returns-in_err-requires_no_sender
returns-in_err-requires_no_sender c = λ channel l sender.
    let plan = c.args.plan.now in let m = c.args.self.now in let n = c.args.node in let notes = c.args.notes.now in
    let mid = c.requires_no_sender.new.self in let after = c.requires_no_sender.new.notes in
    let seen = c.node_stand.ensures plan notes c.requires.fits in
    let p = err_from_is_err_and c.from_residual.result c.from_residual.ensures.1 in
    rw (p.1, p.2)
    (listening_fails plan m c.node_stand.new.self mid mid n c.args.process c.args.from notes after c.requires.fits
    channel l sender c.node_stand.result seen c.in-Listens.channel c.in-Listens.context c.in-Listens.is
    c.in_err-requires_no_sender.field-0.0 (c.in_err-requires_no_sender.ensures n n))

pub node_goes_on-requires : goal.node_goes_on-requires
node_goes_on-requires c =
    let plan = c.args.plan.now in let m = c.args.self.now in let n = c.args.node in
    let mid = c.node_stand.new.self in let new = c.requires_no_sender.new.self in
    let seen = c.node_stand.ensures plan c.args.notes.now c.requires.fits in
    there_stays m.nodes.items new.nodes.items
    (grow_twice m.nodes.items mid.nodes.items new.nodes.items seen.goes.nodes
    (c.in_ok-requires_no_sender.ensures n n).nodes) (agent.Process n c.args.process) c.requires.there

pub returns : goal.returns
returns c = λ channel l sender.
    let plan = c.args.plan.now in let m = c.args.self.now in let n = c.args.node in let notes = c.args.notes.now in
    let one = c.node_stand.new.self in let two = c.requires_no_sender.new.self in
    let after = c.requires_no_sender.new.notes in let seen = c.node_stand.ensures plan notes c.requires.fits in
    let quiet = c.in_ok-requires_no_sender.ensures n n in
    let fits = two_fits plan (far_node n c.args.from) n one two notes after quiet
    (goes_fits plan n m one seen.goes c.requires.fits) in
    let there = site_there plan m n c.args.process channel c.requires.fits l in
    listening_goes plan m one two c.node_goes_on.new.self n c.args.process c.args.from notes after c.requires.fits
    channel l sender c.node_stand.result seen c.in-Listens.channel c.in-Listens.context c.in-Listens.is quiet
    c.node_goes_on.result (c.node_goes_on.ensures plan after there.0 fits there.1)
