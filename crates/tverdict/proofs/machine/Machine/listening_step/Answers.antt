use Rattle.tprocesses.specs.Machine as machine
use Rattle.tprocesses.specs.Machine.{step_of}
use Rattle.tverdict.specs.Agents.{name_there}
use Rattle.tverdict.proofs.Grown.{fits_sound}
use Rattle.tverdict.proofs.Listened.{listening_does, listening_home, listening_is, listens_still, listens_there}
use Rattle.tverdict.proofs.Wiring.{fits2, grow2, two_keeps, two_outcome, two_stepped}
use Rattle.tverdict.proofs.machine.Machine.listening_step.Goals as goal

pub listens-outcome-requires-clause-fits : goal.listens-outcome-requires-clause-fits
listens-outcome-requires-clause-fits c =
    fits2 c.args.plan.now c.args.self.now c.begin_at.new.self c.begin_at-2.new.self c.far_node-far.result c.args.node
    c.requires.follows c.begin_at.ensures c.begin_at-2.ensures

pub listens-outcome-requires-clause-there : goal.listens-outcome-requires-clause-there
listens-outcome-requires-clause-there c =
    let plan = c.args.plan.now in let m = c.args.self.now in let n = c.args.node in let k = c.args.process in
    let fits = fits_sound plan m c.requires.follows.1.sound in
    listens_there c.begin_at-2.new.self.nodes.items n k c.args.channel
    (listens_still plan m c.begin_at.new.self c.begin_at-2.new.self c.begin_at-2.new.self n k c.args.channel
    c.far_node-far.result c.input_link-link.result c.sender_to-from.result c.new-notes.result c.new-notes.result fits
    c.requires.listens c.begin_at.ensures c.begin_at-2.ensures)

pub end_pass-requires : goal.end_pass-requires
end_pass-requires c =
    let plan = c.args.plan.now in let m = c.args.self.now in let n = c.args.node in let k = c.args.process in
    let far = c.far_node-far.result in let link = c.input_link-link.result in let from = c.sender_to-from.result in
    let one = c.begin_at.new.self in let two = c.begin_at-2.new.self in let three = c.listens-outcome.new.self in
    let number = c.args.number in let f = c.requires.follows in let h = c.requires.open in
    let at = c.requires.agent in let l = c.requires.listens in let b = c.begin_at.ensures in
    let b' = c.begin_at-2.ensures in let fits = fits_sound plan m f.1.sound in
    let grow = grow2 plan m one two far n f b b' in
    let does = listening_does plan m one two three n k c.args.channel far link from c.new-notes.result
    c.listens-outcome.new.notes fits l b b' (c.sender_to-from.ensures plan f.1.sound.wires) c.input_link-link.ensures
    c.far_node-far.ensures c.listens-outcome.result c.listens-outcome.ensures in (
      plan,
      two_outcome plan m one two far n f b b' three number
          (step_of plan (machine.Process (name_there two.nodes.items n k)))
          c.new-notes.result c.listens-outcome.new.notes h
          (listening_is plan m two number n k c.args.channel far h fits at l grow)
          (listening_home plan m two number n k c.args.channel far h fits at l grow) c.counts_at.result
          c.counts_at-2.result c.counts_at.ensures c.counts_at-2.ensures c.listens-outcome.result does,
    )

pub returns-clause-stepped : goal.returns-clause-stepped
returns-clause-stepped c =
    let plan = c.args.plan.now in let m = c.args.self.now in let n = c.args.node in let k = c.args.process in
    let far = c.far_node-far.result in let link = c.input_link-link.result in let from = c.sender_to-from.result in
    let one = c.begin_at.new.self in let two = c.begin_at-2.new.self in let three = c.listens-outcome.new.self in
    let number = c.args.number in let f = c.requires.follows in let h = c.requires.open in
    let at = c.requires.agent in let l = c.requires.listens in let b = c.begin_at.ensures in
    let b' = c.begin_at-2.ensures in let fits = fits_sound plan m f.1.sound in
    let grow = grow2 plan m one two far n f b b' in
    let does = listening_does plan m one two three n k c.args.channel far link from c.new-notes.result
    c.listens-outcome.new.notes fits l b b' (c.sender_to-from.ensures plan f.1.sound.wires) c.input_link-link.ensures
    c.far_node-far.ensures c.listens-outcome.result c.listens-outcome.ensures in
    two_stepped plan m one two far n f b b' three number
    (step_of plan (machine.Process (name_there two.nodes.items n k)))
    c.new-notes.result c.listens-outcome.new.notes h
    (listening_is plan m two number n k c.args.channel far h fits at l grow)
    (listening_home plan m two number n k c.args.channel far h fits at l grow) c.counts_at.result
    c.counts_at-2.result c.counts_at.ensures c.counts_at-2.ensures c.listens-outcome.result does c.end_pass.result
    c.end_pass.new.self c.end_pass.ensures.memory (c.end_pass.ensures.stepped plan)

pub returns-clause-kept : goal.returns-clause-kept
returns-clause-kept c =
    let plan = c.args.plan.now in let m = c.args.self.now in let n = c.args.node in let k = c.args.process in
    let far = c.far_node-far.result in let link = c.input_link-link.result in let from = c.sender_to-from.result in
    let one = c.begin_at.new.self in let two = c.begin_at-2.new.self in let three = c.listens-outcome.new.self in
    let number = c.args.number in let f = c.requires.follows in let h = c.requires.open in
    let at = c.requires.agent in let l = c.requires.listens in let b = c.begin_at.ensures in
    let b' = c.begin_at-2.ensures in let fits = fits_sound plan m f.1.sound in
    let grow = grow2 plan m one two far n f b b' in
    let does = listening_does plan m one two three n k c.args.channel far link from c.new-notes.result
    c.listens-outcome.new.notes fits l b b' (c.sender_to-from.ensures plan f.1.sound.wires) c.input_link-link.ensures
    c.far_node-far.ensures c.listens-outcome.result c.listens-outcome.ensures in
    two_keeps plan m one two far n f b b' three number (step_of plan (machine.Process (name_there two.nodes.items n k)))
    c.new-notes.result c.listens-outcome.new.notes h
    (listening_is plan m two number n k c.args.channel far h fits at l grow)
    (listening_home plan m two number n k c.args.channel far h fits at l grow) c.counts_at.result
    c.counts_at-2.result c.counts_at.ensures c.counts_at-2.ensures c.listens-outcome.result does c.end_pass.result
    c.end_pass.new.self c.end_pass.ensures.memory c.end_pass.ensures.kept
