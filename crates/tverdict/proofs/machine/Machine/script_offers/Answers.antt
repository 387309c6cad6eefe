use Rattle.std.proofs.Common.{◌≤◌, Bool, Ok, arith, length, subst, sym}
use Rattle.std.proofs.lemmas.Option.{slice_get_past}
use Rattle.tprocesses.specs.Machine.{offers}
use Rattle.tverdict.specs.Passing.{RunsHalf}
use Rattle.tverdict.proofs.Offered.{offers_half}
use Rattle.tverdict.proofs.machine.Machine.script_offers.Goals as goal

pub returns : goal.returns
returns c =
    let plan = c.args.plan.now in let m = c.args.self.now in let from = c.args.from in
    let past : length m.nodes.items ≤ from.node = omega (arith, c.requires.past, c.requires.fits.nodes.many) in
    let none = slice_get_past m.nodes.items from.node past in
    subst (λ (b : Bool). RunsHalf plan (offers plan from) from.node m c.args.notes.now (Ok b) m c.add.new.self)
    (sym (c.has_message.ensures c.requires.fits.nodes))
    (offers_half plan m from none c.in-Some.place c.in-Some.ensures c.args.notes.now c.add.new.self c.add.ensures.keeps
    c.add.ensures.tells)
