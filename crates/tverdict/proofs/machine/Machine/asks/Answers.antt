use Rattle.std.proofs.Common.{◌≤◌, None, Ok, Option, arith, length, subst, sym}
use Rattle.tprocesses.specs.Parts.{Part}
use Rattle.tprocesses.specs.Places.{Name}
use Rattle.tverdict.specs.Passing.{RunsHalf}
use Rattle.tverdict.proofs.Half.{half_gives, nobody_asks}
use Rattle.tverdict.proofs.machine.Machine.asks.Goals as goal

pub returns-clause-asks : goal.returns-clause-asks
returns-clause-asks c = λ plan notes fits.
    let m = c.args.self.now in let to = c.args.to in
    let past : length plan.nodes ≤ to.node = omega (arith, c.if-to-len.false, c.len.ensures, fits.nodes.many) in
    subst (λ (p : Part (Option Name)). RunsHalf plan p to.node m notes (Ok None) m notes)
    (sym (nobody_asks plan to past)) (half_gives plan to.node m notes None)
