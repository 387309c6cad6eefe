use Rattle.std.proofs.Common.{◌≡◌, ℕ, ℤ, sym, rules}
use Rattle.std.specs.Int.{w32}
use Rattle.std.proofs.lemmas.Result.{err_from_is_err_and}
use mir.Val.{to_z, of_z}
use Rattle.tprocesses.specs.Changes.{Add}
use Rattle.tprocesses.specs.Parts.{change, done}
use Rattle.tprocesses.specs.Places.{Life}
use Rattle.tcertify.specs.Nodes.{nothing}
use Rattle.tcertify.proofs.NodeLives.{adds_there}
use Rattle.tcertify.proofs.NodeRunning.{does_after, does_stop, number_stays}
use Rattle.tcertify.proofs.node.Node.adds_life.Goals as goal

pub returns-in_err-number : goal.returns-in_err-number
returns-in_err-number c =
    let a = c.args.self.now in
    let p = err_from_is_err_and c.from_residual.result c.from_residual.ensures.1 in
    rw (p.1, p.2)
    (does_stop done (λ (u : Unit {0}). change (Life a.words.number c.args.workspace) (Add c.args.more)) (λ (k : ℕ). tt)
    nothing a c.life_at.new.self c.in_err-number.field-0.0 c.in_err-number.ensures.done)

pub returns : goal.returns
returns c =
    let a = c.args.self.now in let m = c.life_at.new.self in let z : ℤ = c.args.more in
    let e : to_z w32 (of_z w32 z) ≡ z = search rules in
    does_after (change (Life a.words.number c.args.workspace) (Add z)) nothing a m c.adds_life_at.new.self
    c.adds_life_at.result c.in_ok-number.ensures.done
    (adds_there m c.adds_life_at.new.self c.adds_life_at.result m.words.number a.words.number _ c.args.workspace _ z
    (sym (number_stays a m c.in_ok-number.ensures.done.grows)) c.in_ok-number.ensures.there.1 e c.adds_life_at.ensures)
