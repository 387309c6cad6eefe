use Rattle.std.proofs.Common.{ℕ, sym, Ok}
use Rattle.std.proofs.lemmas.Result.{err_from_is_err_and}
use Rattle.tprocesses.specs.Parts.{done, see}
use Rattle.tprocesses.specs.Places.{Successions}
use Rattle.tprocesses.specs.Values.{IsCount}
use Rattle.tcertify.proofs.NodeLives.{successors_there}
use Rattle.tcertify.proofs.NodeRunning.{does_stop, number_stays, runs_at_on}
use Rattle.tcertify.proofs.node.Node.successions.Goals as goal

pub returns-in_err-number : goal.returns-in_err-number
returns-in_err-number c =
    let a = c.args.self.now in
    let p = err_from_is_err_and c.from_residual.result c.from_residual.ensures.1 in
    rw (p.1, p.2)
    (does_stop done (λ (u : Unit {0}). see (Successions a.words.number c.args.workspace)) (λ (k : ℕ). tt) IsCount a
    c.life_at.new.self c.in_err-number.field-0.0 c.in_err-number.ensures.done)

pub returns : goal.returns
returns c =
    let a = c.args.self.now in let m = c.life_at.new.self in let b = c.successors_of.new.self in
    let there = c.in_ok-number.ensures in let r = c.successors_of.result in
    runs_at_on done (λ (u : Unit {0}). see (Successions a.words.number c.args.workspace)) a m b tt (Ok (IsCount r))
    there.done
    (successors_there (λ n w. see (Successions n w)) m b (Ok (IsCount r)) m.words.number
    a.words.number _ c.args.workspace (sym (number_stays a m there.done.grows)) there.there.1 c.successors_of.ensures)
