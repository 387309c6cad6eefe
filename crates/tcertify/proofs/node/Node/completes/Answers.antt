use Rattle.std.proofs.Common.{refl}
use Rattle.std.proofs.lemmas.Result.{err_from_is_err_and}
use Rattle.tcertify.specs.Carried.{followed}
use Rattle.tcertify.specs.Contexts.{context_of}
use Rattle.tcertify.specs.Words.{reason_of}
use Rattle.tcertify.proofs.Completing.{completed, keeps_not, moves_not}
use Rattle.tcertify.proofs.node.Node.completes.Goals as goal

pub returns-in_err-may_move : goal.returns-in_err-may_move
returns-in_err-may_move c =
    let a = c.args.self.now in let ctx = context_of c.args.context.now in
    let p = err_from_is_err_and c.from_residual.result c.from_residual.ensures.1 in
    rw (p.1, p.2)
    (keeps_not a a c.args.process ctx c.args.instruction.now (followed ctx c.args.carried.now)
    (reason_of c.in_err-may_move.field-0.0) (c.in_err-may_move.ensures a))

pub returns-in_err-moves : goal.returns-in_err-moves
returns-in_err-moves c =
    let a = c.args.self.now in let ctx = context_of c.args.context.now in
    let p = err_from_is_err_and c.from_residual-in_err-moves.result c.from_residual-in_err-moves.ensures.1 in
    rw (p.1, p.2)
    (moves_not a c.moves.new.self c.args.process ctx c.args.instruction.now (followed ctx c.args.carried.now)
    c.in_err-moves.field-0.0 (c.in_ok-may_move.ensures a) c.in_err-moves.ensures)

pub returns : goal.returns
returns c =
    let a = c.args.self.now in let ctx = context_of c.args.context.now in let i = c.args.instruction.now in
    completed a c.moves.new.self c.args.process ctx i (followed ctx c.args.carried.now) _ _ c.requires
    (c.in_ok-may_move.ensures a) c.in_ok-moves.ensures _ refl c.follows.ensures
