use Rattle.std.proofs.Common.{refl, sym, ◌∙◌, pos}
use Rattle.std.proofs.lemmas.Result.{err_from_is_err_and}
use Rattle.tcertify.proofs.NodeLives.{adds_there, moves_half, moves_not, moves_so}
use Rattle.tcertify.proofs.NodeRunning.{number_stays}
use Rattle.tcertify.proofs.node.Node.moves.Goals as goal

pub returns-then-get : goal.returns-then-get
returns-then-get c =
    let a = c.args.self.now in
    moves_not a a c.args.from c.args.to (sym c.get.ensures ∙ c.if-get.true ∙ c.get-2.ensures)

pub returns-in_err-adds_life : goal.returns-in_err-adds_life
returns-in_err-adds_life c =
    let a = c.args.self.now in
    let p = err_from_is_err_and c.from_residual.result c.from_residual.ensures.1 in
    rw (p.1, p.2)
    (moves_half a c.adds_life.new.self c.args.from c.args.to c.in_err-adds_life.field-0.0
    (λ e. c.if-get.false (c.get.ensures ∙ e ∙ sym c.get-2.ensures)) c.in_err-adds_life.ensures)

pub returns : goal.returns
returns c =
    let a = c.args.self.now in let b = c.adds_life.new.self in
    moves_so a b c.args.from c.args.to c.adds_life-2.new.self c.adds_life-2.result
    (λ e. c.if-get.false (c.get.ensures ∙ e ∙ sym c.get-2.ensures)) c.in_ok-adds_life.ensures
    (adds_there b c.adds_life-2.new.self c.adds_life-2.result b.words.number a.words.number c.args.to c.args.to (pos 1)
    (pos 1) (sym (number_stays a b c.in_ok-adds_life.ensures.grows)) refl refl c.adds_life-2.ensures)
