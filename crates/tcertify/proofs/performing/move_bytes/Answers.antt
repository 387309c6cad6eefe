use Rattle.std.proofs.lemmas.Result.{err_from_is_err_and}
use Rattle.tcertify.specs.Words.{reason_of}
use Rattle.tcertify.proofs.Copying.{moves_bytes, moves_not}
use Rattle.tcertify.proofs.performing.move_bytes.Goals as goal

pub returns-in_err-copy-clause-done : goal.returns-in_err-copy-clause-done
returns-in_err-copy-clause-done c = λ before known.
    let p = err_from_is_err_and c.from_residual.result c.from_residual.ensures.1 in
    rw (p.1, p.2)
    (moves_not c.args.words.now known c.args.registers.now before c.copy.new.self (reason_of c.in_err-copy.field-0.0)
    (rw c.get-size.ensures at c.in_err-copy.ensures.change))

pub returns-clause-done : goal.returns-clause-done
returns-clause-done c = λ before known.
    rw (c.pop-3.ensures, c.pop-2.ensures, c.pop.ensures, c.goes.ensures.next, c.goes.ensures.known)
    (moves_bytes c.args.words.now known c.args.registers.now before c.copy.new.self
    (rw c.get-size.ensures at c.in_ok-copy.ensures.change))
