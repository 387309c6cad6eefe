use Rattle.std.proofs.lemmas.Result.{err_from_is_err_and}
use Rattle.tcertify.specs.Words.{reason_of}
use Rattle.tcertify.proofs.Calls.{calls, first_not, second_not, third_not, last_not}
use Rattle.tcertify.proofs.performing.call.Goals as goal

pub returns-in_err-store-clause-done : goal.returns-in_err-store-clause-done
returns-in_err-store-clause-done c =
    let p = err_from_is_err_and c.from_residual.result c.from_residual.ensures.1 in
    rw (p.1, p.2)
    (first_not c.args.words.now c.args.a_known c.args.b_known c.args.c_known c.args.operand c.args.registers.now _
    (reason_of c.in_err-store.field-0.0) (rw c.below-workspace.ensures at c.in_err-store.ensures.change))

pub returns-in_err-store-2-clause-done : goal.returns-in_err-store-2-clause-done
returns-in_err-store-2-clause-done c =
    let p = err_from_is_err_and c.from_residual-in_err-store-2.result c.from_residual-in_err-store-2.ensures.1 in
    rw (p.1, p.2)
    (second_not c.args.words.now c.args.a_known c.args.b_known c.args.c_known c.args.operand c.args.registers.now _
    c.in_ok-store.ensures.site (rw c.below-workspace.ensures at c.in_ok-store.ensures.change) _
    (reason_of c.in_err-store-2.field-0.0) (rw c.below.ensures at c.in_err-store-2.ensures.change))

pub returns-in_err-store-3-clause-done : goal.returns-in_err-store-3-clause-done
returns-in_err-store-3-clause-done c =
    let p = err_from_is_err_and c.from_residual-in_err-store-3.result c.from_residual-in_err-store-3.ensures.1 in
    rw (p.1, p.2)
    (third_not c.args.words.now c.args.a_known c.args.b_known c.args.c_known c.args.operand c.args.registers.now _
    c.in_ok-store.ensures.site (rw c.below-workspace.ensures at c.in_ok-store.ensures.change) _
    c.in_ok-store-2.ensures.site (rw c.below.ensures at c.in_ok-store-2.ensures.change) _
    (reason_of c.in_err-store-3.field-0.0) (rw c.below-2.ensures at c.in_err-store-3.ensures.change))

pub returns-in_err-store-4-clause-done : goal.returns-in_err-store-4-clause-done
returns-in_err-store-4-clause-done c =
    let p = err_from_is_err_and c.from_residual-in_err-store-4.result c.from_residual-in_err-store-4.ensures.1 in
    rw (p.1, p.2)
    (last_not c.args.words.now c.args.a_known c.args.b_known c.args.c_known c.args.operand c.args.registers.now _
    c.in_ok-store.ensures.site (rw c.below-workspace.ensures at c.in_ok-store.ensures.change) _
    c.in_ok-store-2.ensures.site (rw c.below.ensures at c.in_ok-store-2.ensures.change) _
    c.in_ok-store-3.ensures.site (rw c.below-2.ensures at c.in_ok-store-3.ensures.change) _
    (reason_of c.in_err-store-4.field-0.0) (rw c.below-3.ensures at c.in_err-store-4.ensures.change))

pub returns-clause-done : goal.returns-clause-done
returns-clause-done c =
    rw (c.plus-target.ensures, c.below-workspace.ensures, c.goes.ensures.next, c.goes.ensures.known)
    (calls c.args.words.now c.args.a_known c.args.b_known c.args.c_known c.args.operand c.args.registers.now _
    c.in_ok-store.ensures.site (rw c.below-workspace.ensures at c.in_ok-store.ensures.change) _
    c.in_ok-store-2.ensures.site (rw c.below.ensures at c.in_ok-store-2.ensures.change) _
    c.in_ok-store-3.ensures.site (rw c.below-2.ensures at c.in_ok-store-3.ensures.change) _
    (rw c.below-3.ensures at c.in_ok-store-4.ensures.change))
