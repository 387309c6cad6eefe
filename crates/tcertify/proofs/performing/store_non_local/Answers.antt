use Rattle.std.proofs.Common.{[], ◌∷◌, true, Ok}
use Rattle.std.proofs.lemmas.Result.{err_from_is_err_and}
use Rattle.tword.specs.Words.{word_from}
use Rattle.tcpu.specs.declared.registers.Next.TheVariants.{Go}
use Rattle.tcpu.specs.Functions.{function_effect}
use Rattle.tcpu.specs.Outcomes.{pop, goes}
use Rattle.tcertify.specs.Words.{reason_of, site_of}
use Rattle.tcertify.proofs.Running.{runs_given}
use Rattle.tcertify.proofs.Actions.{writes_on, writes_not}
use Rattle.tcertify.proofs.performing.store_non_local.Goals as goal

pub returns-in_err-store-clause-done : goal.returns-in_err-store-clause-done
unfolding function_effect
returns-in_err-store-clause-done c =
    let r = c.args.registers.now in let w = c.args.words.now in
    let p = err_from_is_err_and c.from_residual.result c.from_residual.ensures.1 in
    rw (p.1, p.2)
    (writes_not (site_of w) (c.args.known ∷ []) w _ (word_from r.a c.args.operand) r.b (goes (pop (pop r)))
    (reason_of c.in_err-store.field-0.0) (rw c.word_address.ensures at c.in_err-store.ensures.change))

pub returns-clause-done : goal.returns-clause-done
unfolding function_effect
returns-clause-done c =
    let r = c.args.registers.now in let w = c.args.words.now in
    rw (c.pop-2.ensures, c.pop.ensures, c.goes.ensures.next, c.goes.ensures.known)
    (writes_on (site_of w) (c.args.known ∷ []) w _ _ (word_from r.a c.args.operand) r.b (goes (pop (pop r)))
    (Ok (record { value = (pop (pop r), Go); known = true }))
    (rw c.word_address.ensures at c.in_ok-store.ensures.change) (runs_given _ _))
