use Rattle.std.proofs.Common.{◌≡◌, ℕ, ◌%◌, ap, ◌∙◌, [], ◌∷◌, true, Ok}
use Rattle.std.proofs.lemmas.Result.{err_from_is_err_and}
use Rattle.tcpu.specs.declared.registers.Next.TheVariants.{Go}
use Rattle.tcpu.specs.Operations.{operation_effect}
use Rattle.tcpu.specs.Outcomes.{pop, goes}
use Rattle.tprocesses.specs.Performing.{bytes_if}
use Rattle.tcertify.specs.Words.{reason_of, site_of}
use Rattle.tcertify.proofs.Running.{runs_given}
use Rattle.tcertify.proofs.Actions.{byte_writes_on, byte_writes_not}
use Rattle.tcertify.proofs.performing.store_byte.Goals as goal

pub returns-in_err-write_byte-clause-done : goal.returns-in_err-write_byte-clause-done
unfolding operation_effect
returns-in_err-write_byte-clause-done c = λ before.
    let r = c.args.registers.now in let w = c.args.words.now in
    let p = err_from_is_err_and c.from_residual.result c.from_residual.ensures.1 in
    let cell : c.known_cell-cell.result ∷ [] ≡ bytes_if c.args.known (r.b % 256 ∷ []) =
    c.known_cell-cell.ensures ∙ ap (λ (n : ℕ). bytes_if c.args.known (n % 256 ∷ [])) c.get.ensures in
    rw (p.1, p.2)
    (byte_writes_not (site_of w) (c.args.known ∷ []) w _ r.a r.b (goes (pop (pop r)))
    (reason_of c.in_err-write_byte.field-0.0) (rw cell at c.in_err-write_byte.ensures.change))

pub returns-clause-done : goal.returns-clause-done
unfolding operation_effect
returns-clause-done c = λ before.
    let r = c.args.registers.now in let w = c.args.words.now in
    let cell : c.known_cell-cell.result ∷ [] ≡ bytes_if c.args.known (r.b % 256 ∷ []) =
    c.known_cell-cell.ensures ∙ ap (λ (n : ℕ). bytes_if c.args.known (n % 256 ∷ [])) c.get.ensures in
    rw (c.pop-2.ensures, c.pop.ensures, c.goes.ensures.next, c.goes.ensures.known)
    (byte_writes_on (site_of w) (c.args.known ∷ []) w _ _ r.a r.b (goes (pop (pop r)))
    (Ok (record { value = (pop (pop r), Go); known = true }))
    (rw cell at c.in_ok-write_byte.ensures.change) (runs_given _ _))
