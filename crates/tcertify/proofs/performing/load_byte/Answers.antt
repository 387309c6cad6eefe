use Rattle.std.proofs.Common.{ℕ, ap, [], unwrap_or}
use Rattle.std.proofs.lemmas.Result.{err_from_is_err_and}
use Rattle.tcpu.specs.declared.registers.Next.TheVariants.{Go}
use Rattle.tcpu.specs.Operations.{operation_effect}
use Rattle.tcpu.specs.Outcomes.{goes, one_to}
use Rattle.tcertify.specs.Words.{reason_of, site_of}
use Rattle.tcertify.proofs.Actions.{byte_read_alone, byte_not_read, number_of_byte}
use Rattle.tcertify.proofs.performing.load_byte.Goals as goal

pub returns-in_err-byte-clause-done : goal.returns-in_err-byte-clause-done
unfolding operation_effect
returns-in_err-byte-clause-done c = λ before.
    let r = c.args.registers.now in let w = c.args.words.now in
    let p = err_from_is_err_and c.from_residual.result c.from_residual.ensures.1 in
    rw (p.1, p.2)
    (byte_not_read (site_of w) [] w _ r.a (λ (v : ℕ). goes (one_to v r)) (reason_of c.in_err-byte.field-0.0)
    c.in_err-byte.ensures.change)

pub returns-clause-done : goal.returns-clause-done
unfolding operation_effect
returns-clause-done c = λ before.
    let r = c.args.registers.now in let w = c.args.words.now in
    let byte = c.in_ok-byte.byte in
    rw (
      c.new-value.ensures,
      c.from.ensures,
      c.unwrap_or-lowest.ensures,
      c.goes.ensures.next,
      c.goes.ensures.known,
      c.is_some.ensures,
    )
    (byte_read_alone (site_of w) [] w _ r.a (λ (v : ℕ). goes (one_to v r)) byte (one_to (unwrap_or byte 0) r, Go)
    c.in_ok-byte.ensures.change (ap (λ (v : ℕ). goes (one_to v r)) (number_of_byte byte)))
