use Rattle.std.proofs.Common.{ℕ, refl, sym, ap, [], Some, Ok, Err}
use Rattle.std.proofs.lemmas.Result.{err_from_is_err_and}
use Rattle.tword.specs.declared.breaks.Break.{Break}
use Rattle.tword.specs.Actions.{answer, breaks}
use Rattle.tcode.specs.declared.instruction.Instruction.{Instruction}
use Rattle.tcode.specs.Decoding.{decode}
use Rattle.tprocesses.specs.Parts.{Breaks, Part}
use Rattle.tcertify.specs.declared.stored.Words.{Words}
use Rattle.tcertify.specs.Instructions.{decoded}
use Rattle.tcertify.specs.Words.{reason_of, site_of}
use Rattle.tcertify.proofs.Chains.{ended_by, not_known, not_read, read_behind, which}
use Rattle.tcertify.proofs.Fetching.{ended}
use Rattle.tcertify.proofs.Running.{runs_given, runs_stopping}
use Rattle.tcertify.proofs.decoding.decode.Goals as goal

-- what the bytes decide
abbrev part : Words → ℕ → Part Instruction
part w iptr = decoded (site_of w) iptr

pub returns-in_err-first-clause-done : goal.returns-in_err-first-clause-done
unfolding decode
returns-in_err-first-clause-done c =
    let w : Words = c.args.words.now in
    let p = err_from_is_err_and c.from_residual.result c.from_residual.ensures.1 in
    rw (p.1, p.2)
    (not_read (part w c.args.iptr) w w _ c.args.iptr [] refl (λ u r h. h) (reason_of c.in_err-first.field-0.0)
    c.in_err-first.ensures.change)

pub returns-in_default-clause-done : goal.returns-in_default-clause-done
unfolding decode
returns-in_default-clause-done c =
    let w : Words = c.args.words.now in
    not_known (part w c.args.iptr) w w _ c.args.iptr [] refl (λ u r h. h)
    (rw c.in_default.is at c.in_ok-first.ensures.change)

pub returns-in_err-instruction-clause-done : goal.returns-in_err-instruction-clause-done
unfolding decode
returns-in_err-instruction-clause-done c =
    let w : Words = c.args.words.now in let v : Words = c.read_byte.new.self in
    let b : Break = c.in_err-instruction.field-0.0 in
    let p =
    err_from_is_err_and c.from_residual-in_err-instruction.result c.from_residual-in_err-instruction.ensures.1 in
    rw (p.1, p.2)
    (ended_by (part w c.args.iptr) w w v c.args.iptr [] refl (λ u r h. h) c.in_ok-first.ensures.site c.in-Some.first
    (breaks b) (Err (Breaks b)) (rw c.in-Some.is at c.in_ok-first.ensures.change)
    (ap (ended v.kind) (sym c.in_err-instruction.ensures)) (runs_stopping (Breaks b) v))

pub returns-in-Some-2-clause-done : goal.returns-in-Some-2-clause-done
unfolding decode
returns-in-Some-2-clause-done c =
    let w : Words = c.args.words.now in let v : Words = c.read_byte.new.self in
    let i : Instruction = c.in-Some-2.instruction in
    ended_by (part w c.args.iptr) w w v c.args.iptr [] refl (λ u r h. h) c.in_ok-first.ensures.site c.in-Some.first
    (answer i) (Ok i) (rw c.in-Some.is at c.in_ok-first.ensures.change)
    (ap (ended v.kind) (sym (which c.in_ok-instruction.field-0 (Some i) _ c.in-Some-2.is c.in_ok-instruction.ensures)))
    (runs_given i v)

pub returns-in-None-clause-done : goal.returns-in-None-clause-done
unfolding decode
returns-in-None-clause-done c =
    let w : Words = c.args.words.now in let v : Words = c.read_byte.new.self in
    read_behind (part w c.args.iptr) w w v c.args.iptr [] refl (λ u r h. h) c.in_ok-first.ensures.site c.in-Some.first
    (rw c.in-Some.is at c.in_ok-first.ensures.change) _ _ c.decode_prefixed.ensures.done
