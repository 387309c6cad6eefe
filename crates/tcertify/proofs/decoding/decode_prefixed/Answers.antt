use Rattle.std.proofs.Common.{◌≡◌, ℕ, ◌+◌, ◌<◌, sym, subst, refl, ap, ◌∙◌, arith, List, [], ◌∷◌, length, length-set}
use Rattle.std.proofs.Common.{length-take, take, set, Some, None, Ok, Err, pos}
use Rattle.std.proofs.lemmas.Result.{err_from_is_err_and}
use Rattle.tword.specs.declared.breaks.Break.{Break}
use Rattle.tword.specs.Actions.{answer, breaks}
use Rattle.tword.specs.Words.{plus}
use Rattle.tcode.specs.declared.instruction.Instruction.{Instruction}
use Rattle.tcode.specs.Decoding.{decode, fetch_in}
use Rattle.tprocesses.specs.Parts.{Breaks, Part}
use Rattle.tcertify.specs.declared.stored.Words.{Words}
use Rattle.tcertify.specs.Instructions.{decoded_behind}
use Rattle.tcertify.specs.Words.{Runs, reason_of, site_of}
use Rattle.tcertify.proofs.Chains.{ended_by, go_on, not_known, not_read, told_by, which, whole, with_byte}
use Rattle.tcertify.proofs.Fetching.{after, ended, fetch_after, short}
use Rattle.tcertify.proofs.Running.{runs_given, runs_stopping}
use Rattle.tcertify.proofs.decoding.decode_prefixed.Goals as goal

-- what the bytes decide
abbrev part : Words → ℕ → ℕ → Part Instruction
part w iptr first = decoded_behind (site_of w) iptr first

pub loop-had-init : goal.loop-had-init
unfolding decode
loop-had-init c =
    let w : Words = c.args.words.now in let b : ℕ = c.args.first in
    let behind : c.plus-address.result ≡ plus c.args.iptr 1 =
    c.plus-address.ensures ∙ ap (plus c.args.iptr) c.new.ensures in
    record {
      within = whole (fetch_in w.kind 16 0 (b ∷ []) (pos 0)) (sym c.requires);
      leads_on = λ v r h.
          subst (λ (n : ℕ). Runs (after (site_of w) (fetch_after w.kind (b ∷ []) 16 0 n (pos 0))) w r v) behind h;
      site = refl;
      sized = refl;
    }

pub returns-in_err-byte-clause-done : goal.returns-in_err-byte-clause-done
returns-in_err-byte-clause-done c =
    let p = err_from_is_err_and c.from_residual.result c.from_residual.ensures.1 in
    rw (p.1, p.2)
    (not_read (part c.args.words.now c.args.iptr c.args.first) c.args.words.now c.loop-had.words _ c.loop-had.address
    (take c.loop-had.had c.loop-had.bytes) c.loop-had.invariant.within c.loop-had.invariant.leads_on
    (reason_of c.in_err-byte.field-0.0) c.in_err-byte.ensures.change)

pub returns-in_default-clause-done : goal.returns-in_default-clause-done
returns-in_default-clause-done c =
    not_known (part c.args.words.now c.args.iptr c.args.first) c.args.words.now c.loop-had.words _ c.loop-had.address
    (take c.loop-had.had c.loop-had.bytes) c.loop-had.invariant.within c.loop-had.invariant.leads_on
    (rw c.in_default.is at c.in_ok-byte.ensures.change)

pub returns-in_err-instruction-clause-done : goal.returns-in_err-instruction-clause-done
returns-in_err-instruction-clause-done c =
    let p =
    err_from_is_err_and c.from_residual-in_err-instruction.result c.from_residual-in_err-instruction.ensures.1 in
    let v : Words = c.read_byte.new.self in let b : Break = c.in_err-instruction.field-0.0 in
    let room : c.loop-had.had < length c.loop-had.bytes = omega (arith, c.loop-had.invariant.sized) in
    rw (p.1, p.2)
    (ended_by (part c.args.words.now c.args.iptr c.args.first) c.args.words.now c.loop-had.words v c.loop-had.address
    (take c.loop-had.had c.loop-had.bytes) c.loop-had.invariant.within c.loop-had.invariant.leads_on
    c.in_ok-byte.ensures.site c.in-Some.byte (breaks b) (Err (Breaks b))
    (rw c.in-Some.is at c.in_ok-byte.ensures.change)
    (ap (ended v.kind)
    (told_by v.kind c.loop-had.bytes c.loop-had.had c.in-Some.byte (Err b) room c.in_err-instruction.ensures))
    (runs_stopping (Breaks b) v))

pub returns-in-Some-2-clause-done : goal.returns-in-Some-2-clause-done
returns-in-Some-2-clause-done c =
    let v : Words = c.read_byte.new.self in let i : Instruction = c.in-Some-2.instruction in
    let room : c.loop-had.had < length c.loop-had.bytes = omega (arith, c.loop-had.invariant.sized) in
    ended_by (part c.args.words.now c.args.iptr c.args.first) c.args.words.now c.loop-had.words v c.loop-had.address
    (take c.loop-had.had c.loop-had.bytes) c.loop-had.invariant.within c.loop-had.invariant.leads_on
    c.in_ok-byte.ensures.site c.in-Some.byte (answer i) (Ok i) (rw c.in-Some.is at c.in_ok-byte.ensures.change)
    (ap (ended v.kind)
    (told_by v.kind c.loop-had.bytes c.loop-had.had c.in-Some.byte (Ok (Some i)) room
    (which c.in_ok-instruction.field-0 (Some i) _ c.in-Some-2.is c.in_ok-instruction.ensures)))
    (runs_given i v)

pub loop-had-preserved : goal.loop-had-preserved
loop-had-preserved c =
    let v : Words = c.read_byte.new.self in let a : ℕ = c.loop-had.address in
    let had : ℕ = c.loop-had.had in let bytes : List ℕ = c.loop-had.bytes in
    let b : ℕ = c.in-Some.byte in
    let room : had < length bytes = omega (arith, c.loop-had.invariant.sized) in
    let behind : c.plus-address-in-loop-had.result ≡ plus a 1 =
    c.plus-address-in-loop-had.ensures ∙ ap (plus a) c.new-in-loop-had.ensures in
    record {
      within = whole (fetch_in v.kind 16 0 (take (had + 1) (set bytes had b)) (pos 0))
          (which c.in_ok-instruction.field-0 None _ c.in_default-2.is c.in_ok-instruction.ensures);
      leads_on = go_on (part c.args.words.now c.args.iptr c.args.first) c.args.words.now c.loop-had.words v a
          (take had bytes) c.loop-had.invariant.within c.loop-had.invariant.leads_on c.in_ok-byte.ensures.site b
          c.plus-address-in-loop-had.result (take (had + 1) (set bytes had b))
          (rw c.in-Some.is at c.in_ok-byte.ensures.change)
          (sym (with_byte bytes had b room)) (sym behind);
      site = c.in_ok-byte.ensures.site ∙ c.loop-had.invariant.site;
      sized = length-set bytes had b ∙ c.loop-had.invariant.sized;
    }

pub returns-clause-done : goal.returns-clause-done
returns-clause-done c =
    let all = short c.loop-had.words.kind (take c.loop-had.had c.loop-had.bytes) 16 0 (pos 0)
    c.loop-had.invariant.within in
    absurd (omega (arith, all, length-take c.loop-had.had c.loop-had.bytes, c.loop-had.invariant.sized))
