use Rattle.std.proofs.Common.{◌≡◌, ℕ, ◌+◌, ◌-◌, ◌%◌, ◌^◌, ◌∙◌, pos, sym, ap, arith, rules}
use Rattle.tword.specs.declared.breaks.Break.TheVariants.{LongPrefix}
use Rattle.tword.specs.Memories.{NodeMemory}
use Rattle.tword.specs.Actions.{run_from, value_of, breaks}
use Rattle.tword.specs.Words.{plus}
use Rattle.tcode.specs.Decoding.{fetch}
use Rattle.tcode.proofs.StoreSteps.{ended_at, fetched-breaks, fetched-ends, fetched-goes}
use Rattle.tcode.proofs.decoding.decode_chain.Goals as goal

pub returns-in_err-byte : goal.returns-in_err-byte
returns-in_err-byte c =
    let memory : NodeMemory = c.args.memory.now in
    let step = c.loop-had.invariant
    ∙ fetched-breaks memory.kind memory.bytes c.args.marks.now memory.bytes c.loop-had.had
    c.loop-had.address
    c.loop-had.value (omega arith) c.in_err-byte.field-0.0 (sym c.read_byte.ensures ∙ c.in_err-byte.was) in
    rw step (search rules)

pub returns-in-Some : goal.returns-in-Some
returns-in-Some c =
    let memory : NodeMemory = c.args.memory.now in
    let d : ℕ = (c.loop-had.value + c.from.result) % 2 ^ 32 in
    let sum : d ≡ (c.loop-had.value + c.in_ok-byte.byte % 16) % 2 ^ 32 =
    ap (λ (n : ℕ). (c.loop-had.value + n) % 2 ^ 32) c.from.ensures in
    let step = c.loop-had.invariant
    ∙ fetched-ends memory.kind memory.bytes c.args.marks.now memory.bytes c.loop-had.had
    c.loop-had.address
    c.loop-had.value (omega arith) c.in_ok-byte.byte d (omega arith) (sym c.read_byte.ensures ∙ c.in_ok-byte.was) sum
    c.in-Some.function (sym c.function_of.ensures ∙ c.in-Some.is) in
    c.ok_or.ensures.value
    ∙ ended_at memory.kind memory.bytes c.args.marks.now memory.bytes (λ _. breaks LongPrefix)
    c.in-Some.function d (c.loop-had.had + 1) c.ended.result
    (rw (ap (λ (m : NodeMemory). m.kind) c.memory.view_is) at c.ended.ensures)
    ∙ sym (ap value_of step)

pub loop-had-preserved : goal.loop-had-preserved
loop-had-preserved c =
    let memory : NodeMemory = c.args.memory.now in
    let d : ℕ = (c.loop-had.value + c.from.result) % 2 ^ 32 in
    let sum : d ≡ (c.loop-had.value + c.in_ok-byte.byte % 16) % 2 ^ 32 =
    ap (λ (n : ℕ). (c.loop-had.value + n) % 2 ^ 32) c.from.ensures in
    let behind : plus c.loop-had.address 1 ≡ c.plus-address.result =
    sym (c.plus-address.ensures ∙ ap (plus c.loop-had.address) c.new.ensures) in
    c.loop-had.invariant
    ∙ fetched-goes memory.kind memory.bytes c.args.marks.now memory.bytes c.loop-had.had
    c.loop-had.address
    c.loop-had.value (omega arith) c.in_ok-byte.byte d (omega arith) (sym c.read_byte.ensures ∙ c.in_ok-byte.was) sum
    c.prefixed-value.result c.prefixed-value.type_inv (sym c.function_of.ensures ∙ c.in_default.is)
    c.prefixed-value.ensures
    ∙ ap (λ (a : ℕ). run_from (fetch memory.kind (16 - (c.loop-had.had + 1)) (c.loop-had.had + 1) a
    (pos c.prefixed-value.result)) memory.bytes c.args.marks.now memory.bytes) behind
