use Rattle.std.proofs.Common.{◌≡◌, ℕ, ◌+◌, ◌%◌, ◌^◌, ◌∙◌, pos, sym, ap, arith, rules}
use Rattle.tword.specs.declared.breaks.Break.TheVariants.{LongPrefix}
use Rattle.tword.specs.Memories.{NodeMemory}
use Rattle.tword.specs.Actions.{run_from, value_of, breaks}
use Rattle.tword.specs.Words.{plus}
use Rattle.tcode.specs.Decoding.{fetch}
use Rattle.tcode.proofs.StoreSteps.{ended_at, fetched-breaks, fetched-ends, fetched-goes, prefix-goes}
use Rattle.tcode.proofs.decoding.decode_prefixed.Goals as goal

pub returns-in_err-byte : goal.returns-in_err-byte
returns-in_err-byte c =
    let memory : NodeMemory = c.args.memory.now in
    let step =
    prefix-goes memory.kind memory.bytes c.args.marks.now c.args.iptr c.args.prefix c.from.result
    c.prefixed-value.result c.plus-address.result c.requires.fetched c.requires.prefix c.from.ensures
    c.prefixed-value.type_inv c.prefixed-value.ensures (c.plus-address.ensures ∙ ap (plus c.args.iptr) c.new.ensures)
    ∙ fetched-breaks memory.kind memory.bytes c.args.marks.now memory.bytes 1 c.plus-address.result
    c.prefixed-value.result (omega arith) c.in_err-byte.field-0.0 (sym c.read_byte.ensures ∙ c.in_err-byte.was) in
    rw step (search rules)

pub returns-in-Some : goal.returns-in-Some
returns-in-Some c =
    let memory : NodeMemory = c.args.memory.now in
    let d : ℕ = (c.prefixed-value.result + c.from-2.result) % 2 ^ 32 in
    let sum : d ≡ (c.prefixed-value.result + c.in_ok-byte.byte % 16) % 2 ^ 32 =
    ap (λ (n : ℕ). (c.prefixed-value.result + n) % 2 ^ 32) c.from-2.ensures in
    let step =
    prefix-goes memory.kind memory.bytes c.args.marks.now c.args.iptr c.args.prefix c.from.result
    c.prefixed-value.result c.plus-address.result c.requires.fetched c.requires.prefix c.from.ensures
    c.prefixed-value.type_inv c.prefixed-value.ensures (c.plus-address.ensures ∙ ap (plus c.args.iptr) c.new.ensures)
    ∙ fetched-ends memory.kind memory.bytes c.args.marks.now memory.bytes 1 c.plus-address.result
    c.prefixed-value.result (omega arith) c.in_ok-byte.byte d (omega arith) (sym c.read_byte.ensures ∙ c.in_ok-byte.was)
    sum c.in-Some.function (sym c.function_of.ensures ∙ c.in-Some.is) in
    c.ok_or.ensures.value
    ∙ ended_at memory.kind memory.bytes c.args.marks.now memory.bytes (λ _. breaks LongPrefix)
    c.in-Some.function d 2 c.ended.result
    (rw (ap (λ (m : NodeMemory). m.kind) c.memory.view_is) at c.ended.ensures)
    ∙ sym (ap value_of step)

pub returns-in-None : goal.returns-in-None
returns-in-None c =
    let memory : NodeMemory = c.args.memory.now in
    let d : ℕ = (c.prefixed-value.result + c.from-2.result) % 2 ^ 32 in
    let sum : d ≡ (c.prefixed-value.result + c.in_ok-byte.byte % 16) % 2 ^ 32 =
    ap (λ (n : ℕ). (c.prefixed-value.result + n) % 2 ^ 32) c.from-2.ensures in
    let behind : plus c.plus-address.result 1 ≡ c.plus-behind.result =
    sym (c.plus-behind.ensures ∙ ap (plus c.plus-address.result) c.new-in-None.ensures) in
    let step =
    prefix-goes memory.kind memory.bytes c.args.marks.now c.args.iptr c.args.prefix c.from.result
    c.prefixed-value.result c.plus-address.result c.requires.fetched c.requires.prefix c.from.ensures
    c.prefixed-value.type_inv c.prefixed-value.ensures (c.plus-address.ensures ∙ ap (plus c.args.iptr) c.new.ensures)
    ∙ fetched-goes memory.kind memory.bytes c.args.marks.now memory.bytes 1 c.plus-address.result
    c.prefixed-value.result (omega arith) c.in_ok-byte.byte d (omega arith) (sym c.read_byte.ensures ∙ c.in_ok-byte.was)
    sum c.prefixed-longer.result c.prefixed-longer.type_inv (sym c.function_of.ensures ∙ c.in-None.is)
    c.prefixed-longer.ensures
    ∙ ap (λ (a : ℕ). run_from (fetch memory.kind 14 2 a (pos c.prefixed-longer.result)) memory.bytes
    c.args.marks.now memory.bytes) behind in
    c.decode_chain.ensures ∙ sym (ap value_of step)
