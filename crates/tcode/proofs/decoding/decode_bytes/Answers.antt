use Rattle.std.proofs.Common.{◌≡◌, ℕ, ◌+◌, ◌%◌, ◌^◌, ◌∙◌, get_or, Err, sym, ap, arith}
use Rattle.tcode.specs.declared.instruction.DecodeFault.TheVariants.{LongPrefix}
use Rattle.tcode.proofs.ByteSteps.{bytes-end, ended_in, step-ends, step-goes}
use Rattle.tcode.proofs.decoding.decode_bytes.Goals as goal

pub returns-then-bytes-had : goal.returns-then-bytes-had
returns-then-bytes-had c =
    sym (c.loop-had.invariant
    ∙ bytes-end c.args.kind c.args.bytes.now c.loop-had.had c.loop-had.value (omega arith) (omega arith))

pub returns-in-Some : goal.returns-in-Some
returns-in-Some c =
    let v : ℕ = c.loop-had.value in
    let sum : (v + c.from.result) % 2 ^ 32 ≡ (v + get_or c.args.bytes.now c.loop-had.had 0 % 16) % 2 ^ 32 =
    ap (λ (n : ℕ). (v + n) % 2 ^ 32) c.from.ensures in
    c.ok_or.ensures.value
    ∙ ended_in c.args.kind (λ _. Err LongPrefix) c.in-Some.function ((v + c.from.result) % 2 ^ 32) (c.loop-had.had + 1)
    c.ended.result c.ended.ensures
    ∙ sym (c.loop-had.invariant
    ∙ step-ends c.args.kind c.args.bytes.now c.loop-had.had v _ (omega arith) (omega arith)
    (omega arith) sum c.in-Some.function
    (sym c.function_of.ensures ∙ c.in-Some.is))

pub loop-had-preserved : goal.loop-had-preserved
loop-had-preserved c =
    let v : ℕ = c.loop-had.value in
    let sum : (v + c.from.result) % 2 ^ 32 ≡ (v + get_or c.args.bytes.now c.loop-had.had 0 % 16) % 2 ^ 32 =
    ap (λ (n : ℕ). (v + n) % 2 ^ 32) c.from.ensures in
    c.loop-had.invariant
    ∙ step-goes c.args.kind c.args.bytes.now c.loop-had.had v _ (omega arith) (omega arith) (omega arith) sum
    c.prefixed-value.result c.prefixed-value.type_inv
    (sym c.function_of.ensures ∙ c.in_default.is) (sym c.prefixed-value.ensures)
