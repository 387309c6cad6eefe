use Rattle.std.proofs.Common.{ℕ, ◌+◌, ◌-◌, ◌*◌, ◌%◌, ◌^◌, ◌∙◌, ◌++◌, List, w32, drop, sym, ap, arith}
use Rattle.std.proofs.lemmas.Int.{to_z-of_z}
use Rattle.tcode.specs.Encoding.{chain}
use Rattle.tcode.proofs.Buffers.{put-next, chain-negative}
use Rattle.tcode.proofs.encoding.encode.Goals as goal

pub returns-clause-bytes : goal.returns-clause-bytes
returns-clause-bytes c =
    let old : List ℕ = c.args.buffer.now in
    let u : ℕ = c.cast_unsigned-complement.result in
    let code : ℕ = c.code_of-code.result in
    let back = to_z-of_z w32 c.args.operand c.ranges.operand in
    put-next c.put-at.new.buffer old _ c.put-at.result (16 * code + (15 - (2 ^ 32 - 1 - u) % 16)) c.put-at.ensures.bytes
    c.put-at.ensures.count (omega arith)
    ∙ ap (λ (bytes : List ℕ). bytes ++ drop (c.put-at.result + 1) old)
    (sym (chain-negative code u c.args.operand c.ranges.operand (rw back at c.if-operand-ge0.false)
    (rw back at c.cast_unsigned-complement.ensures))
    ∙ ap (λ (n : ℕ). chain 8 n c.args.operand) c.code_of-code.ensures.code)
