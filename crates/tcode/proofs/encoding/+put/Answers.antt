use Rattle.std.proofs.Common.{ℕ, ◌+◌, ◌-◌, ◌*◌, ◌/◌, ◌%◌, pos, ◌∙◌, ◌++◌, [], List, drop, sym, ap, arith}
use Rattle.tcode.specs.Chains.{pfix}
use Rattle.tcode.specs.Encoding.{chain}
use Rattle.tcode.proofs.Buffers.{put-next, chain-one, chain-more}
use Rattle.tcode.proofs.encoding.+put.Goals as goal
use Rattle.tcode.proofs.encoding.+put.Goals.{then-number-lt16, else-number-lt16}

pub returns-clause-bytes : goal.returns-clause-bytes
returns-clause-bytes t c =
    let old : List ℕ = c.args.buffer.now in
    let last : ℕ = 16 * c.args.code + c.args.number % 16 in
    elim c.if-number-lt16.branch [
      | then-number-lt16 w ↦
          put-next c.if-number-lt16.buffer old [] c.if-number-lt16.at last (w.buffer-is
          ∙ ap (λ (n : ℕ). drop n old) (sym w.at-is)) (omega arith) (omega arith)
          ∙ ap (λ (bytes : List ℕ). bytes ++ drop (c.if-number-lt16.at + 1) old)
          (sym (chain-one c.args.most c.args.code c.args.number c.requires.some (omega arith)))
      | else-number-lt16 w ↦
          put-next c.if-number-lt16.buffer old _ c.if-number-lt16.at last (w.buffer-is ∙ w.put-at.ensures.bytes
          ∙ ap (λ (n : ℕ). chain (c.args.most - 1) pfix (pos (c.args.number / 16)) ++ drop n old) (sym w.at-is))
          (w.at-is ∙ w.put-at.ensures.count) (omega arith)
          ∙ ap (λ (bytes : List ℕ). bytes ++ drop (c.if-number-lt16.at + 1) old)
          (sym (chain-more c.args.most c.args.code c.args.number c.requires.some (omega arith)))
    ]
