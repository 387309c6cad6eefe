use Rattle.std.proofs.Common.{◌≡◌, ◌∙◌, ◌+◌, ℕ, Bor, List, map, string_bytes}
use Rattle.tcheck.specs.Lines.{first_lines}
use Rattle.tcheck.proofs.Beginnings.{one_more_line, one_more_beginning}
use Rattle.tcheck.proofs.lines.beginnings.Goals as goal

pub loop-line-preserved : goal.loop-line-preserved
loop-line-preserved c =
    let k : ℕ = c.loop-line.line-index in
    let ls : List (List ℕ) = map (λ (s : Bor (List ℕ)). s.now) c.args.lines.now in
    let text : string_bytes c.push_str-in-loop-line.new.self ≡ first_lines ls (k + 1) =
    one_more_line (λ (s : Bor (List ℕ)). s.now) c.args.lines.now k _ (string_bytes c.loop-line.text)
    (string_bytes c.push_str.new.self) _ c.loop-line-test.true c.loop-line.invariant.0 c.in_ok-push_str.ensures.bytes
    c.in_ok-push_str-2.ensures.bytes in (
      text,
      one_more_beginning ls k c.loop-line.found.items _ _ c.as_str.result.now c.loop-line.invariant.1
          (c.as_str.ensures.value ∙ text) c.in_ok-beginning_of.ensures c.in_ok-push.ensures.items,
    )
