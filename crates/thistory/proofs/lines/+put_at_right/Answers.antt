use Rattle.std.proofs.Common.{◌≡◌, ℕ, ◌+◌, ◌-◌, ◌/◌, ◌%◌, sym, ap, ◌∙◌, List, ◌++◌, decimal, arith}
use Rattle.std.proofs.lemmas.Fmt.{decimal_digit, decimal_step}
use Rattle.tfiles.proofs.Told.{tells_then, tells_as}
use Rattle.thistory.specs.Lines.{at_right}
use Rattle.thistory.proofs.Numbers.{at_right-first, at_right-more}
use Rattle.thistory.proofs.lines.+put_at_right.Goals as goal

pub returns-then-number-lt10 : goal.returns-then-number-lt10
returns-then-number-lt10 g t c =
    tells_as (tells_then c.put_blanks.ensures c.put_decimal.ensures)
    (at_right-first c.args.width c.saturating_sub-left.result c.args.number (omega arith) (omega arith))

pub returns-else-number-lt10 : goal.returns-else-number-lt10
returns-else-number-lt10 g t c =
    let left : c.saturating_sub-left.result ≡ c.args.width - 1 = omega arith in
    tells_as (tells_then c.put_at_right.ensures c.put_decimal-else-number-lt10.ensures)
    (ap (λ (d : List ℕ). at_right c.saturating_sub-left.result (decimal (c.args.number / 10)) ++ d)
    (decimal_digit (c.args.number % 10) (omega arith))
    ∙ at_right-more c.args.width c.saturating_sub-left.result (48 + c.args.number % 10)
    (decimal (c.args.number / 10)) left
    ∙ ap (λ (d : List ℕ). at_right c.args.width d) (sym (decimal_step c.args.number (omega arith) (omega arith))))
