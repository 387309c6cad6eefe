use Rattle.std.proofs.Common.{◌≤◌}
use Rattle.tcode.proofs.Tables.{each}
use Rattle.tcode.proofs.code_table.CodeTable.forget.Goals as goal

pub returns-else-not-lies_apart : goal.returns-else-not-lies_apart
returns-else-not-lies_apart c = λ k e g some.
    let old = c.args.self.now in (
      g,
      each (λ a. (old.low ≤ a) × (a ≤ old.last)) _ e (λ a h. c.lies_apart.ensures c.if-not-lies_apart.false a h.0 h.1)
          (old.placed k e g).1,
    )
