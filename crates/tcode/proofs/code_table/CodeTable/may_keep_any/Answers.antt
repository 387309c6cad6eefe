use Rattle.std.proofs.Common.{◌≡◌, ◌∙◌, sym, true, false, arith}
use Rattle.std.proofs.lemmas.Bool.{le-leb}
use Rattle.tcode.proofs.code_table.CodeTable.may_keep_any.Goals as goal

apart : true ≡ false → ⊥
apart e = cc

pub returns : goal.returns
returns c = λ none span k e g some.
    let bounds = (c.args.self.now.placed k e g).1.first some in
    absurd (apart (sym (le-leb c.args.self.now.low c.args.self.now.last (omega (arith, bounds.0, bounds.1))) ∙ none))
