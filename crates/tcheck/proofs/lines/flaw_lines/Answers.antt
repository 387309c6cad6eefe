use Rattle.std.proofs.Common.{◌∙◌}
use Rattle.tcheck.proofs.Beginnings.{all_lines}
use Rattle.tcheck.proofs.lines.flaw_lines.Goals as goal

pub returns : goal.returns
returns c =
    c.new.ensures
    ∙ all_lines c.args.text.now c.args.flaws.now _ _ _ c.loop-flaw-test.false c.loop-flaw.invariant
