use Rattle.tendings.proofs.Lines.{cut_at, shorter}
use Rattle.tendings.proofs.differing.cut_line.Goals as goal

pub returns-clause-lines : goal.returns-clause-lines
returns-clause-lines c = cut_at c.args.text.now c.line_length-end.result c.requires c.line_length-end.ensures.value

pub returns-clause-shorter : goal.returns-clause-shorter
returns-clause-shorter c = shorter c.args.text.now c.line_length-end.result c.requires c.line_length-end.ensures.value
