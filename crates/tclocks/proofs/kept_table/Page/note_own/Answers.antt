use Rattle.tclocks.proofs.Tabling.{noted-at}
use Rattle.tclocks.proofs.kept_table.Page.note_own.Goals as goal

pub returns-clause-noted : goal.returns-clause-noted
returns-clause-noted c h =
    noted-at c.self.inside.kept.items c.args.self.now c.args.index c.in-Some.kept.now c.note_own.new.self
    (record { mode = c.args.mode; step = c.args.step }) c.self.view_is c.in-Some.ensures.item.3.0 c.in-Some.ensures.value
    (c.note_own.ensures.noted h)
