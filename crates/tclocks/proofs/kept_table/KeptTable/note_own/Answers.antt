use Rattle.std.proofs.Common.{arith}
use Rattle.tclocks.proofs.Tabling.{has-page, others-noted, table-pages, table-noted, table-same}
use Rattle.tclocks.proofs.kept_table.KeptTable.note_own.Goals as goal

pub index_mut-requires : goal.index_mut-requires
index_mut-requires c =
    omega (arith, (has-page _ _ _ _ c.self.invariant c.self.view_is c.requires.place).1, c.self.inside.pages.ok.0)

pub invariant_of-self : goal.invariant_of-self
invariant_of-self c =
    table-pages c.self.inside.pages.items c.self.inside.count c.args.place c.args.self.now c.index_mut.result.now
    c.note_own.new.self c.self.invariant c.self.view_is c.requires.place c.index_mut.ensures.value
    (others-noted c.note_own.result _ _ _ _ c.note_own.ensures.noted c.note_own.ensures.kept)

pub returns-clause-noted : goal.returns-clause-noted
returns-clause-noted c h =
    table-noted c.self.inside.pages.items c.self.inside.count c.args.place c.args.self.now c.index_mut.result.now
    c.note_own.new.self c.self.invariant c.self.view_is c.requires.place c.index_mut.ensures.value
    (others-noted c.note_own.result _ _ _ _ c.note_own.ensures.noted c.note_own.ensures.kept)
    (record { mode = c.args.mode; step = c.args.step }) (c.note_own.ensures.noted h)

pub returns-clause-kept : goal.returns-clause-kept
returns-clause-kept c h =
    table-same c.self.inside.pages.items c.self.inside.count c.args.place c.args.self.now c.index_mut.result.now
    c.note_own.new.self c.self.view_is c.index_mut.ensures.value (c.note_own.ensures.kept h)
