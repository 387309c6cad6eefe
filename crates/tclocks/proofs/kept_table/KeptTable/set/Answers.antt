use Rattle.std.proofs.Common.{arith}
use Rattle.tclocks.proofs.Tabling.{has-page, others-set, table-pages, table-set, table-same, on-err}
use Rattle.tclocks.proofs.kept_table.KeptTable.set.Goals as goal

pub index_mut-requires : goal.index_mut-requires
index_mut-requires c =
    omega (arith, (has-page _ _ _ _ c.self.invariant c.self.view_is c.requires).1, c.self.inside.pages.ok.0)

pub invariant_of-self : goal.invariant_of-self
invariant_of-self c =
    table-pages c.self.inside.pages.items c.self.inside.count c.args.place c.args.self.now c.index_mut.result.now
    c.set.new.self c.self.invariant c.self.view_is c.requires c.index_mut.ensures.value
    (others-set c.set.result _ _ _ _ c.set.ensures.ok c.set.ensures.err)

pub returns-clause-ok : goal.returns-clause-ok
returns-clause-ok c =
    table-set c.self.inside.pages.items c.self.inside.count c.args.place c.args.self.now c.index_mut.result.now
    c.set.new.self c.self.invariant c.self.view_is c.requires c.index_mut.ensures.value
    (others-set c.set.result _ _ _ _ c.set.ensures.ok c.set.ensures.err) c.set.result c.args.kept c.set.ensures.ok

pub returns-clause-err : goal.returns-clause-err
returns-clause-err c =
    on-err c.set.result
    (table-same c.self.inside.pages.items c.self.inside.count c.args.place c.args.self.now c.index_mut.result.now
    c.set.new.self c.self.view_is c.index_mut.ensures.value) c.set.ensures.err
