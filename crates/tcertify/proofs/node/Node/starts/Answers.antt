use Rattle.std.proofs.Common.{sym, ◌∙◌}
use Rattle.std.proofs.lemmas.Result.{err_from_is_err_and}
use Rattle.tprocesses.specs.Places.{child_of}
use Rattle.tcertify.specs.Contexts.{context_of}
use Rattle.tcertify.specs.Nodes.{name_at}
use Rattle.tcertify.proofs.Scheduling.{comes_not, starts_by, starts_unaligned}
use Rattle.tcertify.proofs.node.Node.starts.Goals as goal

pub returns-then-not-is_aligned : goal.returns-then-not-is_aligned
returns-then-not-is_aligned c =
    starts_unaligned c.args.self.now c.args.self.now (child_of (name_at c.args.self.now c.args.process) c.args.child)
    (context_of c.args.context.now) (sym c.is_aligned.ensures ∙ c.if-not-is_aligned.true)

pub returns-in_err-child_comes : goal.returns-in_err-child_comes
returns-in_err-child_comes c =
    let p = err_from_is_err_and c.from_residual.result c.from_residual.ensures.1 in
    rw (p.1, p.2)
    (comes_not c.args.self.now c.child_comes.new.self (child_of (name_at c.args.self.now c.args.process) c.args.child)
    (context_of c.args.context.now) (sym c.is_aligned.ensures ∙ c.if-not-is_aligned.false)
    c.in_err-child_comes.field-0.0 c.in_err-child_comes.ensures)

pub returns-in_err-save : goal.returns-in_err-save
returns-in_err-save c =
    let p = err_from_is_err_and c.from_residual-in_err-save.result c.from_residual-in_err-save.ensures.1 in
    rw (p.1, p.2)
    (starts_by c.args.self.now c.child_comes.new.self (child_of (name_at c.args.self.now c.args.process) c.args.child)
    (context_of c.args.context.now) (sym c.is_aligned.ensures ∙ c.if-not-is_aligned.false)
    c.in_ok-child_comes.ensures c.save.new.self _ c.in_err-save.ensures)

pub returns : goal.returns
returns c =
    starts_by c.args.self.now c.child_comes.new.self (child_of (name_at c.args.self.now c.args.process) c.args.child)
    (context_of c.args.context.now) (sym c.is_aligned.ensures ∙ c.if-not-is_aligned.false)
    c.in_ok-child_comes.ensures c.save.new.self _ c.in_ok-save.ensures
