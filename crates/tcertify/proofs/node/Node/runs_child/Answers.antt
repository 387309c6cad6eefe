use Rattle.std.proofs.Common.{◌≡◌, ℕ, ap, ◌∙◌}
use Rattle.std.proofs.lemmas.Result.{err_from_is_err_and}
use Rattle.tword.specs.Words.{word_below}
use Rattle.tproc.specs.Machine.{priority_of, workspace_of}
use Rattle.tprocesses.specs.Standing.{fresh, pop}
use Rattle.tprocesses.specs.Values.{Context}
use Rattle.tcertify.specs.Contexts.{context_of}
use Rattle.tcertify.specs.Words.{reason_of}
use Rattle.tcertify.proofs.Scheduling.{runs_nobody, runs_not, runs_nowhere, runs_so}
use Rattle.tcertify.proofs.node.Node.runs_child.Goals as goal

pub returns-in_default : goal.returns-in_default
returns-in_default c =
    runs_nobody c.args.self.now c.args.process (context_of c.args.context.now) c.in_default.is

pub returns-in_err-iptr : goal.returns-in_err-iptr
returns-in_err-iptr c =
    let p = err_from_is_err_and c.from_residual.result c.from_residual.ensures.1 in
    let at : c.below.result ≡ word_below (workspace_of c.in-Some.descriptor) 1 =
    c.below.ensures ∙ ap (λ (n : ℕ). word_below n 1) c.workspace_of-workspace.ensures in
    rw (p.1, p.2)
    (runs_nowhere c.args.self.now c.args.process (context_of c.args.context.now) c.in-Some.descriptor c.in-Some.is
    c.first_address.new.self (reason_of c.in_err-iptr.field-0.0) (rw at at c.in_err-iptr.ensures))

pub returns-in_err-starts : goal.returns-in_err-starts
returns-in_err-starts c =
    let ctx : Context = context_of c.args.context.now in
    let p = err_from_is_err_and c.from_residual-in_err-starts.result c.from_residual-in_err-starts.ensures.1 in
    let at : c.below.result ≡ word_below (workspace_of c.in-Some.descriptor) 1 =
    c.below.ensures ∙ ap (λ (n : ℕ). word_below n 1) c.workspace_of-workspace.ensures in
    let new : context_of c.fresh-child.result ≡ fresh (priority_of c.in-Some.descriptor)
    (workspace_of c.in-Some.descriptor) c.in_ok-iptr.iptr =
    c.fresh-child.ensures ∙ ap (λ (n : ℕ). fresh n c.workspace_of-workspace.result c.in_ok-iptr.iptr)
    c.priority_of.ensures
    ∙ ap (λ (n : ℕ). fresh (priority_of c.in-Some.descriptor) n c.in_ok-iptr.iptr) c.workspace_of-workspace.ensures in
    rw (p.1, p.2)
    (runs_not c.args.self.now c.args.process ctx c.in-Some.descriptor c.in-Some.is c.first_address.new.self
    c.in_ok-iptr.iptr (rw at at c.in_ok-iptr.ensures) c.requires (context_of c.fresh-child.result) new
    c.starts.new.self c.in_err-starts.field-0.0 c.in_err-starts.ensures)

pub returns : goal.returns
returns c =
    let ctx : Context = context_of c.args.context.now in
    let at : c.below.result ≡ word_below (workspace_of c.in-Some.descriptor) 1 =
    c.below.ensures ∙ ap (λ (n : ℕ). word_below n 1) c.workspace_of-workspace.ensures in
    let new : context_of c.fresh-child.result ≡ fresh (priority_of c.in-Some.descriptor)
    (workspace_of c.in-Some.descriptor) c.in_ok-iptr.iptr =
    c.fresh-child.ensures ∙ ap (λ (n : ℕ). fresh n c.workspace_of-workspace.result c.in_ok-iptr.iptr)
    c.priority_of.ensures
    ∙ ap (λ (n : ℕ). fresh (priority_of c.in-Some.descriptor) n c.in_ok-iptr.iptr) c.workspace_of-workspace.ensures in
    runs_so c.args.self.now c.args.process ctx c.in-Some.descriptor c.in-Some.is c.first_address.new.self
    c.in_ok-iptr.iptr (rw at at c.in_ok-iptr.ensures) c.requires (context_of c.fresh-child.result) new
    c.starts.new.self _ (context_of c.pop.result) (c.pop.ensures ∙ ap pop c.in-Some-with_child.ensures.child)
    c.in_ok-starts.ensures c.goes_on.ensures
