use Rattle.std.proofs.Common.{◌≡◌, ℕ, ap, ◌∙◌}
use Rattle.std.proofs.lemmas.Result.{err_from_is_err_and}
use Rattle.tword.specs.Words.{plus}
use Rattle.tprocesses.specs.Standing.{fresh, pop}
use Rattle.tprocesses.specs.Values.{Context}
use Rattle.tcertify.specs.Contexts.{context_of}
use Rattle.tcertify.proofs.Scheduling.{starts_at_nothing, starts_not, starts_nowhere, starts_so}
use Rattle.tcertify.proofs.node.Node.starts_child.Goals as goal

pub returns-in_default : goal.returns-in_default
returns-in_default c =
    starts_nowhere c.args.self.now c.args.process (context_of c.args.context.now) c.in_default.is

pub returns-in_default-b : goal.returns-in_default-b
returns-in_default-b c =
    starts_at_nothing c.args.self.now c.args.process (context_of c.args.context.now) c.in-Some.workspace c.in-Some.is
    c.in_default-b.is

pub returns-in_err-starts : goal.returns-in_err-starts
returns-in_err-starts c =
    let ctx : Context = context_of c.args.context.now in
    let p = err_from_is_err_and c.from_residual.result c.from_residual.ensures.1 in
    let new : context_of c.fresh-child.result ≡ fresh ctx.priority c.in-Some.workspace
    (plus ctx.iptr c.in-Some-b.offset) =
    c.fresh-child.ensures ∙ ap (λ (n : ℕ). fresh ctx.priority c.in-Some.workspace n) c.plus.ensures in
    rw (p.1, p.2)
    (starts_not c.args.self.now c.args.process ctx c.in-Some.workspace c.in-Some.is c.in-Some-b.offset c.in-Some-b.is
    (context_of c.fresh-child.result) new c.starts.new.self c.in_err-starts.field-0.0 c.in_err-starts.ensures)

pub returns : goal.returns
returns c =
    let ctx : Context = context_of c.args.context.now in
    let new : context_of c.fresh-child.result ≡ fresh ctx.priority c.in-Some.workspace
    (plus ctx.iptr c.in-Some-b.offset) =
    c.fresh-child.ensures ∙ ap (λ (n : ℕ). fresh ctx.priority c.in-Some.workspace n) c.plus.ensures in
    starts_so c.args.self.now c.args.process ctx c.in-Some.workspace c.in-Some.is c.in-Some-b.offset c.in-Some-b.is
    (context_of c.fresh-child.result) new c.starts.new.self _ (context_of c.pop-2.result)
    (c.pop-2.ensures ∙ ap pop (c.pop.ensures ∙ ap pop c.in-Some-with_child.ensures.child)) c.requires
    c.in_ok-starts.ensures c.goes_on.ensures
