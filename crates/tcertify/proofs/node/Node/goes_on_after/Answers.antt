use Rattle.std.proofs.Common.{◌≡◌, ◌∙◌, ◌+◌, ◌*◌, ap, ℕ}
use Rattle.std.proofs.lemmas.Result.{err_from_is_err_and}
use Rattle.tword.specs.Words.{minus, most_neg}
use Rattle.tprocesses.specs.Scheduling.{successor_workspace}
use Rattle.tcertify.specs.Words.{number_of, reason_of}
use Rattle.tcertify.proofs.Successors.{follows_not, follows_so}
use Rattle.tcertify.proofs.node.Node.goes_on_after.Goals as goal

pub returns-in_err-iptr : goal.returns-in_err-iptr
returns-in_err-iptr c =
    let at : c.minus-workspace.result ≡ successor_workspace c.args.count =
    c.minus-workspace.ensures ∙ ap (λ (n : ℕ). minus n c.new-2.result) c.new.ensures
    ∙ ap (λ (n : ℕ). minus (most_neg + 4 * c.args.count) n) c.new-2.ensures in
    let p = err_from_is_err_and c.from_residual.result c.from_residual.ensures.1 in
    rw (p.1, p.2)
    (follows_not c.args.self.now c.first_address.new.self c.args.count c.minus-workspace.result
    (number_of c.args.priority) at (reason_of c.in_err-iptr.field-0.0) c.in_err-iptr.ensures)

pub returns : goal.returns
returns c =
    let at : c.minus-workspace.result ≡ successor_workspace c.args.count =
    c.minus-workspace.ensures ∙ ap (λ (n : ℕ). minus n c.new-2.result) c.new.ensures
    ∙ ap (λ (n : ℕ). minus (most_neg + 4 * c.args.count) n) c.new-2.ensures in
    follows_so c.args.self.now c.first_address.new.self c.args.count c.minus-workspace.result
    (number_of c.args.priority) at _ _ c.in_ok-iptr.iptr c.in_ok-iptr.ensures c.takes_over.ensures
