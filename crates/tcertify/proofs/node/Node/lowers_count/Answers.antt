use Rattle.std.proofs.Common.{◌≡◌, ◌<◌, ℕ, refl, sym, ap, ◌∙◌, length}
use Rattle.std.proofs.lemmas.Result.{err_from_is_err_and}
use Rattle.tword.specs.Words.{plus}
use Rattle.tcertify.specs.Cells.{cells_of}
use Rattle.tcertify.specs.Words.{number_of, reason_of}
use Rattle.tcertify.proofs.Scheduling.{counts, counts_not, counts_nowhere, counts_sent, numbered}
use Rattle.tcertify.proofs.node.Node.lowers_count.Goals as goal

pub returns-in_err-read_word : goal.returns-in_err-read_word
returns-in_err-read_word c =
    let p = err_from_is_err_and c.from_residual.result c.from_residual.ensures.1 in
    rw (p.1, p.2)
    (counts_not c.args.self.now c.read_word.new.self c.args.workspace (number_of c.args.priority)
    (reason_of c.in_err-read_word.field-0.0) c.in_err-read_word.ensures)

pub returns-in_err-number : goal.returns-in_err-number
returns-in_err-number c =
    let p =
    err_from_is_err_and c.from_residual-in_err-number.result c.from_residual-in_err-number.ensures.1 in
    let at : c.plus-count.result ≡ plus c.args.workspace 4 =
    c.plus-count.ensures ∙ ap (λ (n : ℕ). plus c.args.workspace n) c.new.ensures in
    rw (p.1, p.2)
    (counts_nowhere c.args.self.now c.read_word.new.self c.args.workspace (number_of c.args.priority)
    (cells_of c.in_ok-read_word.field-0) c.in_ok-read_word.ensures _ c.in_err-number.field-0.0
    (rw at at (sym c.in_err-number.ensures.checks)))

pub unsent-requires-clause-tells : goal.unsent-requires-clause-tells
unsent-requires-clause-tells c = refl

pub decrement-requires : goal.decrement-requires
decrement-requires c =
    let same = numbered _ _ _ (sym c.in_ok-number.ensures.checks) in
    let inside : c.in_ok-number.number < length c.read_word.new.self.words.items.items =
    c.in_ok-number.ensures.inside in
    let sized : length c.unsent.new.self.words.items.items ≡ length c.read_word.new.self.words.items.items =
    c.in_ok-unsent.ensures.sized in
    rw (← same, sized) inside

pub returns-in_err-unsent : goal.returns-in_err-unsent
returns-in_err-unsent c =
    let p = err_from_is_err_and c.from_residual-in_err-unsent.result c.from_residual-in_err-unsent.ensures.1 in
    let at : c.plus-count.result ≡ plus c.args.workspace 4 =
    c.plus-count.ensures ∙ ap (λ (n : ℕ). plus c.args.workspace n) c.new.ensures in
    let same = numbered _ _ _ (sym c.in_ok-number.ensures.checks) in
    rw (p.1, p.2)
    (counts_sent c.args.self.now c.read_word.new.self c.args.workspace (number_of c.args.priority)
    (cells_of c.in_ok-read_word.field-0) c.in_ok-read_word.ensures _ _
    (rw at at (sym c.in_ok-number.ensures.checks)) c.unsent.new.self (reason_of c.in_err-unsent.field-0.0)
    (rw at at (rw same at c.in_err-unsent.ensures.done)))

pub returns : goal.returns
returns c =
    let at : c.plus-count.result ≡ plus c.args.workspace 4 =
    c.plus-count.ensures ∙ ap (λ (n : ℕ). plus c.args.workspace n) c.new.ensures in
    let same = numbered _ _ _ (sym c.in_ok-number.ensures.checks) in
    counts c.args.self.now c.read_word.new.self c.args.workspace (number_of c.args.priority)
    (cells_of c.in_ok-read_word.field-0) c.in_ok-read_word.ensures _ _
    (rw at at (sym c.in_ok-number.ensures.checks)) c.unsent.new.self _
    (rw at at (rw same at c.in_ok-unsent.ensures.done)) (rw at at c.decrement.ensures)
