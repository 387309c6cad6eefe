use Rattle.std.proofs.Common.{◌≡◌, ℕ, ap, ◌∙◌, subst}
use Rattle.std.proofs.Common.{Ok, Err}
use Rattle.std.proofs.lemmas.Result.{err_from_is_err_and}
use Rattle.tword.specs.Stores.{Store}
use Rattle.tprocesses.specs.Changes.{Put, used_word}
use Rattle.tprocesses.specs.Choosing as spec
use Rattle.tprocesses.specs.Parts.{Doing, change}
use Rattle.tprocesses.specs.Places.{WordAt}
use Rattle.tprocesses.specs.Touching.{Site, word_for, word_number, word_place}
use Rattle.tprocesses.specs.Values.{IsWord, Use, Word, Context}
use Rattle.tcertify.specs.Cells.{cells_of}
use Rattle.tcertify.specs.Contexts.{context_of}
use Rattle.tcertify.specs.Nodes.{RunsAt, node_site}
use Rattle.tcertify.specs.Words.{reason_of, use_of}
use Rattle.tcertify.proofs.Following.{runs_next}
use Rattle.tcertify.proofs.NodeRunning.{runs_at_stop}
use Rattle.tcertify.proofs.node.Node.changes_use.Goals as goal

-- what follows the look
abbrev puts : Context → Use → Site → Store → Doing
puts ctx u s _ = change (word_place s (spec.state_address ctx)) (Put (IsWord (used_word u)))

pub returns-in_err-expect_word : goal.returns-in_err-expect_word
returns-in_err-expect_word c =
    let a = c.args.self.now in
    let ctx = context_of c.args.context.now in
    let at : c.word_number-word.result ≡ word_number (spec.state_address ctx) =
    c.word_number-word.ensures ∙ ap word_number c.below.ensures in
    let b = c.expect_word.new.self in
    let p = err_from_is_err_and c.from_residual.result c.from_residual.ensures.1 in
    rw (p.1, p.2)
    (runs_at_stop (word_for (node_site a) (use_of c.args.from) (word_number (spec.state_address ctx)))
    ((puts ctx (use_of c.args.to)) (node_site a)) a b (reason_of c.in_err-expect_word.field-0.0)
    (subst (λ (n : ℕ). RunsAt (word_for (node_site a) (use_of c.args.from) n) a
    (Err (reason_of c.in_err-expect_word.field-0.0)) c.expect_word.new.self) at c.in_err-expect_word.ensures.looks))

pub returns : goal.returns
returns c =
    let a = c.args.self.now in
    let ctx = context_of c.args.context.now in
    let at : c.word_number-word.result ≡ word_number (spec.state_address ctx) =
    c.word_number-word.ensures ∙ ap word_number c.below.ensures in
    let b = c.expect_word.new.self in
    let d = c.put.new.self in
    (runs_next a b d (word_for (node_site a) (use_of c.args.from) (word_number (spec.state_address ctx)))
    (puts ctx (use_of c.args.to)) (cells_of c.in_ok-expect_word.field-0)
    (subst (λ (n : ℕ). RunsAt (word_for (node_site a) (use_of c.args.from) n) a
    (Ok (cells_of c.in_ok-expect_word.field-0)) c.expect_word.new.self) at c.in_ok-expect_word.ensures.looks) (Ok tt)
    (subst (λ (x : Word). RunsAt (change (word_place (node_site b) (spec.state_address ctx)) (Put (IsWord x))) b
    (Ok tt) d) (ap (λ (l : Store). record { cells = l; used = use_of c.args.to }) c.unknown.ensures)
    (subst (λ (n : ℕ). RunsAt (change (WordAt (node_site b).number n)
    (Put (IsWord (record { cells = cells_of c.unknown.result; used = use_of c.args.to })))) b (Ok tt) d) at
    c.put.ensures)))
