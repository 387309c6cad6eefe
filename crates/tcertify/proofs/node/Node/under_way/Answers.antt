use Rattle.std.proofs.Common.{ℕ, ap, ◌∙◌, subst, Ok, Err}
use Rattle.std.proofs.lemmas.Result.{err_from_is_err_and}
use Rattle.tword.specs.Stores.{Store}
use Rattle.tword.specs.Touches.{word_place_break}
use Rattle.tprocesses.specs.Choosing as spec
use Rattle.tprocesses.specs.Parts.{Part, gives, unless, ◌>>=◌, ◌>>◌}
use Rattle.tprocesses.specs.Touching.{Site, unsent, word_for, word_number}
use Rattle.tprocesses.specs.Values.{Choice, Choosing, Context}
use Rattle.tcertify.specs.Cells.{cells_of}
use Rattle.tcertify.specs.Contexts.{choice_of, context_of}
use Rattle.tcertify.specs.Nodes.{RunsAt, node_site}
use Rattle.tcertify.specs.Words.{reason_of}
use Rattle.tcertify.proofs.Following.{runs_next}
use Rattle.tcertify.proofs.NodeRunning.{runs_at_given, runs_at_stop}
use Rattle.tcertify.proofs.node.Node.under_way.Goals as goal

-- what follows each part
abbrev sent : Context → Choice → Site → Store → Part Choice
sent ctx choice s _ = unsent s (word_number (spec.state_address ctx)) >> gives choice

abbrev used : Context → Choice → Site → Unit {0} → Part Choice
used ctx choice s _ = word_for s Choosing (word_number (spec.state_address ctx)) >>= sent ctx choice s

abbrev placed : Context → Site → Choice → Part Choice
placed ctx s choice = unless (word_place_break s.size (spec.state_address ctx)) >>= used ctx choice s

pub returns-in_err-choice : goal.returns-in_err-choice
returns-in_err-choice c =
    let a = c.args.self.now in
    let ctx = context_of c.args.context.now in
    let p = err_from_is_err_and c.from_residual.result c.from_residual.ensures.1 in
    rw (p.1, p.2)
    (runs_at_stop (spec.choice_of ctx.choice) ((placed ctx) (node_site a)) a a (reason_of c.in_err-choice.field-0.0)
    (c.in_err-choice.ensures a))

pub returns-in_err-word : goal.returns-in_err-word
returns-in_err-word c =
    let a = c.args.self.now in
    let ctx = context_of c.args.context.now in
    let p = err_from_is_err_and c.from_residual-in_err-word.result c.from_residual-in_err-word.ensures.1 in
    rw (p.1, p.2)
    (runs_next a a a (spec.choice_of ctx.choice) (placed ctx) (choice_of c.in_ok-choice.choice)
    (c.in_ok-choice.ensures a) (Err (reason_of c.in_err-word.field-0.0))
    (runs_at_stop (unless (word_place_break (node_site a).size (spec.state_address ctx)))
    ((used ctx (choice_of c.in_ok-choice.choice)) (node_site a)) a a (reason_of c.in_err-word.field-0.0)
    (rw c.below.ensures at c.in_err-word.ensures.checks)))

pub returns-in_err-expect_word : goal.returns-in_err-expect_word
returns-in_err-expect_word c =
    let a = c.args.self.now in
    let ctx = context_of c.args.context.now in
    let b = c.expect_word.new.self in
    let p = err_from_is_err_and c.from_residual-in_err-expect_word.result c.from_residual-in_err-expect_word.ensures.1
    in
    rw (p.1, p.2)
    (runs_next a a b (spec.choice_of ctx.choice) (placed ctx) (choice_of c.in_ok-choice.choice)
    (c.in_ok-choice.ensures a) (Err (reason_of c.in_err-expect_word.field-0.0))
    (runs_next a a b (unless (word_place_break (node_site a).size (spec.state_address ctx)))
    (used ctx (choice_of c.in_ok-choice.choice)) (tt) (rw c.below.ensures at c.in_ok-word.ensures.checks)
    (Err (reason_of c.in_err-expect_word.field-0.0))
    (runs_at_stop (word_for (node_site a) Choosing (word_number (spec.state_address ctx)))
    ((sent ctx (choice_of c.in_ok-choice.choice)) (node_site a)) a b (reason_of c.in_err-expect_word.field-0.0)
    (subst (λ (n : ℕ). RunsAt (word_for (node_site a) Choosing n) a (Err (reason_of c.in_err-expect_word.field-0.0))
    c.expect_word.new.self) (c.in_ok-word.ensures.number.0 ∙ ap word_number c.below.ensures)
    c.in_err-expect_word.ensures.looks))))

pub returns-in_err-unsent : goal.returns-in_err-unsent
returns-in_err-unsent c =
    let a = c.args.self.now in
    let ctx = context_of c.args.context.now in
    let b = c.expect_word.new.self in
    let d = c.unsent.new.self in
    let p = err_from_is_err_and c.from_residual-in_err-unsent.result c.from_residual-in_err-unsent.ensures.1 in
    rw (p.1, p.2)
    (runs_next a a d (spec.choice_of ctx.choice) (placed ctx) (choice_of c.in_ok-choice.choice)
    (c.in_ok-choice.ensures a) (Err (reason_of c.in_err-unsent.field-0.0))
    (runs_next a a d (unless (word_place_break (node_site a).size (spec.state_address ctx)))
    (used ctx (choice_of c.in_ok-choice.choice)) (tt) (rw c.below.ensures at c.in_ok-word.ensures.checks)
    (Err (reason_of c.in_err-unsent.field-0.0))
    (runs_next a b d (word_for (node_site a) Choosing (word_number (spec.state_address ctx)))
    (sent ctx (choice_of c.in_ok-choice.choice)) (cells_of c.in_ok-expect_word.field-0)
    (subst (λ (n : ℕ). RunsAt (word_for (node_site a) Choosing n) a (Ok (cells_of c.in_ok-expect_word.field-0))
    c.expect_word.new.self) (c.in_ok-word.ensures.number.0 ∙ ap word_number c.below.ensures)
    c.in_ok-expect_word.ensures.looks) (Err (reason_of c.in_err-unsent.field-0.0))
    (runs_at_stop (unsent (node_site b) (word_number (spec.state_address ctx)))
    ((λ (s : Site) (_ : Unit {0}). gives (choice_of c.in_ok-choice.choice)) (node_site b)) b d
    (reason_of c.in_err-unsent.field-0.0) (subst (λ (n : ℕ). RunsAt (unsent (node_site b) n) b
    (Err (reason_of c.in_err-unsent.field-0.0)) c.unsent.new.self)
    (c.in_ok-word.ensures.number.0 ∙ ap word_number c.below.ensures) c.in_err-unsent.ensures.done)))))

pub returns : goal.returns
returns c =
    let a = c.args.self.now in
    let ctx = context_of c.args.context.now in
    let b = c.expect_word.new.self in
    let d = c.unsent.new.self in
    (runs_next a a d (spec.choice_of ctx.choice) (placed ctx) (choice_of c.in_ok-choice.choice)
    (c.in_ok-choice.ensures a) (Ok (choice_of c.in_ok-choice.choice))
    (runs_next a a d (unless (word_place_break (node_site a).size (spec.state_address ctx)))
    (used ctx (choice_of c.in_ok-choice.choice)) (tt) (rw c.below.ensures at c.in_ok-word.ensures.checks)
    (Ok (choice_of c.in_ok-choice.choice))
    (runs_next a b d (word_for (node_site a) Choosing (word_number (spec.state_address ctx)))
    (sent ctx (choice_of c.in_ok-choice.choice)) (cells_of c.in_ok-expect_word.field-0)
    (subst (λ (n : ℕ). RunsAt (word_for (node_site a) Choosing n) a (Ok (cells_of c.in_ok-expect_word.field-0))
    c.expect_word.new.self) (c.in_ok-word.ensures.number.0 ∙ ap word_number c.below.ensures)
    c.in_ok-expect_word.ensures.looks) (Ok (choice_of c.in_ok-choice.choice))
    (runs_next b d d (unsent (node_site b) (word_number (spec.state_address ctx)))
    (λ (s : Site) (_ : Unit {0}). gives (choice_of c.in_ok-choice.choice)) (tt)
    (subst (λ (n : ℕ). RunsAt (unsent (node_site b) n) b (Ok tt) c.unsent.new.self)
    (c.in_ok-word.ensures.number.0 ∙ ap word_number c.below.ensures) c.in_ok-unsent.ensures.done)
    (Ok (choice_of c.in_ok-choice.choice))
    (runs_at_given (choice_of c.in_ok-choice.choice) d)))))
