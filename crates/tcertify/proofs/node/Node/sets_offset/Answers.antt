use Rattle.std.proofs.Common.{◌≡◌, ℕ, sym, subst, ap, Bool, Ok, Err}
use Rattle.std.proofs.lemmas.Result.{err_from_is_err_and}
use Rattle.tword.specs.Stores.{Store}
use Rattle.tprocesses.specs.Changes.{Put, free_word}
use Rattle.tprocesses.specs.Choosing.{sets_offset}
use Rattle.tprocesses.specs.Parts.{Doing, change}
use Rattle.tprocesses.specs.Places.{WordAt}
use Rattle.tprocesses.specs.Standing.{known}
use Rattle.tprocesses.specs.Touching.{Site, word_place}
use Rattle.tprocesses.specs.Values.{Free, IsWord, Word}
use Rattle.tcertify.specs.Cells.{cells_of}
use Rattle.tcertify.specs.Contexts.{context_of}
use Rattle.tcertify.specs.Nodes.{RunsAt, node_site}
use Rattle.tcertify.specs.Words.{reason_of}
use Rattle.tcertify.proofs.NodeRunning.{runs_at_given, runs_at_on, runs_at_stop}
use Rattle.tcertify.proofs.node.Node.sets_offset.Goals as goal

-- the offset is put at the workspace
abbrev puts : Site → (workspace : ℕ) → ℕ → Doing
puts s w v = change (word_place s w) (Put (IsWord (free_word v)))

pub returns-then-not-chosen : goal.returns-then-not-chosen
returns-then-not-chosen c =
    let a = c.args.self.now in let ctx = context_of c.args.context.now in
    subst (λ (t : Bool). RunsAt (sets_offset (node_site a) ctx t) a (Ok tt) a) (sym c.if-not-chosen.true)
    (runs_at_given tt a)

pub returns-in_err-offset : goal.returns-in_err-offset
returns-in_err-offset c =
    let a = c.args.self.now in let ctx = context_of c.args.context.now in
    let p = err_from_is_err_and c.from_residual.result c.from_residual.ensures.1 in
    rw (p.1, p.2)
    (subst (λ (t : Bool). RunsAt (sets_offset (node_site a) ctx t) a (Err (reason_of c.in_err-offset.field-0.0)) a)
    (sym c.if-not-chosen.false)
    (runs_at_stop (known ctx.a) (puts (node_site a) ctx.wptr) a a (reason_of c.in_err-offset.field-0.0)
    (c.in_err-offset.ensures a)))

pub returns : goal.returns
returns c =
    let a = c.args.self.now in let ctx = context_of c.args.context.now in let b = c.put.new.self in
    let v = c.in_ok-offset.offset in
    let word : Word = record { cells = cells_of c.known-2.result; used = Free } in
    let freed : word ≡ free_word v = ap (λ (l : Store). record { cells = l; used = Free }) c.known-2.ensures in
    subst (λ (t : Bool). RunsAt (sets_offset (node_site a) ctx t) a (Ok tt) b) (sym c.if-not-chosen.false)
    (runs_at_on (known ctx.a) (puts (node_site a) ctx.wptr) a a b v (Ok tt) (c.in_ok-offset.ensures a)
    (subst (λ (x : Word). RunsAt (change (word_place (node_site a) ctx.wptr) (Put (IsWord x))) a (Ok tt) b) freed
    (subst (λ (n : ℕ). RunsAt (change (WordAt (node_site a).number n) (Put (IsWord word))) a (Ok tt) b)
    c.word_number-word.ensures c.put.ensures)))
