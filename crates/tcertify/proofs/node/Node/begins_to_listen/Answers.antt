use Rattle.std.proofs.Common.{ℕ, false, subst, Ok}
use Rattle.std.proofs.lemmas.Result.{err_from_is_err_and}
use Rattle.tword.specs.Stores.{Store}
use Rattle.tword.specs.Touches.{Writes}
use Rattle.tprocesses.specs.Choosing as spec
use Rattle.tprocesses.specs.Parts.{Doing}
use Rattle.tprocesses.specs.Places.{Name}
use Rattle.tprocesses.specs.Standing.{stands}
use Rattle.tprocesses.specs.Touching.{Site, touch_word_at}
use Rattle.tprocesses.specs.Values.{Context, Listens}
use Rattle.tcertify.specs.Cells.{cells_of}
use Rattle.tcertify.specs.Contexts.{context_of}
use Rattle.tcertify.specs.Nodes.{RunsAt, name_at, node_site}
use Rattle.tcertify.specs.Words.{reason_of}
use Rattle.tcertify.proofs.Following.{runs_then}
use Rattle.tcertify.proofs.NodeRunning.{runs_at_stop}
use Rattle.tcertify.proofs.node.Node.begins_to_listen.Goals as goal

-- what follows
abbrev listens : Context → (channel : ℕ) → Site → Name → Store → Doing
listens ctx channel s x _ = stands x (Listens channel (spec.answers false ctx))

pub returns-in_err-takes_word : goal.returns-in_err-takes_word
returns-in_err-takes_word c =
    let a = c.args.self.now in let k = c.args.process in let ctx = context_of c.args.context.now in
    let p = err_from_is_err_and c.from_residual.result c.from_residual.ensures.1 in
    rw (p.1, p.2)
    (runs_at_stop (touch_word_at (node_site a) Writes ctx.wptr)
    (listens ctx c.args.channel (node_site a) (name_at a k)) a c.takes_word.new.self
    (reason_of c.in_err-takes_word.field-0.0) c.in_err-takes_word.ensures)

pub returns : goal.returns
returns c =
    let a = c.args.self.now in let k = c.args.process in let ctx = context_of c.args.context.now in
    let b = c.takes_word.new.self in
    runs_then a b c.stands.new.self k (touch_word_at (node_site a) Writes ctx.wptr) (listens ctx c.args.channel)
    (cells_of c.in_ok-takes_word.field-0) c.in_ok-takes_word.ensures c.requires (Ok tt)
    (subst (λ (l : Context). RunsAt (stands (name_at b k) (Listens c.args.channel l)) b (Ok tt) c.stands.new.self)
    c.answers-left.ensures c.stands.ensures)
