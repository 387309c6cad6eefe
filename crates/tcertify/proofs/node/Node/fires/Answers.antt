use Rattle.std.proofs.Common.{ℕ, subst, true, Ok, Err}
use Rattle.std.proofs.lemmas.Result.{err_from_is_err_and}
use Rattle.tproc.specs.declared.channels.Side.TheVariants.{Input}
use Rattle.tplan.specs.Wires.{end_at}
use Rattle.tprocesses.specs.Changes.{Put}
use Rattle.tprocesses.specs.Choosing as spec
use Rattle.tprocesses.specs.Parts.{Doing, change, see, ◌>>=◌}
use Rattle.tprocesses.specs.Places.{Name, LinkHalf, Standing}
use Rattle.tprocesses.specs.Standing.{stands}
use Rattle.tprocesses.specs.Touching.{Site}
use Rattle.tprocesses.specs.Values.{Chosen, Context, Fired, IsLink, IsStand, Value, stand_in}
use Rattle.tcertify.specs.Contexts.{context_of}
use Rattle.tcertify.specs.Nodes.{RunsAt, name_at, node_site}
use Rattle.tcertify.specs.Standing.{stand_of}
use Rattle.tcertify.specs.Words.{reason_of}
use Rattle.tcertify.proofs.Following.{inside_still, runs_then}
use Rattle.tcertify.proofs.NodeRunning.{runs_at_stop}
use Rattle.tcertify.proofs.node.Node.fires.Goals as goal

-- what follows each part
abbrev stands_chosen : Context → Site → Name → Unit {0} → Doing
stands_chosen left s x _ = stands x (Chosen (spec.with_choice true left))

abbrev puts : (link : ℕ) → Site → Name → Context → Doing
puts link s x left =
    change (LinkHalf (end_at s.number link) Input) (Put (IsLink (Fired x))) >>= stands_chosen left s x

abbrev waits : (link : ℕ) → Site → Name → Value → Doing
waits link s x v = spec.waiting (stand_in v) >>= puts link s x

pub returns-in_err-context : goal.returns-in_err-context
returns-in_err-context c =
    let a = c.args.self.now in let k = c.args.process in let b = c.stand-stand.new.self in
    let stood = stand_of c.stand-stand.result in let why = reason_of c.in_err-context.field-0.0 in
    let p = err_from_is_err_and c.from_residual.result c.from_residual.ensures.1 in
    rw (p.1, p.2)
    (runs_then a b b k (see (Standing (name_at a k))) (waits c.args.link) (IsStand stood) c.stand-stand.ensures
    c.requires.there (Err why)
    (runs_at_stop (spec.waiting stood) (puts c.args.link (node_site b) (name_at b k)) b b why
    (c.in_err-context.ensures b)))

pub returns : goal.returns
returns c =
    let a = c.args.self.now in let k = c.args.process in let b = c.stand-stand.new.self in
    let d = c.set_link_half.new.self in let g = c.stands.new.self in
    let stood = stand_of c.stand-stand.result in let left = context_of c.in_ok-context.context in
    let in_b = inside_still a b k c.stand-stand.ensures.grows c.requires.there in
    runs_then a b g k (see (Standing (name_at a k))) (waits c.args.link) (IsStand stood) c.stand-stand.ensures
    c.requires.there (Ok tt)
    (runs_then b b g k (spec.waiting stood) (puts c.args.link) left (c.in_ok-context.ensures b) in_b (Ok tt)
    (runs_then b d g k (change (LinkHalf (end_at (node_site b).number c.args.link) Input)
    (Put (IsLink (Fired (name_at b k))))) (stands_chosen left) tt c.set_link_half.ensures.sets in_b (Ok tt)
    (subst (λ (l : Context). RunsAt (stands (name_at d k) (Chosen l)) d (Ok tt) g) c.with_choice.ensures
    c.stands.ensures)))
