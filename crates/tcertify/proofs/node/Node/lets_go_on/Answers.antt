use Rattle.std.proofs.Common.{◌<◌, ℕ, ◌∙◌, subst, length, List, true, Ok, Err}
use Rattle.std.proofs.lemmas.Result.{err_from_is_err_and}
use Rattle.tproc.specs.declared.channels.Side.TheVariants.{Input}
use Rattle.tprocesses.specs.Changes.{Put}
use Rattle.tprocesses.specs.Choosing as spec
use Rattle.tprocesses.specs.Parts.{Doing, change, see, ◌>>=◌}
use Rattle.tprocesses.specs.Places.{Name, Half, Ports, Standing}
use Rattle.tprocesses.specs.Standing.{stands}
use Rattle.tprocesses.specs.Touching.{Site}
use Rattle.tprocesses.specs.Values.{ArePorts, Chosen, Context, EnabledBy, IsHalf, IsStand, Value}
use Rattle.tprocesses.specs.Values.{ports_in, stand_in}
use Rattle.tcertify.specs.Contexts.{context_of}
use Rattle.tcertify.specs.Nodes.{Does, RunsAt, name_at, node_site, nothing, ports_at}
use Rattle.tcertify.specs.Standing.{stand_of}
use Rattle.tcertify.specs.Words.{reason_of}
use Rattle.tcertify.proofs.Following.{does_then, inside_still, runs_then}
use Rattle.tcertify.proofs.NodePorts.{ports_same}
use Rattle.tcertify.proofs.NodeRunning.{address_stays, grows_on, does_stop, runs_at_stop}
use Rattle.tcertify.proofs.node.Node.lets_go_on.Goals as goal

-- what follows each part
abbrev stands_chosen : Context → Site → Name → Unit {0} → Doing
stands_chosen left s x _ = stands x (Chosen (spec.with_choice true left))

abbrev puts : (channel : ℕ) → Context → Site → Name → Unit {0} → Doing
puts channel left s x _ =
    change (Half s.number channel Input) (Put (IsHalf (EnabledBy x))) >>= stands_chosen left s x

abbrev asks : (channel : ℕ) → Context → Site → Name → Value → Doing
asks channel left s x v = spec.requires_no_other s channel (ports_in v) >>= puts channel left s x

abbrev sees : (channel : ℕ) → Site → Name → Context → Doing
sees channel s x left = see (Ports x) >>= asks channel left s x

abbrev waits : (channel : ℕ) → Site → Name → Value → Doing
waits channel s x v = spec.waiting (stand_in v) >>= sees channel s x

pub returns-in_err-context : goal.returns-in_err-context
returns-in_err-context c =
    let a = c.args.self.now in let k = c.args.process in
    let ch : ℕ = c.args.address in
    let b = c.stand-stand.new.self in
    let in_a : k < length a.processes.items.items = c.requires.there in
    let in_b = inside_still a b k (c.stand-stand.ensures).grows in_a in
    let p = err_from_is_err_and c.from_residual.result c.from_residual.ensures.1 in
    rw (p.1, p.2)
    (runs_then a b b k (see (Standing (name_at a k))) (waits ch) (IsStand (stand_of c.stand-stand.result))
    (c.stand-stand.ensures) in_a (Err (reason_of c.in_err-context.field-0.0))
    (runs_at_stop (spec.waiting (stand_of c.stand-stand.result)) ((sees ch) (node_site b) (name_at b k)) b b
    (reason_of c.in_err-context.field-0.0) (c.in_err-context.ensures b)))

pub returns-in_err-requires_no_other : goal.returns-in_err-requires_no_other
returns-in_err-requires_no_other c =
    let a = c.args.self.now in let k = c.args.process in
    let ch : ℕ = c.args.address in
    let b = c.stand-stand.new.self in
    let d = c.sees_ports.new.self in
    let e = c.requires_no_other.new.self in
    let in_a : k < length a.processes.items.items = c.requires.there in
    let in_b = inside_still a b k (c.stand-stand.ensures).grows in_a in
    let in_d = inside_still b d k (c.sees_ports.ensures.looks).grows in_b in
    let p = err_from_is_err_and c.from_residual-in_err-requires_no_other.result
    c.from_residual-in_err-requires_no_other.ensures.1 in
    rw (p.1, p.2)
    (does_then a b e k (see (Standing (name_at a k))) (waits ch) (IsStand (stand_of c.stand-stand.result))
    (c.stand-stand.ensures) in_a nothing (Err c.in_err-requires_no_other.field-0.0)
    (does_then b b e k (spec.waiting (stand_of c.stand-stand.result)) (sees ch) (context_of c.in_ok-context.context)
    (c.in_ok-context.ensures b) in_b nothing (Err c.in_err-requires_no_other.field-0.0)
    (does_then b d e k (see (Ports (name_at b k))) (asks ch (context_of c.in_ok-context.context))
    (ArePorts (ports_at b k)) (c.sees_ports.ensures.looks) in_b nothing (Err c.in_err-requires_no_other.field-0.0)
    (does_stop (spec.requires_no_other (node_site d) ch (ports_at b k))
    ((puts ch (context_of c.in_ok-context.context)) (node_site d) (name_at d k)) nothing nothing d e
    c.in_err-requires_no_other.field-0.0 (subst (λ (l : List ℕ). Does (spec.requires_no_other (node_site d) ch l)
    nothing d (Err c.in_err-requires_no_other.field-0.0) e) (ports_same b d k c.sees_ports.ensures.processes)
    c.in_err-requires_no_other.ensures)))))

pub returns : goal.returns
returns c =
    let a = c.args.self.now in let k = c.args.process in
    let ch : ℕ = c.args.address in
    let b = c.stand-stand.new.self in
    let d = c.sees_ports.new.self in
    let e = c.requires_no_other.new.self in
    let f = c.set_half.new.self in
    let in_a : k < length a.processes.items.items = c.requires.there in
    let in_b = inside_still a b k (c.stand-stand.ensures).grows in_a in
    let in_d = inside_still b d k (c.sees_ports.ensures.looks).grows in_b in
    let in_e = inside_still d e k (rw (ports_same b d k c.sees_ports.ensures.processes) at
    c.in_ok-requires_no_other.ensures).grows in_d in
    let in_f = inside_still e f k (subst (λ (p : ℕ). RunsAt (change (Half (node_site e).number p Input)
    (Put (IsHalf (EnabledBy (name_at e k))))) e (Ok tt) c.set_half.new.self)
    (address_stays a e c.args.channel (grows_on a d e (grows_on a b d c.stand-stand.ensures.grows
    c.sees_ports.ensures.looks.grows) c.in_ok-requires_no_other.ensures.grows) c.requires.channel ∙ c.requires.at)
    c.set_half.ensures.sets).grows in_e in
    let g = c.stands.new.self in
    (runs_then a b g k (see (Standing (name_at a k))) (waits ch) (IsStand (stand_of c.stand-stand.result))
    (c.stand-stand.ensures) in_a (Ok tt)
    (runs_then b b g k (spec.waiting (stand_of c.stand-stand.result)) (sees ch) (context_of c.in_ok-context.context)
    (c.in_ok-context.ensures b) in_b (Ok tt)
    (runs_then b d g k (see (Ports (name_at b k))) (asks ch (context_of c.in_ok-context.context))
    (ArePorts (ports_at b k)) (c.sees_ports.ensures.looks) in_b (Ok tt)
    (runs_then d e g k (spec.requires_no_other (node_site d) ch (ports_at b k))
    (puts ch (context_of c.in_ok-context.context)) (tt) (rw (ports_same b d k c.sees_ports.ensures.processes) at
    c.in_ok-requires_no_other.ensures) in_d (Ok tt)
    (runs_then e f g k (change (Half (node_site e).number ch Input) (Put (IsHalf (EnabledBy (name_at e k)))))
    (stands_chosen (context_of c.in_ok-context.context)) (tt)
    (subst (λ (p : ℕ). RunsAt (change (Half (node_site e).number p Input) (Put (IsHalf (EnabledBy (name_at e k))))) e
    (Ok tt) c.set_half.new.self) (address_stays a e c.args.channel
    (grows_on a d e (grows_on a b d c.stand-stand.ensures.grows c.sees_ports.ensures.looks.grows)
    c.in_ok-requires_no_other.ensures.grows) c.requires.channel ∙ c.requires.at) c.set_half.ensures.sets) in_e (Ok tt)
    (subst (λ (l : Context). RunsAt (stands (name_at f k) (Chosen l)) f (Ok tt) g) c.with_choice.ensures
    c.stands.ensures))))))
