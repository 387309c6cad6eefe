use Rattle.std.proofs.Common.{arith, Ok, Bool, subst}
use Rattle.tprocesses.specs.Parts.{see}
use Rattle.tprocesses.specs.Places.{Name, HaltOnError}
use Rattle.tprocesses.specs.Standing.{goes_on}
use Rattle.tprocesses.specs.Values.{IsFlag}
use Rattle.tcertify.specs.Contexts.{context_of}
use Rattle.tcertify.specs.Nodes.{RunsAt, name_at}
use Rattle.tcertify.proofs.NodeFlags.{error_halts, error_set}
use Rattle.tcertify.proofs.NodeRunning.{grows_on, name_stays}
use Rattle.tcertify.proofs.node.Node.sets_error.Goals as goal

pub returns-then-sees_halt_on_error : goal.returns-then-sees_halt_on_error
returns-then-sees_halt_on_error c =
    let a = c.args.self.now in let b = c.sees_halt_on_error.new.self in
    error_halts a b (name_at a c.args.process) (context_of c.args.context.now)
    (subst (λ (t : Bool). RunsAt (see (HaltOnError a.words.number)) a (Ok (IsFlag t)) b)
    c.if-sees_halt_on_error.true c.sees_halt_on_error.ensures)

pub returns : goal.returns
returns c =
    let a = c.args.self.now in let b = c.sees_halt_on_error.new.self in let d = c.raises_error.new.self in
    let e = c.raises_flag_changed.new.self in
    let grown = grows_on a d e (grows_on a b d c.sees_halt_on_error.ensures.grows c.raises_error.ensures.grows)
    c.raises_flag_changed.ensures.grows in
    error_set a b (name_at a c.args.process) (context_of c.args.context.now) d e c.stands.new.self
    (subst (λ (t : Bool). RunsAt (see (HaltOnError a.words.number)) a (Ok (IsFlag t)) b)
    c.if-sees_halt_on_error.false c.sees_halt_on_error.ensures)
    c.raises_error.ensures c.raises_flag_changed.ensures
    (subst (λ (x : Name). RunsAt (goes_on x (context_of c.args.context.now)) e (Ok tt) c.stands.new.self)
    (name_stays a e c.args.process grown c.requires) c.stands.ensures)

pub stands-requires : goal.stands-requires
stands-requires c =
    omega (
      arith,
      c.requires,
      c.sees_halt_on_error.ensures.grows.processes,
      c.raises_error.ensures.grows.processes,
      c.raises_flag_changed.ensures.grows.processes,
    )
