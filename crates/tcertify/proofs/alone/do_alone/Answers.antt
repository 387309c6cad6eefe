use Rattle.std.proofs.Common.{ap, ◌∙◌}
use Rattle.std.proofs.lemmas.Result.{err_from_is_err_and}
use Rattle.tcpu.specs.Effects.{effect}
use Rattle.tcertify.proofs.Actions.{answered, performs_alone}
use Rattle.tcertify.proofs.alone.do_alone.Goals as goal

pub returns-in_err-next-clause-done : goal.returns-in_err-next-clause-done
returns-in_err-next-clause-done c = λ s known t.
    let p = err_from_is_err_and c.from_residual.result c.from_residual.ensures.1 in
    let idle = c.args.idle.now in
    rw (p.1, p.2)
    (performs_alone (effect idle.memory.kind c.args.instruction c.args.registers.now) s known idle.memory.bytes
    idle.memory.bytes idle.marks c.requires t
    ∙ ap (λ x. (answered x, t)) c.in_err-next.ensures.done)

pub returns-clause-done : goal.returns-clause-done
returns-clause-done c = λ s known t.
    let idle = c.args.idle.now in
    performs_alone (effect idle.memory.kind c.args.instruction c.args.registers.now) s known idle.memory.bytes
    idle.memory.bytes idle.marks c.requires t
    ∙ ap (λ x. (answered x, t)) c.in_ok-next.ensures.done
