use Rattle.tproc.proofs.engine.Engine.send_laid.Goals as goal

pub returns : goal.returns
returns c =
    rw (c.behind_message.ensures, c.own.ensures.is, c.registers-r.ensures) at c.message.ensures
