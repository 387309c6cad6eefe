use Rattle.std.proofs.Common.{◌∙◌, sym, refl}
use Rattle.tproc.proofs.StateLists.{no_reason, not_found, not_queued, queued_so, waits_so}
use Rattle.tproc.proofs.engine.Engine.status.Goals as goal

pub status_elsewhere-requires : goal.status_elsewhere-requires
status_elsewhere-requires c =
    (not_found c.args.self.now.state c.args.process c.in-None.ensures).1

pub returns-in-Some-reason-clause-stands : goal.returns-in-Some-reason-clause-stands
returns-in-Some-reason-clause-stands c =
    rw (
      c.in-Some-reason.is,
      waits_so c.args.self.now.state c.args.process c.in-Some.entry c.in-Some-reason.reason c.in-Some.ensures
          c.in-Some-reason.is,
    ) refl

pub returns-in-None-reason-clause-stands : goal.returns-in-None-reason-clause-stands
returns-in-None-reason-clause-stands c =
    let so = queued_so c.args.self.now.state c.args.process c.in-Some.entry c.in-Some.ensures c.in-None-reason.is in
    rw (so.0, so.1) refl

pub returns-in-None-reason-clause-queued : goal.returns-in-None-reason-clause-queued
returns-in-None-reason-clause-queued c =
    (queued_so c.args.self.now.state c.args.process c.in-Some.entry c.in-Some.ensures c.in-None-reason.is).1

pub returns-in-None-clause-stands : goal.returns-in-None-clause-stands
returns-in-None-clause-stands c =
    let so = not_found c.args.self.now.state c.args.process c.in-None.ensures in
    c.status_elsewhere.ensures ∙ rw so.0 refl

pub returns-in-None-clause-waits : goal.returns-in-None-clause-waits
returns-in-None-clause-waits c =
    let so = not_found c.args.self.now.state c.args.process c.in-None.ensures in
    rw c.status_elsewhere.ensures (so.0 ∙ sym (no_reason c.args.self.now.state c.args.process))

pub returns-in-None-clause-queued : goal.returns-in-None-clause-queued
returns-in-None-clause-queued c =
    rw c.status_elsewhere.ensures
    (not_queued c.args.self.now.state c.args.process
    (not_found c.args.self.now.state c.args.process c.in-None.ensures).1)
