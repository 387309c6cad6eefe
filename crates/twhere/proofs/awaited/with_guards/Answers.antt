use Rattle.std.proofs.Common.{ap, append-nil, List, ◌++◌}
use Rattle.twhere.specs.declared.waits.Wait.{Wait}
use Rattle.twhere.specs.Waits.{guard_at}
use Rattle.twhere.proofs.AwaitedNodes.{adds_none, adds_then}
use Rattle.twhere.proofs.awaited.with_guards.Goals as goal

pub returns : goal.returns
returns c =
    adds_then c.with_guard-first.ensures
    (adds_then c.with_guard-second.ensures
    (adds_then c.with_guard-third.ensures
    (adds_then c.with_guard.ensures (adds_none c.with_guard.result))))
