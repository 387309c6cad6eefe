use Rattle.benchmarks.proofs.free.turned.Goals as goal

pub gathered-requires : goal.gathered-requires
gathered-requires g c =
    c.one_opening_stays.ensures c.in_ok-workers.workers.items _ c.in_ok-workers.ensures c.turn.ensures
