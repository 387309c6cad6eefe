use Rattle.machine_tests.proofs.Shares.{three_stay}
use Rattle.machine_tests.proofs.threads.once_on_threads.Goals as goal

pub returns : goal.returns
returns g c =
    c.one_opening_stays.ensures c.args.workers.items _ c.requires
    (three_stay c.args.workers.items c.in_ok-workers.workers.items _ _ _ _ _ _ c.in_ok-first.ensures
    c.in_ok-workers.ensures c.in_ok-first-2.ensures)
