use Rattle.machine_tests.proofs.threads.turn_together.Goals as goal

pub returns : goal.returns
returns g c = c.one_opening_stays.ensures c.args.workers.now.items _ c.requires c.turn_list.ensures
