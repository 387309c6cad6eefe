use Rattle.std.proofs.Common.{◌≡◌, subst}
use Rattle.tnet.specs.Net.{NetState}
use Rattle.tnet.specs.Notes.{notes}
use Rattle.tnet.specs.Runs.{IsSeenRun}
use Rattle.tfree.specs.Gather.{IsWhy}
use Rattle.ttext.proofs.GatheredWorkers.{not_missing, of_opened}
use Rattle.ttext.proofs.free.run_free.Goals as goal

pub unreachable-requires : goal.unreachable-requires
unreachable-requires g c =
    not_missing c.opened_workers_stay.ensures c.args.net c.args.options.now.workers _ _ c.in_ok-share.ensures.answer
    c.in_ok-workers.ensures.same c.in-Err-Missing-default._number
    (subst (IsWhy c.in_ok-workers.workers.items) c.in-Err-Missing-default.field-0-0-is
    c.in-Err-Missing-default.ensures.why)

pub returns-in-Ok-clause-run : goal.returns-in-Ok-clause-run
returns-in-Ok-clause-run g c =
    of_opened c.opened_workers_stay.ensures c.args.net c.args.options.now.workers _ _ c.in_ok-share.ensures.answer
    c.in_ok-workers.ensures.same (λ (n : NetState). IsSeenRun n c.in-Ok.gathered.history c.in-Ok.gathered.net)
    c.in-Ok.ensures.run

pub returns-in-Ok-clause-told : goal.returns-in-Ok-clause-told
returns-in-Ok-clause-told g c =
    of_opened c.opened_workers_stay.ensures c.args.net c.args.options.now.workers _ _ c.in_ok-share.ensures.answer
    c.in_ok-workers.ensures.same (λ (n : NetState). c.in-Ok.gathered.notes ≡ notes c.in-Ok.gathered.history n)
    c.in-Ok.ensures.told
