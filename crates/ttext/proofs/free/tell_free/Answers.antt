use Rattle.std.proofs.Common.{◌≡◌, subst}
use Rattle.tnet.specs.Net.{NetState}
use Rattle.tnet.specs.Notes.{notes}
use Rattle.tnet.specs.Runs.{IsSeenRun}
use Rattle.tfree.specs.Gather.{IsWhy}
use Rattle.ttext.proofs.GatheredWorkers.{not_missing, of_opened}
use Rattle.ttext.proofs.free.tell_free.Goals as goal

pub unreachable-requires : goal.unreachable-requires
unreachable-requires g c =
    not_missing c.opened_workers_stay.ensures c.args.net c.args.options.now.workers _ _ c.in_ok-share.ensures.answer
    c.in_ok-workers.ensures.same c.in-Err-Missing-default._number
    (subst (IsWhy c.in_ok-workers.workers.items) c.in-Err-Missing-default.field-0-0-is
    c.in-Err-Missing-default.ensures.why)

pub returns-in-Ok-clause-answer : goal.returns-in-Ok-clause-answer
returns-in-Ok-clause-answer g c =
    let t = c.in-Ok.ensures.told in
    record {
      history = t.history;
      free = record {
        fresh = c.in_ok-share.field-0.items;
        turned = c.in_ok-workers.workers.items;
        shared = c.in_ok-share.ensures.answer;
        turns = c.in_ok-workers.ensures.turns;
        gathered = t.gathered;
      };
      run = of_opened c.opened_workers_stay.ensures c.args.net c.args.options.now.workers _ _
          c.in_ok-share.ensures.answer c.in_ok-workers.ensures.same
          (λ (n : NetState). IsSeenRun n t.history c.in-Ok.told.net) t.run;
      notes_told = of_opened c.opened_workers_stay.ensures c.args.net c.args.options.now.workers _ _
          c.in_ok-share.ensures.answer c.in_ok-workers.ensures.same
          (λ (n : NetState). c.in-Ok.told.notes ≡ notes t.history n) t.notes_told;
    }
