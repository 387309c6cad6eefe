use Rattle.std.proofs.Common.{◌*◌, refl, rules}
use Rattle.trounds.proofs.PartNumbers.{behind_shares, numbered_front}
use Rattle.trounds.proofs.Skipped.{rest_front, rest_back}
use Rattle.trounds.proofs.split.+split.Goals as goal

pub do_shares-do_both-requires-clause-front : goal.do_shares-do_both-requires-clause-front
do_shares-do_both-requires-clause-front g t c κs within = record {
  workers = search rules;
  few = search rules;
  numbered = numbered_front (c.args.worker * c.args.shared.now.size) (c.half_of-half.result * c.args.shared.now.size)
      c.args.share.now c.requires.ready.numbered _ c.split_at_mut-front.ensures.front;
  ready = search rules;
}

pub do_shares-do_both-requires-clause-back : goal.do_shares-do_both-requires-clause-back
do_shares-do_both-requires-clause-back g t c κs within = record {
  workers = search rules;
  few = search rules;
  numbered = behind_shares c.args.worker c.half_of-half.result c.args.shared.now.size _ c.args.share.now _
      c.requires.ready.numbered refl c.split_at_mut-front.ensures.back;
  ready = search rules;
}

pub do_shares-do_both-requires-clause-front_rest : goal.do_shares-do_both-requires-clause-front_rest
do_shares-do_both-requires-clause-front_rest g t c κs within =
    rest_front c.args.awake c.args.share.now _ (c.half_of-half.result * c.args.shared.now.size)
    c.split_at_mut-front.ensures.front c.requires.rest

pub do_shares-do_both-requires-clause-back_rest : goal.do_shares-do_both-requires-clause-back_rest
do_shares-do_both-requires-clause-back_rest g t c κs within =
    rest_back c.args.awake c.behind-behind.result (c.half_of-half.result * c.args.shared.now.size)
    c.behind-behind.ensures c.args.share.now _ c.split_at_mut-front.ensures.back c.requires.rest
