use Rattle.std.proofs.Common.{◌*◌, rules, arith}
use Rattle.trounds.proofs.PartNumbers.{behind_shares, numbered_front}
use Rattle.trounds.proofs.Skipped.{rest_front, rest_back}
use Rattle.trounds.proofs.split.+do_in_turn.Goals as goal

pub enter_share-requires-2 : goal.enter_share-requires-2
enter_share-requires-2 g t c = record {
  ready = record {
    workers = search rules;
    few = search rules;
    numbered = numbered_front (c.args.worker * c.args.shared.now.size) c.args.shared.now.size c.args.share.now
        c.requires.ready.numbered _ c.split_at_mut-front.ensures.front;
    ready = search rules;
  };
  rest = rest_front c.args.awake c.args.share.now _ c.args.shared.now.size c.split_at_mut-front.ensures.front
      c.requires.rest;
}

pub do_in_turn-requires : goal.do_in_turn-requires
do_in_turn-requires g t c κs within = (
  search rules,
  (
    search rules,
    (
      record {
        workers = search rules;
        few = search rules;
        numbered = behind_shares c.args.worker 1 c.args.shared.now.size c.args.shared.now.size c.args.share.now _
            c.requires.ready.numbered (omega arith) c.split_at_mut-front.ensures.back;
        ready = search rules;
      },
      rest_back c.args.awake c.behind-behind.result c.args.shared.now.size c.behind-behind.ensures c.args.share.now _
          c.split_at_mut-front.ensures.back c.requires.rest,
    ),
  ),
)
