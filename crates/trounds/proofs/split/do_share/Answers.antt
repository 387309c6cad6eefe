use Rattle.std.proofs.Common.{◌≡◌, ◌+◌, ◌≤◌, ◌<◌, arith, length, drop, set, refl, subst, sym, ◌∙◌, length-set}
use Rattle.std.specs.Int.{bit_at}
use Rattle.trounds.specs.RoundNodes.{part_so_far, part_by, station_of, IsReady}
use Rattle.trounds.proofs.PartLists.{same_at, same_after, one_more}
use Rattle.trounds.proofs.Skipped.{none_first, none_between, parts_over, left_over, rest_kept, NoneFrom}
use Rattle.trounds.proofs.split.do_share.Goals as goal

pub loop-place-init : goal.loop-place-init
loop-place-init g c = record {
  done = parts_over c.args.shared.now.rule c.args.awake c.args.share.now c.args.share.now c.requires.rest 0
      c.first-place.result (omega arith) (none_first _ _ c.first-place.ensures) refl refl refl;
  left = refl;
  rest = c.requires.rest;
  at = c.first-place.ensures;
}

pub part_of_round-requires : goal.part_of_round-requires
part_of_round-requires g c =
    subst IsReady
    (sym (same_at c.loop-place.share c.args.share.now c.loop-place.place c.index-share-place.result
    c.loop-place.invariant.left))
    (c.requires.ready.ready c.loop-place.place c.index-share-place.result (omega arith))

pub loop-place-preserved : goal.loop-place-preserved
loop-place-preserved g c =
    let within : c.loop-place.place < length c.loop-place.share = omega arith in
    let le : c.loop-place.place + 1 ≤ c.after-place.result = omega arith in
    let none : NoneFrom (c.loop-place.place + 1) c.after-place.result c.args.awake =
    none_between _ _ _ _ c.loop-place.invariant.at c.after-place.ensures.between in
    let here : bit_at c.args.awake.nodes c.loop-place.place ≡ 1 = c.loop-place.invariant.at.found (omega arith) in
    let rest = rest_kept c.args.awake c.loop-place.share c.loop-place.place c.part_of_round.new.self here
    c.loop-place.invariant.rest in
    let left : drop (c.loop-place.place + 1) (set c.loop-place.share c.loop-place.place c.part_of_round.new.self)
    ≡ drop (c.loop-place.place + 1) c.args.share.now =
    same_after c.loop-place.share c.args.share.now c.loop-place.place c.part_of_round.new.self within
    c.loop-place.invariant.left in
    record {
      done = parts_over c.args.shared.now.rule c.args.awake c.args.share.now _ rest (c.loop-place.place + 1)
          c.after-place.result le none
          (length-set c.loop-place.share c.loop-place.place c.part_of_round.new.self
          ∙ c.loop-place.auto.share) left
          (one_more part_so_far station_of (part_by c.args.shared.now.rule) c.loop-place.share
          c.args.share.now c.loop-place.place c.index-share-place.result c.part_of_round.new.self within
          c.loop-place.auto.share c.loop-place.invariant.done c.loop-place.invariant.left
          c.part_of_round.ensures);
      left = left_over _ c.args.share.now (c.loop-place.place + 1) c.after-place.result le left;
      rest = rest;
      at = c.after-place.ensures.left c.args.awake c.loop-place.invariant.at;
    }
