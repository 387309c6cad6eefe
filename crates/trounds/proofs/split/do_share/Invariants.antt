use Rattle.std.proofs.Common.{◌≡◌, ◌-◌, take, drop, length}
use Rattle.trounds.specs.RoundNodes.{stations_of, parts_so_far, parts_by}
use Rattle.trounds.specs.AwakeNodes.{IsLeft, RestOutside}
use Rattle.trounds.proofs.split.do_share.Given as goal

abbrev pub invariant-loop-place : goal.invariant-loop-place
invariant-loop-place g l = record {
  done : take l.place (parts_so_far l.share)
      ≡ parts_by l.shared.rule (take l.place (stations_of l.initial.share));
  left : drop l.place l.share ≡ drop l.place l.initial.share;
  rest : RestOutside l.fn.awake l.share;
  at : IsLeft l.fn.awake l.left l.place;
}

abbrev pub decreases-loop-place : goal.decreases-loop-place
decreases-loop-place g l = length l.share - l.place
