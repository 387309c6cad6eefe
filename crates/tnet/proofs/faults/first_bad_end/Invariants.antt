use Rattle.std.proofs.Common.{◌≡◌, length, drop}
use Rattle.std.specs.Prelude.{position}
use Rattle.std.specs.List.{list_any, position_from}
use Rattle.tnet.specs.Building.{is_bad_end, named_ends}
use Rattle.tnet.proofs.faults.first_bad_end.Given as goal

-- what is named from this place on decides
abbrev pub invariant-loop-place : goal.invariant-loop-place
invariant-loop-place l =
    position (list_any (is_bad_end (length l.plan.nodes))) (named_ends l.plan)
    ≡ position_from (list_any (is_bad_end (length l.plan.nodes))) l.place (drop l.place (named_ends l.plan))
