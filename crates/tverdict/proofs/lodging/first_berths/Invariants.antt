use Rattle.std.proofs.Common.{◌≡◌, map}
use Rattle.std.specs.List.{range_with_len}
use Rattle.tverdict.specs.Lodging.{first_berth}
use Rattle.tverdict.proofs.lodging.first_berths.Given as goal

abbrev pub invariant-loop-place : goal.invariant-loop-place
invariant-loop-place l = l.berths.items ≡ map (first_berth l.count) (range_with_len 0 l.place)
