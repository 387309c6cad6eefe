use Rattle.std.proofs.Common.{◌≡◌, take, true}
use Rattle.std.specs.List.{list_all}
use Rattle.tfree.specs.Turning.{had_memory}
use Rattle.tfree.proofs.turning.refusal.Given as goal

abbrev pub invariant-loop-ended : goal.invariant-loop-ended
invariant-loop-ended l = list_all had_memory (take l.ended-index l.endings) ≡ true
