use Rattle.std.proofs.Common.{◌≡◌, ◌++◌, drop, map}
use Rattle.std.specs.Prelude.{zip}
use Rattle.tcheck.specs.Checks.{file_wrongs, planned}
use Rattle.tcheck.specs.Wrongs.{each_from}
use Rattle.tcheck.proofs.images.planned_nodes.Given as goal

-- the plans so far and those that are left; what was found, and what is left
abbrev pub invariant-loop-number : goal.invariant-loop-number
invariant-loop-number l = record {
  plans : l.plans.items ++ map planned (zip (drop l.number l.nodes) (drop l.number l.files))
      ≡ map planned (zip l.nodes l.files);
  found : l.found.items ++ each_from file_wrongs l.number (drop l.number l.files)
      ≡ l.initial.found.items ++ each_from file_wrongs 0 l.files;
}
