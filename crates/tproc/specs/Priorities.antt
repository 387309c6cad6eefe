-- The number of a priority.
-- Source: the Compiler Writer's Guide (1988): the lowest bit of a descriptor.
use Rattle.std.specs.Prelude.{ℕ}
use Rattle.tproc.specs.declared.priority.Priority.{Priority}
use Rattle.tproc.specs.declared.priority.Priority.TheVariants.{High, Low}

-- 0 is high, 1 is low
abbrev pub number : Priority → ℕ
number High = 0
number Low = 1
