-- Priorities as numbers.
-- Source: the Compiler Writer's Guide (1988): 0 is high, 1 is low.
use Rattle.std.specs.Prelude.{ℕ}
use Rattle.tcertify.specs.declared.priority.Priority.{Priority}
use Rattle.tcertify.specs.declared.priority.Priority.TheVariants.{High, Low}

-- the number of a priority
abbrev pub number_of : Priority → ℕ
number_of High = 0
number_of Low = 1
