-- Instructions in a row of a process that runs alone.
-- Source: own choice, words for contracts.
use Rattle.std.specs.Prelude.{ℕ, zero, suc, ◌+◌}
use Rattle.tproc.specs.Machine.{Control}

-- a control after k instructions of a process of this priority that runs alone: a low one counts them
abbrev pub alone_for : (priority count : ℕ) → Control → Control
alone_for zero k m = m
alone_for (suc p) k m = record m { count = m.count + k }
