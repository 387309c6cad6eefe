-- How the nodes of a net are shared out among workers.
-- Source: own choice.
use Rattle.std.specs.Prelude.{ℕ, ◌+◌, ◌-◌, ◌/◌, Bool, ◌||◌, nat_lt}
use Rattle.tword.specs.Limits.{most_workers}

-- there is no worker, or there are more than may share a net
abbrev pub is_bad_count : ℕ → Bool
is_bad_count workers = nat_lt workers 1 || nat_lt most_workers workers

-- how many nodes a worker gets: as many as the others, rounded up
abbrev pub share : (nodes workers : ℕ) → ℕ
share nodes workers = (nodes + (workers - 1)) / workers
