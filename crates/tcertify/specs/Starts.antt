-- How a process is added, in two parts.
-- Source: own choice, parts of `comes` of `tprocesses`.
use Rattle.std.specs.Prelude.{ℕ, pos}
use Rattle.tword.specs.declared.breaks.Break.TheVariants.{AlreadyLive}
use Rattle.tprocesses.specs.Changes.{Add}
use Rattle.tprocesses.specs.Parts.{Doing, see, change, require, Breaks, HasNoStep, ◌>>=◌, ◌>>◌}
use Rattle.tprocesses.specs.Places.{Name, Life, Standing}
use Rattle.tprocesses.specs.Standing.{is_absent, stands}
use Rattle.tprocesses.specs.Touching.{Site, is_zero}
use Rattle.tprocesses.specs.Values as value
use Rattle.tprocesses.specs.Values.{Stand, amount_in, stand_in}
use Rattle.tcertify.specs.declared.start.Start.{Start}
use Rattle.tcertify.specs.declared.start.Start.TheVariants as start

-- where a process stands that begins so
abbrev pub start_of : Start → value.Context → Stand
start_of start.Rests c = value.Rests c
start_of start.Runs c = value.Runs c

-- a workspace that no process has gets a process
abbrev pub begins_life : Site → ℕ → Doing
begins_life s w = do
  life ← see (Life s.number w)
  require (is_zero (amount_in life)) (Breaks AlreadyLive)
  change (Life s.number w) (Add (pos 1))

-- a process that was not there stands there now
abbrev pub joins : Name → Stand → Doing
joins x stand = do
  stood ← see (Standing x)
  require (is_absent (stand_in stood)) HasNoStep
  stands x stand
