-- What a node has at its places except for its words, as functions of names, addresses and numbers.
-- Source: own choice.
use Rattle.std.specs.Prelude.{ℕ, zero, suc, ◌==◌, ℤ, pos, Bool, false, List, if◌then◌else◌}
use Rattle.tproc.specs.declared.channels.Side.{Side}
use Rattle.tprocesses.specs.Places.{Name, Standing, Ports, Half, LinkHalf, Unfinished, Error, HaltOnError, Life}
use Rattle.tprocesses.specs.Places.{Successions, Population, HasRun, FlagChanged}
use Rattle.tprocesses.specs.Values.{Stand, Holder, Link, IsStand, ArePorts, IsHalf, IsLink, IsFlag, IsAmount, IsCount}
use Rattle.tcertify.specs.Running.{State}

pub record Board : Type 0 where
  pub node : ℕ
  pub stand : Name → Stand
  pub ports : Name → List ℕ
  pub half : ℕ → Side → Holder
  pub link : ℕ → Side → Link
  pub unfinished : ℕ → Bool
  pub error : Bool
  pub halt_on_error : Bool
  pub is_flag_changed : Bool
  pub life : ℕ → ℤ
  pub successions : ℕ → ℕ
  pub population : ℕ
  pub has_run : ℕ → Bool

-- whether a process of this priority has run
abbrev pub has_run_at : (high low : Bool) → ℕ → Bool
has_run_at high low zero = high
has_run_at high low (suc zero) = low
has_run_at high low (suc (suc p)) = false

-- a state in which the places of a node have this, except for its words
abbrev pub board_at : Board → State → State
board_at b s (Standing x) = if b.node == x.node then IsStand (b.stand x) else s (Standing x)
board_at b s (Ports x) = if b.node == x.node then ArePorts (b.ports x) else s (Ports x)
board_at b s (Half n c side) = if b.node == n then IsHalf (b.half c side) else s (Half n c side)
board_at b s (LinkHalf e side) = if b.node == e.node then IsLink (b.link e.link side) else s (LinkHalf e side)
board_at b s (Unfinished e) = if b.node == e.node then IsFlag (b.unfinished e.link) else s (Unfinished e)
board_at b s (Error n) = if b.node == n then IsFlag b.error else s (Error n)
board_at b s (HaltOnError n) = if b.node == n then IsFlag b.halt_on_error else s (HaltOnError n)
board_at b s (FlagChanged n) = if b.node == n then IsFlag b.is_flag_changed else s (FlagChanged n)
board_at b s (Life n w) = if b.node == n then IsAmount (b.life w) else s (Life n w)
board_at b s (Successions n w) = if b.node == n then IsCount (b.successions w) else s (Successions n w)
board_at b s (Population n) = if b.node == n then IsAmount (pos b.population) else s (Population n)
board_at b s (HasRun n p) = if b.node == n then IsFlag (b.has_run p) else s (HasRun n p)
board_at b s p = s p
