-- An output of a link that is over.
-- Source: own choice, a part of `takes_back` of `tprocesses`.
use Rattle.std.specs.Prelude.{ℕ, false}
use Rattle.tplan.specs.Wires.{end_at}
use Rattle.tprocesses.specs.Changes.{Put}
use Rattle.tprocesses.specs.Parts.{Doing, HasNoStep, change, require, see, ◌>>=◌, ◌>>◌}
use Rattle.tprocesses.specs.Places.{Unfinished}
use Rattle.tprocesses.specs.Touching.{Site}
use Rattle.tprocesses.specs.Values.{IsFlag, flag_in}

-- the output of a link whose message has gone over is free again
abbrev pub frees_output : Site → ℕ → Doing
frees_output s link = do
  unfinished ← see (Unfinished (end_at s.number link))
  require (flag_in unfinished) HasNoStep
  change (Unfinished (end_at s.number link)) (Put (IsFlag false))
