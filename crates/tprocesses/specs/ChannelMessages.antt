-- Messages on internal channels: each of the two processes takes its half of the channel, and then the channel copies.
-- Source: the Compiler Writer's Guide (1988): channel words, messages. That both processes wait for the channel, and
-- the checks: own choice.
use Rattle.std.specs.Prelude.{ℕ, ◌==◌, Bool, true, false, None}
use Rattle.tword.specs.declared.breaks.Break.TheVariants.{LengthMismatch, ChannelMisuse}
use Rattle.tword.specs.declared.span.Span.{Span}
use Rattle.tword.specs.Touches.{word_place_break}
use Rattle.tproc.specs.declared.channels.Side.{Side}
use Rattle.tproc.specs.declared.channels.Side.TheVariants.{Input, Output}
use Rattle.tproc.specs.Channels.{mode_of}
use Rattle.tproc.specs.Queues.{not_process}
use Rattle.tprocesses.specs.Places.{Name, Half}
use Rattle.tprocesses.specs.Values.{Engaged, Context, Waits, Request, Holder, Nobody, TakenBy, AwaitedBy, IsWord}
use Rattle.tprocesses.specs.Values.{IsHalf, half_in}
use Rattle.tprocesses.specs.Changes.{Put, Engage, free_word}
use Rattle.tprocesses.specs.Parts.{Doing, stopping, see, change, require, unless, Breaks, HasNoStep, ◌>>=◌, ◌>>◌}
use Rattle.tprocesses.specs.Touching.{Site, word_number, word_place, word_for, touch, unsent, save, forgotten}
use Rattle.tprocesses.specs.Performing.{copied}
use Rattle.tprocesses.specs.Standing.{stands, forget, wakes}
use Rattle.tprocesses.specs.Choosing.{lets_go_on}

-- nobody has a half of a channel
abbrev pub is_nobody : Holder → Bool
is_nobody Nobody = true
is_nobody _ = false

-- a process takes its half of a channel, and waits
abbrev pub takes_half : Site → Name → Context → Side → (channel : ℕ) → (buffer : Span) → Doing
takes_half s x c side channel buffer = do
  unless (word_place_break s.size channel)
  half ← see (Half s.number channel side)
  require (is_nobody (half_in half)) (Breaks ChannelMisuse)
  change (Half s.number channel side) (Put (IsHalf (TakenBy (record { process = x; buffer = buffer }))))
  unsent s (word_number channel)
  save s c.wptr forgotten
  change (word_place s channel) Engage
  _ ← touch s (mode_of side) buffer
  stands x (Waits (forget c))

-- the two processes at a channel meet: the message is copied, and both are ready
abbrev pub meet : Site → (channel : ℕ) → (input output : Request) → Doing
meet s channel input output = do
  require (input.buffer.size == output.buffer.size) (Breaks LengthMismatch)
  _ ← word_for s Engaged (word_number channel)
  change (word_place s channel) (Put (IsWord (free_word not_process)))
  copied s output.buffer input.buffer
  wakes input.process None
  wakes output.process None
  change (Half s.number channel Input) (Put (IsHalf Nobody))
  change (Half s.number channel Output) (Put (IsHalf Nobody))

-- a channel copies where both its halves are taken, or makes the process go on that waits for it and for others
abbrev pub meet_if : Site → (channel : ℕ) → (input output : Holder) → Doing
meet_if s channel (TakenBy input) (TakenBy output) = meet s channel input output
meet_if s channel (AwaitedBy x) (TakenBy output) = lets_go_on s channel x
meet_if s channel _ _ = stopping HasNoStep

-- the step of a channel
abbrev pub channel_step : (channel : ℕ) → Site → Doing
channel_step channel s = do
  input ← see (Half s.number channel Input)
  output ← see (Half s.number channel Output)
  meet_if s channel (half_in input) (half_in output)
