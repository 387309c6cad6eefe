-- Parts of messages on channels and links, and of a successor's step.
-- Source: own choice, parts of `tprocesses`.
use Rattle.std.specs.Prelude.{ℕ, suc, true, [], Some, None}
use Rattle.tword.specs.declared.span.Span.{Span}
use Rattle.tword.specs.Stores.{Store}
use Rattle.tplan.specs.declared.plan.End.{End}
use Rattle.tproc.specs.Channels.{mode_of}
use Rattle.tproc.specs.declared.channels.Side.{Side}
use Rattle.tproc.specs.declared.channels.Side.TheVariants.{Input, Output}
use Rattle.tprocesses.specs.Changes.{Engage, Put, free_word}
use Rattle.tprocesses.specs.LinkMessages.{lends}
use Rattle.tprocesses.specs.Parts.{Part, Doing, change, gives, see, ◌>>=◌, ◌>>◌}
use Rattle.tprocesses.specs.Performing.{copied}
use Rattle.tprocesses.specs.Places.{Name, After, Half, LinkHalf, Successions, Unfinished, WordAt}
use Rattle.tprocesses.specs.Standing.{comes, forget, fresh, stands, wakes}
use Rattle.tprocesses.specs.Touching.{Site, forgotten, kept, put, replaced, save, touch, unsent, word_count}
use Rattle.tprocesses.specs.Touching.{word_number}
use Rattle.tprocesses.specs.Touching.{word_place, words_for}
use Rattle.tprocesses.specs.Values as value
use Rattle.tprocesses.specs.Values.{Context, Free, Nobody, Receiving, Request, Waits, IsCount, IsFlag, IsHalf, IsLink}
use Rattle.tprocesses.specs.Values.{IsWord, count_in}

-- a process waits, with a buffer that may be touched as the message will
abbrev pub awaits : Site → Name → Context → Side → Span → Doing
awaits s x c side buffer = do
  _ ← touch s (mode_of side) buffer
  stands x (Waits (forget c))

-- the channel word is taken, and the process waits
abbrev pub marks : Site → Name → Context → Side → (channel : ℕ) → Span → Doing
marks s x c side channel buffer = do
  unsent s (word_number channel)
  save s c.wptr forgotten
  change (word_place s channel) Engage
  awaits s x c side buffer

-- two processes at a channel are ready, and its halves are free
abbrev pub leave : Site → (channel : ℕ) → (input output : Name) → Doing
leave s channel input output = do
  wakes input None
  wakes output None
  change (Half s.number channel Input) (Put (IsHalf Nobody))
  change (Half s.number channel Output) (Put (IsHalf Nobody))

-- a message passes at a channel
abbrev pub passes : Site → (channel : ℕ) → (input output : Request) → Doing
passes s channel input output = do
  copied s output.buffer input.buffer
  leave s channel input.process output.process

-- a process whose message pends waits
abbrev pub offers : Site → Name → Context → Side → Span → Doing
offers s x c side buffer = do
  save s c.wptr kept
  lends side s buffer
  stands x (Waits (forget c))

-- the message of an output has gone over: its process is ready, and these are its bytes
abbrev pub leaves_sent : End → Request → Store → Part Store
leaves_sent f output message = do
  change (LinkHalf f Output) (Put (IsLink value.Empty))
  change (Unfinished f) (Put (IsFlag true))
  wakes output.process (Some (record { link = f.link; buffer = output.buffer }))
  gives message

-- a message is put into the buffer of an input, whose process is ready
abbrev pub lays_down : Site → End → Store → Request → Doing
lays_down s e message input = do
  words ← words_for s Receiving (word_number input.buffer.start) (word_count input.buffer)
  put s Free input.buffer (replaced input.buffer words message)
  change (LinkHalf e Input) (Put (IsLink value.Empty))
  wakes input.process None

-- one more successor goes on at a workspace
abbrev pub succeeds : Site → (workspace priority iptr : ℕ) → Doing
succeeds s w priority iptr = do
  earlier ← see (Successions s.number w)
  change (Successions s.number w) (Put (IsCount (suc (count_in earlier))))
  comes s (record { node = s.number; root = After w (count_in earlier); path = [] }) (fresh priority w iptr) value.Runs

-- the count is a word for programs again, and the successor goes on
abbrev pub takes_over : Site → (k workspace priority iptr : ℕ) → Doing
takes_over s k w priority iptr = do
  unsent s k
  change (WordAt s.number k) (Put (IsWord (free_word 0)))
  succeeds s w priority iptr
