-- Messages on links, with sources and sinks at their far ends.
-- Source: the Compiler Writer's Guide (1988) and the T414 data sheet: link channel words. The checks, sources and
-- sinks: own choice.
use Rattle.std.specs.Prelude.{ℕ, ◌==◌, ◌-◌, nat_le, pos, Bool, true, false, not, [], ◌∷◌, ◌++◌, length, replicate}
use Rattle.std.specs.Prelude.{Some, None}
use Rattle.tword.specs.declared.breaks.Break.TheVariants.{Unaligned, WrongEnd, ZeroLength, LinkBusy, LengthMismatch}
use Rattle.tword.specs.declared.span.Span.{Span}
use Rattle.tword.specs.Stores.{Store, as_cells}
use Rattle.tword.specs.Touches.{Reads, Writes, is_aligned}
use Rattle.tproc.specs.declared.channels.Side.{Side}
use Rattle.tproc.specs.declared.channels.Side.TheVariants.{Input, Output}
use Rattle.tproc.specs.LinkChannels.{link_of, is_right_end}
use Rattle.tplan.specs.declared.plan.End.{End}
use Rattle.tplan.specs.Wires.{end_at}
use Rattle.tprocesses.specs.Places.{Name, LinkHalf, Unfinished, Messages, Kept}
use Rattle.tprocesses.specs.Values.{Free, Receiving, Context, Waits, Link, Empty, Offered, Value, IsLink, IsFlag}
use Rattle.tprocesses.specs.Values.{AreMessages, AreKept, link_in, flag_in}
use Rattle.tprocesses.specs.Changes.{Put}
use Rattle.tprocesses.specs.Parts.{Part, gives, Doing, done, stopping, see, change, require, Breaks, FullSink}
use Rattle.tprocesses.specs.Parts.{HasNoStep}
use Rattle.tprocesses.specs.Parts.{◌>>=◌, ◌>>◌}
use Rattle.tprocesses.specs.Touching.{Site, word_number, word_count, touch, words_for, part_of, replaced, put}
use Rattle.tprocesses.specs.Touching.{count_outputs, save, kept}
use Rattle.tprocesses.specs.Standing.{stands, forget, wakes}

-- nothing is pending at a half of a link
abbrev pub is_empty : Link → Bool
is_empty Empty = true
is_empty _ = false

-- the process of the last message from an end has gone on
abbrev pub finished : Side → End → Doing
finished Output e = do
  unfinished ← see (Unfinished e)
  require (not (flag_in unfinished)) (Breaks LinkBusy)
finished Input e = done

-- the buffer of a message that is pending: that of an output may be read, that of an input not be used
abbrev pub lends : Side → Site → Span → Doing
lends Output s buffer = do
  _ ← touch s Reads buffer
  count_outputs s (pos 1) buffer
lends Input s buffer = do
  words ← touch s Writes buffer
  put s Receiving buffer (replaced buffer words (replicate buffer.size None))

-- a process offers a message on a link, or asks for one, and waits
abbrev pub takes_link : Site → Name → Context → Side → (channel : ℕ) → (buffer : Span) → Doing
takes_link s x c side channel buffer = let half = LinkHalf (end_at s.number (link_of side channel)) side in do
  require (is_aligned channel) (Breaks Unaligned)
  require (is_right_end side channel) (Breaks WrongEnd)
  require (not (buffer.size == 0)) (Breaks ZeroLength)
  pending ← see half
  require (is_empty (link_in pending)) (Breaks LinkBusy)
  finished side (end_at s.number (link_of side channel))
  change half (Put (IsLink (Offered (record { process = x; buffer = buffer }))))
  save s c.wptr kept
  lends side s buffer
  stands x (Waits (forget c))

-- the message of an output goes over: its bytes
abbrev pub sent_by : Site → End → Link → Part Store
sent_by s f (Offered output) = do
  words ← touch s Reads output.buffer
  change (LinkHalf f Output) (Put (IsLink Empty))
  change (Unfinished f) (Put (IsFlag true))
  wakes output.process (Some (record { link = f.link; buffer = output.buffer }))
  gives (part_of output.buffer words)
sent_by s f _ = stopping HasNoStep

-- a node sends
abbrev pub node_sends : End → Site → Part Store
node_sends f s = do
  half ← see (LinkHalf f Output)
  sent_by s f (link_in half)

-- the first message of a source is taken: its bytes
abbrev pub first_message : End → Value → Part Store
first_message f (AreMessages (m ∷ rest)) = do
  change (Messages f) (Put (AreMessages rest))
  gives (as_cells m)
first_message f _ = stopping HasNoStep

-- a source sends
abbrev pub source_sends : End → Part Store
source_sends f = do
  messages ← see (Messages f)
  first_message f messages

-- a message comes into the buffer of an input
abbrev pub received_by : Site → End → Store → Link → Doing
received_by s e message (Offered input) = do
  require (input.buffer.size == length message) (Breaks LengthMismatch)
  words ← words_for s Receiving (word_number input.buffer.start) (word_count input.buffer)
  put s Free input.buffer (replaced input.buffer words message)
  change (LinkHalf e Input) (Put (IsLink Empty))
  wakes input.process None
received_by s e message _ = stopping HasNoStep

-- a node receives
abbrev pub node_receives : Store → End → Site → Doing
node_receives message e s = do
  half ← see (LinkHalf e Input)
  received_by s e message (link_in half)

-- a message is kept after the others
abbrev pub keeps : End → Store → Value → Doing
keeps e message (AreKept room messages) = do
  require (nat_le (length message) room) FullSink
  change (Kept e) (Put (AreKept (room - length message) (messages ++ message ∷ [])))
keeps e message _ = stopping HasNoStep

-- a sink receives
abbrev pub sink_receives : Store → End → Doing
sink_receives message e = do
  messages ← see (Kept e)
  keeps e message messages
