-- The halves of channels and links of a node: who waits there.
-- Source: own choice.
use Rattle.std.specs.Prelude.{ℕ, ◌≡◌, ◌⊎◌, true, false, length, Option, Some, None}
use Rattle.tword.specs.Stores.{word_at}
use Rattle.tword.specs.declared.span.Span.{Span}
use Rattle.tword.specs.Touches.{word_place_break}
use Rattle.tproc.specs.declared.offer.Offer.{Offer}
use Rattle.tproc.specs.declared.waiter.Reason.{Reason}
use Rattle.tproc.specs.declared.waiter.Reason.TheVariants.{Receives, Sends}
use Rattle.tproc.specs.declared.channels.Side.{Side}
use Rattle.tproc.specs.declared.channels.Side.TheVariants.{Input, Output}
use Rattle.tproc.specs.Machine.{Machine, buffer_of}
use Rattle.tproc.specs.ProcessStatus.{reason_of}
use Rattle.tproc.specs.LinkChannels.{link_end}
use Rattle.tnet.specs.Rendezvous.{Node, was_copied}
use Rattle.tplan.specs.Wires.{end_at}
use Rattle.tprocesses.specs.Places.{Place, Name, WordAt, Half, LinkHalf, Unfinished}
use Rattle.tprocesses.specs.Values.{Holder, TakenBy, Value, Request, Engaged, Link, Offered, Fired, IsHalf, IsLink}
use Rattle.tprocesses.specs.Values.{IsFlag, word_in}
use Rattle.tprocesses.specs.Machine.{is_offered}
use Rattle.tseen.specs.Choices.{enabler_at, remembered_at}
use Rattle.tprocesses.specs.Touching.{word_number}
use Rattle.tseen.specs.Seats.{Seat, Waiting}
use Rattle.tseen.specs.Outputs.{Pending, half_with, has_passed}
use Rattle.tseen.specs.Words.{use_at}

-- what a process waits for that waits at a half of an internal channel
abbrev pub reason_at : Side → (channel : ℕ) → Span → Reason
reason_at Input channel buffer = Receives channel buffer.start buffer.size
reason_at Output channel buffer = Sends channel buffer.start buffer.size

-- what a process asks for whose offer is pending
abbrev pub request_of : (Seat → Name) → Offer → Request
request_of named o = record { process = named (Waiting o.wdesc); buffer = buffer_of o }

-- what stands at the half of a link that has the input: an offer that is pending, or whether a process has enabled it
abbrev pub IsInput : (Seat → Name) → Option Offer → Value → Type 0
IsInput named None v = (h : Link) × (v ≡ IsLink h) × (is_offered h ≡ false)
IsInput named (Some o) v = v ≡ IsLink (Offered (request_of named o))

module _ (s : Place → Value) (n : ℕ) (named : Seat → Name) where
  -- a half of an internal channel is taken by a process that waits for it: its descriptor is in the channel
  pub record IsTakenHalf (m : Machine) (channel : ℕ) (side : Side) (q : Request) : Type 0 where
    pub process : ℕ
    pub name : named (Waiting process) ≡ q.process
    pub waits : reason_of m.control process ≡ Some (reason_at side channel q.buffer)
    pub channel_word : word_at m.store channel ≡ process
    pub engaged : use_at s n channel ≡ Engaged
    -- the channel word lies in the memory, where programs may use it
    pub placed : word_place_break (length m.store) channel ≡ None

  -- a process has a half of a channel, or has enabled it
  abbrev pub HasHolder : (channel : ℕ) → Type 0
  HasHolder channel =
      ((side : Side) × (q : Request) × (s (Half n channel side) ≡ IsHalf (TakenBy q)))
      ⊎ ((x : Name) × (enabler_at s n channel ≡ Some x))

  -- the internal channels
  pub record ShowsChannels (m : Machine) : Type 0 where
    -- each half that is taken is that of a process that waits
    pub taken : (channel : ℕ) (side : Side) (q : Request) → s (Half n channel side) ≡ IsHalf (TakenBy q)
        → IsTakenHalf m channel side q
    -- each half has its holder
    pub halves : (channel : ℕ) (side : Side) → (h : Holder) × (s (Half n channel side) ≡ IsHalf h)
    -- each process that waits on a channel has its half
    pub waiting : (process channel : ℕ) (side : Side) (buffer : Span)
        → reason_of m.control process ≡ Some (reason_at side channel buffer)
        → s (Half n channel side) ≡ IsHalf (TakenBy (record { process = named (Waiting process); buffer = buffer }))
    -- a word in use as a channel is one that somebody has
    pub engaged : (k : ℕ) → (word_in (s (WordAt n k))).used ≡ Engaged
        → (channel : ℕ) × (word_number channel ≡ k) × HasHolder channel

  -- a link
  pub record ShowsLink (sent : ℕ → Option Pending) (node : Node) (l : ℕ) : Type 0 where
    pub input : IsInput named (link_end node.machine.control l).input (s (LinkHalf (end_at n l) Input))
    pub output : s (LinkHalf (end_at n l) Output) ≡ IsLink (half_with (sent l))
    -- whether the process of the last output has still to go on
    pub unfinished : s (Unfinished (end_at n l)) ≡ IsFlag (has_passed (sent l))
    -- an output that is pending is not over
    pub offered : (o : Offer) → (link_end node.machine.control l).output ≡ Some o
        → sent l ≡ Some (record { request = request_of named o; copied = was_copied node l })
    -- an output that was copied is pending
    pub fresh : (link_end node.machine.control l).output ≡ None → was_copied node l ≡ false
    -- no byte is noticed where an input is pending
    pub unnoticed : (o : Offer) → (link_end node.machine.control l).input ≡ Some o
        → (link_end node.machine.control l).noticed ≡ false
    -- a process that has enabled the input is remembered, until a byte is noticed
    pub remembered : (link_end node.machine.control l).noticed ≡ false
        → (link_end node.machine.control l).remembered ≡ remembered_at s n l
    pub forgotten : (link_end node.machine.control l).noticed ≡ true
        → (link_end node.machine.control l).remembered ≡ None
    -- an input that made its process go on has noticed a byte
    pub fired : (x : Name) → s (LinkHalf (end_at n l) Input) ≡ IsLink (Fired x)
        → (link_end node.machine.control l).noticed ≡ true
    -- one whose message has not gone over is pending
    pub pending : (p : Pending) → sent l ≡ Some p → p.copied ≡ false
        → (o : Offer) × ((link_end node.machine.control l).output ≡ Some o)
