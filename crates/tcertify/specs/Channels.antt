-- The channels and links of a node by their addresses and numbers.
-- Source: own choice.
use Rattle.std.specs.Prelude.{ℕ, ◌≡◌, ◌<◌, ◌==◌, Bool, false, List, find, Option, Some, None, slice_get, slice_set}
use Rattle.std.specs.Prelude.{unwrap_or}
use Rattle.tproc.specs.declared.channels.Side as machine
use Rattle.tproc.specs.declared.channels.Side.TheVariants as machines
use Rattle.tprocesses.specs.Places.{Name}
use Rattle.tprocesses.specs.Values as value
use Rattle.tcertify.specs.declared.channel.Channel.{Channel}
use Rattle.tcertify.specs.declared.channel.Half.{Half}
use Rattle.tcertify.specs.declared.channel.Holder.{Holder}
use Rattle.tcertify.specs.declared.channel.Holder.TheVariants as holder
use Rattle.tcertify.specs.declared.channel.LinkHalf.{LinkHalf}
use Rattle.tcertify.specs.declared.channel.LinkHalf.TheVariants as half
use Rattle.tcertify.specs.declared.channel.Links.{Links}
use Rattle.tcertify.specs.declared.channel.Request.{Request}
use Rattle.tcertify.specs.declared.side.Side.{Side}
use Rattle.tcertify.specs.declared.side.Side.TheVariants.{Input, Output}
use Rattle.tcertify.specs.Processes.{name_in}

-- the address of a channel
abbrev pub address_of : Channel → ℕ
address_of c = c.address

-- a process that waits at a channel, where the processes have these names
abbrev pub request_of : List Name → Request → value.Request
request_of names r = record { process = name_in names r.process; buffer = r.buffer }

-- who has a half of a channel
abbrev pub holder_of : List Name → Holder → value.Holder
holder_of names holder.Nobody = value.Nobody
holder_of names (holder.Taken r) = value.TakenBy (request_of names r)
holder_of names (holder.Enabled k) = value.EnabledBy (name_in names k)
holder_of names (holder.Awaited k) = value.AwaitedBy (name_in names k)

-- a half of a channel
abbrev pub half_of : Side → Channel → Half
half_of Input c = c.input
half_of Output c = c.output

-- who has it, if there is the channel
abbrev pub held_half : List Name → Side → Option Channel → value.Holder
held_half names side (Some c) = holder_of names (half_of side c).holder
held_half names side None = value.Nobody

-- who has a half of the channel at an address
abbrev pub half_among : List Name → List Channel → ℕ → machine.Side → value.Holder
half_among names channels address machines.Input =
    held_half names Input (find (λ c. c.address == address) channels)
half_among names channels address machines.Output =
    held_half names Output (find (λ c. c.address == address) channels)

-- a half of a link
abbrev pub link_of : List Name → LinkHalf → value.Link
link_of names half.Empty = value.Empty
link_of names (half.Offered r) = value.Offered (request_of names r)
link_of names (half.Enabled k) = value.Enabled (name_in names k)
link_of names (half.Awaited k) = value.Awaited (name_in names k)
link_of names (half.Fired k) = value.Fired (name_in names k)

-- a half of a link that the node has
abbrev pub link_or_empty : List Name → Option LinkHalf → value.Link
link_or_empty names (Some l) = link_of names l
link_or_empty names None = value.Empty

-- the halves of this side
abbrev pub halves_of : Side → Links → List LinkHalf
halves_of Input l = l.inputs
halves_of Output l = l.outputs

-- a half of the link of this number
abbrev pub link_among : List Name → Links → ℕ → machine.Side → value.Link
link_among names links k machines.Input = link_or_empty names (slice_get links.inputs k)
link_among names links k machines.Output = link_or_empty names (slice_get links.outputs k)

-- the message of the output of the link of this number has gone over, and its process has not gone on
abbrev pub unfinished_among : Links → ℕ → Bool
unfinished_among links k = unwrap_or (slice_get links.unfinished k) false

-- the number of the process that has a half of a channel
abbrev pub process_in : Holder → Option ℕ
process_in holder.Nobody = None
process_in (holder.Taken r) = Some r.process
process_in (holder.Enabled k) = Some k
process_in (holder.Awaited k) = Some k

-- whoever has a half of a channel is among the first processes, as many as this
abbrev pub IsKnownHolder : ℕ → Holder → Type 0
IsKnownHolder count h = (k : ℕ) → process_in h ≡ Some k → k < count

-- the number of the process that has a half of a link
abbrev pub process_on : LinkHalf → Option ℕ
process_on half.Empty = None
process_on (half.Offered r) = Some r.process
process_on (half.Enabled k) = Some k
process_on (half.Awaited k) = Some k
process_on (half.Fired k) = Some k

-- whoever has a half of a link is among the first processes, as many as this
abbrev pub IsKnownHalf : ℕ → LinkHalf → Type 0
IsKnownHalf count h = (k : ℕ) → process_on h ≡ Some k → k < count

-- whoever has a half of a channel or of a link is among the first processes, as many as this
pub record AreKnown (count : ℕ) (channels : List Channel) (links : Links) : Type 0 where
  pub at_channels : (i : ℕ) (c : Channel) (side : Side) → slice_get channels i ≡ Some c
      → IsKnownHolder count (half_of side c).holder
  pub at_links : (k : ℕ) (side : Side) (h : LinkHalf) → slice_get (halves_of side links) k ≡ Some h
      → IsKnownHalf count h

-- a channel of which somebody has a half, or nobody
abbrev pub with_holder : Side → Holder → Channel → Channel
with_holder Input h c = record c { input = record c.input { holder = h } }
with_holder Output h c = record c { output = record c.output { holder = h } }

-- channels of which a half has this holder now, and the number of its place
pub record IsHalfSet (old : List Channel) (k : ℕ) (side : Side) (h : Holder) (at : ℕ)
    (new : List Channel) : Type 0 where
  pub channel : Channel
  pub there : slice_get old k ≡ Some channel
  pub set : new ≡ slice_set old k (with_holder side h channel)
  pub place : (half_of side channel).place ≡ at

-- links of which a half is so now
abbrev pub IsLinkSet : Links → ℕ → Side → LinkHalf → Links → Type 0
IsLinkSet old k Input h new = new ≡ record old { inputs = slice_set old.inputs k h }
IsLinkSet old k Output h new = new ≡ record old { outputs = slice_set old.outputs k h }

-- links of which the output of one has gone over now, or is over
abbrev pub IsUnfinishedSet : Links → ℕ → Bool → Links → Type 0
IsUnfinishedSet old k unfinished new = new ≡ record old { unfinished = slice_set old.unfinished k unfinished }

-- a channel of which nobody has a half, with the places of its halves
abbrev pub free_channel : (address input output : ℕ) → Channel
free_channel address input output =
    record {
      address = address;
      input = record { holder = holder.Nobody; place = input };
      output = record { holder = holder.Nobody; place = output };
    }

-- nothing pends at any half, and each output is over
pub record AreEmpty (l : Links) : Type 0 where
  pub halves : (k : ℕ) (side : Side) (h : LinkHalf) → slice_get (halves_of side l) k ≡ Some h → h ≡ half.Empty
  pub finished : (k : ℕ) (unfinished : Bool) → slice_get l.unfinished k ≡ Some unfinished → unfinished ≡ false
