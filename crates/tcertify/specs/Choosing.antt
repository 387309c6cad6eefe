-- Parts of the instructions of alternatives.
-- Source: own choice, parts of `tprocesses`.
use Rattle.std.specs.Prelude.{ℕ, ◌==◌, ◌||◌, Bool, if◌then◌else◌}
use Rattle.tword.specs.declared.breaks.Break.TheVariants.{LinkBusy}
use Rattle.tplan.specs.declared.plan.End.{End}
use Rattle.tproc.specs.declared.channels.Side.TheVariants.{Input, Output}
use Rattle.tproc.specs.LinkChannels.{is_link}
use Rattle.tprocesses.specs.Changes.{Put, used_word}
use Rattle.tprocesses.specs.Choosing.{awaits_channel, awaits_link, begins_to_listen, changes_ports, enables}
use Rattle.tprocesses.specs.Choosing.{enables_link, frees_word}
use Rattle.tprocesses.specs.Choosing.{requires_silence, without_port}
use Rattle.tprocesses.specs.Machine.{is_passable}
use Rattle.tprocesses.specs.Parts.{Part, Doing, Breaks, change, done, gives, require, see, ◌>>=◌, ◌>>◌}
use Rattle.tprocesses.specs.Places.{Name, Half, LinkHalf, same_name}
use Rattle.tprocesses.specs.Touching.{Site, unsent, word_for, word_number, word_place}
use Rattle.tprocesses.specs.Values.{Context, Engaged, IsHalf, IsWord, Nobody, Use}

-- the word at an address, whose bytes are not known any more, gets a use
abbrev pub puts_state : Site → (address : ℕ) → Use → Doing
puts_state s address u = change (word_place s address) (Put (IsWord (used_word u)))

-- a channel or the input of a link is enabled
abbrev pub enables_any : Site → Name → (channel : ℕ) → Doing
enables_any s x channel = if is_link channel then enables_link s x channel else enables s x channel

-- a process waits for a channel or for the input of a link that it has enabled
abbrev pub awaits_port : Site → Name → (channel : ℕ) → Doing
awaits_port s x channel = if is_link channel then awaits_link s x channel else awaits_channel s x channel

-- a process gives up the input of a channel, whose word is free where it is not ready
abbrev pub gives_up : Site → Name → (channel : ℕ) → (ready : Bool) → Part Bool
gives_up s x channel ready = do
  change (Half s.number channel Input) (Put (IsHalf Nobody))
  _ ← word_for s Engaged (word_number channel)
  unsent s (word_number channel)
  frees_word s channel ready
  changes_ports x (without_port channel)
  gives ready

-- a process listens to the input of a link that a process has enabled, if it is that one
abbrev pub listens_if : Site → Name → Context → (channel : ℕ) → (other : Name) → Doing
listens_if s x c channel y = do
  require (same_name y x) (Breaks LinkBusy)
  begins_to_listen s x c channel

-- whether a message is offered at the output of a link
abbrev pub offers_at : End → Part Bool
offers_at f = do
  offered ← see (LinkHalf f Output)
  gives (is_passable (LinkHalf f Output) offered)

-- no message is sent on an internal channel, if it is another one
abbrev pub asks_other : Site → (channel d : ℕ) → Doing
asks_other s channel d = if (d == channel) || is_link d then done else requires_silence s d
