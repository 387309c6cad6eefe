-- What may stand behind the links of a node: a processor, or a script at link 0. What a source and a sink are is
-- defined in `MessageLists`; here stands how a node keeps them, as the machine of a processor that runs nothing.
-- Source: own choice: what a node's surroundings send to it and take from it.
use Rattle.std.specs.Prelude.{ℕ, ◌+◌, Bool, true, false, ◌==◌, nat_lt, List, [], ◌∷◌, ◌++◌, drop, take}
use Rattle.std.specs.Prelude.{Option, Some, None}
use Rattle.tword.specs.declared.kind.Kind.TheVariants.{One}
use Rattle.tword.specs.Words.{most_neg}
use Rattle.tword.specs.Stores.{as_cells}
use Rattle.tproc.specs.declared.offer.Offer.{Offer}
use Rattle.tproc.specs.declared.waiter.LinkEnd.{LinkEnd}
use Rattle.tproc.specs.Machine.{Control, Machine}
use Rattle.tproc.specs.LinkChannels.{link_end, quiet_end}
use Rattle.tproc.specs.Links.{finish_input, finish_output}
use Rattle.tproc.specs.Opening.{no_processes}
use Rattle.tproc.specs.Scripts.{input_moved, output_set}
use Rattle.tlink.specs.declared.counts.Arrival.{Arrival}
use Rattle.tlink.specs.declared.counts.Counts.{Counts}

-- a processor; a source, with the lengths of its messages that are over and of the others; a sink, with the lengths of
-- the messages that it has kept. The memory of a source holds all its messages one behind another, and that of a sink
-- what it was sent, one behind another
pub data Role : Type 0 where
  Processor : Role
  Source : (over rest : List ℕ) → Role
  Sink : (kept : List ℕ) → Role

-- a control without a process, with this at link 0. It does no operation, so its kind is that of the T414
abbrev pub script_control : LinkEnd → Control
script_control e = record (no_processes 1 One) { links = e ∷ quiet_end ∷ quiet_end ∷ quiet_end ∷ [] }

-- a machine without a process, with this at link 0 and these bytes in its memory
abbrev pub script_machine : LinkEnd → List ℕ → Machine
script_machine e bytes = record { control = script_control e; store = as_cells bytes }

-- the first of the messages that lie from an address on, by their lengths
abbrev pub first_offer : ℕ → List ℕ → Option Offer
first_offer address [] = None
first_offer address (n ∷ ns) = Some (record { wdesc = 0; buffer = address; length = n })

-- a source offers the first of the messages that are not over
abbrev pub offering : ℕ → List ℕ → LinkEnd
offering address rest = record quiet_end { output = first_offer address rest }

-- a sink asks for what it has room for
abbrev pub asking : ℕ → ℕ → LinkEnd
asking address room = record quiet_end { input = Some (record { wdesc = 0; buffer = address; length = room }) }

-- the address behind an offer
abbrev pub address_behind : Option Offer → ℕ
address_behind None = most_neg
address_behind (Some o) = o.buffer + o.length

-- a source receives no byte
abbrev pub receives : Role → Bool
receives (Source over rest) = false
receives _ = true

-- a sink takes a byte where it has room for it; an input of a processor has room for all of its own
abbrev pub has_room : Role → Offer → Counts → Bool
has_room (Sink kept) o c = nat_lt c.got o.length
has_room _ o c = true

-- the byte that is taken is the last one of the input: of a sink by its mark, for it asks for no length
abbrev pub is_full : Role → Arrival → Offer → Counts → Bool
is_full (Sink kept) a o c = a.last
is_full _ a o c = c.got + 1 == o.length

-- an output is over: one more message of a source
abbrev pub role_woken : Role → Role
role_woken (Source over rest) = Source (over ++ take 1 rest) (drop 1 rest)
role_woken role = role

-- an output is over: its process is queued, or the source offers its next message
abbrev pub woken : Role → ℕ → Machine → Machine
woken (Source over rest) l m =
    record m {
      control = output_set l (first_offer (address_behind (link_end m.control l).output) (drop 1 rest)) m.control;
    }
woken _ l m = finish_output l m

-- a message of n bytes is complete: one more that a sink has kept
abbrev pub role_filled : ℕ → Role → Role
role_filled n (Sink kept) = Sink (kept ++ n ∷ [])
role_filled n role = role

-- a message of n bytes is complete: its process is queued, or the sink asks for what goes behind it
abbrev pub filled : Role → ℕ → ℕ → Machine → Machine
filled (Sink kept) l n m = record m { control = input_moved l n m.control }
filled _ l n m = finish_input l m

-- the message that the next byte of an input completes, if it is the last one: its whole buffer, or what a sink has got
-- with that byte
abbrev pub due : Role → Counts → Option Offer → Option Offer
due (Sink kept) c (Some o) = Some (record o { length = c.got + 1 })
due _ c o = o
