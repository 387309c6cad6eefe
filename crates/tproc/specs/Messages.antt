-- The bytes of a message that is pending at a link.
-- Source: own choice, words for contracts.
use Rattle.std.specs.Prelude.{◌<◌, ◌+◌, ℕ, [], ◌∷◌, Option, Some, None, unwrap_or}
use Rattle.tword.specs.Stores.{with_cells, as_cells, byte_at}
use Rattle.tproc.specs.declared.offer.Offer.{Offer}
use Rattle.tproc.specs.Machine.{Machine}
use Rattle.tproc.specs.LinkChannels.{link_end}

-- the output that is pending at a link
abbrev pub output_of : Machine → ℕ → Option Offer
output_of m l = (link_end m.control l).output

-- the input that is pending at a link
abbrev pub input_of : Machine → ℕ → Option Offer
input_of m l = (link_end m.control l).input

-- a message is pending and has a byte of this number
abbrev pub HasByte : Option Offer → ℕ → Type 0
HasByte None k = ⊥
HasByte (Some o) k = k < o.length

-- the byte of this number of a message that is pending
abbrev pub byte_of : Option Offer → ℕ → Machine → ℕ
byte_of None k m = 0
byte_of (Some o) k m = unwrap_or (byte_at m.store (o.buffer + k)) 0

-- the byte of this number of a message that is pending is set
abbrev pub with_byte : Option Offer → ℕ → ℕ → Machine → Machine
with_byte None k byte m = m
with_byte (Some o) k byte m = record m { store = with_cells m.store (o.buffer + k) (as_cells (byte ∷ [])) }
