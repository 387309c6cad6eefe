-- A processor's links where a script stands in for its processes.
-- Source: own choice.
use Rattle.std.specs.Prelude.{ℕ, ◌+◌, ◌-◌, Option, option_map}
use Rattle.tproc.specs.declared.offer.Offer.{Offer}
use Rattle.tproc.specs.Machine.{Control}
use Rattle.tproc.specs.LinkChannels.{link_end, with_link}

-- what is left of an offer behind n bytes
abbrev pub offer_moved : ℕ → Offer → Offer
offer_moved n o = record o { buffer = o.buffer + n; length = o.length - n }

-- the input of a link goes on behind n bytes
abbrev pub input_moved : ℕ → ℕ → Control → Control
input_moved l n c =
    with_link l (record (link_end c l) { input = option_map (offer_moved n) (link_end c l).input }) c

-- the output of a link is this one from now on
abbrev pub output_set : ℕ → Option Offer → Control → Control
output_set l o c = with_link l (record (link_end c l) { output = o }) c
