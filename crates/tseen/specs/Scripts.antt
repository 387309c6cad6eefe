-- Sources and sinks: the messages still to come, and those kept.
-- Source: own choice.
use Rattle.std.specs.Prelude.{ℕ, suc, ◌≡◌, ◌+◌, ◌≤◌, Bool, true, false, List, [], ◌∷◌, drop, map, sum, length, Some}
use Rattle.std.specs.Prelude.{None}
use Rattle.tword.specs.Stores.{Store, place, cells, shown, as_cells}
use Rattle.tword.specs.Words.{most_neg}
use Rattle.tlink.specs.Roles.{Source, Sink, first_offer}
use Rattle.tplan.specs.declared.plan.End.{End}
use Rattle.tproc.specs.LinkChannels.{link_end}
use Rattle.tnet.specs.Rendezvous.{Node, was_copied}
use Rattle.tproc.specs.declared.channels.Side.TheVariants.{Output}
use Rattle.tprocesses.specs.Places.{Place, LinkHalf, Messages, Kept}
use Rattle.tprocesses.specs.Values.{Value, Empty, IsLink, AreMessages, AreKept}
use Rattle.tseen.specs.Known.{KnowsMessages}

-- messages of these lengths that lie one behind another from an address on
abbrev pub messages_from : Store → (address : ℕ) → List ℕ → List Store
messages_from store address [] = []
messages_from store address (length ∷ rest) =
    cells store address length ∷ messages_from store (address + length) rest

-- the messages that have not gone over: the first of a source may have, and still be pending
abbrev pub to_come : Bool → List Store → List (List ℕ)
to_come true messages = map shown (drop 1 messages)
to_come false messages = map shown messages

module _ (s : Place → Value) (e : End) where
  -- a source
  pub record ShowsSource (node : Node) : Type 0 where
    pub works : node.broken ≡ None
    pub over : List ℕ
    pub rest : List ℕ
    pub role : node.role ≡ Source over rest
    -- no byte of its memory is hidden
    pub seen : as_cells (shown node.machine.store) ≡ node.machine.store
    -- its messages lie in its memory
    pub address : ℕ
    pub above : most_neg ≤ address
    pub lies : place address + sum rest ≤ length node.machine.store
    pub output : (link_end node.machine.control 0).output ≡ first_offer address rest
    pub input : (link_end node.machine.control 0).input ≡ None
    pub messages : s (Messages e)
        ≡ AreMessages (to_come (was_copied node 0) (messages_from node.machine.store address rest))

  -- a sink
  pub record ShowsSink (node : Node) : Type 0 where
    pub works : node.broken ≡ None
    pub kept : List ℕ
    pub role : node.role ≡ Sink kept
    pub room : ℕ
    pub input : (link_end node.machine.control 0).input
        ≡ Some (record { wdesc = 0; buffer = most_neg + sum kept; length = room })
    pub output : (link_end node.machine.control 0).output ≡ None
    -- it offers nothing
    pub silent : s (LinkHalf e Output) ≡ IsLink Empty
    -- its other links ask for nothing
    pub alone : (l : ℕ) → (link_end node.machine.control (suc l)).input ≡ None
    -- what it asks for lies in its memory
    pub lies : sum kept + room ≤ length node.machine.store
    pub messages : List Store
    pub stands : s (Kept e) ≡ AreKept room messages
    pub knows : KnowsMessages messages (messages_from node.machine.store most_neg kept)
