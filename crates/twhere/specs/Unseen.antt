-- What the text of a net does not tell: what the buffers of pending inputs hold.
-- Source: own choice, a law of the text.
use Rattle.std.specs.Prelude.{◌≡◌, map}
use Rattle.tproc.specs.Hidden.{hidden}
use Rattle.tlink.specs.Node.{NodeState}
use Rattle.tnet.specs.Net.{NetState}
use Rattle.tnet.specs.Sound.{IsSound}
use Rattle.twhere.specs.Standing.{where_text}

-- a node with the buffers of its pending inputs hidden
abbrev pub hidden_node : NodeState → NodeState
hidden_node n = record n { machine = hidden n.machine }

-- a net with the buffers of all pending inputs hidden
abbrev pub hidden_net : NetState → NetState
hidden_net net = record net { nodes = map hidden_node net.nodes }

-- the text of a net is the same where the buffers of its pending inputs are hidden
abbrev pub HiddenIsUnseen : Type 0
HiddenIsUnseen = (net : NetState) → IsSound net → where_text (hidden_net net) ≡ where_text net

-- nets that agree except for hidden bytes have one text
abbrev pub TextIsOfTheView : Type 0
TextIsOfTheView =
    (a b : NetState) → IsSound a → IsSound b → hidden_net a ≡ hidden_net b → where_text a ≡ where_text b
