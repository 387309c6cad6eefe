-- A net as its pieces are.
-- Source: own choice.
use Rattle.tnet.specs.Net.{NetState}
use Rattle.tnet.specs.declared.parts.NetParts.{NetParts}

abbrev pub net_of_parts : NetParts → NetState
net_of_parts p = record { nodes = p.nodes.items; wires = p.wires; inboxes = p.inboxes.items }
