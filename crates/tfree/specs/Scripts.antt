-- Sources and sinks in a turn.
-- Source: own choice, a law for readers.
use Rattle.std.specs.Prelude.{◌≡◌, ◌≢◌, ℕ, Bool, List, Some, slice_get}
use Rattle.tlink.specs.Node.{NodeState}
use Rattle.tlink.specs.Roles.{Processor}
use Rattle.tnet.specs.Sound.{IsSound}
use Rattle.tfree.specs.declared.stamp.OwnEvent.{OwnEvent}
use Rattle.tfree.specs.Kept.{nodes_after}
use Rattle.tfree.specs.Turns.{runs_of}
use Rattle.tfree.specs.Views.{Share}

-- a source or a sink does nothing in the third phase of its part, that of the runs
abbrev pub ScriptsRunNothing : Type 0
ScriptsRunNothing =
    (s : Share) (slice n : ℕ) (whole : Bool) (es es' : List OwnEvent) (node : NodeState) → IsSound s.opened
    → slice_get (nodes_after s.opened.nodes es) n ≡ Some node → node.role ≢ Processor → runs_of s slice n es whole es'
    → es' ≡ es
