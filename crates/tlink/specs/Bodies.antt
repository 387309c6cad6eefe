-- What a program keeps of a node, and what it shows of it, as a state.
-- Source: own choice, words for contracts.
use Rattle.std.specs.Prelude.{◌≡◌}
use Rattle.tlink.specs.declared.node.Body.{Body}
use Rattle.tlink.specs.declared.node.Body.TheVariants.{Processor, Source, Sink}
use Rattle.tlink.specs.declared.role.Role.{Role}
use Rattle.tlink.specs.declared.role.Role.TheVariants as shown
use Rattle.tlink.specs.Node.{NodeState}
use Rattle.tlink.specs.Roles as spec
use Rattle.tlink.specs.Scripts.{over_messages, left_messages, kept_lengths}

-- the state of what stands behind the links
abbrev pub body_state : Body → NodeState
body_state (Processor n) = n
body_state (Source n) = n
body_state (Sink n) = n

-- what stands behind the links of a node: its processor, or the node itself where it is a source or a sink
abbrev pub IsRoleOf : Role → NodeState → Type 0
IsRoleOf (shown.Processor p) n = (n.role ≡ spec.Processor) × (p.now ≡ n.machine)
IsRoleOf (shown.Source s) n = (n.role ≡ spec.Source (over_messages n.role) (left_messages n.role)) × (s.now ≡ n)
IsRoleOf (shown.Sink s) n = (n.role ≡ spec.Sink (kept_lengths n.role)) × (s.now ≡ n)
