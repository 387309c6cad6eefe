-- What scripts do, and nothing else.
-- Source: own choice, laws for readers.
use Rattle.std.specs.Prelude.{◌≡◌, ◌≢◌, ℕ, Bool, List, Err}
use Rattle.tlink.specs.declared.event.NodeEvent.{NodeEvent}
use Rattle.tlink.specs.declared.event.NodeEvent.TheVariants.{Send, Data, Take, Ack}
use Rattle.tlink.specs.declared.event.StepFault.TheVariants.{NotEnabled}
use Rattle.tlink.specs.Roles.{Source, Sink}
use Rattle.tlink.specs.Node.{NodeState}
use Rattle.tlink.specs.Events.{happens}
use Rattle.tlink.specs.Whole.{IsWhole}

-- a source sends at link 0 and hears of acknowledges there; no other event of it is enabled
abbrev pub SourcesSendAlone : Type 0
SourcesSendAlone =
    (n : NodeState) (over rest : List ℕ) (e : NodeEvent) → IsWhole n → n.role ≡ Source over rest → e ≢ Send 0
    → e ≢ Ack 0 → happens e n ≡ Err NotEnabled

-- a sink receives bytes at link 0 and takes them; no other event of it is enabled
abbrev pub SinksTakeAlone : Type 0
SinksTakeAlone =
    (n : NodeState) (kept : List ℕ) (e : NodeEvent) → IsWhole n → n.role ≡ Sink kept
    → ((byte : ℕ) (last : Bool) → e ≢ Data 0 byte last) → e ≢ Take 0 → happens e n ≡ Err NotEnabled
