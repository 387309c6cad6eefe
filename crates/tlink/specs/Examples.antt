-- Rows that the definitions compute: what scripts do at events, one after another.
use Rattle.std.specs.Prelude.{◌≡◌, ℕ, Bool, true, false, List, [], ◌∷◌, Some, None, Result, Ok, Err, refl}
use Rattle.tlink.specs.declared.event.Emitted.{Emitted}
use Rattle.tlink.specs.declared.event.Mark.TheVariants.{Nothing, Completed}
use Rattle.tlink.specs.declared.event.NodeEvent.{NodeEvent}
use Rattle.tlink.specs.declared.event.NodeEvent.TheVariants.{Send, Data, Take, Ack}
use Rattle.tlink.specs.declared.event.Packet.TheVariants as packet
use Rattle.tlink.specs.declared.event.StepFault.{StepFault}
use Rattle.tlink.specs.declared.event.StepFault.TheVariants.{NotEnabled}
use Rattle.tlink.specs.Roles.{Source}
use Rattle.tlink.specs.Node.{NodeState, fresh_source, fresh_sink}
use Rattle.tlink.specs.Events.{happens, node_answered, node_left_by}
use Rattle.tlink.specs.Scripts.{kept_messages, kept_part, source_messages}

-- what a node tells at events, one after another, and the node behind them
abbrev told_at : List NodeEvent → NodeState → List (Result Emitted StepFault)
unfolding happens
told_at [] n = []
told_at (e ∷ es) n = node_answered (happens e n) ∷ told_at es (node_left_by n (happens e n))

abbrev left_behind : List NodeEvent → NodeState → NodeState
unfolding happens
left_behind [] n = n
left_behind (e ∷ es) n = left_behind es (node_left_by n (happens e n))

-- the answers of the rows
abbrev sends : ℕ → Bool → Result Emitted StepFault
sends byte last = Ok (record { packet = Some (0, packet.Data byte last); mark = Nothing })

abbrev takes : Result Emitted StepFault
takes = Ok (record { packet = Some (0, packet.Ack); mark = Nothing })

abbrev completes : Result Emitted StepFault
completes = Ok (record { packet = Some (0, packet.Ack); mark = Completed 0 })

abbrev quiet : Result Emitted StepFault
quiet = Ok (record { packet = None; mark = Nothing })

abbrev refused : Result Emitted StepFault
refused = Err NotEnabled

-- a source of two messages; it waits for each acknowledge, and offers nothing behind the last message
abbrev two_messages : NodeState
two_messages = fresh_source ((7 ∷ 8 ∷ []) ∷ (9 ∷ []) ∷ [])

abbrev all_sent : List NodeEvent
all_sent = Send 0 ∷ Send 0 ∷ Ack 0 ∷ Send 0 ∷ Ack 0 ∷ Send 0 ∷ Ack 0 ∷ Send 0 ∷ []

source-tells : told_at all_sent two_messages
    ≡ sends 7 false ∷ refused ∷ quiet ∷ sends 8 true ∷ quiet ∷ sends 9 true ∷ quiet ∷ refused ∷ []
unfolding happens
source-tells = refl

source-over : (left_behind all_sent two_messages).role ≡ Source (2 ∷ 1 ∷ []) []
unfolding happens
source-over = refl

-- all of its messages are shown, however many are over
source-shows : source_messages (left_behind all_sent two_messages) ≡ (7 ∷ 8 ∷ []) ∷ (9 ∷ []) ∷ []
unfolding happens
source-shows = refl

source-between : (left_behind (Send 0 ∷ Ack 0 ∷ Send 0 ∷ []) two_messages).role ≡ Source [] (2 ∷ 1 ∷ [])
unfolding happens
source-between = refl

-- a sink for three bytes; it ends a message where the byte is marked, and takes none that it has no room for
abbrev four_bytes : List NodeEvent
four_bytes = Data 0 7 false ∷ Take 0 ∷ Data 0 8 true ∷ Take 0 ∷ Data 0 9 false ∷ Take 0 ∷ Data 0 1 true ∷ Take 0 ∷ []

sink-tells : told_at four_bytes (fresh_sink 3)
    ≡ quiet ∷ takes ∷ quiet ∷ completes ∷ quiet ∷ takes ∷ quiet ∷ refused ∷ []
unfolding happens
sink-tells = refl

sink-keeps : kept_messages (left_behind four_bytes (fresh_sink 3)) ≡ (7 ∷ 8 ∷ []) ∷ []
unfolding happens
sink-keeps = refl

sink-part : kept_part (left_behind four_bytes (fresh_sink 3)) ≡ 9 ∷ []
unfolding happens
sink-part = refl

-- a sink keeps messages in the order in which they come
sink-orders : kept_messages
    (left_behind (Data 0 7 true ∷ Take 0 ∷ Data 0 8 false ∷ Take 0 ∷ Data 0 9 true ∷ Take 0 ∷ [])
    (fresh_sink 3)) ≡ (7 ∷ []) ∷ (8 ∷ 9 ∷ []) ∷ []
unfolding happens
sink-orders = refl

-- nothing is taken before a byte comes, and none comes where one waits
sink-waits : told_at (Take 0 ∷ Data 0 7 true ∷ Data 0 8 true ∷ []) (fresh_sink 3) ≡ refused ∷ quiet ∷ refused ∷ []
unfolding happens
sink-waits = refl
