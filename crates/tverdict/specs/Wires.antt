-- When a wire has a step, by what stands at its ends.
-- Source: own choice.
use Rattle.std.specs.Prelude.{ℕ, ◌==◌, Bool, true, false, List, [], Option, Some, None, slice_get, if◌then◌else◌}
use Rattle.tplan.specs.declared.plan.End.{End}
use Rattle.tplan.specs.declared.plan.SourcePlan.{SourcePlan}
use Rattle.tplan.specs.declared.plan.Plan.{Plan}
use Rattle.tprocesses.specs.Machine as machine
use Rattle.tprocesses.specs.Machine.{Role, is_passable, offer_place, role_at, take_place}
use Rattle.tverdict.specs.declared.machine.Machine.{Machine}
use Rattle.tverdict.specs.Machines.{machine_at}

-- the messages of the source of this number, if its end is at this link: a source has only its link 0
abbrev pub messages_by : ℕ → Option SourcePlan → List (List ℕ)
messages_by link (Some s) = if link == 0 then s.messages else []
messages_by link None = []

abbrev pub messages_at : Plan → (number link : ℕ) → List (List ℕ)
messages_at plan number link = messages_by link (slice_get plan.sources number)

-- what stands at an end is a sink
abbrev pub is_sink : Role → Bool
is_sink machine.Sink = true
is_sink _ = false

-- a message is there to be sent at an end
abbrev pub has_message : Plan → Machine → End → Bool
has_message plan m e =
    is_passable (offer_place (role_at plan e.node) e) (machine_at plan m (offer_place (role_at plan e.node) e))

-- a message may be received at an end
abbrev pub has_taker : Plan → Machine → End → Bool
has_taker plan m e =
    is_passable (take_place (role_at plan e.node) e) (machine_at plan m (take_place (role_at plan e.node) e))
