-- What is told of a configuration in which a run has ended: how it has, and what its dump shows.
-- Source: own choice, the words and the format of this program.
use Rattle.std.specs.Prelude.{ℕ, suc, Bool, true, false, ◌||◌, ◌&&◌, List, [], ◌∷◌, ◌++◌, length, Option, Some, None}
use Rattle.std.specs.Prelude.{is_some, codes, decimal, nat_lt, if◌then◌else◌}
use Rattle.std.specs.List.{list_any}
use Rattle.std.specs.Str.{bytes_eq}
use Rattle.tword.specs.declared.breaks.Break.{Break}
use Rattle.tproc.specs.declared.waiter.Reason.{Reason}
use Rattle.tproc.specs.declared.waiter.Reason.TheVariants.{Sends}
use Rattle.tproc.specs.declared.waiter.Waiter.{Waiter}
use Rattle.tproc.specs.Machine.{Control}
use Rattle.tlink.specs.Roles.{Role, Processor}
use Rattle.tnet.specs.Net.{four_links}
use Rattle.tnet.specs.Rendezvous.{Node, Configuration}
use Rattle.trendezvous.specs.Calls.{fresh_output}
use Rattle.tfiles.specs.Texts.{break_name, dump_text, words}
use Rattle.twhere.specs.Standing.{word_text}
use Rattle.tendings.specs.declared.telling.Telling.{Telling}

-- ---- how a run has ended

-- a process waits to send on a channel within its node
abbrev pub is_sending : Reason → Bool
is_sending (Sends channel buffer length) = true
is_sending _ = false

-- the processes that wait, of what stands behind a node's links; a source or a sink has none
abbrev pub waiting_by : Role → Control → List Waiter
waiting_by Processor m = m.waiting
waiting_by _ m = []

-- the processes of a node that wait
abbrev pub waiting : Node → List Waiter
waiting s = waiting_by s.role s.machine.control

-- a message is offered at a link of a node, and was not copied
abbrev pub offers_at_link : Node → Bool
offers_at_link s = list_any (λ l. is_some (fresh_output s l)) four_links

-- a message is offered within a node
abbrev pub offers_within : List Waiter → Bool
offers_within waiting = list_any (λ w. is_sending w.reason) waiting

-- a message of a node is offered
abbrev pub offers : Node → Bool
offers s = offers_at_link s || offers_within (waiting s)

-- a process of a node waits
abbrev pub waits : Node → Bool
waits s = nat_lt 0 (length (waiting s))

-- how a run ends where no node is frozen: a message is offered that nobody takes, or else processes wait, all of them
-- for messages, or else no process waits
abbrev pub rest_text : List Node → List ℕ
rest_text nodes =
    if list_any offers nodes then codes "stuck" else if list_any waits nodes then codes "idle" else codes "ended"

-- behind a blank the address of the instruction of the process that runs, if one does
abbrev pub instruction_at : Control → Option ℕ → List ℕ
instruction_at m (Some priority) = codes " " ++ word_text m.registers.iptr
instruction_at m None = []

-- behind a blank the address of the instruction that a node is at; nothing of a source or a sink
abbrev pub instruction_text : Role → Control → List ℕ
instruction_text Processor m = instruction_at m m.current
instruction_text _ m = []

-- a freeze: the number of the node, the break, and the address of the instruction
abbrev pub freeze_text : ℕ → Break → Node → List ℕ
freeze_text n b s =
    words (codes "freeze" ∷ decimal n ∷ break_name b ∷ []) ++ instruction_text s.role s.machine.control

-- the freeze of a node, if it is frozen, else a later one
abbrev pub freeze_or : ℕ → Node → Option Break → Option (List ℕ) → Option (List ℕ)
freeze_or n s (Some b) later = Some (freeze_text n b s)
freeze_or n s None later = later

-- the freeze of the first node that is frozen, from a number on
abbrev pub freeze_from : ℕ → List Node → Option (List ℕ)
freeze_from n [] = None
freeze_from n (s ∷ ss) = freeze_or n s s.broken (freeze_from (suc n) ss)

-- ---- what is told

-- what is told of a configuration with this freeze, or with none
abbrev pub telling_by : Option (List ℕ) → Configuration → Telling
telling_by (Some freeze) w = record { heading = freeze; dump = dump_text w; is_freeze = true }
telling_by None w = record { heading = rest_text w.nodes; dump = dump_text w; is_freeze = false }

-- what is told of a configuration
abbrev pub telling : Configuration → Telling
telling w = telling_by (freeze_from 0 w.nodes) w

-- two freezes agree, and two outcomes of one dump
abbrev pub agree : Bool → Bool → Telling → Telling → Bool
agree true true a b = true
agree false false a b = bytes_eq a.dump b.dump
agree _ _ a b = false

-- two tellings tell of the same outcome where heading and dump are the same, and of the same freeze where the heading
-- is
abbrev pub is_one : Telling → Telling → Bool
is_one a b = bytes_eq a.heading b.heading && agree a.is_freeze b.is_freeze a b
