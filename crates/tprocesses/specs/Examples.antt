-- Rows that the definitions compute: runs of small programs.
use Rattle.std.specs.Prelude.{ℕ, zero, suc, ◌≡◌, ◌+◌, ◌++◌, Bool, true, false, List, [], ◌∷◌, Option, Some, None}
use Rattle.std.specs.Prelude.{option_map, replicate, reverse, refl, pos, is_some, if◌then◌else◌, option_and_then}
use Rattle.tword.specs.declared.kind.Kind.TheVariants.{One}
use Rattle.tword.specs.declared.breaks.Break.TheVariants.{AlreadyLive, SavedWord, LengthMismatch}
use Rattle.tword.specs.Stores.{Store, as_cells}
use Rattle.tproc.specs.Steps.{computes}
use Rattle.tplan.specs.declared.plan.Segment.{Segment}
use Rattle.tplan.specs.declared.plan.Process.{Process as Started}
use Rattle.tplan.specs.declared.plan.Plan.{Plan}
use Rattle.tplan.specs.Wires.{end_at}
use Rattle.tplan.specs.Examples.{node_plan, sender, receiver}
use Rattle.tagents.specs.Walks.{next_step, steps_clash, step_leads}
use Rattle.tprocesses.specs.Places.{Place, Name, Image, After, WordAt, Sending, Standing, Unfinished, Messages, Kept}
use Rattle.tprocesses.specs.Places.{FlagChanged}
use Rattle.tprocesses.specs.Values.{Value, Stand, Ended, IsAmount, IsFlag, AreMessages, AreKept, word_in, stand_in}
use Rattle.tprocesses.specs.Changes.{are_known, known_word}
use Rattle.tprocesses.specs.Parts.{Reason, Breaks, Halts, SeveralReady, SawTheScheduler, WordInUse}
use Rattle.tprocesses.specs.Parts.{FullSink, Deed}
use Rattle.tprocesses.specs.Touching.{word_number}
use Rattle.tprocesses.specs.Machine.{Agent, Process, Channel, Wire, Successor, process_machine}
use Rattle.tprocesses.specs.Opening.{opening_state}
use Rattle.tprocesses.specs.Certified.{ProcessStep}

-- the step of an agent: what it does and where it leads
abbrev step_in : Plan → Agent → (Place → Value) → Option (Deed × (Place → Value))
step_in p a s = option_map (λ x. (x.0.deed, x.1)) (next_step (process_machine p) a s)

-- what follows a step, if there was one and it did not stop
abbrev unless_stopped : ((Place → Value) → Option (Place → Value)) → Option (Deed × (Place → Value))
    → Option (Place → Value)
unless_stopped rest None = None
unless_stopped rest (Some (d, s)) = if is_some d.stops then None else rest s

-- the state after the steps of these agents, one after another, if none of them stops
abbrev state_after : Plan → List Agent → (Place → Value) → Option (Place → Value)
state_after p [] s = Some s
state_after p (a ∷ rest) s = unless_stopped (state_after p rest) (step_in p a s)

-- from the opening of a plan
abbrev pub after : Plan → List Agent → Option (Place → Value)
after p agents = state_after p agents (opening_state p)

-- the word at an address, where its bytes are known
abbrev pub word_then : Option (Place → Value) → (node address : ℕ) → Option ℕ
word_then None n a = None
word_then (Some s) n a = known_word (word_in (s (WordAt n (word_number a)))).cells

-- whether its bytes are known
abbrev is_known_then : Option (Place → Value) → (node address : ℕ) → Option Bool
is_known_then None n a = None
is_known_then (Some s) n a = Some (are_known (word_in (s (WordAt n (word_number a)))).cells)

-- a process has ended
abbrev has_ended : Option (Place → Value) → Name → Bool
has_ended None x = false
has_ended (Some s) x = is_ended (stand_in (s (Standing x)))
  where
    is_ended : Stand → Bool
    is_ended Ended = true
    is_ended _ = false

-- why the next step of an agent stops, if it does
abbrev pub reason_then : Plan → Option (Place → Value) → Agent → Option Reason
reason_then p None a = None
reason_then p (Some s) a = reason_of (step_in p a s)
  where
    reason_of : Option (Deed × (Place → Value)) → Option Reason
    reason_of None = None
    reason_of (Some (d, s')) = d.stops

-- whether an agent has a step
abbrev pub has_step : Plan → Option (Place → Value) → Agent → Option Bool
has_step p s a = option_map (λ state. is_some (step_in p a state)) s

-- one node with these processes and segments
abbrev pub one_node : List Segment → List Started → Plan
one_node segments processes =
    record {
      timeslice = 1024;
      nodes = record { memory = 0x310; kind = One; image = record { segments = segments; processes = processes } } ∷ [];
      wires = [];
      sources = [];
      sinks = [];
    }

abbrev pub segment : ℕ → List ℕ → Segment
segment address bytes = record { address = address; bytes = bytes }

abbrev pub started : ℕ → ℕ → Started
started wdesc iptr = record { wdesc = wdesc; iptr = iptr }

-- a process of the image
abbrev pub image : (node k : ℕ) → Name
image n k = record { node = n; root = Image k; path = [] }

-- n steps of a process
abbrev pub times : ℕ → Name → List Agent
times n x = replicate n (Process x)

-- `ldc 4; stl 0; ldl 0; adc 1; stl 1; stopp`: it goes on from its rest, and does six instructions
abbrev first : Plan
first =
    one_node (segment 0x8000_0080 (0x44 ∷ 0xd0 ∷ 0x70 ∷ 0x81 ∷ 0xd1 ∷ 0x21 ∷ 0xf5 ∷ []) ∷ [])
    (started 0x8000_0101 0x8000_0080 ∷ [])

first-sum : word_then (after first (times 7 (image 0 0))) 0 0x8000_0104 ≡ Some 5
unfolding computes
first-sum = refl

first-iptr : word_then (after first (times 7 (image 0 0))) 0 0x8000_00fc ≡ Some 0x8000_0087
unfolding computes
first-iptr = refl

first-ends : has_ended (after first (times 7 (image 0 0))) (image 0 0) ≡ true
unfolding computes
first-ends = refl

first-over : has_step first (after first (times 7 (image 0 0))) (Process (image 0 0)) ≡ Some false
unfolding computes
first-over = refl

-- P inputs and Q outputs four bytes on the internal channel at #800000C0
abbrev meeting : (input output : ℕ) → Plan
meeting m n =
    one_node (
    segment 0x8000_0080 (0x11 ∷ 0x24 ∷ 0xf2 ∷ 0x23 ∷ 0x50 ∷ (0x40 + m) ∷ 0xf7 ∷ 0x21 ∷ 0xf5 ∷ [])
    ∷ segment 0x8000_00a0 (0x11 ∷ 0x24 ∷ 0xf2 ∷ 0x23 ∷ 0x50 ∷ (0x40 + n) ∷ 0xfb ∷ 0x21 ∷ 0xf5 ∷ [])
    ∷ segment 0x8000_00c0 (0x00 ∷ 0x00 ∷ 0x00 ∷ 0x80 ∷ [])
    ∷ segment 0x8000_0204 (1 ∷ 2 ∷ 3 ∷ 4 ∷ [])
    ∷ [])
    (started 0x8000_0101 0x8000_0080 ∷ started 0x8000_0201 0x8000_00a0 ∷ [])

-- both come to the channel, in either order
abbrev inputs_first : List Agent
inputs_first = times 6 (image 0 0) ++ times 6 (image 0 1)

abbrev outputs_first : List Agent
outputs_first = times 6 (image 0 1) ++ times 6 (image 0 0)

-- then it copies, and both go on and stop
abbrev meets : List Agent
meets = Channel 0 0x8000_00c0 ∷ times 2 (image 0 0) ++ times 2 (image 0 1)

meeting-waits : has_step (meeting 4 4) (after (meeting 4 4) (times 6 (image 0 0))) (Process (image 0 0)) ≡ Some false
unfolding computes
meeting-waits = refl

meeting-one_side : has_step (meeting 4 4) (after (meeting 4 4) (times 6 (image 0 0))) (Channel 0 0x8000_00c0)
    ≡ Some false
unfolding computes
meeting-one_side = refl

meeting-input_first : word_then (after (meeting 4 4) (inputs_first ++ meets)) 0 0x8000_0104 ≡ Some 0x0403_0201
unfolding computes
meeting-input_first = refl

meeting-output_first : word_then (after (meeting 4 4) (outputs_first ++ meets)) 0 0x8000_0104 ≡ Some 0x0403_0201
unfolding computes
meeting-output_first = refl

meeting-channel : word_then (after (meeting 4 4) (inputs_first ++ meets)) 0 0x8000_00c0 ≡ Some 0x8000_0000
unfolding computes
meeting-channel = refl

-- while a process waits, its channel has no known bytes
meeting-channel_in_use : is_known_then (after (meeting 4 4) inputs_first) 0 0x8000_00c0 ≡ Some false
unfolding computes
meeting-channel_in_use = refl

meeting-ends : has_ended (after (meeting 4 4) (inputs_first ++ meets)) (image 0 1) ≡ true
unfolding computes
meeting-ends = refl

meeting-mismatch : reason_then (meeting 4 8) (after (meeting 4 8) outputs_first) (Channel 0 0x8000_00c0)
    ≡ Some (Breaks LengthMismatch)
unfolding computes
meeting-mismatch = refl

-- four bytes from link 1 of node 0 to link 2 of node 1
abbrev pair : Plan
pair =
    record {
      timeslice = 1024;
      nodes = sender 4 ∷ receiver ∷ [];
      wires = record { a = end_at 0 1; b = end_at 1 2 } ∷ [];
      sources = [];
      sinks = [];
    }

abbrev both_come : List Agent
both_come = times 6 (image 1 0) ++ times 6 (image 0 0)

-- the message that the next step of an agent hands over
abbrev message_then : Plan → Option (Place → Value) → Agent → Option Store
message_then p None a = None
message_then p (Some s) a = message_of (step_in p a s)
  where
    message_of : Option (Deed × (Place → Value)) → Option Store
    message_of None = None
    message_of (Some (d, s')) = d.message

pair-message : message_then pair (after pair both_come) (Wire (end_at 1 2)) ≡ Some (as_cells (1 ∷ 2 ∷ 3 ∷ 4 ∷ []))
unfolding computes sender receiver node_plan
pair-message = refl

pair-no_other_way : has_step pair (after pair both_come) (Wire (end_at 0 1)) ≡ Some false
unfolding computes sender receiver node_plan
pair-no_other_way = refl

pair-received : word_then (after pair (both_come ++ Wire (end_at 1 2) ∷ [])) 1 0x8000_0104 ≡ Some 0x0403_0201
unfolding computes sender receiver node_plan
pair-received = refl

-- the buffer of the output may be written again once its process has gone on
abbrev sending_then : Option (Place → Value) → (node address : ℕ) → Option Value
sending_then s n a = option_map (λ state. state (Sending n (word_number a))) s

pair-pending : sending_then (after pair (both_come ++ Wire (end_at 1 2) ∷ [])) 0 0x8000_0104 ≡ Some (IsAmount (pos 1))
unfolding computes sender receiver node_plan
pair-pending = refl

pair-over : sending_then (after pair (both_come ++ (Wire (end_at 1 2) ∷ times 2 (image 0 0)))) 0 0x8000_0104
    ≡ Some (IsAmount (pos 0))
unfolding computes sender receiver node_plan
pair-over = refl

-- until then its output is unfinished
abbrev unfinished_then : Option (Place → Value) → Option Value
unfinished_then s = option_map (λ state. state (Unfinished (end_at 0 1))) s

pair-unfinished : unfinished_then (after pair (both_come ++ Wire (end_at 1 2) ∷ [])) ≡ Some (IsFlag true)
unfolding computes sender receiver node_plan
pair-unfinished = refl

pair-finished : unfinished_then (after pair (both_come ++ (Wire (end_at 1 2) ∷ times 1 (image 0 0))))
    ≡ Some (IsFlag false)
unfolding computes sender receiver node_plan
pair-finished = refl

-- the first process starts a second one, each ends with `endp`, and the last goes on as their successor
abbrev two_ends : Plan
two_ends =
    one_node (
    segment 0x8000_0080 (0x42 ∷ 0x24 ∷ 0x10 ∷ 0xfd ∷ 0x10 ∷ 0xf3 ∷ 0x63 ∷ 0x10 ∷ 0xf3 ∷ 0x47 ∷ 0xd2 ∷ 0x21 ∷ 0xf5 ∷ [])
    ∷ segment 0x8000_0200 (0x89 ∷ 0x00 ∷ 0x00 ∷ 0x80 ∷ 0x02 ∷ 0x00 ∷ 0x00 ∷ 0x00 ∷ [])
    ∷ [])
    (started 0x8000_0201 0x8000_0080 ∷ [])

abbrev second : Name
second = record { node = 0; root = Image 0; path = 0 ∷ [] }

abbrev successor : Name
successor = record { node = 0; root = After 0x8000_0200 0; path = [] }

-- its agent is the word that counted, at #80000204
abbrev count_agent : Agent
count_agent = Successor 0 0x81

abbrev first_ends_first : List Agent
first_ends_first = times 6 (image 0 0) ++ times 3 second

abbrev second_ends_first : List Agent
second_ends_first = times 4 (image 0 0) ++ (times 3 second ++ times 2 (image 0 0))

two_ends-not_yet : has_step two_ends (after two_ends (times 6 (image 0 0))) count_agent ≡ Some false
unfolding computes
two_ends-not_yet = refl

two_ends-successor : word_then (after two_ends (first_ends_first ++ (count_agent ∷ times 3 successor))) 0 0x8000_0208
    ≡ Some 7
unfolding computes
two_ends-successor = refl

two_ends-other_order : word_then (after two_ends (second_ends_first ++ (count_agent ∷ times 3 successor))) 0 0x8000_0208
    ≡ Some 7
unfolding computes
two_ends-other_order = refl

two_ends-count : word_then (after two_ends (first_ends_first ++ count_agent ∷ [])) 0 0x8000_0204 ≡ Some 0
unfolding computes
two_ends-count = refl

-- two processes, of which the first does this
abbrev beside_another : List ℕ → Plan
beside_another code =
    one_node (segment 0x8000_0080 code ∷ [])
    (started 0x8000_0101 0x8000_0080 ∷ started 0x8000_0181 0x8000_0080 ∷ [])

-- `ldl 31` reads a saved word of the other one
stops-saved_word : reason_then (beside_another (0x21 ∷ 0x7f ∷ []))
    (after (beside_another (0x21 ∷ 0x7f ∷ [])) (times 1 (image 0 0))) (Process (image 0 0))
    ≡ Some (Breaks SavedWord)
unfolding computes
stops-saved_word = refl

-- `j 0; adc 1`: the scheduler may have changed A
stops-unknown : reason_then (beside_another (0x00 ∷ 0x81 ∷ []))
    (after (beside_another (0x00 ∷ 0x81 ∷ [])) (times 3 (image 0 0))) (Process (image 0 0))
    ≡ Some SawTheScheduler
unfolding computes
stops-unknown = refl

-- `j 0; stl 0`: a value that is not known may be stored
stores-unknown : is_known_then (after (beside_another (0x00 ∷ 0xd0 ∷ [])) (times 4 (image 0 0))) 0 0x8000_0100
    ≡ Some false
unfolding computes
stores-unknown = refl

-- `ldc 0; stl 0`: one that is known stays known
stores-known : word_then (after (beside_another (0x40 ∷ 0xd0 ∷ [])) (times 3 (image 0 0))) 0 0x8000_0100 ≡ Some 0
unfolding computes
stores-known = refl

-- a source sends two messages to link 2 of a node, whose process takes one of them; `in` asks for four bytes
abbrev fed : Plan
fed =
    record {
      timeslice = 1024;
      nodes = receiver ∷ [];
      wires = [];
      sources = record { «end» = end_at 0 2; messages = (1 ∷ 2 ∷ 3 ∷ 4 ∷ []) ∷ (5 ∷ []) ∷ [] } ∷ [];
      sinks = [];
    }

fed-received : word_then (after fed (times 6 (image 0 0) ++ Wire (end_at 0 2) ∷ [])) 0 0x8000_0104 ≡ Some 0x0403_0201
unfolding computes sender receiver node_plan
fed-received = refl

fed-left : option_map (λ s. s (Messages (end_at 1 0))) (after fed (times 6 (image 0 0) ++ Wire (end_at 0 2) ∷ []))
    ≡ Some (AreMessages ((5 ∷ []) ∷ []))
unfolding computes sender receiver node_plan
fed-left = refl

-- a sink at link 1 of a node keeps what its process sends; it has room for `room` bytes
abbrev kept : ℕ → Plan
kept room =
    record {
      timeslice = 1024;
      nodes = sender 4 ∷ [];
      wires = [];
      sources = [];
      sinks = record { «end» = end_at 0 1; capacity = room } ∷ [];
    }

kept-message : option_map (λ s. s (Kept (end_at 1 0))) (after (kept 5) (times 6 (image 0 0) ++ Wire (end_at 1 0) ∷ []))
    ≡ Some (AreKept 1 (as_cells (1 ∷ 2 ∷ 3 ∷ 4 ∷ []) ∷ []))
unfolding computes sender receiver node_plan
kept-message = refl

kept-full : reason_then (kept 3) (after (kept 3) (times 6 (image 0 0))) (Wire (end_at 1 0)) ≡ Some FullSink
unfolding computes sender receiver node_plan
kept-full = refl

-- `seterr; stoperr`: Error is set, no process halts, and this one stops
abbrev failing : Plan
failing =
    one_node (segment 0x8000_0080 (0x21 ∷ 0xf0 ∷ 0x25 ∷ 0xf5 ∷ []) ∷ []) (started 0x8000_0101 0x8000_0080 ∷ [])

failing-stops : has_ended (after failing (times 3 (image 0 0))) (image 0 0) ≡ true
unfolding computes
failing-stops = refl

failing-flag : option_map (λ s. s (FlagChanged 0)) (after failing (times 3 (image 0 0))) ≡ Some (IsFlag true)
unfolding computes
failing-flag = refl

-- `sethalterr; seterr`: the processor would halt
abbrev halting : Plan
halting =
    one_node (segment 0x8000_0080 (0x25 ∷ 0xf8 ∷ 0x21 ∷ 0xf0 ∷ []) ∷ []) (started 0x8000_0101 0x8000_0080 ∷ [])

halting-stops : reason_then halting (after halting (times 2 (image 0 0))) (Process (image 0 0)) ≡ Some Halts
unfolding computes
halting-stops = refl

-- `ldlp 31; adc 1; runp`: a low process starts with the address that was stored below its workspace; once it has
-- started, that word is not known
abbrev running : Plan
running =
    one_node (
    segment 0x8000_0080 (0x21 ∷ 0x1f ∷ 0x81 ∷ 0x23 ∷ 0xf9 ∷ 0x21 ∷ 0x1f ∷ 0x81 ∷ 0x23 ∷ 0xf9 ∷ [])
    ∷ segment 0x8000_00a0 (0x47 ∷ 0xd0 ∷ [])
    ∷ segment 0x8000_0178 (0xa0 ∷ 0x00 ∷ 0x00 ∷ 0x80 ∷ [])
    ∷ [])
    (started 0x8000_0101 0x8000_0080 ∷ [])

running-child : word_then (after running (times 4 (image 0 0) ++ times 3 second)) 0 0x8000_017c ≡ Some 7
unfolding computes
running-child = refl

running-again : reason_then running (after running (times 4 (image 0 0) ++ (times 3 second ++ times 2 (image 0 0))))
    (Process (image 0 0)) ≡ Some SawTheScheduler
unfolding computes
running-again = refl

-- `ldc 2; ldlp 64; startp`, twice: no two processes may have one workspace
abbrev started_twice : Plan
started_twice =
    one_node (segment 0x8000_0080 (0x42 ∷ 0x24 ∷ 0x10 ∷ 0xfd ∷ 0x42 ∷ 0x24 ∷ 0x10 ∷ 0xfd ∷ []) ∷ [])
    (started 0x8000_0201 0x8000_0080 ∷ [])

started_twice-stops : reason_then started_twice (after started_twice (times 6 (image 0 0))) (Process (image 0 0))
    ≡ Some (Breaks AlreadyLive)
unfolding computes
started_twice-stops = refl

-- a process whose `endp` counts a word that is no count of one: the next `endp` finds it in use
abbrev over_counted : Plan
over_counted =
    one_node (
    segment 0x8000_0080 (0x24 ∷ 0x10 ∷ 0xf3 ∷ [])
    ∷ segment 0x8000_00a0 (0x10 ∷ 0xf3 ∷ [])
    ∷ segment 0x8000_0200 (0x89 ∷ 0x00 ∷ 0x00 ∷ 0x80 ∷ 0x01 ∷ 0x00 ∷ 0x00 ∷ 0x00 ∷ [])
    ∷ [])
    (started 0x8000_0101 0x8000_0080 ∷ started 0x8000_0201 0x8000_00a0 ∷ [])

over_counted-stops : reason_then over_counted (after over_counted (times 3 (image 0 0) ++ times 3 (image 0 1)))
    count_agent ≡ Some WordInUse
unfolding computes
over_counted-stops = refl

-- what follows the first of some agents that has a step; where none has one, the run is over
abbrev first_step : Plan → List Agent → (Place → Value) → Option (Deed × (Place → Value))
first_step p [] s = None
first_step p (a ∷ rest) s = elim (step_in p a s) [ Some x ↦ Some x | None ↦ first_step p rest s ]

abbrev over_or : ((Place → Value) → Option (Place → Value)) → (Place → Value) → Option (Deed × (Place → Value))
    → Option (Place → Value)
over_or rest s None = Some s
over_or rest s (Some (d, s')) = if is_some d.stops then None else rest s'

-- the state where a run of these agents is over, if it is so within this many steps, of which none stops: always the
-- first of them that has a step does it
abbrev over_within : ℕ → Plan → List Agent → (Place → Value) → Option (Place → Value)
over_within zero p agents s = None
over_within (suc n) p agents s = over_or (over_within n p agents) s (first_step p agents s)

-- three parts of a PAR: 1 + 2 + .. + 10 in a loop, 6 * 7 that goes over a channel, and one more than what comes from
-- there; then the sum of the first and the third
abbrev par_of_three : Plan
par_of_three =
    one_node (
    segment 0x8000_0080 (
    0x24 ∷ 0xf2 ∷ 0xd6 ∷ 0x23 ∷ 0x43 ∷ 0x21 ∷ 0xfb ∷ 0xd0 ∷ 0x43 ∷ 0xd1 ∷ 0x21 ∷ 0x45 ∷ 0x61 ∷ 0x10 ∷ 0xfd ∷ 0x21 ∷
    0x4a ∷ 0x62 ∷ 0x10 ∷ 0xfd ∷ 0x40 ∷ 0xd2 ∷ 0x41 ∷ 0xd4 ∷ 0x4a ∷ 0xd5 ∷ 0x72 ∷ 0x74 ∷ 0xf5 ∷ 0xd2 ∷ 0x14 ∷ 0x48 ∷
    0x22 ∷ 0xf1 ∷ 0x10 ∷ 0xf3 ∷ 0x22 ∷ 0x16 ∷ 0x46 ∷ 0x47 ∷ 0x25 ∷ 0xf3 ∷ 0xff ∷ 0x22 ∷ 0x10 ∷ 0xf3 ∷ 0x11 ∷ 0x23 ∷
    0x16 ∷ 0x44 ∷ 0xf7 ∷ 0x71 ∷ 0x81 ∷ 0x23 ∷ 0xd7 ∷ 0x23 ∷ 0x10 ∷ 0xf3 ∷ 0x72 ∷ 0x77 ∷ 0xf5 ∷ 0xd3 ∷ 0x21 ∷ 0xf5 ∷
    [])
    ∷ [])
    (started 0x8000_0201 0x8000_0080 ∷ [])

abbrev third : Name
third = record { node = 0; root = Image 0; path = 1 ∷ [] }

-- all that come to have a step there, in an order; the other is the reverse
abbrev parties : List Agent
parties =
    Process (image 0 0) ∷ Process second ∷ Process third ∷ Channel 0 0x8000_0218 ∷ count_agent ∷ Process successor ∷ []

par-sum : word_then (over_within 160 par_of_three parties (opening_state par_of_three)) 0 0x8000_020c ≡ Some 98
unfolding computes
par-sum = refl

par-other_order : word_then (over_within 160 par_of_three (reverse parties) (opening_state par_of_three)) 0 0x8000_020c
    ≡ Some 98
unfolding computes
par-other_order = refl

-- the label of the next step of an agent after the steps of these
abbrev pub label_after : Plan → List Agent → Agent → Option ProcessStep
label_after p agents a =
    option_and_then (λ s. option_map (λ x. x.0) (next_step (process_machine p) a s)) (after p agents)

-- whether two steps clash, and whether the first leads to the second
abbrev told_of : (ProcessStep → ProcessStep → Bool) → Option ProcessStep → Option ProcessStep → Option Bool
told_of test (Some e) (Some f) = Some (test e f)
told_of test _ _ = None

abbrev pub do_clash : Plan → Option ProcessStep → Option ProcessStep → Option Bool
do_clash p e f = told_of (steps_clash (process_machine p)) e f

abbrev pub does_lead : Plan → Option ProcessStep → Option ProcessStep → Option Bool
does_lead p e f = told_of (step_leads (process_machine p)) e f

-- two processes have gone on from their rests; `stl 0` of the first writes the word at #80000100, the other one that or
-- the next word by `stl -32` or `stl -31`
abbrev storing : List ℕ → Plan
storing code =
    one_node (segment 0x8000_0080 (0xd0 ∷ []) ∷ segment 0x8000_00a0 code ∷ [])
    (started 0x8000_0101 0x8000_0080 ∷ started 0x8000_0181 0x8000_00a0 ∷ [])

abbrev both_go_on : List Agent
both_go_on = Process (image 0 0) ∷ Process (image 0 1) ∷ []

clash-one_word : do_clash (storing (0x61 ∷ 0xd0 ∷ []))
    (label_after (storing (0x61 ∷ 0xd0 ∷ [])) both_go_on (Process (image 0 0)))
    (label_after (storing (0x61 ∷ 0xd0 ∷ [])) both_go_on (Process (image 0 1))) ≡ Some true
unfolding computes
clash-one_word = refl

clash-two_words : do_clash (storing (0x61 ∷ 0xd1 ∷ []))
    (label_after (storing (0x61 ∷ 0xd1 ∷ [])) both_go_on (Process (image 0 0)))
    (label_after (storing (0x61 ∷ 0xd1 ∷ [])) both_go_on (Process (image 0 1))) ≡ Some false
unfolding computes
clash-two_words = refl

-- the two `endp` do not clash, and both lead to the successor, in whichever order they come
abbrev before_both_end : List Agent
before_both_end = times 5 (image 0 0) ++ times 2 second

clash-ends : do_clash two_ends (label_after two_ends before_both_end (Process (image 0 0)))
    (label_after two_ends before_both_end (Process second)) ≡ Some false
unfolding computes
clash-ends = refl

leads-first_end : does_lead two_ends (label_after two_ends before_both_end (Process (image 0 0)))
    (label_after two_ends first_ends_first count_agent) ≡ Some true
unfolding computes
leads-first_end = refl

leads-last_end : does_lead two_ends (label_after two_ends (times 6 (image 0 0) ++ times 2 second) (Process second))
    (label_after two_ends first_ends_first count_agent) ≡ Some true
unfolding computes
leads-last_end = refl

-- both that come to a channel lead to its step, and this to what each of them does next
leads-input : does_lead (meeting 4 4) (label_after (meeting 4 4) (times 5 (image 0 0)) (Process (image 0 0)))
    (label_after (meeting 4 4) inputs_first (Channel 0 0x8000_00c0)) ≡ Some true
unfolding computes
leads-input = refl

leads-output : does_lead (meeting 4 4) (label_after (meeting 4 4) (times 5 (image 0 1)) (Process (image 0 1)))
    (label_after (meeting 4 4) outputs_first (Channel 0 0x8000_00c0)) ≡ Some true
unfolding computes
leads-output = refl

leads-meeting : does_lead (meeting 4 4) (label_after (meeting 4 4) inputs_first (Channel 0 0x8000_00c0))
    (label_after (meeting 4 4) (inputs_first ++ Channel 0 0x8000_00c0 ∷ []) (Process (image 0 1))) ≡ Some true
unfolding computes
leads-meeting = refl

-- no other step of theirs leads to the channel's
leads-before : does_lead (meeting 4 4) (label_after (meeting 4 4) (times 4 (image 0 0)) (Process (image 0 0)))
    (label_after (meeting 4 4) inputs_first (Channel 0 0x8000_00c0)) ≡ Some false
unfolding computes
leads-before = refl

-- P chooses between the channels at #80000210 and #80000214, with a branch for each: the first one stores 7 in w(2),
-- the second one inputs a word into w(1). Q outputs 7 on the second channel, R outputs 8 on the first one
abbrev choosing : Plan
choosing =
    one_node (
    segment 0x8000_0080 (
    0x24 ∷ 0xf3 ∷ 0x14 ∷ 0x41 ∷ 0x24 ∷ 0xf8 ∷ 0x15 ∷ 0x41 ∷ 0x24 ∷ 0xf8 ∷ 0x24 ∷ 0xf4 ∷ 0x14 ∷ 0x41 ∷ 0x40 ∷ 0x22 ∷
    0xff ∷ 0x15 ∷ 0x41 ∷ 0x44 ∷ 0x22 ∷ 0xff ∷ 0x24 ∷ 0xf5 ∷ 0x47 ∷ 0xd2 ∷ 0x21 ∷ 0xf5 ∷ 0x11 ∷ 0x15 ∷ 0x44 ∷ 0xf7 ∷
    0x21 ∷ 0xf5 ∷ [])
    ∷ segment 0x8000_00c0 (0x61 ∷ 0x15 ∷ 0x47 ∷ 0xff ∷ 0x21 ∷ 0xf5 ∷ [])
    ∷ segment 0x8000_00e0 (0x62 ∷ 0x14 ∷ 0x48 ∷ 0xff ∷ 0x21 ∷ 0xf5 ∷ [])
    ∷ segment 0x8000_0210 (0x00 ∷ 0x00 ∷ 0x00 ∷ 0x80 ∷ 0x00 ∷ 0x00 ∷ 0x00 ∷ 0x80 ∷ [])
    ∷ [])
    (started 0x8000_0201 0x8000_0080 ∷ started 0x8000_0281 0x8000_00c0 ∷ started 0x8000_02c1 0x8000_00e0 ∷ [])

-- Q comes before P waits at `altwt`, or after
abbrev sender_first : List Agent
sender_first = times 4 (image 0 1) ++ times 9 (image 0 0)

abbrev chooser_first : List Agent
chooser_first = times 9 (image 0 0) ++ times 4 (image 0 1)

-- the channel of Q makes P go on, which disables both, jumps to the second branch and inputs; then both stop
abbrev first_channel : Agent
first_channel = Channel 0 0x8000_0210

abbrev second_channel : Agent
second_channel = Channel 0 0x8000_0214

abbrev takes_branch : List Agent
takes_branch =
    second_channel ∷ times 14 (image 0 0) ++ second_channel ∷ times 2 (image 0 0) ++ times 2 (image 0 1)

choice-sender_first : word_then (after choosing (sender_first ++ takes_branch)) 0 0x8000_0204 ≡ Some 7
unfolding computes
choice-sender_first = refl

choice-chooser_first : word_then (after choosing (chooser_first ++ takes_branch)) 0 0x8000_0204 ≡ Some 7
unfolding computes
choice-chooser_first = refl

choice-other_channel : word_then (after choosing (chooser_first ++ takes_branch)) 0 0x8000_0210 ≡ Some 0x8000_0000
unfolding computes
choice-other_channel = refl

choice-ends : has_ended (after choosing (chooser_first ++ takes_branch)) (image 0 0) ≡ true
unfolding computes
choice-ends = refl

-- P waits until a sender comes
choice-waits : has_step choosing (after choosing (times 9 (image 0 0))) second_channel ≡ Some false
unfolding computes
choice-waits = refl

choice-no_sender : has_step choosing (after choosing chooser_first) first_channel ≡ Some false
unfolding computes
choice-no_sender = refl

-- where both senders wait, the scheduler decides
choice-several : reason_then choosing (after choosing (chooser_first ++ times 4 (image 0 2))) second_channel
    ≡ Some SeveralReady
unfolding computes
choice-several = refl

-- and where the other one comes before P disables its channel
choice-goes_on_already : reason_then choosing
    (after choosing (chooser_first ++ second_channel ∷ times 4 (image 0 2))) first_channel ≡ Some SeveralReady
unfolding computes
choice-goes_on_already = refl

choice-disables_too_late : reason_then choosing
    (after choosing (chooser_first ++ second_channel ∷ times 4 (image 0 2) ++ times 4 (image 0 0)))
    (Process (image 0 0)) ≡ Some SeveralReady
unfolding computes
choice-disables_too_late = refl

-- whoever comes last leads to the channel, and this to what P does next
leads-sender : does_lead choosing
    (label_after choosing (times 9 (image 0 0) ++ times 3 (image 0 1)) (Process (image 0 1)))
    (label_after choosing chooser_first second_channel) ≡ Some true
unfolding computes
leads-sender = refl

leads-chooser : does_lead choosing
    (label_after choosing (times 4 (image 0 1) ++ times 8 (image 0 0)) (Process (image 0 0)))
    (label_after choosing sender_first second_channel) ≡ Some true
unfolding computes
leads-chooser = refl

leads-chosen : does_lead choosing (label_after choosing chooser_first second_channel)
    (label_after choosing (chooser_first ++ second_channel ∷ []) (Process (image 0 0))) ≡ Some true
unfolding computes
leads-chosen = refl

-- a sender that comes later to the other channel has a race with this one
clash-other_sender : do_clash choosing (label_after choosing chooser_first second_channel)
    (label_after choosing (chooser_first ++ times 3 (image 0 2)) (Process (image 0 2))) ≡ Some true
unfolding computes
clash-other_sender = refl

-- `alt; ldc 1; enbs; altwt; ldc 1; ldc 0; diss; altend; ldc 9; stl 2`: a guard without a channel is ready at once
abbrev skipping : Plan
skipping =
    one_node (
    segment 0x8000_0080 (
    0x24 ∷ 0xf3 ∷ 0x41 ∷ 0x24 ∷ 0xf9 ∷ 0x24 ∷ 0xf4 ∷ 0x41 ∷ 0x40 ∷ 0x23 ∷ 0xf0 ∷ 0x24 ∷ 0xf5 ∷ 0x49 ∷ 0xd2 ∷ 0x21 ∷
    0xf5 ∷ [])
    ∷ [])
    (started 0x8000_0201 0x8000_0080 ∷ [])

skip-chosen : word_then (after skipping (times 11 (image 0 0))) 0 0x8000_0208 ≡ Some 9
unfolding computes
skip-chosen = refl

skip-ends : has_ended (after skipping (times 12 (image 0 0))) (image 0 0) ≡ true
unfolding computes
skip-ends = refl

-- a process stops with its alternative under way
stops-open_choice : reason_then (beside_another (0x24 ∷ 0xf3 ∷ 0x21 ∷ 0xf5 ∷ []))
    (after (beside_another (0x24 ∷ 0xf3 ∷ 0x21 ∷ 0xf5 ∷ [])) (times 2 (image 0 0))) (Process (image 0 0))
    ≡ Some WordInUse
unfolding computes
stops-open_choice = refl
