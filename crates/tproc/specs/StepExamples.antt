-- Rows that the definitions compute: single steps, and a byte that comes in.
use Rattle.std.specs.Prelude.{◌≡◌, ◌+◌, ◌*◌, ◌++◌, replicate, ℕ, zero, suc, List, [], ◌∷◌, Ok, Err, Result, Some, None}
use Rattle.std.specs.Prelude.{Option, refl}
use Rattle.tword.specs.declared.kind.Kind.{Kind}
use Rattle.tword.specs.declared.kind.Kind.TheVariants.{One, Two}
use Rattle.tword.specs.declared.breaks.Break.{Break}
use Rattle.tword.specs.declared.breaks.Break.TheVariants.{Unaligned, InTransit, SavedWord, LinkBusy, ChannelMisuse}
use Rattle.tword.specs.declared.breaks.Break.TheVariants.{AlreadyLive, TooManyProcesses, NoSuchOperation}
use Rattle.tword.specs.Stores.{word_at, with_word}
use Rattle.tproc.specs.declared.ran.Ran.TheVariants.{Instruction, LinkIn}
use Rattle.tproc.specs.Machine.{Machine}
use Rattle.tproc.specs.declared.waiter.Reason.{Reason}
use Rattle.tproc.specs.declared.waiter.Reason.TheVariants.{Sends, LinkOutput, Chooses}
use Rattle.tproc.specs.Opening.{empty_machine, loaded}
use Rattle.tproc.specs.LinkChannels.{link_end, with_link}
use Rattle.tproc.specs.Links.{notice}
use Rattle.tproc.specs.Steps.{step, step_answered, computes}
use Rattle.tproc.specs.Examples.{machine_of, word_after, low_of}

-- a low process that runs this code with these registers; its timeslice is 3, and it has done 2 instructions
abbrev running : (w a b c : ℕ) → List ℕ → Machine
running w a b c code =
    let n = loaded 0x8000_0080 code (empty_machine 0x110 3 One) in
    record n {
      control =
          record n.control {
            registers = record n.control.registers { a = a; b = b; c = c; iptr = 0x8000_0080; wptr = w };
            current = Some 1;
            count = 2;
          };
    }

-- with a word set, a low process queued, a process that waits, or a link that a process enabled
abbrev with_this : ℕ → ℕ → Machine → Machine
with_this address word n = record n { store = with_word n.store address word }

abbrev with_queued : ℕ → Machine → Machine
with_queued workspace n = record n { control = record n.control { low = workspace ∷ [] } }

abbrev with_waiter : ℕ → Reason → Machine → Machine
with_waiter process reason n =
    record n { control = record n.control { waiting = record { process = process; reason = reason } ∷ [] } }

abbrev with_enabled : ℕ → ℕ → Machine → Machine
with_enabled l process n =
    record n { control = with_link l (record (link_end n.control l) { remembered = Some process }) n.control }

abbrev with_output : ℕ → (process buffer length : ℕ) → Machine → Machine
with_output l process buffer length n =
    with_waiter process (LinkOutput l) (record n {
      control =
          with_link l
          (record (link_end n.control l) {
            output =
                Some (record { wdesc = process; buffer = buffer; length = length });
          }) n.control;
    })

-- a machine whose process is a high one that has interrupted a low one
abbrev interrupting : ℕ → Machine → Machine
interrupting workspace n =
    record n {
      control = record n.control {
        current = Some 0;
        count = 0;
        interrupted = Some (record { registers = record n.control.registers { wptr = workspace }; count = 1 });
      };
    }

abbrev word_then : ℕ → Machine → Option ℕ
word_then a n = word_after a (machine_of (step n))

abbrev count_then : Machine → Option (Option ℕ × ℕ)
count_then n = current_of (machine_of (step n))
  where
    current_of : Result Machine Break → Option (Option ℕ × ℕ)
    current_of (Ok m) = Some (m.control.current, m.control.count)
    current_of (Err b) = None

abbrev low_then : Machine → Option (List ℕ)
low_then n = low_of (machine_of (step n))

-- A, B and C
abbrev stack_then : Machine → Option (ℕ × ℕ × ℕ)
stack_then n = stack_of (machine_of (step n))
  where
    stack_of : Result Machine Break → Option (ℕ × ℕ × ℕ)
    stack_of (Ok m) = Some (m.control.registers.a, m.control.registers.b, m.control.registers.c)
    stack_of (Err b) = None

-- `dup` of 7, 8 and 9 on a node of a kind
abbrev duplicating : Kind → Machine
duplicating kind =
    let n = running 0x8000_0100 7 8 9 (0x25 ∷ 0xfa ∷ []) in record n { control = record n.control { kind = kind } }

dup_of_kind_2 : stack_then (duplicating Two) ≡ Some (7, 7, 8)
unfolding computes notice
dup_of_kind_2 = refl

dup_of_kind_1 : step_answered (step (duplicating One)) ≡ Err NoSuchOperation
unfolding computes notice
dup_of_kind_1 = refl

-- `endp` with a count of 1, and with a count of 2
abbrev ending : ℕ → Machine
ending left =
    with_this 0x8000_00a0 0x8000_0090 (with_this 0x8000_00a4 left (running 0x8000_0100 0x8000_00a0 0 0 (0xf3 ∷ [])))

-- the last process goes on; its instruction count is neither raised nor reset
ending-count : count_then (ending 1) ≡ Some (Some 1, 2)
unfolding computes notice
ending-count = refl

ending-word : word_then 0x8000_00a4 (ending 1) ≡ Some 0
unfolding computes notice
ending-word = refl

ending-first : count_then (ending 2) ≡ Some (None, 0)
unfolding computes notice
ending-first = refl

-- the workspace may not be another's, unless it is the own one as well
ending-live : step_answered (step (with_queued 0x8000_00a0 (ending 1))) ≡ Err AlreadyLive
unfolding computes notice
ending-live = refl

ending-own : count_then
    (with_queued 0x8000_0100 (with_this 0x8000_0104 1 (running 0x8000_0100 0x8000_0100 0 0 (0xf3 ∷ []))))
    ≡ Some (Some 1, 2)
unfolding computes notice
ending-own = refl

-- `in` of one byte from link 2, which a process enabled
abbrev asks_link : ℕ → Machine
asks_link process = with_enabled 2 process (running 0x8000_0100 1 0x8000_0018 0x8000_00b0 (0xf7 ∷ []))

enabled_by_itself : step_answered (step (asks_link 0x8000_0101)) ≡ Ok (LinkIn 2)
unfolding computes notice
enabled_by_itself = refl

-- a process that enabled the link keeps it though it is not live any more
enabled_by_dead : step_answered (step (asks_link 0x8000_00d1)) ≡ Err LinkBusy
unfolding computes notice
enabled_by_dead = refl

-- a descriptor that fits a queued process too is not the own one
enabled_by_queued : step_answered (step (with_queued 0x8000_0100 (asks_link 0x8000_0101))) ≡ Err LinkBusy
unfolding computes notice
enabled_by_queued = refl

-- `outword` on the word at the workspace: the old word decides, and the message is the descriptor
outword_at_workspace : word_then 0x8000_0100
    (with_this 0x8000_0100 0x8000_0000 (running 0x8000_0100 7 0x8000_0100 0 (0xff ∷ []))) ≡ Some 0x8000_0101
unfolding computes notice
outword_at_workspace = refl

-- `in` of eight bytes; the other waits with a buffer that covers the channel word
abbrev covering : ℕ → Machine
covering found =
    with_this 0x8000_00a4 found
    (with_waiter 0x8000_00d1 (Sends 0x8000_00a4 0x8000_00a0 8)
    (running 0x8000_0100 8 0x8000_00a4 0x8000_00b0 (0xf7 ∷ [])))

-- the channel is free before the message is copied
covering-copied : word_then 0x8000_00b4 (covering 0x8000_00d1) ≡ Some 0x8000_0000
unfolding computes notice
covering-copied = refl

-- a descriptor of the other priority names nobody
covering-priority : step_answered (step (covering 0x8000_00d0)) ≡ Err ChannelMisuse
unfolding computes notice
covering-priority = refl

-- `out` to an interrupted process that has enabled the channel and whose state word is word -1 of the outputter
abbrev overlapping : ℕ → Machine
overlapping state =
    with_this 0x8000_00fc state
    (with_this 0x8000_00a0 0x8000_0109
    (interrupting 0x8000_0108 (running 0x8000_0100 4 0x8000_00a0 0x8000_00b0 (0xfb ∷ []))))

-- Ready comes last
overlapping-ready : word_then 0x8000_00fc (overlapping 0x8000_0001) ≡ Some 0x8000_0003
unfolding computes notice
overlapping-ready = refl

overlapping-misused : step_answered (step (overlapping 0x8000_0002)) ≡ Err ChannelMisuse
unfolding computes notice
overlapping-misused = refl

-- `enbc` in an alternative that is under way
abbrev enables : ℕ → ℕ → Machine
enables guard channel = with_this 0x8000_00f4 0x8000_0001 (running 0x8000_0100 guard channel 0 (0x24 ∷ 0xf8 ∷ []))

-- with a false guard the channel is not looked at
enables-not : step_answered (step (enables 0 7)) ≡ Ok Instruction
unfolding computes notice
enables-not = refl

-- with a true guard the channel word is touched as if written
enables-in_transit : step_answered (step (with_output 0 0x8000_00d1 0x8000_00a0 4 (enables 1 0x8000_00a0)))
    ≡ Err InTransit
unfolding computes notice
enables-in_transit = refl

enables-misused : step_answered (step (enables 1 0x8000_00a0)) ≡ Err ChannelMisuse
unfolding computes notice
enables-misused = refl

-- a jump at the end of the timeslice
abbrev jumping : Machine
jumping = running 0x8000_0100 0 0 0 (0x00 ∷ [])

-- a jump of the only process
jumping-alone : count_then jumping ≡ Some (Some 1, 0)
unfolding computes notice
jumping-alone = refl

-- a jump beside a queued process, whose link word then names the one that jumped
jumping-back : low_then (with_queued 0x8000_00d0 jumping) ≡ Some (0x8000_00d0 ∷ 0x8000_0100 ∷ [])
unfolding computes notice
jumping-back = refl

jumping-link : word_then 0x8000_00c8 (with_queued 0x8000_00d0 jumping) ≡ Some 0x8000_0100
unfolding computes notice
jumping-link = refl

-- a jump of a process on the workspace of a queued one
jumping-saved : step_answered (step (with_queued 0x8000_0100 jumping)) ≡ Err SavedWord
unfolding computes notice
jumping-saved = refl

-- a channel word, or a buffer, among the own words that are saved
channel_in_own_words : step_answered
    (step (with_this 0x8000_00f8 0x8000_0000 (running 0x8000_0100 1 0x8000_00f8 0x8000_00b0 (0xf7 ∷ []))))
    ≡ Err SavedWord
unfolding computes notice
channel_in_own_words = refl

buffer_in_own_words : step_answered
    (step (with_this 0x8000_00a0 0x8000_0000 (running 0x8000_0100 1 0x8000_00a0 0x8000_00f5 (0xf7 ∷ []))))
    ≡ Err SavedWord
unfolding computes notice
buffer_in_own_words = refl

-- no byte of an empty message is touched
empty_nowhere : step_answered
    (step (with_this 0x8000_00a0 0x8000_0000 (running 0x8000_0100 0 0x8000_00a0 3 (0xf7 ∷ [])))) ≡ Ok Instruction
unfolding computes notice
empty_nowhere = refl

-- `altwt`
abbrev awaits : ℕ → Machine
awaits state = with_this 0x8000_00f4 state (running 0x8000_0100 0 0 0 (0x24 ∷ 0xf4 ∷ []))

awaits-ready : count_then (awaits 0x8000_0003) ≡ Some (Some 1, 3)
unfolding computes notice
awaits-ready = refl

awaits-none : word_then 0x8000_00f4 (awaits 0x8000_0001) ≡ Some 0x8000_0002
unfolding computes notice
awaits-none = refl

-- a new process
run_itself : step_answered (step (running 0x8000_0100 0x8000_0100 0 0 (0x23 ∷ 0xf9 ∷ []))) ≡ Err AlreadyLive
unfolding computes notice
run_itself = refl

start_odd : step_answered (step (running 0x8000_0100 0x8000_00d1 0 0 (0xfd ∷ []))) ≡ Err Unaligned
unfolding computes notice
start_odd = refl

-- a byte comes that nobody asked for: what stands in the state word of the process that enabled the link
abbrev state_noticed : ℕ → Machine → ℕ
state_noticed a n = word_at (notice 2 n).store a

-- the process that runs enabled the link: its state word is set
noticed-running : state_noticed 0x8000_00f4 (with_enabled 2 0x8000_0101 (enables 0 0)) ≡ 0x8000_0003
unfolding computes notice
noticed-running = refl

-- the process that runs may not write its state word: the word is unchanged
noticed-silent : state_noticed 0x8000_00f4
    (with_output 0 0x8000_00d1 0x8000_00f4 1 (with_enabled 2 0x8000_0101 (enables 0 0))) ≡ 0x8000_0001
unfolding computes notice
noticed-silent = refl

-- a queued process enabled the link: its state word is set
noticed-queued : state_noticed 0x8000_00c4
    (with_this 0x8000_00c4 0x8000_0001 (with_queued 0x8000_00d0 (with_enabled 2 0x8000_00d1 jumping))) ≡ 0x8000_0003
unfolding computes notice
noticed-queued = refl

-- a process that waits for its alternative enabled the link: it is queued
noticed-waiting : (notice 2 (with_waiter 0x8000_00d1 Chooses (with_enabled 2 0x8000_00d1 jumping))).control.low
    ≡ 0x8000_00d0 ∷ []
unfolding computes notice
noticed-waiting = refl

-- `startp` beside a given number of queued processes, in a larger memory
abbrev crowd : ℕ → List ℕ
crowd zero = []
crowd (suc k) = (0x8000_0120 + 12 * k) ∷ crowd k

abbrev crowded : ℕ → Machine
crowded k =
    let n = running 0x8000_0100 0x8000_00d0 0 0 (0xfd ∷ []) in
    record n { control = record n.control { low = crowd k }; store = n.store ++ replicate 6400 (Some 0) }

one_more : step_answered (step (crowded 510)) ≡ Ok Instruction
unfolding computes
one_more = refl

no_more : step_answered (step (crowded 511)) ≡ Err TooManyProcesses
unfolding computes
no_more = refl
