-- The operations of the scheduler. In the context Iptr is already the address after the instruction.
-- Source: the Compiler Writer's Guide (1988). That the last of several processes leaves its priority for the one that
-- goes on as their successor, and the checks: own choice.
use Rattle.std.specs.Prelude.{ℕ, suc, ◌+◌, ◌*◌, true, false, [], Option, Some, None, if◌then◌else◌}
use Rattle.std.specs.Int.{w32, to_le_bytes}
use Rattle.tcode.specs.declared.instruction.Operation.{Operation}
use Rattle.tcode.specs.declared.instruction.Operation.TheVariants.{Startp, Endp, Runp, Stopp, Stoperr, Ldpri, In}
use Rattle.tcode.specs.declared.instruction.Operation.TheVariants.{Out, Outbyte, Outword, Alt, Enbc, Enbs, Altwt}
use Rattle.tcode.specs.declared.instruction.Operation.TheVariants.{Disc, Diss, Altend}
use Rattle.tword.specs.declared.breaks.Break.TheVariants.{NoSuchOperation}
use Rattle.tword.specs.declared.span.Span.{Span}
use Rattle.tword.specs.Stores.{Store, as_cells}
use Rattle.tword.specs.Words.{most_neg, plus, minus, word_below}
use Rattle.tword.specs.Touches.{Reads, word_place_break}
use Rattle.tproc.specs.Machine.{workspace_of, priority_of}
use Rattle.tproc.specs.declared.channels.Side.{Side}
use Rattle.tproc.specs.declared.channels.Side.TheVariants.{Input, Output}
use Rattle.tproc.specs.LinkChannels.{is_link}
use Rattle.tprocesses.specs.Places.{Name, WordAt, Error, Successions, After, child_of}
use Rattle.tprocesses.specs.Values.{Use, Last, Context, Runs, IsWord, IsCount, word_in, flag_in, count_in}
use Rattle.tprocesses.specs.Changes.{Put, Decrement, free_word, known_word}
use Rattle.tprocesses.specs.Parts.{Doing, stopping, see, change, unless, Breaks, WordInUse, ◌>>=◌}
use Rattle.tprocesses.specs.Parts.{◌>>◌}
use Rattle.tprocesses.specs.Touching.{Site, word_number, word_place, touch_word_at, write_word_at, unsent}
use Rattle.tprocesses.specs.Performing.{bytes_if}
use Rattle.tprocesses.specs.Standing.{goes_on, known, push, pop, fresh, comes, starts, ends}
use Rattle.tprocesses.specs.ChannelMessages.{takes_half}
use Rattle.tprocesses.specs.LinkMessages.{takes_link}
use Rattle.tprocesses.specs.Choosing.{begins_choice, enables_channel, enables_skip, awaits_choice, disables_channel}
use Rattle.tprocesses.specs.Choosing.{disables_skip, ends_choice}

-- a process that has started one more child
abbrev pub with_child : Context → Context
with_child c = record c { children = suc c.children }

-- `startp`
abbrev pub starts_child : Site → Name → Context → Doing
starts_child s x c = do
  workspace ← known c.a
  offset ← known c.b
  starts s (child_of x c.children) (fresh c.priority workspace (plus c.iptr offset))
  goes_on x (pop (pop (with_child c)))

-- `runp`: its first address is the saved one of its workspace
abbrev pub runs_child : Site → Name → Context → Doing
runs_child s x c = do
  process ← known c.a
  cells ← touch_word_at s Reads (word_below (workspace_of process) 1)
  iptr ← known (known_word cells)
  starts s (child_of x c.children) (fresh (priority_of process) (workspace_of process) iptr)
  goes_on x (pop (with_child c))

-- `stopp`
abbrev pub stops_itself : Site → Name → Context → Doing
stops_itself s x c = do
  write_word_at s (word_below c.wptr 1) (as_cells (to_le_bytes w32 c.iptr))
  ends s x c

-- `stoperr`
abbrev pub stops_by_error : Site → Name → Context → Doing
stops_by_error s x c = do
  error ← see (Error s.number)
  (if flag_in error then stops_itself s x c else goes_on x c)

-- `endp`: the word after the one that has the successor's first address is counted down, without a look at it
abbrev pub ends_among_others : Site → Name → Context → Doing
ends_among_others s x c = do
  workspace ← known c.a
  _ ← touch_word_at s Reads workspace
  unless (word_place_break s.size (plus workspace 4))
  unsent s (word_number (plus workspace 4))
  change (word_place s (plus workspace 4)) (Decrement c.priority)
  ends s x c

-- a communication on any channel
abbrev pub communicates : Site → Name → Context → Side → (channel : ℕ) → (buffer : Span) → Doing
communicates s x c side channel buffer =
    if is_link channel then takes_link s x c side channel buffer else takes_half s x c side channel buffer

-- `in` and `out`
abbrev pub sends_or_receives : Side → Site → Name → Context → Doing
sends_or_receives side s x c = do
  length ← known c.a
  channel ← known c.b
  buffer ← known c.c
  communicates s x c side channel (record { start = buffer; size = length })

-- the bytes of a register, which need not be known
abbrev pub laid_down : Option ℕ → Store
laid_down (Some v) = bytes_if true (to_le_bytes w32 v)
laid_down None = bytes_if false (to_le_bytes w32 0)

-- `outbyte` and `outword`: the message is stored at the workspace
abbrev pub sends_from_workspace : ℕ → Site → Name → Context → Doing
sends_from_workspace length s x c = do
  channel ← known c.b
  write_word_at s c.wptr (laid_down c.a)
  communicates s x c Output channel (record { start = c.wptr; size = length })

-- an operation of the scheduler
abbrev pub schedules : Operation → Site → Name → Context → Doing
schedules Startp s x c = starts_child s x c
schedules Endp s x c = ends_among_others s x c
schedules Runp s x c = runs_child s x c
schedules Stopp s x c = stops_itself s x c
schedules Stoperr s x c = stops_by_error s x c
schedules Ldpri s x c = goes_on x (push (Some c.priority) c)
schedules In s x c = sends_or_receives Input s x c
schedules Out s x c = sends_or_receives Output s x c
schedules Outbyte s x c = sends_from_workspace 1 s x c
schedules Outword s x c = sends_from_workspace 4 s x c
schedules Alt s x c = begins_choice s x c
schedules Enbc s x c = enables_channel s x c
schedules Enbs s x c = enables_skip s x c
schedules Altwt s x c = awaits_choice s x c
schedules Disc s x c = disables_channel s x c
schedules Diss s x c = disables_skip s x c
schedules Altend s x c = ends_choice s x c
schedules _ s x c = stopping (Breaks NoSuchOperation)

-- the workspace of the process that goes on where others have ended, by the number of the word that counted them: that
-- word is the one after the word at the workspace
abbrev pub successor_workspace : ℕ → ℕ
successor_workspace k = minus (most_neg + 4 * k) 4

-- a process goes on with the priority that the last one left at the count
abbrev pub goes_on_after : Site → (k : ℕ) → Use → Doing
goes_on_after s k (Last priority) = let w = successor_workspace k in do
  cells ← touch_word_at s Reads w
  iptr ← known (known_word cells)
  unsent s k
  change (WordAt s.number k) (Put (IsWord (free_word 0)))
  earlier ← see (Successions s.number w)
  change (Successions s.number w) (Put (IsCount (suc (count_in earlier))))
  comes s (record { node = s.number; root = After w (count_in earlier); path = [] }) (fresh priority w iptr) Runs
goes_on_after s k _ = stopping WordInUse

-- the step of a successor: it goes on in the place of those that have ended
abbrev pub successor_step : (k : ℕ) → Site → Doing
successor_step k s = do
  count ← see (WordAt s.number k)
  goes_on_after s k (word_in count).used
