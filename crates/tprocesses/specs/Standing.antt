-- How a process comes, waits, goes on and ends.
-- Source: the Compiler Writer's Guide (1988) for the saved words. That each process that is ready may go on at any
-- time, and what it knows then: own choice.
use Rattle.std.specs.Prelude.{ℕ, ◌==◌, pos, negsuc, Bool, true, false, Option, Some, None, is_none}
use Rattle.std.specs.Prelude.{if◌then◌else◌}
use Rattle.tword.specs.declared.breaks.Break.TheVariants.{Unaligned, AlreadyLive}
use Rattle.tword.specs.Words.{word_below}
use Rattle.tword.specs.Touches.{is_aligned}
use Rattle.tplan.specs.Wires.{end_at}
use Rattle.tprocesses.specs.Places.{Name, Standing, Unfinished, Life, Population, HasRun}
use Rattle.tprocesses.specs.Values.{Free, Saved, Context, Lent, Stand, Absent, Rests, Runs, Waits, Ended, IsWord}
use Rattle.tprocesses.specs.Values.{IsStand, IsFlag, stand_in, flag_in, amount_in}
use Rattle.tprocesses.specs.Changes.{Put, Add, Raise}
use Rattle.tprocesses.specs.Parts.{Part, gives, stopping, Doing, done, see, change, require, Breaks}
use Rattle.tprocesses.specs.Parts.{SawTheScheduler, WordInUse, HasNoStep, ◌>>=◌, ◌>>◌}
use Rattle.tprocesses.specs.Touching.{Site, word_number, word_place, is_zero, word_for, count_outputs, save, kept}

-- a process stands there
abbrev pub stands : Name → Stand → Doing
stands x stand = change (Standing x) (Put (IsStand stand))

-- the process goes on with this context
abbrev pub goes_on : Name → Context → Doing
goes_on x c = stands x (Runs c)

-- a value that decides has to be known
abbrev pub known : Option ℕ → Part ℕ
known (Some v) = gives v
known None = stopping SawTheScheduler

-- a value is pushed
abbrev pub push : Option ℕ → Context → Context
push v c = record c { a = v; b = c.a; c = c.b }

-- the top is dropped, and the lowest register keeps its value
abbrev pub pop : Context → Context
pop c = record c { a = c.b; b = c.c }

-- the registers that the scheduler changes are not known
abbrev pub forget : Context → Context
forget c = record c { a = None; b = None; c = None }

-- a process that starts, with these registers
abbrev pub fresh : (priority workspace iptr : ℕ) → Context
fresh priority w iptr =
    record {
      priority = priority;
      wptr = w;
      iptr = iptr;
      a = Some 0;
      b = Some 0;
      c = Some 0;
      children = 0;
      lent = None;
      choice = None;
    }

-- a process that starts was not there
abbrev pub is_absent : Stand → Bool
is_absent Absent = true
is_absent _ = false

-- a process is added with a workspace that no other one has
abbrev pub comes : Site → Name → Context → (Context → Stand) → Doing
comes s x c stand = do
  life ← see (Life s.number c.wptr)
  require (is_zero (amount_in life)) (Breaks AlreadyLive)
  change (Life s.number c.wptr) (Add (pos 1))
  stood ← see (Standing x)
  require (is_absent (stand_in stood)) HasNoStep
  stands x (stand c)
  change (Population s.number) (Add (pos 1))
  change (HasRun s.number c.priority) Raise

-- a process is started by another one
abbrev pub starts : Site → Name → Context → Doing
starts s x c = do
  require (is_aligned c.wptr) (Breaks Unaligned)
  comes s x c Rests
  save s c.wptr kept

-- a process ends, with no alternative under way
abbrev pub ends : Site → Name → Context → Doing
ends s x c = do
  require (is_none c.choice) WordInUse
  change (Life s.number c.wptr) (Add (negsuc 0))
  stands x Ended

-- a process has another workspace now, or still the same
abbrev pub moves : Site → (old new : ℕ) → Doing
moves s old new =
    if old == new then done
    else (do
      change (Life s.number old) (Add (negsuc 0))
      change (Life s.number new) (Add (pos 1)))

-- a process that waited is ready
abbrev pub ready : Stand → Name → Option Lent → Doing
ready (Waits c) x lent = stands x (Rests (record c { lent = lent }))
ready _ x lent = stopping HasNoStep

-- the message of a process has passed; lent: its output of a link, which is not over yet
abbrev pub wakes : Name → Option Lent → Doing
wakes x lent = do
  stood ← see (Standing x)
  ready (stand_in stood) x lent

-- a saved word is one for programs again
abbrev pub unsave_word : Site → ℕ → Doing
unsave_word s address = do
  cells ← word_for s Saved (word_number address)
  change (word_place s address) (Put (IsWord (record { cells = cells; used = Free })))

-- the upper two words below a workspace are for programs again
abbrev pub unsave_upper : Site → ℕ → Doing
unsave_upper s w = do
  unsave_word s (word_below w 2)
  unsave_word s (word_below w 1)

-- the three words below a workspace are for programs again
abbrev pub unsave : Site → ℕ → Doing
unsave s w = do
  unsave_word s (word_below w 3)
  unsave_upper s w

-- an output of a link is over: its buffer may be written, and its link is free
abbrev pub takes_back : Site → Option Lent → Doing
takes_back s None = done
takes_back s (Some l) = do
  count_outputs s (negsuc 0) l.buffer
  unfinished ← see (Unfinished (end_at s.number l.link))
  require (flag_in unfinished) HasNoStep
  change (Unfinished (end_at s.number l.link)) (Put (IsFlag false))

-- a process that rests goes on
abbrev pub resumes : Site → Name → Context → Doing
resumes s x c = do
  unsave s c.wptr
  takes_back s c.lent
  goes_on x (record c { lent = None })
