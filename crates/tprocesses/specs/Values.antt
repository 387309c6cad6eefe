-- What may stand at the places of the process machine. Registers and bytes that the scheduler may have changed are
-- unknown: None.
-- Source: the Compiler Writer's Guide (1988) for registers and workspaces. Unknown values, and what a word is in use
-- for: own choice.
use Rattle.std.specs.Prelude.{ℕ, ℤ, pos, Bool, true, List, [], Option, None, replicate}
use Rattle.tword.specs.Stores.{Store}
use Rattle.tword.specs.declared.span.Span.{Span}
use Rattle.tprocesses.specs.Places.{Name}

-- what a word is in use for
pub data Use : Type 0 where
  -- nothing: programs may use it
  Free : Use
  -- a saved word of a process that does not run
  Saved : Use
  -- the buffer of an input of a link that is pending
  Receiving : Use
  -- an internal channel on which a process waits
  Engaged : Use
  -- the state of an alternative that is under way
  Choosing : Use
  -- the state of an alternative whose process waits for it, or was made to go on
  Awaiting : Use
  -- the count of processes that end together: the last of them has ended, with this priority
  Last : (priority : ℕ) → Use
  -- two uses that exclude each other: whoever looks at it stops
  Spoilt : Use

-- a word: its four bytes, and its use
pub record Word : Type 0 where
  pub cells : Store
  pub used : Use

-- an output of a link whose message has gone over: its link and its buffer
pub record Lent : Type 0 where
  pub link : ℕ
  pub buffer : Span

-- an alternative that is under way: whether it need not wait, since a guard without a channel was true, or since a
-- channel made it go on
pub record Choice : Type 0 where
  pub skips : Bool

-- the registers of a process, how many processes it has started, its output that is not over, and its alternative
pub record Context : Type 0 where
  pub priority : ℕ
  pub wptr : ℕ
  pub iptr : ℕ
  pub a : Option ℕ
  pub b : Option ℕ
  pub c : Option ℕ
  pub children : ℕ
  pub lent : Option Lent
  pub choice : Option Choice

-- where a process stands
pub data Stand : Type 0 where
  -- it has not started
  Absent : Stand
  -- it is ready, and its words are saved
  Rests : Context → Stand
  -- it is ready
  Runs : Context → Stand
  -- it waits for a message to pass
  Waits : Context → Stand
  -- it waits for one of the channels that it has enabled
  Chooses : Context → Stand
  -- it is ready, since one of them made it go on
  Chosen : Context → Stand
  -- it is ready, and disables the input of a link that did not make it go on: nobody may send at the far end
  Listens : (channel : ℕ) → Context → Stand
  Ended : Stand

-- a process that waits at a channel, with its buffer
pub record Request : Type 0 where
  pub process : Name
  pub buffer : Span

-- who has a half of an internal channel
pub data Holder : Type 0 where
  Nobody : Holder
  TakenBy : Request → Holder
  -- a process that has enabled the channel
  EnabledBy : Name → Holder
  -- a process that waits for the channel, and for others
  AwaitedBy : Name → Holder

-- a half of a link
pub data Link : Type 0 where
  Empty : Link
  Offered : Request → Link
  -- a process that has enabled the input
  Enabled : Name → Link
  -- a process that waits for the input, and for others
  Awaited : Name → Link
  -- a process that the input made go on
  Fired : Name → Link

-- a value
pub data Value : Type 0 where
  IsWord : Word → Value
  IsStand : Stand → Value
  IsHalf : Holder → Value
  IsLink : Link → Value
  IsFlag : Bool → Value
  IsAmount : ℤ → Value
  IsCount : ℕ → Value
  -- channels
  ArePorts : List ℕ → Value
  -- messages still to come
  AreMessages : List (List ℕ) → Value
  -- messages kept, the first one first, and how many bytes there is room for
  AreKept : (room : ℕ) → List Store → Value

-- the four bytes of a word that are not known
abbrev pub unknown : Store
unknown = replicate 4 None

-- a value of each kind; where it is used none of another kind ever stands, so it does not matter what that one gives

abbrev pub word_in : Value → Word
word_in (IsWord w) = w
word_in _ = record { cells = unknown; used = Spoilt }

abbrev pub stand_in : Value → Stand
stand_in (IsStand s) = s
stand_in _ = Ended

abbrev pub half_in : Value → Holder
half_in (IsHalf h) = h
half_in _ = Nobody

abbrev pub link_in : Value → Link
link_in (IsLink l) = l
link_in _ = Empty

abbrev pub flag_in : Value → Bool
flag_in (IsFlag b) = b
flag_in _ = true

abbrev pub amount_in : Value → ℤ
amount_in (IsAmount z) = z
amount_in _ = pos 1

abbrev pub count_in : Value → ℕ
count_in (IsCount n) = n
count_in _ = 0

abbrev pub ports_in : Value → List ℕ
ports_in (ArePorts channels) = channels
ports_in _ = []
