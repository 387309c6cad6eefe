-- How a step changes the value at a place.
-- Source: own choice; for channel words and the count of `endp` the Compiler Writer's Guide (1988).
use Rattle.std.specs.Prelude.{ℕ, ◌==◌, ℤ, ◌+ℤ◌, Bool, true, false, Option, Some, None, is_some, if◌then◌else◌}
use Rattle.std.specs.List.{list_all}
use Rattle.std.specs.Int.{w32, from_le_bytes, to_le_bytes}
use Rattle.tword.specs.Stores.{Store, shown, as_cells}
use Rattle.tword.specs.Words.{minus}
use Rattle.tproc.specs.Queues.{not_process}
use Rattle.tprocesses.specs.Values.{Use, Free, Engaged, Last, Spoilt, Word, Value, IsWord, IsAmount, IsFlag}
use Rattle.tprocesses.specs.Values.{unknown}

-- a change. All but the first are made without a look at the place
pub data Change : Type 0 where
  -- this value, whatever stood there
  Put : Value → Change
  -- a channel word is taken by one of its two processes
  Engage : Change
  -- `endp` of a process of this priority counts down
  Decrement : (priority : ℕ) → Change
  -- a number is added
  Add : ℤ → Change
  -- a flag is set
  Raise : Change

-- all bytes are known
abbrev pub are_known : Store → Bool
are_known cells = list_all is_some cells

-- the word that bytes stand for, where all are known
abbrev pub known_word : Store → Option ℕ
known_word cells = if are_known cells then Some (from_le_bytes w32 (shown cells)) else None

-- a word for nothing, with the bytes of a number
abbrev pub free_word : ℕ → Word
free_word v = record { cells = as_cells (to_le_bytes w32 v); used = Free }

-- a word whose bytes are not known, in use
abbrev pub used_word : Use → Word
used_word u = record { cells = unknown; used = u }

-- a free word is taken as a channel if it names no process
abbrev pub taken : Option ℕ → Word
taken None = used_word Spoilt
taken (Some v) = if v == not_process then used_word Engaged else used_word Spoilt

-- a channel word after one of its processes has come
abbrev pub engaged : Use → Store → Word
engaged Free cells = taken (known_word cells)
engaged Engaged cells = used_word Engaged
engaged _ cells = used_word Spoilt

-- a free count after one of its processes has ended: the last one leaves its priority
abbrev pub counted_down : ℕ → Option ℕ → Word
counted_down priority None = used_word Spoilt
counted_down priority (Some v) = if v == 1 then used_word (Last priority) else free_word (minus v 1)

-- a count after one of its processes has ended
abbrev pub decremented : ℕ → Use → Store → Word
decremented priority Free cells = counted_down priority (known_word cells)
decremented priority _ cells = used_word Spoilt

-- what a change makes of a value
abbrev pub apply : Change → Value → Value
apply (Put v) _ = v
apply Engage (IsWord w) = IsWord (engaged w.used w.cells)
apply (Decrement p) (IsWord w) = IsWord (decremented p w.used w.cells)
apply (Add z) (IsAmount x) = IsAmount (x +ℤ z)
apply Raise (IsFlag b) = IsFlag true
apply _ v = v

-- the kinds of changes
pub data ChangeKind : Type 0 where
  Puts Engages Adds Raises : ChangeKind
  Decrements : (priority : ℕ) → ChangeKind

abbrev pub kind_of : Change → ChangeKind
kind_of (Put v) = Puts
kind_of Engage = Engages
kind_of (Decrement p) = Decrements p
kind_of (Add z) = Adds
kind_of Raise = Raises

-- the order of two changes of these kinds does not matter
abbrev pub commute : ChangeKind → ChangeKind → Bool
commute Engages Engages = true
commute (Decrements p) (Decrements q) = p == q
commute Adds Adds = true
commute Raises Raises = true
commute _ _ = false

-- the last of several processes has ended
abbrev pub is_last : Use → Bool
is_last (Last p) = true
is_last _ = false

-- a change makes this value only of one for which no agent has a step: the last `endp` does
abbrev pub awakens : Change → Value → Bool
awakens (Decrement p) (IsWord w) = is_last w.used
awakens _ _ = false
