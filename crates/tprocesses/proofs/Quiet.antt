-- Parts of steps that leave all processes where they stand, and move none to another workspace.
use Rattle.std.proofs.Common.{◌≡◌, ℕ, zero, suc, refl, List, [], ◌∷◌, Bool, true, false, Option, Some, None}
use Rattle.std.specs.Prelude.{ℤ, pos, ◌%◌, drop, replicate, if◌then◌else◌}
use Rattle.std.specs.Int.{w32, from_le_bytes, to_le_bytes}
use Rattle.tword.specs.declared.breaks.Break.{Break}
use Rattle.tword.specs.declared.span.Span.{Span}
use Rattle.tword.specs.Stores.{Store, shown}
use Rattle.tword.specs.Words.{word_below}
use Rattle.tword.specs.Touches.{Mode, Reads, Writes, byte_span, place_break, word_place_break}
use Rattle.tword.specs.Actions.{Action, answer, breaks, requiring, touching_word, touching_byte, touching, writing_word}
use Rattle.tword.specs.Actions.{writing_byte, copying, descheduling, reading_saved, setting_saved}
use Rattle.tcpu.specs.declared.registers.Registers.{Registers}
use Rattle.tproc.specs.declared.channels.Side.{Side}
use Rattle.tproc.specs.declared.channels.Side.TheVariants.{Input, Output}
use Rattle.tprocesses.specs.Places.{Place, Standing, Life, Population, HasRun, FlagChanged, Error, HaltOnError}
use Rattle.tprocesses.specs.Values.{Value, Use, Free, Saved, Receiving, Engaged}
use Rattle.tprocesses.specs.Values.{Choosing, Awaiting, Last, Spoilt, IsStand, Ended}
use Rattle.tprocesses.specs.Values.{word_in, amount_in}
use Rattle.tprocesses.specs.Changes.{Change, Put, Raise, are_known}
use Rattle.tprocesses.specs.Parts.{Reason, Part, gives, stopping, seeing, changing, telling, require, unless, Breaks}
use Rattle.tprocesses.specs.Parts.{WordInUse, ◌>>=◌}
use Rattle.tprocesses.specs.Touching.{Site, word_number, word_count, is_zero, free_cells, same_use, word_for, words_for}
use Rattle.tprocesses.specs.Touching.{unsent, settled, touch_word, touch_words, touch, part_of, replaced, put_words}
use Rattle.tprocesses.specs.Touching.{put, write, count_words, count_outputs, touch_word_at, write_word_at, save_word}
use Rattle.tprocesses.specs.Touching.{save_upper, save, forgotten}
use Rattle.tprocesses.specs.Performing.{Performed, noted, copied, perform, is_next_known, after_next, bytes_if}
use Rattle.tprocesses.specs.Standing.{known, unsave_word, unsave_upper, unsave}
use Rattle.tprocesses.specs.LinkMessages.{lends}
use Rattle.tprocesses.specs.Instructions.{Flags, flags_before, is_same_flag, sets_flag, flags_after}

-- a change that begins and ends no process, moves none to another workspace, and clears no flag that tells which
-- priorities have run and whether a flag was changed. Where a process stands is put
abbrev pub IsPlain : Place → Change → Type 0
IsPlain (Standing x) (Put (IsStand Ended)) = ⊥
IsPlain (Standing x) (Put (IsStand stand)) = Unit {0}
IsPlain (Standing x) c = ⊥
IsPlain (Life n w) c = ⊥
IsPlain (Population n) c = ⊥
IsPlain (HasRun n q) c = c ≡ Raise
IsPlain (FlagChanged n) c = c ≡ Raise
IsPlain _ c = Unit {0}

-- such a change that leaves each process where it stands
abbrev pub IsQuiet : Place → Change → Type 0
IsQuiet (Standing x) c = ⊥
IsQuiet q c = IsPlain q c

pub quiet_is_plain : (q : Place) (c : Change) → IsQuiet q c → IsPlain q c
quiet_is_plain (Standing x) c h = absurd h
quiet_is_plain _ c h = h

-- a part that makes changes of a kind alone
abbrev pub Makes : {A : Type 0} → (Place → Change → Type 0) → Part A → Type 0
Makes F (gives x) = Unit {0}
Makes F (stopping why) = Unit {0}
Makes F (seeing q next) = (v : Value) → Makes F (next v)
Makes F (changing q c next) = F q c × Makes F next
Makes F (telling m next) = Makes F next

-- one part and then another
pub both : {A B : Type 0} (F : Place → Change → Type 0) (part : Part A) (f : A → Part B) → Makes F part
    → ((x : A) → Makes F (f x)) → Makes F (part >>= f)
both F (gives x) f h k = k x
both F (stopping why) f h k = tt
both F (seeing q next) f h k = λ v. both F (next v) f (h v) k
both F (changing q c next) f h k = (h.0, both F next f h.1 k)
both F (telling m next) f h k = both F next f h k

-- changes of another kind too
pub widen : {A : Type 0} (F G : Place → Change → Type 0) (part : Part A)
    → ((q : Place) (c : Change) → F q c → G q c) → Makes F part → Makes G part
widen F G (gives x) to h = tt
widen F G (stopping why) to h = tt
widen F G (seeing q next) to h = λ v. widen F G (next v) to (h v)
widen F G (changing q c next) to h = (to q c h.0, widen F G next to h.1)
widen F G (telling m next) to h = widen F G next to h

-- a part that makes quiet changes alone
abbrev pub Quiet : {A : Type 0} → Part A → Type 0
Quiet part = Makes IsQuiet part

andthen : {A B : Type 0} (part : Part A) (f : A → Part B) → Quiet part → ((x : A) → Quiet (f x)) → Quiet (part >>= f)
andthen part f h k = both IsQuiet part f h k

pub chooses : {A : Type 0} (b : Bool) (x y : Part A) → Quiet x → Quiet y → Quiet (if b then x else y)
chooses true x y h k = h
chooses false x y h k = k

pub requires : (b : Bool) (why : Reason) → Quiet (require b why)
requires true why = tt
requires false why = tt

pub unlesses : (b : Option Break) → Quiet (unless b)
unlesses None = tt
unlesses (Some b) = tt

-- touches of words
frees : (u : Use) (cells : Store) → Quiet (free_cells u cells)
frees Free cells = tt
frees Saved cells = tt
frees Receiving cells = tt
frees Engaged cells = tt
frees Choosing cells = tt
frees Awaiting cells = tt
frees (Last p) cells = tt
frees Spoilt cells = tt

pub unsents : (s : Site) (k : ℕ) → Quiet (unsent s k)
unsents s k v = chooses (is_zero (amount_in v)) _ _ tt tt

settles : (s : Site) (mode : Mode) (k : ℕ) → Quiet (settled s mode k)
settles s Reads k = tt
settles s Writes k = unsents s k

touches_word : (s : Site) (mode : Mode) (k : ℕ) → Quiet (touch_word s mode k)
touches_word s mode k v =
    andthen (free_cells (word_in v).used (word_in v).cells) _ (frees (word_in v).used (word_in v).cells)
    (λ cells. andthen (settled s mode k) _ (settles s mode k) (λ y. tt))

touches_words : (s : Site) (mode : Mode) (k count : ℕ) → Quiet (touch_words s mode k count)
touches_words s mode k zero = tt
touches_words s mode k (suc count) =
    andthen (touch_word s mode k) _ (touches_word s mode k)
    (λ cells. andthen (touch_words s mode (suc k) count) _ (touches_words s mode (suc k) count) (λ rest. tt))

pub touches : (s : Site) (mode : Mode) (span : Span) → Quiet (touch s mode span)
touches s mode span =
    andthen (unless (place_break s.size span)) _ (unlesses (place_break s.size span))
    (λ y. touches_words s mode (word_number span.start) (word_count span))

pub words_have : (s : Site) (used : Use) (k : ℕ) → Quiet (word_for s used k)
words_have s used k v =
    andthen (require (same_use (word_in v).used used) WordInUse) _ (requires (same_use (word_in v).used used) WordInUse)
    (λ y. tt)

pub all_have : (s : Site) (used : Use) (k count : ℕ) → Quiet (words_for s used k count)
all_have s used k zero = tt
all_have s used k (suc count) =
    andthen (word_for s used k) _ (words_have s used k)
    (λ cells. andthen (words_for s used (suc k) count) _ (all_have s used (suc k) count) (λ rest. tt))

puts_words : (s : Site) (used : Use) (k count : ℕ) (words : Store) → Quiet (put_words s used k count words)
puts_words s used k zero words = tt
puts_words s used k (suc count) words = (tt, puts_words s used (suc k) count (drop 4 words))

pub puts : (s : Site) (used : Use) (span : Span) (words : Store) → Quiet (put s used span words)
puts s used span words = puts_words s used (word_number span.start) (word_count span) words

writes : (s : Site) (span : Span) (new : Store) → Quiet (write s span new)
writes s span new =
    andthen (touch s Writes span) _ (touches s Writes span) (λ words. puts s Free span (replaced span words new))

counts_words : (s : Site) (z : ℤ) (k count : ℕ) → Quiet (count_words s z k count)
counts_words s z k zero = tt
counts_words s z k (suc count) = (tt, counts_words s z (suc k) count)

pub counts : (s : Site) (z : ℤ) (span : Span) → Quiet (count_outputs s z span)
counts s z span = counts_words s z (word_number span.start) (word_count span)

pub touches_at : (s : Site) (mode : Mode) (address : ℕ) → Quiet (touch_word_at s mode address)
touches_at s mode address =
    andthen (unless (word_place_break s.size address)) _ (unlesses (word_place_break s.size address))
    (λ y. touches_word s mode (word_number address))

pub writes_at : (s : Site) (address : ℕ) (new : Store) → Quiet (write_word_at s address new)
writes_at s address new = andthen (touch_word_at s Writes address) _ (touches_at s Writes address) (λ y. (tt, tt))

saves_word : (s : Site) (address : ℕ) (new : Store → Store) → Quiet (save_word s address new)
saves_word s address new = andthen (touch_word_at s Writes address) _ (touches_at s Writes address) (λ y. (tt, tt))

pub saves_upper : (s : Site) (w : ℕ) → Quiet (save_upper s w)
saves_upper s w =
    andthen (save_word s (word_below w 2) forgotten) _ (saves_word s (word_below w 2) forgotten)
    (λ z. saves_word s (word_below w 1) forgotten)

pub saves : (s : Site) (w : ℕ) (lowest : Store → Store) → Quiet (save s w lowest)
saves s w lowest =
    andthen (save_word s (word_below w 3) lowest) _ (saves_word s (word_below w 3) lowest) (λ y. saves_upper s w)

-- actions
notes : {A : Type 0} (all : Bool) (rest : Part (Performed A)) → Quiet rest → Quiet (noted all rest)
notes all rest h = andthen rest _ h (λ y. tt)

pub copies : (s : Site) (from to : Span) → Quiet (copied s from to)
copies s from to =
    andthen (touch s Reads from) _ (touches s Reads from) (λ words. writes s to (part_of from words))

pub performs : {A : Type 0} (s : Site) (told : List Bool) (x : Action A) → Quiet (perform s told x)
performs s told (answer x) = tt
performs s told (breaks b) = tt
performs s told (requiring t b next) =
    andthen (require t (Breaks b)) _ (requires t (Breaks b)) (λ y. performs s told next)
performs s told (touching_word mode a next) =
    andthen (touch_word_at s mode a) _ (touches_at s mode a)
    (λ cells. notes (are_known cells) (perform s told (next (from_le_bytes w32 (shown cells))))
    (performs s told (next (from_le_bytes w32 (shown cells)))))
performs s told (touching_byte mode a next) =
    andthen (touch s mode (byte_span a)) _ (touches s mode (byte_span a))
    (λ words. notes (are_known (part_of (byte_span a) words))
    (perform s told (next (from_le_bytes w32 (shown (part_of (byte_span a) words)))))
    (performs s told (next (from_le_bytes w32 (shown (part_of (byte_span a) words))))))
performs s told (touching mode span next) =
    andthen (touch s mode span) _ (touches s mode span) (λ y. performs s told next)
performs s told (writing_word a v next) =
    andthen (write_word_at s a (bytes_if (is_next_known told) (to_le_bytes w32 v))) _
    (writes_at s a (bytes_if (is_next_known told) (to_le_bytes w32 v)))
    (λ y. performs s (after_next told) next)
performs s told (writing_byte a v next) =
    andthen (write s (byte_span a) (bytes_if (is_next_known told) (v % 256 ∷ []))) _
    (writes s (byte_span a) (bytes_if (is_next_known told) (v % 256 ∷ [])))
    (λ y. performs s (after_next told) next)
performs s told (copying from to count next) =
    andthen (copied s (record { start = from; size = count }) (record { start = to; size = count })) _
    (copies s (record { start = from; size = count }) (record { start = to; size = count }))
    (λ y. performs s told next)
performs s told (descheduling w next) = tt
performs s told (reading_saved w k next) = tt
performs s told (setting_saved w k v next) = tt

-- processes that come, wait, go on and end
pub knows : (o : Option ℕ) → Quiet (known o)
knows None = tt
knows (Some v) = tt

unsaves_word : (s : Site) (address : ℕ) → Quiet (unsave_word s address)
unsaves_word s address =
    andthen (word_for s Saved (word_number address)) _ (words_have s Saved (word_number address)) (λ cells. (tt, tt))

pub unsaves_upper : (s : Site) (w : ℕ) → Quiet (unsave_upper s w)
unsaves_upper s w =
    andthen (unsave_word s (word_below w 2)) _ (unsaves_word s (word_below w 2))
    (λ z. unsaves_word s (word_below w 1))

pub unsaves : (s : Site) (w : ℕ) → Quiet (unsave s w)
unsaves s w =
    andthen (unsave_word s (word_below w 3)) _ (unsaves_word s (word_below w 3)) (λ y. unsaves_upper s w)

-- messages on links
pub lend : (side : Side) (s : Site) (buffer : Span) → Quiet (lends side s buffer)
lend Output s buffer =
    andthen (touch s Reads buffer) _ (touches s Reads buffer) (λ words. counts s (pos 1) buffer)
lend Input s buffer =
    andthen (touch s Writes buffer) _ (touches s Writes buffer)
    (λ words. puts s Receiving buffer (replaced buffer words (replicate buffer.size None)))

-- instructions
pub flags_looked_at : (s : Site) (b : Bool) → Quiet (flags_before s b)
flags_looked_at s true = λ error halting. tt
flags_looked_at s false = tt

set_error_flag : (s : Site) (old new : Bool) → Quiet (sets_flag s (Error s.number) old new)
set_error_flag s old new = chooses (is_same_flag old new) _ _ tt (tt, (refl, tt))

set_halting_flag : (s : Site) (old new : Bool) → Quiet (sets_flag s (HaltOnError s.number) old new)
set_halting_flag s old new = chooses (is_same_flag old new) _ _ tt (tt, (refl, tt))

pub set_flags : (s : Site) (b : Bool) (f : Flags) (r : Registers) → Quiet (flags_after s b f r)
set_flags s true f r =
    andthen (sets_flag s (Error s.number) f.error r.error) _ (set_error_flag s f.error r.error)
    (λ y. set_halting_flag s f.halt_on_error r.halt_on_error)
set_flags s false f r = tt
