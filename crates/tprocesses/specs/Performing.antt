-- An action on the store, done word by word: what it touches it looks at, what it writes it puts. Unknown bytes read as
-- 0, and are noted. No action of decoding or of an instruction reads a word after it has written it.
-- Source: own choice, the actions of `tword` over places.
use Rattle.std.specs.Prelude.{ℕ, ◌%◌, Bool, true, ◌&&◌, List, [], ◌∷◌, map, Some, None, if◌then◌else◌}
use Rattle.std.specs.Int.{w32, from_le_bytes, to_le_bytes}
use Rattle.tword.specs.declared.span.Span.{Span}
use Rattle.tword.specs.Stores.{Store, shown}
use Rattle.tword.specs.Touches.{Reads, byte_span}
use Rattle.tword.specs.Actions.{Action, answer, breaks, requiring, touching_word, touching_byte, touching}
use Rattle.tword.specs.Actions.{writing_word, writing_byte, copying, descheduling, reading_saved, setting_saved}
use Rattle.tprocesses.specs.Changes.{are_known}
use Rattle.tprocesses.specs.Parts.{Part, gives, stopping, Doing, require, Breaks, NotLocal, ◌>>=◌, ◌>>◌}
use Rattle.tprocesses.specs.Touching.{Site, touch, touch_word_at, part_of, write, write_word_at}

-- what an action answers, and whether all that it read is known
pub record Performed (A : Type 0) : Type 0 where
  pub value : A
  pub known : Bool

-- the first of what is told of written values, in their order, and the rest; the others are known
abbrev pub is_next_known : List Bool → Bool
is_next_known [] = true
is_next_known (k ∷ ks) = k

abbrev pub after_next : List Bool → List Bool
after_next [] = []
after_next (k ∷ ks) = ks

-- bytes, or where they are not known as many that are not
abbrev pub bytes_if : Bool → List ℕ → Store
bytes_if known bytes = map (λ b. if known then Some b else None) bytes

-- what was read before is known or not
abbrev pub noted : {A : Type 0} → Bool → Part (Performed A) → Part (Performed A)
noted known rest = do
  p ← rest
  gives (record { value = p.value; known = known && p.known })

-- the bytes of a span replace those of another, as if all were read first
abbrev pub copied : Site → (from to : Span) → Doing
copied s from to = do
  words ← touch s Reads from
  write s to (part_of from words)

-- an action. known: of the values that it writes, in their order, whether they are known
abbrev pub perform : {A : Type 0} → Site → List Bool → Action A → Part (Performed A)
perform s known (answer x) = gives (record { value = x; known = true })
perform s known (breaks b) = stopping (Breaks b)
perform s known (requiring t b next) = require t (Breaks b) >> perform s known next
perform s known (touching_word mode a next) =
    touch_word_at s mode a >>=
    (λ cells. noted (are_known cells) (perform s known (next (from_le_bytes w32 (shown cells)))))
perform s known (touching_byte mode a next) =
    touch s mode (byte_span a) >>=
    (λ words. let cells = part_of (byte_span a) words in
    noted (are_known cells) (perform s known (next (from_le_bytes w32 (shown cells)))))
perform s known (touching mode span next) = touch s mode span >> perform s known next
perform s known (writing_word a v next) =
    write_word_at s a (bytes_if (is_next_known known) (to_le_bytes w32 v))
    >> perform s (after_next known) next
perform s known (writing_byte a v next) =
    write s (byte_span a) (bytes_if (is_next_known known) (v % 256 ∷ []))
    >> perform s (after_next known) next
perform s known (copying from to count next) =
    copied s (record { start = from; size = count }) (record { start = to; size = count }) >> perform s known next
perform s known (descheduling w next) = stopping NotLocal
perform s known (reading_saved w k next) = stopping NotLocal
perform s known (setting_saved w k v next) = stopping NotLocal
