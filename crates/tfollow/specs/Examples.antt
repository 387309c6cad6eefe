-- Rows that the definitions compute: numbers and modes.
-- Source: own choice.
use Rattle.std.specs.Prelude.{◌≡◌, refl, true, false, [], ◌∷◌}
use Rattle.tagents.specs.WalkAccesses.{Looks, Changes}
use Rattle.tclocks.specs.Modes.{collide}
use Rattle.tprocesses.specs.Places.{WordAt, Sending}
use Rattle.tprocesses.specs.Changes.{Puts, Engages, Adds, Decrements}
use Rattle.tprocesses.specs.Machine.{Channel, Successor}
use Rattle.tfollow.specs.Numbering.{number_in, IsNew}
use Rattle.tfollow.specs.Modes.{mode_at}

-- the second of two agents, and one that is new
second_number : number_in (Channel 0 8 ∷ Successor 0 3 ∷ []) (Successor 0 3) ≡ 1
second_number = refl

new_number : IsNew (Channel 0 8 ∷ Successor 0 3 ∷ []) (Channel 1 8)
new_number = refl

-- two processes of one priority end in either order, of two priorities they do not
ends_alike : collide (mode_at (WordAt 0 3) (Changes (Decrements 1))) (mode_at (WordAt 0 3) (Changes (Decrements 1)))
    ≡ false
ends_alike = refl

ends_otherwise :
    collide (mode_at (WordAt 0 3) (Changes (Decrements 0))) (mode_at (WordAt 0 3) (Changes (Decrements 1))) ≡ true
ends_otherwise = refl

-- two processes come to a channel in either order
meets : collide (mode_at (WordAt 0 3) (Changes Engages)) (mode_at (WordAt 0 3) (Changes Engages)) ≡ false
meets = refl

-- a word may be read while an output of it is pending, and not be written
reads_what_is_sent : collide (mode_at (WordAt 0 3) Looks) (mode_at (Sending 0 3) (Changes Adds)) ≡ false
reads_what_is_sent = refl

writes_what_is_sent : collide (mode_at (WordAt 0 3) (Changes Puts)) (mode_at (Sending 0 3) (Changes Adds)) ≡ true
writes_what_is_sent = refl
