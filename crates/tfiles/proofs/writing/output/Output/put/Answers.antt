use Rattle.std.proofs.Common.{◌≡◌, refl, sym, ap, ◌∙◌, List, ℕ, [], ◌++◌, inl, inr, true, false}
use Rattle.tfiles.proofs.Told.{tells_then, tells_handed, tells_kept}
use Rattle.tfiles.proofs.writing.output.Output.put.Goals as goal

pub returns-then-has_room : goal.returns-then-has_room
returns-then-has_room g c =
    tells_then c.make_room.ensures.told (tells_kept c.make_room.new.self _ c.args.bytes.now refl refl c.keep.ensures)

pub returns-else-has_room : goal.returns-else-has_room
returns-else-has_room g c =
    let none : c.make_room.new.self.waiting ≡ [] =
    elim c.make_room.ensures.room [
      | inl fits ↦ (let both : true ≡ false = sym (c.has_room.ensures.1 fits) ∙ c.if-has_room.false in cc)
      | inr empty ↦ empty
    ] in
    tells_then c.make_room.ensures.told
    (tells_handed c.make_room.new.self _ c.args.bytes.now c.args.bytes.now
    (ap (λ (xs : List ℕ). xs ++ c.args.bytes.now) (sym none)) refl c.hand_on-self.ensures none)
