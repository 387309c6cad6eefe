use Rattle.std.proofs.Common.{ℕ, List, ap, sym, ◌∙◌}
use Rattle.tfiles.proofs.Told.{tells_as}
use Rattle.tjson.specs.Runs.{message_member, note_member}
use Rattle.tjson.proofs.trace.put_member.Goals as goal

pub returns-in-Msg : goal.returns-in-Msg
returns-in-Msg g c =
    tells_as c.put_message.ensures
    (ap (λ (bytes : List ℕ). message_member c.in-Msg.from c.in-Msg.to bytes) c.as_slice.ensures
    ∙ ap note_member (sym c.in-Msg.is))

pub returns-in-Freeze : goal.returns-in-Freeze
returns-in-Freeze g c = tells_as c.put_freeze.ensures (ap note_member (sym c.in-Freeze.is))
