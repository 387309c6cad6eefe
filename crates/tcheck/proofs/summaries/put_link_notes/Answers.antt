use Rattle.tfiles.proofs.Told.{tells_then}
use Rattle.tcheck.proofs.summaries.put_link_notes.Goals as goal

pub returns : goal.returns
returns g c =
    tells_then c.put_link_note.ensures
    (tells_then c.put_link_note-2.ensures
    (tells_then c.put_link_note-3.ensures c.put_link_note-4.ensures))
