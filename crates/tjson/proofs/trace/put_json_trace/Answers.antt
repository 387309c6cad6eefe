use Rattle.std.proofs.Common.{ap}
use Rattle.tplan.specs.declared.event.Note.{Note}
use Rattle.tfiles.specs.Logs.{line}
use Rattle.tfiles.proofs.LeftText.{flat_map-next, flat_map-end}
use Rattle.tfiles.proofs.Told.{tells_as, goes_on-start, goes_on-next, goes_on-end}
use Rattle.tjson.specs.Runs.{json_trace, note_object}
use Rattle.tjson.proofs.trace.put_json_trace.Goals as goal

pub loop-note-init : goal.loop-note-init
loop-note-init g c = goes_on-start c.args.out.now (json_trace c.args.notes.now)

pub loop-note-preserved : goal.loop-note-preserved
loop-note-preserved g c =
    goes_on-next _ _ c.loop-note.invariant
    (flat_map-next (λ n. line (note_object n)) c.args.notes.now c.loop-note.note-index c.note-item.result
    c.loop-note-test.true)
    (tells_as c.put_note.ensures (ap (λ (n : Note). line (note_object n)) c.note-item.is))

pub returns : goal.returns
returns g c =
    goes_on-end c.loop-note.invariant
    (flat_map-end (λ n. line (note_object n)) c.args.notes.now c.loop-note.note-index c.loop-note-test.false)
