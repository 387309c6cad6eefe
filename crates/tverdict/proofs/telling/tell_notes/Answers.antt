use Rattle.std.specs.Prelude.{get_or}
use Rattle.std.proofs.lemmas.Option.{slice_get-get_or}
use Rattle.tcertify.specs.declared.notes.Note.{Note}
use Rattle.tcertify.specs.declared.notes.Mode.TheVariants.{Looks}
use Rattle.tverdict.proofs.Told.{more_told}
use Rattle.tverdict.proofs.telling.tell_notes.Goals as goal

pub loop-note-preserved : goal.loop-note-preserved
loop-note-preserved c =
    let notes = c.args.notes.now in let i = c.loop-note.note-index in
    let none : Note = record { place = 0; mode = Looks } in
    more_told c.args.step notes i (get_or notes i none) c.told_of-access.result c.args.check.now c.loop-note.check
    c.access.new.self (slice_get-get_or notes i none c.loop-note-test.true) c.told_of-access.ensures.place
    c.told_of-access.ensures.mode c.loop-note.invariant c.in_default.ensures.ok
