use Rattle.std.proofs.Common.{◌<◌, ℕ, refl, length, sym, subst, ap}
use Rattle.std.proofs.lemmas.Option.{slice_get_read}
use Rattle.std.proofs.lemmas.Result.{err_from_is_err_and}
use Rattle.tword.specs.Touches.{Reads}
use Rattle.tcertify.specs.declared.notes.Mode.TheVariants.{Looks}
use Rattle.tcertify.specs.Words.{reason_of}
use Rattle.tcertify.proofs.Noting.{has_look}
use Rattle.tcertify.proofs.Places.{reads, touch_stops, touched_word}
use Rattle.tcertify.proofs.stored.Words.see.Goals as goal

pub returns-in_err-free_for_programs-clause-change : goal.returns-in_err-free_for_programs-clause-change
returns-in_err-free_for_programs-clause-change c =
    let w = c.args.self.now in let v = c.note.new.self in
    let words = v.items.items in let stored = c.index-stored.result.now in
    let inside = subst (λ (n : ℕ). c.args.number < n) (sym (ap length c.note.ensures.items)) c.requires in
    let there = slice_get_read words (length words) c.args.number stored refl inside c.index-stored.ensures in
    let p = err_from_is_err_and c.from_residual.result c.from_residual.ensures.1 in
    rw (p.1, p.2)
    (touched_word w v c.args.number Reads Looks _ c.note.ensures
    (touch_stops v c.args.number stored there (has_look v c.args.number Looks c.note.ensures.tells refl) Reads
    (reason_of c.in_err-free_for_programs.field-0.0) c.in_err-free_for_programs.ensures))

pub returns-clause-change : goal.returns-clause-change
returns-clause-change c =
    let w = c.args.self.now in let v = c.note.new.self in
    let words = v.items.items in let stored = c.index-stored.result.now in
    let inside = subst (λ (n : ℕ). c.args.number < n) (sym (ap length c.note.ensures.items)) c.requires in
    let there = slice_get_read words (length words) c.args.number stored refl inside c.index-stored.ensures in
    touched_word w v c.args.number Reads Looks _ c.note.ensures
    (reads v c.args.number stored there (has_look v c.args.number Looks c.note.ensures.tells refl)
    c.in_ok-free_for_programs.ensures)
