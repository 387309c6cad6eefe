use Rattle.std.proofs.Common.{refl}
use Rattle.tcertify.proofs.LastNotes.{raised_keeps, raised_tells}
use Rattle.tcertify.proofs.notes.Notes.note.Goals as goal

pub returns-then-may_raise-clause-keeps : goal.returns-then-may_raise-clause-keeps
returns-then-may_raise-clause-keeps c =
    raised_keeps c.args.self.now _ _ c.args.place c.args.mode c.index_mut.result.now
    (c.may_raise.ensures c.if-may_raise.true) c.index_mut.ensures.value refl refl refl

pub returns-then-may_raise-clause-tells : goal.returns-then-may_raise-clause-tells
returns-then-may_raise-clause-tells c =
    raised_tells c.args.self.now _ _ c.args.place c.args.mode c.index_mut.result.now
    (c.may_raise.ensures c.if-may_raise.true) c.index_mut.ensures.value refl refl refl
