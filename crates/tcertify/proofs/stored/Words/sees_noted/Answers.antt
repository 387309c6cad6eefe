use Rattle.std.proofs.Common.{refl, length}
use Rattle.std.proofs.lemmas.Option.{slice_get_read}
use Rattle.tword.specs.Touches.{Reads}
use Rattle.tcertify.specs.declared.notes.Mode.TheVariants.{Looks}
use Rattle.tcertify.proofs.Noting.{has_look}
use Rattle.tcertify.proofs.Places.{free_so, reads, touched_word}
use Rattle.tcertify.proofs.stored.Words.sees_noted.Goals as goal

pub returns-in-Free : goal.returns-in-Free
returns-in-Free c =
    let w = c.args.self.now in let words = w.items.items in let stored = c.index-stored.result.now in
    let there = slice_get_read words (length words) c.args.number stored refl c.requires c.index-stored.ensures in
    let noted = c.is_noted.ensures c.if-not-is_noted.false in
    touched_word w w c.args.number Reads Looks _ noted
    (reads w c.args.number stored there (has_look w c.args.number Looks noted.tells refl) (free_so stored c.in-Free.is))
