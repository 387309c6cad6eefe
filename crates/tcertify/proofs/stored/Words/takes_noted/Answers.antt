use Rattle.std.proofs.Common.{refl, length, eq-eqb}
use Rattle.std.proofs.lemmas.Option.{slice_get_read}
use Rattle.tword.specs.Touches.{Writes}
use Rattle.tcertify.specs.declared.notes.Mode.TheVariants.{Puts}
use Rattle.tcertify.proofs.Noting.{has_look, has_outputs}
use Rattle.tcertify.proofs.Places.{free_so, writes, touched_word}
use Rattle.tcertify.proofs.stored.Words.takes_noted.Goals as goal

pub returns-in-Free-clause-change : goal.returns-in-Free-clause-change
returns-in-Free-clause-change c =
    let w = c.args.self.now in let words = w.items.items in let stored = c.index-stored.result.now in
    let there = slice_get_read words (length words) c.args.number stored refl c.requires c.index-stored.ensures in
    let noted = c.is_noted.ensures c.if-not-is_noted.false in
    touched_word w w c.args.number Writes Puts _ noted
    (writes w c.args.number stored there (has_look w c.args.number Puts noted.tells refl)
    (has_outputs w c.args.number Puts noted.tells refl) (free_so stored c.in-Free.is)
    (eq-eqb stored.sending 0 c.if-stored-eq0.true))
