use Rattle.std.proofs.Common.{◌≡◌, ◌%◌, Some, length, refl, sym, true}
use Rattle.std.specs.Prelude.{◌==◌, slice_get}
use Rattle.std.proofs.lemmas.Bool.{eqb-true, ltb-true}
use Rattle.std.proofs.lemmas.Option.{slice_get_read}
use Rattle.tcode.proofs.Coded.{known_so}
use Rattle.tcode.specs.declared.code_table.CodeEntry.{CodeEntry}
use Rattle.tcode.proofs.code_table.known_at.Goals as goal

pub returns-then-eq : goal.returns-then-eq
returns-then-eq c =
    let e : CodeEntry = c.in_ok-entry.entry.now in
    let place = c.get.result % 256 in
    let look = c.in_ok-entry.ensures.lookup in
    let at : slice_get c.args.entries.now place ≡ Some e =
    slice_get_read c.args.entries.now (length c.args.entries.now) place e refl (ltb-true _ _ (sym look.0))
    look.1 in
    let same : (e.address == c.args.iptr) ≡ true = sym c.if-eq.ensures in
    rw (← eqb-true e.address c.args.iptr same)
    (known_so c.args.memory.now.kind _ c.args.marks.now e (c.requires.coded place e at).0
    (c.requires.fetched place e at))
