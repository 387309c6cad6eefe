use Rattle.std.proofs.Common.{sym, ap, ◌∙◌, Bool, []}
use Rattle.std.specs.Prelude.{if◌then◌else◌}
use Rattle.tfiles.proofs.Told.{tells_as, tells_none}
use Rattle.tcheck.specs.Summaries.{process_line}
use Rattle.tcheck.proofs.summaries.put_process_note.Goals as goal

pub returns-then-is_held : goal.returns-then-is_held
returns-then-is_held g c =
    tells_as (tells_none c.args.out.now)
    (ap (λ (b : Bool). if b then [] else process_line c.args.node c.args.number c.args.process.now)
    (sym c.if-is_held.true ∙ c.is_held.ensures))

pub returns : goal.returns
returns g c =
    tells_as c.put_process_line.ensures
    (ap (λ (b : Bool). if b then [] else process_line c.args.node c.args.number c.args.process.now)
    (sym c.if-is_held.false ∙ c.is_held.ensures))
