use Rattle.std.proofs.Common.{sym, ap, ◌∙◌, Bool, []}
use Rattle.std.specs.Prelude.{if◌then◌else◌}
use Rattle.tfiles.proofs.Told.{tells_as, tells_none}
use Rattle.tcheck.specs.Summaries.{link_line}
use Rattle.tcheck.proofs.summaries.put_link_note.Goals as goal

pub returns-then-is_link_wired : goal.returns-then-is_link_wired
returns-then-is_link_wired g c =
    tells_as (tells_none c.args.out.now)
    (ap (λ (b : Bool). if b then [] else link_line c.args.node c.args.link)
    (sym c.if-is_link_wired.true ∙ c.is_link_wired.ensures))

pub returns : goal.returns
returns g c =
    tells_as c.put_link_line.ensures
    (ap (λ (b : Bool). if b then [] else link_line c.args.node c.args.link)
    (sym c.if-is_link_wired.false ∙ c.is_link_wired.ensures))
