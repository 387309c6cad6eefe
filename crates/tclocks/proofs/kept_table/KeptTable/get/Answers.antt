use Rattle.std.proofs.Common.{◌∙◌, ◌/◌, ◌%◌, ◌<◌, sym, ap, arith, length, List, []}
use Rattle.std.proofs.lemmas.List.{get_or_default}
use Rattle.tclocks.specs.declared.kept.Kept.{Kept}
use Rattle.tclocks.specs.Tables.{kept_at}
use Rattle.tclocks.proofs.Tabling.{read-all, has-page}
use Rattle.tclocks.proofs.kept_table.KeptTable.get.Goals as goal

pub index-requires : goal.index-requires
index-requires c =
    omega (arith, (has-page _ _ _ _ c.self.invariant c.self.view_is c.requires).1, c.self.inside.pages.ok.0)

pub returns : goal.returns
returns c =
    let has : (c.args.place < c.self.inside.count) × (c.args.place / 256 < length c.self.inside.pages.items) =
    has-page _ _ _ _ c.self.invariant c.self.view_is c.requires in
    c.get.ensures
    ∙ ap (λ (page : List Kept). kept_at page (c.args.place % 256))
    (c.index.ensures ∙ get_or_default c.self.inside.pages.items (c.args.place / 256) c.index.result.now [] has.1)
    ∙ sym (read-all c.self.inside.pages.items c.self.inside.count c.args.place has.0)
    ∙ ap (λ (kept : List Kept). kept_at kept c.args.place) c.self.view_is
