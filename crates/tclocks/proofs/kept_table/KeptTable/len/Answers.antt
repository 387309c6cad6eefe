use Rattle.std.proofs.Common.{◌∙◌, sym, ap, length, List}
use Rattle.tclocks.specs.declared.kept.Kept.{Kept}
use Rattle.tclocks.proofs.Tabling.{length-all}
use Rattle.tclocks.proofs.kept_table.KeptTable.len.Goals as goal

pub returns : goal.returns
returns c =
    sym (length-all c.self.inside.pages.items c.self.inside.count)
    ∙ ap (λ (kept : List Kept). length kept) c.self.view_is
