use Rattle.std.proofs.Common.{ap, ◌∙◌, ◌++◌, List, codes}
use Rattle.toml.specs.View.{table_view}
use Rattle.twiring.specs.declared.flaws.Key.TheVariants as key
use Rattle.twiring.specs.declared.flaws.TextFlaw.{TextFlaw}
use Rattle.twiring.specs.WiringParts.{required, text_in}
use Rattle.twiring.proofs.FlawLists.{on_both, told_flaws}
use Rattle.twiring.proofs.flaws.add_image.Goals as goal

pub returns : goal.returns
returns c =
    on_both c.add_key.result c.add_key.ensures.found c.add_key.ensures.memory (λ e other. e
    ∙ ap (λ (fs : List TextFlaw). c.args.found.now.items ++ fs)
    (told_flaws c.args.part key.Image (required text_in (codes "image") (table_view c.args.table.now))
    c.name_at.result c.name_at.ensures other))
