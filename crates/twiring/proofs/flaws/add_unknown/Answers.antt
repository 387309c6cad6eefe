use Rattle.std.proofs.Common.{ap, sym, ◌∙◌, ◌++◌, List, map, rules}
use Rattle.twiring.specs.declared.flaws.TextFlaw.{TextFlaw}
use Rattle.twiring.proofs.FlawLists.{unknown-keys, unknown_of}
use Rattle.twiring.proofs.flaws.add_unknown.Goals as goal

pub loop-key-init : goal.loop-key-init
loop-key-init c =
    let names = map (λ name. name.now) c.args.names.now in (
      tt,
      tt,
      ap (λ (fs : List TextFlaw). c.args.found.now.items ++ fs)
          (sym (unknown-keys c.args.part names c.args.table.now.entries ∙ ap (unknown_of c.args.part names)
          (search rules))),
    )
