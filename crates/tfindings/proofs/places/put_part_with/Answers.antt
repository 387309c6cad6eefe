use Rattle.std.proofs.Common.{ap, sym, ◌∙◌}
use Rattle.tfindings.specs.Places.{part_text}
use Rattle.tfiles.proofs.Told.{tells_as, tells_none}
use Rattle.tfindings.proofs.places.put_part_with.Goals as goal

pub returns-in_default : goal.returns-in_default
returns-in_default g c =
    tells_as (tells_none c.args.out.now)
    (ap (part_text c.args.node.now) (sym c.in_default.is ∙ c.part_with.ensures))
