use Rattle.std.proofs.Common.{Bool, Option, ap, ap₂, sym}
use Rattle.tword.specs.declared.breaks.Break.{Break}
use Rattle.tfiles.proofs.Told.{tells_as}
use Rattle.tjson.specs.Runs.{standing_members}
use Rattle.tjson.proofs.node.put_standing.Goals as goal

pub returns-in-Some : goal.returns-in-Some
returns-in-Some g c =
    tells_as c.put_frozen.ensures
    (ap (λ (broken : Option Break). standing_members broken c.args.halted) (sym c.in-Some.is))

pub returns-in-None : goal.returns-in-None
returns-in-None g c =
    tells_as c.put.ensures
    (ap₂ (λ (broken : Option Break) (halted : Bool). standing_members broken halted) (sym c.in-None.is)
    (sym c.if-halted.true))

pub returns-in-None-2 : goal.returns-in-None-2
returns-in-None-2 g c =
    tells_as c.put-in-None-2.ensures
    (ap₂ (λ (broken : Option Break) (halted : Bool). standing_members broken halted) (sym c.in-None-2.is)
    (sym c.if-halted.false))
