use Rattle.std.proofs.Common.{◌∙◌, sym}
use Rattle.tclocks.specs.declared.mode.Mode.TheVariants.{Claims, Puts}
use Rattle.tclocks.proofs.Briefly.{own-claim, own-put, noted-same, access-same}
use Rattle.tclocks.proofs.kept.Kept.note_own.Goals as goal

pub returns-in-Claims-clause-noted : goal.returns-in-Claims-clause-noted
returns-in-Claims-clause-noted c h clock =
    noted-same _ _ _ _ _ _
    (access-same c.args.mode Claims _ c.args.step c.in-Claims.is (sym c.from.ensures ∙ c.if-from-step.false))
    c.in-OfOne.is (own-claim _ _ _ _ _ _ c.requires)

pub returns-in-Puts-clause-noted : goal.returns-in-Puts-clause-noted
returns-in-Puts-clause-noted c h clock =
    noted-same _ _ _ _ _ _
    (access-same c.args.mode Puts _ c.args.step c.in-Puts.is (sym c.from.ensures ∙ c.if-from-step.false))
    c.in-OfOne.is (own-put _ _ _ _ _ _ c.requires)
