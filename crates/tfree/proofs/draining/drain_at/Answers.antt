use Rattle.std.proofs.Common.{ap, ◌∙◌, sym}
use Rattle.std.specs.Prelude.{option_map}
use Rattle.tfree.specs.Ends.{out_view}
use Rattle.tfree.proofs.RowsLeft.{slots_same}
use Rattle.tfree.proofs.draining.drain_at.Goals as goal

pub returns-clause-outs : goal.returns-clause-outs
returns-clause-outs c =
    slots_same out_view c.args.outs.now c.in-Some.far.node c.in-Some.far.link c.index-outs-far.result
    c.drain_slot.new.out c.index-outs-far.is
    (c.drain_slot.ensures.out ∙ ap (option_map out_view) (sym c.index-outs-far.is))
