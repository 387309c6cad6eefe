use Rattle.std.proofs.Common.{arith, refl, ◌∙◌}
use Rattle.tcode.proofs.Known.{knows_on}
use Rattle.tcpu.proofs.Stretches.{gone_down}
use Rattle.tcpu.proofs.execution.short_row.Goals as goal

pub loop-left-preserved : goal.loop-left-preserved
loop-left-preserved c =
    record {
      done = gone_down c.args.most c.loop-left.left _ _ c.args.marks.now _ _ _ _ _ (omega arith) (omega arith)
          c.loop-left.invariant.done c.loop-left.invariant.kind (c.if-not-plain_chain.ensures.done refl);
      within = omega arith;
      knows = knows_on c.args.entries.now c.args.words.now c.loop-left.memory.bytes c.plain_chain.new.memory.bytes
          c.args.marks.now c.loop-left.invariant.knows c.plain_chain.ensures.sized c.plain_chain.ensures.marked;
      sized = c.plain_chain.ensures.sized ∙ c.loop-left.invariant.sized;
      kind = c.plain_chain.ensures.kind ∙ c.loop-left.invariant.kind;
    }
