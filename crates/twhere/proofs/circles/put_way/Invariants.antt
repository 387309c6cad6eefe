use Rattle.std.proofs.Common.{◌<◌, ◌-◌, flat_map, length}
use Rattle.tfiles.proofs.Told.{GoesOn}
use Rattle.twhere.specs.Circles.{way}
use Rattle.twhere.specs.NodeSets.{set_waits}
use Rattle.twhere.specs.Standing.{awaited_text}
use Rattle.twhere.proofs.circles.put_way.Given as goal

-- what was told and what is left
abbrev pub invariant-loop-done : goal.invariant-loop-done
invariant-loop-done g l = record {
  there : l.node < length l.waits;
  told : GoesOn g.W.Write.contents g.W.CountedWrite.failures l.initial.out l.out
      (flat_map awaited_text (way (length l.waits) (set_waits l.waits) l.lowest (l.steps - l.done) l.node))
      (flat_map awaited_text (way (length l.waits) (set_waits l.waits) l.lowest l.steps l.lowest));
}
