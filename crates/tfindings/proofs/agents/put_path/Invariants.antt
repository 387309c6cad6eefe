use Rattle.std.proofs.Common.{drop, flat_map}
use Rattle.tfiles.proofs.Told.{GoesOn}
use Rattle.tfindings.specs.Agents.{child_text}
use Rattle.tfindings.proofs.agents.put_path.Given as goal

-- what was told and what is left
abbrev pub invariant-loop-child : goal.invariant-loop-child
invariant-loop-child g l =
    GoesOn g.W.Write.contents g.W.CountedWrite.failures l.initial.out l.out
    (flat_map child_text (drop l.child-index l.path)) (flat_map child_text l.path)
