use Rattle.std.proofs.Common.{drop, flat_map}
use Rattle.tfiles.proofs.Told.{GoesOn}
use Rattle.tfindings.specs.Ends.{kept_line}
use Rattle.tfindings.proofs.ends.put_messages.Given as goal

-- what was told and what is left
abbrev pub invariant-loop-message : goal.invariant-loop-message
invariant-loop-message g l =
    GoesOn g.W.Write.contents g.W.CountedWrite.failures l.initial.out l.out
    (flat_map (λ m. kept_line m.items) (drop l.message-index l.messages)) (flat_map (λ m. kept_line m.items) l.messages)
