use Rattle.std.proofs.Common.{◌≡◌, ◌-◌, pos}
use Rattle.tword.specs.Actions.{run_from}
use Rattle.tcode.specs.Decoding.{fetch}
use Rattle.tcode.proofs.decoding.decode_chain.Given as goal

-- what is left of the chain decides, from the word of its value so far
abbrev pub invariant-loop-had : goal.invariant-loop-had
invariant-loop-had l =
    run_from (fetch l.memory.kind 14 2 l.fn.address (pos l.fn.value)) l.memory.bytes l.marks l.memory.bytes
    ≡ run_from (fetch l.memory.kind (16 - l.had) l.had l.address (pos l.value)) l.memory.bytes l.marks l.memory.bytes
