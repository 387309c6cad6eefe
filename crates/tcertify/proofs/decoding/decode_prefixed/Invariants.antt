use Rattle.std.proofs.Common.{◌≡◌, take, length, pos, Result, Err}
use Rattle.tcode.specs.declared.instruction.DecodeFault.TheVariants as fault
use Rattle.tcode.specs.Decoding.{fetch_in}
use Rattle.tcode.specs.declared.instruction.Instruction.{Instruction}
use Rattle.tprocesses.specs.Parts.{Reason}
use Rattle.tcertify.specs.declared.stored.Words.{Words}
use Rattle.tcertify.specs.Instructions.{decoded_behind}
use Rattle.tcertify.specs.Words.{Runs, site_of}
use Rattle.tcertify.proofs.Fetching.{after, fetch_after}
use Rattle.tcertify.proofs.decoding.decode_prefixed.Given as goal

-- the bytes so far end within the instruction, and what is left of the chain decides
abbrev pub invariant-loop-had : goal.invariant-loop-had
invariant-loop-had l = record {
  within : fetch_in l.words.kind 16 0 (take l.had l.bytes) (pos 0) ≡ Err fault.Ended;
  leads_on : (v : Words) (r : Result Instruction Reason)
      → Runs (after (site_of l.words) (fetch_after l.words.kind (take l.had l.bytes) 16 0 l.address (pos 0)))
      l.words r v → Runs (decoded_behind (site_of l.fn.words) l.fn.iptr l.fn.first) l.fn.words r v;
  site : site_of l.words ≡ site_of l.fn.words;
  sized : length l.bytes ≡ 16;
}
