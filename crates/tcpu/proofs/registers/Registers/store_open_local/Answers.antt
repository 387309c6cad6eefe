use Rattle.std.proofs.Common.{refl, sym}
use Rattle.tcode.proofs.Known.{marked_write, unmarked}
use Rattle.tcpu.proofs.registers.Registers.store_open_local.Goals as goal

pub returns-clause-marked : goal.returns-clause-marked
returns-clause-marked c =
    marked_write c.args.words.now c.args.memory.now c.set_open_word.new.self c.args.marks.now _ _
    (c.if-not-set_open_word.ensures.free refl) (unmarked c.args.words.now _ (sym c.if-is_marked.ensures))
    (c.if-not-set_open_word.ensures.set refl)
