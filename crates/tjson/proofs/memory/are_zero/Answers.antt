use Rattle.std.proofs.Common.{sym, ◌∙◌}
use Rattle.tjson.proofs.Memories.{not_zeros, zeros_shown}
use Rattle.tjson.proofs.memory.are_zero.Goals as goal

pub returns-then-has_pending : goal.returns-then-has_pending
returns-then-has_pending c =
    not_zeros c.args.pending.now c.args.address c.args.bytes.now (sym c.if-has_pending.ensures)

pub returns : goal.returns
returns c =
    c.are_all_zero.ensures
    ∙ zeros_shown c.args.pending.now c.args.address c.args.bytes.now (sym c.if-has_pending.ensures)
