use Rattle.std.proofs.Common.{sym, ◌∙◌}
use Rattle.thistory.proofs.HiddenBytes.{byte_kept, byte_unseen}
use Rattle.thistory.proofs.watch.byte_of.Goals as goal

pub returns-then-is_hidden : goal.returns-then-is_hidden
returns-then-is_hidden c =
    sym (byte_unseen c.args.processor.now c.args.address (sym c.is_hidden.ensures ∙ c.if-is_hidden.true))

pub returns-else-is_hidden : goal.returns-else-is_hidden
returns-else-is_hidden c =
    c.byte_at.ensures.byte
    ∙ sym (byte_kept c.args.processor.now c.args.address (sym c.is_hidden.ensures ∙ c.if-is_hidden.false))
