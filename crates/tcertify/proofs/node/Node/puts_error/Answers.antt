use Rattle.std.proofs.Common.{sym, ◌∙◌}
use Rattle.tprocesses.specs.Places.{Error}
use Rattle.tcertify.proofs.NodeFlags.{flag_set, flag_stays}
use Rattle.tcertify.proofs.node.Node.puts_error.Goals as goal

pub returns-then-not-is_same_flag : goal.returns-then-not-is_same_flag
returns-then-not-is_same_flag c =
    let a = c.args.self.now in
    flag_set a c.put_error.new.self c.raises_flag_changed.new.self (Error a.words.number) c.args.before c.args.after
    (sym c.is_same_flag.ensures ∙ c.if-not-is_same_flag.true) c.put_error.ensures c.raises_flag_changed.ensures

pub returns-else-not-is_same_flag : goal.returns-else-not-is_same_flag
returns-else-not-is_same_flag c =
    let a = c.args.self.now in
    flag_stays a a a (Error a.words.number) c.args.before c.args.after
    (sym c.is_same_flag.ensures ∙ c.if-not-is_same_flag.false)
