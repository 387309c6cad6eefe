use Rattle.std.proofs.Common.{◌<◌, ◌∙◌, arith, length, refl, subst, sym}
use Rattle.std.proofs.lemmas.Option.{none-some, same_Some, slice_get_read, slice_get_within}
use Rattle.tcertify.specs.declared.node.Node.{Node}
use Rattle.tverdict.specs.Calls.{IsAfresh}
use Rattle.tverdict.proofs.machine.Machine.begin_at.Goals as goal

pub returns-then-node-len : goal.returns-then-node-len
returns-then-node-len c =
    let nodes = c.args.self.now.nodes.items in let n = c.args.node in let old = c.index_mut.result.now in
    let low : n < length nodes = omega (arith, c.if-node-len.true, c.len.ensures) in
    let there = slice_get_read nodes (length nodes) n old refl low c.index_mut.ensures.value in
    record {
      node = λ a at. (
        c.begin.new.node,
        subst (λ (x : Node). IsAfresh x c.begin.new.node) (same_Some old a (sym there ∙ at)) c.begin.ensures.afresh,
        refl,
      );
      none = λ e. absurd (none-some old (sym e ∙ there));
      same = refl;
    }

pub returns-else-node-len : goal.returns-else-node-len
returns-else-node-len c =
    let nodes = c.args.self.now.nodes.items in let n = c.args.node in
    record {
      node = λ a at.
          let low : n < length nodes = slice_get_within nodes n a at in
          absurd (omega (arith, low, c.if-node-len.false, c.len.ensures));
      none = λ e. refl;
      same = refl;
    }
