use Rattle.std.proofs.Common.{length, arith, refl}
use Rattle.std.proofs.lemmas.Option.{slice_get_read, slice_get_within}
use Rattle.tverdict.proofs.Berths.{lodged_here, lodged_nowhere}
use Rattle.tverdict.proofs.machine.Machine.lodge.Goals as goal
use Rattle.tverdict.proofs.machine.Machine.lodge.Goals.{else-at-len-via-then-at-len+else-at-len-2}
use Rattle.tverdict.proofs.machine.Machine.lodge.Goals.{else-at-len-via-else-at-len}

pub returns-in_ok-follow : goal.returns-in_ok-follow
returns-in_ok-follow c =
    let m = c.args.self.now in let n = c.args.node in let number = c.args.number in
    let ns = m.nodes.items in let found = m.agents.items in let ls = m.lodgings.items in
    let node = c.index.result.now in let a = c.index-agent.result.now in let l = c.index_mut.result.now in
    lodged_here number n m _ node a l c.follow.new.self refl refl
    (slice_get_read ns (length ns) n node refl (omega (arith, c.if-at-len.true, c.len.ensures)) c.index.ensures)
    (slice_get_read found (length found) number a refl c.requires.agent c.index-agent.ensures)
    (slice_get_read ls (length ls) n l refl (omega (arith, c.if-at-len-2.true, c.len-then-at-len.ensures))
    c.index_mut.ensures.value) c.in_ok-follow.ensures

pub returns-else-at-len : goal.returns-else-at-len
returns-else-at-len c =
    let m = c.args.self.now in let n = c.args.node in
    lodged_nowhere c.args.number n m (λ node l there has.
    let low = slice_get_within m.nodes.items n node there in
    let below = slice_get_within m.lodgings.items n l has in
    elim c.else-at-len.branch [
      | else-at-len-via-then-at-len+else-at-len-2 w ↦
          absurd (omega (arith, below, w.if-at-len-2.false, w.len-then-at-len.ensures))
      | else-at-len-via-else-at-len w ↦ absurd (omega (arith, low, w.if-at-len.false, c.len.ensures))
    ])
