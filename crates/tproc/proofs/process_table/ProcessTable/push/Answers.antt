use Rattle.std.proofs.Common.{◌∙◌, ap, length, List, Some, [], ◌∷◌, ◌++◌, length-append, arith}
use Rattle.tproc.specs.declared.waiter.Entry.{Entry}
use Rattle.tproc.specs.Entries.{present}
use Rattle.tproc.proofs.Entries.{pushed, pushed_length}
use Rattle.tproc.proofs.process_table.ProcessTable.push.Goals as goal

pub invariant_of-self : goal.invariant_of-self
invariant_of-self c =
    let es = c.make_room.new.entries.items in
    let w : Entry = c.args.entry in
    let same = ap (λ (ws : List Entry). length ws) c.make_room.ensures.same in
    let seen = ap (λ (ws : List Entry). length ws) c.self.view_is in (
      omega (arith, c.self.invariant.0, c.make_room.ensures.capacity, c.push_reserved.ensures.capacity),
      rw c.push_reserved.ensures.items (omega (arith, length-append es (Some w ∷ []), c.make_room.ensures.room)),
      rw c.push_reserved.ensures.items (omega (arith, pushed_length es w, same, c.self.invariant.2)),
      omega (arith, c.self.invariant.2, seen, c.requires),
    )

pub returns : goal.returns
returns c =
    let es = c.make_room.new.entries.items in
    let w : Entry = c.args.entry in
    rw (← c.self.view_is) (ap present c.push_reserved.ensures.items ∙ pushed es w
    ∙ ap (λ (ws : List Entry). ws ++ w ∷ []) c.make_room.ensures.same)
