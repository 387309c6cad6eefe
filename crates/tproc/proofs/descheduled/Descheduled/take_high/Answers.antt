use Rattle.std.proofs.Common.{◌≡◌, ◌∙◌, ℕ, List, ◌∷◌, ap, subst, sym}
use Rattle.tproc.specs.SavedWords.{IsThreaded}
use Rattle.tproc.specs.Entries.{Lists, lists_of, queue_in, IsQueue}
use Rattle.tproc.proofs.TableLists.{front_of, rest_of, queues_as, table_apart}
use Rattle.tproc.proofs.TableChanges.{taken_high}
use Rattle.tproc.proofs.descheduled.Descheduled.take_high.Goals as goal

pub remove-requires : goal.remove-requires
remove-requires c = table_apart c.self.inside.table (rw (← c.self.view_is) at c.requires.apart)

-- the queue is its front and the rest
order : (c : goal.After-remove)
    → queue_in 0 c.self.inside.table ≡ c.in_ok-workspace.workspace ∷ rest_of (queue_in 0 c.self.inside.table)
order c = front_of _ _ (c.in_ok-workspace.ensures (queue_in 0 c.self.inside.table) c.self.invariant.0)

-- and without the front the rest is left
left : (c : goal.After-remove)
    → lists_of c.remove.new.self
    ≡ record (lists_of c.self.inside.table) { high = rest_of (queue_in 0 c.self.inside.table) }
left c =
    let apart = rw (← c.self.view_is) at c.requires.apart in
    ap lists_of c.remove.ensures
    ∙ taken_high c.self.inside.table c.in_ok-workspace.workspace (rest_of (queue_in 0 c.self.inside.table)) apart
    (order c)

pub invariant_of-self : goal.invariant_of-self
invariant_of-self c =
    let queue : IsQueue (c.in_ok-workspace.workspace ∷ rest_of (queue_in 0 c.self.inside.table)) c.self.inside.high =
    subst (λ (q : List ℕ). IsQueue q c.self.inside.high) (order c) c.self.invariant.0 in
    let links = rw (← c.self.view_is) at c.requires.threaded in
    let threaded = subst (IsThreaded c.args.claimed.now.memory.bytes) (order c) links in
    let rest = c.pop.ensures _ _ queue (c.behind-next.ensures _ _ queue threaded) in
    queues_as c.remove.new.self _ _ _ (left c) rest c.self.invariant.1

pub returns-clause-first : goal.returns-clause-first
returns-clause-first c =
    rw (← c.self.view_is)
    (order c ∙ ap (λ (q : List ℕ). c.in_ok-workspace.workspace ∷ q) (sym (ap (λ (l : Lists). l.high) (left c))))

pub returns-clause-rest : goal.returns-clause-rest
returns-clause-rest c =
    rw (← c.self.view_is)
    (left c ∙ ap (λ (q : List ℕ). record (lists_of c.self.inside.table) { high = q })
    (sym (ap (λ (l : Lists). l.high) (left c))))
