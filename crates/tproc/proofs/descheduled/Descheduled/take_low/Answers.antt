use Rattle.std.proofs.Common.{◌≡◌, ◌∙◌, ℕ, List, ◌∷◌, ap, subst, sym, true, arith}
use Rattle.tproc.specs.SavedWords.{IsThreaded}
use Rattle.tproc.specs.Entries.{Lists, lists_of, queue_in, IsQueue}
use Rattle.tproc.proofs.TableLists.{front_of, rest_of, queues_as, table_apart, front_is_low}
use Rattle.tproc.proofs.TableChanges.{taken_low}
use Rattle.tword.specs.Claims.{has_saved}
use Rattle.tproc.proofs.Touching.{behind_saved}
use Rattle.tproc.proofs.descheduled.Descheduled.take_low.Goals as goal

-- the front of the queue, whose words are saved
order-get : (c : goal.After-get)
    → queue_in 1 c.self.inside.table ≡ c.in_ok-workspace.workspace ∷ rest_of (queue_in 1 c.self.inside.table)
order-get c = front_of _ _ (c.in_ok-workspace.ensures (queue_in 1 c.self.inside.table) c.self.invariant.1)

pub overflow_add-get : goal.overflow_add-get
overflow_add-get c =
    let saved = rw (← c.self.view_is) at c.requires.saved in
    let there : has_saved c.args.claimed.now.marks c.in_ok-workspace.workspace ≡ true =
    saved _ (front_is_low (lists_of c.self.inside.table) _ _ (order-get c)) in
    let word = rw c.get.ensures at c.get.type_inv in
    omega (
      arith,
      c.get.ensures,
      behind_saved _ c.in_ok-workspace.workspace c.args.claimed.now.size word (c.args.claimed.now.inside _ there),
    )

pub remove-requires : goal.remove-requires
remove-requires c = table_apart c.self.inside.table (rw (← c.self.view_is) at c.requires.apart)

-- the queue is its front and the rest
order : (c : goal.After-remove)
    → queue_in 1 c.self.inside.table ≡ c.in_ok-workspace.workspace ∷ rest_of (queue_in 1 c.self.inside.table)
order c = front_of _ _ (c.in_ok-workspace.ensures (queue_in 1 c.self.inside.table) c.self.invariant.1)

-- and without the front the rest is left
left : (c : goal.After-remove)
    → lists_of c.remove.new.self
    ≡ record (lists_of c.self.inside.table) { low = rest_of (queue_in 1 c.self.inside.table) }
left c =
    let apart = rw (← c.self.view_is) at c.requires.apart in
    ap lists_of (rw (c.new.ensures, c.get.ensures) at c.remove.ensures)
    ∙ taken_low c.self.inside.table c.in_ok-workspace.workspace (rest_of (queue_in 1 c.self.inside.table)) apart
    (order c)

pub invariant_of-self : goal.invariant_of-self
invariant_of-self c =
    let queue : IsQueue (c.in_ok-workspace.workspace ∷ rest_of (queue_in 1 c.self.inside.table)) c.self.inside.low =
    subst (λ (q : List ℕ). IsQueue q c.self.inside.low) (order c) c.self.invariant.1 in
    let links = rw (← c.self.view_is) at c.requires.threaded in
    let threaded = subst (IsThreaded c.args.claimed.now.memory.bytes) (order c) links in
    let rest = c.pop.ensures _ _ queue (c.behind-next.ensures _ _ queue threaded) in
    queues_as c.remove.new.self _ _ _ (left c) c.self.invariant.0 rest

pub returns-clause-first : goal.returns-clause-first
returns-clause-first c =
    rw (← c.self.view_is)
    (order c ∙ ap (λ (q : List ℕ). c.in_ok-workspace.workspace ∷ q) (sym (ap (λ (l : Lists). l.low) (left c))))

pub returns-clause-rest : goal.returns-clause-rest
returns-clause-rest c =
    rw (← c.self.view_is)
    (left c ∙ ap (λ (q : List ℕ). record (lists_of c.self.inside.table) { low = q })
    (sym (ap (λ (l : Lists). l.low) (left c))))
