use Rattle.std.proofs.Common.{◌≡◌, ◌+◌, ℕ, suc, List, Ok, Err, arith, subst}
use Rattle.std.proofs.lemmas.Result.{err_from_is_err_and}
use Rattle.tprocesses.specs.Changes.{Put}
use Rattle.tprocesses.specs.Parts.{change}
use Rattle.tprocesses.specs.Places.{Successions}
use Rattle.tprocesses.specs.Standing.{comes}
use Rattle.tprocesses.specs.Values as value
use Rattle.tprocesses.specs.Values.{IsCount}
use Rattle.tcertify.specs.declared.process.Root.TheVariants as root
use Rattle.tcertify.specs.Nodes.{Does, RunsAt, node_site, nothing}
use Rattle.tcertify.specs.Processes.{named}
use Rattle.tcertify.specs.Contexts.{context_of}
use Rattle.tcertify.specs.Words.{number_of}
use Rattle.tcertify.proofs.Successors.{succeeds_so, succeeds_uncounted, succeeds_unseen}
use Rattle.tcertify.proofs.node.Node.succeeds.Goals as goal

pub returns-in_err-earlier : goal.returns-in_err-earlier
returns-in_err-earlier c =
    let p = err_from_is_err_and c.from_residual.result c.from_residual.ensures.1 in
    rw (p.1, p.2)
    (succeeds_unseen c.args.self.now c.args.workspace (number_of c.args.priority) c.args.iptr c.successions.new.self
    c.in_err-earlier.field-0.0 c.in_err-earlier.ensures)

pub returns-in_err-set_successions : goal.returns-in_err-set_successions
returns-in_err-set_successions c =
    let b = c.successions.new.self in
    let more : c.in_ok-earlier.earlier + 1 ≡ suc c.in_ok-earlier.earlier = omega arith in
    let p = err_from_is_err_and c.from_residual-in_err-set_successions.result
    c.from_residual-in_err-set_successions.ensures.1 in
    rw (p.1, p.2)
    (succeeds_uncounted c.args.self.now c.args.workspace (number_of c.args.priority) c.args.iptr
    c.successions.new.self c.in_ok-earlier.earlier c.in_ok-earlier.ensures c.set_successions.new.self
    c.in_err-set_successions.field-0.0
    (subst (λ (n : ℕ). Does (change (Successions (node_site b).number c.args.workspace) (Put (IsCount n))) nothing b
    (Err c.in_err-set_successions.field-0.0) c.set_successions.new.self) more c.in_err-set_successions.ensures))

pub returns : goal.returns
returns c =
    let b = c.successions.new.self in
    let more : c.in_ok-earlier.earlier + 1 ≡ suc c.in_ok-earlier.earlier = omega arith in
    let d = c.set_successions.new.self in
    succeeds_so c.args.self.now c.args.workspace (number_of c.args.priority) c.args.iptr
    c.successions.new.self c.in_ok-earlier.earlier c.in_ok-earlier.ensures c.set_successions.new.self
    c.comes.new.self c.comes.result (context_of c.fresh-context.result) c.fresh-context.ensures
    (subst (λ (n : ℕ). RunsAt (change (Successions (node_site b).number c.args.workspace) (Put (IsCount n))) b (Ok tt)
    d)
    more c.in_ok-set_successions.ensures)
    (subst (λ (l : List ℕ). Does (comes (node_site d) (named d.words.number (root.After c.args.workspace
    c.in_ok-earlier.earlier) l) (context_of c.fresh-context.result) value.Runs) nothing d c.comes.result
    c.comes.new.self)
    c.new-path.ensures.items c.comes.ensures)
