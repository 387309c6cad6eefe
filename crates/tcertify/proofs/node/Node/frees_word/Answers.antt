use Rattle.std.proofs.Common.{◌≡◌, ℕ, sym, subst, ap, ◌∙◌, Bool, true, Ok}
use Rattle.std.specs.Int.{w32, to_le_bytes}
use Rattle.tword.specs.Stores.{Store}
use Rattle.tproc.specs.Queues.{not_process}
use Rattle.tprocesses.specs.Changes.{Put, free_word}
use Rattle.tprocesses.specs.Choosing.{frees_word}
use Rattle.tprocesses.specs.Parts.{change}
use Rattle.tprocesses.specs.Performing.{bytes_if}
use Rattle.tprocesses.specs.Places.{WordAt}
use Rattle.tprocesses.specs.Touching.{word_place}
use Rattle.tprocesses.specs.Values.{Free, IsWord, Word}
use Rattle.tcertify.specs.Cells.{cells_of}
use Rattle.tcertify.specs.Nodes.{RunsAt, node_site}
use Rattle.tcertify.proofs.NodeRunning.{runs_at_given}
use Rattle.tcertify.proofs.node.Node.frees_word.Goals as goal

pub returns-then-not-ready : goal.returns-then-not-ready
returns-then-not-ready c =
    let a = c.args.self.now in let b = c.put.new.self in
    let word : Word = record { cells = cells_of c.known.result; used = Free } in
    let freed : word ≡ free_word not_process =
    ap (λ (l : Store). record { cells = l; used = Free })
    (c.known.ensures ∙ ap (λ (n : ℕ). bytes_if true (to_le_bytes w32 n)) c.new.ensures) in
    subst (λ (t : Bool). RunsAt (frees_word (node_site a) c.args.channel t) a (Ok tt) b) (sym c.if-not-ready.true)
    (subst (λ (x : Word). RunsAt (change (word_place (node_site a) c.args.channel) (Put (IsWord x))) a (Ok tt) b) freed
    (subst (λ (n : ℕ). RunsAt (change (WordAt (node_site a).number n) (Put (IsWord word))) a (Ok tt) b)
    c.requires.number c.put.ensures))

pub returns-else-not-ready : goal.returns-else-not-ready
returns-else-not-ready c =
    let a = c.args.self.now in
    subst (λ (t : Bool). RunsAt (frees_word (node_site a) c.args.channel t) a (Ok tt) a) (sym c.if-not-ready.false)
    (runs_at_given tt a)
