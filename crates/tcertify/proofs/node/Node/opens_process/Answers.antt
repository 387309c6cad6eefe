use Rattle.std.proofs.Common.{ℕ, subst, List, []}
use Rattle.std.specs.Prelude.{reverse}
use Rattle.tprocesses.specs.Places.{Name, Image}
use Rattle.tprocesses.specs.Standing.{comes}
use Rattle.tprocesses.specs.Values.{Context, Rests}
use Rattle.tcertify.specs.Contexts.{context_of}
use Rattle.tcertify.specs.Nodes.{Does, node_site, nothing}
use Rattle.tcertify.proofs.node.Node.opens_process.Goals as goal

pub returns : goal.returns
returns c =
    let a = c.args.self.now in let q = c.args.process.now in let b = c.comes.new.self in
    let name : ℕ → List ℕ → Name = λ i path. record { node = a.words.number; root = Image i; path = reverse path } in
    subst (λ (k : Context). Does (comes (node_site a) (name c.args.index []) k Rests) nothing a c.comes.result b)
    c.first_context-context.ensures
    (subst (λ (i : ℕ). Does (comes (node_site a) (name i []) (context_of c.first_context-context.result) Rests)
    nothing a
    c.comes.result b) c.in-Ok.ensures.1
    (subst (λ (path : List ℕ). Does (comes (node_site a) (name c.in-Ok.number path)
    (context_of c.first_context-context.result) Rests) nothing a c.comes.result b) c.new.ensures.items c.comes.ensures))
