use Rattle.std.proofs.Common.{◌≡◌, ◌++◌, [], ◌∷◌, ◌+◌, ◌∙◌, ap, sym, subst, List, take, take_all}
use Rattle.std.proofs.lemmas.List.{take_more}
use Rattle.tnames.specs.declared.names.Name.{Name}
use Rattle.tnames.proofs.Nearest.{IsBestSoFar, so_far-next, so_far-kept, so_far-end}
use Rattle.tnames.proofs.names.Names.nearest.Goals as goal
use Rattle.tnames.proofs.names.Names.nearest.Goals.{then-is_nearer, else-is_nearer}

pub loop-name-preserved : goal.loop-name-preserved
loop-name-preserved c =
    let names : List Name = c.as_slice-name-items.result.now in
    let next : take (c.loop-name.name-index + 1) names ≡ take c.loop-name.name-index names ++ c.name-item.result ∷ [] =
    take_more names c.loop-name.name-index c.name-item.result c.loop-name-test.true
    ∙ ap (λ (n : Name). take c.loop-name.name-index names ++ n ∷ []) (sym c.name-item.is) in
    subst (λ (ns : List Name). IsBestSoFar c.args.address ns c.if-is_nearer.best) (sym next)
    (elim c.if-is_nearer.branch [
      | then-is_nearer w ↦ subst
          (IsBestSoFar c.args.address (take c.loop-name.name-index names ++ c.name-item.result ∷ []))
          (sym w.best-is)
          (so_far-next c.args.address (take c.loop-name.name-index names) c.loop-name.best c.name-item.result
          c.is_nearer.result c.loop-name.invariant c.is_nearer.ensures w.if-is_nearer.true)
      | else-is_nearer w ↦ subst
          (IsBestSoFar c.args.address (take c.loop-name.name-index names ++ c.name-item.result ∷ []))
          (sym w.best-is)
          (so_far-kept c.args.address (take c.loop-name.name-index names) c.loop-name.best c.name-item.result
          c.is_nearer.result c.loop-name.invariant c.is_nearer.ensures w.if-is_nearer.false)
    ])

pub returns : goal.returns
returns c =
    let names : List Name = c.as_slice-name-items.result.now in
    let all : take c.loop-name.name-index names ≡ c.args.self.now =
    take_all c.loop-name.name-index names c.loop-name-test.false ∙ c.as_slice-name-items.ensures ∙ c.self.view_is in
    so_far-end c.args.address c.args.self.now c.loop-name.best
    (subst (λ (ns : List Name). IsBestSoFar c.args.address ns c.loop-name.best) all c.loop-name.invariant)
