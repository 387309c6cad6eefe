use Rattle.std.proofs.Common.{ap, ◌∙◌, All, subst}
use Rattle.std.proofs.lemmas.List.Elements.{All-more}
use Rattle.tlink.specs.Node.{fresh_source}
use Rattle.tplan.specs.declared.plan.SourcePlan.{SourcePlan}
use Rattle.tnet.specs.Building.{AreBytes}
use Rattle.tnet.proofs.StartingNodes.{one_more_behind}
use Rattle.tnet.proofs.opening.add_sources.Goals as goal

pub loop-source-preserved : goal.loop-source-preserved
loop-source-preserved c = (
  one_more_behind (λ (s : SourcePlan). fresh_source s.messages) c.args.sources.now c.loop-source.source-index
      c.source-item.result c.in_ok-node.node c.args.nodes.now.items c.loop-source.nodes.items c.push.new.self.items
      c.loop-source-test.true c.loop-source.invariant.0
      (c.in_ok-node.ensures.node ∙ ap (λ (s : SourcePlan). fresh_source s.messages) c.source-item.is)
      c.in_ok-push.ensures.items,
  All-more (λ s. All AreBytes s.messages) c.args.sources.now c.loop-source.source-index c.source-item.result
      c.loop-source-test.true c.loop-source.invariant.1
      (subst (λ (s : SourcePlan). All AreBytes s.messages) c.source-item.is c.in_ok-node.ensures.bytes),
)
