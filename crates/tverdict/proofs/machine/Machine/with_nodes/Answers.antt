use Rattle.std.proofs.Common.{◌∙◌, ℕ, List, ap, length, refl, replicate, subst}
use Rattle.tplan.specs.declared.plan.SinkPlan.{SinkPlan}
use Rattle.tplan.specs.declared.plan.SourcePlan.{SourcePlan}
use Rattle.tplan.specs.declared.plan.Wire.{Wire}
use Rattle.tcertify.specs.declared.node.Node.{Node}
use Rattle.tverdict.specs.Lodging.{AreFirstLodgings}
use Rattle.tverdict.specs.Opening.{AreAgents, AreEmpty, fresh_after}
use Rattle.tverdict.proofs.Starting.{at_start}
use Rattle.tverdict.proofs.machine.Machine.with_nodes.Goals as goal

pub returns-clause-places : goal.returns-clause-places
returns-clause-places c =
    record {
      nodes = c.requires.nodes;
      scripts = c.next_place-first_script.ensures ∙ ap fresh_after c.as_slice.ensures.value;
      sinks = subst (λ (f : ℕ). AreEmpty c.args.plan.now.sinks f c.in_ok-sinks.sinks.items) c.in-Some.ensures.sinks
          (subst (λ (s : List SinkPlan). AreEmpty s c.in-Some.first_sink c.in_ok-sinks.sinks.items) c.as_slice-3.ensures
          c.in_ok-sinks.ensures);
      fresh = c.in-Some.ensures.fresh;
    }

pub returns-clause-start : goal.returns-clause-start
returns-clause-start c =
    let found = c.in_ok-found.found in
    at_start c.args.plan.now _ (returns-clause-places c)
    (c.in_ok-sent.ensures.items_if_clones_equal (λ y e. e)
    ∙ ap (λ (s : List SourcePlan). replicate (length s) 0) c.as_slice-2.ensures) c.requires.wires
    (subst (λ (w : List Wire). AreAgents w c.args.nodes.items found.agents.items) c.requires.wires
    (subst (λ (n : List Node). AreAgents c.args.wires n found.agents.items) c.as_slice-5.ensures.value
    c.in_ok-found.ensures.agents))
    c.in_ok-found.ensures.check c.in_ok-found.ensures.candidates c.in-Some.ensures.fits refl refl
    (subst (λ (n : List Node). AreFirstLodgings n c.in_ok-lodgings.lodgings.items) c.as_slice-4.ensures.value
    c.in_ok-lodgings.ensures)
