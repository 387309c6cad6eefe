use Rattle.std.proofs.Common.{◌∙◌, List, ap, refl, sym}
use Rattle.tcertify.specs.declared.node.Node.{Node}
use Rattle.tfindings.specs.Agents.{is_there}
use Rattle.tfindings.proofs.AgentNames.{there_is}
use Rattle.tfindings.proofs.certifying.race_of.Goals as goal

pub returns : goal.returns
returns c =
    let agent = c.in_ok-earlier.earlier.made.agent in
    record {
      at = refl;
      first = c.in_ok-earlier.ensures;
      there =
          there_is c.args.machine.now.nodes.items agent
          (ap (λ (ns : List Node). is_there ns agent) (sym c.as_slice.ensures.value) ∙ sym c.is_there.ensures
          ∙ c.if-not-is_there.false);
      second = c.in_ok-last.ensures;
      agent = c.has_number.ensures.yes c.if-not-has_number.false;
    }
