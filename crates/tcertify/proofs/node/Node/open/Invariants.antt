use Rattle.std.proofs.Common.{◌≡◌, Some, take}
use Rattle.std.specs.Prelude.{slice_get}
use Rattle.tplan.specs.declared.plan.Plan.{Plan}
use Rattle.tprocesses.specs.Opening.{opening_state}
use Rattle.tcertify.specs.NodeOpened.{HaveOwnWorkspaces}
use Rattle.tcertify.specs.Nodes.{node_at, node_site, NumbersNode}
use Rattle.tcertify.specs.Notes.{Numbering, NumbersWords}
use Rattle.tcertify.specs.Opened.{planned_site}
use Rattle.tcertify.proofs.NodeOpening.{opening_with}
use Rattle.tcertify.proofs.node.Node.open.Given as goal

abbrev pub invariant-loop-index : goal.invariant-loop-index
invariant-loop-index l = record {
  site : node_site l.node ≡ planned_site l.plan l.number;
  first : (numbering : Numbering) → NumbersNode numbering l.node → NumbersWords numbering l.number l.first_place;
  own : HaveOwnWorkspaces (take l.index l.plan.image.processes);
  opens : (p : Plan) → slice_get p.nodes l.number ≡ Some l.plan
      → node_at l.node (opening_state p) ≡ opening_with p l.number l.plan (take l.index l.plan.image.processes);
}
