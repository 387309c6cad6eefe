use Rattle.std.proofs.Common.{◌<◌, ◌≤◌, ◌∙◌, length, arith, rules}
use Rattle.tcheck.specs.Checks.{file_wrongs}
use Rattle.tcheck.proofs.Found.{each_done, each_more}
use Rattle.tcheck.proofs.Zips.{planned_all, planned_more}
use Rattle.tcheck.proofs.images.planned_nodes.Goals as goal

pub loop-number-preserved : goal.loop-number-preserved
loop-number-preserved c =
    let within : c.loop-number.number < length c.args.files.now = omega (arith, c.requires, c.loop-number-test.true) in
    record {
      plans = planned_more c.args.nodes.now c.args.files.now c.loop-number.number c.index-nodes-number.result
          c.index-files-number.result c.loop-number.plans.items _ c.loop-number-test.true within c.index-nodes-number.is
          c.index-files-number.is c.loop-number.invariant.plans
          (c.in_ok-push.ensures.items ∙ search rules);
      found = each_more file_wrongs c.loop-number.number c.args.files.now c.index-files-number.result
          c.args.found.now.items c.loop-number.found.items _ within c.index-files-number.is
          c.loop-number.invariant.found c.in_ok-image.ensures.found;
    }

pub returns : goal.returns
returns c =
    let over : length c.args.files.now ≤ c.loop-number.number = omega (arith, c.requires, c.loop-number-test.false) in
    record {
      plans =
          c.new.ensures ∙ planned_all c.args.nodes.now c.args.files.now c.loop-number.number c.loop-number.plans.items
          c.loop-number-test.false c.loop-number.invariant.plans;
      found = each_done file_wrongs c.loop-number.number c.args.files.now c.args.found.now.items
          c.loop-number.found.items over c.loop-number.invariant.found;
    }
