use Rattle.std.proofs.Common.{ap}
use Rattle.tfiles.specs.Logs.{line}
use Rattle.tfiles.proofs.LeftText.{flat_map-next, flat_map-end}
use Rattle.tfiles.proofs.Told.{goes_on-start, goes_on-next, goes_on-end, tells_as}
use Rattle.tcheck.specs.declared.flaws.Wrong.{Wrong}
use Rattle.tcheck.specs.Sentences.{wrong_text, wrongs_text}
use Rattle.tcheck.proofs.sentences.put_wrongs.Goals as goal

pub loop-wrong-init : goal.loop-wrong-init
loop-wrong-init g c = goes_on-start c.args.out.now (wrongs_text c.args.nodes.now c.args.wrongs.now)

pub loop-wrong-preserved : goal.loop-wrong-preserved
loop-wrong-preserved g c =
    goes_on-next _ _ c.loop-wrong.invariant
    (flat_map-next (λ w. line (wrong_text c.args.nodes.now w)) c.args.wrongs.now c.loop-wrong.wrong-index
    c.wrong-item.result c.loop-wrong-test.true)
    (tells_as c.put_wrong.ensures (ap (λ (w : Wrong). line (wrong_text c.args.nodes.now w)) c.wrong-item.is))

pub returns : goal.returns
returns g c =
    goes_on-end c.loop-wrong.invariant
    (flat_map-end (λ w. line (wrong_text c.args.nodes.now w)) c.args.wrongs.now c.loop-wrong.wrong-index
    c.loop-wrong-test.false)
