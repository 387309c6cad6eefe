use Rattle.std.proofs.Common.{◌≡◌, ◌∙◌, ap, sym, Some, None, List, rules}
use Rattle.tplan.specs.declared.plan.Process.{Process}
use Rattle.tfiles.specs.Images.{process_in}
use Rattle.tfiles.proofs.PartLoops.{parts-more, parts-none}
use Rattle.tfiles.proofs.image.processes.Goals as goal

pub returns-in_default : goal.returns-in_default
returns-in_default c =
    let missing : process_in c.loop-place.rest.now ≡ None = search rules in
    parts-none process_in c.loop-place._place c.args.count c.args.bytes.now c.loop-place.rest.now
    c.loop-place.processes.items c.loop-place.invariant missing c.loop-place-test.true

pub loop-place-preserved : goal.loop-place-preserved
loop-place-preserved c =
    let read : process_in c.loop-place.rest.now ≡ Some (c.in-Some.process, c.in-Some.behind.now) = search rules in
    parts-more process_in c.loop-place._place c.args.bytes.now c.loop-place.rest.now c.in-Some.behind.now
    c.loop-place.processes.items c.in-Some.process c.loop-place.invariant read
    ∙ ap (λ (xs : List Process). Some (xs, c.in-Some.behind.now)) (sym c.in_ok-push.ensures.items)
