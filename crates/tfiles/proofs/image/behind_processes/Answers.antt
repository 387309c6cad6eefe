use Rattle.std.proofs.Common.{◌≡◌, Some, None, rules}
use Rattle.tfiles.specs.Images.{process_in}
use Rattle.tfiles.proofs.PartLoops.{behind-more, behind-none}
use Rattle.tfiles.proofs.image.behind_processes.Goals as goal

pub returns-in_default : goal.returns-in_default
returns-in_default c =
    let missing : process_in c.loop-place.rest.now ≡ None = search rules in
    behind-none process_in c.loop-place._place c.args.count c.args.bytes.now c.loop-place.rest.now
    c.loop-place.invariant missing c.loop-place-test.true

pub loop-place-preserved : goal.loop-place-preserved
loop-place-preserved c =
    let read : process_in c.loop-place.rest.now ≡ Some (c.in-Some._process, c.in-Some.behind.now) = search rules in
    behind-more process_in c.loop-place._place c.args.bytes.now c.loop-place.rest.now c.in-Some.behind.now
    c.in-Some._process c.loop-place.invariant read
