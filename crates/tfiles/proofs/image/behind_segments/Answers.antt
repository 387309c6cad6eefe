use Rattle.std.proofs.Common.{◌≡◌, Some, None, rules}
use Rattle.tfiles.specs.Images.{segment_in}
use Rattle.tfiles.proofs.PartLoops.{behind-more, behind-none}
use Rattle.tfiles.proofs.image.behind_segments.Goals as goal

pub returns-in_default : goal.returns-in_default
returns-in_default c =
    let missing : segment_in c.loop-place.rest.now ≡ None = search rules in
    behind-none segment_in c.loop-place._place c.args.count c.args.bytes.now c.loop-place.rest.now
    c.loop-place.invariant missing c.loop-place-test.true

pub loop-place-preserved : goal.loop-place-preserved
loop-place-preserved c =
    let read : segment_in c.loop-place.rest.now
    ≡ Some (record { address = c.in-Some._address; bytes = c.in-Some._held.now }, c.in-Some.behind.now) =
    search rules in
    behind-more segment_in c.loop-place._place c.args.bytes.now c.loop-place.rest.now c.in-Some.behind.now _
    c.loop-place.invariant read
