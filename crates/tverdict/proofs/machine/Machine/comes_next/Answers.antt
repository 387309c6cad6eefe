use Rattle.std.proofs.Common.{refl}
use Rattle.tverdict.specs.declared.machine.Machine.{Machine}
use Rattle.tverdict.proofs.Looked.{added_sound, follows_still}
use Rattle.tverdict.proofs.machine.Machine.comes_next.Goals as goal

pub returns-clause-follows : goal.returns-clause-follows
returns-clause-follows c = λ plan f.
    let m = c.args.self.now in
    let last : Machine = record m { candidates = c.push.new.self } in
    follows_still plan m last refl f
    (added_sound plan m last refl (f.1).sound c.args.number c.requires c.in_ok-push.ensures.items)
