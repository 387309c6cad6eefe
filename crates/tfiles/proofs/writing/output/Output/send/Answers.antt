use Rattle.std.proofs.Common.{sym, refl, ◌∙◌, [], append-nil}
use Rattle.tfiles.proofs.Told.{tells_handed}
use Rattle.tfiles.proofs.writing.output.Output.send.Goals as goal

pub returns-clause-told : goal.returns-clause-told
returns-clause-told g c =
    tells_handed c.args.self.now _ c.as_slice.result.now [] (c.as_slice.ensures
    ∙ sym (append-nil c.args.self.now.waiting)) refl c.hand_on-self.ensures c.clear.ensures
