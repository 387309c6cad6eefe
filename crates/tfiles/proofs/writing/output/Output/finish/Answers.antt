use Rattle.std.proofs.Common.{refl}
use Rattle.tfiles.proofs.Told.{ends_whole, ends_cut}
use Rattle.tfiles.proofs.writing.output.Output.finish.Goals as goal

pub returns-then-failed : goal.returns-then-failed
returns-then-failed g c = ends_cut c.args.self.now c.send.new.self _ c.send.ensures.told refl c.if-failed.true

pub returns-else-failed : goal.returns-else-failed
returns-else-failed g c =
    ends_whole c.args.self.now c.send.new.self c.send.ensures.told c.send.ensures.empty c.if-failed.false
