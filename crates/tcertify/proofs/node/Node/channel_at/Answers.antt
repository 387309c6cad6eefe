use Rattle.std.proofs.Common.{refl}
use Rattle.tprocesses.specs.Parts.{done}
use Rattle.tcertify.proofs.Growing.{lists_stay}
use Rattle.tcertify.proofs.NodeChanging.{grows_alone}
use Rattle.tcertify.proofs.NodeChannels.{channels_same}
use Rattle.tcertify.proofs.NodeRunning.{does_after}
use Rattle.tcertify.proofs.node.Node.channel_at.Goals as goal

pub returns-clause-done : goal.returns-clause-done
returns-clause-done c =
    let a = c.args.self.now in
    does_after done (λ _. tt) a _ c.adds_channel.new.self c.adds_channel.result
    (grows_alone a _ (lists_stay a _ refl refl refl refl c.find.ensures.items refl)
    (λ rest. channels_same a c.find.new.self.items.items c.find.ensures.items rest) refl refl)
    c.adds_channel.ensures.done
