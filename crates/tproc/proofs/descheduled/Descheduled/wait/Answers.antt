use Rattle.std.proofs.Common.{◌∙◌, ap, arith}
use Rattle.tproc.specs.Entries.{lists_of}
use Rattle.tproc.proofs.TableLists.{one_waits, queues_as, total_of}
use Rattle.tproc.proofs.descheduled.Descheduled.wait.Goals as goal

pub push-requires : goal.push-requires
push-requires c = omega (arith, total_of c.self.inside.table, rw (← c.self.view_is) at c.requires)

pub invariant_of-self : goal.invariant_of-self
invariant_of-self c =
    queues_as c.push.new.self _ _ _
    (ap lists_of c.push.ensures ∙ one_waits c.self.inside.table c.args.process c.args.reason)
    c.self.invariant.0 c.self.invariant.1

pub returns : goal.returns
returns c =
    rw (← c.self.view_is)
    (ap lists_of c.push.ensures ∙ one_waits c.self.inside.table c.args.process c.args.reason)
