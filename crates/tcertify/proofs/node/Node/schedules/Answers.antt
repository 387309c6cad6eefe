use Rattle.std.proofs.Common.{sym, subst, Err}
use Rattle.tword.specs.declared.breaks.Break.TheVariants.{NoSuchOperation}
use Rattle.tprocesses.specs.Parts.{Breaks, Doing}
use Rattle.tcertify.specs.Contexts.{context_of}
use Rattle.tcertify.specs.Nodes.{RunsAt, name_at, node_site}
use Rattle.tcertify.proofs.NodeRunning.{runs_at_stopped}
use Rattle.tcertify.proofs.Operations.{no_such}
use Rattle.tcertify.proofs.node.Node.schedules.Goals as goal

pub returns-in_default : goal.returns-in_default
returns-in_default c =
    let a = c.args.self.now in
    subst (λ (p : Doing). RunsAt p a (Err (Breaks NoSuchOperation)) a)
    (sym (no_such (node_site a) (name_at a c.args.process) (context_of c.args.context.now) c.args.operation
    c.in_default.not-Endp c.in_default.not-In c.in_default.not-Out c.in_default.not-Startp c.in_default.not-Outbyte
    c.in_default.not-Outword c.in_default.not-Stopp c.in_default.not-Ldpri c.in_default.not-Disc c.in_default.not-Diss
    c.in_default.not-Runp c.in_default.not-Alt c.in_default.not-Altwt c.in_default.not-Altend c.in_default.not-Enbc
    c.in_default.not-Enbs c.in_default.not-Stoperr))
    (runs_at_stopped (Breaks NoSuchOperation) a)
