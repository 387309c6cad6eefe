use Rattle.std.proofs.Common.{ap, subst, sym, Vec, Global}
use Rattle.tfree.specs.Opened.{ComeFromOneOpen}
use Rattle.tfree.specs.declared.worker.Worker.{Worker}
use Rattle.machine_tests.proofs.workers.gathered.Goals as goal

-- those that came back are those that were to be gathered
pub gathered_again-requires : goal.gathered_again-requires
gathered_again-requires c =
    let these : Vec Worker Global → _ = λ (workers : Vec Worker Global). workers.items in
    subst ComeFromOneOpen (sym (ap these c.in-Err.ensures.refused)) c.requires
