use Rattle.std.proofs.Common.{ap, subst, sym, Vec, Global}
use Rattle.std.specs.List.{insert}
use Rattle.tfree.specs.Opened.{ComeFromOneOpen}
use Rattle.tfree.specs.declared.worker.Worker.{Worker}
use Rattle.machine_tests.proofs.free.miss.Goals as goal

-- those that came back are those that were to be gathered
pub put_back-requires-clause-whole : goal.put_back-requires-clause-whole
put_back-requires-clause-whole c =
    let back : Vec Worker Global → _ =
    λ (others : Vec Worker Global). insert others.items c.args.place c.args.held in
    subst ComeFromOneOpen (sym (ap back c.in-Err.ensures.refused)) c.requires.whole
