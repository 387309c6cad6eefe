use Rattle.std.proofs.Common.{◌∙◌, sym}
use Rattle.std.proofs.lemmas.Bool.{not-true}
use Rattle.tverdict.proofs.Berths.{read_of}
use Rattle.tverdict.proofs.lodging.is_present.Goals as goal

pub returns-in-Some : goal.returns-in-Some
returns-in-Some c = λ present. record {
  known = c.in-Some.known.now;
  there =
      read_of c.args.node.now.processes.items.items c.deref.result.now c.args.process c.in-Some.known.now
      c.deref.ensures.value c.in-Some.ensures.lookup.3.0 c.in-Some.ensures.lookup.1;
  present = sym c.is_absent.ensures ∙ not-true c.is_absent.result present;
}
