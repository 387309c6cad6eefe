use Rattle.std.proofs.Common.{◌≡◌, ap, ◌∙◌, Some}
use Rattle.std.proofs.lemmas.Result.{err_from_is_err_and}
use Rattle.tnet.specs.NetParts.{net_of_parts}
use Rattle.tnet.specs.View.{view}
use Rattle.tplan.specs.declared.plan.BuildFault.{BuildFault}
use Rattle.tplan.specs.declared.plan.BuildFault.TheVariants.{OutOfMemory}
use Rattle.tnet.proofs.FirstFaults.{no_memory_fault}
use Rattle.tnet.proofs.OpenedNets.{opens_alike}
use Rattle.tnet.proofs.StartingNets.{net_built, net_refused}
use Rattle.tnet.proofs.net.Net.build.Goals as goal

pub returns-in_err-open-in-None-clause-exact : goal.returns-in_err-open-in-None-clause-exact
returns-in_err-open-in-None-clause-exact c =
    let p = err_from_is_err_and c.from_residual.result c.from_residual.ensures.1 in
    net_refused c.args.plan c.from_residual.result _ c.in-None.ensures p.1 (rw p.2 c.in_err-open-in-None.ensures)

pub returns-in_ok-open-in-None-clause-exact : goal.returns-in_ok-open-in-None-clause-exact
returns-in_ok-open-in-None-clause-exact c =
    λ _. net_built c.args.plan (net_of_parts c.in_ok-open-in-None.field-0) c.in-None.ensures
    c.in_ok-open-in-None.ensures.is
    c.in_ok-open-in-None.ensures.no_fault

pub returns-in_ok-open-in-None-clause-alike : goal.returns-in_ok-open-in-None-clause-alike
returns-in_ok-open-in-None-clause-alike c = ap view c.in_ok-open-in-None.ensures.is ∙ opens_alike c.args.plan

pub returns-in-Some-clause-wanted : goal.returns-in-Some-clause-wanted
returns-in-Some-clause-wanted c = λ e.
    let f : c.in-Some.fault ≡ OutOfMemory = cc in
    absurd (no_memory_fault c.args.plan (c.in-Some.ensures ∙ ap (λ (x : BuildFault). Some x) f))
