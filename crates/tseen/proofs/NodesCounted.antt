-- A configuration that is reached has the nodes of its plan: processors, sources and sinks, and no others.
use Rattle.std.proofs.Common.{◌≡◌, ℕ, ◌+◌, ◌-◌, ◌<◌, ◌≤◌, refl, sym, ap, subst, ◌∙◌, List, [], ◌∷◌, length, map}
use Rattle.std.proofs.Common.{length-append, true, Option, Some, None, arith, ◌⊎◌, inl, inr}
use Rattle.std.specs.Prelude.{slice_get}
use Rattle.std.proofs.lemmas.Bool.{cases_lt}
use Rattle.std.proofs.lemmas.List.{length-map, length-set}
use Rattle.std.proofs.lemmas.Option.{slice_get_within}
use Rattle.tproc.specs.Hidden.{hidden}
use Rattle.tlink.specs.Roles.{Processor}
use Rattle.tlink.specs.Node.{NodeState}
use Rattle.tplan.specs.declared.event.Note.{Note}
use Rattle.tplan.specs.declared.plan.End.{End}
use Rattle.tplan.specs.declared.plan.NodePlan.{NodePlan}
use Rattle.tplan.specs.declared.plan.SourcePlan.{SourcePlan}
use Rattle.tplan.specs.declared.plan.SinkPlan.{SinkPlan}
use Rattle.tplan.specs.declared.plan.Plan.{Plan}
use Rattle.tnet.specs.Building.{node_count, opening_configuration, opening_node, machines_of, opened_machine}
use Rattle.tnet.specs.Building.{fresh_scripts}
use Rattle.tnet.specs.Rendezvous.{Node, Configuration, Step, Local, Notice, Copy, Wake, Freeze_at, node_of, copied_at}
use Rattle.tnet.specs.Rendezvous.{marked, marked_at, Lawful, IsRun}
use Rattle.tnet.specs.Corollaries.{IsReached}
use Rattle.tnet.proofs.OpenedNets.{length-fresh_scripts}
use Rattle.tseen.proofs.EndRoles.{found_at}

opening_many : (p : Plan) → length (opening_configuration p).nodes ≡ node_count p
unfolding machines_of
opening_many p =
    let scripts : List Node = map (λ n. opening_node n.role (hidden n.machine)) (fresh_scripts p) in
    omega (
      arith,
      length-append (map (opening_node Processor) (machines_of p)) scripts,
      length-map (machines_of p) (opening_node Processor),
      length-map p.nodes (opened_machine p.timeslice),
      length-map (fresh_scripts p) (λ (n : NodeState). opening_node n.role (hidden n.machine)),
      length-fresh_scripts p,
    )

copied_many : (f : End) (w : Configuration) → length (copied_at f w).nodes ≡ length w.nodes
copied_many f w = by (node_of w f.node)
  where
    by : (o : Option Node) → length (marked_at f.node f.link true w o).nodes ≡ length w.nodes
    by None = refl
    by (Some s) = length-set w.nodes f.node (marked f.link true s)

-- a step leaves as many
many_on : (c c' : Configuration) (l : Step) → Lawful c l c' → length c'.nodes ≡ length c.nodes
many_on c c' (Local n) k = ap (λ (v : Configuration). length v.nodes) k.after ∙ length-set c.nodes n _
many_on c c' (Notice e) k = ap (λ (v : Configuration). length v.nodes) k.after ∙ length-set c.nodes e.node _
many_on c c' (Copy f e) k =
    ap (λ (v : Configuration). length v.nodes) k.after ∙ copied_many f _ ∙ length-set c.nodes e.node _
many_on c c' (Wake f) k = ap (λ (v : Configuration). length v.nodes) k.after ∙ length-set c.nodes f.node _
many_on c c' (Freeze_at n b) k = ap (λ (v : Configuration). length v.nodes) k.after ∙ length-set c.nodes n _

many_then : (c c' : Configuration) (steps : List Step) (notes : List Note) → IsRun c steps notes c'
    → length c'.nodes ≡ length c.nodes
many_then c c' [] notes run = ap (λ (v : Configuration). length v.nodes) (sym run.1)
many_then c c' (l ∷ ls) notes run = many_then run.0 c' ls run.1 run.4 ∙ many_on c run.0 l run.2

pub as_many : (p : Plan) (c : Configuration) → IsReached p c → length c.nodes ≡ node_count p
as_many p c r = many_then (opening_configuration p) c r.steps r.notes r.run ∙ opening_many p

-- what a node is
pub data Kind (p : Plan) (n : ℕ) : Type 0 where
  processor : (plan : NodePlan) → slice_get p.nodes n ≡ Some plan → Kind p n
  source : (k : ℕ) (plan : SourcePlan) → slice_get p.sources k ≡ Some plan → n ≡ length p.nodes + k → Kind p n
  sink : (k : ℕ) (plan : SinkPlan) → slice_get p.sinks k ≡ Some plan → n ≡ length p.nodes + length p.sources + k
      → Kind p n

pub kind_at : (p : Plan) (c : Configuration) (n : ℕ) (node : Node) → IsReached p c → node_of c n ≡ Some node → Kind p n
kind_at p c n node r here = by (cases_lt n (length p.nodes)) (cases_lt n (length p.nodes + length p.sources))
  where
    within : n < node_count p
    within =
        subst (λ z. n < z) (as_many p c r) (slice_get_within c.nodes n node here)

    by : (n < length p.nodes) ⊎ (length p.nodes ≤ n)
        → (n < length p.nodes + length p.sources) ⊎ (length p.nodes + length p.sources ≤ n) → Kind p n
    by (inl h) b = let x = found_at p.nodes n h in processor x.0 x.1
    by (inr h) (inl b) =
        let x = found_at p.sources (n - length p.nodes) (omega (arith, h, b)) in
        source (n - length p.nodes) x.0 x.1 (omega (arith, h))
    by (inr h) (inr b) =
        let x = found_at p.sinks (n - (length p.nodes + length p.sources)) (omega (arith, b, within)) in
        sink (n - (length p.nodes + length p.sources)) x.0 x.1 (omega (arith, b))
