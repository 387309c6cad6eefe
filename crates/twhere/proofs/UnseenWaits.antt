-- Who waits at which link, and what is lacking there, is the same where the buffers of pending inputs are hidden.
use Rattle.std.proofs.Common.{◌≡◌, ℕ, refl, ap, ap₂, ◌∙◌, List, [], ◌∷◌, ◌++◌, Option, Some, None}
use Rattle.std.specs.Prelude.{codes, is_some, option_map, slice_get, if◌then◌else◌}
use Rattle.std.proofs.lemmas.Option.{slice_get-map}
use Rattle.tproc.specs.declared.waiter.Waiter.{Waiter}
use Rattle.tlink.specs.Roles.{Role, Processor, Source, Sink}
use Rattle.tlink.specs.Node.{NodeState}
use Rattle.tplan.specs.declared.plan.End.{End}
use Rattle.tnet.specs.Net.{NetState}
use Rattle.tplan.specs.Wires.{far_ends}
use Rattle.tfiles.specs.Logs.{line}
use Rattle.twhere.specs.declared.stuck.Who.{Who}
use Rattle.twhere.specs.declared.stuck.Who.TheVariants.{Process, TheSource, TheSink}
use Rattle.twhere.specs.declared.waits.Lack.{Lack}
use Rattle.twhere.specs.declared.waits.Lack.TheVariants.{Frozen}
use Rattle.twhere.specs.declared.waits.Wait.{Wait}
use Rattle.twhere.specs.declared.waits.Want.{Want}
use Rattle.twhere.specs.declared.waits.Want.TheVariants.{Output, Input, Alternative}
use Rattle.twhere.specs.Waits.{lack, lack_at, lack_there, sink_waits, source_waits, waiter_waits}
use Rattle.twhere.specs.Standing.{by_descriptor, lack_text, lacking_text, node_stuck, role_stuck, stuck_fact}
use Rattle.twhere.specs.Standing.{stuck_facts, wait_text, who_text}
use Rattle.twhere.specs.Unseen.{hidden_net, hidden_node}

-- what is lacking at a far end
there_same : (want : Want) (e : End) (far : NodeState)
    → lack_there want e (hidden_node far) ≡ lack_there want e far
there_same Output e far = refl
there_same Input e far = refl
there_same Alternative e far = refl

at_same : (want : Want) (e : End) (far : Option NodeState)
    → lack_at want e (option_map hidden_node far) ≡ lack_at want e far
at_same want e None = refl
at_same want e (Some far) = there_same want e far

module _ (net : NetState) (k : ℕ) (s : NodeState) where
  lack_same : (want : Want) (e : End) → lack (hidden_net net) k (hidden_node s) want e ≡ lack net k s want e
  lack_same want e =
      ap (λ (f : Option NodeState). if is_some s.broken then Frozen k else lack_at want e f)
      (slice_get-map hidden_node net.nodes e.node)
      ∙ ap (λ (l : Lack). if is_some s.broken then Frozen k else l) (at_same want e (slice_get net.nodes e.node))

  lacking_same : (want : Want) (far : Option End)
      → lacking_text (hidden_net net) k (hidden_node s) want far ≡ lacking_text net k s want far
  lacking_same want None = refl
  lacking_same want (Some e) = ap (λ (l : Lack). codes ", " ++ lack_text want l) (lack_same want e)

  -- a line, and all of them
  fact_same : (who : Who) (w : Wait)
      → stuck_fact (hidden_net net) k (hidden_node s) who w ≡ stuck_fact net k s who w
  fact_same who w =
      ap (λ (t : List ℕ). line (codes "stuck " ++ (who_text who k ++ (codes ": "
      ++ (wait_text w (far_ends net.wires k w.link) ++ t)))))
      (lacking_same w.want (far_ends net.wires k w.link))

  facts_same : (who : Who) (ws : List Wait)
      → stuck_facts (hidden_net net) k (hidden_node s) who ws ≡ stuck_facts net k s who ws
  facts_same who [] = refl
  facts_same who (w ∷ ws) = ap₂ (λ (a b : List ℕ). a ++ b) (fact_same who w) (facts_same who ws)

  waiters_same : (ws : List Waiter)
      → role_stuck Processor (hidden_net net) k (hidden_node s) ws ≡ role_stuck Processor net k s ws
  waiters_same [] = refl
  waiters_same (w ∷ ws) =
      ap₂ (λ (a b : List ℕ). a ++ b)
      (facts_same (Process w.process) (waiter_waits s.machine.control w)) (waiters_same ws)

  roles_same : (role : Role) (ws : List Waiter)
      → role_stuck role (hidden_net net) k (hidden_node s) ws ≡ role_stuck role net k s ws
  roles_same Processor ws = waiters_same ws
  roles_same (Source over rest) ws = facts_same TheSource (source_waits s)
  roles_same (Sink kept) ws = facts_same TheSink (sink_waits s)

  -- a node
  pub node_stuck_same : node_stuck (hidden_net net) k (hidden_node s) ≡ node_stuck net k s
  node_stuck_same = roles_same s.role (by_descriptor s.machine.control.waiting)
