-- Which nodes wait for one another is the same where the buffers of pending inputs are hidden.
use Rattle.std.proofs.Common.{◌≡◌, ℕ, refl, ap, ap₂, ◌∙◌, List, length, Bool, Option, Some, None}
use Rattle.std.specs.Prelude.{option_map, slice_get}
use Rattle.std.proofs.lemmas.List.{length-map}
use Rattle.std.proofs.lemmas.Option.{slice_get-map}
use mathlib.Core.Path.{fun_ext}
use Rattle.tproc.specs.declared.waiter.Waiter.{Waiter}
use Rattle.tlink.specs.Roles.{Role, Processor, Source, Sink}
use Rattle.tlink.specs.Node.{NodeState}
use Rattle.tplan.specs.declared.plan.Wire.{Wire}
use Rattle.tnet.specs.Net.{NetState}
use Rattle.twhere.specs.declared.waits.Wait.{Wait}
use Rattle.twhere.specs.Standing.{circle_facts, circles_text}
use Rattle.twhere.specs.Unseen.{hidden_net, hidden_node}
use Rattle.twhere.specs.Waits.{leads_to, node_waits_for, role_waits, waits_for}

-- the links that a node waits for
role_same : (role : Role) (s : NodeState) (ws : List Waiter) → role_waits role (hidden_node s) ws ≡ role_waits role s ws
role_same Processor s ws = refl
role_same (Source over rest) s ws = refl
role_same (Sink kept) s ws = refl

node_same : (wires : List Wire) (a b : ℕ) (s : Option NodeState)
    → node_waits_for wires a b (option_map hidden_node s) ≡ node_waits_for wires a b s
node_same wires a b None = refl
node_same wires a b (Some s) =
    ap (λ (waits : List Wait). leads_to wires a b waits) (role_same s.role s s.machine.control.waiting)

module _ (net : NetState) where
  -- who waits for whom
  waits_same : (a b : ℕ) → waits_for (hidden_net net) a b ≡ waits_for net a b
  waits_same a b =
      ap (λ (s : Option NodeState). node_waits_for net.wires a b s) (slice_get-map hidden_node net.nodes a)
      ∙ node_same net.wires a b (slice_get net.nodes a)

  -- the circles
  pub circles_same : circles_text (hidden_net net) ≡ circles_text net
  circles_same =
      ap₂ (λ (count : ℕ) (waits : ℕ → ℕ → Bool). circle_facts count waits) (length-map net.nodes hidden_node)
      (fun_ext (λ a. fun_ext (λ b. waits_same a b)))
