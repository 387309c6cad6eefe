-- Alternatives, part by part.
use Rattle.std.proofs.Common.{◌≡◌, ◌<◌, ℕ, refl, ap, ◌∙◌, subst, length, true, false, List, ◌∷◌, Result, Ok}
use Rattle.tproc.specs.declared.channels.Side.{Side}
use Rattle.tprocesses.specs.Choosing.{awaits_ports, is_enabled_by}
use Rattle.tprocesses.specs.Parts.{Part, Doing, done, see, ◌>>=◌, ◌>>◌}
use Rattle.tprocesses.specs.Places.{Name, Half, same_name}
use Rattle.tprocesses.specs.Touching.{Site}
use Rattle.tprocesses.specs.Values as value
use Rattle.tprocesses.specs.Values.{AwaitedBy, IsHalf, Value, half_in}
use Rattle.tcertify.specs.declared.channel.Holder.{Holder}
use Rattle.tcertify.specs.declared.channel.Holder.TheVariants as holder
use Rattle.tcertify.specs.declared.fault.Fault.{Fault}
use Rattle.tcertify.specs.declared.node.Node.{Node}
use Rattle.tcertify.specs.Channels.{IsKnownHolder, holder_of}
use Rattle.tcertify.specs.Choosing.{awaits_port}
use Rattle.tcertify.specs.Nodes.{Does, Grows, RunsAt, address_at, name_at, names, node_site, nothing}
use Rattle.tcertify.proofs.Following.{does_still, does_then, inside_still}
use Rattle.tcertify.proofs.NodePorts.{same_process}
use Rattle.tcertify.proofs.NodeRunning.{does_after, does_on, name_stays}
use Rattle.tcertify.proofs.Places.{there_is}
use Rattle.tcertify.proofs.Telling.{same_name-self}

-- a half of a channel that is looked at once the node has the channel, and what follows
module _ (a b c : Node) (j channel : ℕ) (side : Side) (h : value.Holder) (first : RunsAt done a (Ok tt) b)
    (at : address_at b j ≡ channel)
    (second : RunsAt (see (Half (node_site b).number (address_at b j) side)) b (Ok (IsHalf h)) c) where
  seen_there : RunsAt (see (Half (node_site b).number channel side)) b (Ok (IsHalf h)) c
  seen_there = subst (λ (p : ℕ). RunsAt (see (Half (node_site b).number p side)) b (Ok (IsHalf h)) c) at second

  pub half_then : (next : Site → Value → Doing) (d : Node) (r : Result (Unit {0}) Fault)
      → Does (next (node_site c) (IsHalf h)) nothing c r d
      → Does (see (Half (node_site a).number channel side) >>= next (node_site a)) nothing a r d
  half_then next d r so =
      does_after (see (Half (node_site a).number channel side) >>= next (node_site a)) nothing a b d r first
      (subst (λ (s : Site). Does (see (Half s.number channel side) >>= next s) nothing b r d) first.grows.site
      (does_on (see (Half (node_site b).number channel side)) (next (node_site b)) nothing b c d (IsHalf h) r seen_there
      (subst (λ (s : Site). Does (next s (IsHalf h)) nothing c r d) second.grows.site so)))

  module _ (k : ℕ) (inside : k < length a.processes.items.items) where
    pub named_half_then : {A X : Type 0} (next : Site → Name → Value → Part A) (f : X → A) (d : Node)
        (r : Result X Fault)
        → Does (next (node_site c) (name_at c k) (IsHalf h)) f c r d
        → Does (see (Half (node_site a).number channel side) >>= next (node_site a) (name_at a k)) f a r d
    named_half_then next f d r so =
        does_after (see (Half (node_site a).number channel side) >>= next (node_site a) (name_at a k)) f a b d r first
        (does_still a b k first.grows inside (λ s x. see (Half s.number channel side) >>= next s x) f d r
        (does_then b c d k (see (Half (node_site b).number channel side)) next (IsHalf h) seen_there
        (inside_still a b k first.grows inside) f r so))

-- somebody else has a half
pub not_enabled : (x : Name) (ns : List Name) (h : Holder) → ((k : ℕ) → h ≡ holder.Enabled k → ⊥)
    → is_enabled_by x (holder_of ns h) ≡ false
not_enabled x ns holder.Nobody n = refl
not_enabled x ns (holder.Taken r) n = refl
not_enabled x ns (holder.Enabled k) n = absurd (n k refl)
not_enabled x ns (holder.Awaited k) n = refl

-- two processes of a node, by their names behind a look
module _ (b c : Node) (grows : Grows b c) (j k : ℕ) (in_k : k < length b.processes.items.items) where
  pub named_same : j ≡ k → same_name (name_at b j) (name_at c k) ≡ true
  named_same e =
      ap (λ (n : ℕ). same_name (name_at b n) (name_at c k)) e
      ∙ ap (λ (x : Name). same_name (name_at b k) x) (name_stays b c k grows in_k) ∙ same_name-self (name_at b k)

  pub named_other : j < length b.processes.items.items → (j ≡ k → ⊥) → same_name (name_at b j) (name_at c k) ≡ false
  named_other in_j ne =
      let (p, at) = there_is b.processes.items.items j in_j in
      let (q, there) = there_is b.processes.items.items k in_k in
      ap (λ (x : Name). same_name (name_at b j) x) (name_stays b c k grows in_k) ∙ same_process b j k p q at there ne

-- who has a half, by the names behind a call
pub holder_still : (b d : Node) (h : Holder) → Grows b d → IsKnownHolder (length b.processes.items.items) h
    → holder_of (names d) h ≡ holder_of (names b) h
holder_still b d holder.Nobody grows known = refl
holder_still b d (holder.Taken r) grows known =
    ap (λ (n : Name). value.TakenBy (record { process = n; buffer = r.buffer }))
    (name_stays b d r.process grows (known r.process refl))
holder_still b d (holder.Enabled k) grows known = ap value.EnabledBy (name_stays b d k grows (known k refl))
holder_still b d (holder.Awaited k) grows known = ap value.AwaitedBy (name_stays b d k grows (known k refl))

-- a process waits for one more channel
pub awaits_row : (s : Site) (x : Name) (channel : ℕ) (rest : List ℕ)
    → (awaits_port s x channel >> awaits_ports s x rest) ≡ awaits_ports s x (channel ∷ rest)
awaits_row s x channel rest = refl
