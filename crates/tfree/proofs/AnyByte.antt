-- Whether a byte may come to a node does not depend on the byte.
use Rattle.std.proofs.Common.{◌≡◌, ℕ, refl, sym, ◌∙◌, Bool, true, false, ◌&&◌, List, Option, Some, None}
use Rattle.std.specs.Prelude.{is_none}
use Rattle.tword.specs.declared.breaks.Break.{Break}
use Rattle.tlink.specs.declared.event.Packet.{Packet}
use Rattle.tlink.specs.declared.event.Packet.TheVariants as packet
use Rattle.tlink.specs.declared.event.NodeEvent.TheVariants.{Data, Ack}
use Rattle.tlink.specs.Roles.{receives}
use Rattle.tlink.specs.Node.{NodeState, counts_at, is_wired}
use Rattle.tlink.specs.Events.{happens, is_node_done, is_node_enabled, unless_frozen, after_data}
use Rattle.tfree.specs.declared.stamp.OwnEvent.{OwnEvent}
use Rattle.tfree.specs.Lists.{event_taking}
use Rattle.tfree.specs.Turns.{IsEnabled}
use Rattle.tfree.specs.Views.{Share}

module _ (n : NodeState) (l : ℕ) where
  -- a byte may come
  abbrev comes : Bool
  comes = receives n.role && is_wired n l && is_none (counts_at n l).arrived

  data_enabled : (byte : ℕ) (last : Bool) → is_node_enabled (Data l byte last) n
      ≡ is_node_done (unless_frozen n.broken (after_data l (record { byte = byte; last = last }) (counts_at n l) n))
  unfolding happens
  data_enabled byte last = refl

  alike : (b c : ℕ) (x y : Bool) → is_node_enabled (Data l b x) n ≡ is_node_enabled (Data l c y) n
  alike b c x y = data_enabled b x ∙ (by n.broken comes refl ∙ sym (data_enabled c y))
    where
      by : (broken : Option Break) (come : Bool) → comes ≡ come
          → is_node_done (unless_frozen broken (after_data l (record { byte = b; last = x }) (counts_at n l) n))
          ≡ is_node_done (unless_frozen broken (after_data l (record { byte = c; last = y }) (counts_at n l) n))
      by (Some f) come e = refl
      by None true e = rw e refl
      by None false e = rw e refl

module _ (s : Share) (n l : ℕ) (es : List OwnEvent) where
  -- so where none that may come is taken, no packet is
  pub none_may : (byte : ℕ) (last : Bool) → (IsEnabled s n (Data l byte last) es → ⊥) → (IsEnabled s n (Ack l) es → ⊥)
      → (p : Packet) → IsEnabled s n (event_taking l p) es → ⊥
  none_may byte last no_data no_ack (packet.Data b x) h = no_data (h.0, h.1, alike h.0 l byte b last x ∙ h.2)
  none_may byte last no_data no_ack packet.Ack h = no_ack h
