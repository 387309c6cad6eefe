-- What is left in a ring, as an inbox.
-- Source: own choice.
use Rattle.std.specs.Prelude.{ℕ, ◌≡◌, ◌<◌, ◌≤◌, List, [], ◌++◌, Option, Some, None, length, option_map}
use Rattle.std.specs.Prelude.{slice_index_or}
use Rattle.tplan.specs.declared.plan.End.{End}
use Rattle.tplan.specs.declared.plan.Wire.{Wire}
use Rattle.tplan.specs.Wires.{end_at, far_end}
use Rattle.tnet.specs.Net.{empty_inbox}
use Rattle.tnet.specs.declared.inbox.Inbox.{Inbox}
use Rattle.tfree.specs.declared.stamp.Sent.{Sent}
use Rattle.tfree.specs.Lists.{inbox_of}
use Rattle.tfree.specs.Slots.{slot_at, slot_of_end, AreRowsOfFour}
use Rattle.tfree.specs.Views.{InView, OutView, got_of, put_of}

-- what was taken and what is left is what was put, and the inbox holds what is left; where no ring is, nothing is
pub record WasDrained (v : Option InView) (o : Option OutView) (i : Inbox) : Type 0 where
  pub pending : List Sent
  pub kept : got_of v ++ pending ≡ put_of o
  pub left : i ≡ inbox_of pending

-- the two ends of a ring, or none
abbrev pub ArePaired : Option InView → Option OutView → Type 0
ArePaired v o = option_map (λ (x : InView). x.id) v ≡ option_map (λ (x : OutView). x.id) o

module _ (wires : List Wire) where
  -- where the end has a wire, the ring that leads there from its far end has its two ends, one at each
  abbrev pub IsJoined : Option InView → List (List (Option OutView)) → End → Type 0
  IsJoined v outs e = (f : End) → far_end wires e ≡ Some f → (f.node < length outs)
      × (length (slice_index_or outs f.node []) ≡ 4) × (f.link < 4) × ArePaired v (slot_of_end outs f)

  -- what is left at an end, where the ring that leads there ends so
  pub record IsLeftAt (v : Option InView) (outs : List (List (Option OutView))) (e : End) (i : Inbox) : Type 0 where
    pub bare : far_end wires e ≡ None → i ≡ empty_inbox
    pub wired : (f : End) → far_end wires e ≡ Some f → WasDrained v (slot_of_end outs f) i

  -- what is left at the links of the first nodes
  pub record AreLeftAt (ins : List (List (Option InView))) (outs : List (List (Option OutView))) (nodes : ℕ)
      (inboxes : List (List Inbox)) : Type 0 where
    pub rows : AreRowsOfFour nodes inboxes
    pub each : (n l : ℕ) → n < nodes → l < 4
        → IsLeftAt (slot_at ins n l) outs (end_at n l) (slice_index_or (slice_index_or inboxes n []) l empty_inbox)

-- from a node on, the ends are as they were
abbrev pub AreSameFrom : ℕ → List (List (Option InView)) → List (List (Option InView)) → Type 0
AreSameFrom node ins ins' = (n l : ℕ) → node ≤ n → slot_at ins' n l ≡ slot_at ins n l
