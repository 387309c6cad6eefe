-- The channels that processes of a node have enabled.
use Rattle.std.proofs.Common.{◌≡◌, ℕ, refl, sym, ap, ◌∙◌, Bool, true, false, List, Some}
use Rattle.std.specs.Prelude.{map, slice_get, slice_set}
use Rattle.tprocesses.specs.Places.{Name, Ports, same_name}
use Rattle.tprocesses.specs.Values.{ArePorts}
use Rattle.tprocesses.specs.Values as value
use Rattle.tprocesses.specs.Changes.{Put}
use Rattle.tcertify.specs.declared.node.Node.{Node}
use Rattle.tcertify.specs.declared.process.Process.{Process}
use Rattle.tcertify.specs.Boards.{board_at}
use Rattle.tcertify.specs.Channels.{half_among, link_among}
use Rattle.tcertify.specs.Finding.{AreApart}
use Rattle.tcertify.specs.Nodes.{NumbersNode, board_of, name_at, names, node_at, ports_at}
use Rattle.tcertify.specs.Notes.{Numbering}
use Rattle.tcertify.specs.Processes.{name_of, ports_among, ports_or_none, stand_among, stand_or_absent}
use Rattle.tcertify.specs.Running.{State, changed}
use Rattle.tcertify.specs.Standing.{stand_of}
use Rattle.tcertify.specs.Words.{with_words}
use Rattle.tcertify.proofs.BoardChanges.{here, ports_put}
use Rattle.tcertify.proofs.Found.{find_apart, find_else, find_same, map_set}
use Rattle.tcertify.proofs.Growing.{process_key}
use Rattle.tcertify.proofs.NodeStands.{name_is}
use Rattle.tcertify.proofs.NodeWords.{board_from}
use Rattle.tcertify.proofs.Places.{set_here}
use Rattle.tcertify.proofs.Telling.{same_name-true, same_name-self}

-- a name is that of one process alone
same_key : (n : ℕ) (p q : Process) → same_name (name_of n q) (name_of n p) ≡ true → name_of 0 q ≡ name_of 0 p
same_key n p q h =
    ap (λ (x : Name). record x { node = 0 }) (same_name-true (name_of n q) (name_of n p) h)

-- the channels of the process of a number
pub ports_found : (n : ℕ) (ps : List Process) (k : ℕ) (p : Process) → AreApart (name_of 0) ps
    → slice_get ps k ≡ Some p → ports_among n ps (name_of n p) ≡ p.ports.items
ports_found n ps k p apart there =
    ap ports_or_none (find_apart (name_of 0) (λ q. same_name (name_of n q) (name_of n p)) ps k p apart there
    (same_name-self (name_of n p)) (λ q h. same_key n p q h))

pub ports_are : (a : Node) (k : ℕ) (p : Process) → slice_get a.processes.items.items k ≡ Some p
    → ports_at a k ≡ p.ports.items
ports_are a k p there = ap ports_or_none there

-- they stay where all processes do
pub ports_same : (a b : Node) (k : ℕ) → b.processes.items.items ≡ a.processes.items.items → ports_at b k ≡ ports_at a k
ports_same a b k e = ap (λ (ps : List Process). ports_or_none (slice_get ps k)) e

-- what is seen of them
pub ports_seen : (a : Node) (k : ℕ) (p : Process) → slice_get a.processes.items.items k ≡ Some p → (rest : State)
    → node_at a rest (Ports (name_at a k)) ≡ ArePorts (ports_at a k)
ports_seen a k p there rest =
    ap (λ (x : Name). node_at a rest (Ports x)) (name_is a k p there)
    ∙ here a.words.number (ArePorts (ports_among a.words.number a.processes.items.items (name_of a.words.number p)))
    (rest (Ports (name_of a.words.number p)))
    ∙ ap ArePorts (ports_found a.words.number a.processes.items.items k p a.processes.apart there
    ∙ sym (ports_are a k p there))

-- the number of their place
pub ports_number : (a : Node) (k : ℕ) (p : Process) → slice_get a.processes.items.items k ≡ Some p
    → (numbering : Numbering) → NumbersNode numbering a → numbering (Ports (name_at a k)) ≡ p.place
ports_number a k p there numbering n =
    ap (λ (x : Name). numbering (Ports x)) (name_is a k p there) ∙ n.ports k p there

-- a process has others
module _ (a : Node) (qs : List Process) (k : ℕ) (p q : Process) (there : slice_get a.processes.items.items k ≡ Some p)
    (set : qs ≡ slice_set a.processes.items.items k q) (same : q ≡ record p { ports = q.ports })
    (apart : AreApart (name_of 0) qs) where
  pub there_now : slice_get qs k ≡ Some q
  there_now = ap (λ (rs : List Process). slice_get rs k) set ∙ set_here a.processes.items.items k q p there

  pub key_stays : process_key q ≡ process_key p
  key_stays = ap process_key same

  name_stays : name_of a.words.number q ≡ name_of a.words.number p
  name_stays = ap (name_of a.words.number) same

  ports_now : ports_among a.words.number qs (name_of a.words.number p) ≡ q.ports.items
  ports_now =
      ap (ports_among a.words.number qs) (sym name_stays) ∙ ports_found a.words.number qs k q apart there_now

  ports_else : (z : Name) → same_name (name_of a.words.number p) z ≡ false
      → ports_among a.words.number qs z ≡ ports_among a.words.number a.processes.items.items z
  ports_else z e =
      ap (λ (rs : List Process). ports_among a.words.number rs z) set
      ∙ ap ports_or_none (find_else (λ r. same_name (name_of a.words.number r) z) a.processes.items.items k p q there e
      (ap (λ (x : Name). same_name x z) name_stays ∙ e))

  same_stands : stand_among a.words.number qs ≡ stand_among a.words.number a.processes.items.items
  same_stands = λ i z.
      (ap (λ (rs : List Process). stand_among a.words.number rs z) set
      ∙ find_same (λ r. same_name (name_of a.words.number r) z) stand_or_absent a.processes.items.items k p q there
      (ap (λ (x : Name). same_name x z) name_stays) (ap (λ (r : Process). stand_of r.stand) same)) i

  same_names : map (name_of a.words.number) qs ≡ names a
  same_names =
      ap (λ (rs : List Process). map (name_of a.words.number) rs) set
      ∙ map_set (name_of a.words.number) a.processes.items.items k p q there name_stays

  -- the state then
  pub ports_state : (rest : State)
      → with_words a.words.number a.words.items.items (board_at (board_from a.words.number qs a.channels.items.items
      a.links a.lives.items.items a.error a.halt_on_error a.is_flag_changed a.has_run_high a.has_run_low a.population)
      rest)
      ≡ changed (Ports (name_of a.words.number p)) (Put (ArePorts q.ports.items)) (node_at a rest)
  ports_state rest =
      ap (λ (ns : List Name). with_words a.words.number a.words.items.items (board_at (record (board_of a) {
        stand = stand_among a.words.number qs;
        ports = ports_among a.words.number qs;
        half = half_among ns a.channels.items.items;
        link = link_among ns a.links;
      }) rest)) same_names
      ∙ ap (λ (f : Name → value.Stand). with_words a.words.number a.words.items.items (board_at (record (board_of a) {
        stand = f;
        ports = ports_among a.words.number qs;
      }) rest)) same_stands
      ∙ ports_put a.words.number a.words.items.items (board_of a) rest (name_of a.words.number p) q.ports.items
      (ports_among a.words.number qs) refl ports_now ports_else

-- processes of other numbers have other names
pub same_process : (a : Node) (j k : ℕ) (p q : Process) → slice_get a.processes.items.items j ≡ Some p
    → slice_get a.processes.items.items k ≡ Some q → (j ≡ k → ⊥) → same_name (name_at a j) (name_at a k) ≡ false
same_process a j k p q at there ne = by (same_name (name_at a j) (name_at a k)) refl
  where
    by : (t : Bool) → same_name (name_at a j) (name_at a k) ≡ t → same_name (name_at a j) (name_at a k) ≡ false
    by true e =
        absurd (ne (a.processes.apart j k p q at there
        (ap (λ (x : Name). record x { node = 0 })
        (sym (name_is a j p at) ∙ same_name-true (name_at a j) (name_at a k) e ∙ name_is a k q there))))
    by false e = e
