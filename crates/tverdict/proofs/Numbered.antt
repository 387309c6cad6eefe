-- Numbers of places, as the nodes have them.
use Rattle.std.proofs.Common.{◌≡◌, ℕ, refl, ap, ◌∙◌, List, Some}
use Rattle.std.specs.Prelude.{◌==◌, find, slice_get}
use Rattle.std.proofs.lemmas.Bool.{eq-eqb, eqb-true}
use Rattle.tproc.specs.declared.channels.Side.{Side}
use Rattle.tproc.specs.declared.channels.Side.TheVariants.{Input, Output}
use Rattle.tplan.specs.Wires.{end_at}
use Rattle.tprocesses.specs.Places as place
use Rattle.tprocesses.specs.Places.{Name, Place, same_name}
use Rattle.tcertify.specs.declared.channel.Channel.{Channel}
use Rattle.tcertify.specs.declared.life.Life.{Life}
use Rattle.tcertify.specs.declared.node.Node.{Node}
use Rattle.tcertify.specs.declared.process.Process.{Process}
use Rattle.tcertify.specs.Nodes.{NumbersNode}
use Rattle.tcertify.specs.Processes.{name_of}
use Rattle.tcertify.proofs.Found.{find_apart}
use Rattle.tcertify.proofs.Telling.{same_name-self, same_name-true}
use Rattle.tverdict.specs.Numbers.{PlacesAreNumbered, half_or, half_place, link_number, node_in, number_among}
use Rattle.tverdict.specs.Numbers.{number_at, numbering, or_beyond, process_number}

module _ (nodes : List Node) (first k : ℕ) (node : Node) (there : slice_get nodes k ≡ Some node)
    (numbered : node.words.number ≡ k) where
  abbrev n : ℕ
  n = node.words.number

  -- a place of the node has the number that the node has for it
  own : (p : Place) → node_in p ≡ n → number_among nodes p ≡ number_at node p
  own p e =
      ap (or_beyond (λ (x : Node). number_at x p))
      (ap (λ (j : ℕ). slice_get nodes j) (e ∙ numbered) ∙ there)

  own_half : (j : ℕ) (side : Side)
      → numbering nodes first (place.LinkHalf (end_at n j) side) ≡ link_number node.fixed_place side j
  own_half j side =
      ap (half_or first side j) (ap (λ (i : ℕ). slice_get nodes i) numbered ∙ there)

  process_found : (j : ℕ) (p : Process) → slice_get node.processes.items.items j ≡ Some p
      → process_number node (name_of n p) ≡ p.place
  process_found j p at =
      ap (or_beyond (λ (q : Process). q.place))
      (find_apart (name_of 0) (λ q. same_name (name_of n q) (name_of n p)) node.processes.items.items j p
      node.processes.apart at (same_name-self (name_of n p))
      (λ y e. ap (λ (x : Name). record x { node = 0 }) (same_name-true (name_of n y) (name_of n p) e)))

  channel_found : (j : ℕ) (c : Channel) → slice_get node.channels.items.items j ≡ Some c
      → find (λ h. h.address == c.address) node.channels.items.items ≡ Some c
  channel_found j c at =
      find_apart (λ h. h.address) (λ h. h.address == c.address) node.channels.items.items j c node.channels.apart at
      (eq-eqb c.address c.address refl) (λ y e. eqb-true y.address c.address e)

  life_found : (j : ℕ) (l : Life) → slice_get node.lives.items.items j ≡ Some l
      → find (λ x. x.workspace == l.workspace) node.lives.items.items ≡ Some l
  life_found j l at =
      find_apart (λ x. x.workspace) (λ x. x.workspace == l.workspace) node.lives.items.items j l node.lives.apart at
      (eq-eqb l.workspace l.workspace refl) (λ y e. eqb-true y.workspace l.workspace e)

  all : NumbersNode (numbering nodes first) node
  all =
      record {
        words = record {
          word = λ j. own (place.WordAt n j) refl;
          sending = λ j. own (place.Sending n j) refl;
        };
        stand = λ j p at. own (place.Standing (name_of n p)) refl ∙ process_found j p at;
        ports = λ j p at. own (place.Ports (name_of n p)) refl ∙ process_found j p at;
        input = λ j c at. own (place.Half n c.address Input) refl
            ∙ ap (or_beyond (half_place Input)) (channel_found j c at);
        output = λ j c at. own (place.Half n c.address Output) refl
            ∙ ap (or_beyond (half_place Output)) (channel_found j c at);
        life = λ j l at. own (place.Life n l.workspace) refl
            ∙ ap (or_beyond (λ (x : Life). x.count_place)) (life_found j l at);
        successions = λ j l at. own (place.Successions n l.workspace) refl
            ∙ ap (or_beyond (λ (x : Life). x.successors_place)) (life_found j l at);
        error = own (place.Error n) refl;
        halt_on_error = own (place.HaltOnError n) refl;
        flag_changed = own (place.FlagChanged n) refl;
        population = own (place.Population n) refl;
        has_run = λ p h. own (place.HasRun n p) refl;
        link_input = λ j h. own_half j Input;
        link_output = λ j h. own_half j Output;
        unfinished = λ j h. own (place.Unfinished (end_at n j)) refl;
      }

pub places_are_numbered : PlacesAreNumbered
places_are_numbered nodes first k node there numbered = all nodes first k node there numbered
