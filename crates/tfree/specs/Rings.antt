-- The rings of a net that is opened, by the ends that they lead from and to.
-- Source: own choice.
use Rattle.std.specs.Prelude.{ℕ, ◌≡◌, ◌<◌, ◌⊎◌, List, [], length, take, drop, Option, Some, None, is_some, option_map}
use Rattle.tplan.specs.declared.plan.End.{End}
use Rattle.tplan.specs.Wires.{far_end}
use Rattle.tnet.specs.Net.{NetState}
use Rattle.tfree.specs.Slots.{slot_of_end, AreRowsOfFour}
use Rattle.tfree.specs.Views.{InView, OutView, got_of, put_of}
use Rattle.tfree.specs.Kept.{put_to}

-- an end comes before a link of a node, in the order of nodes and of the links of each
abbrev pub ComesBefore : (node link : ℕ) → End → Type 0
ComesBefore node link e = (e.node < node) ⊎ ((e.node ≡ node) × (e.link < link))

-- the two ends of a new ring that leads from an end: what lay where it leads was put in, and nothing taken
pub record IsNewRing (opened : NetState) (e : End) (taker : Option InView) (putter : Option OutView) : Type 0 where
  pub v : InView
  pub o : OutView
  pub taker_is : taker ≡ Some v
  pub putter_is : putter ≡ Some o
  pub one : o.id ≡ v.id
  pub got : v.got ≡ []
  pub put : o.put ≡ put_to opened e []

-- the rings that lead from the ends before a link of a node are there, and no others
pub record AreJoined (opened : NetState) (node link : ℕ) (ins : List (List (Option InView)))
    (outs : List (List (Option OutView))) : Type 0 where
  pub ins_are : AreRowsOfFour (length opened.nodes) ins
  pub outs_are : AreRowsOfFour (length opened.nodes) outs
  pub rings : (e f : End) → far_end opened.wires e ≡ Some f → ComesBefore node link e
      → IsNewRing opened e (slot_of_end ins f) (slot_of_end outs e)
  pub no_out : (e : End) → (far_end opened.wires e ≡ None) ⊎ (ComesBefore node link e → ⊥) → slot_of_end outs e ≡ None
  pub no_in : (f : End) → ((e : End) → far_end opened.wires e ≡ Some f → ComesBefore node link e → ⊥)
      → slot_of_end ins f ≡ None

-- the rings of a net that was opened: one for each direction of each wire, with what lay there
pub record AreRings (opened : NetState) (ins : List (List (Option InView))) (outs : List (List (Option OutView)))
    : Type 0 where
  pub ins_are : AreRowsOfFour (length opened.nodes) ins
  pub outs_are : AreRowsOfFour (length opened.nodes) outs
  pub wired_in : (e : End) → is_some (slot_of_end ins e) ≡ is_some (far_end opened.wires e)
  pub wired_out : (e : End) → is_some (slot_of_end outs e) ≡ is_some (far_end opened.wires e)
  pub pairs : (e f : End) → far_end opened.wires e ≡ Some f
      → option_map (λ (v : InView). v.id) (slot_of_end ins f) ≡ option_map (λ (v : OutView). v.id) (slot_of_end outs e)
  pub got : (e : End) → got_of (slot_of_end ins e) ≡ []
  pub put : (e : End) → put_of (slot_of_end outs e) ≡ put_to opened e []

-- `count` elements of a list, from place `first` on
abbrev pub portion_of : {A : Type 0} → ℕ → ℕ → List A → List A
portion_of first count xs = take count (drop first xs)
