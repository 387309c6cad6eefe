-- What each worker gets when a net is opened.
-- Source: own choice.
use Rattle.std.specs.Prelude.{ℕ, suc, ◌≡◌, ◌≤◌, All, List, [], ◌∷◌, length, map, drop, vec_capacity, Option}
use Rattle.tnet.specs.Net.{NetState}
use Rattle.tnet.specs.NetParts.{net_of_parts}
use Rattle.tlink.specs.Node.{NodeState}
use Rattle.tfree.specs.declared.allotments.Allotment.{Allotment}
use Rattle.tfree.specs.Ends.{ins_view, outs_view}
use Rattle.tfree.specs.Shares.{first_nodes}
use Rattle.tfree.specs.Views.{InView, OutView, Share, View}
use Rattle.tfree.specs.Kept.{share_with}
use Rattle.tfree.specs.Rings.{AreRings, portion_of}
use Rattle.tfree.specs.Opened.{first_of, owned_of, share_of, HasDoneNothing}

-- the share of the worker of this number, one of `count`, whose nodes begin with `first`, by allotment and nodes
abbrev pub allotted_share : (number count first : ℕ) → Allotment → Share
allotted_share number count first a =
    share_with number count first (length a.nodes.items) (net_of_parts a.opened.value) (ins_view a.ins.items)
    (outs_view a.outs.items)

module _ (opened : NetState) (count : ℕ) (ins : List (List (Option InView))) (outs : List (List (Option OutView))) where
  -- the first node of worker k, how many it has, and the ends of its rings
  abbrev pub first : ℕ → ℕ
  first k = first_of (length opened.nodes) count k

  abbrev pub owned : ℕ → ℕ
  owned k = owned_of (length opened.nodes) count k

  abbrev pub ins_of : ℕ → List (List (Option InView))
  ins_of k = portion_of (first k) (owned k) ins

  abbrev pub outs_of : ℕ → List (List (Option OutView))
  outs_of k = portion_of (first k) (owned k) outs

  abbrev pub share_at : ℕ → Share
  share_at k = share_with k count (first k) (owned k) opened (ins_of k) (outs_of k)

  -- worker k gets the wires, the ends of its rings, and room for its nodes
  pub record IsAllotment (k : ℕ) (a : Allotment) : Type 0 where
    pub opened_is : net_of_parts a.opened.value ≡ opened
    pub wires : a.wires ≡ opened.wires
    pub empty : a.nodes.items ≡ []
    pub room : owned k ≤ vec_capacity a.nodes
    pub ins_are : ins_view a.ins.items ≡ ins_of k
    pub outs_are : outs_view a.outs.items ≡ outs_of k

  -- the allotments of the workers from k on
  abbrev pub AreAllotments : ℕ → List Allotment → Type 0
  AreAllotments k [] = Unit {0}
  AreAllotments k (a ∷ rest) = IsAllotment k a × AreAllotments (suc k) rest

-- there is an allotment for each worker, with the rings of the net
pub record AreAllotted (opened : NetState) (count : ℕ) (allotments : List Allotment) : Type 0 where
  pub ins : List (List (Option InView))
  pub outs : List (List (Option OutView))
  pub rings : AreRings opened ins outs
  pub allotments_are : AreAllotments opened count ins outs 0 allotments
  pub all : length allotments ≡ count

-- the first k workers have their shares, with their nodes; the other nodes and allotments are left
pub record AreSharedOut (opened : NetState) (count k : ℕ) (nodes : List NodeState) (allotments : List Allotment)
    (ws : List View) : Type 0 where
  pub ins : List (List (Option InView))
  pub outs : List (List (Option OutView))
  pub rings : AreRings opened ins outs
  pub nodes_left : nodes ≡ drop (first opened count ins outs k) opened.nodes
  pub allotments_left : AreAllotments opened count ins outs k allotments
  pub shares : map share_of ws ≡ map (share_at opened count ins outs) (first_nodes k)
  pub fresh : All HasDoneNothing ws
