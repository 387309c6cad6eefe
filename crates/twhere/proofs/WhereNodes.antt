-- The texts of the nodes of a net, one after another.
use Rattle.std.proofs.Common.{◌≡◌, ℕ, ◌+◌, ◌<◌, ◌≤◌, ap, ◌∙◌, List, [], ◌++◌, length, get_or, drop, add-one}
use Rattle.std.proofs.Common.{drop-cons}
use Rattle.std.specs.Prelude.{map}
use Rattle.std.proofs.Math.ListN.{drop_of_length-le}
use Rattle.std.proofs.lemmas.List.{get_or-map}
use Rattle.tlink.specs.Node.{NodeState}
use Rattle.twhere.specs.declared.listing.Listed.{Listed}
use Rattle.twhere.specs.Standing.{listed_of, texts_from}

-- the nodes from one of them on
pub texts_next : (text : ℕ → NodeState → List ℕ) (k : ℕ) (nodes : List NodeState) (d : NodeState) → k < length nodes
    → texts_from text k (drop k nodes)
    ≡ text k (get_or nodes k d) ++ texts_from text (k + 1) (drop (k + 1) nodes)
texts_next text k nodes d l =
    rw (add-one k) (ap (λ (ns : List NodeState). texts_from text k ns) (drop-cons nodes k d l))

-- behind the last there is none
pub texts_end : (text : ℕ → NodeState → List ℕ) (k : ℕ) (nodes : List NodeState) → length nodes ≤ k
    → texts_from text k (drop k nodes) ≡ []
texts_end text k nodes l = ap (λ (ns : List NodeState). texts_from text k ns) (drop_of_length-le nodes l)

-- the list of one of them
pub listed_at : (k : ℕ) (nodes : List NodeState) (all : List Listed) (d : NodeState) (e : Listed)
    → all ≡ map (λ n. listed_of n.machine.control) nodes → k < length nodes → e ≡ get_or all k e
    → e ≡ listed_of (get_or nodes k d).machine.control
listed_at k nodes all d e same l is =
    is ∙ ap (λ (ls : List Listed). get_or ls k e) same ∙ get_or-map (λ n. listed_of n.machine.control) nodes k d e l
