-- Which names the addresses of a node have, where several files of names are given.
-- Source: own choice.
use Rattle.std.specs.Prelude.{ℕ, Bool, true, ◌==◌, List, find, Option, Some, None}
use Rattle.tnames.specs.declared.nodes.NodeNames.{NodeNames}
use Rattle.tnames.specs.Texts.{named_text}

-- names for this node, or for each
abbrev pub is_for : ℕ → Option ℕ → Bool
is_for node (Some own) = own == node
is_for node None = true

-- names are those of a node: its own, or those of each node
abbrev pub are_of : ℕ → NodeNames → Bool
are_of node n = is_for node n.node

-- the first names that are those of a node
abbrev pub names_for : List NodeNames → ℕ → Option NodeNames
names_for all node = find (are_of node) all

-- a text with names, where there are any
abbrev pub text_with : Option NodeNames → List ℕ → List ℕ
text_with (Some n) text = named_text n.names text
text_with None text = text

-- a text that tells of a node, with the node's names
abbrev pub text_of_node : List NodeNames → ℕ → List ℕ → List ℕ
text_of_node all node text = text_with (names_for all node) text
