-- The parts of a node, by what they are called.
use Rattle.std.proofs.Common.{◌≡◌, ℕ, ◌<◌, sym, ap, ◌∙◌, List, [], length, get_or, Option, Some}
use Rattle.std.specs.Prelude.{codes, option_map, slice_get, unwrap_or}
use Rattle.std.proofs.lemmas.Option.{slice_get-map, slice_get-get_or}
use Rattle.tprocesses.specs.Places.{Name, Image}
use Rattle.tcertify.specs.declared.channel.Channel.{Channel}
use Rattle.tcertify.specs.declared.life.Life.{Life}
use Rattle.tcertify.specs.declared.node.Node.{Node}
use Rattle.tcertify.specs.declared.process.Process.{Process}
use Rattle.tcertify.specs.Nodes.{address_at, name_at, workspace_at}
use Rattle.tcertify.specs.Processes.{name_of}
use Rattle.tfindings.specs.Agents.{at_node, name_text}
use Rattle.tfindings.specs.Places.{part_text, part_with, there_text}

-- a process: it is called by its name
pub process_shown : (n : Node) (k : ℕ) (p : Process) → p ≡ get_or n.processes.items.items k p
    → k < length n.processes.items.items
    → at_node n.words.number (codes "process") (name_text (name_of n.words.number p))
    ≡ at_node (name_at n k).node (codes "process") (name_text (name_at n k))
process_shown n k p e l =
    let there : slice_get n.processes.items.items k ≡ Some p =
    slice_get-get_or n.processes.items.items k p l ∙ ap Some (sym e) in
    let named : name_at n k ≡ name_of n.words.number p =
    ap (λ (o : Option Name). unwrap_or o (record { node = 0; root = Image 0; path = [] }))
    (slice_get-map (name_of n.words.number) n.processes.items.items k
    ∙ ap (option_map (name_of n.words.number)) there) in
    ap (λ (x : Name). at_node x.node (codes "process") (name_text x)) (sym named)

-- a channel: by its address
pub address_shown : (n : Node) (k : ℕ) (c : Channel) → c ≡ get_or n.channels.items.items k c
    → k < length n.channels.items.items → c.address ≡ address_at n k
address_shown n k c e l =
    let there : slice_get n.channels.items.items k ≡ Some c =
    slice_get-get_or n.channels.items.items k c l ∙ ap Some (sym e) in
    sym (ap (λ (o : Option ℕ). unwrap_or o 0)
    (slice_get-map (λ d. d.address) n.channels.items.items k ∙ ap (option_map (λ d. d.address)) there))

-- a workspace: by its address
pub workspace_shown : (n : Node) (k : ℕ) (l : Life) → l ≡ get_or n.lives.items.items k l
    → k < length n.lives.items.items → l.workspace ≡ workspace_at n k
workspace_shown n k l e lt =
    let there : slice_get n.lives.items.items k ≡ Some l =
    slice_get-get_or n.lives.items.items k l lt ∙ ap Some (sym e) in
    sym (ap (λ (o : Option ℕ). unwrap_or o 0)
    (slice_get-map (λ d. d.workspace) n.lives.items.items k ∙ ap (option_map (λ d. d.workspace)) there))

-- the node of a number has the part that is found in it
pub there : (number : ℕ) (nodes : List Node) (k : ℕ) (n : Node) → n ≡ get_or nodes k n → k < length nodes
    → part_text n (part_with number n) ≡ there_text number (slice_get nodes k)
there number nodes k n e l =
    ap (there_text number) (sym (slice_get-get_or nodes k n l ∙ ap Some (sym e)))
