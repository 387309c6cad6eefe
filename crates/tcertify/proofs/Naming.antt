-- Names of processes by their roots and paths.
use Rattle.std.proofs.Common.{◌≡◌, ℕ, ap, sym, ◌∙◌, true, List, [], ◌∷◌, ◌++◌, Some}
use Rattle.std.specs.Prelude.{reverse, option_map, slice_get}
use Rattle.std.proofs.lemmas.List.{reverse-append, reverse-reverse}
use Rattle.std.proofs.lemmas.Option.{same_Some}
use Rattle.tprocesses.specs.Places.{Name, Root, child_of, same_path, same_root}
use Rattle.tcertify.specs.declared.node.Node.{Node}
use Rattle.tcertify.specs.declared.process.Process.{Process}
use Rattle.tcertify.specs.Nodes.{name_at}
use Rattle.tcertify.specs.Processes.{name_of, named, root_of}
use Rattle.tcertify.proofs.NodeStands.{name_is}
use Rattle.tcertify.proofs.Telling.{same_path-true, same_path-self, same_root-true}

-- a name by its parts
made : Root → List ℕ → Name
made r path = record { node = 0; root = r; path = reverse path }

pub names_same : (p q : Process) → same_root (root_of p.root) (root_of q.root) ≡ true
    → same_path p.path.items q.path.items ≡ true → name_of 0 p ≡ name_of 0 q
unfolding made
names_same p q roots paths =
    ap (λ (r : Root). made r p.path.items) (same_root-true (root_of p.root) (root_of q.root) roots)
    ∙ ap (λ (xs : List ℕ). made (root_of q.root) xs) (same_path-true p.path.items q.path.items paths)

pub names_apart : (p q : Process) → name_of 0 p ≡ name_of 0 q → same_path p.path.items q.path.items ≡ true
names_apart p q e =
    let same : p.path.items ≡ q.path.items =
    sym (reverse-reverse p.path.items) ∙ ap reverse (ap (λ (x : Name). x.path) e) ∙ reverse-reverse q.path.items in
    ap (λ (xs : List ℕ). same_path xs q.path.items) same ∙ same_path-self q.path.items

-- the name of a child
pub child_named : (a : Node) (k child : ℕ) (p : Process) (path : List ℕ) → slice_get a.processes.items.items k ≡ Some p
    → Some path ≡ option_map (λ (q : Process). q.path.items ++ child ∷ []) (slice_get a.processes.items.items k)
    → named a.words.number p.root path ≡ child_of (name_at a k) child
child_named a k child p path there e =
    let same : path ≡ p.path.items ++ child ∷ [] =
    same_Some path (p.path.items ++ child ∷ [])
    (e ∙ ap (option_map (λ (q : Process). q.path.items ++ child ∷ [])) there) in
    ap (λ (xs : List ℕ). record { node = a.words.number; root = root_of p.root; path = xs })
    (ap reverse same ∙ reverse-append p.path.items (child ∷ []))
    ∙ ap (λ (x : Name). child_of x child) (sym (name_is a k p there))
