-- Two lists side by side.
use Rattle.std.proofs.Common.{◌≡◌, ℕ, ◌+◌, ◌<◌, ◌≤◌, sym, ap, ap₂, ◌∙◌, List, [], ◌∷◌, length, get_or, drop}
use Rattle.std.proofs.Common.{◌++◌, append_assoc, append-nil, map, add-one, drop-cons}
use Rattle.std.specs.Prelude.{zip}
use Rattle.std.proofs.Math.ListN.{drop_of_length-le}
use Rattle.tplan.specs.declared.plan.NodePlan.{NodePlan}
use Rattle.tplan.specs.declared.wiring.WiringNode.{WiringNode}
use Rattle.tcheck.specs.Checks.{File, planned}

-- both from one place on
pub zip_next : {A B : Type 0} (xs : List A) (ys : List B) (k : ℕ) (x : A) (y : B) → k < length xs → k < length ys
    → x ≡ get_or xs k x → y ≡ get_or ys k y
    → zip (drop k xs) (drop k ys) ≡ (x, y) ∷ zip (drop (k + 1) xs) (drop (k + 1) ys)
zip_next {A} {B} xs ys k x y l m is js =
    rw (add-one k) (ap₂ (λ (us : List A) (vs : List B). zip us vs) (drop-cons xs k x l) (drop-cons ys k y m))
    ∙ ap₂ (λ (a : A) (b : B). (a, b) ∷ zip (drop (k + 1) xs) (drop (k + 1) ys)) (sym is) (sym js)

-- behind the last of the first list
pub zip_end : {A B : Type 0} (xs : List A) (ys : List B) (k : ℕ) → length xs ≤ k → zip (drop k xs) (drop k ys) ≡ []
zip_end {A} {B} xs ys k l = ap (λ (us : List A). zip us (drop k ys)) (drop_of_length-le xs l)

-- one more node with its file
pub planned_more : (nodes : List WiringNode) (files : List File) (k : ℕ) (n : WiringNode) (f : File)
    (plans new : List NodePlan) → k < length nodes → k < length files → n ≡ get_or nodes k n → f ≡ get_or files k f
    → plans ++ map planned (zip (drop k nodes) (drop k files)) ≡ map planned (zip nodes files)
    → new ≡ plans ++ planned (n, f) ∷ []
    → new ++ map planned (zip (drop (k + 1) nodes) (drop (k + 1) files)) ≡ map planned (zip nodes files)
planned_more nodes files k n f plans new l m is js so_far one =
    let rest : List NodePlan = map planned (zip (drop (k + 1) nodes) (drop (k + 1) files)) in
    ap (λ (ps : List NodePlan). ps ++ rest) one ∙ append_assoc plans (planned (n, f) ∷ []) rest
    ∙ ap (λ (ns : List (WiringNode × File)). plans ++ map planned ns) (sym (zip_next nodes files k n f l m is js))
    ∙ so_far

-- all of them
pub planned_all : (nodes : List WiringNode) (files : List File) (k : ℕ) (plans : List NodePlan) → length nodes ≤ k
    → plans ++ map planned (zip (drop k nodes) (drop k files)) ≡ map planned (zip nodes files)
    → plans ≡ map planned (zip nodes files)
planned_all nodes files k plans l so_far =
    sym (append-nil plans)
    ∙ ap (λ (ns : List (WiringNode × File)). plans ++ map planned ns) (sym (zip_end nodes files k l)) ∙ so_far
