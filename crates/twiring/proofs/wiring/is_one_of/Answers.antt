use Rattle.std.proofs.Common.{◌≡◌, refl, ap, ◌∙◌, Bool, ◌||◌, List, [], ◌∷◌, map, rules, bytes_eq, ℕ, Bor}
use Rattle.std.proofs.lemmas.Iterator.{YieldsList-from_slice}
use Rattle.std.proofs.lemmas.Iterator.Search.{any_from_yields_List}
use Rattle.std.specs.List.{list_any}
use borrow.Author.Tests.{tests}
use Rattle.twiring.proofs.wiring.is_one_of.Goals as goal

list_any-map : {A B : Type 0} (test : B → Bool) (f : A → B) (xs : List A)
    → list_any (λ x. test (f x)) xs ≡ list_any test (map f xs)
list_any-map test f [] = refl
list_any-map test f (x ∷ xs) = ap (λ b. test (f x) || b) (list_any-map test f xs)

pub returns : goal.returns
returns c =
    any_from_yields_List (λ (name : Bor (List ℕ)). bytes_eq name.now c.args.key.now) _ _ _ c.any.ensures.ran
    (YieldsList-from_slice c.args.names.now c.iter.ensures.rest) (λ x b q k. search (rules, tests))
    ∙ list_any-map (λ name. bytes_eq name c.args.key.now) (λ (name : Bor (List ℕ)). name.now) c.args.names.now
