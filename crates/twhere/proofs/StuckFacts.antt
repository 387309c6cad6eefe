-- The lines of the links that an alternative has enabled, one link after another; what a sink has got.
use Rattle.std.proofs.Common.{◌≡◌, ◌≢◌, ℕ, ap, ◌∙◌, List, [], ◌++◌, append-nil, flat_map, true, false, arith}
use Rattle.std.specs.Prelude.{◌==◌}
use Rattle.std.proofs.lemmas.Grind.{flat_map-append}
use Rattle.tlink.specs.declared.counts.Counts.{Counts}

pub four_parts : {X : Type 0} (f : X → List ℕ) (a b c d : List X)
    → flat_map f (a ++ (b ++ (c ++ (d ++ []))))
    ≡ flat_map f a ++ (flat_map f b ++ (flat_map f c ++ flat_map f d))
four_parts f a b c d =
    flat_map-append f a (b ++ (c ++ (d ++ [])))
    ∙ ap (λ t. flat_map f a ++ t)
    (flat_map-append f b (c ++ (d ++ []))
    ∙ ap (λ t. flat_map f b ++ t)
    (flat_map-append f c (d ++ []) ∙ ap (λ t. flat_map f c ++ flat_map f t) (append-nil d)))

-- whether a part of a message was got
pub has_some : (c d : Counts) → c ≡ d → c.got ≢ 0 → (d.got == 0) ≡ false
has_some c d e h = grind (arith, e, h)

pub has_none : (c d : Counts) → c ≡ d → c.got ≡ 0 → (d.got == 0) ≡ true
has_none c d e h = grind (arith, e, h)
