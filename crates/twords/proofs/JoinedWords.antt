-- Words with `--events` joined, from one of them on.
use Rattle.std.proofs.Common.{◌≡◌, ◌∙◌, ◌+◌, ◌-◌, ℕ, sym, ap, arith, List, [], ◌∷◌, ◌++◌, drop, length, map, take}
use Rattle.std.proofs.lemmas.List.{append_assoc, drop-drop, drop-map, length-drop, take_all}
use Rattle.clap.specs.Words.{Text}
use Rattle.twords.specs.CommandLines.{with_events_joined}

-- what is behind a place, as a slice
pub behind : {X : Type 0} (f : X → Text) (xs : List X) (i : ℕ)
    → map f (take (length xs - i) (drop i xs)) ≡ drop i (map f xs)
behind f xs i =
    ap (map f) (take_all (length xs - i) (drop i xs) (omega (arith, length-drop i xs))) ∙ sym (drop-map f i xs)

-- one more word
pub one_more : (words done : List Text) (i taken : ℕ) (word : Text)
    → done ++ with_events_joined (drop i words) ≡ with_events_joined words
    → with_events_joined (drop i words) ≡ word ∷ with_events_joined (drop taken (drop i words))
    → (done ++ word ∷ []) ++ with_events_joined (drop (i + taken) words) ≡ with_events_joined words
one_more words done i taken word before first =
    append_assoc done (word ∷ []) (with_events_joined (drop (i + taken) words))
    ∙ (ap (λ (rest : List Text). done ++ word ∷ with_events_joined rest) (sym (drop-drop taken i words))
    ∙ (ap (λ (rest : List Text). done ++ rest) (sym first) ∙ before))
