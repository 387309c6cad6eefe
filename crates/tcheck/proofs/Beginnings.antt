-- The beginnings of a text, line by line.
use Rattle.std.proofs.Common.{◌≡◌, ℕ, ◌+◌, ◌<◌, ◌≤◌, sym, ap, ap₂, ◌∙◌, List, [], ◌∷◌, ◌++◌, length, get_or, take}
use Rattle.std.proofs.Common.{arith}
use Rattle.std.proofs.Common.{append_assoc, append-nil, flat_map, map, Option}
use Rattle.std.proofs.lemmas.List.{get_or-map, length-map, take_all, take_more}
use Rattle.std.proofs.lemmas.List.Concat.{flat_map-append}
use Rattle.std.proofs.lemmas.List.FromFn.{map-range_with_len_more}
use Rattle.std.specs.List.{range_with_len}
use Rattle.twiring.specs.declared.flaws.TextFlaw.{TextFlaw}
use Rattle.twiring.specs.Flaws.{text_flaws}
use Rattle.tfiles.specs.Logs.{line}
use Rattle.tcheck.specs.declared.lines.Beginning.{Beginning}
use Rattle.tcheck.specs.Lines.{first_lines, known_beginnings, line_in, line_of, told}

-- one more line of a list, and its end
pub one_more_line : {A : Type 0} (f : A → List ℕ) (xs : List A) (k : ℕ) (d : A) (old mid new : List ℕ) → k < length xs
    → old ≡ first_lines (map f xs) k → mid ≡ old ++ f (get_or xs k d) → new ≡ mid ++ 10 ∷ []
    → new ≡ first_lines (map f xs) (k + 1)
one_more_line {A} f xs k d old mid new l so_far text end =
    let ls : List (List ℕ) = map f xs in
    let m : k < length ls = omega (arith, l, length-map xs f) in
    let at : get_or ls k [] ≡ f (get_or xs k d) = get_or-map f xs k d [] l in
    end ∙ ap (λ (t : List ℕ). t ++ 10 ∷ []) text ∙ append_assoc old (f (get_or xs k d)) (10 ∷ [])
    ∙ ap₂ (λ (t u : List ℕ). t ++ line u) so_far (sym at)
    ∙ ap (λ (t : List ℕ). first_lines ls k ++ t) (sym (append-nil (line (get_or ls k []))))
    ∙ sym (flat_map-append line (take k ls) (get_or ls k [] ∷ []))
    ∙ ap (λ (us : List (List ℕ)). flat_map line us) (sym (take_more ls k [] m))

-- one more beginning
pub one_more_beginning : (ls : List (List ℕ)) (k : ℕ) (old new : List Beginning) (b : Beginning) (text : List ℕ)
    → old ≡ map (λ n. told (text_flaws (first_lines ls n))) (range_with_len 1 k) → text ≡ first_lines ls (k + 1)
    → b ≡ told (text_flaws text) → new ≡ old ++ b ∷ []
    → new ≡ map (λ n. told (text_flaws (first_lines ls n))) (range_with_len 1 (k + 1))
one_more_beginning ls k old new b text so_far is read push =
    push
    ∙ ap₂ (λ (o : List Beginning) (c : Beginning). o ++ c ∷ []) so_far
    (read ∙ ap (λ (t : List ℕ). told (text_flaws t)) is)
    ∙ sym (map-range_with_len_more (λ n. told (text_flaws (first_lines ls n))) 1 k (k + 1) (omega arith))

-- the lines of all flaws, behind the last
pub all_lines : (text : List ℕ) (fs : List TextFlaw) (k : ℕ) (texts : Option (List Beginning)) (found : List (Option ℕ))
    → length fs ≤ k → (texts ≡ known_beginnings text) × (found ≡ map (line_in texts) (take k fs))
    → found ≡ map (line_of text) fs
all_lines text fs k texts found l h =
    h.1 ∙ ap (λ (gs : List TextFlaw). map (line_in texts) gs) (take_all k fs l)
    ∙ ap (λ (t : Option (List Beginning)). map (line_in t) fs) h.0
