-- A word whose bytes are known is the word of the store.
use Rattle.std.proofs.Common.{◌≡◌, ℕ, ◌+◌, ◌*◌, refl, sym, ap, ◌∙◌, subst, List, [], ◌∷◌, true, Option, Some}
use Rattle.std.proofs.Common.{None, arith, unwrap_or}
use Rattle.std.specs.Prelude.{slice_range}
use Rattle.std.specs.Int.{w32, from_le_bytes}
use Rattle.tword.specs.Words.{most_neg}
use Rattle.tword.specs.Stores.{Store, shown, place, word_at}
use Rattle.tprocesses.specs.Values.{Value, word_in}
use Rattle.tprocesses.specs.Changes.{are_known}
use Rattle.tseen.specs.Known.{KnowsCells}
use Rattle.tseen.specs.Words.{ShowsWord}
use Rattle.tseen.specs.Shown.{KnownWordsAreThere}

-- known cells are those that are there
same_cells : (known cells : Store) → KnowsCells known cells → are_known known ≡ true → shown known ≡ shown cells
same_cells [] [] h all = refl
same_cells [] (c ∷ cs) h all = absurd h
same_cells (k ∷ ks) [] h all = absurd h
same_cells (None ∷ ks) (c ∷ cs) h all = cc
same_cells (Some b ∷ ks) (c ∷ cs) h all =
    let rest : shown ks ≡ shown cs = same_cells ks cs h.1 all in
    ap (λ (x : Option ℕ). unwrap_or x 0 ∷ shown ks) (sym h.0) ∙ ap (λ (xs : List ℕ). unwrap_or c 0 ∷ xs) rest

pub same_word : (store : Store) (k : ℕ) (v : Value) → ShowsWord store k v → are_known (word_in v).cells ≡ true
    → from_le_bytes w32 (shown (word_in v).cells) ≡ word_at store (most_neg + 4 * k)
same_word store k v w known =
    let e : (word_in v).cells ≡ w.word.cells = ap (λ (x : Value). (word_in x).cells) w.is in
    let f : place (most_neg + 4 * k) ≡ 4 * k = omega arith in
    ap (λ (s : Store). from_le_bytes w32 (shown s)) e
    ∙ ap (from_le_bytes w32) (same_cells w.word.cells (slice_range store (4 * k) (4 * k + 4)) w.cells
    (subst (λ (s : Store). are_known s ≡ true) e known))
    ∙ ap (λ i. from_le_bytes w32 (shown (slice_range store i (i + 4)))) (sym f)

-- the same holds for each node that is shown
pub known_words_are_there : KnownWordsAreThere
known_words_are_there s n plan named sent node shown k inside known =
    same_word node.machine.store k _ (shown.store k inside) known
