-- The table of claims: what an empty word tells, and how the counts follow the claims.
use Rattle.std.proofs.Common.{◌≡◌, ◌≢◌, ℕ, ◌+◌, ◌-◌, ◌/◌, ◌<◌, ◌≤◌, Bool, true, false, eqb, ◌⊎◌, inl, inr, List, []}
use Rattle.std.proofs.Common.{◌∷◌, length, get_or, set, take, drop, replicate, refl, sym, ap, ◌∙◌, Option, Some, None}
use Rattle.std.proofs.Common.{arith}
use Rattle.std.proofs.lemmas.Bool.{le-ltb, lt-ltb, ltb-true, ne_eqb, cases_eq, cases_lt, and_parts}
use Rattle.std.proofs.lemmas.Grind.{get_or-set_at}
use Rattle.std.proofs.lemmas.List.{get_or-drop, get_or-set_other, get_or-take, length-drop, length-set, length-take-le}
use Rattle.std.proofs.lemmas.List.Folds.{list_any_none}
use Rattle.std.proofs.lemmas.List.Sums.{get_or-le-sum_by, sum_by-cons, sum_by-le, sum_by-set}
use Rattle.std.specs.List.{list_any, sum}
use Rattle.tword.specs.declared.span.Span.{Span}
use Rattle.tword.specs.Words.{word_below}
use Rattle.tword.specs.Claims.{overlap, overlaps_claim, saved_words}
use Rattle.tword.specs.Limits.{most_processes}
use Rattle.tword.specs.Slots.{lowest_word, word_at, is_among, behind_words, has_word, claims_word, saves_word}
use Rattle.tword.specs.Slots.{claims_in}
use Rattle.tword.specs.Slots.{saved_in, AreEmpty, Counts, CountsHaveRoom, IsEmpty, IsExchanged, IsTally}

-- a number among some, below them, and above them
among_in : (first behind number : ℕ) → first ≤ number → number < behind → is_among first behind number ≡ 1
among_in first behind number p q = rw (le-ltb number first p, lt-ltb number behind q) refl

among_below : (first behind number : ℕ) → number < first → is_among first behind number ≡ 0
among_below first behind number p = rw (lt-ltb number first p) refl

among_above : (first behind number : ℕ) → behind ≤ number → is_among first behind number ≡ 0
among_above first behind number p = by (cases_lt number first)
  where
    by : (number < first) ⊎ (first ≤ number) → is_among first behind number ≡ 0
    by (inl low) = among_below first behind number low
    by (inr high) = rw (le-ltb number first high, le-ltb number behind p) refl

-- no number counts twice
among_le : (first behind number : ℕ) → is_among first behind number ≤ 1
among_le first behind number = by (cases_lt number first) (cases_lt number behind)
  where
    by : (number < first) ⊎ (first ≤ number) → (number < behind) ⊎ (behind ≤ number)
        → is_among first behind number ≤ 1
    by (inl low) _ = omega (arith, among_below first behind number low)
    by (inr p) (inl q) = omega (arith, among_in first behind number p q)
    by (inr _) (inr high) = omega (arith, among_above first behind number high)

-- where bounds move with the numbers, so does what is among them
among_moved : (first behind first' behind' number number' : ℕ) → (first ≤ number → first' ≤ number')
    → (number < first → number' < first') → (number < behind → number' < behind')
    → (behind ≤ number → behind' ≤ number')
    → is_among first behind number ≡ is_among first' behind' number'
among_moved first behind first' behind' number number' a b c d = by (cases_lt number first) (cases_lt number behind)
  where
    by : (number < first) ⊎ (first ≤ number) → (number < behind) ⊎ (behind ≤ number)
        → is_among first behind number ≡ is_among first' behind' number'
    by (inl low) _ = among_below first behind number low ∙ sym (among_below first' behind' number' (b low))
    by (inr p) (inl q) = among_in first behind number p q ∙ sym (among_in first' behind' number' (a p) (c q))
    by (inr _) (inr high) = among_above first behind number high ∙ sym (among_above first' behind' number' (d high))

claims_word-le : (word : ℕ) (c : Option Span) → claims_word word c ≤ 1
claims_word-le word None = omega arith
claims_word-le word (Some s) = among_le (s.start / 4) (behind_words s) word

-- what stands behind the words of a span that has a byte
behind_some : (s : Span) → 0 < s.size → behind_words s ≡ (s.start + s.size + 3) / 4
behind_some s some = rw (ne_eqb s.size 0 (λ e. omega arith)) refl

-- a word that a span has a byte of
word_in : (k : ℕ) (s : Span) → 0 < s.size → s.start / 4 ≤ k → k < (s.start + s.size + 3) / 4 → has_word k s ≡ 1
word_in k s some p q = among_in (s.start / 4) (behind_words s) k p (rw (behind_some s some) q)

-- a span overlaps another only in a word that both have
shares : (start size : ℕ) (s : Span)
    → ((k : ℕ) → start / 4 ≤ k → k < (start + size + 3) / 4 → has_word k s ≡ 0)
    → overlap (record { start = start; size = size }) s ≡ false
shares start size s none = by (overlap (record { start = start; size = size }) s) refl
  where
    clash : 0 < size → 0 < s.size → start < s.start + s.size → s.start < start + size → (start < s.start)
        ⊎ (s.start ≤ start)
        → ⊥
    clash a b c d (inl below) =
        let zero = none (s.start / 4) (omega arith) (omega arith) in
        let one = word_in (s.start / 4) s b (omega arith) (omega arith) in
        omega (arith, zero, one)
    clash a b c d (inr above) =
        let zero = none (start / 4) (omega arith) (omega arith) in
        let one = word_in (start / 4) s b (omega arith) (omega arith) in
        omega (arith, zero, one)

    by : (b : Bool) → overlap (record { start = start; size = size }) s ≡ b → b ≡ false
    by false e = refl
    by true e =
        let p = and_parts _ _ e in
        let q = and_parts _ _ p.0 in
        let r = and_parts _ _ q.0 in
        absurd (clash (ltb-true _ _ r.0) (ltb-true _ _ r.1) (ltb-true _ _ q.1) (ltb-true _ _ p.1)
        (cases_lt start s.start))

-- no saved word among the words of a span, so none that it overlaps
pub saved_apart : (ws : List ℕ) (start size : ℕ)
    → ((k : ℕ) → start / 4 ≤ k → k < (start + size + 3) / 4 → saved_in k ws ≡ 0)
    → list_any (λ w. overlap (record { start = start; size = size }) (saved_words w)) ws ≡ false
saved_apart ws start size empty =
    list_any_none (λ w. overlap (record { start = start; size = size }) (saved_words w)) ws (λ i d lt.
    shares start size (saved_words (get_or ws i d)) (λ k p q.
    let one = get_or-le-sum_by (saves_word k) ws i d lt in
    omega (arith, one, empty k p q)))

claim_apart : (start size : ℕ) (c : Option Span)
    → ((k : ℕ) → start / 4 ≤ k → k < (start + size + 3) / 4 → claims_word k c ≡ 0)
    → overlaps_claim (record { start = start; size = size }) c ≡ false
claim_apart start size None none = refl
claim_apart start size (Some s) none = shares start size s none

-- the same of the claims of links
pub claims_apart : (cs : List (Option Span)) (start size : ℕ)
    → ((k : ℕ) → start / 4 ≤ k → k < (start + size + 3) / 4 → claims_in k cs ≡ 0)
    → list_any (overlaps_claim (record { start = start; size = size })) cs ≡ false
claims_apart cs start size empty =
    list_any_none (overlaps_claim (record { start = start; size = size })) cs (λ i d lt.
    claim_apart start size (get_or cs i d) (λ k p q.
    let one = get_or-le-sum_by (claims_word k) cs i d lt in
    omega (arith, one, empty k p q)))

-- what the count of a word tells
pub total_at : (ins outs : List (Option Span)) (ws counts : List ℕ) (word count : ℕ) → IsTally ins outs ws counts
    → Counts counts word count → count ≡ claims_in word ins + claims_in word outs + saved_in word ws
total_at ins outs ws counts word count is here =
    let at : word_at (word - lowest_word) ≡ word = omega (arith, here.above) in
    let total = is.counted (word - lowest_word) (omega (arith, here.above, here.below)) in
    sym here.is ∙ total ∙ ap (λ k. claims_in k ins + claims_in k outs + saved_in k ws) at

-- what an empty word of the table tells
pub record NoneIn (ins outs : List (Option Span)) (ws : List ℕ) (word : ℕ) : Type 0 where
  pub inputs : claims_in word ins ≡ 0
  pub outputs : claims_in word outs ≡ 0
  pub saved : saved_in word ws ≡ 0

pub none_in : (ins outs : List (Option Span)) (ws counts : List ℕ) (word : ℕ) → IsTally ins outs ws counts
    → IsEmpty counts word → NoneIn ins outs ws word
none_in ins outs ws counts word is empty =
    let total = total_at ins outs ws counts word 0 is empty in
    record { inputs = omega arith; outputs = omega arith; saved = omega arith }

-- a span whose words are empty overlaps no claim
pub record IsApart (ins outs : List (Option Span)) (ws : List ℕ) (span : Span) : Type 0 where
  pub inputs : list_any (overlaps_claim span) ins ≡ false
  pub outputs : list_any (overlaps_claim span) outs ≡ false
  pub saved : list_any (λ w. overlap span (saved_words w)) ws ≡ false

pub all_apart : (ins outs : List (Option Span)) (ws counts : List ℕ) (start size : ℕ) → IsTally ins outs ws counts
    → AreEmpty counts (record { start = start; size = size })
    → IsApart ins outs ws (record { start = start; size = size })
all_apart ins outs ws counts start size is empty =
    record {
      inputs = claims_apart ins start size (λ k p q. (here k p q).inputs);
      outputs = claims_apart outs start size (λ k p q. (here k p q).outputs);
      saved = saved_apart ws start size (λ k p q. (here k p q).saved);
    }
  where
    here : (k : ℕ) → start / 4 ≤ k → k < (start + size + 3) / 4 → NoneIn ins outs ws k
    here k p q = none_in ins outs ws counts k is (empty k p q)

-- no count is the largest one
pub counts_have_room : (ins outs : List (Option Span)) (ws counts : List ℕ) → IsTally ins outs ws counts
    → CountsHaveRoom counts
counts_have_room ins outs ws counts is = λ slot lt.
    let word = word_at slot in
    let a = sum_by-le (claims_word word) 1 ins (λ k d _. claims_word-le word (get_or ins k d)) in
    let b = sum_by-le (claims_word word) 1 outs (λ k d _. claims_word-le word (get_or outs k d)) in
    let c = sum_by-le (saves_word word) 1 ws (λ k d _. claims_word-le word (Some (saved_words (get_or ws k d)))) in
    omega (arith, a, b, c, is.counted slot lt, is.inputs, is.outputs, is.saved)

-- no claims
pub tally_none : (ins outs : List (Option Span)) (ws counts : List ℕ) → ins ≡ replicate 4 None
    → outs ≡ replicate 4 None → ws ≡ [] → ((slot : ℕ) → slot < length counts → get_or counts slot 0 ≡ 0)
    → IsTally ins outs ws counts
tally_none ins outs ws counts e f g none = rw (e, f, g) (record {
  counted = none;
  inputs = refl;
  outputs = refl;
  saved = omega arith;
})

-- the table where a link claims another span
pub tally_input : (ins outs : List (Option Span)) (ws counts new : List ℕ) (i : ℕ) (before claim : Option Span)
    → IsTally ins outs ws counts → i < 4 → before ≡ get_or ins i None → IsExchanged before claim counts new
    → IsTally (set ins i claim) outs ws new
tally_input ins outs ws counts new i before claim is lt e changed = record {
  counted = λ slot within.
      let old : slot < length counts = omega (arith, within, changed.size) in
      let total = is.counted slot old in
      let step = changed.counted slot old in
      let sums = sum_by-set (claims_word (word_at slot)) ins i claim None (omega (arith, is.inputs)) in
      let same : claims_word (word_at slot) before ≡ claims_word (word_at slot) (get_or ins i None) =
      ap (claims_word (word_at slot)) e in
      omega (arith, total, step, sums, same);
  inputs = length-set ins i claim ∙ is.inputs;
  outputs = is.outputs;
  saved = is.saved;
}

-- inputs and outputs count alike
swapped : (ins outs : List (Option Span)) (ws counts : List ℕ) → IsTally ins outs ws counts → IsTally outs ins ws counts
swapped ins outs ws counts is = record {
  counted = λ slot within. omega (arith, is.counted slot within);
  inputs = is.outputs;
  outputs = is.inputs;
  saved = is.saved;
}

pub tally_output : (ins outs : List (Option Span)) (ws counts new : List ℕ) (i : ℕ) (before claim : Option Span)
    → IsTally ins outs ws counts → i < 4 → before ≡ get_or outs i None → IsExchanged before claim counts new
    → IsTally ins (set outs i claim) ws new
tally_output ins outs ws counts new i before claim is lt e changed =
    swapped (set outs i claim) ins ws new
    (tally_input outs ins ws counts new i before claim (swapped ins outs ws counts is) lt e changed)

-- what a link claims is counted
pub enough_input : (ins outs : List (Option Span)) (ws counts : List ℕ) (i : ℕ) (before : Option Span)
    → IsTally ins outs ws counts → i < 4 → before ≡ get_or ins i None
    → (slot : ℕ) → slot < length counts → claims_word (word_at slot) before ≤ get_or counts slot 0
enough_input ins outs ws counts i before is lt e slot within =
    let total = is.counted slot within in
    let one = get_or-le-sum_by (claims_word (word_at slot)) ins i None (omega (arith, is.inputs)) in
    let same : claims_word (word_at slot) before ≡ claims_word (word_at slot) (get_or ins i None) =
    ap (claims_word (word_at slot)) e in
    omega (arith, total, one, same)

pub enough_output : (ins outs : List (Option Span)) (ws counts : List ℕ) (i : ℕ) (before : Option Span)
    → IsTally ins outs ws counts → i < 4 → before ≡ get_or outs i None
    → (slot : ℕ) → slot < length counts → claims_word (word_at slot) before ≤ get_or counts slot 0
enough_output ins outs ws counts i before is lt e =
    enough_input outs ins ws counts i before (swapped ins outs ws counts is) lt e

-- the table with the words of one more workspace
pub tally_push : (ins outs : List (Option Span)) (ws counts new : List ℕ) (w : ℕ) → IsTally ins outs ws counts
    → length ws < most_processes → IsExchanged None (Some (saved_words w)) counts new → IsTally ins outs (w ∷ ws) new
tally_push ins outs ws counts new w is room changed = record {
  counted = λ slot within.
      let old : slot < length counts = omega (arith, within, changed.size) in
      let total = is.counted slot old in
      let step = changed.counted slot old in
      let sums = sum_by-cons (saves_word (word_at slot)) w ws in
      omega (arith, total, step, sums);
  inputs = is.inputs;
  outputs = is.outputs;
  saved = omega arith;
}

-- and of one less
pub tally_drop : (ins outs : List (Option Span)) (ws rest counts new : List ℕ) (w : ℕ) → IsTally ins outs ws counts
    → length rest + 1 ≡ length ws → ((word : ℕ) → saved_in word rest + saves_word word w ≡ saved_in word ws)
    → IsExchanged (Some (saved_words w)) None counts new → IsTally ins outs rest new
tally_drop ins outs ws rest counts new w is shorter less changed = record {
  counted = λ slot within.
      let old : slot < length counts = omega (arith, within, changed.size) in
      let total = is.counted slot old in
      let step = changed.counted slot old in
      omega (arith, total, step, less (word_at slot));
  inputs = is.inputs;
  outputs = is.outputs;
  saved = omega (arith, is.saved);
}

-- the words of a workspace of the list are counted
pub enough_saved : (ins outs : List (Option Span)) (ws rest counts : List ℕ) (w : ℕ) → IsTally ins outs ws counts
    → ((word : ℕ) → saved_in word rest + saves_word word w ≡ saved_in word ws)
    → (slot : ℕ) → slot < length counts → saves_word (word_at slot) w ≤ get_or counts slot 0
enough_saved ins outs ws rest counts w is less slot within =
    let total = is.counted slot within in
    omega (arith, total, less (word_at slot))

-- a workspace is not in the list where none has its third saved word as one
pub absent_by_count : (ws : List ℕ) (w : ℕ) → saved_in (word_below w 3 / 4 + 2) ws ≡ 0
    → list_any (λ v. eqb v w) ws ≡ false
absent_by_count ws w empty =
    list_any_none (λ v. eqb v w) ws (λ i d lt.
    ne_eqb (get_or ws i d) w (λ e.
    let word = word_below w 3 / 4 + 2 in
    let one = get_or-le-sum_by (saves_word word) ws i d lt in
    let same : saves_word word (get_or ws i d) ≡ saves_word word w = ap (saves_word word) e in
    omega (arith, one, same, empty, word_in word (saved_words w) (omega arith) (omega arith) (omega arith))))

-- the next number is among one more, and each other as before
next_one : (first behind : ℕ) → first ≤ behind → (is_among first behind behind ≡ 0)
    × (is_among first (behind + 1) behind ≡ 1)
next_one first behind p =
    (among_above first behind behind (omega arith), among_in first (behind + 1) behind p (omega arith))

elsewhere : (first behind number : ℕ) → number ≢ behind
    → is_among first (behind + 1) number ≡ is_among first behind number
elsewhere first behind number n =
    among_moved first (behind + 1) first behind number number (λ a. a) (λ a. a) (λ a. omega arith) (λ a. omega arith)

-- one more slot is counted up
pub up_more : (cs start : List ℕ) (first k : ℕ) → k < length cs → first ≤ k
    → ((slot : ℕ) → slot < length start → get_or cs slot 0 ≡ get_or start slot 0 + is_among first k slot)
    → (slot : ℕ) → slot < length start
    → get_or (set cs k (get_or cs k 0 + 1)) slot 0 ≡ get_or start slot 0 + is_among first (k + 1) slot
up_more cs start first k lt p so_far slot within =
    elim (cases_eq slot k) [
      | inl e ↦
          let t = next_one first k p in
          let put = get_or-set_at cs k slot (get_or cs k 0 + 1) 0 e (omega arith) in
          let same : get_or cs k 0 ≡ get_or cs slot 0 = ap (λ i. get_or cs i 0) (sym e) in
          let before : is_among first k slot ≡ 0 = ap (is_among first k) e ∙ t.0 in
          let now : is_among first (k + 1) slot ≡ 1 = ap (is_among first (k + 1)) e ∙ t.1 in
          omega (arith, before, now, put, same, so_far slot within)
      | inr n ↦
          let kept = get_or-set_other cs k slot (get_or cs k 0 + 1) 0 n in
          omega (arith, kept, elsewhere first k slot n, so_far slot within)
    ]

-- one more slot is counted down
pub down_more : (cs start : List ℕ) (first k behind : ℕ) → k < length cs → length cs ≡ length start → first ≤ k
    → k < behind → ((slot : ℕ) → slot < length start → is_among first behind slot ≤ get_or start slot 0)
    → ((slot : ℕ) → slot < length start → get_or cs slot 0 + is_among first k slot ≡ get_or start slot 0)
    → (slot : ℕ) → slot < length start
    → get_or (set cs k (get_or cs k 0 - 1)) slot 0 + is_among first (k + 1) slot ≡ get_or start slot 0
down_more cs start first k behind lt size p q enough so_far slot within =
    elim (cases_eq slot k) [
      | inl e ↦
          let t = next_one first k p in
          let put = get_or-set_at cs k slot (get_or cs k 0 - 1) 0 e (omega arith) in
          let same : get_or cs k 0 ≡ get_or cs slot 0 = ap (λ i. get_or cs i 0) (sym e) in
          let before : is_among first k slot ≡ 0 = ap (is_among first k) e ∙ t.0 in
          let now : is_among first (k + 1) slot ≡ 1 = ap (is_among first (k + 1)) e ∙ t.1 in
          let some : is_among first behind slot ≡ 1 = among_in first behind slot (omega arith) (omega arith) in
          omega (arith, before, now, put, same, some, enough slot within, so_far slot within)
      | inr n ↦
          let kept = get_or-set_other cs k slot (get_or cs k 0 - 1) 0 n in
          omega (arith, kept, elsewhere first k slot n, so_far slot within)
    ]

-- where some counts in a row come to nothing, each of them is nothing
pub none_summed : (cs : List ℕ) (first behind i : ℕ) → first ≤ behind → behind ≤ length cs
    → sum (take (behind - first) (drop first cs)) ≡ 0 → first ≤ i → i < behind → get_or cs i 0 ≡ 0
none_summed cs first behind i order room none low high =
    let part : List ℕ = take (behind - first) (drop first cs) in
    let size : length part ≡ behind - first =
    length-take-le (behind - first) (drop first cs) (omega (arith, length-drop first cs)) in
    let one = get_or-le-sum_by (λ (x : ℕ). x) part (i - first) 0 (omega (arith, size)) in
    let read : get_or part (i - first) 0 ≡ get_or cs (first + (i - first)) 0 =
    get_or-take (behind - first) (drop first cs) (i - first) 0 (omega arith) ∙ get_or-drop first cs (i - first) 0 in
    let same : get_or cs (first + (i - first)) 0 ≡ get_or cs i 0 = ap (λ j. get_or cs j 0) (omega arith) in
    omega (arith, one, read, same, none)
