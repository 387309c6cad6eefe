-- What the checks of a touch tell of the calls of the memory that follow.
use Rattle.std.proofs.Common.{◌≡◌, ℕ, ◌+◌, ◌-◌, ◌≤◌, ◌<◌, ◌%◌, ◌^◌, Bool, true, false, not, ◌||◌, cond, Option}
use Rattle.std.proofs.Common.{Some, None, Result, Ok, Err, refl, sym, ◌∙◌, [], arith}
use Rattle.std.specs.Prelude.{◌==◌}
use Rattle.std.proofs.lemmas.Bool.{leb-true, le-leb, eqb-true, or_right}
use Rattle.tword.specs.declared.breaks.Break.{Break}
use Rattle.tword.specs.declared.breaks.Break.TheVariants.{BadAddress, Reserved, Unaligned, InTransit, SavedWord}
use Rattle.tword.specs.declared.span.Span.{Span}
use Rattle.tword.specs.Accesses.{IsClaimableWorkspace}
use Rattle.tword.specs.Claims.{Claims, is_saved, overlap, saved_words, has_saved, saving}
use Rattle.tword.specs.Touches.{Mode, Reads, Writes, is_inside, is_open, is_in_transit, is_aligned, span_break}
use Rattle.tword.specs.Touches.{word_break, word_span, deschedule_break, copy_break, claim_break, first_break}
use Rattle.tword.specs.Words.{most_neg, mem_start, word_below}
use Rattle.tword.specs.Actions.{is_slot, unmet, or_break}
use Rattle.tword.proofs.Passing.{Passes, span_break-none, word_break-aligned, word_break-passes}
use Rattle.tword.proofs.Passing.{deschedule-words}
use Rattle.tword.proofs.Descheduling.{inside_within, inside_within, deschedule-passes, saved_word-clear}
use Rattle.tword.proofs.Blind.{Clear}
use Rattle.tproc.proofs.ClaimState.{overlap_self}
use Rattle.tproc.proofs.Occurs.{found}

-- a touch beside one more workspace whose words are saved, which is the last that is looked at
choices : (i o t x s : Bool)
    → cond (not i) (Some BadAddress)
    (cond (not o) (Some Reserved) (cond t (Some InTransit) (cond (x || s) (Some SavedWord) None)))
    ≡ first_break
    (cond (not i) (Some BadAddress)
    (cond (not o) (Some Reserved) (cond t (Some InTransit) (cond s (Some SavedWord) None))))
    (unmet (not x) SavedWord)
choices false o t x s = refl
choices true false t x s = refl
choices true true true x s = refl
choices true true false true true = refl
choices true true false true false = refl
choices true true false false true = refl
choices true true false false false = refl

-- the words of that workspace are overlapped by the span
pub span_break-saving : (n w : ℕ) (c : Claims) (mode : Mode) (span : Span)
    → span_break n (saving w c) mode span ≡ first_break (span_break n c mode span)
    (unmet (not (overlap span (saved_words w))) SavedWord)
unfolding span_break
span_break-saving n w c Reads span =
    choices (is_inside n span) (is_open span) (is_in_transit c Reads span) (overlap span (saved_words w))
    (is_saved c span)
span_break-saving n w c Writes span =
    choices (is_inside n span) (is_open span) (is_in_transit c Writes span) (overlap span (saved_words w))
    (is_saved c span)

pub word_break-saving : (n w : ℕ) (c : Claims) (mode : Mode) (a : ℕ)
    → word_break n (saving w c) mode a ≡ first_break (word_break n c mode a)
    (unmet (not (overlap (word_span a) (saved_words w))) SavedWord)
unfolding word_break
word_break-saving n w c mode a = by (is_aligned a) _ _ _ (span_break-saving n w c mode (word_span a))
  where
    by : (b : Bool) (x y z : Option Break) → x ≡ first_break y z
        → cond (not b) (Some Unaligned) x ≡ first_break (cond (not b) (Some Unaligned) y) z
    by true x y z e = e
    by false x y z e = refl

-- so two checks, one after the other, are that touch
pub beside_ok : (y z x : Option Break) (r : Result (Unit {0}) Break) (u : Unit {0}) → x ≡ first_break y z
    → Ok u ≡ or_break y tt → r ≡ or_break z tt → r ≡ or_break x tt
beside_ok None z x r u e h k = rw e k
beside_ok (Some b) z x r u e h k = cc

pub beside_err : (y z x : Option Break) (b : Break) → x ≡ first_break y z
    → ◌≡◌ {A = Result (Unit {0}) Break} (Err b) (or_break y tt)
    → ◌≡◌ {A = Result (Unit {0}) Break} (Err b) (or_break x tt)
beside_err None z x b e h = cc
beside_err (Some a) z x b e h = rw e h

-- a word that may be written is inside
pub word_inside : (n a : ℕ) (c : Claims) → word_break n c Writes a ≡ None → is_inside n (word_span a) ≡ true
word_inside n a c h = (word_break-passes n c Writes a h).inside

-- and so are the bytes that may be copied
pub source_inside : (n : ℕ) (c : Claims) (from count : ℕ)
    → span_break n c Reads (record { start = from; size = count }) ≡ None
    → is_inside n (record { start = from; size = count }) ≡ true
source_inside n c from count h = (span_break-none n c Reads (record { start = from; size = count }) h).inside

pub target_inside : (n : ℕ) (c : Claims) (to count : ℕ)
    → span_break n c Writes (record { start = to; size = count }) ≡ None
    → is_inside n (record { start = to; size = count }) ≡ true
target_inside n c to count h = (span_break-none n c Writes (record { start = to; size = count }) h).inside

-- what lies in the memory is inside
pub inside_from : (n : ℕ) (span : Span) → most_neg ≤ span.start → span.start - most_neg + span.size ≤ n
    → is_inside n span ≡ true
inside_from n span above within = or_right (span.size == 0) _ (rw (le-leb _ _ above, le-leb _ _ within) refl)

-- the words of a workspace that may be descheduled may be claimed, and nobody claims them
pub claimable : (n w : ℕ) (c : Claims) → n ≤ 16777216 → w < 2 ^ 32 → deschedule_break n c w ≡ None
    → IsClaimableWorkspace w
claimable n w c small word h = (omega (arith, one.0), word, three.1.0, omega (arith, three.1.0, three.1.1, one.1.1))
  where
    bounds : (k : ℕ) → is_slot k ≡ true → (word_below w k % 4 ≡ 0)
        × ((mem_start ≤ word_below w k) × (word_below w k - most_neg + 4 ≤ n))
    bounds k s =
        let b : word_break n c Writes (word_below w k) ≡ None = deschedule-words n c w k h s in
        let p : Passes n c Writes (word_span (word_below w k)) = word_break-passes n c Writes (word_below w k) b in
        let i : (most_neg ≤ word_below w k) × (word_below w k - most_neg + 4 ≤ n) =
        inside_within n (word_span (word_below w k)) (omega arith) p.inside in
        (eqb-true _ _ (word_break-aligned n c Writes (word_below w k) b), (leb-true _ _ p.open_to_all, i.1))

    one : (word_below w 1 % 4 ≡ 0) × ((mem_start ≤ word_below w 1) × (word_below w 1 - most_neg + 4 ≤ n))
    one = bounds 1 refl

    three : (word_below w 3 % 4 ≡ 0) × ((mem_start ≤ word_below w 3) × (word_below w 3 - most_neg + 4 ≤ n))
    three = bounds 3 refl

pub unclaimed : (n w : ℕ) (c : Claims) → n ≤ 16777216 → deschedule_break n c w ≡ None
    → claim_break c Writes (saved_words w) ≡ None
unclaimed n w c small h =
    let p : Passes n c Writes (saved_words w) = deschedule-passes n c w (omega arith) h in
    rw (p.still, p.unsaved) refl

-- so its words were not saved
pub unsaved : (n w : ℕ) (c : Claims) → n ≤ 16777216 → deschedule_break n c w ≡ None → has_saved c w ≡ false
unsaved n w c small h = by (has_saved c w) refl
  where
    by : (b : Bool) → has_saved c w ≡ b → b ≡ false
    by false e = refl
    by true e =
        sym (found (λ v. overlap (saved_words w) (saved_words v)) w c.saved (overlap_self w) e)
        ∙ (deschedule-passes n c w (omega arith) h).unsaved

-- what is needed of a workspace to save its words, and what is then known of it
pub ruleset descheduled_workspace = (claimable, unclaimed, unsaved)

pub saved_inside : (n w : ℕ) (c : Claims) → n ≤ 16777216 → deschedule_break n c w ≡ None
    → is_inside n (saved_words w) ≡ true
saved_inside n w c small h = (deschedule-passes n c w (omega arith) h).inside

-- a saved word of a workspace in the memory is inside
pub saved_word_inside : (n w k : ℕ) → n ≤ 16777216 → is_slot k ≡ true → is_inside n (saved_words w) ≡ true
    → is_inside n (word_span (word_below w k)) ≡ true
saved_word_inside n w k small s h =
    let p : Clear n [] (word_span (word_below w k)) = saved_word-clear [] n w k (omega arith) h s refl in
    inside_from n (word_span (word_below w k)) p.above p.within

-- all workspaces whose words are saved lie in the memory, also with one more, and without one
pub all_inside_saving : (n w : ℕ) (c : Claims) → ((v : ℕ) → has_saved c v ≡ true → is_inside n (saved_words v) ≡ true)
    → is_inside n (saved_words w) ≡ true
    → (v : ℕ) → has_saved (saving w c) v ≡ true → is_inside n (saved_words v) ≡ true
all_inside_saving n w c h i v e = by (w == v) refl e
  where
    by : (b : Bool) → (w == v) ≡ b → (b || has_saved c v) ≡ true → is_inside n (saved_words v) ≡ true
    by true k e = rw (← eqb-true w v k) i
    by false k e = h v e

-- and there is an address behind it
pub behind_saved : (n w : ℕ) → n ≤ 16777216 → w < 4294967296 → is_inside n (saved_words w) ≡ true → w + 1 < 4294967296
behind_saved n w small b h =
    let within = inside_within n (saved_words w) (omega arith) h in
    omega (arith, within.0, within.1, small, b)

-- bytes that may be read may be copied to where they may be written
pub copy_free : (n from to count : ℕ) (c : Claims)
    → span_break n c Reads (record { start = from; size = count }) ≡ None
    → span_break n c Writes (record { start = to; size = count }) ≡ None → copy_break n c from to count ≡ None
unfolding copy_break
copy_free n from to count c r w = rw (r, w) refl
