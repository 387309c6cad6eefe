-- Words in a row that are looked at one after another.
use Rattle.std.proofs.Common.{◌≡◌, ℕ, zero, suc, ◌+◌, ◌-◌, ◌<◌, refl, sym, subst, ap, ◌∙◌, arith, append_assoc}
use Rattle.std.proofs.Common.{append-nil}
use Rattle.std.proofs.Common.{List, [], ◌++◌, Option, Some, None, Result, Ok, Err}
use Rattle.std.specs.Prelude.{slice_get, option_map}
use Rattle.tword.specs.declared.breaks.Break.{Break}
use Rattle.tword.specs.declared.span.Span.{Span}
use Rattle.tword.specs.Actions.{or_break}
use Rattle.tword.specs.Stores.{Store}
use Rattle.tword.specs.Touches.{Mode, place_break}
use Rattle.tprocesses.specs.Parts.{Reason, Breaks, Part, gives, unless, ◌>>=◌, ◌>>◌}
use Rattle.tprocesses.specs.Touching.{Site, touch, touch_word, touch_words, word_count, word_for, word_number}
use Rattle.tprocesses.specs.Touching.{words_for}
use Rattle.tprocesses.specs.Values.{Use}
use Rattle.tcertify.specs.declared.stored.StoredWord.{StoredWord}
use Rattle.tcertify.specs.declared.stored.Words.{Words}
use Rattle.tcertify.specs.Cells.{cells_of}
use Rattle.tcertify.specs.Spans.{cells_from, cells_or}
use Rattle.tcertify.specs.Words.{Runs, site_of}
use Rattle.tcertify.proofs.Running.{runs_as, runs_given, runs_on, runs_stop, runs_stopping}

-- what is done for each number in a row, and all bytes
abbrev pub in_row : (ℕ → Part Store) → (first count : ℕ) → Part Store
in_row one k zero = gives []
in_row one k (suc count) = one k >>= (λ cells. in_row one (suc k) count >>= (λ rest. gives (cells ++ rest)))

-- words are touched so, and words that have a use are looked at so
pub touch_row : (s : Site) (mode : Mode) (count k : ℕ)
    → touch_words s mode k count ≡ in_row (touch_word s mode) k count
touch_row s mode zero k = refl
touch_row s mode (suc count) k =
    λ i. touch_word s mode k >>= (λ cells. touch_row s mode count (suc k) i >>= (λ rest. gives (cells ++ rest)))

pub use_row : (s : Site) (used : Use) (count k : ℕ) → words_for s used k count ≡ in_row (word_for s used) k count
use_row s used zero k = refl
use_row s used (suc count) k =
    λ i. word_for s used k >>= (λ cells. use_row s used count (suc k) i >>= (λ rest. gives (cells ++ rest)))

-- bytes before an answer
abbrev pub behind : Store → Result Store Reason → Result Store Reason
behind xs (Ok ys) = Ok (xs ++ ys)
behind xs (Err why) = Err why

behind_both : (xs ys : Store) (r : Result Store Reason) → behind xs (behind ys r) ≡ behind (xs ++ ys) r
behind_both xs ys (Ok zs) = ap (λ (l : Store). Ok l) (sym (append_assoc xs ys zs))
behind_both xs ys (Err why) = refl

behind_none : (r : Result Store Reason) → behind [] r ≡ r
behind_none (Ok xs) = refl
behind_none (Err why) = refl

-- one more word in a row
cells_next : (ws : List StoredWord) (n k j : ℕ) → j ≡ k + n
    → cells_from ws k (suc n) ≡ cells_from ws k n ++ cells_or (slice_get ws j)
cells_next ws zero k j e =
    let same : k ≡ j = omega arith in
    append-nil (cells_or (slice_get ws k)) ∙ ap (λ (m : ℕ). cells_or (slice_get ws m)) same
cells_next ws (suc n) k j e =
    ap (λ (l : Store). cells_or (slice_get ws k) ++ l) (cells_next ws n (suc k) j (omega arith))
    ∙ sym (append_assoc (cells_or (slice_get ws k)) (cells_from ws (suc k) n) (cells_or (slice_get ws j)))

-- the bytes of a word that is there
pub cells_there : (o : Option StoredWord) (cells : Store) → Some cells ≡ option_map (λ w. cells_of w.cells) o
    → cells_or o ≡ cells
cells_there (Some w) cells e = cc
cells_there None cells e = cc

-- the first k words of a row were looked at, and what the others give decides
pub record Leads (one : ℕ → Part Store) (first count : ℕ) (w : Words) (k : ℕ) (u : Words) : Type 0 where
  pub items : u.items.items ≡ w.items.items
  pub site : site_of u ≡ site_of w
  pub leads_on : (v : Words) (r : Result Store Reason) → Runs (in_row one (first + k) (count - k)) u r v
      → Runs (in_row one first count) w (behind (cells_from w.items.items first k) r) v

module _ (one : ℕ → Part Store) (first count : ℕ) (w : Words) where
  pub row_begins : Leads one first count w 0 w
  row_begins =
      let same : first + 0 ≡ first = omega arith in
      let all : count - 0 ≡ count = omega arith in
      record {
        items = refl;
        site = refl;
        leads_on = λ v r h. subst (λ (x : Result Store Reason). Runs (in_row one first count) w x v)
            (sym (behind_none r))
            (subst (λ (n : ℕ). Runs (in_row one n count) w r v) same
            (subst (λ (n : ℕ). Runs (in_row one (first + 0) n) w r v) all h));
      }

  module _ (k : ℕ) (u : Words) (so_far : Leads one first count w k u) where
    module _ (v : Words) (low : k < count) where
      -- what follows a word
      abbrev rest : Store → Part Store
      rest cells = in_row one (suc (first + k)) (count - suc k) >>= (λ more. gives (cells ++ more))

      longer : (r : Result Store Reason) (t : Words) → Runs (one (first + k) >>= rest) u r t
          → Runs (in_row one (first + k) (count - k)) u r t
      longer r t h =
          let more : suc (count - suc k) ≡ count - k = omega arith in
          subst (λ (n : ℕ). Runs (in_row one (first + k) n) u r t) more h

      pub row_stops : (why : Reason) → Runs (one (first + k)) u (Err why) v
          → Runs (in_row one first count) w (Err why) v
      row_stops why h =
          so_far.leads_on v (Err why) (longer (Err why) v (runs_stop (one (first + k)) rest u v why h))

      further : (cells : Store) (t : Words) (r : Result Store Reason)
          → Runs (in_row one (suc (first + k)) (count - suc k)) v r t → Runs (rest cells) v (behind cells r) t
      further cells t (Ok more) h =
          runs_on (in_row one (suc (first + k)) (count - suc k)) (λ more. gives (cells ++ more)) v t t more
          (Ok (cells ++ more)) h (runs_given (cells ++ more) t)
      further cells t (Err why) h =
          runs_stop (in_row one (suc (first + k)) (count - suc k)) (λ more. gives (cells ++ more)) v t why h

      pub row_goes_on : (cells : Store) → Runs (one (first + k)) u (Ok cells) v → v.items.items ≡ u.items.items
          → site_of v ≡ site_of u → cells_or (slice_get u.items.items (first + k)) ≡ cells
          → Leads one first count w (k + 1) v
      row_goes_on cells h items site is =
          let place : first + (k + 1) ≡ suc (first + k) = omega arith in
          let left : count - (k + 1) ≡ count - suc k = omega arith in
          let next : k + 1 ≡ suc k = omega arith in
          let here : cells_or (slice_get w.items.items (first + k)) ≡ cells =
          ap (λ (ws : List StoredWord). cells_or (slice_get ws (first + k))) (sym so_far.items) ∙ is in
          let all : cells_from w.items.items first (k + 1) ≡ cells_from w.items.items first k ++ cells =
          ap (cells_from w.items.items first) next ∙ cells_next w.items.items k first (first + k) refl
          ∙ ap (λ (l : Store). cells_from w.items.items first k ++ l) here in
          record {
            items = items ∙ so_far.items;
            site = site ∙ so_far.site;
            leads_on = λ t r more.
                let tail = subst (λ (n : ℕ). Runs (in_row one n (count - suc k)) v r t) place
                (subst (λ (n : ℕ). Runs (in_row one (first + (k + 1)) n) v r t) left more) in
                subst (λ (x : Result Store Reason). Runs (in_row one first count) w x t)
                (behind_both (cells_from w.items.items first k) cells r
                ∙ ap (λ (l : Store). behind l r) (sym all))
                (so_far.leads_on t (behind cells r)
                (longer (behind cells r) t
                (runs_on (one (first + k)) rest u v t cells (behind cells r) h (further cells t r tail))));
          }

    pub row_ends : k ≡ count → Runs (in_row one first count) w (Ok (cells_from w.items.items first count)) u
    row_ends e =
        let none : 0 ≡ count - k = omega arith in
        subst (λ (l : Store). Runs (in_row one first count) w (Ok l) u)
        (append-nil (cells_from w.items.items first k) ∙ ap (cells_from w.items.items first) e)
        (so_far.leads_on u (Ok [])
        (subst (λ (n : ℕ). Runs (in_row one (first + k) n) u (Ok []) u) none (runs_given [] u)))

-- the words of a span are touched
module _ (w : Words) (mode : Mode) (span : Span) where
  abbrev by_place : Option Break → Part Store
  by_place o = unless o >> touch_words (site_of w) mode (word_number span.start) (word_count span)

  pub span_outside : (b : Break) → Err b ≡ or_break {X = Unit {0}} (place_break (site_of w).size span) tt
      → Runs (touch (site_of w) mode span) w (Err (Breaks b)) w
  span_outside b e =
      subst (λ (o : Option Break). Runs (by_place o) w (Err (Breaks b)) w)
      (sym (named (place_break (site_of w).size span) (sym e))) (runs_stopping (Breaks b) w)
    where
      named : (o : Option Break) → or_break {X = Unit {0}} o tt ≡ Err b → o ≡ Some b
      named None h = cc
      named (Some x) h = cc

  pub span_inside : (v : Words) (r : Result Store Reason)
      → Ok tt ≡ or_break {X = Unit {0}} (place_break (site_of w).size span) tt
      → Runs (in_row (touch_word (site_of w) mode) (word_number span.start) (word_count span)) w r v
      → Runs (touch (site_of w) mode span) w r v
  span_inside v r e h =
      subst (λ (o : Option Break). Runs (by_place o) w r v) (sym (none (place_break (site_of w).size span) (sym e)))
      (runs_as (touch_words (site_of w) mode (word_number span.start) (word_count span))
      (in_row (touch_word (site_of w) mode) (word_number span.start) (word_count span)) w v r
      (touch_row (site_of w) mode (word_count span) (word_number span.start)) h)
    where
      none : (o : Option Break) → or_break {X = Unit {0}} o tt ≡ Ok tt → o ≡ None
      none None h = refl
      none (Some x) h = cc
