-- What pages keep of all places.
use Rattle.std.proofs.Common.{◌≡◌, ◌≢◌, ℕ, ◌<◌, ◌≤◌, ◌+◌, ◌*◌, ◌/◌, ◌%◌, zero, suc, inl, inr, List, [], ◌∷◌}
use Rattle.std.proofs.Common.{◌++◌, length, ap, refl, sym, ◌∙◌, subst, arith, slice_index_or, slice_set, replicate}
use Rattle.std.proofs.Common.{append_assoc, append-nil, Bool, true, false, Result, Ok, Err, OnOk, OnErr}
use Rattle.std.proofs.lemmas.List.{ext_get_or, get_or-set_same, get_or-set_other, length-set, get_or_default, set-get_or}
use Rattle.std.proofs.lemmas.List.{replicate-append-replicate}
use Rattle.std.proofs.lemmas.List.FromFn.{get_or-map-range_with_len, length-map-range_with_len, map-range_with_len_more}
use Rattle.tclocks.specs.declared.step.Access.{Access}
use Rattle.tclocks.specs.declared.kept.Kept.{Kept}
use Rattle.tclocks.specs.declared.kept.Kept.TheVariants.{OfOne}
use Rattle.tclocks.specs.Kept.{IsNotedBriefly}
use Rattle.tclocks.specs.Tables.{kept_at, kept_in, all_in, HavePages, IsSet, IsNotedByOwner, IsNotedOnly}
use Rattle.tclocks.proofs.Accessing.{same-or-not}

pub read-all : (pages : List (List Kept)) (count place : ℕ) → place < count
    → kept_at (all_in pages count) place ≡ kept_in pages place
read-all pages count place within =
    get_or-map-range_with_len (kept_in pages) 0 count place place (OfOne false 0 0 0) within (omega arith)

pub length-all : (pages : List (List Kept)) (count : ℕ) → length (all_in pages count) ≡ count
length-all pages count = length-map-range_with_len (kept_in pages) 0 count

-- where of one place something else is kept, and of the others the same
pub one-set : (pages pages' : List (List Kept)) (count place : ℕ) (kept : Kept) → place < count
    → kept_in pages' place ≡ kept → ((q : ℕ) → q ≢ place → kept_in pages' q ≡ kept_in pages q)
    → all_in pages' count ≡ slice_set (all_in pages count) place kept
one-set pages pages' count place kept within is others =
    ext_get_or (OfOne false 0 0 0) (all_in pages' count) (slice_set (all_in pages count) place kept)
    (length-all pages' count ∙ sym (length-all pages count) ∙ sym (length-set (all_in pages count) place kept))
    (λ q h. (let below : q < count = omega (arith, h, length-all pages' count) in
    elim (same-or-not q place) as (λ _. kept_at (all_in pages' count) q
    ≡ kept_at (slice_set (all_in pages count) place kept) q) [
      | inl e ↦ read-all pages' count q below ∙ ap (λ (i : ℕ). kept_in pages' i) e ∙ is
          ∙ sym (get_or-set_same (all_in pages count) place kept (OfOne false 0 0 0)
          (omega (arith, within, length-all pages count)))
          ∙ ap (λ (i : ℕ). kept_at (slice_set (all_in pages count) place kept) i) (sym e)
      | inr away ↦ read-all pages' count q below ∙ others q away ∙ sym (read-all pages count q below)
          ∙ sym (get_or-set_other (all_in pages count) place q kept (OfOne false 0 0 0) away)
    ]))

-- the place of an index of a page
apart : (q place : ℕ) → q ≢ place → q / 256 ≡ place / 256 → q % 256 ≢ place % 256
apart q place away same e = away (omega (arith, same, e))

-- one page changes at one index
module _ (pages : List (List Kept)) (place : ℕ) (page : List Kept) (there : place / 256 < length pages)
    (others : (i : ℕ) → i ≢ place % 256 → kept_at page i ≡ kept_at (slice_index_or pages (place / 256) []) i) where
  changed : List (List Kept)
  changed = slice_set pages (place / 256) page

  pub changed-there : kept_in (slice_set pages (place / 256) page) place ≡ kept_at page (place % 256)
  changed-there =
      ap (λ (p : List Kept). kept_at p (place % 256)) (get_or-set_same pages (place / 256) page [] there)

  pub changed-elsewhere : (q : ℕ) → q ≢ place
      → kept_in (slice_set pages (place / 256) page) q ≡ kept_in pages q
  changed-elsewhere q away =
      elim (same-or-not (q / 256) (place / 256)) as (λ _. kept_in (slice_set pages (place / 256) page) q
      ≡ kept_in pages q) [
        | inl e ↦ ap (λ (p : List Kept). kept_at p (q % 256))
            (ap (λ (i : ℕ). slice_index_or (slice_set pages (place / 256) page) i []) e
            ∙ get_or-set_same pages (place / 256) page [] there)
            ∙ others (q % 256) (apart q place away e)
            ∙ ap (λ (i : ℕ). kept_at (slice_index_or pages i []) (q % 256)) (sym e)
        | inr far ↦ ap (λ (p : List Kept). kept_at p (q % 256))
            (get_or-set_other pages (place / 256) (q / 256) page [] far)
      ]

  pub changed-all : (count : ℕ) → place < count → all_in (slice_set pages (place / 256) page) count
      ≡ slice_set (all_in pages count) place (kept_at page (place % 256))
  changed-all count within = one-set pages (slice_set pages (place / 256) page) count place
      (kept_at page (place % 256)) within changed-there changed-elsewhere

  pub changed-pages : (count : ℕ) → place < count → HavePages pages count
      → HavePages (slice_set pages (place / 256) page) count
  changed-pages count within have = record {
    room = omega (arith, have.room, length-set pages (place / 256) page);
    clear = λ q h. changed-elsewhere q (λ e. omega (arith, h, within, e)) ∙ have.clear q h;
  }

-- more pages, of which nothing is kept
more-pages : (i : ℕ) (pages : List (List Kept)) (n : ℕ)
    → slice_index_or (pages ++ replicate n []) i [] ≡ slice_index_or pages i []
more-pages zero [] zero = refl
more-pages zero [] (suc n) = refl
more-pages (suc i) [] zero = refl
more-pages (suc i) [] (suc n) = more-pages i [] n
more-pages zero (x ∷ xs) n = refl
more-pages (suc i) (x ∷ xs) n = more-pages i xs n

pub none-more : (pages : List (List Kept)) (n place : ℕ) → kept_in (pages ++ replicate n []) place ≡ kept_in pages place
none-more pages n place = ap (λ (p : List Kept). kept_at p (place % 256)) (more-pages (place / 256) pages n)

-- more places, of which nothing is kept
one-more : (list : List Kept) (n : ℕ) → (list ++ replicate n (OfOne false 0 0 0)) ++ OfOne false 0 0 0 ∷ []
    ≡ list ++ replicate (n + 1) (OfOne false 0 0 0)
one-more list n = append_assoc list (replicate n (OfOne false 0 0 0)) (OfOne false 0 0 0 ∷ [])
    ∙ ap (λ (rest : List Kept). list ++ rest) (replicate-append-replicate n 1 (OfOne false 0 0 0))

pub more-places : (pages : List (List Kept)) (count n : ℕ) → HavePages pages count
    → all_in pages (count + n) ≡ all_in pages count ++ replicate n (OfOne false 0 0 0)
more-places pages count zero have =
    let none : count + 0 ≡ count = omega arith in
    ap (λ (k : ℕ). all_in pages k) none ∙ sym (append-nil (all_in pages count))
more-places pages count (suc n) have =
    let places : count + suc n ≡ (count + n) + 1 = omega arith in
    let more : n + 1 ≡ suc n = omega arith in
    ap (λ (k : ℕ). all_in pages k) places
    ∙ map-range_with_len_more (kept_in pages) 0 (count + n) (count + n) (omega arith)
    ∙ ap (λ (k : Kept). all_in pages (count + n) ++ k ∷ []) (have.clear (count + n) (omega arith))
    ∙ ap (λ (list : List Kept). list ++ OfOne false 0 0 0 ∷ []) (more-places pages count n have)
    ∙ one-more (all_in pages count) n
    ∙ ap (λ (k : ℕ). all_in pages count ++ replicate k (OfOne false 0 0 0)) more

pub all-same : (pages pages' : List (List Kept)) (count : ℕ)
    → ((place : ℕ) → kept_in pages' place ≡ kept_in pages place) → all_in pages' count ≡ all_in pages count
all-same pages pages' count same = ext_get_or (OfOne false 0 0 0) (all_in pages' count) (all_in pages count)
    (length-all pages' count ∙ sym (length-all pages count))
    (λ q h. (let below : q < count = omega (arith, h, length-all pages' count) in
    read-all pages' count q below ∙ same q ∙ sym (read-all pages count q below)))

-- a table with `more` places more
pub added : (pages pages' : List (List Kept)) (count more n : ℕ) → HavePages pages count
    → pages' ≡ pages ++ replicate n [] → all_in pages' (count + more)
    ≡ all_in pages count ++ replicate more (OfOne false 0 0 0)
added pages pages' count more n have is =
    ap (λ (p : List (List Kept)). all_in p (count + more)) is
    ∙ all-same pages (pages ++ replicate n []) (count + more) (none-more pages n)
    ∙ more-places pages count more have

pub added-pages : (pages pages' : List (List Kept)) (count total n : ℕ) → HavePages pages count
    → pages' ≡ pages ++ replicate n [] → count ≤ total → total ≤ 256 * length pages' → HavePages pages' total
added-pages pages pages' count total n have is more room = record {
  room = room;
  clear = λ q h. ap (λ (p : List (List Kept)). kept_in p q) is ∙ none-more pages n q
      ∙ have.clear q (omega (arith, h, more));
}

-- there is a page for each place
pub has-page : (pages : List (List Kept)) (count place : ℕ) (all : List Kept) → HavePages pages count
    → all_in pages count ≡ all → place < length all → (place < count) × (place / 256 < length pages)
has-page pages count place all have is h =
    let below : place < count =
    omega (arith, h, length-all pages count, ap (λ (kept : List Kept). length kept) is) in
    (below, omega (arith, below, have.room))

-- what was kept at the other indices of a page, be this set or not
pub others-set : {E : Type 0} (r : Result (Unit {0}) E) (index : ℕ) (kept : Kept) (before after : List Kept)
    → OnOk r (IsSet index kept before after) → OnErr r (after ≡ before) → (i : ℕ) → i ≢ index
    → kept_at after i ≡ kept_at before i
others-set (Ok x) index kept before after ok err i away = ok.others i away
others-set (Err e) index kept before after ok err i away = ap (λ (page : List Kept). kept_at page i) err

-- the same holds for an access that was noted or not
pub others-noted : (b : Bool) (new : Access) (index : ℕ) (before after : List Kept)
    → (b ≡ true → IsNotedByOwner new index before after) → (b ≡ false → after ≡ before) → (i : ℕ) → i ≢ index
    → kept_at after i ≡ kept_at before i
others-noted true new index before after noted kept i away = (noted refl).others i away
others-noted false new index before after noted kept i away = ap (λ (page : List Kept). kept_at page i) (kept refl)

pub on-ok : {T E P Q : Type 0} (r : Result T E) → (P → Q) → OnOk r P → OnOk r Q
on-ok (Ok x) f h = f h
on-ok (Err e) f h = tt

pub on-err : {T E P Q : Type 0} (r : Result T E) → (P → Q) → OnErr r P → OnErr r Q
on-err (Ok x) f h = tt
on-err (Err e) f h = f h

-- what was kept at the other indices, where the page was read by its number
pub page-others : (pages : List (List Kept)) (place : ℕ) (page page' : List Kept) → place / 256 < length pages
    → page ≡ slice_index_or pages (place / 256) page
    → ((i : ℕ) → i ≢ place % 256 → kept_at page' i ≡ kept_at page i)
    → (i : ℕ) → i ≢ place % 256 → kept_at page' i ≡ kept_at (slice_index_or pages (place / 256) []) i
page-others pages place page page' there read others i away =
    others i away
    ∙ ap (λ (p : List Kept). kept_at p i) (read ∙ get_or_default pages (place / 256) page [] there)

-- a page changes at the index of a place: what is kept of all places
module _ (pages : List (List Kept)) (count place : ℕ) (all page page' : List Kept) (have : HavePages pages count)
    (is : all_in pages count ≡ all) (within : place < length all) (read : page ≡ slice_index_or pages (place / 256) page)
    (others : (i : ℕ) → i ≢ place % 256 → kept_at page' i ≡ kept_at page i) where
  has : (place < count) × (place / 256 < length pages)
  has = has-page pages count place all have is within

  away : (i : ℕ) → i ≢ place % 256 → kept_at page' i ≡ kept_at (slice_index_or pages (place / 256) []) i
  away = page-others pages place page page' has.1 read others

  pub table-pages : HavePages (slice_set pages (place / 256) page') count
  table-pages = changed-pages pages place page' has.1 away count has.0 have

  pub table-all : all_in (slice_set pages (place / 256) page') count
      ≡ slice_set all place (kept_at page' (place % 256))
  table-all = changed-all pages place page' has.1 away count has.0
      ∙ ap (λ (kept : List Kept). slice_set kept place (kept_at page' (place % 256))) is

  pub table-there : kept_at (all_in (slice_set pages (place / 256) page') count) place ≡ kept_at page' (place % 256)
  table-there = read-all (slice_set pages (place / 256) page') count place has.0
      ∙ changed-there pages place page' has.1 away

  pub table-was : kept_at all place ≡ kept_at page (place % 256)
  table-was = ap (λ (kept : List Kept). kept_at kept place) (sym is) ∙ read-all pages count place has.0
      ∙ ap (λ (p : List Kept). kept_at p (place % 256))
      (sym (read ∙ get_or_default pages (place / 256) page [] has.1))

  pub table-set : {E : Type 0} (r : Result (Unit {0}) E) (kept : Kept) → OnOk r (IsSet (place % 256) kept page page')
      → OnOk r (all_in (slice_set pages (place / 256) page') count ≡ slice_set all place kept)
  table-set (Ok x) kept ok = table-all ∙ ap (λ (k : Kept). slice_set all place k) ok.set
  table-set (Err e) kept ok = tt

  pub table-noted : (new : Access) → IsNotedByOwner new (place % 256) page page'
      → IsNotedOnly new place all (all_in (slice_set pages (place / 256) page') count)
  table-noted new by = record {
    noted = λ clock. subst (λ (k : Kept). IsNotedBriefly clock new k
        (kept_at (all_in (slice_set pages (place / 256) page') count) place)) (sym table-was)
        (subst (λ (k : Kept). IsNotedBriefly clock new (kept_at page (place % 256)) k) (sym table-there)
        (by.noted clock));
    only = table-all ∙ ap (λ (k : Kept). slice_set all place k) (sym table-there);
  }

-- a page stays: what is kept of all places
pub table-same : (pages : List (List Kept)) (count place : ℕ) (all page page' : List Kept)
    → all_in pages count ≡ all → page ≡ slice_index_or pages (place / 256) page → page' ≡ page
    → all_in (slice_set pages (place / 256) page') count ≡ all
table-same pages count place all page page' is read same =
    ap (λ (p : List (List Kept)). all_in p count)
    (ap (λ (p : List Kept). slice_set pages (place / 256) p) (same ∙ read) ∙ set-get_or pages (place / 256) page)
    ∙ is

-- an access was noted at an index of a page
pub noted-at : (kept now : List Kept) (index : ℕ) (old new : Kept) (access : Access) → kept ≡ now
    → index < length kept → old ≡ slice_index_or kept index old
    → ((clock : List ℕ) → IsNotedBriefly clock access old new)
    → IsNotedByOwner access index now (slice_set kept index new)
noted-at kept now index old new access is within read noted = record {
  noted = λ clock. subst (λ (k : Kept). IsNotedBriefly clock access k (kept_at (slice_set kept index new) index))
      (read ∙ get_or_default kept index old (OfOne false 0 0 0) within
      ∙ ap (λ (list : List Kept). kept_at list index) is)
      (subst (λ (k : Kept). IsNotedBriefly clock access old k)
      (sym (get_or-set_same kept index new (OfOne false 0 0 0) within)) (noted clock));
  others = λ i away. get_or-set_other kept index i new (OfOne false 0 0 0) away
      ∙ ap (λ (list : List Kept). kept_at list i) is;
}
