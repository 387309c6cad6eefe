-- Processes that are found by the fingerprints of their names.
use Rattle.std.proofs.Common.{◌≡◌, ◌<◌, ◌≤◌, ℕ, zero, suc, refl, sym, ap, ◌∙◌, subst, Bool, true, false, cond}
use Rattle.std.proofs.Common.{List, [], ◌∷◌, ◌++◌, length, length-append, Option, Some, None, ◌⊎◌, inl, inr, arith, get_or}
use Rattle.std.specs.Prelude.{nat_eq, option_map, slice_get, slice_set}
use Rattle.std.specs.Option.{option_map_or}
use Rattle.std.proofs.lemmas.Bool.{cases_eq, eqb-true, eq-eqb}
use Rattle.std.proofs.lemmas.List.{length-map, map-append}
use Rattle.std.proofs.lemmas.Option.{same_Some, slice_get_read, slice_get_within, slice_get-map}
use Rattle.tprocesses.specs.Places.{Name}
use Rattle.tcertify.specs.declared.process.Process.{Process}
use Rattle.tcertify.specs.Finding.{AreApart}
use Rattle.tcertify.specs.Fingerprints.{AreIndexed, IsLatest, fingerprint, fingerprints}
use Rattle.tcertify.specs.Processes.{name_of}
use Rattle.tcertify.proofs.Found.{map_set}
use Rattle.tcertify.proofs.Keeping.{get_before, get_pushed}
use Rattle.tcertify.proofs.Places.{set_elsewhere, set_here}

-- one that has come is the last, and the others were there
pushed_cases : {X : Type 0} (xs : List X) (x y : X) (j : ℕ) → slice_get (xs ++ x ∷ []) j ≡ Some y
    → (slice_get xs j ≡ Some y) ⊎ ((j ≡ length xs) × (x ≡ y))
pushed_cases [] x y zero e = inr (refl, same_Some x y e)
pushed_cases [] x y (suc j) e = cc
pushed_cases (z ∷ zs) x y zero e = inl e
pushed_cases (z ∷ zs) x y (suc j) e =
    elim (pushed_cases zs x y j e) [ inl h ↦ inl h | inr (last, same) ↦ inr (ap suc last, same) ]

there_before : {X : Type 0} (xs : List X) (x y : X) (j : ℕ) → slice_get (xs ++ x ∷ []) j ≡ Some y → j < length xs
    → slice_get xs j ≡ Some y
there_before xs x y j at low =
    elim (pushed_cases xs x y j at) [ inl h ↦ h | inr (last, same) ↦ absurd (omega arith) ]

-- the latest one, by what is equal
latest_at : (prints : List ℕ) (n m p q : ℕ) (o r : Option ℕ) → n ≡ m → p ≡ q → o ≡ r → IsLatest prints n p o
    → IsLatest prints m q r
latest_at prints n m p q o r en ep eo h =
    subst (λ (k : ℕ). IsLatest prints k q r) en
    (subst (λ (k : ℕ). IsLatest prints n k r) ep (subst (IsLatest prints n p) eo h))

module _ (prints : List ℕ) (more : ℕ) where
  -- the latest ones before a number stay so where one more comes
  stays_latest : (n print : ℕ) (o : Option ℕ) → n ≤ length prints → IsLatest prints n print o
      → IsLatest (prints ++ more ∷ []) n print o
  stays_latest n print o low h =
      record {
        below = h.below;
        there = λ k e. get_before prints (more ∷ []) k print (h.there k e);
        none = λ j lt at e. h.none j lt (there_before prints more print j at (omega arith)) e;
        last = λ j k lt at e. h.last j k lt (there_before prints more print j at (omega arith)) e;
      }

  -- so it does where the one that comes has another fingerprint
  other_comes : (print : ℕ) (o : Option ℕ) → (more ≡ print → ⊥) → IsLatest prints (length prints) print o
      → IsLatest (prints ++ more ∷ []) (length (prints ++ more ∷ [])) print o
  other_comes print o ne h =
      record {
        below = λ k e. let low = h.below k e in omega (arith, length-append prints (more ∷ []));
        there = λ k e. get_before prints (more ∷ []) k print (h.there k e);
        none = λ j lt at e. let old = before j at in h.none j (slice_get_within prints j print old) old e;
        last = λ j k lt at e. let old = before j at in h.last j k (slice_get_within prints j print old) old e;
      }
    where
      before : (j : ℕ) → slice_get (prints ++ more ∷ []) j ≡ Some print → slice_get prints j ≡ Some print
      before j at = elim (pushed_cases prints more print j at) [ inl h ↦ h | inr (last, same) ↦ absurd (ne same) ]

  -- the one that comes is the latest
  comes_latest : (o : Option ℕ) → o ≡ Some (length prints)
      → IsLatest (prints ++ more ∷ []) (length (prints ++ more ∷ [])) more o
  comes_latest o is =
      record {
        below = λ k e. let same = same_Some _ _ (sym is ∙ e) in omega (arith, length-append prints (more ∷ []));
        there = λ k e.
            ap (slice_get (prints ++ more ∷ [])) (sym (same_Some (length prints) k (sym is ∙ e)))
            ∙ get_pushed prints more;
        none = λ j lt at e. cc;
        last = λ j k lt at e.
            let same = same_Some (length prints) k (sym is ∙ e) in
            omega (arith, length-append prints (more ∷ []));
      }

  -- processes stay indexed where one more comes
  indexed_push : (latest after : ℕ → Option ℕ) (earlier : List (Option ℕ)) → AreIndexed prints latest earlier
      → ((print : ℕ) → after print ≡ cond (nat_eq more print) (Some (length prints)) (latest print))
      → AreIndexed (prints ++ more ∷ []) after (earlier ++ latest more ∷ [])
  indexed_push latest after earlier h set =
      record {
        each = omega (arith, h.each, length-append prints (more ∷ []), length-append earlier (latest more ∷ []));
        all = λ print. by print (nat_eq more print) refl;
        before = λ k print o at is.
            elim (pushed_cases earlier (latest more) o k at) [
              | inl old ↦
                  let low = slice_get_within earlier k o old in
                  let short : k < length prints = omega (arith, h.each) in
                  stays_latest k print o (omega arith) (h.before k print o old (there_before prints more print k is short))
              | inr (last, same) ↦
                  let end : k ≡ length prints = omega (arith, h.each) in
                  latest_at (prints ++ more ∷ []) (length prints) k more print (latest more) o (sym end)
                  (named k print end is) same
                  (stays_latest (length prints) more (latest more) (omega arith) (h.all more))
            ];
      }
    where
      named : (k print : ℕ) → k ≡ length prints → slice_get (prints ++ more ∷ []) k ≡ Some print → more ≡ print
      named k print end is =
          elim (pushed_cases prints more print k is) [
            | inl h ↦ absurd (let low = slice_get_within prints k print h in omega arith)
            | inr (last, same) ↦ same
          ]

      by : (print : ℕ) (b : Bool) → nat_eq more print ≡ b
          → IsLatest (prints ++ more ∷ []) (length (prints ++ more ∷ [])) print (after print)
      by print true e =
          subst (λ (p : ℕ). IsLatest (prints ++ more ∷ []) (length (prints ++ more ∷ [])) p (after print))
          (eqb-true more print e)
          (comes_latest (after print) (set print ∙ ap (λ (b : Bool). cond b (Some (length prints)) (latest print)) e))
      by print false e =
          subst (IsLatest (prints ++ more ∷ []) (length (prints ++ more ∷ [])) print)
          (sym (set print ∙ ap (λ (b : Bool). cond b (Some (length prints)) (latest print)) e))
          (other_comes print (latest print) (λ same. cc (e, eq-eqb more print same)) (h.all print))

-- the fingerprints of processes as those of their names
print_at : (ps : List Process) (k : ℕ) (p : Process) → slice_get ps k ≡ Some p
    → slice_get (fingerprints ps) k ≡ Some (fingerprint (name_of 0 p))
print_at ps k p there =
    slice_get-map (λ (q : Process). fingerprint (name_of 0 q)) ps k
    ∙ ap (option_map (λ (q : Process). fingerprint (name_of 0 q))) there

-- as many as there are processes
count_prints : (ps : List Process) → length (fingerprints ps) ≡ length ps
count_prints ps = length-map ps (λ (q : Process). fingerprint (name_of 0 q))

-- the next process that may have a name: each one that has it comes no later
pub record IsNext (ps : List Process) (name : Name) (next : Option ℕ) : Type 0 where
  pub there : (k : ℕ) → next ≡ Some k → slice_get (fingerprints ps) k ≡ Some (fingerprint name)
  pub none : (j : ℕ) (x : Process) → slice_get ps j ≡ Some x → name_of 0 x ≡ name → next ≡ None → ⊥
  pub last : (j k : ℕ) (x : Process) → slice_get ps j ≡ Some x → name_of 0 x ≡ name → next ≡ Some k → j ≤ k

named_print : (ps : List Process) (name : Name) (j : ℕ) (x : Process) → slice_get ps j ≡ Some x → name_of 0 x ≡ name
    → slice_get (fingerprints ps) j ≡ Some (fingerprint name)
named_print ps name j x there same = print_at ps j x there ∙ ap (λ (y : Name). Some (fingerprint y)) same

-- the first one
pub first_next : (ps : List Process) (latest : ℕ → Option ℕ) (earlier : List (Option ℕ)) (name : Name)
    → AreIndexed (fingerprints ps) latest earlier → IsNext ps name (latest (fingerprint name))
first_next ps latest earlier name indexed =
    let h = indexed.all (fingerprint name) in
    record {
      there = h.there;
      none = λ j x there same e. h.none j (low j x there) (named_print ps name j x there same) e;
      last = λ j k x there same e. h.last j k (low j x there) (named_print ps name j x there same) e;
    }
  where
    low : (j : ℕ) (x : Process) → slice_get ps j ≡ Some x → j < length (fingerprints ps)
    low j x there = let inside = slice_get_within ps j x there in omega (arith, count_prints ps)

-- it is there
pub next_inside : (ps : List Process) (name : Name) (next : Option ℕ) (k : ℕ) → IsNext ps name next → next ≡ Some k
    → k < length ps
next_inside ps name next k h is =
    let low = slice_get_within (fingerprints ps) k (fingerprint name) (h.there k is) in omega (arith, count_prints ps)

-- the one behind it is there too
pub behind_inside : (ps : List Process) (latest : ℕ → Option ℕ) (earlier : List (Option ℕ)) (name : Name)
    (next : Option ℕ) (k : ℕ) → AreIndexed (fingerprints ps) latest earlier → IsNext ps name next → next ≡ Some k
    → k < length earlier
behind_inside ps latest earlier name next k indexed h is =
    let low = next_inside ps name next k h is in omega (arith, indexed.each, count_prints ps)

module _ (ps : List Process) (latest : ℕ → Option ℕ) (earlier : List (Option ℕ)) (name : Name) (next : Option ℕ)
    (k : ℕ) (o : Option ℕ) (indexed : AreIndexed (fingerprints ps) latest earlier) (h : IsNext ps name next)
    (is : next ≡ Some k) (at : o ≡ get_or earlier k o) where
  behind : IsLatest (fingerprints ps) k (fingerprint name) o
  behind =
      indexed.before k (fingerprint name) o
      (slice_get_read earlier (length earlier) k o refl (behind_inside ps latest earlier name next k indexed h is) at)
      (h.there k is)

  -- it comes before
  pub behind_falls : option_map_or suc o 0 < option_map_or suc next 0
  behind_falls = subst (λ (r : Option ℕ). option_map_or suc o 0 < option_map_or suc r 0) (sym is) (by o refl)
    where
      by : (r : Option ℕ) → o ≡ r → option_map_or suc r 0 < suc k
      by None e = omega arith
      by (Some m) e = let low = behind.below m e in omega arith

  -- it is next, if this one has not the name
  pub behind_next : (p : Process) → p ≡ get_or ps k p → (name_of 0 p ≡ name → ⊥) → IsNext ps name o
  behind_next p there other =
      record {
        there = behind.there;
        none = λ j x at same e. behind.none j (low j x at same) (named_print ps name j x at same) e;
        last = λ j l x at same e. behind.last j l (low j x at same) (named_print ps name j x at same) e;
      }
    where
      this : slice_get ps k ≡ Some p
      this = slice_get_read ps (length ps) k p refl (next_inside ps name next k h is) there

      low : (j : ℕ) (x : Process) → slice_get ps j ≡ Some x → name_of 0 x ≡ name → j < k
      low j x at same =
          let most = h.last j k x at same is in
          elim (cases_eq j k) [
            | inl e ↦ absurd (other
                (ap (name_of 0) (same_Some p x (sym this ∙ ap (slice_get ps) (sym e) ∙ at)) ∙ same))
            | inr ne ↦ omega (arith, most, ne)
          ]

-- processes stay apart where one is set under its own name
pub apart_set : (ps : List Process) (k : ℕ) (p q : Process) → slice_get ps k ≡ Some p → name_of 0 q ≡ name_of 0 p
    → AreApart (name_of 0) ps → AreApart (name_of 0) (slice_set ps k q)
apart_set ps k p q there same apart =
    λ i j x y at-i at-j e.
    let (v, before-i, alike) = before i x at-i in let (w, before-j, likewise) = before j y at-j in
    apart i j v w before-i before-j (alike ∙ e ∙ sym likewise)
  where
    before : (i : ℕ) (x : Process) → slice_get (slice_set ps k q) i ≡ Some x
        → (v : Process) × (slice_get ps i ≡ Some v) × (name_of 0 v ≡ name_of 0 x)
    before i x at =
        elim (cases_eq k i) [
          | inl e ↦ (
            p,
            ap (slice_get ps) (sym e) ∙ there,
            sym same ∙ ap (name_of 0)
                (same_Some q x (sym (set_here ps k q p there) ∙ ap (slice_get (slice_set ps k q)) e ∙ at)),
          )
          | inr ne ↦ (x, sym (set_elsewhere ps k i q ne) ∙ at, refl)
        ]

-- they stay indexed too
pub indexed_set : (ps : List Process) (k : ℕ) (p q : Process) (latest : ℕ → Option ℕ) (earlier : List (Option ℕ))
    → slice_get ps k ≡ Some p → name_of 0 q ≡ name_of 0 p → AreIndexed (fingerprints ps) latest earlier
    → AreIndexed (fingerprints (slice_set ps k q)) latest earlier
indexed_set ps k p q latest earlier there same h =
    subst (λ (prints : List ℕ). AreIndexed prints latest earlier)
    (sym (map_set (λ (r : Process). fingerprint (name_of 0 r)) ps k p q there (ap fingerprint same))) h

-- processes stay indexed where one more comes
pub indexed_more : (ps qs : List Process) (p : Process) (latest after : ℕ → Option ℕ) (earlier late : List (Option ℕ))
    → AreIndexed (fingerprints ps) latest earlier → qs ≡ ps ++ p ∷ []
    → late ≡ earlier ++ latest (fingerprint (name_of 0 p)) ∷ []
    → ((print : ℕ) → after print
    ≡ cond (nat_eq (fingerprint (name_of 0 p)) print) (Some (length ps)) (latest print))
    → AreIndexed (fingerprints qs) after late
indexed_more ps qs p latest after earlier late h eq el set =
    let print = fingerprint (name_of 0 p) in
    let prints : fingerprints qs ≡ fingerprints ps ++ print ∷ [] =
    ap fingerprints eq ∙ map-append (λ (q : Process). fingerprint (name_of 0 q)) ps (p ∷ []) in
    subst (λ (xs : List ℕ). AreIndexed xs after late) (sym prints)
    (subst (AreIndexed (fingerprints ps ++ print ∷ []) after) (sym el)
    (indexed_push (fingerprints ps) print latest after earlier h
    (λ q. set q ∙ ap (λ (n : ℕ). cond (nat_eq print q) (Some n) (latest q)) (sym (count_prints ps)))))
