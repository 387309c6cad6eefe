-- Circles are just the shortest closed paths.
use Rattle.std.proofs.Common.{◌≡◌, ℕ, zero, suc, ◌+◌, ◌-◌, ◌<◌, ◌≤◌, ◌⊎◌, inl, inr, refl, sym, ap, ◌∙◌, subst, arith}
use Rattle.std.proofs.Common.{List, [], ◌∷◌, length, Bool, true, false, Option, Some, None, unwrap_or}
use Rattle.std.specs.Prelude.{◌&&◌, ◌||◌, ◌==◌, filter, option_map, IsSome}
use Rattle.std.specs.List.{AllByRecursion, IsDistinct, find, list_any, range_with_len}
use Rattle.std.proofs.lemmas.Bool.{and_from, and_parts, cases_eq, cases_lt, eq-eqb, eqb-false, eqb-true, ne_eqb}
use Rattle.std.proofs.lemmas.Bool.{or_cases, or_left, or_parts, or_right, true≢false}
use Rattle.std.proofs.lemmas.Map.Keys.{IsDistinct-cons}
use Rattle.std.proofs.lemmas.Map.Steps.{length-le_from_distinct_below}
use Rattle.tproc.proofs.Occurs.{found}
use Rattle.twhere.specs.Circles.{circle, circle_size, comes_round, first_of, is_among, leading, numbers_from, way}
use Rattle.twhere.specs.ClosedPaths.{CirclesAreClosed, CirclesAreShortest, HasEachCircle, IsClosed, IsPath}

-- ---- lists

-- the numbers from one on
among_range : (first len k : ℕ) → is_among (range_with_len first len) k ≡ true → (first ≤ k) × (k < first + len)
among_range first zero k h = cc
among_range first (suc len) k h = by (among_range (first + 1) len k) (or_cases (first == k) _ h)
  where
    by : (is_among (range_with_len (first + 1) len) k ≡ true → (first + 1 ≤ k) × (k < first + 1 + len))
        → ((first == k) ≡ true) ⊎ (is_among (range_with_len (first + 1) len) k ≡ true)
        → (first ≤ k) × (k < first + suc len)
    by rest (inl e) = let same : first ≡ k = eqb-true first k e in (omega (arith, same), omega (arith, same))
    by rest (inr e) = let b = rest e in (omega (arith, b.0), omega (arith, b.1))

range_among : (first len k : ℕ) → first ≤ k → k < first + len → is_among (range_with_len first len) k ≡ true
range_among first zero k l m = absurd (omega (arith, l, m))
range_among first (suc len) k l m = by (range_among (first + 1) len k) (cases_eq first k)
  where
    by : (first + 1 ≤ k → k < first + 1 + len → is_among (range_with_len (first + 1) len) k ≡ true)
        → (first ≡ k) ⊎ (first ≡ k → ⊥) → is_among (range_with_len first (suc len)) k ≡ true
    by rest (inl e) = or_left (first == k) (is_among (range_with_len (first + 1) len) k) (eq-eqb first k e)
    by rest (inr other) =
        or_right (first == k) (is_among (range_with_len (first + 1) len) k)
        (rest (omega (arith, l, other)) (omega (arith, m)))

-- those that pass a test
among_filter : (p : ℕ → Bool) (xs : List ℕ) (k : ℕ) → is_among (filter p xs) k ≡ true
    → (is_among xs k ≡ true) × (p k ≡ true)
among_filter p [] k h = cc
among_filter p (x ∷ xs) k h = by (among_filter p xs k) (p x) refl h
  where
    first_or : p x ≡ true → (is_among (filter p xs) k ≡ true → (is_among xs k ≡ true) × (p k ≡ true))
        → ((x == k) ≡ true) ⊎ (is_among (filter p xs) k ≡ true) → (is_among (x ∷ xs) k ≡ true) × (p k ≡ true)
    first_or e rest (inl f) =
        (or_left (x == k) (is_among xs k) f, subst (λ (n : ℕ). p n ≡ true) (eqb-true x k f) e)
    first_or e rest (inr f) = (or_right (x == k) (is_among xs k) (rest f).0, (rest f).1)

    by : (is_among (filter p xs) k ≡ true → (is_among xs k ≡ true) × (p k ≡ true)) → (b : Bool) → p x ≡ b
        → is_among (filter p (x ∷ xs)) k ≡ true → (is_among (x ∷ xs) k ≡ true) × (p k ≡ true)
    by rest true e g = first_or e rest (or_cases (x == k) (is_among (filter p xs) k) (rw e at g))
    by rest false e g = let f = rest (rw e at g) in (or_right (x == k) (is_among xs k) f.0, f.1)

filter_among : (p : ℕ → Bool) (xs : List ℕ) (k : ℕ) → is_among xs k ≡ true → p k ≡ true
    → is_among (filter p xs) k ≡ true
filter_among p [] k h passes = h
filter_among p (x ∷ xs) k h passes =
    by (λ f. filter_among p xs k f passes) (p x) refl (or_cases (x == k) (is_among xs k) h)
  where
    by : (is_among xs k ≡ true → is_among (filter p xs) k ≡ true) → (b : Bool) → p x ≡ b
        → ((x == k) ≡ true) ⊎ (is_among xs k ≡ true) → is_among (filter p (x ∷ xs)) k ≡ true
    by rest true e (inl f) = rw e (or_left (x == k) (is_among (filter p xs) k) f)
    by rest true e (inr f) = rw e (or_right (x == k) (is_among (filter p xs) k) (rest f))
    by rest false e (inl f) =
        let wrong : true ≡ false = sym passes ∙ ap p (sym (eqb-true x k f)) ∙ e in cc
    by rest false e (inr f) = rw e (rest f)

-- the first that passes a test, if there is one
record IsFound (p : ℕ → Bool) (xs : List ℕ) : Type 0 where
  one : ℕ
  is : find p xs ≡ Some one
  passes : p one ≡ true

is_found : (p : ℕ → Bool) (xs : List ℕ) (k : ℕ) → is_among xs k ≡ true → p k ≡ true → IsFound p xs
is_found p [] k h passes = cc
is_found p (x ∷ xs) k h passes =
    by (λ f. is_found p xs k f passes) (p x) refl (or_cases (x == k) (is_among xs k) h)
  where
    later : p x ≡ false → IsFound p xs → IsFound p (x ∷ xs)
    later e f = record { one = f.one; is = rw e f.is; passes = f.passes }

    by : (is_among xs k ≡ true → IsFound p xs) → (b : Bool) → p x ≡ b
        → ((x == k) ≡ true) ⊎ (is_among xs k ≡ true) → IsFound p (x ∷ xs)
    by rest true e _ = record { one = x; is = rw e refl; passes = e }
    by rest false e (inl f) =
        let wrong : true ≡ false = sym passes ∙ ap p (sym (eqb-true x k f)) ∙ e in absurd (true≢false wrong)
    by rest false e (inr f) = later e (rest f)

-- the first number that passes a test
record IsFirst (p : ℕ → Bool) (first len k : ℕ) : Type 0 where
  passes : p k ≡ true
  from : first ≤ k
  below : k < first + len
  none : (j : ℕ) → first ≤ j → j < k → p j ≡ false

is_first : (p : ℕ → Bool) (first len k : ℕ) → find p (range_with_len first len) ≡ Some k → IsFirst p first len k
is_first p first zero k h = cc
is_first p first (suc len) k h = by (is_first p (first + 1) len k) (p first) refl
  where
    later : p first ≡ false → IsFirst p (first + 1) len k → IsFirst p first (suc len) k
    later e f =
        record {
          passes = f.passes;
          from = omega (arith, f.from);
          below = omega (arith, f.below);
          none = λ j l m. among j l m (cases_eq first j);
        }
      where
        among : (j : ℕ) → first ≤ j → j < k → (first ≡ j) ⊎ (first ≡ j → ⊥) → p j ≡ false
        among j l m (inl same) = subst (λ (n : ℕ). p n ≡ false) same e
        among j l m (inr other) = f.none j (omega (arith, l, other)) m

    here : p first ≡ true → first ≡ k → IsFirst p first (suc len) k
    here e same =
        record {
          passes = subst (λ (n : ℕ). p n ≡ true) same e;
          from = omega (arith, same);
          below = omega (arith, same);
          none = λ j l m. absurd (omega (arith, same, l, m));
        }

    by : (find p (range_with_len (first + 1) len) ≡ Some k → IsFirst p (first + 1) len k) → (b : Bool) → p first ≡ b
        → IsFirst p first (suc len) k
    by rest true e = let same : Some first ≡ Some k = rw e at h in here e (cc)
    by rest false e = later e (rest (rw e at h))

-- ---- paths

-- each of a list stands there once
abbrev IsOnce : List ℕ → Type 0
IsOnce [] = Unit {0}
IsOnce (x ∷ xs) = (is_among xs x ≡ false) × IsOnce xs

others : (x : ℕ) (xs : List ℕ) → is_among xs x ≡ false → AllByRecursion (λ y. (x == y) ≡ false) xs
others x [] h = tt
others x (y ∷ ys) h =
    let parts = or_parts (y == x) (is_among ys x) h in
    (ne_eqb x y (λ e. eqb-false y x parts.0 (sym e)), others x ys parts.1)

distinct : (xs : List ℕ) → IsOnce xs → IsDistinct (λ x y. x == y) xs
unfolding IsDistinct
distinct [] h = tt
distinct (x ∷ xs) h = (others x xs h.0, distinct xs h.1)

-- the other way round
mirrored : (q : ℕ) (xs : List ℕ) → list_any (λ x. q == x) xs ≡ true → is_among xs q ≡ true
mirrored q [] e = e
mirrored q (x ∷ xs) e = by (mirrored q xs) (or_cases (q == x) (list_any (λ y. q == y) xs) e)
  where
    by : (list_any (λ y. q == y) xs ≡ true → is_among xs q ≡ true)
        → ((q == x) ≡ true) ⊎ (list_any (λ y. q == y) xs ≡ true) → is_among (x ∷ xs) q ≡ true
    by rest (inl f) = or_left (x == q) (is_among xs q) (eq-eqb x q (sym (eqb-true q x f)))
    by rest (inr f) = or_right (x == q) (is_among xs q) (rest f)

module _ (count : ℕ) (waits : ℕ → ℕ → Bool) (n : ℕ) (there : n < count) where
  -- those from which steps lead to the lowest are not below it
  leading_within : (k a : ℕ) → is_among (leading count waits n k) a ≡ true → (n ≤ a) × (a < count)
  leading_within zero a h = by (or_cases (n == a) false h)
    where
      by : ((n == a) ≡ true) ⊎ (false ≡ true) → (n ≤ a) × (a < count)
      by (inl e) = let same : n ≡ a = eqb-true n a e in (omega (arith, same), omega (arith, same, there))
      by (inr e) = cc
  leading_within (suc k) a h =
      let b = among_range n (count - n) a
      (among_filter (λ x. list_any (waits x) (leading count waits n k)) (numbers_from n count) a h).0 in
      (b.0, omega (arith, b.1, there))

  -- one of some nodes, for which another waits
  one_of : (a : ℕ) (xs : List ℕ) → list_any (waits a) xs ≡ true
      → (c : ℕ) × (is_among xs c ≡ true) × (waits a c ≡ true)
  one_of a [] e = cc
  one_of a (x ∷ xs) e = by (one_of a xs) (or_cases (waits a x) (list_any (waits a) xs) e)
    where
      by : (list_any (waits a) xs ≡ true → (c : ℕ) × (is_among xs c ≡ true) × (waits a c ≡ true))
          → (waits a x ≡ true) ⊎ (list_any (waits a) xs ≡ true)
          → (c : ℕ) × (is_among (x ∷ xs) c ≡ true) × (waits a c ≡ true)
      by rest (inl f) = (x, or_left (x == x) (is_among xs x) (eq-eqb x x refl), f)
      by rest (inr f) = let r = rest f in (r.0, or_right (x == r.0) (is_among xs r.0) r.1, r.2)

  -- a way is a path
  record IsWay (k a : ℕ) : Type 0 where
    path : IsPath count waits n a (way count waits n k a) n
    size : length (way count waits n k a) ≡ k

  way_leads : (k a : ℕ) → is_among (leading count waits n k) a ≡ true → IsWay k a
  way_leads zero a h = by (or_cases (n == a) false h)
    where
      by : ((n == a) ≡ true) ⊎ (false ≡ true) → IsWay zero a
      by (inl e) = record { path = sym (eqb-true n a e); size = refl }
      by (inr e) = cc
  way_leads (suc k) a h = next (way_leads k) (one_of a (leading count waits n k) step)
    where
      step : list_any (waits a) (leading count waits n k) ≡ true
      step = (among_filter (λ x. list_any (waits x) (leading count waits n k)) (numbers_from n count) a h).1

      on : ((b : ℕ) → is_among (leading count waits n k) b ≡ true → IsWay k b) → (b : ℕ)
          → first_of count waits n a (leading count waits n k) ≡ b
          → (waits a b && is_among (leading count waits n k) b) ≡ true → IsWay (suc k) a
      on leads b is passes =
          let both = and_parts (waits a b) (is_among (leading count waits n k) b) passes in
          let at = leading_within k b both.1 in
          let rest = leads b both.1 in
          record {
            path = rw is ((both.0, at.0, at.1, rest.path));
            size = rw is (omega (arith, rest.size));
          }

      next : ((b : ℕ) → is_among (leading count waits n k) b ≡ true → IsWay k b)
          → (c : ℕ) × (is_among (leading count waits n k) c ≡ true) × (waits a c ≡ true) → IsWay (suc k) a
      next leads c =
          let within = leading_within k c.0 c.1 in
          let f : IsFound (λ x. waits a x && is_among (leading count waits n k) x) (numbers_from n count) =
          is_found (λ x. waits a x && is_among (leading count waits n k) x) (numbers_from n count) c.0
          (range_among n (count - n) c.0 within.0 (omega (arith, within.1, there)))
          (and_from (waits a c.0) (is_among (leading count waits n k) c.0) c.2 c.1) in
          on leads f.one (ap (λ (o : Option ℕ). unwrap_or o n) f.is) f.passes

  -- and where a path leads to the lowest, it begins at one of them
  path_leads : (xs : List ℕ) (a : ℕ) → n ≤ a → a < count → IsPath count waits n a xs n
      → is_among (leading count waits n (length xs)) a ≡ true
  path_leads [] a l m h = or_left (n == a) false (eq-eqb n a (sym h))
  path_leads (x ∷ xs) a l m h =
      filter_among (λ y. list_any (waits y) (leading count waits n (length xs))) (numbers_from n count) a
      (range_among n (count - n) a l (omega (arith, m, there)))
      (found (waits a) x (leading count waits n (length xs)) h.0 (path_leads xs x h.1 h.2 h.3))

  -- the nodes of a path are below the count
  path_below : (xs : List ℕ) (a q : ℕ) → IsPath count waits n a xs n → is_among xs q ≡ true → q < count
  path_below [] a q h e = cc
  path_below (x ∷ xs) a q h e = by (path_below xs x q h.3) (or_cases (x == q) (is_among xs q) e)
    where
      by : (is_among xs q ≡ true → q < count) → ((x == q) ≡ true) ⊎ (is_among xs q ≡ true) → q < count
      by rest (inl f) = subst (λ (k : ℕ). k < count) (eqb-true x q f) h.2
      by rest (inr f) = rest f

  -- a path that comes to each of its nodes once
  record IsDirect (from : ℕ) (nodes : List ℕ) : Type 0 where
    path : IsPath count waits n from nodes n
    once : IsOnce nodes

  -- the part of it behind one of them
  part_behind : (x from : ℕ) (nodes : List ℕ) → IsDirect from nodes → is_among nodes x ≡ true
      → (rest : List ℕ) × (IsPath count waits n x rest n) × IsOnce (x ∷ rest)
  part_behind x from [] d h = cc
  part_behind x from (y ∷ ys) d h =
      by (part_behind x y ys (record { path = d.path.3; once = d.once.1 })) (or_cases (y == x) (is_among ys x) h)
    where
      by : (is_among ys x ≡ true → (rest : List ℕ) × (IsPath count waits n x rest n) × IsOnce (x ∷ rest))
          → ((y == x) ≡ true) ⊎ (is_among ys x ≡ true)
          → (rest : List ℕ) × (IsPath count waits n x rest n) × IsOnce (x ∷ rest)
      by part (inl e) =
          let same : y ≡ x = eqb-true y x e in (
            ys,
            subst (λ (k : ℕ). IsPath count waits n k ys n) same d.path.3,
            subst (λ (k : ℕ). IsOnce (k ∷ ys)) same d.once,
          )
      by part (inr e) = part e

  -- a path without its detours
  record HasDirect (from : ℕ) (nodes : List ℕ) : Type 0 where
    short : List ℕ
    direct : IsDirect from short
    some : 0 < length nodes → 0 < length short

  shortened : (nodes : List ℕ) (from : ℕ) → IsPath count waits n from nodes n → HasDirect from nodes
  shortened [] from h = record { short = []; direct = record { path = h; once = tt }; some = λ l. l }
  shortened (x ∷ xs) from h = by (shortened xs x h.3)
    where
      by : HasDirect x xs → HasDirect from (x ∷ xs)
      by d = either (is_among d.short x) refl
        where
          either : (b : Bool) → is_among d.short x ≡ b → HasDirect from (x ∷ xs)
          either true e =
              let rest = part_behind x x d.short d.direct e in
              record {
                short = x ∷ rest.0;
                direct = record { path = (h.0, h.1, h.2, rest.1); once = rest.2 };
                some = λ l. omega arith;
              }
          either false e =
              record {
                short = x ∷ d.short;
                direct = record { path = (h.0, h.1, h.2, d.direct.path); once = (e, d.direct.once) };
                some = λ l. omega arith;
              }

  -- a closed path is found by as many steps as there are nodes
  round_of : (behind : List ℕ) → IsClosed count waits n behind
      → comes_round count waits n (length behind) ≡ true
  round_of behind closed = path_leads behind n (omega arith) there closed.path

  size_found : (k : ℕ) → 0 < k → k ≤ count → comes_round count waits n k ≡ true
      → IsFound (comes_round count waits n) (numbers_from 1 (suc count))
  size_found k l m round =
      is_found (comes_round count waits n) (numbers_from 1 (suc count)) k
      (range_among 1 (suc count - 1) k (omega (arith, l)) (omega (arith, m))) round

  some_size : (behind : List ℕ) → IsClosed count waits n behind
      → IsFound (comes_round count waits n) (numbers_from 1 (suc count))
  some_size behind closed =
      let d : HasDirect n behind = shortened behind n closed.path in
      let few : length d.short ≤ count =
      length-le_from_distinct_below d.short count (distinct d.short d.direct.once)
      (λ q e. path_below d.short n q d.direct.path (mirrored q d.short e)) in
      size_found (length d.short) (d.some closed.some) few
      (path_leads d.short n (omega arith) there d.direct.path)

  -- the size of a circle that is told
  record IsSized (behind : List ℕ) : Type 0 where
    steps : ℕ
    first : IsFirst (comes_round count waits n) 1 (suc count - 1) steps
    is : way count waits n steps n ≡ behind

  sized : (behind : List ℕ) (size : Option ℕ) → circle_size count waits n ≡ size
      → option_map (λ k. way count waits n k n) size ≡ Some behind → IsSized behind
  sized behind None h e = cc
  sized behind (Some k) h e =
      record {
        steps = k;
        first = is_first (comes_round count waits n) 1 (suc count - 1) k h;
        is = (cc);
      }

  closed_circle : (behind : List ℕ) → IsSized behind → IsClosed count waits n behind
  closed_circle behind s =
      let w : IsWay s.steps n = way_leads s.steps n s.first.passes in
      record {
        some = omega (arith, s.first.from, w.size, ap length s.is);
        path = subst (λ (xs : List ℕ). IsPath count waits n n xs n) s.is w.path;
      }

  least_circle : (behind other : List ℕ) → IsSized behind → IsClosed count waits n other → length behind ≤ length other
  least_circle behind other s closed = by (cases_lt (length other) s.steps)
    where
      w : IsWay s.steps n
      w = way_leads s.steps n s.first.passes

      by : (length other < s.steps) ⊎ (s.steps ≤ length other) → length behind ≤ length other
      by (inl l) =
          let wrong : true ≡ false = sym (round_of other closed) ∙ s.first.none (length other) closed.some l in cc
      by (inr l) = omega (arith, l, w.size, ap length s.is)

-- ---- the laws

pub has_each_circle : HasEachCircle
has_each_circle count waits n behind there closed =
    let f : IsFound (comes_round count waits n) (numbers_from 1 (suc count)) =
    some_size count waits n there behind closed in
    subst (λ (size : Option ℕ). IsSome (option_map (λ k. way count waits n k n) size)) (sym f.is) (search)

pub circles_are_closed : CirclesAreClosed
circles_are_closed count waits n behind there is =
    closed_circle count waits n there behind (sized count waits n there behind (circle_size count waits n) refl is)

pub circles_are_shortest : CirclesAreShortest
circles_are_shortest count waits n behind other there is closed =
    least_circle count waits n there behind other
    (sized count waits n there behind (circle_size count waits n) refl is) closed
