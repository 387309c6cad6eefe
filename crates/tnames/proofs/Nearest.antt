-- The nearest name is found in one pass.
use Rattle.std.proofs.Common.{◌≡◌, ◌∙◌, sym, ap, refl, ℕ, ◌<◌, ◌≤◌, Bool, true, false, not, ◌&&◌, ◌||◌, ◌⊎◌}
use Rattle.std.proofs.Common.{inl, inr, List, [], ◌∷◌, ◌++◌, append_assoc, Option, Some, None, find, All, arith, subst}
use Rattle.std.proofs.Common.{MatchOption, Bor}
use Rattle.std.specs.Prelude.{nat_le, nat_lt}
use Rattle.std.specs.List.{list_all}
use Rattle.std.proofs.lemmas.Bool.{le-leb, lt-leb, and_left, and_right, and_from, or_right, or_left}
use Rattle.std.proofs.lemmas.Bool.{not_from_false, and_parts, and_cases, ltb-true, ltb-false}
use Rattle.std.proofs.lemmas.List.Elements.{All-nil, All-head, All-tail, All-append, All-cons, All-weaker, All-push}
use Rattle.std.proofs.lemmas.List.Sums.{list_all-from_AllPass}
use Rattle.std.proofs.lemmas.List.Folds.{list_all-append}
use Rattle.tnames.specs.declared.names.Name.{Name}
use Rattle.tnames.specs.Names.{place_of, is_reached, is_highest, nearest}

-- a name does not stand at an address or below it
abbrev pub IsOut : ℕ → Name → Type 0
IsOut address m = is_reached address m ≡ false

-- none of these names stands at an address or below it
abbrev pub HasNone : ℕ → List Name → Type 0
HasNone address names = All (IsOut address) names

-- a name stands below another one, unless it does not count
abbrev pub IsLower : ℕ → Name → Name → Type 0
IsLower address n m = IsOut address m ⊎ (place_of m.address < place_of n.address)

-- a name stands no higher than another one, unless it does not count
abbrev pub IsNotHigher : ℕ → Name → Name → Type 0
IsNotHigher address n m = IsOut address m ⊎ (place_of m.address ≤ place_of n.address)

-- the first of these names that stands as high as any that counts
pub record IsBest (address : ℕ) (names : List Name) (n : Name) : Type 0 where
  pub front : List Name
  pub back : List Name
  pub is : names ≡ front ++ n ∷ back
  pub reached : is_reached address n ≡ true
  pub before : All (IsLower address n) front
  pub behind : All (IsNotHigher address n) back

-- a test that fails throughout finds nothing
find-nothing : {X : Type 0} (p : X → Bool) (xs : List X) → All (λ x. p x ≡ false) xs → find p xs ≡ None
find-nothing p [] h = refl
find-nothing p (x ∷ xs) h =
    rw (All-head (λ x. p x ≡ false) x xs h) (find-nothing p xs (All-tail (λ x. p x ≡ false) x xs h))

-- the first element that passes a test is found
find-first : {X : Type 0} (p : X → Bool) (front : List X) (x : X) (back : List X) → All (λ y. p y ≡ false) front
    → p x ≡ true → find p (front ++ x ∷ back) ≡ Some x
find-first p [] x back h t = rw t refl
find-first p (y ∷ front) x back h t =
    rw (All-head (λ y. p y ≡ false) y front h)
    (find-first p front x back (All-tail (λ y. p y ≡ false) y front h) t)

-- no name counts: none is nearest
pub nearest-none : (address : ℕ) (names : List Name) → HasNone address names → nearest names address ≡ None
nearest-none address names h =
    find-nothing (λ n. is_reached address n && is_highest names address n) names
    (All-weaker (IsOut address) (λ n. (is_reached address n && is_highest names address n) ≡ false)
    (λ n o. and_left (is_reached address n) (is_highest names address n) o) names h)

-- the name beside which another one is measured
abbrev is_under : ℕ → Name → Name → Bool
is_under address n m = not (is_reached address m) || nat_le (place_of m.address) (place_of n.address)

under-from : (address : ℕ) (n m : Name) → IsNotHigher address n m → is_under address n m ≡ true
under-from address n m h =
    elim h [
      | inl o ↦ or_left (not (is_reached address m)) _ (not_from_false (is_reached address m) o)
      | inr l ↦ or_right (not (is_reached address m)) _ (le-leb _ _ l)
    ]

not_higher : (address : ℕ) (n m : Name) → IsLower address n m → IsNotHigher address n m
not_higher address n m h = elim h [ inl o ↦ inl o | inr l ↦ inr (omega arith) ]

-- a name that stands lower than one that counts is not the highest
lower-fails : (address : ℕ) (front back : List Name) (n m : Name) → is_reached address n ≡ true
    → IsLower address n m
    → (is_reached address m && is_highest (front ++ n ∷ back) address m) ≡ false
lower-fails address front back n m r h =
    elim h [
      | inl o ↦ and_left (is_reached address m) _ o
      | inr l ↦ and_right (is_reached address m) _
          (list_all-append (is_under address m) front (n ∷ back)
          ∙ and_right (list_all (is_under address m) front) _
          (and_left (is_under address m n) (list_all (is_under address m) back)
          (rw r (lt-leb (place_of n.address) (place_of m.address) l))))
    ]

pub nearest-some : (address : ℕ) (names : List Name) (n : Name) → IsBest address names n
    → nearest names address ≡ Some n
nearest-some address names n b =
    subst (λ (ns : List Name). find (λ m. is_reached address m && is_highest ns address m) ns ≡ Some n) (sym b.is)
    (find-first (λ m. is_reached address m && is_highest (b.front ++ n ∷ b.back) address m) b.front n b.back
    (All-weaker (IsLower address n)
    (λ m. (is_reached address m && is_highest (b.front ++ n ∷ b.back) address m) ≡ false)
    (λ m l. lower-fails address b.front b.back n m b.reached l) b.front b.before)
    (and_from (is_reached address n) _ b.reached
    (list_all-from_AllPass (is_under address n) (b.front ++ n ∷ b.back)
    (All-append (λ m. is_under address n m ≡ true) b.front (n ∷ b.back)
    (All-weaker (IsLower address n) (λ m. is_under address n m ≡ true)
    (λ m l. under-from address n m (not_higher address n m l)) b.front b.before)
    (All-cons (λ m. is_under address n m ≡ true) n b.back (under-from address n n (inr (omega arith)))
    (All-weaker (IsNotHigher address n) (λ m. is_under address n m ≡ true)
    (λ m l. under-from address n m l) b.back b.behind))))))

-- ---- one more name

-- a name that does not count, or that stands no higher
pub best-kept : (address : ℕ) (names : List Name) (n m : Name) → IsBest address names n → IsNotHigher address n m
    → IsBest address (names ++ m ∷ []) n
best-kept address names n m b h =
    record {
      front = b.front;
      back = b.back ++ m ∷ [];
      is = ap (λ (ns : List Name). ns ++ m ∷ []) b.is ∙ append_assoc b.front (n ∷ b.back) (m ∷ []);
      reached = b.reached;
      before = b.before;
      behind = All-push (IsNotHigher address n) b.back m b.behind h;
    }

-- the first name that counts
pub best-first : (address : ℕ) (names : List Name) (m : Name) → HasNone address names → is_reached address m ≡ true
    → IsBest address (names ++ m ∷ []) m
best-first address names m h r =
    record {
      front = names;
      back = [];
      is = refl;
      reached = r;
      before = All-weaker (IsOut address) (IsLower address m) (λ k o. inl o) names h;
      behind = All-nil (IsNotHigher address m);
    }

-- a name that stands higher
pub best-next : (address : ℕ) (names : List Name) (n m : Name) → IsBest address names n → is_reached address m ≡ true
    → place_of n.address < place_of m.address → IsBest address (names ++ m ∷ []) m
best-next address names n m b r l =
    record {
      front = names;
      back = [];
      is = refl;
      reached = r;
      before = subst (All (IsLower address m)) (sym b.is)
          (All-append (IsLower address m) b.front (n ∷ b.back)
          (All-weaker (IsLower address n) (IsLower address m)
          (λ k h. lower-still k (not_higher address n k h)) b.front b.before)
          (All-cons (IsLower address m) n b.back (inr l)
          (All-weaker (IsNotHigher address n) (IsLower address m) (λ k h. lower-still k h) b.back b.behind)));
      behind = All-nil (IsNotHigher address m);
    }
  where
    lower-still : (k : Name) → IsNotHigher address n k → IsLower address m k
    lower-still k h = elim h [ inl o ↦ inl o | inr e ↦ inr (omega arith) ]

-- ---- what a test against the best so far says

-- what is known of the best name so far
abbrev pub IsBestSoFar : ℕ → List Name → Option (Bor Name) → Type 0
IsBestSoFar address names best = MatchOption best (HasNone address names) (λ b. IsBest address names b.now)

-- what the test says
abbrev pub Tells : ℕ → Name → Option (Bor Name) → Bool → Type 0
Tells address m best told =
    MatchOption best (told ≡ is_reached address m)
    (λ b. told ≡ (is_reached address m && nat_lt (place_of b.now.address) (place_of m.address)))

pub so_far-next : (address : ℕ) (names : List Name) (best : Option (Bor Name)) (m : Name) (told : Bool)
    → IsBestSoFar address names best → Tells address m best told → told ≡ true → IsBest address (names ++ m ∷ []) m
so_far-next address names None m told h t e = best-first address names m h (sym t ∙ e)
so_far-next address names (Some b) m told h t e =
    let both = and_parts (is_reached address m) (nat_lt (place_of b.now.address) (place_of m.address)) (sym t ∙ e) in
    best-next address names b.now m h both.0 (ltb-true (place_of b.now.address) (place_of m.address) both.1)

pub so_far-kept : (address : ℕ) (names : List Name) (best : Option (Bor Name)) (m : Name) (told : Bool)
    → IsBestSoFar address names best → Tells address m best told → told ≡ false
    → IsBestSoFar address (names ++ m ∷ []) best
so_far-kept address names None m told h t e = All-push (IsOut address) names m h (sym t ∙ e)
so_far-kept address names (Some b) m told h t e =
    best-kept address names b.now m h
    (elim (and_cases (is_reached address m) (nat_lt (place_of b.now.address) (place_of m.address)) (sym t ∙ e)) [
      | inl o ↦ inl o
      | inr l ↦ inr (ltb-false (place_of b.now.address) (place_of m.address) l)
    ])

pub so_far-end : (address : ℕ) (names : List Name) (best : Option (Bor Name)) → IsBestSoFar address names best
    → MatchOption best (nearest names address ≡ None) (λ b. nearest names address ≡ Some b.now)
so_far-end address names None h = nearest-none address names h
so_far-end address names (Some b) h = nearest-some address names b.now h
