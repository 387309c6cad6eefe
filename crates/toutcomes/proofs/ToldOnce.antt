-- What is told of configurations: each is told by the first that is the same, and nothing else is told.
use Rattle.std.proofs.Common.{◌≡◌, ◌⊎◌, ◌&&◌, ◌||◌, ℕ, zero, suc, refl, sym, ap, subst, ◌∙◌, cond, Bool, true, false}
use Rattle.std.proofs.Common.{List, [], ◌∷◌, ◌++◌, Option, Some, None, inl, inr, arith, true≢false}
use Rattle.std.proofs.Common.{◌<◌, get_or, length}
use Rattle.std.specs.Prelude.{map, fold, AllPairs, Contains, slice_get}
use Rattle.std.specs.List.{list_any}
use Rattle.std.proofs.lemmas.List.{get_or-map, length-map}
use Rattle.std.proofs.lemmas.List.Elements.{All-contains, All-map, Contains-append_left, Contains-get_or, Contains-push}
use Rattle.std.proofs.lemmas.List.Elements.{Contains-push_cases}
use Rattle.std.proofs.lemmas.List.Folds.{list_any_at}
use Rattle.std.proofs.lemmas.List.Quantifiers.{all_pairs_push}
use Rattle.std.proofs.lemmas.Slice.Eq.{bytes_eq-Decides}
use Rattle.tword.specs.declared.breaks.Break.{Break}
use Rattle.tnet.specs.Rendezvous.{Node, Configuration}
use Rattle.treduction.specs.Ends.{NoneFrozen, HasFrozen}
use Rattle.tendings.specs.declared.telling.Telling.{Telling}
use Rattle.tendings.specs.Tellings.{agree, freeze_from, freeze_or, freeze_text, is_one, telling}
use Rattle.toutcomes.specs.Told.{tellings}
use Rattle.toutcomes.specs.Told.{with_telling}

-- ---- lists

-- the first of a list, or one of the rest
pub contained : {A : Type 0} (x y : A) (ys : List A) → Contains (y ∷ ys) x → (y ≡ x) ⊎ Contains ys x
contained x y ys (zero, within, is) = inl is
contained x y ys (suc k, within, is) = inr (k, omega (arith, within), is)

pub contains_first : {A : Type 0} (x : A) (ys : List A) → Contains (x ∷ ys) x
contains_first x ys = (0, omega arith, refl)

pub contains_later : {A : Type 0} (x y : A) (ys : List A) → Contains ys x → Contains (y ∷ ys) x
contains_later x y ys (k, within, is) = (suc k, omega (arith, within), is)

-- one of a list has something
found : {A : Type 0} (test : A → Bool) (xs : List A) → list_any test xs ≡ true
    → (x : A) × Contains xs x × (test x ≡ true)
found test [] e = absurd (true≢false (sym e))
found {A = A} test (x ∷ xs) e = by (test x) refl e (found test xs)
  where
    by : (b : Bool) → test x ≡ b → (b || list_any test xs) ≡ true
        → (list_any test xs ≡ true → (y : A) × Contains xs y × (test y ≡ true))
        → (y : A) × Contains (x ∷ xs) y × (test y ≡ true)
    by true is h later = (x, contains_first x xs, is)
    by false is h later = let y = later h in (y.0, contains_later y.0 x xs y.1, y.2)

pub mapped : {A B : Type 0} (f : A → B) (xs : List A) (x : A) → Contains xs x → Contains (map f xs) (f x)
mapped f xs x (k, within, is) =
    (k, omega (arith, within, length-map xs f), get_or-map f xs k x (f x) within ∙ ap f is)

of_map : {A B : Type 0} (f : A → B) (xs : List A) (y : B) → Contains (map f xs) y → (x : A) × Contains xs x × (y ≡ f x)
of_map {A = A} {B = B} f xs y =
    All-contains (λ (z : B). (x : A) × Contains xs x × (z ≡ f x)) (map f xs) y
    (All-map (λ (z : B). (x : A) × Contains xs x × (z ≡ f x)) f xs
    (λ k d within. (get_or xs k d, Contains-get_or xs k d within, refl)))

-- ---- two are the same

pub and_left : (a b : Bool) → (a && b) ≡ true → a ≡ true
and_left true b e = refl
and_left false b e = e

pub and_right : (a b : Bool) → (a && b) ≡ true → b ≡ true
and_right true b e = e
and_right false b e = absurd (true≢false (sym e))

agrees : (f : Bool) (t : Telling) → agree f f t t ≡ true
agrees true t = refl
agrees false t = (bytes_eq-Decides t.dump t.dump).1 refl

alike : (t : Telling) → is_one t t ≡ true
alike t = rw ((bytes_eq-Decides t.heading t.heading).1 refl) (agrees t.is_freeze t)

-- outcomes that are the same are told alike
same_outcome : (t u : Telling) → is_one t u ≡ true → u.is_freeze ≡ false → t ≡ u
same_outcome t u e works = by t.is_freeze u.is_freeze refl refl works (and_right _ _ e)
  where
    by : (f g : Bool) → t.is_freeze ≡ f → u.is_freeze ≡ g → g ≡ false → agree f g t u ≡ true → t ≡ u
    by f true a b none h = absurd (true≢false none)
    by true false a b none h = absurd (true≢false (sym h))
    by false false a b none h =
        let heading : t.heading ≡ u.heading = (bytes_eq-Decides t.heading u.heading).0 (and_left _ _ e) in
        let dump : t.dump ≡ u.dump = (bytes_eq-Decides t.dump u.dump).0 h in
        let freeze : t.is_freeze ≡ u.is_freeze = a ∙ sym b in
        λ i. record { heading = heading i; dump = dump i; is_freeze = freeze i }

-- and freezes are freezes
same_freeze : (t u : Telling) → is_one t u ≡ true → u.is_freeze ≡ true → t.is_freeze ≡ true
same_freeze t u e frozen = by t.is_freeze u.is_freeze refl frozen (and_right _ _ e)
  where
    by : (f g : Bool) → t.is_freeze ≡ f → g ≡ true → agree f g t u ≡ true → f ≡ true
    by true g a b h = refl
    by false true a b h = absurd (true≢false (sym h))
    by false false a b h = b

-- ---- all that is told

kept_one : (t x : Telling) (told : List Telling) → Contains told t → Contains (with_telling told x) t
kept_one t x told h = by (list_any (λ earlier. is_one earlier x) told)
  where
    by : (b : Bool) → Contains (cond b told (told ++ x ∷ [])) t
    by true = h
    by false = Contains-append_left told (x ∷ []) t h

kept : (ts told : List Telling) (t : Telling) → Contains told t → Contains (fold with_telling told ts) t
kept [] told t h = h
kept (x ∷ xs) told t h = kept xs (with_telling told x) t (kept_one t x told h)

told_one : (x : Telling) (told : List Telling) → (t : Telling) × Contains (with_telling told x) t × (is_one t x ≡ true)
told_one x told = by (list_any (λ earlier. is_one earlier x) told) refl
  where
    by : (b : Bool) → list_any (λ earlier. is_one earlier x) told ≡ b
        → (t : Telling) × Contains (cond b told (told ++ x ∷ [])) t × (is_one t x ≡ true)
    by true is = found (λ earlier. is_one earlier x) told is
    by false is = (x, Contains-push told x, alike x)

-- each is told by one that is the same
told_each : (ts told : List Telling) (x : Telling) → Contains ts x
    → (t : Telling) × Contains (fold with_telling told ts) t × (is_one t x ≡ true)
told_each [] told x (k, within, is) = absurd (omega (arith, within))
told_each (y ∷ ys) told x h = elim (contained x y ys h) [
  | inl is ↦
      let t = told_one y told in (
        t.0,
        kept ys (with_telling told y) t.0 t.1,
        subst (λ z. is_one t.0 z ≡ true) is t.2,
      )
  | inr later ↦ told_each ys (with_telling told y) x later
]

-- what is told was to be
from_one : (x t : Telling) (told : List Telling) → Contains (with_telling told x) t → Contains told t ⊎ (x ≡ t)
from_one x t told h = by (list_any (λ earlier. is_one earlier x) told) h
  where
    by : (b : Bool) → Contains (cond b told (told ++ x ∷ [])) t → Contains told t ⊎ (x ≡ t)
    by true h = inl h
    by false h = Contains-push_cases told x t h

from_all : (ts told : List Telling) (t : Telling) → Contains (fold with_telling told ts) t
    → Contains told t ⊎ Contains ts t
from_all [] told t h = inl h
from_all (x ∷ xs) told t h = elim (from_all xs (with_telling told x) t h) [
  | inl earlier ↦ elim (from_one x t told earlier) [
    | inl before ↦ inl before
    | inr is ↦ inr (subst (λ z. Contains (x ∷ xs) z) is (contains_first x xs))
  ]
  | inr later ↦ inr (contains_later t x xs later)
]

-- what is told is told of one of the configurations
pub told_of : (shown : List Configuration) (t : Telling) → Contains (tellings shown) t
    → (w : Configuration) × Contains shown w × (t ≡ telling w)
told_of shown t h = elim (from_all (map telling shown) [] t h) [
  | inl none ↦ absurd (omega (arith, none.1))
  | inr here ↦ of_map telling shown t here
]

-- ---- each is told once

-- none of a list has something
none_has : {A : Type 0} (test : A → Bool) (xs : List A) → list_any test xs ≡ false → (k : ℕ) (d : A) → k < length xs
    → test (get_or xs k d) ≡ false
none_has test xs e k d within = by (test (get_or xs k d)) (list_any_at test xs k d within)
  where
    by : (b : Bool) → (b ≡ true → list_any test xs ≡ true) → b ≡ false
    by true has = sym (has refl) ∙ e
    by false has = refl

abbrev pub AreApart : List Telling → Type 0
AreApart ts = AllPairs (λ earlier later. is_one earlier later ≡ false) ts

apart_one : (x : Telling) (told : List Telling) → AreApart told → AreApart (with_telling told x)
apart_one x told h = by (list_any (λ earlier. is_one earlier x) told) refl
  where
    by : (b : Bool) → list_any (λ earlier. is_one earlier x) told ≡ b → AreApart (cond b told (told ++ x ∷ []))
    by true is = h
    by false is =
        all_pairs_push (λ earlier later. is_one earlier later ≡ false) told x h
        (none_has (λ earlier. is_one earlier x) told is)

apart_all : (ts told : List Telling) → AreApart told → AreApart (fold with_telling told ts)
apart_all [] told h = h
apart_all (x ∷ xs) told h = apart_all xs (with_telling told x) (apart_one x told h)

-- no two of those that are told are the same
pub told_once : (shown : List Configuration) → AreApart (tellings shown)
told_once shown = apart_all (map telling shown) [] (λ i j d below within. absurd (omega (arith, within)))

-- ---- of configurations

none_from : (n : ℕ) (nodes : List Node) → ((k : ℕ) (s : Node) → slice_get nodes k ≡ Some s → s.broken ≡ None)
    → freeze_from n nodes ≡ None
none_from n [] h = refl
none_from n (s ∷ ss) h = rw (h 0 s refl) (none_from (suc n) ss (λ k x e. h (suc k) x e))

some_from : (n k : ℕ) (nodes : List Node) (s : Node) (b : Break) → slice_get nodes k ≡ Some s → s.broken ≡ Some b
    → (f : List ℕ) × (freeze_from n nodes ≡ Some f)
some_from n k [] s b e frozen = cc
some_from n zero (x ∷ xs) s b e frozen =
    let same : x ≡ s = cc in
    let broken : x.broken ≡ Some b = ap (λ (y : Node). y.broken) same ∙ frozen in
    (freeze_text n b x, rw broken refl)
some_from n (suc k) (x ∷ xs) s b e frozen = by x.broken (some_from (suc n) k xs s b e frozen)
  where
    by : (o : Option Break) → ((f : List ℕ) × (freeze_from (suc n) xs ≡ Some f))
        → (f : List ℕ) × (freeze_or n x o (freeze_from (suc n) xs) ≡ Some f)
    by None later = later
    by (Some c) later = (freeze_text n c x, refl)

pub works_is_told : (w : Configuration) → NoneFrozen w → (telling w).is_freeze ≡ false
works_is_told w works = rw (none_from 0 w.nodes works) refl

pub freeze_is_told : (w : Configuration) → HasFrozen w → (telling w).is_freeze ≡ true
freeze_is_told w frozen =
    rw (some_from 0 frozen.place w.nodes frozen.node frozen.break frozen.here frozen.frozen).1 refl

-- an outcome that is shown is told
pub outcome_is_told : (shown : List Configuration) (w : Configuration) → Contains shown w → NoneFrozen w
    → Contains (tellings shown) (telling w)
outcome_is_told shown w here works =
    let t = told_each (map telling shown) [] (telling w) (mapped telling shown w here) in
    subst (λ z. Contains (tellings shown) z) (same_outcome t.0 (telling w) t.2 (works_is_told w works)) t.1

-- of a freeze that is shown a freeze is told
pub freeze_told : (shown : List Configuration) (w : Configuration) → Contains shown w → HasFrozen w
    → (t : Telling) × Contains (tellings shown) t × (t.is_freeze ≡ true)
freeze_told shown w here frozen =
    let t = told_each (map telling shown) [] (telling w) (mapped telling shown w here) in
    (t.0, t.1, same_freeze t.0 (telling w) t.2 (freeze_is_told w frozen))
