-- The first fault of a list, and of a plan.
use Rattle.std.proofs.Common.{◌≡◌, ℕ, ◌+◌, ◌<◌, refl, sym, ap, ◌∙◌, List, [], ◌∷◌, length, get_or, take, drop}
use Rattle.std.proofs.Common.{Bool, true, false, Option, Some, None, is_some, option_map, add-one, zero-add, All, arith}
use Rattle.std.proofs.Common.{cond}
use Rattle.std.specs.Prelude.{position, slice_get}
use Rattle.std.specs.List.{list_any, position_from, position_or_len, range_with_len}
use Rattle.std.proofs.Math.Seq.{drop-cons}
use Rattle.std.proofs.lemmas.Bool.{lt-ltb, le-ltb, ltb-false, both_ways}
use Rattle.std.proofs.lemmas.List.{get_or-take, length-take-le}
use Rattle.std.proofs.lemmas.List.FromFn.{length-range_with_len, get_or-range_with_len}
use Rattle.std.proofs.lemmas.List.Sums.{position_or_len_is, fails_before_first}
use Rattle.std.proofs.lemmas.Option.{slice_get_read, slice_get-get_or}
use Rattle.std.proofs.lemmas.List.Quantifiers.{position-Some}
use Rattle.tplan.specs.declared.plan.Wire.{Wire}
use Rattle.tplan.specs.Wires.{same_end}
use Rattle.tplan.specs.declared.plan.Plan.{Plan}
use Rattle.tplan.specs.declared.plan.BuildFault.{BuildFault}
use Rattle.tplan.specs.declared.plan.BuildFault.TheVariants.{OutOfMemory, TooMany, BadSize, BadTimeslice, BadEnd}
use Rattle.tplan.specs.declared.plan.BuildFault.TheVariants.{SameEnd, EndTwice, BadSegment, BadProcess, BadCapacity}
use Rattle.tplan.specs.Wires.{all_wires}
use Rattle.tnet.specs.Building.{too_many, is_bad_size, is_bad_timeslice, is_bad_end, bad_segment, named_ends}
use Rattle.tnet.specs.Building.{is_bad_capacity, bad_process, or_else, when, fault_of, share_an_end, has_end_twice}
use Rattle.tnet.specs.Building.{first_end_twice, fault_in, fault_at, first_with_fault}

-- the first place that passes, and none
pub position_is : {X : Type 0} (test : X → Bool) (xs : List X) (place : ℕ) (d : X) → place < length xs
    → ((k : ℕ) → k < place → test (get_or xs k d) ≡ false) → test (get_or xs place d) ≡ true
    → position test xs ≡ Some place
position_is test xs place d within before here =
    let e : position_or_len test xs ≡ place =
    position_or_len_is test xs place d (omega (arith, within)) before (λ _. here) in
    rw (e, lt-ltb place (length xs) within) refl

pub position_none : {X : Type 0} (test : X → Bool) (xs : List X) → All (λ x. test x ≡ false) xs
    → position test xs ≡ None
position_none test [] h = refl
position_none test (x ∷ xs) h =
    let e : position_or_len test (x ∷ xs) ≡ length (x ∷ xs) =
    position_or_len_is test (x ∷ xs) (length (x ∷ xs)) x (omega arith) (λ k b. h k x b) (λ b. absurd (omega (arith, b)))
    in
    rw (e, le-ltb (length (x ∷ xs)) (length (x ∷ xs)) (omega arith)) refl

-- no place passes the test
cond-none : {A : Type 0} (b : Bool) (x : A) → cond b (Some x) None ≡ None → b ≡ false
cond-none false x h = refl
cond-none true x h = cc

pub no_position : {X : Type 0} (test : X → Bool) (xs : List X) → position test xs ≡ None → All (λ x. test x ≡ false) xs
no_position test xs h k d l =
    fails_before_first test xs k d (omega (arith, ltb-false (position_or_len test xs) (length xs) (cond-none _ _ h)))

none_some : {X : Type 0} (o : Option X) → o ≡ None → is_some o ≡ false
none_some o h = rw h refl

some_some : {X : Type 0} (o : Option X) (x : X) → o ≡ Some x → is_some o ≡ true
some_some o x h = rw h refl

-- no element has a fault
pub none_faulty : {A B : Type 0} (f : A → Option B) (xs : List A) → All (λ x. f x ≡ None) xs
    → first_with_fault f xs ≡ None
none_faulty f xs h =
    rw (position_none (λ x. is_some (f x)) xs (λ k d b. none_some (f (get_or xs k d)) (h k d b))) refl

not_some : {X : Type 0} (o : Option X) → is_some o ≡ false → o ≡ None
not_some None h = refl
not_some (Some x) h = cc

mapped_none : {B : Type 0} (place : ℕ) (o : Option B) → option_map {U = ℕ × B} (λ y. (place, y)) o ≡ None → o ≡ None
mapped_none place None q = refl
mapped_none place (Some y) q = cc

pub no_fault : {A B : Type 0} (f : A → Option B) (xs : List A) → first_with_fault f xs ≡ None
    → All (λ x. f x ≡ None) xs
no_fault {A} {B} f xs h k d b = by (position (λ x. is_some (f x)) xs) refl h
  where
    by : (o : Option ℕ) → position (λ x. is_some (f x)) xs ≡ o → fault_at f xs o ≡ None → f (get_or xs k d) ≡ None
    by None e q = not_some (f (get_or xs k d)) (no_position (λ x. is_some (f x)) xs e k d b)
    by (Some place) e q =
        let first = position-Some (λ x. is_some (f x)) xs place d e in
        let none : f (get_or xs place d) ≡ None =
        mapped_none place (f (get_or xs place d))
        (ap (fault_in f place) (sym (slice_get-get_or xs place d first.0)) ∙ q) in
        absurd (both_ways (is_some (f (get_or xs place d))) (none_some (f (get_or xs place d)) none) first.1)

-- an element has one, and it is the first
pub fault_told : {A B : Type 0} (f : A → Option B) (xs : List A) (place : ℕ) (x : A) (y : B)
    → position (λ x. is_some (f x)) xs ≡ Some place → slice_get xs place ≡ Some x → f x ≡ Some y
    → first_with_fault f xs ≡ Some (place, y)
fault_told f xs place x y first there here = rw (first, there, here) refl

-- an element has one, and none before it
pub first_faulty : {A B : Type 0} (f : A → Option B) (xs : List A) (place : ℕ) (x : A) (y : B) → place < length xs
    → x ≡ get_or xs place x → All (λ x. f x ≡ None) (take place xs) → f x ≡ Some y
    → first_with_fault f xs ≡ Some (place, y)
first_faulty f xs place x y within read before here =
    let there : slice_get xs place ≡ Some x = slice_get_read xs (length xs) place x refl within read in
    let first : position (λ x. is_some (f x)) xs ≡ Some place =
    position_is (λ x. is_some (f x)) xs place x within
    (λ k b. none_some (f (get_or xs k x))
    (ap f (sym (get_or-take place xs k x b))
    ∙ before k x (omega (arith, length-take-le place xs (omega (arith, within)), b))))
    (some_some (f (get_or xs place x)) y (ap f (sym read) ∙ here)) in
    fault_told f xs place x y first there here

-- a wire has an end of an earlier one, and none before it has
pub twice_is : (ws : List Wire) (place : ℕ) → place < length ws
    → ((k : ℕ) → k < place → has_end_twice ws k ≡ false) → has_end_twice ws place ≡ true
    → first_end_twice ws ≡ Some place
twice_is ws place within before here =
    let count : length (range_with_len 0 (length ws)) ≡ length ws = length-range_with_len 0 (length ws) in
    let at : (k : ℕ) → k < length ws → get_or (range_with_len 0 (length ws)) k 0 ≡ k = λ k b.
    get_or-range_with_len 0 (length ws) k 0 b ∙ zero-add k in
    position_is (has_end_twice ws) (range_with_len 0 (length ws)) place 0 (omega (arith, count, within))
    (λ k b. ap (has_end_twice ws) (at k (omega (arith, b, within))) ∙ before k b)
    (ap (has_end_twice ws) (at place within) ∙ here)

-- no wire has one
pub twice_none : (ws : List Wire) → ((k : ℕ) → k < length ws → has_end_twice ws k ≡ false) → first_end_twice ws ≡ None
twice_none ws h =
    let count : length (range_with_len 0 (length ws)) ≡ length ws = length-range_with_len 0 (length ws) in
    position_none (has_end_twice ws) (range_with_len 0 (length ws)) (λ k d b.
    ap (has_end_twice ws) (get_or-range_with_len 0 (length ws) k d (omega (arith, count, b)) ∙ zero-add k)
    ∙ h k (omega (arith, count, b)))

pub twice_at : (ws : List Wire) (place : ℕ) (w : Wire) → slice_get ws place ≡ Some w
    → has_end_twice ws place ≡ list_any (share_an_end w) (take place ws)
twice_at ws place w there = rw there refl

-- the element at a place passes a test, or does not
pub position_here : {X : Type 0} (test : X → Bool) (xs : List X) (place : ℕ) (d : X) → place < length xs
    → test (get_or xs place d) ≡ true → position_from test place (drop place xs) ≡ Some place
position_here test xs place d within h = rw (drop-cons xs place d within, h) refl

pub position_next : {X : Type 0} (test : X → Bool) (xs : List X) (place : ℕ) (d : X) → place < length xs
    → test (get_or xs place d) ≡ false
    → position_from test place (drop place xs) ≡ position_from test (place + 1) (drop (place + 1) xs)
position_next test xs place d within h = rw (drop-cons xs place d within, h, add-one) refl

-- no plan has the fault that memory was refused
neither_of : (a b : Option BuildFault) → (a ≡ Some OutOfMemory → ⊥) → (b ≡ Some OutOfMemory → ⊥)
    → or_else a b ≡ Some OutOfMemory → ⊥
neither_of None b f g h = g h
neither_of (Some x) b f g h = f h

not_when : (b : Bool) (x : BuildFault) → (x ≡ OutOfMemory → ⊥) → when b x ≡ Some OutOfMemory → ⊥
not_when false x f h = cc
not_when true x f h = let e : x ≡ OutOfMemory = cc in f e

not_mapped : {A : Type 0} (g : A → BuildFault) (o : Option A) → ((x : A) → g x ≡ OutOfMemory → ⊥)
    → option_map g o ≡ Some OutOfMemory → ⊥
not_mapped g None f h = cc
not_mapped g (Some x) f h = let e : g x ≡ OutOfMemory = cc in f x e

pub no_memory_fault : (p : Plan) → fault_of p ≡ Some OutOfMemory → ⊥
unfolding fault_of
no_memory_fault p =
    neither_of _ _ (not_when (too_many p) TooMany (λ e. cc))
    (neither_of _ _ (not_mapped BadSize (position is_bad_size p.nodes) (λ x e. cc))
    (neither_of _ _ (not_when (is_bad_timeslice p.timeslice) BadTimeslice (λ e. cc))
    (neither_of _ _ (not_mapped BadEnd (position (list_any (is_bad_end (length p.nodes))) (named_ends p)) (λ x e. cc))
    (neither_of _ _ (not_mapped SameEnd (position (λ w. same_end w.a w.b) p.wires) (λ x e. cc))
    (neither_of _ _ (not_mapped EndTwice (first_end_twice (all_wires p)) (λ x e. cc))
    (neither_of _ _
    (not_mapped (λ f. BadSegment f.0 f.1) (first_with_fault bad_segment p.nodes) (λ x e. cc))
    (neither_of _ _
    (not_mapped (λ f. BadProcess f.0 f.1.0 f.1.1) (first_with_fault (bad_process p.timeslice) p.nodes) (λ x e. cc))
    (not_mapped BadCapacity (position is_bad_capacity p.sinks) (λ x e. cc)))))))))
