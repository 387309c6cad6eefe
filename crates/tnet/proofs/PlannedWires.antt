-- All wires of a plan, one after another.
use Rattle.std.proofs.Common.{◌≡◌, ℕ, zero, suc, ◌+◌, ◌-◌, ◌<◌, ◌≤◌, refl, sym, ap, ◌∙◌, List, [], ◌∷◌, ◌++◌, length}
use Rattle.std.proofs.Common.{get_or, map, take, Bool, true, false, ◌||◌, Some, arith, add-zero, add-one}
use Rattle.std.specs.Prelude.{slice_get, nat_lt}
use Rattle.std.specs.List.{list_any}
use Rattle.std.proofs.lemmas.Bool.{or_parts, or_right, ltb-false}
use Rattle.std.proofs.lemmas.List.{length-map, length-append}
use Rattle.std.proofs.lemmas.Option.{same_Some, slice_get-get_or, slice_get-map, slice_get_within}
use Rattle.std.proofs.lemmas.Option.{get_or_from_slice_get}
use Rattle.std.proofs.Math.Seq.{take-suc}
use Rattle.tplan.specs.declared.plan.End.{End}
use Rattle.tplan.specs.declared.plan.Wire.{Wire}
use Rattle.tplan.specs.declared.plan.Plan.{Plan}
use Rattle.tplan.specs.Wires.{end_at}
use Rattle.tplan.specs.Wires.{script_wires, script_ends, all_wires}
use Rattle.tnet.specs.Building.{has_too_many, too_many, node_count}
use Rattle.tnet.specs.Building.{is_bad_end, named_ends}

-- an element of the first of two lists, and of the second
pub slice_left : {X : Type 0} (xs ys : List X) (n : ℕ) (x : X) → slice_get xs n ≡ Some x
    → slice_get (xs ++ ys) n ≡ Some x
slice_left [] ys n x h = cc
slice_left (y ∷ xs) ys zero x h = h
slice_left (y ∷ xs) ys (suc n) x h = slice_left xs ys n x h

pub slice_past : {X : Type 0} (xs ys : List X) (n : ℕ) → length xs ≤ n
    → slice_get (xs ++ ys) n ≡ slice_get ys (n - length xs)
slice_past [] ys n b = let e : n - 0 ≡ n = omega arith in rw e refl
slice_past (x ∷ xs) ys zero b = absurd (omega arith)
slice_past (x ∷ xs) ys (suc n) b =
    let e : suc n - length (x ∷ xs) ≡ n - length xs = omega arith in
    rw e (slice_past xs ys n (omega arith))

-- an element of the first n passes
pub any_below : {X : Type 0} (p : X → Bool) (xs : List X) (i n : ℕ) (x : X) → slice_get xs i ≡ Some x → i < n
    → p x ≡ true → list_any p (take n xs) ≡ true
any_below p [] i n x h b t = cc
any_below p (y ∷ xs) i zero x h b t = absurd (omega arith)
any_below p (y ∷ xs) zero (suc n) x h b t = let e : y ≡ x = same_Some _ _ h in rw (e, t) refl
any_below p (y ∷ xs) (suc i) (suc n) x h b t = or_right (p y) _ (any_below p xs i n x h (omega arith) t)

-- the link of a script, wired to an end
abbrev pub script_wire : ℕ → End → Wire
script_wire number e = record { a = end_at number 0; b = e }

pub length-script_wires : (k : ℕ) (es : List End) → length (script_wires k es) ≡ length es
length-script_wires k [] = refl
length-script_wires k (e ∷ es) = ap suc (length-script_wires (suc k) es)

pub in_script_wires : (k n : ℕ) (es : List End) (e : End) → slice_get es n ≡ Some e
    → slice_get (script_wires k es) n ≡ Some (script_wire (k + n) e)
in_script_wires k n [] e h = cc
in_script_wires k zero (x ∷ es) e h = let q : x ≡ e = same_Some _ _ h in rw (q, add-zero) refl
in_script_wires k (suc n) (x ∷ es) e h =
    let q : k + suc n ≡ suc k + n = omega arith in
    rw q (in_script_wires (suc k) n es e h)

pub of_script_wires : (k n : ℕ) (es : List End) (w : Wire) → slice_get (script_wires k es) n ≡ Some w
    → (w.a ≡ end_at (k + n) 0) × (slice_get es n ≡ Some w.b)
of_script_wires k n [] w h = cc
of_script_wires k zero (x ∷ es) w h =
    let q : script_wire k x ≡ w = same_Some _ _ h in
    (rw add-zero (ap (λ (v : Wire). v.a) (sym q)), ap (λ (v : Wire). Some v.b) q)
of_script_wires k (suc n) (x ∷ es) w h =
    let q : k + suc n ≡ suc k + n = omega arith in
    rw q (of_script_wires (suc k) n es w h)

pub length-script_ends : (p : Plan) → length (script_ends p) ≡ length p.sources + length p.sinks
length-script_ends p =
    let sources : List End = map (λ s. s.«end») p.sources in
    let sinks : List End = map (λ s. s.«end») p.sinks in
    let a : length sources ≡ length p.sources = length-map p.sources _ in
    let b : length sinks ≡ length p.sinks = length-map p.sinks _ in
    omega (arith, length-append sources sinks, a, b)

pub length-all_wires : (p : Plan) → length (all_wires p) ≡ length p.wires + (length p.sources + length p.sinks)
length-all_wires p =
    omega (
      arith,
      length-append p.wires (script_wires (length p.nodes) (script_ends p)),
      length-script_wires (length p.nodes) (script_ends p),
      length-script_ends p,
    )

-- what a plan has is little
pub few_of : (p : Plan) → too_many p ≡ false → (node_count p ≤ 64) × (length p.wires ≤ 128)
few_of p h =
    let a : (_ ≡ false) × (_ ≡ false) = or_parts _ _ h in
    let b : (_ ≡ false) × (_ ≡ false) = or_parts _ _ a.0 in
    let c : (nat_lt 64 (node_count p) ≡ false) × (nat_lt 128 (length p.wires) ≡ false) = or_parts _ _ b.0 in
    (ltb-false 64 (node_count p) c.0, ltb-false 128 (length p.wires) c.1)

-- no source has too many messages, or one that is none
pub few_messages : (p : Plan) → too_many p ≡ false → list_any has_too_many p.sources ≡ false
few_messages p h = (or_parts _ _ h).1

-- one of all wires, by its place
pub planned_first : (p : Plan) (place : ℕ) (w : Wire) → slice_get p.wires place ≡ Some w
    → slice_get (all_wires p) place ≡ Some w
planned_first p place w h = slice_left p.wires (script_wires (length p.nodes) (script_ends p)) place w h

pub planned_script : (p : Plan) (place number : ℕ) (e : End) → length p.wires ≤ place
    → number ≡ length p.nodes + (place - length p.wires)
    → slice_get (script_ends p) (place - length p.wires) ≡ Some e
    → slice_get (all_wires p) place ≡ Some (script_wire number e)
planned_script p place number e past is h =
    slice_past p.wires (script_wires (length p.nodes) (script_ends p)) place past
    ∙ rw is (in_script_wires (length p.nodes) (place - length p.wires) (script_ends p) e h)

or_none : (b : Bool) → (b || false) ≡ b
or_none true = refl
or_none false = refl

-- the ends that are named there
pub named_wire : (p : Plan) (place : ℕ) (w : Wire) → place < length p.wires → slice_get (all_wires p) place ≡ Some w
    → slice_get (named_ends p) place ≡ Some (w.a ∷ w.b ∷ [])
named_wire p place w within h =
    let v : Wire = get_or p.wires place w in
    let there : slice_get p.wires place ≡ Some v = slice_get-get_or p.wires place w within in
    let same : v ≡ w = same_Some _ _ (sym (planned_first p place v there) ∙ h) in
    slice_left (map (λ w. w.a ∷ w.b ∷ []) p.wires) (map (λ e. e ∷ []) (script_ends p)) place (w.a ∷ w.b ∷ [])
    (slice_get-map (λ (w : Wire). w.a ∷ w.b ∷ []) p.wires place ∙ rw (there, same) refl)

pub named_script : (p : Plan) (place : ℕ) (w : Wire) → length p.wires ≤ place → slice_get (all_wires p) place ≡ Some w
    → slice_get (named_ends p) place ≡ Some (w.b ∷ [])
named_script p place w past h =
    let count : length (map (λ (w : Wire). w.a ∷ w.b ∷ []) p.wires) ≡ length p.wires = length-map p.wires _ in
    let k : ℕ = place - length p.wires in
    let there : slice_get (script_ends p) k ≡ Some w.b =
    (of_script_wires (length p.nodes) k (script_ends p) w
    (sym (slice_past p.wires (script_wires (length p.nodes) (script_ends p)) place past) ∙ h)).1 in
    slice_past (map (λ w. w.a ∷ w.b ∷ []) p.wires) (map (λ e. e ∷ []) (script_ends p)) place
    (omega (arith, past, count))
    ∙ rw count (slice_get-map (λ (e : End). e ∷ []) (script_ends p) k ∙ rw there refl)

pub length-named_ends : (p : Plan) → length (named_ends p) ≡ length (all_wires p)
length-named_ends p =
    let wires : List (List End) = map (λ w. w.a ∷ w.b ∷ []) p.wires in
    let scripts : List (List End) = map (λ e. e ∷ []) (script_ends p) in
    let a : length wires ≡ length p.wires = length-map p.wires _ in
    let b : length scripts ≡ length (script_ends p) = length-map (script_ends p) _ in
    omega (arith, length-append wires scripts, a, b, length-all_wires p, length-script_ends p)

-- whether an end that is named there is a bad one
pub bad_end_of_wire : (p : Plan) (place : ℕ) (w : Wire) → place < length p.wires
    → slice_get (all_wires p) place ≡ Some w
    → (is_bad_end (length p.nodes) w.a || is_bad_end (length p.nodes) w.b)
    ≡ list_any (is_bad_end (length p.nodes)) (get_or (named_ends p) place [])
bad_end_of_wire p place w within h =
    ap (λ (b : Bool). is_bad_end (length p.nodes) w.a || b) (sym (or_none (is_bad_end (length p.nodes) w.b)))
    ∙ sym (ap (list_any (is_bad_end (length p.nodes)))
    (get_or_from_slice_get (named_ends p) place (w.a ∷ w.b ∷ []) [] (named_wire p place w within h)))

pub bad_end_of_script : (p : Plan) (place : ℕ) (w : Wire) → length p.wires ≤ place
    → slice_get (all_wires p) place ≡ Some w
    → is_bad_end (length p.nodes) w.b ≡ list_any (is_bad_end (length p.nodes)) (get_or (named_ends p) place [])
bad_end_of_script p place w past h =
    sym (or_none (is_bad_end (length p.nodes) w.b))
    ∙ sym (ap (list_any (is_bad_end (length p.nodes)))
    (get_or_from_slice_get (named_ends p) place (w.b ∷ []) [] (named_script p place w past h)))

-- one more of the wires
pub one_more : {X : Type 0} (all : List X) (place : ℕ) (x : X) (some : List X) → some ≡ take place all
    → slice_get all place ≡ Some x → some ++ x ∷ [] ≡ take (place + 1) all
one_more all place x some so_far there =
    rw add-one (ap (λ (xs : List _). xs ++ x ∷ []) so_far
    ∙ ap (λ (y : _). take place all ++ y ∷ []) (sym (get_or_from_slice_get all place x x there))
    ∙ sym (take-suc all place x (slice_get_within all place x there)))
