-- Room for messages, and runs one after another.
use Rattle.std.proofs.Common.{◌≡◌, ◌≢◌, ℕ, zero, suc, ◌<◌, ◌≤◌, refl, ap, ◌∙◌, List, length, get_or, set}
use Rattle.std.proofs.Common.{map, Option, Some, Result, Ok, Err, IfSome, OnOk, ◌⊎◌, inl, inr, arith}
use Rattle.std.proofs.lemmas.Bool.{cases_eq}
use Rattle.std.proofs.lemmas.List.{map-set, get_or-set_same, get_or-set_other, get_or-map, length-map}
use Rattle.tproc.specs.declared.offer.Offer.{Offer}
use Rattle.tplan.specs.declared.event.Act.TheVariants as act
use Rattle.trounds.specs.Parts.{Part, part_does, part_runs}

module _ {A : Type 0} (f : A → ℕ) where
  -- the room of the other links
  pub room_else : (vs : List A) (k l : ℕ) (v : A) → l ≢ k → get_or (map f (set vs k v)) l 0 ≡ get_or (map f vs) l 0
  room_else vs k l v h = ap (λ (xs : List ℕ). get_or xs l 0) (map-set f vs k v)
      ∙ get_or-set_other (map f vs) k l (f v) 0 h

  -- the room of the one
  pub room_here : (vs : List A) (k : ℕ) (v : A) → k < length vs → get_or (map f (set vs k v)) k 0 ≡ f v
  room_here vs k v h = ap (λ (xs : List ℕ). get_or xs k 0) (map-set f vs k v)
      ∙ get_or-set_same (map f vs) k (f v) 0 (omega (arith, h, length-map vs f))

  room_before : (vs : List A) (k : ℕ) (d : A) → k < length vs → get_or (map f vs) k 0 ≡ f (get_or vs k d)
  room_before vs k d h = get_or-map f vs k d 0 h

  -- where one grows, none shrinks
  pub room_grows : (vs : List A) (k : ℕ) (v d : A) → k < length vs → f (get_or vs k d) ≤ f v → (l : ℕ)
      → get_or (map f vs) l 0 ≤ get_or (map f (set vs k v)) l 0
  room_grows vs k v d h more l = by (cases_eq l k)
    where
      by : (l ≡ k) ⊎ (l ≢ k) → get_or (map f vs) l 0 ≤ get_or (map f (set vs k v)) l 0
      by (inl e) = rw e (omega (arith, room_before vs k d h, room_here vs k v h, more))
      by (inr e) = omega (arith, room_else vs k l v e)

  -- room for the message of a link is made
  pub room_made : (i : Option Offer) (o : Offer) (vs : List A) (k l : ℕ) (v : A) → i ≡ Some o → k ≡ l → k < length vs
      → o.length ≤ f v → IfSome i (λ (q : Offer). q.length ≤ get_or (map f (set vs k v)) l 0)
  room_made i o vs k l v is same h fits = rw (is, ← same, room_here vs k v h) fits

-- a fact of success
pub on_ok : {T E : Type 0} (r : Result T E) (P Q : Type 0) → (P → Q) → OnOk r P → OnOk r Q
on_ok (Ok x) P Q f h = f h
on_ok (Err e) P Q f h = h

-- no run more
pub run_rests : (k : ℕ) (p : Part) → part_does act.Run p ≡ p → part_runs k p ≡ p
run_rests zero p h = refl
run_rests (suc k) p h = ap (part_runs k) h ∙ run_rests k p h
