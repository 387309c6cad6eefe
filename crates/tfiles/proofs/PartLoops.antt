-- A loop that reads parts of one kind, one after another.
use Rattle.std.proofs.Common.{◌≡◌, ℕ, zero, suc, ◌+◌, ◌-◌, ◌<◌, refl, sym, ap, ◌∙◌, List, [], ◌∷◌, ◌++◌, Some, None}
use Rattle.std.proofs.Common.{arith}
use Rattle.tfiles.specs.Images.{Reading, left_over, then_read, parts_in}

then_read-then_read : {A B C : Type 0} (r : Reading A) (f : A → List ℕ → Reading B) (g : B → List ℕ → Reading C)
    → then_read (then_read r f) g ≡ then_read r (λ x rest. then_read (f x rest) g)
then_read-then_read None f g = refl
then_read-then_read (Some (x, rest)) f g = refl

then_read-same : {A B : Type 0} (r : Reading A) (f g : A → List ℕ → Reading B)
    → ((x : A) (rest : List ℕ) → f x rest ≡ g x rest) → then_read r f ≡ then_read r g
then_read-same None f g h = refl
then_read-same (Some (x, rest)) f g h = h x rest

then_read-last : {A : Type 0} (r : Reading A) → then_read r (λ x rest. Some (x, rest)) ≡ r
then_read-last None = refl
then_read-last (Some (x, rest)) = refl

module _ {A : Type 0} (read : List ℕ → Reading A) where
  -- some parts behind those that were read
  abbrev more_in : ℕ → List A → List ℕ → Reading (List A)
  more_in k xs mid = then_read (parts_in read k mid) (λ ys rest. Some (xs ++ ys, rest))

  -- some parts are read, and then others
  pub parts-split : (n k : ℕ) (bytes : List ℕ)
      → parts_in read (n + k) bytes ≡ then_read (parts_in read n bytes) (more_in k)
  parts-split zero k bytes =
      let e : 0 + k ≡ k = omega arith in
      rw e (sym (then_read-last (parts_in read k bytes)))
  parts-split (suc n) k bytes =
      let e : suc n + k ≡ suc (n + k) = omega arith in
      rw e (then_read-same (read bytes) _ _ (λ x mid.
      ap (λ (r : Reading (List A)). then_read r (λ xs rest. Some (x ∷ xs, rest))) (parts-split n k mid)
      ∙ then_read-then_read (parts_in read n mid) (more_in k) (λ xs rest. Some (x ∷ xs, rest))
      ∙ then_read-same (parts_in read n mid) _ _
      (λ xs rest. then_read-then_read (parts_in read k rest) (λ ys end. Some (xs ++ ys, end))
      (λ xs rest. Some (x ∷ xs, rest)))
      ∙ sym (then_read-then_read (parts_in read n mid) (λ xs rest. Some (x ∷ xs, rest)) (more_in k)))
      ∙ sym (then_read-then_read (read bytes)
      (λ x mid. then_read (parts_in read n mid) (λ xs rest. Some (x ∷ xs, rest))) (more_in k)))

  -- one more part behind those that were read
  pub parts-more : (n : ℕ) (bytes mid rest : List ℕ) (xs : List A) (x : A) → parts_in read n bytes ≡ Some (xs, mid)
      → read mid ≡ Some (x, rest)
      → parts_in read (n + 1) bytes ≡ Some (xs ++ x ∷ [], rest)
  parts-more n bytes mid rest xs x h e =
      parts-split n 1 bytes ∙ ap (λ (r : Reading (List A)). then_read r (more_in 1)) h
      ∙ ap (λ (r : Reading A). then_read (then_read r (λ x rest. Some (x ∷ [], rest)))
      (λ ys rest. Some (xs ++ ys, rest))) e

  -- a part that is not there
  pub parts-none : (n k : ℕ) (bytes mid : List ℕ) (xs : List A) → parts_in read n bytes ≡ Some (xs, mid)
      → read mid ≡ None → n < k → parts_in read k bytes ≡ None
  parts-none n k bytes mid xs h e l =
      let more : n + suc (k - n - 1) ≡ k = omega arith in
      ap (λ (m : ℕ). parts_in read m bytes) (sym more) ∙ parts-split n (suc (k - n - 1)) bytes
      ∙ ap (λ (r : Reading (List A)). then_read r (more_in (suc (k - n - 1)))) h
      ∙ ap (λ (r : Reading A). then_read
      (then_read r (λ x rest. then_read (parts_in read (k - n - 1) rest) (λ ys end. Some (x ∷ ys, end))))
      (λ ys rest. Some (xs ++ ys, rest))) e

  -- one more part, of which only what is behind it counts
  pub behind-more : (n : ℕ) (bytes mid rest : List ℕ) (x : A) → Some mid ≡ left_over (parts_in read n bytes)
      → read mid ≡ Some (x, rest) → Some rest ≡ left_over (parts_in read (n + 1) bytes)
  behind-more n bytes mid rest x h e = by (parts_in read n bytes) refl h
    where
      by : (r : Reading (List A)) → parts_in read n bytes ≡ r → Some mid ≡ left_over r
          → Some rest ≡ left_over (parts_in read (n + 1) bytes)
      by None p h = cc
      by (Some (xs, end)) p h =
          let same : end ≡ mid = cc in
          let all : parts_in read n bytes ≡ Some (xs, mid) = rw (← same) p in
          sym (ap left_over (parts-more n bytes mid rest xs x all e))

  -- a part that is not there, behind others
  pub behind-none : (n k : ℕ) (bytes mid : List ℕ) → Some mid ≡ left_over (parts_in read n bytes) → read mid ≡ None
      → n < k → None ≡ left_over (parts_in read k bytes)
  behind-none n k bytes mid h e l = by (parts_in read n bytes) refl h
    where
      by : (r : Reading (List A)) → parts_in read n bytes ≡ r → Some mid ≡ left_over r
          → None ≡ left_over (parts_in read k bytes)
      by None p h = cc
      by (Some (xs, end)) p h =
          let same : end ≡ mid = cc in
          let all : parts_in read n bytes ≡ Some (xs, mid) = rw (← same) p in
          sym (ap left_over (parts-none n k bytes mid xs all e l))
