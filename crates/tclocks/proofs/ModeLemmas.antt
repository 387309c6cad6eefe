-- What modes collide with.
use Rattle.std.proofs.Common.{◌≡◌, ℕ, true, false, refl, ◌∙◌, ap, sym, inl, inr, true≢false}
use Rattle.std.proofs.Common.{Bool, not, eqb, arith}
use Rattle.std.proofs.lemmas.Bool.{eq-eqb}
use Rattle.std.proofs.lemmas.Bool.Decides.{nat_tests}
use Rattle.tclocks.specs.declared.mode.Mode.{Mode}
use Rattle.tclocks.specs.declared.mode.Mode.TheVariants.{Looks, Checks, Claims, Puts, Lends, Commutes}
use Rattle.tclocks.specs.Modes.{collide, covers}
use Rattle.tclocks.proofs.Lists.{test}

no : {A : Type 0} → false ≡ true → A
no h = absurd (true≢false (sym h))

-- a mode covers itself
pub covers-self : (k : Mode) → covers k k ≡ true
covers-self Looks = refl
covers-self Checks = refl
covers-self Claims = refl
covers-self Puts = refl
covers-self Lends = refl
covers-self (Commutes kind) = eq-eqb kind kind refl

pub covers-collide : (i j k : Mode) → covers i j ≡ true → collide j k ≡ true → collide i k ≡ true
covers-collide i j k h c = grind (arith, nat_tests)

pub covers-trans : (i j k : Mode) → covers i j ≡ true → covers j k ≡ true → covers i k ≡ true
covers-trans i j k h g = grind (arith, nat_tests)

pub both-ways : (j k : Mode) → collide j k ≡ collide k j
both-ways Looks Looks = refl
both-ways Looks Checks = refl
both-ways Looks Claims = refl
both-ways Looks Puts = refl
both-ways Looks Lends = refl
both-ways Looks (Commutes kind) = refl
both-ways Checks Looks = refl
both-ways Checks Checks = refl
both-ways Checks Claims = refl
both-ways Checks Puts = refl
both-ways Checks Lends = refl
both-ways Checks (Commutes kind) = refl
both-ways Claims Looks = refl
both-ways Claims Checks = refl
both-ways Claims Claims = refl
both-ways Claims Puts = refl
both-ways Claims Lends = refl
both-ways Claims (Commutes kind) = refl
both-ways Puts Looks = refl
both-ways Puts Checks = refl
both-ways Puts Claims = refl
both-ways Puts Puts = refl
both-ways Puts Lends = refl
both-ways Puts (Commutes kind) = refl
both-ways Lends Looks = refl
both-ways Lends Checks = refl
both-ways Lends Claims = refl
both-ways Lends Puts = refl
both-ways Lends Lends = refl
both-ways Lends (Commutes kind) = refl
both-ways (Commutes kind) Looks = refl
both-ways (Commutes kind) Checks = refl
both-ways (Commutes kind) Claims = refl
both-ways (Commutes kind) Puts = refl
both-ways (Commutes kind) Lends = refl
both-ways (Commutes kind) (Commutes other) =
    let e : eqb kind other ≡ eqb other kind = grind (arith, nat_tests) in ap (λ (b : Bool). not b) e

-- a change does not collide with one of its own kind
kind-collides-not : {A : Type 0} (kind : ℕ) → not (eqb kind kind) ≡ true → A
kind-collides-not kind h = no (sym (ap (λ (b : Bool). not b) (eq-eqb kind kind refl)) ∙ h)

same-kind : (kind other : ℕ) → (not (eqb other kind) ≡ true → not (eqb kind kind) ≡ true) → eqb kind other ≡ true
same-kind kind other h = elim (test (eqb kind other)) as (λ _. eqb kind other ≡ true) [
  | inl e ↦ e
  | inr e ↦
      let apart : eqb other kind ≡ false = let swap : eqb kind other ≡ eqb other kind = grind (arith, nat_tests) in
      sym swap ∙ e in
      kind-collides-not kind (h (ap (λ (b : Bool). not b) apart))
]

-- a mode covers each one of which it shares all that collides
pub covers-all : (j k : Mode) → ((i : Mode) → collide k i ≡ true → collide j i ≡ true) → covers j k ≡ true
covers-all Looks Looks h = refl
covers-all Looks Checks h = no (h Lends refl)
covers-all Looks Claims h = no (h Lends refl)
covers-all Looks Puts h = no (h Looks refl)
covers-all Looks Lends h = no (h Checks refl)
covers-all Looks (Commutes kind) h = no (h Looks refl)
covers-all Checks Looks h = no (h (Commutes 0) refl)
covers-all Checks Checks h = refl
covers-all Checks Claims h = no (h (Commutes 0) refl)
covers-all Checks Puts h = no (h Looks refl)
covers-all Checks Lends h = no (h Checks refl)
covers-all Checks (Commutes kind) h = no (h Looks refl)
covers-all Claims Looks h = refl
covers-all Claims Checks h = refl
covers-all Claims Claims h = refl
covers-all Claims Puts h = no (h Looks refl)
covers-all Claims Lends h = no (h Checks refl)
covers-all Claims (Commutes kind) h = no (h Looks refl)
covers-all Puts k h = refl
covers-all Lends Looks h = refl
covers-all Lends Checks h = no (h Lends refl)
covers-all Lends Claims h = no (h Lends refl)
covers-all Lends Puts h = no (h Looks refl)
covers-all Lends Lends h = refl
covers-all Lends (Commutes kind) h = no (h Looks refl)
covers-all (Commutes kind) Looks h = kind-collides-not kind (h (Commutes kind) refl)
covers-all (Commutes kind) Checks h = refl
covers-all (Commutes kind) Claims h = kind-collides-not kind (h (Commutes kind) refl)
covers-all (Commutes kind) Puts h = kind-collides-not kind (h (Commutes kind) refl)
covers-all (Commutes kind) Lends h = kind-collides-not kind (h (Commutes kind) refl)
covers-all (Commutes kind) (Commutes other) h = same-kind kind other (h (Commutes kind))
