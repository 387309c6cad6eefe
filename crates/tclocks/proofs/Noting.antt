-- What is kept of a place behind an access.
use Rattle.std.proofs.Common.{◌≡◌, ◌≢◌, ℕ, ◌<◌, ◌⊎◌, inl, inr, Bool, true, false, not, cond, ◌&&◌, ◌||◌, ◌==◌, List, []}
use Rattle.std.proofs.Common.{◌∷◌, ◌++◌, ap, refl, sym, ◌∙◌, subst, arith, nat_le, slice_index}
use Rattle.std.proofs.Common.{None, Some, Contains, eqb, filter, find, true≢false}
use Rattle.std.proofs.lemmas.Bool.{eqb-true, eq-eqb}
use Rattle.std.proofs.lemmas.List.Elements.{Contains-append_left}
use Rattle.std.proofs.lemmas.List.Elements.{Contains-push, Contains-push_cases}
use Rattle.tclocks.specs.declared.mode.Mode.{Mode}
use Rattle.tclocks.specs.declared.step.Step.{Step}
use Rattle.tclocks.specs.declared.step.Access.{Access}
use Rattle.tclocks.specs.Modes.{collide, covers}
use Rattle.tclocks.specs.Places.{knows_of, races, is_replaced, NotesAccess, IsReplaced}
use Rattle.tclocks.specs.Kept.{unless_none}
use Rattle.tclocks.proofs.Lists.{test, contains-cons, contains-first, contains-rest}

-- what a filter keeps was there
from-filter : (p : Access → Bool) (xs : List Access) (y : Access) → Contains (filter p xs) y → Contains xs y
from-filter p [] y has = has
from-filter p (x ∷ xs) y has =
    elim (test (p x)) as (λ _. Contains (x ∷ xs) y) [
      | inl pass ↦ elim (contains-cons x (filter p xs) y
          (subst (λ (b : Bool). Contains (cond b (x ∷ filter p xs) (filter p xs)) y) pass has)) as
          (λ _. Contains (x ∷ xs) y) [
            | inl e ↦ subst (λ (z : Access). Contains (x ∷ xs) z) e (contains-first x xs)
            | inr rest ↦ contains-rest x xs y (from-filter p xs y rest)
          ]
      | inr fail ↦ contains-rest x xs y (from-filter p xs y
          (subst (λ (b : Bool). Contains (cond b (x ∷ filter p xs) (filter p xs)) y) fail has))
    ]

-- and what passes the test is kept
into-filter : (p : Access → Bool) (xs : List Access) (y : Access) → Contains xs y → p y ≡ true
    → Contains (filter p xs) y
into-filter p [] y has ok = has
into-filter p (x ∷ xs) y has ok =
    elim (contains-cons x xs y has) as (λ _. Contains (filter p (x ∷ xs)) y) [
      | inl e ↦ subst (λ (b : Bool). Contains (cond b (x ∷ filter p xs) (filter p xs)) y)
          (sym (ap p e ∙ ok)) (subst (λ (z : Access). Contains (x ∷ filter p xs) z) e (contains-first x (filter p xs)))
      | inr rest ↦ elim (test (p x)) as (λ _. Contains (filter p (x ∷ xs)) y) [
        | inl pass ↦ subst (λ (b : Bool). Contains (cond b (x ∷ filter p xs) (filter p xs)) y) (sym pass)
            (contains-rest x (filter p xs) y (into-filter p xs y rest ok))
        | inr fail ↦ subst (λ (b : Bool). Contains (cond b (x ∷ filter p xs) (filter p xs)) y) (sym fail)
            (into-filter p xs y rest ok)
      ]
    ]

-- what is replaced is covered and known
both-hold : (a b : Bool) → (a && b) ≡ true → (a ≡ true) × (b ≡ true)
both-hold true true h = (refl, refl)
both-hold true false h = absurd (true≢false (sym h))
both-hold false b h = absurd (true≢false (sym h))

not-false : (a : Bool) → not a ≡ false → a ≡ true
not-false true h = refl
not-false false h = absurd (true≢false h)

pub replaced : (clock : List ℕ) (new old : Access) → is_replaced clock new old ≡ true → IsReplaced clock new old
replaced clock new old h =
    let two : (covers new.mode old.mode ≡ true) × (knows_of new.step.agent clock old.step ≡ true) =
    both-hold (covers new.mode old.mode) (knows_of new.step.agent clock old.step) h in
    record { covered = two.0; known = two.1 }

-- an access beside those that it does not replace
abbrev pub stays_beside : List ℕ → Access → Access → Bool
stays_beside clock new old = not (is_replaced clock new old)

pub stays-notes : (clock : List ℕ) (new : Access) (before : List Access)
    → NotesAccess clock new before (filter (λ old. not (is_replaced clock new old)) before ++ new ∷ [])
stays-notes clock new before = record {
  noted = Contains-push (filter (stays_beside clock new) before) new;
  kept = λ old has. elim (test (stays_beside clock new old)) as
      (λ _. Contains (filter (stays_beside clock new) before ++ new ∷ []) old ⊎ IsReplaced clock new old) [
        | inl pass ↦ inl (Contains-append_left (filter (stays_beside clock new) before) (new ∷ []) old
            (into-filter (stays_beside clock new) before old has pass))
        | inr fail ↦ inr (replaced clock new old (not-false (is_replaced clock new old) fail))
      ];
  only = λ old has. elim (Contains-push_cases (filter (stays_beside clock new) before) new old has) as
      (λ _. (old ≡ new) ⊎ Contains before old) [
        | inl kept ↦ inr (from-filter (stays_beside clock new) before old kept)
        | inr e ↦ inl (sym e)
      ];
}

-- where no access races, none is found
pub none-found : (p : Access → Bool) (xs : List Access) → ((x : Access) → Contains xs x → p x ≡ false)
    → find p xs ≡ None
none-found p [] h = refl
none-found p (x ∷ xs) h =
    subst (λ (b : Bool). cond b (Some x) (find p xs) ≡ None) (sym (h x (contains-first x xs)))
    (none-found p xs (λ y has. h y (contains-rest x xs y has)))

-- what is known does not race
known-calm : (a b : Bool) → b ≡ true → (a && not b) ≡ false
known-calm true true h = refl
known-calm true false h = absurd (true≢false (sym h))
known-calm false b h = refl

pub calm : (agent : ℕ) (clock : List ℕ) (mode : Mode) (access : Access) → knows_of agent clock access.step ≡ true
    → races agent clock mode access ≡ false
calm agent clock mode access h = known-calm (collide access.mode mode) (knows_of agent clock access.step) h

left-true : (a b : Bool) → a ≡ true → (a || b) ≡ true
left-true true b h = refl
left-true false b h = absurd (true≢false (sym h))

-- an agent knows of its own steps
pub own-known : (agent : ℕ) (clock : List ℕ) (step : Step) → step.agent ≡ agent → knows_of agent clock step ≡ true
own-known agent clock step e =
    left-true (step.agent == agent) (nat_le step.number (slice_index clock step.agent)) (eq-eqb step.agent agent e)

contains-nothing : (x : Access) → Contains [] x → ⊥
contains-nothing x h = omega (arith, h.1)

contains-only : (y x : Access) → Contains (y ∷ []) x → x ≡ y
contains-only y x h = elim (contains-cons y [] x h) as (λ _. x ≡ y) [
  | inl e ↦ sym e
  | inr rest ↦ absurd (contains-nothing x rest)
]

pub in-some : (access x : Access) → Contains (unless_none access) x → x ≡ access
in-some access x has = elim (test (eqb access.step.number 0)) as (λ _. x ≡ access) [
  | inl none ↦ absurd (contains-nothing x
      (subst (λ (b : Bool). Contains (cond b [] (access ∷ [])) x) none has))
  | inr some ↦ contains-only access x (subst (λ (b : Bool). Contains (cond b [] (access ∷ [])) x) some has)
]

not-none : (n : ℕ) → n ≢ 0 → eqb n 0 ≡ false
not-none n h = elim (test (eqb n 0)) as (λ _. eqb n 0 ≡ false) [
  | inl e ↦ absurd (h (eqb-true n 0 e))
  | inr e ↦ e
]

pub some-alone : (access : Access) → access.step.number ≢ 0 → unless_none access ≡ access ∷ []
some-alone access some = ap (λ (b : Bool). cond b [] (access ∷ [])) (not-none access.step.number some)

pub some-in : (access : Access) → 0 < access.step.number → Contains (unless_none access) access
some-in access some =
    subst (λ (list : List Access). Contains list access)
    (sym (some-alone access (λ e. omega (arith, e, some)))) (contains-first access [])
