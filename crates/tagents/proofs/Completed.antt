-- Each run is completed, by moving its steps to the front of the one without races, one after another.
use Rattle.std.proofs.Common.{suc, ◌≡◌, refl, sym, ap, ◌∙◌, subst, List, [], ◌∷◌, ◌++◌, Bool, true, false}
use Rattle.std.proofs.Common.{inl, inr, length, arith, if◌then◌else◌}
use Rattle.std.proofs.lemmas.List.{append-nil}
use Rattle.tagents.specs.Agents.{Agents, IsRun, IsOver, own}
use Rattle.tagents.specs.Races.{IsRaceFree, TakesNothing}
use Rattle.tagents.specs.Certificates.{IsReached, IsLawful, IsCompleted}
use Rattle.tagents.specs.Certificates.{EachRunIsCompleted, EachEndIsTheEnd}
use Rattle.tagents.proofs.Lists.{NoneBefore, race_free, takes_nothing}
use Rattle.tagents.proofs.Fronted.{Fronted, fronted, reached_step, test}

-- two elements of which at most one is kept change places
swapped : {X : Type 0} (b c : Bool) (x y : X) (u v : List X) → (b ≡ true → c ≡ true → ⊥)
    → (if b then x ∷ u else u) ≡ v
    → (if b then x ∷ (if c then y ∷ u else u) else (if c then y ∷ u else u)) ≡ (if c then y ∷ v else v)
swapped true true x y u v h e = absurd (h refl refl)
swapped true false x y u v h e = e
swapped false true x y u v h e = ap (λ z. y ∷ z) e
swapped false false x y u v h e = e

-- an element is put in front of both
put_before : {X : Type 0} (b : Bool) (x : X) (u v w : List X) → u ++ v ≡ w
    → (if b then x ∷ u else u) ++ v ≡ (if b then x ∷ w else w)
put_before true x u v w e = ap (λ z. x ∷ z) e
put_before false x u v w e = e

count_moved : {X : Type 0} (f : X) (pre post : List X) → suc (length (pre ++ post)) ≡ length (pre ++ f ∷ post)
count_moved f [] post = refl
count_moved f (z ∷ zs) post = ap suc (count_moved f zs post)

module _ {State Agent Label : Type 0} (m : Agents State Agent Label) (start : State) (laws : IsLawful m start) where
  same_self : (x : Agent) → m.same x x ≡ true
  same_self x =
      elim (test (m.same x x)) as (λ _. m.same x x ≡ true) [
        | inl t ↦ t
        | inr n ↦ absurd (laws.not_same x x n refl)
      ]

  -- a step is moved over others of which none is its agent's: each agent does the same
  own_moved : (a : Agent) (f : Label) (pre post : List Label) → NoneBefore m f pre
      → own m a (f ∷ (pre ++ post)) ≡ own m a (pre ++ f ∷ post)
  own_moved a f [] post none = refl
  own_moved a f (z ∷ zs) post none =
      swapped (m.same (m.agent_of f) a) (m.same (m.agent_of z) a) f z (own m a (zs ++ post)) (own m a (zs ++ f ∷ post))
      (λ p q.
      none.0
      (inl
      (subst (λ (x : Agent). m.same (m.agent_of z) x ≡ true)
      (laws.is_same (m.agent_of z) a q ∙ sym (laws.is_same (m.agent_of f) a p)) (same_self (m.agent_of z)))))
      (own_moved a f zs post none.1)

  completed : (others : List Label) (s end s' : State) (steps : List Label) → IsReached m start s → IsRun m s steps end
      → IsOver m end → IsRaceFree m steps → TakesNothing m steps → IsRun m s others s'
      → IsCompleted m others s' steps end
  completed [] s end s' steps r run over free takes other =
      record {
        rest = steps;
        run = subst (λ (x : State). IsRun m x steps end) other run;
        as_long = omega arith;
        as_each = λ a. refl;
      }
  completed (f ∷ fs) s end s' steps r run over free takes other =
      let fr : Fronted m start laws other.0 f steps end =
      fronted m start laws steps s other.0 end f r run over free takes other.1 in
      let c : IsCompleted m fs s' (fr.pre ++ fr.post) end =
      completed fs other.0 end s' (fr.pre ++ fr.post) (reached_step m start s other.0 f r other.1) fr.run over
      (race_free m f fr.pre fr.post fr.none (subst (IsRaceFree m) fr.are free))
      (takes_nothing m f fr.pre fr.post (subst (TakesNothing m) fr.are takes)) other.2 in
      let count : suc (length (fr.pre ++ fr.post)) ≡ length steps =
      count_moved f fr.pre fr.post ∙ sym (ap length fr.are) in
      record {
        rest = c.rest;
        run = c.run;
        as_long = omega (arith, c.as_long, count);
        as_each = λ a.
            put_before (m.same (m.agent_of f) a) f (own m a fs) (own m a c.rest) (own m a (fr.pre ++ fr.post))
            (c.as_each a)
            ∙ own_moved a f fr.pre fr.post fr.none
            ∙ ap (own m a) (sym fr.are);
      }

pub each_run_is_completed : (State Agent Label : Type 0) → EachRunIsCompleted State Agent Label
each_run_is_completed State Agent Label m start end s steps others c other =
    completed m start c.lawful others start end s steps (record { steps = []; run = refl }) c.run c.over c.race_free
    c.takes_nothing other

-- what is over has no rest
no_rest : {State Agent Label : Type 0} (m : Agents State Agent Label) (s end : State) (rest : List Label)
    → IsRun m s rest end → IsOver m s → (rest ≡ []) × (s ≡ end)
no_rest m s end [] run over = (refl, run)
no_rest m s end (e ∷ es) run over = absurd (over e run.0 run.1)

pub each_end_is_the_end : (State Agent Label : Type 0) → EachEndIsTheEnd State Agent Label
each_end_is_the_end State Agent Label m start end s steps others c other over =
    let k : IsCompleted m others s steps end =
    each_run_is_completed State Agent Label m start end s steps others c other in
    let n : (k.rest ≡ []) × (s ≡ end) = no_rest m s end k.rest k.run over in
    let none : length k.rest ≡ 0 = ap length n.0 in
    record {
      ends = n.1;
      as_long = omega (arith, k.as_long, none);
      as_each = λ a.
          sym (append-nil (own m a others))
          ∙ ap (λ (x : List Label). own m a others ++ own m a x) (sym n.0)
          ∙ k.as_each a;
    }
