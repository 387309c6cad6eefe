-- A process is added, and another one starts it.
use Rattle.std.proofs.Common.{◌≡◌, ℕ, refl, Bool, true, false, ◌%◌}
use Rattle.std.specs.Prelude.{◌==◌, pos, if◌then◌else◌}
use Rattle.std.proofs.lemmas.Bool.{eq-eqb}
use Rattle.tword.specs.Touches.{is_aligned}
use Rattle.tword.specs.declared.breaks.Break.TheVariants.{Unaligned, AlreadyLive}
use Rattle.tplan.specs.declared.plan.Plan.{Plan}
use Rattle.tprocesses.specs.Places.{Place, Name, Standing, Life, Population, HasRun, same_name}
use Rattle.tprocesses.specs.Values.{Context, Stand, Rests, IsStand, stand_in, amount_in}
use Rattle.tprocesses.specs.Changes.{Put, Add, Raise, apply}
use Rattle.tprocesses.specs.Parts.{Breaks, HasNoStep, require}
use Rattle.tprocesses.specs.Touching.{Site, is_zero, kept}
use Rattle.tprocesses.specs.Standing.{comes, starts, is_absent}
use Rattle.tseen.proofs.After.{State, changed, After, after_bind, after_require}
use Rattle.tseen.proofs.Finished.{place_itself}
use Rattle.tseen.proofs.Saving.{IsSaved, save_then}

-- a place that changes where a process comes
abbrev pub is_coming : ℕ → Name → Place → Bool
is_coming n x (Standing y) = same_name x y
is_coming n x (Life m w) = n == m
is_coming n x (Population m) = n == m
is_coming n x (HasRun m q) = n == m
is_coming n x _ = false

module _ (site : Site) where
  abbrev n : ℕ
  n = site.number

  -- a process has come, and stands there
  pub record HasCome (x : Name) (c : Context) (stand : Stand) (s t : State) : Type 0 where
    pub alone : is_zero (amount_in (s (Life n c.wptr))) ≡ true
    pub absent : is_absent (stand_in (s (Standing x))) ≡ true
    pub is : t (Standing x) ≡ IsStand stand
    pub lives : (w : ℕ)
        → t (Life n w) ≡ (if c.wptr == w then apply (Add (pos 1)) (s (Life n w)) else s (Life n w))
    pub population : t (Population n) ≡ apply (Add (pos 1)) (s (Population n))
    pub runs : (q : ℕ)
        → t (HasRun n q) ≡ (if c.priority == q then apply Raise (s (HasRun n q)) else s (HasRun n q))
    pub others : (q : Place) → is_coming n x q ≡ false → t q ≡ s q

  pub comes_then : Plan → (x : Name) (c : Context) (stand : Context → Stand) (s : State)
      (Q : Unit {0} → State → Type 0) → ((t : State) → HasCome x c (stand c) s t → Q tt t)
      → After (comes site x c stand) s Q
  comes_then p x c stand s Q k =
      after_bind (require (is_zero (amount_in (s (Life n c.wptr)))) (Breaks AlreadyLive)) _ s Q
      (after_require (is_zero (amount_in (s (Life n c.wptr)))) (Breaks AlreadyLive) s _ (λ alone.
      after_bind (require (is_absent (stand_in (s (Standing x)))) HasNoStep) _ counted Q
      (after_require (is_absent (stand_in (s (Standing x)))) HasNoStep counted _ (λ absent. k put (record {
        alone = alone;
        absent = absent;
        is = rw (place_itself p (Standing x)) refl;
        lives = λ w. rw (eq-eqb n n refl) refl;
        population = rw (eq-eqb n n refl) refl;
        runs = λ q. rw (eq-eqb n n refl) refl;
        others = others;
      })))))
    where
      counted : State
      counted = changed (Life n c.wptr) (Add (pos 1)) s

      put : State
      put = changed (HasRun n c.priority) Raise (changed (Population n) (Add (pos 1))
          (changed (Standing x) (Put (IsStand (stand c))) counted))

      others : (q : Place) → is_coming n x q ≡ false → put q ≡ s q
      others (Standing y) e = rw e refl
      others (Life m w) e = rw e refl
      others (Population m) e = rw e refl
      others (HasRun m q) e = rw e refl
      others _ e = refl

  -- a process was started: its words are saved
  pub starts_then : Plan → (whole : site.size % 4 ≡ 0) (x : Name) (c : Context) (s : State)
      (Q : Unit {0} → State → Type 0)
      → (is_aligned c.wptr ≡ true → (t u : State) → HasCome x c (Rests c) s t → IsSaved site whole t u c.wptr kept
      → Q tt u)
      → After (starts site x c) s Q
  starts_then p whole x c s Q k =
      after_bind (require (is_aligned c.wptr) (Breaks Unaligned)) _ s Q
      (after_require (is_aligned c.wptr) (Breaks Unaligned) s _ (λ aligned.
      after_bind (comes site x c Rests) _ s Q (comes_then p x c Rests s _ (λ t come.
      save_then site whole c.wptr kept t Q (λ u saved. k aligned t u come saved)))))
