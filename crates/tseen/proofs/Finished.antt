-- How a step of a process ends: flags, workspaces that change, and where the process stands.
use Rattle.std.proofs.Common.{◌≡◌, ℕ, refl, sym, ap, subst, ◌∙◌, Bool, true, false, true≢false, not, ◌⊎◌, inl}
use Rattle.std.specs.Prelude.{◌==◌, pos, negsuc, if◌then◌else◌}
use Rattle.std.proofs.lemmas.Bool.{eq-eqb}
use Rattle.tplan.specs.declared.plan.Plan.{Plan}
use Rattle.tprocesses.specs.Places.{Place, Name, WordAt, Sending, Standing, Ports}
use Rattle.tprocesses.specs.Places.{Half, LinkHalf, Unfinished, Error, HaltOnError, Life}
use Rattle.tprocesses.specs.Places.{Successions, Messages, Kept, Population, HasRun, FlagChanged, same_name}
use Rattle.tprocesses.specs.Places.{same_place}
use Rattle.tprocesses.specs.Values.{Value, Context, Stand, Runs, IsStand, IsFlag, flag_in}
use Rattle.tprocesses.specs.Changes.{Put, Add, Raise, apply}
use Rattle.tprocesses.specs.Parts.{Halts, require, change, done, ◌>>=◌, ◌>>◌}
use Rattle.tprocesses.specs.Instructions.{is_same_flag, sets_flag, sets_error}
use Rattle.tprocesses.specs.Standing.{stands, goes_on, moves}
use Rattle.tprocesses.specs.Touching.{Site}
use Rattle.tprocesses.proofs.Tidy.{process_machine_is_tidy}
use Rattle.tseen.proofs.After.{State, changed, After, after_bind, after_require}

-- a place of the flags of a node, and one of its counts of lives
abbrev pub is_flag_of : ℕ → Place → Bool
is_flag_of n (Error m) = n == m
is_flag_of n (HaltOnError m) = n == m
is_flag_of n (FlagChanged m) = n == m
is_flag_of n _ = false

abbrev pub is_life_of : ℕ → Place → Bool
is_life_of n (Life m w) = n == m
is_life_of n _ = false

-- it is where a process stands
abbrev pub is_stand_of : Name → Place → Bool
is_stand_of x (Standing y) = same_name x y
is_stand_of x _ = false

-- places are told apart
pub place_itself : Plan → (q : Place) → same_place q q ≡ true
place_itself p q = by (same_place q q) refl
  where
    by : (t : Bool) → same_place q q ≡ t → same_place q q ≡ true
    by true e = e
    by false e = absurd ((process_machine_is_tidy p).told.not_same_place q q e refl)

name_in : Name → Place → Name
name_in x (Standing y) = y
name_in x _ = x

pub one_name : Plan → (x y : Name) → same_name x y ≡ true → x ≡ y
unfolding name_in
one_name p x y h = ap (name_in x) ((process_machine_is_tidy p).told.is_same_place (Standing x) (Standing y) h)

-- a change of a flag was noted, or none was changed
abbrev pub IsNoted : ℕ → State → State → Type 0
IsNoted n s t =
    (flag_in (t (FlagChanged n)) ≡ true) ⊎ ((t (Error n) ≡ s (Error n)) × (t (HaltOnError n) ≡ s (HaltOnError n)))

flag_raised : (v : Value) → flag_in (apply Raise v) ≡ true
flag_raised (IsFlag b) = refl
flag_raised _ = refl

-- the flags are these now, and all else is as it was
pub record IsFlagged (n : ℕ) (e h : Bool) (s t : State) : Type 0 where
  pub error : t (Error n) ≡ IsFlag e
  pub halting : t (HaltOnError n) ≡ IsFlag h
  pub others : (q : Place) → is_flag_of n q ≡ false → t q ≡ s q
  -- if they are others than before, it is noted
  pub noted : IsNoted n s t

same_flag : (a b : Bool) → is_same_flag a b ≡ true → a ≡ b
same_flag true true h = refl
same_flag false false h = refl
same_flag true false h = absurd (true≢false (sym h))
same_flag false true h = absurd (true≢false (sym h))

module _ (site : Site) where
  abbrev n : ℕ
  n = site.number

  -- Error is set to what an instruction left
  pub sets_error_then : (old new h : Bool) (s t : State) (Q : Unit {0} → State → Type 0) → IsFlagged n old h s t
      → ((u : State) → IsFlagged n new h s u → Q tt u) → After (sets_flag site (Error n) old new) t Q
  sets_error_then old new h s t Q f k = by (is_same_flag old new) refl
    where
      put : State
      put = changed (FlagChanged n) Raise (changed (Error n) (Put (IsFlag new)) t)

      noted : flag_in (put (FlagChanged n)) ≡ true
      noted = rw (eq-eqb n n refl) (flag_raised (t (FlagChanged n)))

      others : (q : Place) → is_flag_of n q ≡ false → put q ≡ s q
      others (Error m) e = rw e (f.others (Error m) e)
      others (FlagChanged m) e = rw e (f.others (FlagChanged m) e)
      others (WordAt m i) e = f.others (WordAt m i) e
      others (Sending m i) e = f.others (Sending m i) e
      others (Standing x) e = f.others (Standing x) e
      others (Ports x) e = f.others (Ports x) e
      others (Half m c side) e = f.others (Half m c side) e
      others (LinkHalf m side) e = f.others (LinkHalf m side) e
      others (Unfinished m) e = f.others (Unfinished m) e
      others (HaltOnError m) e = f.others (HaltOnError m) e
      others (Life m w) e = f.others (Life m w) e
      others (Successions m w) e = f.others (Successions m w) e
      others (Messages m) e = f.others (Messages m) e
      others (Kept m) e = f.others (Kept m) e
      others (Population m) e = f.others (Population m) e
      others (HasRun m q) e = f.others (HasRun m q) e

      by : (b : Bool) → is_same_flag old new ≡ b
          → After (if b then done else (do
            change (Error n) (Put (IsFlag new))
            change (FlagChanged site.number) Raise)) t Q
      by true e =
          k t (subst (λ b. IsFlagged n b h s t) (same_flag old new e) f)
      by false e =
          k put (record {
            error = rw (eq-eqb n n refl) refl;
            halting = f.halting;
            others = others;
            noted = inl noted;
          })

  -- HaltOnError is
  pub sets_halting_then : (e old new : Bool) (s t : State) (Q : Unit {0} → State → Type 0) → IsFlagged n e old s t
      → ((u : State) → IsFlagged n e new s u → Q tt u) → After (sets_flag site (HaltOnError n) old new) t Q
  sets_halting_then e old new s t Q f k = by (is_same_flag old new) refl
    where
      put : State
      put = changed (FlagChanged n) Raise (changed (HaltOnError n) (Put (IsFlag new)) t)

      noted : flag_in (put (FlagChanged n)) ≡ true
      noted = rw (eq-eqb n n refl) (flag_raised (t (FlagChanged n)))

      others : (q : Place) → is_flag_of n q ≡ false → put q ≡ s q
      others (HaltOnError m) e = rw e (f.others (HaltOnError m) e)
      others (FlagChanged m) e = rw e (f.others (FlagChanged m) e)
      others (WordAt m i) e = f.others (WordAt m i) e
      others (Sending m i) e = f.others (Sending m i) e
      others (Standing x) e = f.others (Standing x) e
      others (Ports x) e = f.others (Ports x) e
      others (Half m c side) e = f.others (Half m c side) e
      others (LinkHalf m side) e = f.others (LinkHalf m side) e
      others (Unfinished m) e = f.others (Unfinished m) e
      others (Error m) e = f.others (Error m) e
      others (Life m w) e = f.others (Life m w) e
      others (Successions m w) e = f.others (Successions m w) e
      others (Messages m) e = f.others (Messages m) e
      others (Kept m) e = f.others (Kept m) e
      others (Population m) e = f.others (Population m) e
      others (HasRun m q) e = f.others (HasRun m q) e

      by : (b : Bool) → is_same_flag old new ≡ b
          → After (if b then done else (do
            change (HaltOnError n) (Put (IsFlag new))
            change (FlagChanged site.number) Raise)) t Q
      by true d =
          k t (subst (λ b. IsFlagged n e b s t) (same_flag old new d) f)
      by false d =
          k put (record {
            error = f.error;
            halting = rw (eq-eqb n n refl) refl;
            others = others;
            noted = inl noted;
          })

  -- what becomes of a count of lives where a process has another workspace
  abbrev pub moved : (old new w : ℕ) → Value → Value
  moved old new w v =
      if old == new then v
      else if new == w then apply (Add (pos 1)) (if old == w then apply (Add (negsuc 0)) v else v)
      else if old == w then apply (Add (negsuc 0)) v else v

  pub record HasMoved (old new : ℕ) (s t : State) : Type 0 where
    pub lives : (w : ℕ) → t (Life n w) ≡ moved old new w (s (Life n w))
    pub others : (q : Place) → is_life_of n q ≡ false → t q ≡ s q

  pub moves_then : (old new : ℕ) (s : State) (Q : Unit {0} → State → Type 0)
      → ((t : State) → HasMoved old new s t → Q tt t) → After (moves site old new) s Q
  moves_then old new s Q k = by (old == new) refl
    where
      put : State
      put = changed (Life n new) (Add (pos 1)) (changed (Life n old) (Add (negsuc 0)) s)

      others : (q : Place) → is_life_of n q ≡ false → put q ≡ s q
      others (Life m w) e = rw e refl
      others _ e = refl

      by : (b : Bool) → (old == new) ≡ b → After (if b then done else (do
        change (Life n old) (Add (negsuc 0))
        change (Life n new) (Add (pos 1)))) s Q
      by true e = k s (record { lives = λ w. rw e refl; others = λ q h. refl })
      by false e = k put (record { lives = λ w. rw (eq-eqb n n refl, e) refl; others = others })

  -- a process stands there, and all else is as it was
  pub record StandsNow (x : Name) (stand : Stand) (s t : State) : Type 0 where
    pub is : t (Standing x) ≡ IsStand stand
    pub others : (q : Place) → is_stand_of x q ≡ false → t q ≡ s q

  pub stands_then : Plan → (x : Name) (stand : Stand) (s : State) (Q : Unit {0} → State → Type 0)
      → ((t : State) → StandsNow x stand s t → Q tt t) → After (stands x stand) s Q
  stands_then p x stand s Q k =
      k (changed (Standing x) (Put (IsStand stand)) s) (record {
        is = rw (place_itself p (Standing x)) refl;
        others = others;
      })
    where
      others : (q : Place) → is_stand_of x q ≡ false → changed (Standing x) (Put (IsStand stand)) s q ≡ s q
      others (Standing y) e = rw e refl
      others _ e = refl

  -- Error is set, and the processor does not halt
  pub error_then : Plan → (x : Name) (c : Context) (e h : Bool) (s t : State) (Q : Unit {0} → State → Type 0)
      → IsFlagged n e h s t
      → ((u v : State) → h ≡ false → IsFlagged n true false s u → StandsNow x (Runs c) u v → Q tt v)
      → After (sets_error site x c) t Q
  error_then p x c e h s t Q f k =
      subst (λ (w : Value). After (require (not (flag_in w)) Halts >>=
      (λ _. change (Error n) Raise >>= (λ _. change (FlagChanged n) Raise >>= (λ _. goes_on x c)))) t Q) (sym f.halting)
      (after_bind (require (not h) Halts) _ t Q (after_require (not h) Halts t _ (λ low.
      stands_then p x (Runs c) put Q (λ v d. k put v (is_low h low) (flagged (is_low h low)) d))))
    where
      put : State
      put = changed (FlagChanged n) Raise (changed (Error n) Raise t)

      noted : flag_in (put (FlagChanged n)) ≡ true
      noted = rw (eq-eqb n n refl) (flag_raised (t (FlagChanged n)))

      is_low : (b : Bool) → not b ≡ true → b ≡ false
      is_low false l = refl
      is_low true l = absurd (true≢false (sym l))

      others : (q : Place) → is_flag_of n q ≡ false → put q ≡ s q
      others (Error m) e = rw e (f.others (Error m) e)
      others (FlagChanged m) e = rw e (f.others (FlagChanged m) e)
      others (WordAt m i) e = f.others (WordAt m i) e
      others (Sending m i) e = f.others (Sending m i) e
      others (Standing x) e = f.others (Standing x) e
      others (Ports x) e = f.others (Ports x) e
      others (Half m c side) e = f.others (Half m c side) e
      others (LinkHalf m side) e = f.others (LinkHalf m side) e
      others (Unfinished m) e = f.others (Unfinished m) e
      others (HaltOnError m) e = f.others (HaltOnError m) e
      others (Life m w) e = f.others (Life m w) e
      others (Successions m w) e = f.others (Successions m w) e
      others (Messages m) e = f.others (Messages m) e
      others (Kept m) e = f.others (Kept m) e
      others (Population m) e = f.others (Population m) e
      others (HasRun m q) e = f.others (HasRun m q) e

      flagged : h ≡ false → IsFlagged n true false s put
      flagged low =
          record {
            error = rw (eq-eqb n n refl) (ap (apply Raise) f.error);
            halting = f.halting ∙ ap IsFlag low;
            others = others;
            noted = inl noted;
          }
