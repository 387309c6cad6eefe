-- What the changes of a step begin, end and move, at one node.
use Rattle.std.proofs.Common.{◌≡◌, ℕ, ◌+◌, ◌≤◌, refl, sym, ap, subst, ◌∙◌, Bool, true, false, cond, List, [], ◌∷◌, ◌++◌}
use Rattle.std.proofs.Common.{length, arith, pos, negsuc}
use Rattle.std.specs.Prelude.{◌+ℤ◌, ◌==◌, ◌&&◌, if◌then◌else◌}
use Rattle.std.specs.List.{count_by}
use Rattle.std.proofs.lemmas.List.Sums.{sum_by-append, sum_by-cons}
use Rattle.std.proofs.lemmas.Int.{ints}
use Rattle.tprocesses.specs.Places.{Place, Name, Standing, Life, Population, same_place}
use Rattle.tprocesses.specs.Values.{Value, Ended, IsStand, IsAmount}
use Rattle.tprocesses.specs.Changes.{Change, Put, Add, apply}
use Rattle.tprocesses.specs.Parts.{Reason, Part, gives, stopping, Changed, change, made}
use Rattle.tprocesses.specs.Certified.{adds_process, ends_process}
use Rattle.tprocesses.proofs.Safe.{altered}
use Rattle.tprocesses.proofs.Quiet.{IsPlain, Quiet}
use Rattle.tprocesses.proofs.Plain.{Plain, plain}
use Rattle.tprocesses.proofs.Leaving.{AllTame, tame_more, plain_tame, Leads, nothing, stops, lighter, makes}

-- one that is counted, or none
abbrev pub one_if : Bool → ℕ
one_if t = cond t 1 0

-- how many are counted
pub count_front : {X : Type 0} (f : X → Bool) (x : X) (xs : List X)
    → count_by f (x ∷ xs) ≡ one_if (f x) + count_by f xs
count_front f x xs = sum_by-cons (λ y. one_if (f y)) x xs

pub count_both : {X : Type 0} (f : X → Bool) (xs ys : List X)
    → count_by f (xs ++ ys) ≡ count_by f xs + count_by f ys
count_both f xs ys = sum_by-append (λ y. one_if (f y)) xs ys

pub count_last : {X : Type 0} (f : X → Bool) (xs : List X) (x : X)
    → count_by f (xs ++ x ∷ []) ≡ count_by f xs + one_if (f x)
count_last f xs x = let one : count_by f (x ∷ []) ≡ one_if (f x) + 0 = count_front f x [] in
    count_both f xs (x ∷ []) ∙ omega (arith, one)

-- one more change at a place
pub made_more : (cs : List Changed) (p q : Place) (c : Change) (v : Value)
    → made (cs ++ altered p c ∷ []) q v ≡ (if same_place p q then apply c (made cs q v) else made cs q v)
made_more [] p q c v = refl
made_more (x ∷ cs) p q c v = made_more cs p q c (if same_place x.place q then apply x.change v else v)

-- how many have a workspace
abbrev pub count_at : ℕ → List ℕ → ℕ
count_at w ws = count_by (λ v. v == w) ws

-- a value is the difference of two numbers
abbrev pub IsDifference : Value → (x y : ℕ) → Type 0
IsDifference (IsAmount z) x y = z +ℤ pos y ≡ pos x
IsDifference _ x y = ⊥

one_up : (v : Value) (x y : ℕ) → IsDifference v x y → IsDifference (apply (Add (pos 1)) v) (x + 1) y
one_up (IsAmount z) x y h = omega (arith, ints, h)
one_up _ x y h = absurd h

one_down : (v : Value) (x y : ℕ) → IsDifference v x y → IsDifference (apply (Add (negsuc 0)) v) x (y + 1)
one_down (IsAmount z) x y h = omega (arith, ints, h)
one_down _ x y h = absurd h

-- the same, if it is there
up_if : (t : Bool) (v : Value) (x y : ℕ) → IsDifference v x y
    → IsDifference (if t then apply (Add (pos 1)) v else v) (x + one_if t) y
up_if true v x y h = one_up v x y h
up_if false v x y h = subst (λ z. IsDifference v z y) (omega arith) h

down_if : (t : Bool) (v : Value) (x y : ℕ) → IsDifference v x y
    → IsDifference (if t then apply (Add (negsuc 0)) v else v) x (y + one_if t)
down_if true v x y h = one_down v x y h
down_if false v x y h = subst (λ z. IsDifference v x z) (omega arith) h

-- workspaces with one more, if it is there
abbrev pub added : Bool → ℕ → List ℕ → List ℕ
added true w ws = w ∷ ws
added false w ws = ws

pub length_added : (t : Bool) (w : ℕ) (ws : List ℕ) → length (added t w ws) ≡ length ws + one_if t
length_added true w ws = omega arith
length_added false w ws = omega arith

count_added : (t : Bool) (w v : ℕ) (ws : List ℕ) → count_at v (added t w ws) ≡ count_at v ws + one_if (t && (w == v))
count_added true w v ws = let one = count_front (λ u. u == v) w ws in omega (arith, one)
count_added false w v ws = omega arith

module _ (n : ℕ) where
  -- what changes tally: the workspaces that have a process more, and those that have one less, as often as they do, and
  -- how many processes have begun and ended
  pub record Tally (us ds : List ℕ) (b e : ℕ) (cs : List Changed) : Type 0 where
    pub tame : AllTame cs
    pub lives : (w : ℕ) (v : Value) (x y : ℕ) → IsDifference v x y
        → IsDifference (made cs (Life n w) v) (x + count_at w us) (y + count_at w ds)
    pub begun : count_by (adds_process n) cs ≡ b
    pub ended : count_by (ends_process n) cs ≡ e

  -- no change, and one more
  pub no_changes : Tally [] [] 0 0 []
  no_changes =
      record {
        tame = tt;
        lives = λ w v x y h. subst (λ z. IsDifference v z (y + 0)) (omega arith)
            (subst (λ z. IsDifference v x z) (omega arith) h);
        begun = refl;
        ended = refl;
      }

  no_life : (q : Place) (c : Change) (w : ℕ) → IsPlain q c → same_place q (Life n w) ≡ false
  no_life (Life m v) c w h = absurd h
  no_life _ c w h = refl

  not_added : (q : Place) (c : Change) → IsPlain q c → adds_process n (altered q c) ≡ false
  not_added (Population m) c h = absurd h
  not_added _ c h = refl

  not_ended : (q : Place) (c : Change) → IsPlain q c → ends_process n (altered q c) ≡ false
  not_ended (Standing x) (Put (IsStand Ended)) h = absurd h
  not_ended _ c h = refl

  elsewhere : (us ds : List ℕ) (b e : ℕ) (cs : List Changed) (q : Place) (c : Change)
      → ((w : ℕ) → same_place q (Life n w) ≡ false) → Tally us ds b e cs → (w : ℕ) (v : Value) (x y : ℕ)
      → IsDifference v x y
      → IsDifference (made (cs ++ altered q c ∷ []) (Life n w) v) (x + count_at w us) (y + count_at w ds)
  elsewhere us ds b e cs q c away t w v x y h =
      subst (λ (z : Value). IsDifference z (x + count_at w us) (y + count_at w ds))
      (sym (made_more cs q (Life n w) c v ∙ rw (away w) refl)) (t.lives w v x y h)

  plain_stays : (us ds : List ℕ) (b e : ℕ) (cs : List Changed) (q : Place) (c : Change) → IsPlain q c
      → Tally us ds b e cs → Tally us ds b e (cs ++ altered q c ∷ [])
  plain_stays us ds b e cs q c plain t =
      let none : one_if (adds_process n (altered q c)) ≡ 0 = ap (λ z. one_if z) (not_added q c plain) in
      let no : one_if (ends_process n (altered q c)) ≡ 0 = ap (λ z. one_if z) (not_ended q c plain) in
      let more = count_last (adds_process n) cs (altered q c) in
      let others = count_last (ends_process n) cs (altered q c) in
      record {
        tame = tame_more cs q c t.tame (plain_tame q c plain);
        lives = elsewhere us ds b e cs q c (λ w. no_life q c w plain) t;
        begun = omega (arith, more, none, t.begun);
        ended = omega (arith, others, no, t.ended);
      }

  -- a workspace of node m has a process more, or one less
  life_up : (us ds : List ℕ) (b e : ℕ) (cs : List Changed) (m u : ℕ) → Tally us ds b e cs
      → Tally (added (m == n) u us) ds b e (cs ++ altered (Life m u) (Add (pos 1)) ∷ [])
  life_up us ds b e cs m u t =
      let more = count_last (adds_process n) cs (altered (Life m u) (Add (pos 1))) in
      let others = count_last (ends_process n) cs (altered (Life m u) (Add (pos 1))) in
      record {
        tame = tame_more cs (Life m u) (Add (pos 1)) t.tame tt;
        lives = λ w v x y h.
            let at = count_added (m == n) u w us in
            subst (λ (z : Value). IsDifference z (x + count_at w (added (m == n) u us)) (y + count_at w ds))
            (sym (made_more cs (Life m u) (Life n w) (Add (pos 1)) v))
            (subst (λ z. IsDifference (if (m == n) && (u == w) then apply (Add (pos 1)) (made cs (Life n w) v)
            else made cs (Life n w) v) z (y + count_at w ds)) (omega (arith, at))
            (up_if ((m == n) && (u == w)) (made cs (Life n w) v) (x + count_at w us) (y + count_at w ds)
            (t.lives w v x y h)));
        begun = omega (arith, more, t.begun);
        ended = omega (arith, others, t.ended);
      }

  life_down : (us ds : List ℕ) (b e : ℕ) (cs : List Changed) (m u : ℕ) → Tally us ds b e cs
      → Tally us (added (m == n) u ds) b e (cs ++ altered (Life m u) (Add (negsuc 0)) ∷ [])
  life_down us ds b e cs m u t =
      let more = count_last (adds_process n) cs (altered (Life m u) (Add (negsuc 0))) in
      let others = count_last (ends_process n) cs (altered (Life m u) (Add (negsuc 0))) in
      record {
        tame = tame_more cs (Life m u) (Add (negsuc 0)) t.tame tt;
        lives = λ w v x y h.
            let at = count_added (m == n) u w ds in
            subst (λ (z : Value). IsDifference z (x + count_at w us) (y + count_at w (added (m == n) u ds)))
            (sym (made_more cs (Life m u) (Life n w) (Add (negsuc 0)) v))
            (subst (λ z. IsDifference (if (m == n) && (u == w) then apply (Add (negsuc 0)) (made cs (Life n w) v)
            else made cs (Life n w) v) (x + count_at w us) z) (omega (arith, at))
            (down_if ((m == n) && (u == w)) (made cs (Life n w) v) (x + count_at w us) (y + count_at w ds)
            (t.lives w v x y h)));
        begun = omega (arith, more, t.begun);
        ended = omega (arith, others, t.ended);
      }

  -- node m has a process more
  one_begins : (us ds : List ℕ) (b e : ℕ) (cs : List Changed) (m : ℕ) → Tally us ds b e cs
      → Tally us ds (b + one_if (m == n)) e (cs ++ altered (Population m) (Add (pos 1)) ∷ [])
  one_begins us ds b e cs m t =
      let more : count_by (adds_process n) (cs ++ altered (Population m) (Add (pos 1)) ∷ [])
      ≡ count_by (adds_process n) cs + one_if (m == n) =
      count_last (adds_process n) cs (altered (Population m) (Add (pos 1))) in
      let others = count_last (ends_process n) cs (altered (Population m) (Add (pos 1))) in
      record {
        tame = tame_more cs (Population m) (Add (pos 1)) t.tame refl;
        lives = elsewhere us ds b e cs (Population m) (Add (pos 1)) (λ w. refl) t;
        begun = omega (arith, more, t.begun);
        ended = omega (arith, others, t.ended);
      }

  -- a process ends
  one_ends : (us ds : List ℕ) (b e : ℕ) (cs : List Changed) (x : Name) → Tally us ds b e cs
      → Tally us ds b (e + one_if (x.node == n)) (cs ++ altered (Standing x) (Put (IsStand Ended)) ∷ [])
  one_ends us ds b e cs x t =
      let more = count_last (adds_process n) cs (altered (Standing x) (Put (IsStand Ended))) in
      let others : count_by (ends_process n) (cs ++ altered (Standing x) (Put (IsStand Ended)) ∷ [])
      ≡ count_by (ends_process n) cs + one_if (x.node == n) =
      count_last (ends_process n) cs (altered (Standing x) (Put (IsStand Ended))) in
      record {
        tame = tame_more cs (Standing x) (Put (IsStand Ended)) t.tame tt;
        lives = elsewhere us ds b e cs (Standing x) (Put (IsStand Ended)) (λ w. refl) t;
        begun = omega (arith, more, t.begun);
        ended = omega (arith, others, t.ended);
      }

  -- what is known of how many have a process more or less, and have begun and ended
  pub record Holds (R : (ups downs begun ended : ℕ) → Type 0) (cs : List Changed) : Type 0 where
    pub us : List ℕ
    pub ds : List ℕ
    pub b : ℕ
    pub e : ℕ
    pub known : R (length us) (length ds) b e
    pub tally : Tally us ds b e cs

  -- as many have one more as have one less; k more have one more, or one less, and nothing has begun or ended; and what
  -- is so at the end of a step: it begins and ends one at most
  abbrev pub AreEven : (ups downs begun ended : ℕ) → Type 0
  AreEven u d b e = (u ≡ d) × (b ≡ 0) × (e ≡ 0)

  abbrev pub AreUp : ℕ → (ups downs begun ended : ℕ) → Type 0
  AreUp k u d b e = (u ≡ d + k) × (b ≡ 0) × (e ≡ 0)

  abbrev pub AreDown : ℕ → (ups downs begun ended : ℕ) → Type 0
  AreDown k u d b e = (u + k ≡ d) × (b ≡ 0) × (e ≡ 0)

  abbrev pub AreSettled : (ups downs begun ended : ℕ) → Type 0
  AreSettled u d b e = (u + e ≡ d + b) × (b ≤ 1) × (e ≤ 1)

  -- a part before which one is known, and after which the other is
  abbrev pub Goes : {A : Type 0} (R T : (ups downs begun ended : ℕ) → Type 0) → Part A → Type 0
  Goes R T part = Leads (Holds R) (Holds T) part

  is_tame : {R : (ups downs begun ended : ℕ) → Type 0} (cs : List Changed) → Holds R cs → AllTame cs
  is_tame cs h = h.tally.tame

  holds_more : {R T : (ups downs begun ended : ℕ) → Type 0} → ((u d b e : ℕ) → R u d b e → T u d b e)
      → (cs : List Changed) → Holds R cs → Holds T cs
  holds_more to cs h = record {
    us = h.us;
    ds = h.ds;
    b = h.b;
    e = h.e;
    known = to _ _ _ _ h.known;
    tally = h.tally;
  }

  pub keeps : {A : Type 0} {R T : (ups downs begun ended : ℕ) → Type 0} (x : A)
      → ((u d b e : ℕ) → R u d b e → T u d b e) → Goes R T (gives x)
  keeps x to = nothing x (holds_more to)

  pub stopped : {A : Type 0} {R T : (ups downs begun ended : ℕ) → Type 0} (why : Reason)
      → Goes {A = A} R T (stopping why)
  stopped why = stops why is_tame

  -- less may be known at the end
  pub less : {A : Type 0} {R S T : (ups downs begun ended : ℕ) → Type 0} {part : Part A}
      → ((u d b e : ℕ) → S u d b e → T u d b e) → Goes R S part → Goes R T part
  less to h = lighter (holds_more to) h

  -- a part that begins, ends and moves nothing
  pub plainly : {A : Type 0} {R : (ups downs begun ended : ℕ) → Type 0} (part : Part A) → Plain part → Goes R R part
  plainly {R = R} part p =
      makes IsPlain (Holds R) part
      (λ q c cs plain h. record {
        us = h.us;
        ds = h.ds;
        b = h.b;
        e = h.e;
        known = h.known;
        tally = plain_stays h.us h.ds h.b h.e cs q c plain h.tally;
      })
      is_tame p

  pub quietly : {A : Type 0} {R : (ups downs begun ended : ℕ) → Type 0} (part : Part A) → Quiet part → Goes R R part
  quietly part h = plainly part (plain part h)

  -- a workspace of a node has a process more or less
  pub goes_up : {R T : (ups downs begun ended : ℕ) → Type 0} (m u : ℕ)
      → ((k d b e : ℕ) → R k d b e → T (k + one_if (m == n)) d b e) → Goes R T (change (Life m u) (Add (pos 1)))
  goes_up {R} {T} m u to = record {
    leads = λ cs h. record {
      us = added (m == n) u h.us;
      ds = h.ds;
      b = h.b;
      e = h.e;
      known = subst (λ z. T z (length h.ds) h.b h.e) (sym (length_added (m == n) u h.us)) (to _ _ _ _ h.known);
      tally = life_up h.us h.ds h.b h.e cs m u h.tally;
    };
  }

  pub goes_down : {R T : (ups downs begun ended : ℕ) → Type 0} (m u : ℕ)
      → ((k d b e : ℕ) → R k d b e → T k (d + one_if (m == n)) b e) → Goes R T (change (Life m u) (Add (negsuc 0)))
  goes_down {R} {T} m u to = record {
    leads = λ cs h. record {
      us = h.us;
      ds = added (m == n) u h.ds;
      b = h.b;
      e = h.e;
      known = subst (λ z. T (length h.us) z h.b h.e) (sym (length_added (m == n) u h.ds)) (to _ _ _ _ h.known);
      tally = life_down h.us h.ds h.b h.e cs m u h.tally;
    };
  }

  -- a process begins, or ends
  pub goes_begun : {R T : (ups downs begun ended : ℕ) → Type 0} (m : ℕ)
      → ((u d b e : ℕ) → R u d b e → T u d (b + one_if (m == n)) e)
      → Goes R T (change (Population m) (Add (pos 1)))
  goes_begun {R} {T} m to = record {
    leads = λ cs h. record {
      us = h.us;
      ds = h.ds;
      b = h.b + one_if (m == n);
      e = h.e;
      known = to _ _ _ _ h.known;
      tally = one_begins h.us h.ds h.b h.e cs m h.tally;
    };
  }

  pub goes_ended : {R T : (ups downs begun ended : ℕ) → Type 0} (x : Name)
      → ((u d b e : ℕ) → R u d b e → T u d b (e + one_if (x.node == n)))
      → Goes R T (change (Standing x) (Put (IsStand Ended)))
  goes_ended {R} {T} x to = record {
    leads = λ cs h. record {
      us = h.us;
      ds = h.ds;
      b = h.b;
      e = h.e + one_if (x.node == n);
      known = to _ _ _ _ h.known;
      tally = one_ends h.us h.ds h.b h.e cs x h.tally;
    };
  }
