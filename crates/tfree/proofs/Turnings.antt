-- Turns of a worker one after another, and workers that made theirs.
use Rattle.std.proofs.Common.{◌≡◌, ℕ, zero, suc, ◌+◌, ◌-◌, ◌<◌, ◌≤◌, refl, sym, ◌∙◌, ap, subst, arith, length, List}
use Rattle.std.proofs.Common.{[], ◌∷◌, ◌++◌, map, take, Bool, true, false, length-append}
use Rattle.std.proofs.lemmas.List.{append-nil}
use Rattle.std.proofs.Math.Seq.{take-append_seam}
use Rattle.std.specs.Prelude.{Ok, Err, is_ok, max, replicate}
use Rattle.tfree.specs.declared.stamp.OwnEvent.{OwnEvent}
use Rattle.tfree.specs.Views.{Share, View}
use Rattle.tfree.specs.Turns.{Times, IsTurn, Extends}
use Rattle.tfree.specs.Opened.{share_of}
use Rattle.tfree.specs.Turning.{WholeTurn, AreTurns, Ended, IsTurned, GoesOn, AreEachGoneOn, AreEachTurned}
use Rattle.tfree.specs.Turning.{HoldsBetween}
use Rattle.tfree.proofs.Phases.{times_add}

-- one turn more
pub turn_more : (s t : Share) (slice k : ℕ) (es mid es' : List OwnEvent) → t ≡ s → Times k (WholeTurn s slice) es mid
    → IsTurn t slice mid true es' → Times (k + 1) (WholeTurn s slice) es es'
turn_more s t slice k es mid es' same h turn =
    subst (λ (j : ℕ). Times j (WholeTurn s slice) es es') (let e : suc k ≡ k + 1 = omega arith in e)
    (mid, h, subst (λ (r : Share). IsTurn r slice mid true es') same turn)

-- a turn that did nothing is as good as any number of them
pub idle_turns : (s : Share) (slice n : ℕ) (es : List OwnEvent) → IsTurn s slice es true es
    → Times n (WholeTurn s slice) es es
idle_turns s slice zero es h = refl
idle_turns s slice (suc n) es h = (es, idle_turns s slice n es h, h)

-- turns, and then one that did nothing, are as good as any number above them
pub idle_behind : (s t : Share) (slice k n : ℕ) (es mid es' : List OwnEvent) → k ≤ n → t ≡ s
    → Times k (WholeTurn s slice) es mid → IsTurn t slice mid true es' → es' ≡ mid → Times n (WholeTurn s slice) es es'
idle_behind s t slice k n es mid es' b same h turn e =
    let all : k + (n - k) ≡ n = omega (arith, b) in
    let idle : IsTurn s slice mid true mid =
    subst (λ (l : List OwnEvent). IsTurn s slice mid true l) e
    (subst (λ (r : Share). IsTurn r slice mid true es') same turn) in
    subst (λ (l : List OwnEvent). Times n (WholeTurn s slice) es l) (sym e)
    (subst (λ (j : ℕ). Times j (WholeTurn s slice) es mid) all
    (times_add (WholeTurn s slice) k (n - k) es mid mid h (idle_turns s slice (n - k) mid idle)))

-- a list that did not grow is as it was
pub nothing_more : (es es' : List OwnEvent) → Extends es es' → length es' ≡ length es → es' ≡ es
nothing_more es es' ([], e) n = e ∙ append-nil es
nothing_more es es' (d ∷ ds, e) n = absurd (omega (arith, n, ap length e, length-append es (d ∷ ds)))

-- what holds of numbers from the least on holds of those from a greater one on
pub fewer_between : (least more most : ℕ) (what : ℕ → Type 0) → least ≤ more → more ≤ most
    → HoldsBetween least most what → HoldsBetween more most what
fewer_between least more most what b m h = (m, λ n l u. h.1 n (omega (arith, b, l)) u)

-- a turn that stopped is the last one
pub turn_stops : (s t : Share) (turns slice k : ℕ) (es mid es' : List OwnEvent) (ok : Bool) → ok ≡ false → k < turns
    → t ≡ s → Times k (WholeTurn s slice) es mid → IsTurn t slice mid false es' → AreTurns s turns slice es ok es'
turn_stops s t turns slice k es mid es' ok e b same h turn =
    subst (λ (o : Bool). AreTurns s turns slice es o es') (sym e)
    (k, b, (mid, h, subst (λ (r : Share). IsTurn r slice mid false es') same turn))

-- a list that was lent, and all of it written
pub written_back : {A : Type 0} (n : ℕ) (new rest : List A) → length new ≡ n → take n (new ++ rest) ≡ new
written_back n new rest e = ap (λ (k : ℕ). take k (new ++ rest)) (sym e) ∙ take-append_seam new rest

-- workers that have made no turn yet
pub none_made : (slice : ℕ) (vs : List View) → AreEachTurned 0 slice vs (replicate (length vs) (Ok tt)) vs
none_made slice [] = tt
none_made slice (v ∷ vs) = (record { same = refl; did = refl; full = λ e. cc }, none_made slice vs)

module _ (slice : ℕ) where
  -- a worker that stopped, stopped before any later turn
  pub more_wanted : (m n : ℕ) (v w : View) (e : Ended) → m ≤ n → is_ok e ≡ false → IsTurned m slice v e w
      → IsTurned n slice v e w
  more_wanted m n v w (Ok x) b stopped h = cc
  more_wanted m n v w (Err f) b stopped h =
      record { same = h.same; did = (h.did.0, omega (arith, b, h.did.1), h.did.2); full = h.full }

  -- turns of a worker, and then more of them
  turns_on : (m n : ℕ) (v u w : View) (d e : Ended) → IsTurned m slice v d u → GoesOn n slice u d e w
      → IsTurned (m + n) slice v e w
  turns_on m n v u w (Ok x) e h k = record {
    same = k.same ∙ h.same;
    did = by (is_ok e) (subst (λ (s : Share). AreTurns s n slice u.events (is_ok e) w.events) h.same k.did);
    full = k.full;
  }
    where
      by : (b : Bool) → AreTurns v.share n slice u.events b w.events
          → AreTurns v.share (m + n) slice v.events b w.events
      by true t = times_add (WholeTurn v.share slice) m n v.events u.events w.events h.did t
      by false t = (
        m + t.0,
        omega (arith, t.1),
        (t.2.0, times_add (WholeTurn v.share slice) m t.0 v.events u.events t.2.0 h.did t.2.1, t.2.2),
      )
  turns_on m n v u w (Err f) e h k = rw (k.0, k.1) (more_wanted m (m + n) v u (Err f) (omega arith) refl h)

  -- the same of workers
  pub each_on : (m n : ℕ) (vs : List View) (ds : List Ended) (us : List View) (es : List Ended) (ws : List View)
      → AreEachTurned m slice vs ds us → AreEachGoneOn n slice us ds es ws → AreEachTurned (m + n) slice vs es ws
  each_on m n [] [] [] [] [] h k = tt
  each_on m n [] [] [] _ _ h k = absurd k
  each_on m n (v ∷ vs) (d ∷ ds) (u ∷ us) (e ∷ es) (w ∷ ws) h k =
      (turns_on m n v u w d e h.0 k.0, each_on m n vs ds us es ws h.1 k.1)
  each_on m n (v ∷ vs) (d ∷ ds) (u ∷ us) _ _ h k = absurd k
  each_on m n _ _ _ _ _ h k = absurd h

  -- and some of the turns that are left: any number from the least on, but at least one
  pub each_on_by : (m least n most turns used : ℕ) (vs : List View) (ds : List Ended) (us : List View)
      (es : List Ended) (ws : List View) → AreEachTurned m slice vs ds us → m < turns
      → (0 < most) × (most ≤ turns - m) × (used ≡ slice)
      → HoldsBetween least most (λ k. AreEachGoneOn k used us ds es ws) → n ≡ max least 1
      → (m + n ≤ turns) × AreEachTurned (m + n) slice vs es ws
  each_on_by m least n most turns used vs ds us es ws h left task k e = (
    omega (arith, left, task.0, task.1, e, k.0),
    each_on m n vs ds us es ws h
        (subst (λ (s : ℕ). AreEachGoneOn n s us ds es ws) task.2
        (k.1 n (omega (arith, e)) (omega (arith, e, task.0, k.0)))),
  )

  -- some workers, and others behind them
  pub both_on : (n : ℕ) (vs vs' : List View) (ds ds' es es' : List Ended) (ws ws' : List View)
      → AreEachGoneOn n slice vs ds es ws → AreEachGoneOn n slice vs' ds' es' ws'
      → AreEachGoneOn n slice (vs ++ vs') (ds ++ ds') (es ++ es') (ws ++ ws')
  both_on n [] vs' [] ds' [] es' [] ws' h k = k
  both_on n (v ∷ vs) vs' (d ∷ ds) ds' (e ∷ es) es' (w ∷ ws) ws' h k =
      (h.0, both_on n vs vs' ds ds' es es' ws ws' h.1 k)
  both_on n _ vs' _ ds' _ es' _ ws' h k = absurd h

module _ (turns slice : ℕ) where
  -- each keeps its share
  pub shares_stay : (vs : List View) (es : List Ended) (ws : List View) → AreEachTurned turns slice vs es ws
      → map share_of ws ≡ map share_of vs
  shares_stay [] [] [] h = refl
  shares_stay (v ∷ vs) (e ∷ es) (w ∷ ws) h = rw (h.0.same, shares_stay vs es ws h.1) refl
  shares_stay _ _ _ h = absurd h
