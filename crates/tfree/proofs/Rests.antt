-- Workers that have nothing left to do: turns that find nothing, and what a later turn adds.
use Rattle.std.proofs.Common.{◌≡◌, ℕ, zero, suc, ◌+◌, ◌-◌, ◌<◌, ◌≤◌, refl, sym, ap, ◌∙◌, subst, arith, length}
use Rattle.std.proofs.Common.{length-append, List, [], ◌∷◌, ◌++◌, Bool, true, false, ◌&&◌, ◌⊎◌, inl, inr, Some}
use Rattle.std.specs.Prelude.{Result, Ok, Err, IfOk, IfErr, is_ok, slice_get, All}
use Rattle.std.specs.declared.alloc.AllocError.{AllocError}
use Rattle.std.specs.List.{list_all}
use Rattle.std.proofs.lemmas.List.Elements.{All-nil, All-cons}
use Rattle.std.proofs.lemmas.Bool.{cases_lt}
use Rattle.std.proofs.lemmas.Option.{same_Some}
use Rattle.std.proofs.Math.Nat.{eq-or-lt_of_le}
use Rattle.tlink.specs.declared.event.NodeEvent.TheVariants.{Take, Send}
use Rattle.tplan.specs.declared.plan.End.{End}
use Rattle.tfree.specs.declared.stamp.OwnEvent.{OwnEvent}
use Rattle.tfree.specs.declared.stamp.Sent.{Sent}
use Rattle.tfree.specs.declared.log.TurnFault.TheVariants.{OutOfMemory, ClockFull}
use Rattle.tfree.specs.Kept.{own_end, put_to, IsMine}
use Rattle.tfree.specs.Lists.{takes}
use Rattle.tfree.specs.Views.{Share, View}
use Rattle.tfree.specs.Turns.{Phase, Times, Then, OverLinks, IsPacketDue, packets_of, emission_of, runs_of}
use Rattle.tfree.specs.Turns.{all_packets, all_takes, all_sends, NodeTurn, FirstNodes, IsTurn, IsClockFull}
use Rattle.tfree.specs.Turning.{WholeTurn, Ended, had_memory, IsTurned, AreEachTurned, AreTurned}
use Rattle.tfree.specs.Resting.{IsWorkerOf, IsRingEmpty, LinkRests, NodeRests, HasNothingLeft, IsIdle}
use Rattle.tfree.specs.Resting.{AreStaged, HaveMade}
use Rattle.tfree.proofs.Phases.{times_add}
use Rattle.tfree.proofs.Turnings.{idle_turns, more_wanted}

-- the first ones, and the next
pub one_more : (P : ℕ → Type 0) (n : ℕ) → ((k : ℕ) → k < n → P k) → P n → (k : ℕ) → k < n + 1 → P k
one_more P n first next k b = by (cases_lt k n)
  where
    by : (k < n) ⊎ (n ≤ k) → P k
    by (inl less) = first k less
    by (inr more) = let e : n ≡ k = omega (arith, b, more) in subst P e next

-- phases that do nothing, one after another
both_idle : (P Q : Phase) (es : List OwnEvent) → P es true es → Q es true es → Then P Q es true es
both_idle P Q es p q = inr (es, p, q)

links_idle : (P : ℕ → Phase) (es : List OwnEvent) → ((l : ℕ) → l < 4 → P l es true es) → OverLinks P es true es
links_idle P es h =
    both_idle (P 0) (Then (P 1) (Then (P 2) (P 3))) es (h 0 (omega arith))
    (both_idle (P 1) (Then (P 2) (P 3)) es (h 1 (omega arith))
    (both_idle (P 2) (P 3) es (h 2 (omega arith)) (h 3 (omega arith))))

-- more were put than were taken
pub more_put : (got put : List Sent) (p : Sent) (rest : List Sent) → got ++ p ∷ rest ≡ put → length got ≡ length put → ⊥
more_put got put p rest is e = absurd (omega (arith, e, ap length is, length-append got (p ∷ rest)))

module _ (ws : List View) (w : View) where
  -- no packet is due at a link that rests
  no_packet_due : (i l : ℕ) → LinkRests ws w i l → IsPacketDue w.share (w.share.first + i) l w.events → ⊥
  no_packet_due i l h due =
      let r : IsRingEmpty ws w (own_end w.share i l) = h.packets due.1.packet due.4 in
      let far : r.far ≡ due.0 = same_Some r.far due.0 (sym r.wired ∙ due.2.0) in
      by r far r.whose
    where
      by : (r : IsRingEmpty ws w (own_end w.share i l)) → r.far ≡ due.0 → IsWorkerOf ws w r.far.node r.from → ⊥
      by r far (inl own) =
          let e : length (takes (own_end w.share i l) w.events) ≡ length (put_to w.share.opened due.0 w.events) =
          r.empty ∙ ap (λ (u : View). length (put_to u.share.opened r.far u.events)) own.1
          ∙ ap (λ (f : End). length (put_to w.share.opened f w.events)) far in
          more_put (takes (own_end w.share i l) w.events) (put_to w.share.opened due.0 w.events) due.1 due.3.0 due.3.1
          e
      by r far (inr other) =
          absurd (other.0 (subst (λ (f : End). IsMine w.share f.node) (sym far) due.2.1))

  -- a node that rests does nothing in a turn
  node_idle : (slice i : ℕ) → NodeRests ws w i → NodeTurn w.share slice (w.share.first + i) w.events true w.events
  node_idle slice i h =
      both_idle (all_packets w.share n) (Then (all_takes w.share n) (Then (runs_of w.share slice n)
      (all_sends w.share n))) w.events
      (links_idle (packets_of w.share n) w.events
      (λ l b. (0, omega arith, refl, inr (λ t due. no_packet_due i l (h.links l b) due))))
      (both_idle (all_takes w.share n) (Then (runs_of w.share slice n) (all_sends w.share n)) w.events
      (links_idle (λ l. emission_of w.share n l (Take l)) w.events
      (λ l b. (0, omega arith, refl, inr (λ t due. (h.links l b).take due.0))))
      (both_idle (runs_of w.share slice n) (all_sends w.share n) w.events
      (0, omega arith, refl, inr (λ t due. h.run due))
      (links_idle (λ l. emission_of w.share n l (Send l)) w.events
      (λ l b. (0, omega arith, refl, inr (λ t due. (h.links l b).send due.0))))))
    where
      n : ℕ
      n = w.share.first + i

  nodes_idle : (slice k : ℕ) → HasNothingLeft ws w → k ≤ w.share.owned
      → FirstNodes w.share slice k w.events w.events
  nodes_idle slice zero h b = refl
  nodes_idle slice (suc k) h b =
      (w.events, nodes_idle slice k h (omega (arith, b)), node_idle slice k (h k (omega (arith, b))))

  -- nor does a worker
  turn_idle : (slice : ℕ) → HasNothingLeft ws w → IsTurn w.share slice w.events true w.events
  turn_idle slice h = nodes_idle slice w.share.owned h (omega arith)

  -- so its turns that are left leave the same list
  rest_idle : (m n slice : ℕ) (v : View) (e : Ended) → m ≤ n → IsIdle ws e w → IsTurned m slice v e w
      → IsTurned n slice v e w
  rest_idle m n slice v (Err f) b h t = more_wanted slice m n v w (Err f) b refl t
  rest_idle m n slice v (Ok x) b h t = record {
    same = t.same;
    did = subst (λ (k : ℕ). Times k (WholeTurn v.share slice) v.events w.events)
        (let e : m + (n - m) ≡ n = omega (arith, b) in e)
        (times_add (WholeTurn v.share slice) m (n - m) v.events w.events w.events t.did
        (idle_turns v.share slice (n - m) w.events
        (subst (λ (s : Share). IsTurn s slice w.events true w.events) t.same (turn_idle slice h))));
    full = t.full;
  }

  -- a worker that is idle and had memory has nothing left to do, or its clock is full
  at_rest : (m slice : ℕ) (v : View) (e : Ended) → had_memory e ≡ true → IsIdle ws e w → IsTurned m slice v e w
      → HasNothingLeft ws w ⊎ IsClockFull w
  at_rest m slice v (Ok x) had h t = inl h
  at_rest m slice v (Err ClockFull) had h t = inr (t.full refl)
  at_rest m slice v (Err OutOfMemory) had h t = cc

-- each of some workers is idle
abbrev AreIdle : List View → List Ended → List View → Type 0
AreIdle all es ws = (k : ℕ) (e : Ended) (w : View) → slice_get es k ≡ Some e → slice_get ws k ≡ Some w
    → IsIdle all e w

module _ (all : List View) (slice : ℕ) where
  idle_tail : (e : Ended) (es : List Ended) (w : View) (ws : List View) → AreIdle all (e ∷ es) (w ∷ ws)
      → AreIdle all es ws
  idle_tail e es w ws h = λ k d u a b. h (suc k) d u a b

  each_idle : (m n : ℕ) (vs : List View) (es : List Ended) (ws : List View) → m ≤ n → AreIdle all es ws
      → AreEachTurned m slice vs es ws → AreEachTurned n slice vs es ws
  each_idle m n [] [] [] b h t = tt
  each_idle m n (v ∷ vs) (e ∷ es) (w ∷ ws) b h t = (
    rest_idle all w m n slice v e b (h 0 e w refl refl) t.0,
    each_idle m n vs es ws b (idle_tail e es w ws h) t.1,
  )
  each_idle m n _ _ _ b h t = absurd t

  all_at_rest : (m : ℕ) (vs : List View) (es : List Ended) (ws : List View) → list_all had_memory es ≡ true
      → AreIdle all es ws → AreEachTurned m slice vs es ws → All (λ w. HasNothingLeft all w ⊎ IsClockFull w) ws
  all_at_rest m [] [] [] had h t = All-nil (λ w. HasNothingLeft all w ⊎ IsClockFull w)
  all_at_rest m (v ∷ vs) (e ∷ es) (w ∷ ws) had h t =
      All-cons (λ w. HasNothingLeft all w ⊎ IsClockFull w) w ws
      (at_rest all w m slice v e (first (had_memory e) (list_all had_memory es) had) (h 0 e w refl refl) t.0)
      (all_at_rest m vs es ws (second (had_memory e) (list_all had_memory es) had) (idle_tail e es w ws h) t.1)
    where
      first : (a b : Bool) → (a && b) ≡ true → a ≡ true
      first true b h = refl
      first false b h = h

      second : (a b : Bool) → (a && b) ≡ true → b ≡ true
      second true b h = h
      second false b h = cc
  all_at_rest m _ _ _ had h t = absurd t

module _ (turns slice : ℕ) (vs : List View) (es : List Ended) (ws : List View) (h : AreStaged turns slice vs es ws)
  where
    -- fewer turns and a rest leave what all the turns leave
    all_turned : (whole : Bool) → whole ≡ list_all had_memory es → AreTurned turns slice vs whole ws
    all_turned whole e = record { endings = es; each = by (eq-or-lt_of_le h.within); memory = e }
      where
        by : (h.made ≡ turns) ⊎ (h.made < turns) → AreEachTurned turns slice vs es ws
        by (inl same) = subst (λ (m : ℕ). AreEachTurned m slice vs es ws) same h.each
        by (inr less) = each_idle ws slice h.made turns vs es ws h.within (h.idle less) h.each

    -- what is answered, where all had memory
    pub staged_turned : (r : Result (Unit {0}) AllocError) → is_ok r ≡ list_all had_memory es
        → IfOk r (λ _. AreTurned turns slice vs true ws)
    staged_turned (Ok x) e = all_turned true e
    staged_turned (Err f) e = tt

    pub staged_made : (r : Result (Unit {0}) AllocError) → is_ok r ≡ list_all had_memory es
        → IfOk r (λ _. HaveMade turns slice vs ws)
    staged_made (Ok x) e = record {
      made = h.made;
      within = h.within;
      turned = record { endings = es; each = h.each; memory = e };
      rest = λ less. all_at_rest ws slice h.made vs es ws (sym e) (h.idle less) h.each;
    }
    staged_made (Err f) e = tt

    -- and where one was refused it
    pub staged_refused : (r : Result (Unit {0}) AllocError) → is_ok r ≡ list_all had_memory es
        → IfErr r (λ _. (ws ≡ vs) ⊎ AreTurned turns slice vs false ws)
    staged_refused (Ok x) e = tt
    staged_refused (Err f) e = inr (all_turned false e)
