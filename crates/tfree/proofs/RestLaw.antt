-- A later turn of a worker that has nothing left to do adds nothing: what it adds would begin with an event that is
-- not enabled, or with a packet that does not lie there.
use Rattle.std.proofs.Common.{◌≡◌, ℕ, zero, suc, ◌+◌, ◌<◌, ◌≤◌, refl, sym, ap, ◌∙◌, subst, arith, length, length-append}
use Rattle.std.proofs.Common.{List, [], ◌∷◌, ◌++◌, Bool, true, false, ◌⊎◌, inl, inr, append_assoc}
use Rattle.tlink.specs.declared.event.NodeEvent.{NodeEvent}
use Rattle.tlink.specs.declared.event.NodeEvent.TheVariants.{Run, Take, Send}
use Rattle.tplan.specs.declared.plan.End.{End}
use Rattle.tfree.specs.declared.stamp.OwnEvent.{OwnEvent}
use Rattle.tfree.specs.declared.stamp.Sent.{Sent}
use Rattle.tfree.specs.Kept.{own_end, put_to}
use Rattle.tfree.specs.Lists.{takes, taken_packet, event_taking}
use Rattle.tfree.specs.Views.{Share, View}
use Rattle.tfree.specs.Turns.{Phase, Step, Times, UpTo, Then, OverLinks, Extends, Does, Receives, Emits, IsPacketDue}
use Rattle.tfree.specs.Turns.{IsEmissionDue, IsEnabled, packets_of, emission_of, runs_of, all_packets, all_takes}
use Rattle.tfree.specs.Turns.{all_sends, NodeTurn, FirstNodes, IsTurn}
use Rattle.tfree.specs.Resting.{IsWorkerOf, IsRingEmpty, LinkRests, HasNothingLeft, TakesWhatLies}
use Rattle.tfree.specs.Resting.{TurnsAtRestAddNothing}
use Rattle.tfree.proofs.Phases.{extends_self, extends_more}
use Rattle.tfree.proofs.RingMoves.{takes-here}
use Rattle.tfree.proofs.Rests.{more_put}

-- what events take, and then others
takes-append : (e : End) (ds es : List OwnEvent) → takes e (ds ++ es) ≡ takes e ds ++ takes e es
takes-append e [] es = refl
takes-append e (d ∷ ds) es =
    ap (λ (l : List Sent). taken_packet d.node d.event e d.taken ++ l) (takes-append e ds es)
    ∙ sym (append_assoc (taken_packet d.node d.event e d.taken) (takes e ds) (takes e es))

module _ (s : Share) where
  -- one event of the worker's i-th node, as a turn does it
  abbrev LinkDoes : (i l : ℕ) → Step
  LinkDoes i l es m = Receives s (s.first + i) l es m
      ⊎ (Emits s (s.first + i) l (Take l) es m ⊎ Emits s (s.first + i) l (Send l) es m)

  abbrev NodeDoes : ℕ → Step
  NodeDoes i es m = Does s (s.first + i) Run es m ⊎ ((l : ℕ) × (l < 4) × LinkDoes i l es m)

  abbrev OneDoes : Step
  OneDoes es m = (i : ℕ) × (i < s.owned) × NodeDoes i es m

  one_extends : (es m : List OwnEvent) → OneDoes es m → Extends es m
  one_extends es m (i, b, inl d) = more Run d
    where
      more : (e : NodeEvent) → Does s (s.first + i) e es m → Extends es m
      more e d = (record { stamp = d.stamp; node = s.first + i; event = e; taken = d.taken } ∷ [], d.more)
  one_extends es m (i, b, inr (l, c, d)) = by d
    where
      more : (e : NodeEvent) → Does s (s.first + i) e es m → Extends es m
      more e d = (record { stamp = d.stamp; node = s.first + i; event = e; taken = d.taken } ∷ [], d.more)

      by : LinkDoes i l es m → Extends es m
      by (inl r) = more (event_taking l r.packet.packet) r.does
      by (inr (inl t)) = more (Take l) t.does
      by (inr (inr t)) = more (Send l) t.does

  -- nothing is added, or first such an event and then more
  abbrev Begins : List OwnEvent → List OwnEvent → Type 0
  Begins es es' = (es' ≡ es) ⊎ ((m : List OwnEvent) × OneDoes es m × Extends m es')

  abbrev PhaseBegins : Phase → Type 0
  PhaseBegins phase = (es es' : List OwnEvent) (ok : Bool) → phase es ok es' → Begins es es'

  begins_extends : (es es' : List OwnEvent) → Begins es es' → Extends es es'
  begins_extends es es' (inl e) = extends_self es es' e
  begins_extends es es' (inr (m, d, more)) = extends_more es m es' (one_extends es m d) more

  begins_then : (es mid es' : List OwnEvent) → Begins es mid → Begins mid es' → Begins es es'
  begins_then es mid es' (inl e) h = subst (λ (x : List OwnEvent). Begins x es') e h
  begins_then es mid es' (inr (m, d, more)) h =
      inr (m, d, extends_more m mid es' more (begins_extends mid es' h))

  times_begin : (step : Step) (k : ℕ) → ((es m : List OwnEvent) → step es m → OneDoes es m) → (es es' : List OwnEvent)
      → Times k step es es' → Begins es es'
  times_begin step zero h es es' t = inl t
  times_begin step (suc k) h es es' t =
      begins_then es t.0 es' (times_begin step k h es t.0 t.1) (inr (es', h t.0 es' t.2, extends_self es' es' refl))

  up_to_begins : (most : ℕ) (step : Step) (IsDue : List OwnEvent → Type 0)
      → ((es m : List OwnEvent) → step es m → OneDoes es m) → PhaseBegins (UpTo most step IsDue)
  up_to_begins most step IsDue h es es' ok t = times_begin step t.0 h es es' t.2

  then_begins : (P Q : Phase) → PhaseBegins P → PhaseBegins Q → PhaseBegins (Then P Q)
  then_begins P Q p q es es' ok (inl h) = p es es' false h.1
  then_begins P Q p q es es' ok (inr h) = begins_then es h.0 es' (p es h.0 true h.1) (q h.0 es' ok h.2)

  links_begin : (P : ℕ → Phase) → ((l : ℕ) → l < 4 → PhaseBegins (P l)) → PhaseBegins (OverLinks P)
  links_begin P h =
      then_begins (P 0) (Then (P 1) (Then (P 2) (P 3))) (h 0 (omega arith))
      (then_begins (P 1) (Then (P 2) (P 3)) (h 1 (omega arith))
      (then_begins (P 2) (P 3) (h 2 (omega arith)) (h 3 (omega arith))))

  node_begins : (slice i : ℕ) → i < s.owned → PhaseBegins (NodeTurn s slice (s.first + i))
  node_begins slice i b =
      then_begins (all_packets s n) (Then (all_takes s n) (Then (runs_of s slice n) (all_sends s n)))
      (links_begin (packets_of s n)
      (λ l c. up_to_begins 2 (Receives s n l) (IsPacketDue s n l) (λ es m r. (i, b, inr (l, c, inl r)))))
      (then_begins (all_takes s n) (Then (runs_of s slice n) (all_sends s n))
      (links_begin (λ l. emission_of s n l (Take l))
      (λ l c. up_to_begins 1 (Emits s n l (Take l)) (IsEmissionDue s n l (Take l))
      (λ es m t. (i, b, inr (l, c, inr (inl t))))))
      (then_begins (runs_of s slice n) (all_sends s n)
      (up_to_begins slice (Does s n Run) (IsEnabled s n Run) (λ es m d. (i, b, inl d)))
      (links_begin (λ l. emission_of s n l (Send l))
      (λ l c. up_to_begins 1 (Emits s n l (Send l)) (IsEmissionDue s n l (Send l))
      (λ es m t. (i, b, inr (l, c, inr (inr t))))))))
    where
      n : ℕ
      n = s.first + i

  first_begin : (slice k : ℕ) → k ≤ s.owned → (es es' : List OwnEvent) → FirstNodes s slice k es es' → Begins es es'
  first_begin slice zero b es es' h = inl h
  first_begin slice (suc k) b es es' h =
      begins_then es h.0 es' (first_begin slice k (omega (arith, b)) es h.0 h.1)
      (node_begins slice k (omega (arith, b)) h.0 es' true h.2)

  turn_begins : (slice : ℕ) → PhaseBegins (IsTurn s slice)
  turn_begins slice es es' true h = first_begin slice s.owned (omega arith) es es' h
  turn_begins slice es es' false h =
      begins_then es h.2.0 es' (first_begin slice h.0 (omega (arith, h.1)) es h.2.0 h.2.1)
      (node_begins slice h.0 h.1 h.2.0 es' false h.2.2)

module _ (ws : List View) (w : View) (es' : List OwnEvent) (rests : HasNothingLeft ws w) (lies : TakesWhatLies ws w es')
  where
    -- no packet is taken
    none_taken : (m : List OwnEvent) (i l : ℕ) → i < w.share.owned → l < 4 → LinkRests ws w i l → Extends m es'
        → Receives w.share (w.share.first + i) l w.events m → ⊥
    none_taken m i l b c h more r = by empty.whose
      where
        e : End
        e = own_end w.share i l

        empty : IsRingEmpty ws w e
        empty = h.packets r.packet.packet r.does.enabled

        taken : Sent
        taken = record { packet = r.packet.packet; stamp = r.does.taken }

        -- its list would have taken one packet more
        longer : length (takes e w.events) < length (takes e es')
        longer =
            let it : takes e m ≡ takes e w.events ++ taken ∷ [] =
            ap (takes e) r.does.more
            ∙ takes-append e w.events (record {
              stamp = r.does.stamp;
              node = w.share.first + i;
              event = event_taking l r.packet.packet;
              taken = r.does.taken;
            } ∷ [])
            ∙ ap (λ (x : List Sent). takes e w.events ++ (x ++ [])) (takes-here (w.share.first + i) l taken) in
            let all : takes e es' ≡ takes e m ++ takes e more.0 = ap (takes e) more.1 ∙ takes-append e m more.0 in
            omega (
              arith,
              ap length it,
              length-append (takes e w.events) (taken ∷ []),
              ap length all,
              length-append (takes e m) (takes e more.0),
            )

        by : IsWorkerOf ws w empty.far.node empty.from → ⊥
        by (inl own) =
            let f : (rest : List Sent)
            × (takes e w.events ++ r.packet ∷ rest ≡ put_to w.share.opened empty.far w.events) =
            r.front empty.far (empty.wired, own.0) in
            more_put (takes e w.events) (put_to w.share.opened empty.far w.events) r.packet f.0 f.1
            (empty.empty ∙ ap (λ (u : View). length (put_to u.share.opened empty.far u.events)) own.1)
        by (inr other) =
            let f : (rest : List Sent)
            × (takes e es' ++ rest ≡ put_to empty.from.share.opened empty.far empty.from.events) =
            lies i l empty.far empty.from b c empty.wired (inr other) other.0 in
            absurd (omega (arith, longer, empty.empty, ap length f.1, length-append (takes e es') f.0))

    none_done : (m : List OwnEvent) → OneDoes w.share w.events m → Extends m es' → ⊥
    none_done m (i, b, inl d) more = (rests i b).run d.enabled
    none_done m (i, b, inr (l, c, inl r)) more = none_taken m i l b c ((rests i b).links l c) more r
    none_done m (i, b, inr (l, c, inr (inl t))) more = ((rests i b).links l c).take t.does.enabled
    none_done m (i, b, inr (l, c, inr (inr t))) more = ((rests i b).links l c).send t.does.enabled

pub turns_at_rest_add_nothing : TurnsAtRestAddNothing
turns_at_rest_add_nothing ws w slice whole es' rests turn lies = by (turn_begins w.share slice w.events es' whole turn)
  where
    by : Begins w.share w.events es' → es' ≡ w.events
    by (inl e) = e
    by (inr (m, d, more)) = absurd (none_done ws w es' rests lies m d more)
