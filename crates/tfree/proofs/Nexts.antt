-- The event that a phase would do next, from phase to phase.
use Rattle.std.proofs.Common.{◌≡◌, ℕ, suc, ◌+◌, ◌<◌, ◌∙◌, refl, subst, arith, List, true, false, inl, inr}
use Rattle.std.specs.Prelude.{Result, Ok, Err, IfErr, max}
use Rattle.tfree.specs.declared.stamp.OwnEvent.{OwnEvent}
use Rattle.tfree.specs.declared.log.TurnFault.{TurnFault}
use Rattle.tfree.specs.declared.log.TurnFault.TheVariants.{ClockFull}
use Rattle.tfree.specs.Views.{Share, View}
use Rattle.tfree.specs.Turns.{Phase, Step, once, Times, UpTo, Then, Phased, NodeTurn, FirstNodes, IsTurn, IsNext}
use Rattle.tfree.specs.Turns.{IsClockFull, with_event}
use Rattle.tfree.specs.Kept.{last_stamp}
use Rattle.tfree.proofs.Phases.{goes, turn_stops}

-- what is told of a fault
pub at_fault : {T : Type 0} (r : Result T TurnFault) (P Q : TurnFault → Type 0) → IfErr r P
    → ((f : TurnFault) → r ≡ Err f → P f → Q f) → IfErr r Q
at_fault (Ok x) P Q h k = tt
at_fault (Err f) P Q h k = k f refl h

pub at_some_fault : {T : Type 0} (r : Result T TurnFault) (P : TurnFault → Type 0) → ((f : TurnFault) → r ≡ Err f → P f)
    → IfErr r P
at_some_fault (Ok x) P k = tt
at_some_fault (Err f) P k = k f refl

pub fault_of : {T : Type 0} (r : Result T TurnFault) (f : TurnFault) (P : TurnFault → Type 0) → r ≡ Err f → IfErr r P
    → P f
fault_of (Ok x) f P e h = cc
fault_of (Err g) f P e h = let same : g ≡ f = cc in subst P same h

-- what comes next in a part comes next in the whole
lift : (P Q : Share → Phase) (v m w : View) (f : TurnFault)
    → ((w' : View) → Phased P m false w' → Phased Q v false w') → IsNext P m w f → IsNext Q v w f
lift P Q v m w f k h = record {
  i = h.i;
  event = h.event;
  taken = h.taken;
  own = h.own;
  enabled = h.enabled;
  takes = h.takes;
  next = k
      (with_event (record {
        stamp = max (last_stamp 0 w.events) h.taken + 1;
        node = w.share.first + h.i;
        event = h.event;
        taken = h.taken;
      }) w) h.next;
  full = h.full;
}

pub next_first : (P Q : Share → Phase) (v w : View) (f : TurnFault) → IsNext P v w f
    → IsNext (λ s. Then (P s) (Q s)) v w f
next_first P Q v w f h = lift P (λ s. Then (P s) (Q s)) v v w f (λ w' k. (k.0, inl (refl, k.1))) h

pub next_then : (P Q : Share → Phase) (v m w : View) (f : TurnFault) → Phased P v true m → IsNext Q m w f
    → IsNext (λ s. Then (P s) (Q s)) v w f
next_then P Q v m w f p h = lift Q (λ s. Then (P s) (Q s)) v m w f (λ w' k. goes P Q v m w' false p k) h

pub next_second : (P Q R : Share → Phase) (v m w : View) (f : TurnFault) → Phased P v true m → IsNext Q m w f
    → IsNext (λ s. Then (P s) (Then (Q s) (R s))) v w f
next_second P Q R v m w f p h = next_then P (λ s. Then (Q s) (R s)) v m w f p (next_first Q R m w f h)

pub next_third : (P Q R S : Share → Phase) (v m n w : View) (f : TurnFault) → Phased P v true m → Phased Q m true n
    → IsNext R n w f → IsNext (λ s. Then (P s) (Then (Q s) (Then (R s) (S s)))) v w f
next_third P Q R S v m n w f p q h =
    next_then P (λ s. Then (Q s) (Then (R s) (S s))) v m w f p (next_second Q R S m n w f q h)

pub next_last : (P Q R S : Share → Phase) (v m n o w : View) (f : TurnFault) → Phased P v true m → Phased Q m true n
    → Phased R n true o → IsNext S o w f → IsNext (λ s. Then (P s) (Then (Q s) (Then (R s) (S s)))) v w f
next_last P Q R S v m n o w f p q r h =
    next_then P (λ s. Then (Q s) (Then (R s) (S s))) v m w f p
    (next_then Q (λ s. Then (R s) (S s)) m n w f q (next_then R S n o w f r h))

-- one step more
pub next_step : (step : Share → Step) (IsDue : Share → List OwnEvent → Type 0) (most k : ℕ) (v m w : View)
    (f : TurnFault) → k < most → m.share ≡ v.share → Times k (step v.share) v.events m.events
    → IsNext (λ s. once (step s)) m w f → IsNext (λ s. UpTo most (step s) (IsDue s)) v w f
next_step step IsDue most k v m w f b same t h =
    lift (λ s. once (step s)) (λ s. UpTo most (step s) (IsDue s)) v m w f
    (λ w' d. (
      d.0 ∙ same,
      (
        suc k,
        omega (arith, b),
        (m.events, t, subst (λ (s : Share). step s m.events w'.events) same d.1),
        inr (λ no due. cc),
      ),
    )) h

-- the part of a node within a turn
pub next_node : (v m w : View) (slice i : ℕ) (f : TurnFault) → i < v.share.owned → m.share ≡ v.share
    → FirstNodes v.share slice i v.events m.events → IsNext (λ s. NodeTurn s slice (s.first + i)) m w f
    → IsNext (λ s. IsTurn s slice) v w f
next_node v m w slice i f b same t h =
    lift (λ s. NodeTurn s slice (s.first + i)) (λ s. IsTurn s slice) v m w f
    (λ w' d. turn_stops v m w' slice i false refl b same t d) h

-- an event that has no stamp
pub clock_full : (P : Share → Phase) (v w : View) → IsNext P v w ClockFull → IsClockFull w
clock_full P v w h = record {
  i = h.i;
  event = h.event;
  taken = h.taken;
  own = h.own;
  enabled = h.enabled;
  takes = h.takes;
  full = h.full refl;
}

pub clock_is_full : {T : Type 0} (r : Result T TurnFault) (P : Share → Phase) (v w : View) → r ≡ Err ClockFull
    → IfErr r (IsNext P v w) → IsClockFull w
clock_is_full r P v w e h = clock_full P v w (fault_of r ClockFull (IsNext P v w) e h)
