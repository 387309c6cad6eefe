-- Phases of a turn, one after another, as a worker's calls do them.
use Rattle.std.proofs.Common.{◌≡◌, ℕ, zero, suc, ◌+◌, ◌<◌, ◌≤◌, refl, sym, ap, ◌∙◌, subst, arith, length, length-append}
use Rattle.std.proofs.Common.{List, [], ◌∷◌, ◌++◌, Bool, true, false, inl, inr}
use Rattle.std.specs.Prelude.{Result, Ok, Err, is_ok, IsErr}
use Rattle.std.proofs.lemmas.List.{append-nil, append_assoc}
use Rattle.tfree.specs.declared.stamp.OwnEvent.{OwnEvent}
use Rattle.tfree.specs.Views.{Share, View}
use Rattle.tlink.specs.declared.event.NodeEvent.{NodeEvent}
use Rattle.tlink.specs.declared.event.NodeEvent.TheVariants.{Run, Take, Send}
use Rattle.tfree.specs.Turns.{Phase, Step, Times, UpTo, Then, Phased, Extends, Receives, IsPacketDue, packets_of, Does}
use Rattle.tfree.specs.Turns.{IsEnabled, Emits, IsEmissionDue, emission_of, runs_of, all_packets, all_takes, all_sends}
use Rattle.tfree.specs.Turns.{OverLinks, NodeTurn, FirstNodes, IsTurn}

-- a fault is no success
pub not_ok : {A B : Type 0} (r : Result A B) → IsErr r → is_ok r ≡ false
not_ok (Ok x) h = cc
not_ok (Err e) h = refl

-- the first phase stopped before its end
pub stops : (P Q : Share → Phase) (v w : View) (ok : Bool) → ok ≡ false → Phased P v false w
    → Phased (λ s. Then (P s) (Q s)) v ok w
stops P Q v w ok e h = (h.0, inl (e, h.1))

-- the first phase came to its end, and then the second
pub goes : (P Q : Share → Phase) (v m w : View) (ok : Bool) → Phased P v true m → Phased Q m ok w
    → Phased (λ s. Then (P s) (Q s)) v ok w
goes P Q v m w ok h k = (k.0 ∙ h.0, inr (m.events, h.1, subst (λ (t : Share). Q t m.events ok w.events) h.0 k.1))

-- four phases, of which the third stopped
pub stops_third : (P Q R S : Share → Phase) (v m n w : View) (ok : Bool) → ok ≡ false → Phased P v true m
    → Phased Q m true n → Phased R n false w → Phased (λ s. Then (P s) (Then (Q s) (Then (R s) (S s)))) v ok w
stops_third P Q R S v m n w ok e p q r =
    goes P (λ s. Then (Q s) (Then (R s) (S s))) v m w ok p
    (goes Q (λ s. Then (R s) (S s)) m n w ok q (stops R S n w ok e r))

-- four phases
pub goes_all : (P Q R S : Share → Phase) (v m n o w : View) (ok : Bool) → Phased P v true m → Phased Q m true n
    → Phased R n true o → Phased S o ok w → Phased (λ s. Then (P s) (Then (Q s) (Then (R s) (S s)))) v ok w
goes_all P Q R S v m n o w ok p q r t =
    goes P (λ s. Then (Q s) (Then (R s) (S s))) v m w ok p
    (goes Q (λ s. Then (R s) (S s)) m n w ok q (goes R S n o w ok r t))

-- three phases and the rest of them, of which one stopped
pub stops_second : (P Q R : Share → Phase) (v m w : View) (ok : Bool) → ok ≡ false → Phased P v true m
    → Phased Q m false w → Phased (λ s. Then (P s) (Then (Q s) (R s))) v ok w
stops_second P Q R v m w ok e p q = goes P (λ s. Then (Q s) (R s)) v m w ok p (stops Q R m w ok e q)

-- a node's part was stopped
pub turn_stops : (v m w : View) (slice i : ℕ) (ok : Bool) → ok ≡ false → i < v.share.owned → m.share ≡ v.share
    → FirstNodes v.share slice i v.events m.events → Phased (λ s. NodeTurn s slice (s.first + i)) m false w
    → Phased (λ s. IsTurn s slice) v ok w
turn_stops v m w slice i ok e b a h k = (
  k.0 ∙ a,
  subst (λ (t : Bool). IsTurn v.share slice v.events t w.events) (sym e)
      (i, b, (m.events, h, subst (λ (s : Share). NodeTurn s slice (s.first + i) m.events false w.events) a k.1)),
)

-- one node more
pub turn_more : (v m w : View) (slice i : ℕ) → m.share ≡ v.share → FirstNodes v.share slice i v.events m.events
    → Phased (λ s. NodeTurn s slice (s.first + i)) m true w → FirstNodes v.share slice (i + 1) v.events w.events
turn_more v m w slice i a h k =
    subst (λ (j : ℕ). FirstNodes v.share slice j v.events w.events) (let e : suc i ≡ i + 1 = omega arith in e)
    (m.events, h, subst (λ (s : Share). NodeTurn s slice (s.first + i) m.events true w.events) a k.1)

-- all that a turn does goes behind what was there
pub extends_self : (es es' : List OwnEvent) → es' ≡ es → Extends es es'
extends_self es es' e = ([], e ∙ sym (append-nil es))

pub extends_more : (es m w : List OwnEvent) → Extends es m → Extends m w → Extends es w
extends_more es m w h k = (h.0 ++ k.0, k.1 ∙ ap (λ (l : List OwnEvent). l ++ k.0) h.1 ∙ append_assoc es h.0 k.0)

-- each step and each phase goes behind what was there
abbrev StepExtends : Step → Type 0
StepExtends step = (es es' : List OwnEvent) → step es es' → Extends es es'

abbrev PhaseExtends : Phase → Type 0
PhaseExtends phase = (es es' : List OwnEvent) (ok : Bool) → phase es ok es' → Extends es es'

times_extends : (step : Step) (k : ℕ) → StepExtends step → StepExtends (Times k step)
times_extends step zero h es es' t = extends_self es es' t
times_extends step (suc k) h es es' t = extends_more es t.0 es' (times_extends step k h es t.0 t.1) (h t.0 es' t.2)

up_to_extends : (most : ℕ) (step : Step) (IsDue : List OwnEvent → Type 0) → StepExtends step
    → PhaseExtends (UpTo most step IsDue)
up_to_extends most step IsDue h es es' ok t = times_extends step t.0 h es es' t.2

then_extends : (P Q : Phase) → PhaseExtends P → PhaseExtends Q → PhaseExtends (Then P Q)
then_extends P Q p q es es' ok (inl h) = p es es' false h.1
then_extends P Q p q es es' ok (inr h) = extends_more es h.0 es' (p es h.0 true h.1) (q h.0 es' ok h.2)

links_extend : (P : ℕ → Phase) → ((l : ℕ) → PhaseExtends (P l)) → PhaseExtends (OverLinks P)
links_extend P h =
    then_extends (P 0) (Then (P 1) (Then (P 2) (P 3))) (h 0)
    (then_extends (P 1) (Then (P 2) (P 3)) (h 1) (then_extends (P 2) (P 3) (h 2) (h 3)))

does_extend : (s : Share) (n : ℕ) (e : NodeEvent) → StepExtends (Does s n e)
does_extend s n e es es' d = (record { stamp = d.stamp; node = n; event = e; taken = d.taken } ∷ [], d.more)

node_extends : (s : Share) (slice n : ℕ) → PhaseExtends (NodeTurn s slice n)
node_extends s slice n =
    then_extends (all_packets s n) (Then (all_takes s n) (Then (runs_of s slice n) (all_sends s n)))
    (links_extend (packets_of s n)
    (λ l. up_to_extends 2 (Receives s n l) (IsPacketDue s n l) (λ es es' c. does_extend s n _ es es' c.does)))
    (then_extends (all_takes s n) (Then (runs_of s slice n) (all_sends s n))
    (links_extend (λ l. emission_of s n l (Take l))
    (λ l. up_to_extends 1 (Emits s n l (Take l)) (IsEmissionDue s n l (Take l))
    (λ es es' c. does_extend s n (Take l) es es' c.does)))
    (then_extends (runs_of s slice n) (all_sends s n)
    (up_to_extends slice (Does s n Run) (IsEnabled s n Run) (does_extend s n Run))
    (links_extend (λ l. emission_of s n l (Send l))
    (λ l. up_to_extends 1 (Emits s n l (Send l)) (IsEmissionDue s n l (Send l))
    (λ es es' c. does_extend s n (Send l) es es' c.does)))))

first_extend : (s : Share) (slice k : ℕ) → StepExtends (FirstNodes s slice k)
first_extend s slice zero es es' h = extends_self es es' h
first_extend s slice (suc k) es es' h =
    extends_more es h.0 es' (first_extend s slice k es h.0 h.1) (node_extends s slice (s.first + k) h.0 es' true h.2)

-- a turn, or its beginning
pub turn_extends : (s : Share) (slice : ℕ) (es es' : List OwnEvent) (ok : Bool) → IsTurn s slice es ok es'
    → Extends es es'
turn_extends s slice es es' true h = first_extend s slice s.owned es es' h
turn_extends s slice es es' false h =
    extends_more es h.2.0 es' (first_extend s slice h.0 es h.2.0 h.2.1)
    (node_extends s slice (s.first + h.0) h.2.0 es' false h.2.2)

pub turn_length : (s : Share) (slice : ℕ) (es es' : List OwnEvent) (ok : Bool) → IsTurn s slice es ok es'
    → length es ≤ length es'
turn_length s slice es es' ok h =
    let m : Extends es es' = turn_extends s slice es es' ok h in
    omega (arith, ap length m.1, length-append es m.0)

-- some steps, and then some more
pub times_add : (step : Step) (k j : ℕ) (es mid es' : List OwnEvent) → Times k step es mid → Times j step mid es'
    → Times (k + j) step es es'
times_add step k zero es mid es' h m =
    let e : k + 0 ≡ k = omega arith in
    subst (λ (n : ℕ). Times n step es es') (sym e) (subst (Times k step es) (sym m) h)
times_add step k (suc j) es mid es' h m =
    let e : k + suc j ≡ suc (k + j) = omega arith in
    subst (λ (n : ℕ). Times n step es es') (sym e) (m.0, times_add step k j es mid m.0 h m.1, m.2)
