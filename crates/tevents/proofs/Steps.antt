-- Steps and runs of the rendezvous machine are done by events.
use Rattle.std.proofs.Common.{◌≡◌, ℕ, zero, suc, ◌+◌, ◌≤◌, refl, sym, ap, ◌∙◌, subst, List, [], ◌∷◌, ◌++◌, append_assoc}
use Rattle.std.proofs.Common.{Option, Some, None, inl, inr, arith}
use Rattle.tplan.specs.declared.event.Event.{Event}
use Rattle.tplan.specs.declared.event.Note.{Note}
use Rattle.tnet.specs.Net.{NetState}
use Rattle.tnet.specs.Packets.{after_event, after_events, then_after, answered, net_happens}
use Rattle.tnet.specs.Notes.{event_note}
use Rattle.tnet.specs.Sound.{IsSound}
use Rattle.tnet.specs.Rendezvous.{Configuration, Step, Lawful, IsRun}
use Rattle.tnet.specs.View.{view, image, images, images_after}
use Rattle.tnet.proofs.Determined.{is_determined}
use Rattle.tnet.proofs.Headline.{simulation}
use Rattle.tnet.proofs.SeenEvents.{step_simulation}
use Rattle.treduction.specs.Ends.{NoneFrozen, HasFrozen}
use Rattle.treduction.specs.Quiet.{TakesFrozen}
use Rattle.treduction.proofs.Frozen.{not_frozen, none_frozen, step_frozen}
use Rattle.treduction.proofs.Quiet.{none_taken}
use Rattle.tevents.specs.declared.moves.Move.{Move}
use Rattle.tevents.specs.Finding.{IsMove, ends}
use Rattle.tevents.specs.Events.{DoesSteps, AreDone, StepsAreEvents, RunsAreEvents, RunsToFreezesAreEvents}
use Rattle.tevents.proofs.Unseen.{net_tally, room, net_within, IsUnseen, unseen}
use Rattle.tevents.proofs.Towards.{NextEvent, next_event_of, move_of}
use Rattle.tevents.proofs.WireSteps.{Shows}

-- one event, and then others
pub event_first : (net mid left : NetState) (e : Event) (es : List Event) (ss ts : List Step)
    → after_event net e ≡ Some mid → image net e ≡ ss → DoesSteps mid es left ts
    → DoesSteps net (e ∷ es) left (ss ++ ts)
event_first net mid left e es ss ts h seen d = record { done = rw h d.done; seen = rw (h, seen, d.seen) refl }

-- some events, and then others
pub both_done : (net mid left : NetState) (es fs : List Event) (ss ts : List Step) → DoesSteps net es mid ss
    → DoesSteps mid fs left ts → DoesSteps net (es ++ fs) left (ss ++ ts)
both_done net mid left [] fs ss ts h k =
    let same : net ≡ mid = let d : Some net ≡ Some mid = h.done in cc in
    record { done = rw same k.done; seen = rw same (k.seen ∙ ap (λ (x : List Step). x ++ ts) h.seen) }
both_done net mid left (e ∷ es) fs ss ts h k =
    by (λ net1 d. both_done net1 mid left es fs (images es net1) ts d k) (after_event net e) refl h.done h.seen
  where
    by : ((net1 : NetState) → DoesSteps net1 es mid (images es net1)
        → DoesSteps net1 (es ++ fs) left (images es net1 ++ ts))
        → (o : Option NetState) → after_event net e ≡ o → then_after (after_events es) o ≡ Some mid
        → image net e ++ images_after (images es) o ≡ ss → DoesSteps net ((e ∷ es) ++ fs) left (ss ++ ts)
    by rest None there done seen = absurd cc
    by rest (Some net1) there done seen =
        let d : DoesSteps net ((e ∷ es) ++ fs) left (image net e ++ (images es net1 ++ ts)) =
        event_first net net1 left e (es ++ fs) (image net e) (images es net1 ++ ts) there refl
        (rest net1 (record { done = done; seen = refl })) in
        subst (λ (x : List Step). DoesSteps net ((e ∷ es) ++ fs) left x)
        (sym (append_assoc (image net e) (images es net1) ts) ∙ ap (λ (x : List Step). x ++ ts) seen) d

-- an event that is seen as a step leads to where the step leads
pub shows_step : (net left : NetState) (e : Event) (s : Step) (w : Configuration) → IsSound net
    → after_event net e ≡ Some left → image net e ≡ s ∷ [] → Lawful (view net) s w → view left ≡ w
shows_step net left e s w sound done seen k =
    let r : IsRun (view net) (s ∷ []) (event_note net e) (view left) =
    subst (λ (ss : List Step). IsRun (view net) ss (event_note net e) (view left)) seen
    (step_simulation net left e sound done) in
    sym r.4.1 ∙ is_determined (view net) r.0 w s r.2 k

-- one event towards a step, and then the rest
onward : (net : NetState) (s : Step) (w : Configuration) → IsSound net → Lawful (view net) s w
    → (TakesFrozen (view net) s → ⊥)
    → ((mid : NetState) → IsUnseen net mid → AreDone mid (s ∷ []) w)
    → AreDone net (s ∷ []) w
onward net s w sound k free rest = by (move_of (view net) w s k)
  where
    by : (m : Move) × IsMove (view net) m s → AreDone net (s ∷ []) w
    by (m, is) = on n.towards.seen
      where
        n : NextEvent net m s
        n = next_event_of net sound m s w is k free

        on : Shows s (image net n.event) (ends m n.event.act (answered (net_happens n.event net)))
            → AreDone net (s ∷ []) w
        on (inl (seen, last)) =
            record {
              events = n.event ∷ [];
              left = n.towards.left;
              does = event_first net n.towards.left n.towards.left n.event [] (s ∷ []) [] n.towards.done seen
                  (record { done = refl; seen = refl });
              shows = shows_step net n.towards.left n.event s w sound n.towards.done seen k;
            }
        on (inr (none, not_yet)) =
            let r : AreDone n.towards.left (s ∷ []) w =
            rest n.towards.left (unseen net n.towards.left n.event sound n.towards.done none) in
            record {
              events = n.event ∷ r.events;
              left = r.left;
              does = event_first net n.towards.left r.left n.event r.events [] (s ∷ []) n.towards.done none r.does;
              shows = r.shows;
            }

-- what holds in what was seen, where nothing new is seen
still_lawful : (net mid : NetState) (s : Step) (w : Configuration) → IsUnseen net mid → Lawful (view net) s w
    → Lawful (view mid) s w
still_lawful net mid s w u k = subst (λ (v : Configuration). Lawful v s w) (sym u.shows) k

still_free : (net mid : NetState) (s : Step) → IsUnseen net mid → (TakesFrozen (view net) s → ⊥)
    → TakesFrozen (view mid) s → ⊥
still_free net mid s u free t = free (subst (λ (v : Configuration). TakesFrozen v s) u.shows t)

-- events towards a step are done until one is the step
step_by : (k : ℕ) (net : NetState) (s : Step) (w : Configuration) → IsSound net → Lawful (view net) s w
    → (TakesFrozen (view net) s → ⊥) → room net ≤ net_tally net + k → AreDone net (s ∷ []) w
step_by zero net s w sound lawful free enough =
    onward net s w sound lawful free
    (λ mid u. absurd (omega (arith, u.room, u.tally, net_within mid u.sound, enough)))
step_by (suc k) net s w sound lawful free enough =
    onward net s w sound lawful free
    (λ mid u. step_by k mid s w u.sound (still_lawful net mid s w u lawful) (still_free net mid s u free)
    (omega (arith, u.room, u.tally, enough)))

pub steps_are_events : StepsAreEvents
steps_are_events net s w sound lawful free = step_by (room net) net s w sound lawful free (omega arith)

-- where no node is frozen in the end, none was
run_frozen : (w w' : Configuration) (steps : List Step) (notes : List Note) → IsRun w steps notes w' → HasFrozen w
    → HasFrozen w'
run_frozen w w' [] notes r h = subst HasFrozen r.1 h
run_frozen w w' (s ∷ ss) notes r h = run_frozen r.0 w' ss r.1 r.4 (step_frozen w r.0 s r.2 h)

pub none_before : (w w' : Configuration) (steps : List Step) (notes : List Note) → IsRun w steps notes w'
    → NoneFrozen w' → NoneFrozen w
none_before w w' steps notes r none =
    none_frozen w (λ h. not_frozen w' none (run_frozen w w' steps notes r h))

-- some events, and then others that do what follows
pub then_done : (net : NetState) (ss ts : List Step) (mid w : Configuration) → IsSound net → (a : AreDone net ss mid)
    → (IsSound a.left → AreDone a.left ts w) → AreDone net (ss ++ ts) w
then_done net ss ts mid w sound a rest =
    let b : AreDone a.left ts w = rest (simulation net a.left a.events sound a.does.done).1 in
    record {
      events = a.events ++ b.events;
      left = b.left;
      does = both_done net a.left b.left a.events b.events ss ts a.does b.does;
      shows = b.shows;
    }

pub runs_are_events : RunsAreEvents
runs_are_events net [] notes w sound r none =
    record { events = []; left = net; does = record { done = refl; seen = refl }; shows = r.1 }
runs_are_events net (s ∷ ss) notes w sound r none =
    then_done net (s ∷ []) ss r.0 w sound a
    (λ sound'. runs_are_events a.left ss r.1 w sound'
    (subst (λ (v : Configuration). IsRun v ss r.1 w) (sym a.shows) r.4) none)
  where
    a : AreDone net (s ∷ []) r.0
    a =
        steps_are_events net s r.0 sound r.2
        (none_taken (view net) s (none_before (view net) w (s ∷ ss) notes r none))

pub runs_to_freezes_are_events : RunsToFreezesAreEvents
runs_to_freezes_are_events net steps notes w w' s sound r none lawful =
    then_done net steps (s ∷ []) w w' sound a
    (λ sound'. steps_are_events a.left s w' sound' (subst (λ (v : Configuration). Lawful v s w') (sym a.shows) lawful)
    (none_taken (view a.left) s (subst NoneFrozen (sym a.shows) none)))
  where
    a : AreDone net steps w
    a = runs_are_events net steps notes w sound r none
