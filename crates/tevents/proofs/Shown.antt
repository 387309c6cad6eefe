-- What the runs of a plan come to, its nets of packets come to.
use Rattle.std.proofs.Common.{◌≡◌, ℕ, zero, suc, refl, sym, ap, ◌∙◌, subst, List, [], ◌∷◌, ◌++◌, Option, Some, None}
use Rattle.std.proofs.Common.{◌⊎◌, inl, inr}
use Rattle.std.specs.Prelude.{slice_get}
use Rattle.tword.specs.declared.breaks.Break.{Break}
use Rattle.tplan.specs.declared.event.Event.{Event}
use Rattle.tplan.specs.declared.event.Note.{Note}
use Rattle.tnet.specs.Building.{opening_net}
use Rattle.tnet.specs.Net.{NetState}
use Rattle.tnet.specs.Rendezvous.{Configuration, Node, Step, IsRun}
use Rattle.tnet.specs.Sound.{IsSound}
use Rattle.tnet.specs.View.{view}
use Rattle.tnet.proofs.Headline.{simulation}
use Rattle.tnet.proofs.OpenedNets.{opens_sound, opens_alike}
use Rattle.treduction.specs.Ends.{IsOver, NoneFrozen, HasFrozen}
use Rattle.treduction.proofs.Quiet.{IsSeen, is_seen, none_taken}
use Rattle.tevents.specs.Events.{DoesSteps, AreDone, CanRest, OutcomesAreShown, HasNetFreeze}
use Rattle.tevents.specs.Events.{FreezesAreShown}
use Rattle.tevents.proofs.CanRest.{over_nets_can_rest}
use Rattle.tevents.proofs.Steps.{steps_are_events, runs_are_events, both_done}

pub outcomes_are_shown : OutcomesAreShown
outcomes_are_shown p w built words o =
    record {
      events = a.events ++ r.events;
      net = r.left;
      done = (both_done (opening_net p) a.left r.left a.events r.events o.ends.steps [] a.does r.does).done;
      quiet = r.quiet;
      shows = r.shows ∙ a.shows;
    }
  where
    sound : IsSound (opening_net p)
    sound = opens_sound p built words

    a : AreDone (opening_net p) o.ends.steps w
    a =
        runs_are_events (opening_net p) o.ends.steps o.ends.notes w sound
        (subst (λ (v : Configuration). IsRun v o.ends.steps o.ends.notes w) (sym (opens_alike p)) o.ends.run) o.working

    r : CanRest a.left
    r =
        over_nets_can_rest a.left (simulation (opening_net p) a.left a.events sound a.does.done).1
        (subst IsOver (sym a.shows) o.ends.over)

-- no node of a list is frozen, or one is
find_frozen : (nodes : List Node) → ((n : ℕ) (s : Node) → slice_get nodes n ≡ Some s → s.broken ≡ None)
    ⊎ ((n : ℕ) × (s : Node) × (b : Break) × (slice_get nodes n ≡ Some s) × (s.broken ≡ Some b))
find_frozen [] = inl (λ n s h. cc)
find_frozen (a ∷ rest) = by a.broken refl (find_frozen rest)
  where
    by : (o : Option Break) → a.broken ≡ o
        → ((n : ℕ) (s : Node) → slice_get rest n ≡ Some s → s.broken ≡ None)
        ⊎ ((n : ℕ) × (s : Node) × (b : Break) × (slice_get rest n ≡ Some s) × (s.broken ≡ Some b))
        → ((n : ℕ) (s : Node) → slice_get (a ∷ rest) n ≡ Some s → s.broken ≡ None)
        ⊎ ((n : ℕ) × (s : Node) × (b : Break) × (slice_get (a ∷ rest) n ≡ Some s) × (s.broken ≡ Some b))
    by (Some b) e found = inr (0, a, b, refl, e)
    by None e (inr (n, s, b, here, frozen)) = inr (suc n, s, b, here, frozen)
    by None e (inl none) = inl all
      where
        all : (n : ℕ) (s : Node) → slice_get (a ∷ rest) n ≡ Some s → s.broken ≡ None
        all zero s h = let same : a ≡ s = cc in ap (λ (x : Node). x.broken) (sym same) ∙ e
        all (suc n) s h = none n s h

frozen_or_not : (w : Configuration) → NoneFrozen w ⊎ HasFrozen w
frozen_or_not w = by (find_frozen w.nodes)
  where
    by : ((n : ℕ) (s : Node) → slice_get w.nodes n ≡ Some s → s.broken ≡ None)
        ⊎ ((n : ℕ) × (s : Node) × (b : Break) × (slice_get w.nodes n ≡ Some s) × (s.broken ≡ Some b))
        → NoneFrozen w ⊎ HasFrozen w
    by (inl none) = inl none
    by (inr (n, s, b, here, frozen)) =
        inr (record { place = n; node = s; break = b; here = here; frozen = frozen })

-- events to the first node that freezes
record ComesToFreeze (net : NetState) : Type 0 where
  pub events : List Event
  pub left : NetState
  pub steps : List Step
  pub does : DoesSteps net events left steps
  pub frozen : HasFrozen (view left)

first_freeze : (net : NetState) (steps : List Step) (notes : List Note) (w : Configuration) → IsSound net
    → IsRun (view net) steps notes w → HasFrozen w → ComesToFreeze net
first_freeze net [] notes w sound r h =
    record {
      events = [];
      left = net;
      steps = [];
      does = record { done = refl; seen = refl };
      frozen = subst HasFrozen (sym r.1) h;
    }
first_freeze net (s ∷ ss) notes w sound r h =
    by (frozen_or_not (view net)) (λ left sound' k. first_freeze left ss r.1 w sound' k h)
  where
    by : NoneFrozen (view net) ⊎ HasFrozen (view net)
        → ((left : NetState) → IsSound left → IsRun (view left) ss r.1 w → ComesToFreeze left) → ComesToFreeze net
    by (inr here) rest =
        record {
          events = [];
          left = net;
          steps = [];
          does = record { done = refl; seen = refl };
          frozen = here;
        }
    by (inl none) rest =
        let a : AreDone net (s ∷ []) r.0 =
        steps_are_events net s r.0 sound r.2 (none_taken (view net) s none) in
        let c : ComesToFreeze a.left =
        rest a.left (simulation net a.left a.events sound a.does.done).1
        (subst (λ (v : Configuration). IsRun v ss r.1 w) (sym a.shows) r.4) in
        record {
          events = a.events ++ c.events;
          left = c.left;
          steps = (s ∷ []) ++ c.steps;
          does = both_done net a.left c.left a.events c.events (s ∷ []) c.steps a.does c.does;
          frozen = c.frozen;
        }

pub freezes_are_shown : FreezesAreShown
freezes_are_shown p n b f = by (is_seen c.left c.frozen.place c.frozen.node sound c.frozen.here)
  where
    opened : IsSound (opening_net p)
    opened = opens_sound p f.reached.built f.reached.words

    c : ComesToFreeze (opening_net p)
    c =
        first_freeze (opening_net p) f.reached.steps f.reached.notes f.where_it_is opened
        (subst (λ (v : Configuration). IsRun v f.reached.steps f.reached.notes f.where_it_is) (sym (opens_alike p))
        f.reached.run)
        (record { place = n; node = f.node; break = b; here = f.here; frozen = f.frozen })

    sound : IsSound c.left
    sound = (simulation (opening_net p) c.left c.events opened c.does.done).1

    by : IsSeen c.left c.frozen.place c.frozen.node → HasNetFreeze p
    by s =
        record {
          events = c.events;
          net = c.left;
          done = c.does.done;
          place = c.frozen.place;
          node = s.node;
          break = c.frozen.break;
          here = s.there;
          frozen = ap (λ (x : Node). x.broken) s.looks ∙ c.frozen.frozen;
        }
