-- Where what is seen of a net is over, events lead to where none is enabled.
use Rattle.std.proofs.Common.{◌≡◌, ℕ, zero, suc, ◌+◌, ◌≤◌, refl, sym, ◌∙◌, subst, Bool, true, false, not, List, [], ◌∷◌}
use Rattle.std.proofs.Common.{length, Some, Ok, Err, ◌&&◌, arith}
use Rattle.std.specs.List.{list_all}
use Rattle.tlink.specs.declared.event.StepFault.TheVariants.{NotEnabled, Frozen}
use Rattle.tplan.specs.declared.event.Event.{Event}
use Rattle.tplan.specs.declared.event.Note.{Note}
use Rattle.tnet.specs.Net.{NetState}
use Rattle.tnet.specs.Notes.{event_note}
use Rattle.tnet.specs.Packets.{NetAnswer, net_happens, is_done, is_enabled, after_answer, after_event}
use Rattle.tnet.specs.Quiet.{node_events, is_quiet_from, is_quiet}
use Rattle.tnet.specs.Rendezvous.{Configuration, Step, IsRun}
use Rattle.tnet.specs.Sound.{IsSound}
use Rattle.tnet.specs.View.{view, image}
use Rattle.tnet.proofs.QuietEvents.{quiet_agrees}
use Rattle.tnet.proofs.SeenEvents.{step_simulation}
use Rattle.treduction.specs.Ends.{IsOver}
use Rattle.tevents.specs.Events.{CanRest, OverNetsCanRest}
use Rattle.tevents.proofs.Steps.{event_first}
use Rattle.tevents.proofs.Unseen.{net_tally, room, net_within, IsUnseen, unseen}

-- an event that is enabled
record Enabled (net : NetState) : Type 0 where
  pub event : Event
  pub is : is_enabled net event ≡ true

-- one of a list that was tested
in_list : (net : NetState) (es : List Event) → list_all (λ e. not (is_enabled net e)) es ≡ false → Enabled net
in_list net [] h = cc
in_list net (e ∷ es) h = by (in_list net es) (is_enabled net e) refl h
  where
    by : (list_all (λ x. not (is_enabled net x)) es ≡ false → Enabled net) → (b : Bool) → is_enabled net e ≡ b
        → (not b && list_all (λ x. not (is_enabled net x)) es) ≡ false → Enabled net
    by rest true is k = record { event = e; is = is }
    by rest false is k = rest k

from : (net : NetState) (n k : ℕ) → is_quiet_from net n k ≡ false → Enabled net
from net n zero h = cc
from net n (suc k) h = by (from net (suc n) k) (list_all (λ e. not (is_enabled net e)) (node_events n)) refl h
  where
    by : (is_quiet_from net (suc n) k ≡ false → Enabled net) → (b : Bool)
        → list_all (λ e. not (is_enabled net e)) (node_events n) ≡ b
        → (b && is_quiet_from net (suc n) k) ≡ false → Enabled net
    by rest false test h = in_list net (node_events n) test
    by rest true test h = rest h

-- it is done
goes_on : (net : NetState) (n : ℕ) (a : NetAnswer) → is_done a ≡ true
    → (mid : NetState) × (after_answer n net a ≡ Some mid)
goes_on net n (Ok (net', e)) h = (net', refl)
goes_on net n (Err NotEnabled) h = cc
goes_on net n (Err (Frozen b)) h = (_, refl)

-- and nothing is seen of it
no_step : (w w' : Configuration) (steps : List Step) (notes : List Note) → IsOver w → IsRun w steps notes w'
    → steps ≡ []
no_step w w' [] notes over r = refl
no_step w w' (s ∷ ss) notes over r = absurd (over s r.0 r.2)

pub unseen_where_over : (net mid : NetState) (e : Event) → IsSound net → IsOver (view net)
    → after_event net e ≡ Some mid → image net e ≡ []
unseen_where_over net mid e sound over h =
    no_step (view net) (view mid) (image net e) (event_note net e) over (step_simulation net mid e sound h)

-- one event, if one is enabled, and then the rest
onward : (net : NetState) → IsSound net → IsOver (view net) → ((mid : NetState) → IsUnseen net mid → CanRest mid)
    → CanRest net
onward net sound over rest = by (is_quiet net) refl
  where
    by_event : (e : Event) → (mid : NetState) × (after_event net e ≡ Some mid) → CanRest net
    by_event e (mid, h) =
        let none : image net e ≡ [] = unseen_where_over net mid e sound over h in
        let u : IsUnseen net mid = unseen net mid e sound h none in
        let r : CanRest mid = rest mid u in
        record {
          events = e ∷ r.events;
          left = r.left;
          does = event_first net mid r.left e r.events [] [] h none r.does;
          quiet = r.quiet;
          shows = r.shows ∙ u.shows;
        }

    by : (b : Bool) → is_quiet net ≡ b → CanRest net
    by true test =
        record {
          events = [];
          left = net;
          does = record { done = refl; seen = refl };
          quiet = (quiet_agrees net sound).0 test;
          shows = refl;
        }
    by false test =
        let e : Enabled net = from net 0 (length net.nodes) test in
        by_event e.event (goes_on net e.event.node (net_happens e.event net) e.is)

-- events are done until none is enabled
rest_by : (k : ℕ) (net : NetState) → IsSound net → IsOver (view net) → room net ≤ net_tally net + k → CanRest net
rest_by zero net sound over enough =
    onward net sound over (λ mid u. absurd (omega (arith, u.room, u.tally, net_within mid u.sound, enough)))
rest_by (suc k) net sound over enough =
    onward net sound over
    (λ mid u. rest_by k mid u.sound (subst IsOver (sym u.shows) over) (omega (arith, u.room, u.tally, enough)))

pub over_nets_can_rest : OverNetsCanRest
over_nets_can_rest net sound over = rest_by (room net) net sound over (omega arith)
