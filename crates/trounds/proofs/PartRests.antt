-- A station of which no event is enabled does nothing in its part of a round, whatever is held.
use Rattle.std.proofs.Common.{◌≡◌, ℕ, zero, suc, ◌<◌, refl, sym, ap, ◌∙◌, Bool, true, false, ◌&&◌, List, Option, Some}
use Rattle.std.proofs.Common.{None, Ok, Err, arith}
use Rattle.std.specs.Prelude.{not, fold, if◌then◌else◌}
use Rattle.std.proofs.lemmas.Bool.{and_parts}
use Rattle.tlink.specs.declared.event.NodeEvent.{NodeEvent}
use Rattle.tlink.specs.declared.event.StepFault.TheVariants.{NotEnabled, Frozen}
use Rattle.tlink.specs.Events.{Answer, happens, is_node_done, node_answered, node_left_by}
use Rattle.tplan.specs.declared.event.Act.{Act}
use Rattle.tplan.specs.declared.event.Act.TheVariants.{Run, Send, Data, Take, Ack}
use Rattle.tplan.specs.declared.event.Hold.{Hold}
use Rattle.tplan.specs.declared.event.Note.{Note}
use Rattle.tplan.specs.declared.event.PacketKind.{PacketKind}
use Rattle.tplan.specs.declared.event.PacketKind.TheVariants as kind
use Rattle.tnet.specs.declared.inbox.Inbox.{Inbox}
use Rattle.tplan.specs.Wires.{end_at}
use Rattle.tnet.specs.Net.{four_links}
use Rattle.tnet.specs.Stations.{asked, answer_done, note_of}
use Rattle.trounds.specs.Rounds.{is_held, taking}
use Rattle.trounds.specs.Parts.{Station, Part, fresh, far_at, part_done, part_asked, part_does, lies, part_packet}
use Rattle.trounds.specs.Parts.{part_arrived, part_arrivals, part_runs, after_arrivals, after_takes, after_sends}
use Rattle.trounds.specs.Parts.{part_of_round, is_asked_enabled, is_station_enabled, is_link_quiet, is_station_quiet}
use Rattle.trounds.proofs.PartRooms.{run_rests}

-- an answer that an event is not enabled shows nothing that was done
not_done : (a : Answer) (told : Option Note) → is_node_done a ≡ false → answer_done (node_answered a) told ≡ None
not_done (Ok (n, e)) told h = let z : true ≡ false = h in cc
not_done (Err NotEnabled) told h = refl
not_done (Err (Frozen b)) told h = let z : true ≡ false = h in cc

-- an act that is not enabled leaves the part
pub does_nothing : (act : Act) (p : Part) → is_station_enabled p.station act ≡ false → part_does act p ≡ p
does_nothing act p h = by (asked act p.station.inboxes) h
  where
    by : (o : Option NodeEvent) → is_asked_enabled p.station.node o ≡ false → part_asked act p o ≡ p
    by None q = refl
    by (Some e) q =
        ap (part_done act p (node_left_by p.station.node (happens e p.station.node)))
        (not_done (happens e p.station.node) (note_of p.station.number (far_at p.station) e p.station.node) q)

-- what is denied is false
denied : (b : Bool) → not b ≡ true → b ≡ false
denied false h = refl
denied true h = let z : false ≡ true = h in cc

-- what is busy is not quiet, and what is not is
pub busy : (b : Bool) → not b ≡ true → b ≡ false
busy b h = denied b h

pub idle : (b : Bool) → not b ≡ false → b ≡ true
idle true h = refl
idle false h = let z : true ≡ false = h in cc

-- no event of a link is enabled
record Rests (s : Station) (l : ℕ) : Type 0 where
  send : is_station_enabled s (Send l) ≡ false
  data_comes : is_station_enabled s (Data l) ≡ false
  take : is_station_enabled s (Take l) ≡ false
  ack : is_station_enabled s (Ack l) ≡ false

link_rests : (s : Station) (l : ℕ) → is_link_quiet s l ≡ true → Rests s l
link_rests s l h =
    let a = and_parts _ _ h in
    let b = and_parts _ _ a.0 in
    let c = and_parts _ _ b.0 in
    record { send = denied _ c.0; data_comes = denied _ c.1; take = denied _ b.1; ack = denied _ a.1 }

-- steps at all four links, each of which leaves the part
four_rest : (f : Part → ℕ → Part) (p : Part) → f p 0 ≡ p → f p 1 ≡ p → f p 2 ≡ p → f p 3 ≡ p
    → fold f p four_links ≡ p
four_rest f p a b c d =
    ap (λ q. f (f (f q 1) 2) 3) a ∙ (ap (λ q. f (f q 2) 3) b ∙ (ap (λ q. f q 3) c ∙ d))

module _ (lay : Inbox) (holds : List Hold) (r l : ℕ) (p : Part) where
  packet_rests : (k : PacketKind) → part_does (taking k l) p ≡ p → part_packet lay holds r k l p ≡ p
  packet_rests k h = by (lies lay k && not (is_held holds r (end_at p.station.number l) k))
    where
      by : (b : Bool) → (if b then part_does (taking k l) p else p) ≡ p
      by true = h
      by false = refl

  arrived_rests : Rests p.station l → part_arrived lay holds r p l ≡ p
  arrived_rests rests =
      ap (part_packet lay holds r kind.Data l) (packet_rests kind.Ack (does_nothing (Ack l) p rests.ack))
      ∙ packet_rests kind.Data (does_nothing (Data l) p rests.data_comes)

-- where no run is enabled, none is done
pub no_run : (k : ℕ) (p : Part) → is_station_enabled p.station Run ≡ false → part_runs k p ≡ p
no_run k p h = run_rests k p (does_nothing Run p h)

pub rests_in_round : (holds : List Hold) (slice r : ℕ) (s : Station) → is_station_quiet s ≡ true
    → part_of_round holds slice r s ≡ fresh s
rests_in_round holds slice r s h =
    let d = and_parts _ _ h in
    let c = and_parts _ _ d.0 in
    let b = and_parts _ _ c.0 in
    let a = and_parts _ _ b.0 in
    let zero_rests = link_rests s 0 a.1 in
    let one_rests = link_rests s 1 b.1 in
    let two_rests = link_rests s 2 c.1 in
    let three_rests = link_rests s 3 d.1 in
    let arrivals : after_arrivals holds r s ≡ fresh s =
    four_rest (part_arrivals s.inboxes holds r) (fresh s) (arrived_rests _ holds r 0 (fresh s) zero_rests)
    (arrived_rests _ holds r 1 (fresh s) one_rests) (arrived_rests _ holds r 2 (fresh s) two_rests)
    (arrived_rests _ holds r 3 (fresh s) three_rests) in
    let takes : after_takes (fresh s) ≡ fresh s =
    four_rest (λ p l. part_does (Take l) p) (fresh s) (does_nothing (Take 0) (fresh s) zero_rests.take)
    (does_nothing (Take 1) (fresh s) one_rests.take) (does_nothing (Take 2) (fresh s) two_rests.take)
    (does_nothing (Take 3) (fresh s) three_rests.take) in
    let runs : part_runs slice (fresh s) ≡ fresh s =
    run_rests slice (fresh s) (does_nothing Run (fresh s) (denied _ a.0)) in
    let sends : after_sends (fresh s) ≡ fresh s =
    four_rest (λ p l. part_does (Send l) p) (fresh s) (does_nothing (Send 0) (fresh s) zero_rests.send)
    (does_nothing (Send 1) (fresh s) one_rests.send) (does_nothing (Send 2) (fresh s) two_rests.send)
    (does_nothing (Send 3) (fresh s) three_rests.send) in
    ap (λ p. after_sends (part_runs slice (after_takes p))) arrivals
    ∙ (ap (λ p. after_sends (part_runs slice p)) takes ∙ (ap after_sends runs ∙ sends))

-- four links, of which each is quiet where all of the station is
each_rests : (s : Station) (l : ℕ) → l < 4 → is_station_quiet s ≡ true → Rests s l
each_rests s l few h =
    let d = and_parts _ _ h in
    let c = and_parts _ _ d.0 in
    let b = and_parts _ _ c.0 in
    let a = and_parts _ _ b.0 in
    by l few a.1 b.1 c.1 d.1
  where
    by : (l : ℕ) → l < 4 → is_link_quiet s 0 ≡ true → is_link_quiet s 1 ≡ true → is_link_quiet s 2 ≡ true
        → is_link_quiet s 3 ≡ true → Rests s l
    by zero few e f g i = link_rests s 0 e
    by (suc zero) few e f g i = link_rests s 1 f
    by (suc (suc zero)) few e f g i = link_rests s 2 g
    by (suc (suc (suc zero))) few e f g i = link_rests s 3 i
    by (suc (suc (suc (suc m)))) few e f g i = absurd (omega arith)

-- where a packet that lies at a link comes in, the station is not quiet
pub data_is_busy : (s : Station) (l : ℕ) → l < 4 → is_station_enabled s (Data l) ≡ true → is_station_quiet s ≡ false
data_is_busy s l few on = by (is_station_quiet s) refl
  where
    by : (b : Bool) → is_station_quiet s ≡ b → b ≡ false
    by false h = refl
    by true h = let z : true ≡ false = sym on ∙ (each_rests s l few h).data_comes in cc

pub ack_is_busy : (s : Station) (l : ℕ) → l < 4 → is_station_enabled s (Ack l) ≡ true → is_station_quiet s ≡ false
ack_is_busy s l few on = by (is_station_quiet s) refl
  where
    by : (b : Bool) → is_station_quiet s ≡ b → b ≡ false
    by false h = refl
    by true h = let z : true ≡ false = sym on ∙ (each_rests s l few h).ack in cc

-- a link of which no act is enabled
link_still : (s : Station) (l : ℕ) → is_station_enabled s (Send l) ≡ false → is_station_enabled s (Data l) ≡ false
    → is_station_enabled s (Take l) ≡ false → is_station_enabled s (Ack l) ≡ false → is_link_quiet s l ≡ true
link_still s l a b c d = rw (a, b, c, d) refl

-- a station of which no act is enabled is quiet
pub still : (s : Station) → is_station_enabled s Run ≡ false
    → ((l : ℕ) → l < 4 → is_station_enabled s (Send l) ≡ false)
    → ((l : ℕ) → l < 4 → is_station_enabled s (Data l) ≡ false)
    → ((l : ℕ) → l < 4 → is_station_enabled s (Take l) ≡ false)
    → ((l : ℕ) → l < 4 → is_station_enabled s (Ack l) ≡ false) → is_station_quiet s ≡ true
still s run sends data_come takes acks =
    let at : (l : ℕ) → l < 4 → is_link_quiet s l ≡ true =
    λ l few. link_still s l (sends l few) (data_come l few) (takes l few) (acks l few) in
    let none = at 0 (omega arith) in
    let one = at 1 (omega arith) in
    let two = at 2 (omega arith) in
    let three = at 3 (omega arith) in
    rw (run, none, one, two, three) refl

-- what holds of each of the four links
pub four_links_are : (P : ℕ → Type 0) → P 0 → P 1 → P 2 → P 3 → (l : ℕ) → l < 4 → P l
four_links_are P a b c d zero few = a
four_links_are P a b c d (suc zero) few = b
four_links_are P a b c d (suc (suc zero)) few = c
four_links_are P a b c d (suc (suc (suc zero))) few = d
four_links_are P a b c d (suc (suc (suc (suc m)))) few = absurd (omega arith)
