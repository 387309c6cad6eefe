-- Rounds on one list of nodes: the plain definition.
-- Source: own choice.
use Rattle.std.specs.Prelude.{ℕ, ◌≡◌, zero, suc, Bool, true, false, not, ◌&&◌, nat_lt, nat_le, List, [], ◌∷◌, ◌++◌}
use Rattle.std.specs.Prelude.{length, fold, position, Option, Some, None, is_some, if◌then◌else◌}
use Rattle.std.specs.List.{list_any}
use Rattle.tword.specs.Limits.{most_holds}
use Rattle.tplan.specs.declared.event.Act.{Act}
use Rattle.tplan.specs.declared.event.Act.TheVariants.{Run, Send, Data, Take, Ack}
use Rattle.tplan.specs.declared.event.Event.{Event}
use Rattle.tplan.specs.declared.event.Hold.{Hold}
use Rattle.tplan.specs.declared.event.PacketKind.{PacketKind}
use Rattle.tplan.specs.declared.event.PacketKind.TheVariants as kind
use Rattle.tplan.specs.declared.event.Note.{Note}
use Rattle.tplan.specs.declared.plan.End.{End}
use Rattle.trounds.specs.declared.report.Ending.{Ending}
use Rattle.trounds.specs.declared.report.Ending.TheVariants as ending
use Rattle.tplan.specs.Wires.{end_at, same_end, far_end}
use Rattle.tnet.specs.Net.{NetState, inbox_at, four_links}
use Rattle.tnet.specs.Packets.{after_event, after_events}
use Rattle.tnet.specs.Notes.{event_note, notes}
use Rattle.tnet.specs.Quiet.{is_quiet}

-- a net with the events done so far, and what they told
pub record Progress : Type 0 where
  pub net : NetState
  pub events : List Event
  pub notes : List Note

-- the progress after an event that was tried
abbrev pub tried_as : Event → Progress → Option NetState → Progress
tried_as e p None = p
tried_as e p (Some net) = record { net = net; events = p.events ++ e ∷ []; notes = p.notes ++ event_note p.net e }

-- an event is done if it is enabled
abbrev pub try_event : Event → Progress → Progress
try_event e p = tried_as e p (after_event p.net e)

-- an act of a node is done if it is enabled
abbrev pub try_act : ℕ → Act → Progress → Progress
try_act n act p = try_event (record { node = n; act = act }) p

-- two kinds of packets are the same
abbrev pub same_kind : PacketKind → PacketKind → Bool
same_kind kind.Data kind.Data = true
same_kind kind.Ack kind.Ack = true
same_kind _ _ = false

-- a hold covers packets of this kind at this end in this round
abbrev pub covers : Hold → ℕ → End → PacketKind → Bool
covers h r e k = same_end h.end e && same_kind h.kind k && nat_le h.from r && nat_lt r h.until

-- some hold covers packets of this kind at this end in this round
abbrev pub is_held : List Hold → ℕ → End → PacketKind → Bool
is_held holds r e k = list_any (λ h. covers h r e k) holds

-- a packet of this kind lay at the end before the round
abbrev pub lay : NetState → End → PacketKind → Bool
lay before e kind.Data = is_some (inbox_at before e).carried
lay before e kind.Ack = (inbox_at before e).acknowledged

-- the act that takes a packet of this kind
abbrev pub taking : PacketKind → ℕ → Act
taking kind.Data l = Data l
taking kind.Ack l = Ack l

-- a packet that lay at a link before the round and is not held is taken
abbrev pub try_packet : NetState → List Hold → ℕ → ℕ → PacketKind → ℕ → Progress → Progress
try_packet before holds r n k l p =
    if lay before (end_at n l) k && not (is_held holds r (end_at n l) k) then try_act n (taking k l) p else p

-- an action on each link in turn
abbrev pub each_link : (ℕ → Progress → Progress) → Progress → Progress
each_link f p = fold (λ p l. f l p) p four_links

-- a given number of runs of a node, each if it is enabled
abbrev pub run_some : ℕ → ℕ → Progress → Progress
run_some zero n p = p
run_some (suc k) n p = run_some k n (try_act n Run p)

-- the four phases of a node in round r. before: the net before the round
abbrev pub node_round : NetState → List Hold → ℕ → ℕ → ℕ → Progress → Progress
node_round before holds slice r n p =
    let arrived =
    each_link (λ l q. try_packet before holds r n kind.Data l (try_packet before holds r n kind.Ack l q)) p in
    let given = each_link (λ l q. try_act n (Take l) q) arrived in
    let ran = run_some slice n given in
    each_link (λ l q. try_act n (Send l) q) ran

-- round r over the nodes from a number on
abbrev pub nodes_round : NetState → List Hold → ℕ → ℕ → ℕ → ℕ → Progress → Progress
nodes_round before holds slice r n zero p = p
nodes_round before holds slice r n (suc k) p =
    nodes_round before holds slice r (suc n) k (node_round before holds slice r n p)

-- one round over all nodes
abbrev pub round : List Hold → ℕ → ℕ → Progress → Progress
round holds slice r p = nodes_round p.net holds slice r 0 (length p.net.nodes) p

-- the outcome of rounds: how they end, after how many of them
pub record Rounds : Type 0 where
  pub ending : Ending
  pub count : ℕ
  pub progress : Progress

-- rounds from a number on; the quiet test comes first
abbrev pub rounds_from : List Hold → ℕ → ℕ → ℕ → Progress → Rounds
rounds_from holds slice zero r p =
    record { ending = (if is_quiet p.net then ending.Quiet else ending.Rounds); count = r; progress = p }
rounds_from holds slice (suc k) r p =
    elim (is_quiet p.net) [
      | true ↦ record { ending = ending.Quiet; count = r; progress = p }
      | false ↦ rounds_from holds slice k (suc r)
          (round holds slice r p)
    ]

-- at most this many rounds of a net
abbrev pub rounds : List Hold → ℕ → ℕ → NetState → Rounds
rounds holds slice most net = rounds_from holds slice most 0 (record { net = net; events = []; notes = [] })

-- a hold names a wired end and does not end before it begins
abbrev pub is_good_hold : NetState → Hold → Bool
is_good_hold net h = is_some (far_end net.wires h.end) && nat_le h.from h.until

-- the place of the first bad hold, or of the first one too many
abbrev pub bad_hold : NetState → List Hold → Option ℕ
bad_hold net holds = first_bad (position (λ h. not (is_good_hold net h)) holds)
  where
    beyond : Option ℕ
    beyond = if nat_lt most_holds (length holds) then Some most_holds else None

    first_bad : Option ℕ → Option ℕ
    first_bad None = beyond
    first_bad (Some k) = if nat_lt k most_holds then Some k else beyond

-- the events of rounds are a run from the net handed in to the net of the report, and the notes are theirs
abbrev pub RoundsAreRun : Type 0
RoundsAreRun =
    (holds : List Hold) (slice most : ℕ) (net : NetState)
    → (after_events (rounds holds slice most net).progress.events net ≡ Some (rounds holds slice most net).progress.net)
    × ((rounds holds slice most net).progress.notes ≡ notes (rounds holds slice most net).progress.events net)
