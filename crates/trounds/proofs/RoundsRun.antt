-- The events of rounds are a run of the packet machine, with its notes.
use Rattle.std.proofs.Common.{◌≡◌, ℕ, zero, suc, refl, sym, ap, ◌∙◌, List, [], ◌∷◌, ◌++◌, Bool, true, false, Option}
use Rattle.std.proofs.Common.{Some, None, append_assoc}
use Rattle.std.specs.Prelude.{length, if◌then◌else◌}
use Rattle.std.proofs.lemmas.List.{append-nil}
use Rattle.tplan.specs.declared.event.Act.{Act}
use Rattle.tplan.specs.declared.event.Act.TheVariants.{Run, Send, Take}
use Rattle.tplan.specs.declared.event.Event.{Event}
use Rattle.tplan.specs.declared.event.Hold.{Hold}
use Rattle.tplan.specs.declared.event.PacketKind.{PacketKind}
use Rattle.tplan.specs.declared.event.PacketKind.TheVariants as kind
use Rattle.tplan.specs.declared.event.Note.{Note}
use Rattle.trounds.specs.declared.report.Ending.TheVariants as ending
use Rattle.tnet.specs.Net.{NetState}
use Rattle.tnet.specs.Packets.{after_event, after_events, then_after}
use Rattle.tnet.specs.Notes.{event_note, notes, notes_after}
use Rattle.trounds.specs.Rounds.{Progress, Rounds, tried_as, try_act, taking, try_packet, each_link, run_some}
use Rattle.trounds.specs.Rounds.{node_round, nodes_round, round, rounds_from, RoundsAreRun}
use Rattle.tnet.specs.Quiet.{is_quiet}

-- the net after some events and then others
after_append : (es fs : List Event) (net mid : NetState) → after_events es net ≡ Some mid
    → after_events (es ++ fs) net ≡ after_events fs mid
after_append [] fs net mid h = let e : net ≡ mid = cc in ap (after_events fs) e
after_append (e ∷ es) fs net mid h = by (after_event net e) (λ n k. after_append es fs n mid k) h
  where
    by : (o : Option NetState)
        → ((n : NetState) → after_events es n ≡ Some mid → after_events (es ++ fs) n ≡ after_events fs mid)
        → then_after (after_events es) o ≡ Some mid → then_after (after_events (es ++ fs)) o ≡ after_events fs mid
    by None rest k = cc
    by (Some n) rest k = rest n k

-- the notes of some events and then others
pub notes_append : (es fs : List Event) (net mid : NetState) → after_events es net ≡ Some mid
    → notes (es ++ fs) net ≡ notes es net ++ notes fs mid
notes_append [] fs net mid h = let e : net ≡ mid = cc in ap (notes fs) e
notes_append (e ∷ es) fs net mid h =
    ap (λ (ns : List Note). event_note net e ++ ns) (by (after_event net e) (λ n k. notes_append es fs n mid k) h)
    ∙ sym (append_assoc (event_note net e) (notes_after (notes es) (after_event net e)) (notes fs mid))
  where
    by : (o : Option NetState)
        → ((n : NetState) → after_events es n ≡ Some mid → notes (es ++ fs) n ≡ notes es n ++ notes fs mid)
        → then_after (after_events es) o ≡ Some mid
        → notes_after (notes (es ++ fs)) o ≡ notes_after (notes es) o ++ notes fs mid
    by None rest k = cc
    by (Some n) rest k = rest n k

-- the progress is that of a run
abbrev IsProgress : NetState → Progress → Type 0
IsProgress net p = (after_events p.events net ≡ Some p.net) × (p.notes ≡ notes p.events net)

module _ (net : NetState) where
  tried : (e : Event) (p : Progress) (o : Option NetState) → after_event p.net e ≡ o → IsProgress net p
      → IsProgress net (tried_as e p o)
  tried e p None h d = d
  tried e p (Some n) h d = (
    after_append p.events (e ∷ []) net p.net d.0 ∙ rw h refl,
    ap (λ (ns : List Note). ns ++ event_note p.net e) d.1
        ∙ sym (notes_append p.events (e ∷ []) net p.net d.0 ∙ rw (h, append-nil (event_note p.net e)) refl),
  )

  acts : (n : ℕ) (act : Act) (p : Progress) → IsProgress net p → IsProgress net (try_act n act p)
  acts n act p d = tried (record { node = n; act = act }) p _ refl d

  either : (b : Bool) (p q : Progress) → IsProgress net p → IsProgress net q → IsProgress net (if b then p else q)
  either true p q d e = d
  either false p q d e = e

  packets : (before : NetState) (holds : List Hold) (r n : ℕ) (k : PacketKind) (l : ℕ) (p : Progress) → IsProgress net p
      → IsProgress net (try_packet before holds r n k l p)
  packets before holds r n k l p d = either _ (try_act n (taking k l) p) p (acts n (taking k l) p d) d

  on_links : (f : ℕ → Progress → Progress) (p : Progress)
      → ((l : ℕ) (q : Progress) → IsProgress net q → IsProgress net (f l q)) → IsProgress net p
      → IsProgress net (each_link f p)
  on_links f p h d = h 3 _ (h 2 _ (h 1 _ (h 0 p d)))

  runs_some : (k n : ℕ) (p : Progress) → IsProgress net p → IsProgress net (run_some k n p)
  runs_some zero n p d = d
  runs_some (suc k) n p d = runs_some k n (try_act n Run p) (acts n Run p d)

  in_node : (before : NetState) (holds : List Hold) (slice r n : ℕ) (p : Progress) → IsProgress net p
      → IsProgress net (node_round before holds slice r n p)
  in_node before holds slice r n p d =
      on_links (λ l q. try_act n (Send l) q) _ (λ l q e. acts n (Send l) q e)
      (runs_some slice n _
      (on_links (λ l q. try_act n (Take l) q) _ (λ l q e. acts n (Take l) q e)
      (on_links (λ l q. try_packet before holds r n kind.Data l (try_packet before holds r n kind.Ack l q)) p
      (λ l q e. packets before holds r n kind.Data l _ (packets before holds r n kind.Ack l q e)) d)))

  in_nodes : (before : NetState) (holds : List Hold) (slice r n k : ℕ) (p : Progress) → IsProgress net p
      → IsProgress net (nodes_round before holds slice r n k p)
  in_nodes before holds slice r n zero p d = d
  in_nodes before holds slice r n (suc k) p d =
      in_nodes before holds slice r (suc n) k (node_round before holds slice r n p) (in_node before holds slice r n p d)

  -- one more round, unless the net is quiet
  abbrev next : List Hold → (slice k r : ℕ) → Progress → Bool → Rounds
  next holds slice k r p b =
      elim b [
        | true ↦ record { ending = ending.Quiet; count = r; progress = p }
        | false ↦ rounds_from holds slice k
            (suc r) (round holds slice r p)
      ]

  either_way : (holds : List Hold) (slice k r : ℕ) (p : Progress) (b : Bool) → IsProgress net p
      → IsProgress net (rounds_from holds slice k (suc r) (round holds slice r p)).progress
      → IsProgress net (next holds slice k r p b).progress
  either_way holds slice k r p true d e = d
  either_way holds slice k r p false d e = e

  in_rounds : (holds : List Hold) (slice k r : ℕ) (p : Progress) → IsProgress net p
      → IsProgress net (rounds_from holds slice k r p).progress
  in_rounds holds slice zero r p d = d
  in_rounds holds slice (suc k) r p d =
      either_way holds slice k r p (is_quiet p.net) d
      (in_rounds holds slice k (suc r) (round holds slice r p)
      (in_nodes p.net holds slice r 0 (length p.net.nodes) p d))

-- the law of rounds
pub rounds_are_run : RoundsAreRun
rounds_are_run holds slice most net =
    in_rounds net holds slice most 0 (record { net = net; events = []; notes = [] }) (refl, refl)
