-- The runs of a part are a row of runs of its node.
use Rattle.std.proofs.Common.{◌≡◌, ◌∙◌, ℕ, zero, suc, refl, sym, ap, List, [], ◌∷◌, ◌++◌, append_assoc}
use Rattle.std.proofs.Common.{Ok, Err, Option, None, inl, inr}
use Rattle.std.specs.Prelude.{replicate}
use Rattle.std.proofs.lemmas.List.{append-nil, replicate-append-replicate}
use Rattle.tlink.specs.declared.event.NodeEvent.TheVariants as at_node
use Rattle.tlink.specs.declared.event.StepFault.TheVariants.{NotEnabled, Frozen}
use Rattle.tlink.specs.Node.{NodeState}
use Rattle.tlink.specs.Events.{Answer, happens, node_answered, node_left_by}
use Rattle.tplan.specs.declared.event.Act.TheVariants.{Run}
use Rattle.tplan.specs.declared.event.Event.{Event}
use Rattle.tplan.specs.declared.event.Note.{Note}
use Rattle.tplan.specs.declared.plan.End.{End}
use Rattle.tnet.specs.declared.station.RunsDone.{RunsDone}
use Rattle.tnet.specs.Stations.{answer_done, answer_note, after_asked, one_more, listed, runs_done}
use Rattle.tnet.proofs.AnswerKinds as kinds
use Rattle.tnet.proofs.AnswerKinds.{run_runs, frozen-stops}
use Rattle.trounds.specs.declared.round_node.Sending.{Sending}
use Rattle.trounds.specs.Parts.{Part, far_at, part_done, part_runs}
use Rattle.trounds.proofs.PartRooms.{run_rests}

-- a run of a node
abbrev pub run_of : ℕ → Event
run_of n = record { node = n; act = Run }

-- a part after a row of runs
abbrev pub with_row : Part → NodeState × RunsDone → Part
with_row p (node, row) =
    record {
      station = record p.station { node = node };
      outbox = p.outbox;
      events = p.events ++ replicate row.count (run_of p.station.number);
      notes = p.notes ++ listed row.note;
    }

-- a part of these fields
abbrev pub part_with : Part → NodeState → List Sending → List Event → List Note → Part
part_with p node outbox events notes =
    record { station = record p.station { node = node }; outbox = outbox; events = events; notes = notes }

part_same : (p : Part) (node : NodeState) (o o' : List Sending) (e e' : List Event) (t t' : List Note) → o ≡ o' → e ≡ e'
    → t ≡ t' → part_with p node o e t ≡ part_with p node o' e' t'
part_same p node o o' e e' t t' a b c = rw (a, b, c) refl

-- one run more in front
one-in-front : (p : Part) (m node : NodeState) (row : RunsDone)
    → with_row (part_with p m (p.outbox ++ []) (p.events ++ run_of p.station.number ∷ []) (p.notes ++ [])) (node, row)
    ≡ with_row p (one_more (node, row))
one-in-front p m node row =
    part_same p node _ _ _ _ _ _ (append-nil p.outbox)
    (append_assoc p.events (run_of p.station.number ∷ []) (replicate row.count (run_of p.station.number))
    ∙ ap (λ es. p.events ++ es) (replicate-append-replicate 1 row.count (run_of p.station.number)))
    (ap (λ ns. ns ++ listed row.note) (append-nil p.notes))

-- runs of a part
pub part-rows : (k : ℕ) (p : Part)
    → part_runs k p ≡ with_row p (runs_done p.station.number (far_at p.station) k p.station.node)
unfolding runs_done
part-rows zero p = part_same p p.station.node _ _ _ _ _ _ refl (sym (append-nil p.events)) (sym (append-nil p.notes))
part-rows (suc k) p = by (λ q. part-rows k q) (happens at_node.Run p.station.node) refl (run_runs p.station.node)
  where
    n : ℕ
    n = p.station.number

    far : ℕ → Option End
    far = far_at p.station

    by : ((q : Part) → part_runs k q ≡ with_row q (runs_done q.station.number (far_at q.station) k q.station.node))
        → (a : Answer) → happens at_node.Run p.station.node ≡ a → kinds.Runs a
        → part_runs k
        (part_done Run p (node_left_by p.station.node a)
        (answer_done (node_answered a) (answer_note n far None (node_answered a) (node_left_by p.station.node a))))
        ≡ with_row p
        (after_asked (λ m. runs_done n far k m)
        (answer_done (node_answered a) (answer_note n far None (node_answered a) (node_left_by p.station.node a)))
        (node_left_by p.station.node a))
    by on (Ok (m, e)) is (none, inl q) =
        rw (none, q)
        (on (part_with p m (p.outbox ++ []) (p.events ++ run_of n ∷ []) (p.notes ++ []))
        ∙ one-in-front p m (runs_done n far k m).0 (runs_done n far k m).1)
    by on (Ok (m, e)) is (none, inr (q, rests)) =
        rw (none, q)
        (run_rests k _ (rw rests refl) ∙ part_same p m _ _ _ _ _ _ (append-nil p.outbox) refl refl)
    by on (Err NotEnabled) is h =
        run_rests k p (rw is refl)
        ∙ part_same p p.station.node _ _ _ _ _ _ refl (sym (append-nil p.events)) (sym (append-nil p.notes))
    by on (Err (Frozen b)) is h =
        run_rests k _ (rw (frozen-stops at_node.Run b p.station.node) refl)
        ∙ part_same p _ _ _ _ _ _ _ (append-nil p.outbox) refl refl

-- what is written down of a row of runs
pub row-written : (k : ℕ) (p : Part) (node : NodeState) (row : RunsDone) (note : Option Note) (events : List Event)
    (notes : List Note)
    → (node, row) ≡ runs_done p.station.number (far_at p.station) k p.station.node → row.note ≡ note
    → events ≡ p.events ++ replicate row.count (run_of p.station.number) → notes ≡ p.notes ++ listed note
    → part_with p node p.outbox events notes ≡ part_runs k p
row-written k p node row note events notes e t a b =
    part_same p node _ _ _ _ _ _ refl a (b ∙ ap (λ (o : Option Note). p.notes ++ listed o) (sym t))
    ∙ ap (λ (x : NodeState × RunsDone). with_row p x) e ∙ sym (part-rows k p)
