-- The message that is complete with an event is the one that its note tells of.
use Rattle.std.proofs.Common.{◌≡◌, ℕ, ◌+◌, ◌-◌, ◌≤◌, refl, sym, ap, ◌∙◌, List, [], ◌∷◌, Option, Some, None, Ok, Err}
use Rattle.std.proofs.Common.{Bool, true, false, take, drop, arith, length-take}
use Rattle.std.specs.Prelude.{map, min, nat_le, slice_get, slice_set, unwrap_or}
use Rattle.std.specs.List.{take-map}
use Rattle.std.proofs.lemmas.Bool.{leb-true, leb-false}
use Rattle.std.proofs.lemmas.List.{take_all, take-take}
use Rattle.tword.specs.declared.breaks.Break.{Break}
use Rattle.tword.specs.Stores.{Store, bytes_at, place}
use Rattle.tproc.specs.declared.offer.Offer.{Offer}
use Rattle.tlink.specs.declared.counts.Arrival.{Arrival}
use Rattle.tlink.specs.declared.event.Emitted.{Emitted}
use Rattle.tlink.specs.declared.event.Mark.TheVariants.{Nothing, Completed}
use Rattle.tlink.specs.declared.event.Packet.{Packet}
use Rattle.tlink.specs.declared.event.StepFault.TheVariants.{Frozen}
use Rattle.tlink.specs.Node.{NodeState}
use Rattle.tplan.specs.declared.event.Act.TheVariants.{Take}
use Rattle.tplan.specs.declared.event.Note.{Note}
use Rattle.tplan.specs.declared.event.Note.TheVariants.{Msg}
use Rattle.tplan.specs.declared.plan.End.{End}
use Rattle.tnet.specs.Net.{NetState, node_at, with_node}
use Rattle.tnet.specs.Notes.{event_note}
use Rattle.tnet.specs.Packets.{after_event, answered, delivered, net_happens, sent_off}
use Rattle.tnet.specs.Stations.{input_bytes, listed, message_note}
use Rattle.tplan.specs.Wires.{end_at, far_end, far_ends}
use Rattle.tnet.proofs.DoneEvents.{Done as Happened, Freezes, Goes, Taking, TookLast, TookOne, WrongMark, acknowledge}
use Rattle.tnet.proofs.DoneEvents.{done as happened, event_at}
use Rattle.tnet.proofs.Places.{slice_get-set_same}
use Rattle.tchart.specs.declared.shown.Before.{Before}
use Rattle.tchart.specs.declared.shown.Message.{Message}
use Rattle.tchart.specs.Shown as spec

-- the first cells of some
take_short : (n : ℕ) (xs : Store) → take (min n 8) xs ≡ take 8 (take n xs)
take_short n xs = by (nat_le n 8) refl
  where
    by : (b : Bool) → nat_le n 8 ≡ b → take (min n 8) xs ≡ take 8 (take n xs)
    by true h =
        let few : n ≤ 8 = leb-true n 8 h in
        let same : min n 8 ≡ n = omega arith in
        rw same (sym (take_all 8 (take n xs) (omega (arith, length-take n xs))))
    by false h =
        let many : 8 ≤ n = omega (arith, leb-false n 8 h) in
        let same : min n 8 ≡ 8 = omega arith in
        rw same (sym (take-take 8 n xs many))

-- the first bytes of a message, cut before or behind
short : (t : Store) (b n : ℕ) → bytes_at t b (min n 8) ≡ take 8 (bytes_at t b n)
short t b n =
    let many : (k : ℕ) → place b + k - place b ≡ k = λ k. omega arith in
    rw (many n, many (min n 8))
    (ap (map (λ (cell : Option ℕ). unwrap_or cell 0)) (take_short n (drop (place b) t))
    ∙ sym (take-map (λ (cell : Option ℕ). unwrap_or cell 0) 8 (take n (drop (place b) t))))

-- the message that a note tells of, by what was due
abbrev pub told_message : Option ℕ → Option Offer → List Note → Option Message
told_message process (Some o) (Msg f t bytes ∷ []) =
    Some (record { from = f; length = o.length; bytes = take 8 bytes; process = process })
told_message process _ _ = None

no_note : (process : Option ℕ) (due : Option Offer) → told_message process due [] ≡ None
no_note process None = refl
no_note process (Some o) = refl

in_note : (from : Option End) (t : End) (process : Option ℕ) (due : Option Offer) (s : NodeState)
    → spec.message_in from process due (Some s)
    ≡ told_message process due (listed (message_note from t (input_bytes due s)))
in_note None t process None s = refl
in_note None t process (Some o) s = refl
in_note (Some f) t process None s = refl
in_note (Some f) t process (Some o) s =
    ap (λ (bytes : List ℕ). Some (record { from = f; length = o.length; bytes = bytes; process = process }))
    (short s.machine.store o.buffer o.length)

-- a packet that goes off changes no node
sent_nodes : (n : ℕ) (o : Option (ℕ × Packet)) (net : NetState) → (sent_off n o net).nodes ≡ net.nodes
sent_nodes n None net = refl
sent_nodes n (Some (l, p)) net = by (far_end net.wires (end_at n l))
  where
    by : (f : Option End) → (delivered p f net).nodes ≡ net.nodes
    by None = refl
    by (Some e) = refl

module _ (net net' : NetState) (n l : ℕ) (h : after_event net (event_at n (Take l)) ≡ Some net') (em : Emitted)
    (told : answered (net_happens (event_at n (Take l)) net) ≡ Ok em) where
  abbrev known : Before
  known = spec.before_take net n l

  abbrev Told : Type 0
  Told =
      spec.message_of (far_ends net'.wires n) known (node_at net' n) em.mark
      ≡ told_message known.process known.due (event_note net (event_at n (Take l)))

  took_last : (d : Happened net n (Take l) net') (node' : NodeState)
      → Goes net n (Take l) net' node' (acknowledge l (Completed l)) → Told
  took_last d node' goes =
      let answer : answered (net_happens (event_at n (Take l)) net) ≡ Ok (acknowledge l (Completed l)) =
      ap answered goes.answer in
      let mark : em ≡ acknowledge l (Completed l) = cc in
      let nodes : net'.nodes ≡ slice_set net.nodes n node' =
      ap (λ (w : NetState). w.nodes) goes.after
      ∙ sent_nodes n (acknowledge l (Completed l)).packet (with_node n node' net) in
      let there : node_at net' n ≡ Some node' =
      ap (λ (ns : List NodeState). slice_get ns n) nodes ∙ slice_get-set_same net.nodes n node' d.node d.there in
      let due : known.due ≡ goes.input = ap (spec.due_in l) d.there ∙ sym (goes.taken_for l d.node refl d.there) in
      rw (mark, there, d.wires)
      (in_note (far_ends net.wires n l) (end_at n l) known.process known.due node'
      ∙ ap (λ (input : Option Offer). told_message known.process known.due
      (listed (message_note (far_ends net.wires n l) (end_at n l) (input_bytes input node')))) due
      ∙ ap (told_message known.process known.due) (sym goes.note))

  took_one : (node' : NodeState) → Goes net n (Take l) net' node' (acknowledge l Nothing) → Told
  took_one node' goes =
      let answer : answered (net_happens (event_at n (Take l)) net) ≡ Ok (acknowledge l Nothing) =
      ap answered goes.answer in
      let mark : em ≡ acknowledge l Nothing = cc in
      rw mark
      (sym (no_note known.process known.due) ∙ ap (told_message known.process known.due) (sym goes.note))

  froze : (node : NodeState) (broken : Break) → Freezes net n (Take l) net' node broken → Told
  froze node broken f =
      let answer : answered (net_happens (event_at n (Take l)) net) ≡ Err (Frozen broken) = ap answered f.answer in cc

  taking : (d : Happened net n (Take l) net') (byte : Arrival) (inp : Offer) → Taking net n l d.node byte inp net'
      → Told
  taking d byte inp (TookLast x y goes) = took_last d _ goes
  taking d byte inp (TookOne x y goes) = took_one _ goes
  taking d byte inp (WrongMark m x y f) = froze _ _ f

  pub take_told : Told
  take_told = let d = happened net net' n (Take l) h in taking d d.did.byte d.did.inp d.did.takes
