-- Where no step of the rendezvous machine is lawful, no wire has a step.
use Rattle.std.proofs.Common.{◌≡◌, ℕ, ◌+◌, ◌-◌, ◌*◌, ◌<◌, ◌≤◌, ◌%◌, refl, sym, ap, subst, ◌∙◌, List, [], ◌∷◌, ◌++◌}
use Rattle.std.proofs.Common.{Bool, true, false, true≢false, length, Option, Some, None, arith, ◌⊎◌, inl, inr, sum}
use Rattle.std.specs.Prelude.{◌&&◌, is_some, nat_le, slice_get}
use Rattle.std.specs.List.{list_all}
use Rattle.std.proofs.lemmas.Bool.{and_parts, cases_eq, cases_lt, leb-true}
use Rattle.tword.specs.declared.breaks.Break.TheVariants.{LengthMismatch}
use Rattle.tword.specs.declared.span.Span.{Span}
use Rattle.tword.specs.Words.{most_neg}
use Rattle.tword.specs.Stores.{Store}
use Rattle.tword.specs.Touches.{Reads}
use Rattle.tproc.specs.declared.offer.Offer.{Offer}
use Rattle.tproc.specs.declared.channels.Side.TheVariants.{Input, Output}
use Rattle.tproc.specs.Machine.{buffer_of}
use Rattle.tproc.specs.LinkChannels.{link_end}
use Rattle.tlink.specs.Roles.{Role, first_offer, Processor as ProcessorRole}
use Rattle.tplan.specs.declared.plan.End.{End}
use Rattle.tplan.specs.declared.plan.NodePlan.{NodePlan}
use Rattle.tplan.specs.declared.plan.SourcePlan.{SourcePlan}
use Rattle.tplan.specs.declared.plan.SinkPlan.{SinkPlan}
use Rattle.tplan.specs.declared.plan.Plan.{Plan}
use Rattle.tplan.specs.Wires.{all_wires}
use Rattle.tnet.specs.Building.{fault_of}
use Rattle.tnet.specs.Rendezvous.{Node, Configuration, Copy, Wake, Freeze_at, Offers, Asks, Fits, Differs, node_of}
use Rattle.tnet.specs.Rendezvous.{was_copied}
use Rattle.tplan.specs.Wires.{end_at, far_end}
use Rattle.treduction.specs.Ends.{IsOver as IsAtEnd}
use Rattle.tagents.specs.Walks.{are_open}
use Rattle.tprocesses.specs.Places.{Place, Name, WordAt, LinkHalf, Unfinished, Messages, Kept, Standing}
use Rattle.tprocesses.specs.Values.{Chosen, Listens, Chooses, Value, Lent, Stand, Absent, Rests, Runs, Waits, Ended}
use Rattle.tprocesses.specs.Values.{Request, Link, Empty, Offered, Enabled, Awaited, Fired}
use Rattle.tprocesses.specs.Values.{IsStand, IsFlag, IsLink, AreMessages, AreKept, link_in, stand_in}
use Rattle.tprocesses.specs.Changes.{Put}
use Rattle.tprocesses.specs.Parts.{Doing, change, require, telling, done, FullSink, ◌>>=◌, ◌>>◌}
use Rattle.tprocesses.specs.Touching.{touch, part_of}
use Rattle.tprocesses.specs.Standing.{wakes, ready}
use Rattle.tprocesses.specs.LinkMessages.{sent_by, keeps}
use Rattle.tprocesses.specs.Machine.{Agent, Process, Channel, Successor, Wire, Processor, Source, Sink}
use Rattle.tprocesses.specs.Machine.{process_machine}
use Rattle.tprocesses.specs.Machine.{step_of, role_at, site_of, sender_to, gates_between}
use Rattle.tprocesses.specs.Machine.{is_offered, offer_place, take_place, is_passable, sends, receives, passes}
use Rattle.tprocesses.specs.Machine.{Role as EndRole}
use Rattle.tseen.specs.Outputs.{Pending, half_with}
use Rattle.tseen.specs.Halves.{ShowsLink, IsInput, request_of}
use Rattle.tseen.specs.Scripts.{ShowsSource, ShowsSink, to_come, messages_from}
use Rattle.tseen.specs.Shown.{Shows, ShowsNode}
use Rattle.tseen.specs.Steps.{AreSteady}
use Rattle.tseen.specs.Rest.{RestsAreSeen}
use Rattle.tseen.specs.AgentSteps.{NothingStops}
use Rattle.tseen.proofs.After.{State, changed, After, after_bind, after_all}
use Rattle.tseen.proofs.Cells.{IsWhole, tells_from}
use Rattle.tseen.proofs.Writing.{touch_then, span_read, part-length}
use Rattle.tseen.proofs.Resting.{over_from, stopped_shut, process_shut, channel_shut, successor_shut}
use Rattle.tseen.proofs.Resting.{node, here}
use Rattle.tseen.proofs.Resting.{shown}
use Rattle.tseen.proofs.Resting.{is_steady}
use Rattle.tseen.proofs.RestAwaits.{awaited_shut}
use Rattle.tseen.proofs.WireAsks.{passes_then}
use Rattle.tseen.proofs.WireEnds.{IsNodeEnd, AreJoined, wire_joins}
use Rattle.tseen.proofs.EndRoles.{found_at, node_role, source_role, sink_role, sender_is_far}

-- a wire with this sender may go on
abbrev are_passable : Plan → State → End → Option End → Bool
are_passable p s e o = list_all (λ q. is_some o && is_passable q (s q)) (gates_between p e o)

both_pass : (s : State) (q r : Place) → list_all (λ q. is_passable q (s q)) (q ∷ r ∷ []) ≡ true
    → (is_passable q (s q) ≡ true) × (is_passable r (s r) ≡ true)
both_pass s q r h =
    let parts : (is_passable q (s q) ≡ true) × (list_all (λ q. is_passable q (s q)) (r ∷ []) ≡ true) =
    and_parts _ _ h in
    (parts.0, (and_parts _ _ parts.1).0)

-- a process that is woken stands in another way, and what sinks kept is as it was
wakes_then : (x : Name) (lent : Option Lent) (e : End) (s : State) (Q : Unit {0} → State → Type 0)
    → ((t : State) → t (Kept e) ≡ s (Kept e) → Q tt t) → After (wakes x lent) s Q
wakes_then x lent e s Q h = by (stand_in (s (Standing x)))
  where
    by : (stand : Stand) → After (ready stand x lent) s Q
    by (Waits d) = h (changed (Standing x) (Put (IsStand (Rests (record d { lent = lent })))) s) refl
    by Absent = tt
    by (Rests d) = tt
    by (Runs d) = tt
    by Ended = tt
    by (Chooses d) = tt
    by (Chosen d) = tt
    by (Listens channel d) = tt

module _ (p : Plan) (c : Configuration) (s : State) (none : fault_of p ≡ None) (shows : Shows p c s)
    (steady : AreSteady c) (over : IsAtEnd c) (never : NothingStops p s) where
  -- an end that offers a message, and one that asks for one
  record IsSending (f : End) : Type 0 where
    pub node : Node
    pub out : Offer
    pub offers : Offers c f node out

  record IsReceiving (e : End) : Type 0 where
    pub node : Node
    pub inp : Offer
    pub asks : Asks c e node inp
    pub works : node.broken ≡ None

  -- the half of a link that has an output to be sent
  record HasOutput (f : End) : Type 0 where
    pub sending : IsSending f
    pub request : Request
    pub half : s (LinkHalf f Output) ≡ IsLink (Offered request)
    pub buffer : request.buffer ≡ buffer_of sending.out

  module _ (f : End) (at_node : IsNodeEnd p f)
      (passable : is_passable (LinkHalf f Output) (s (LinkHalf f Output)) ≡ true) where
    abbrev plan : NodePlan
    plan = (found_at p.nodes f.node at_node.0).0

    abbrev planned : slice_get p.nodes f.node ≡ Some plan
    planned = (found_at p.nodes f.node at_node.0).1

    abbrev sender : Node
    sender = node p c s shows steady over never f.node plan planned

    link : ShowsLink s f.node (shows.named f.node) (shows.sent f.node) sender f.link
    link = (shown p c s shows steady over never f.node plan planned).links f.link at_node.1

    not_passable : (l : Link) → s (LinkHalf f Output) ≡ IsLink l
        → is_passable (LinkHalf f Output) (IsLink l) ≡ false → ⊥
    not_passable l e h = true≢false (sym passable ∙ ap (is_passable (LinkHalf f Output)) e ∙ h)

    -- it sends, if its half of the link is open
    output_there : HasOutput f
    output_there = by (shows.sent f.node f.link) refl
      where
        fresh : (q : Pending) → shows.sent f.node f.link ≡ Some q → q.copied ≡ false
            → s (LinkHalf f Output) ≡ IsLink (Offered q.request) → HasOutput f
        fresh q e h stands =
            let o = link.pending q e h in
            let same : Some (record {
              request = request_of (shows.named f.node) o.0;
              copied = was_copied sender f.link;
            })
            ≡ Some q = sym (link.offered o.0 o.1) ∙ e in
            record {
              sending = record {
                node = sender;
                out = o.0;
                offers = record {
                  node = here p c s shows steady over never f.node plan planned;
                  output = o.1;
                  fresh = copied_of same ∙ h;
                };
              };
              request = q.request;
              half = stands;
              buffer = sym (buffer_is same);
            }
          where
            one : {a b : Pending} → Some a ≡ Some b → a ≡ b
            one e = cc

            copied_of : {a b : Pending} → Some a ≡ Some b → a.copied ≡ b.copied
            copied_of e = ap (λ (z : Pending). z.copied) (one e)

            buffer_is : {a b : Pending} → Some a ≡ Some b → a.request.buffer ≡ b.request.buffer
            buffer_is e = ap (λ (z : Pending). z.request.buffer) (one e)

        of : (q : Pending) → shows.sent f.node f.link ≡ Some q → (b : Bool) → q.copied ≡ b → HasOutput f
        of q e true h =
            absurd (not_passable Empty (link.output ∙ ap (λ (o : Option Pending). IsLink (half_with o)) e
            ∙ ap (λ b. IsLink (half_with (Some (record { request = q.request; copied = b })))) h) refl)
        of q e false h =
            fresh q e h (link.output ∙ ap (λ (o : Option Pending). IsLink (half_with o)) e
            ∙ ap (λ b. IsLink (half_with (Some (record { request = q.request; copied = b })))) h)

        by : (o : Option Pending) → shows.sent f.node f.link ≡ o → HasOutput f
        by None e =
            absurd (not_passable Empty (link.output ∙ ap (λ (o : Option Pending). IsLink (half_with o)) e) refl)
        by (Some q) e = of q e q.copied refl

  -- a node asks, if its half of the link is open
  record HasInput (e : End) : Type 0 where
    pub receiving : IsReceiving e
    pub role : receiving.node.role ≡ ProcessorRole

  -- or a process waits there for its input and for others
  record HasWaiter (e : End) (at_node : IsNodeEnd p e) : Type 0 where
    pub waiter : Name
    pub half : s (LinkHalf e Input) ≡ IsLink (Awaited waiter)
    pub no_input : (link_end (node p c s shows steady over never e.node (found_at p.nodes e.node at_node.0).0
        (found_at p.nodes e.node at_node.0).1).machine.control e.link).input ≡ None

  input_there : (e : End) (at_node : IsNodeEnd p e)
      → is_passable (LinkHalf e Input) (s (LinkHalf e Input)) ≡ true → HasInput e ⊎ HasWaiter e at_node
  input_there e at_node passable = by (link_end asked.machine.control e.link).input refl
    where
      plan : (x : NodePlan) × (slice_get p.nodes e.node ≡ Some x)
      plan = found_at p.nodes e.node at_node.0

      asked : Node
      asked = node p c s shows steady over never e.node plan.0 plan.1

      there : ShowsNode s e.node plan.0 (shows.named e.node) (shows.sent e.node) asked
      there = shown p c s shows steady over never e.node plan.0 plan.1

      closed : (l : Link) → s (LinkHalf e Input) ≡ IsLink l → is_passable (LinkHalf e Input) (IsLink l) ≡ false → ⊥
      closed l half shut = true≢false (sym passable ∙ ap (is_passable (LinkHalf e Input)) half ∙ shut)

      waiter : (link_end asked.machine.control e.link).input ≡ None → (l : Link) → s (LinkHalf e Input) ≡ IsLink l
          → is_offered l ≡ false → HasInput e ⊎ HasWaiter e at_node
      waiter h (Awaited x) half idle = inr (record { waiter = x; half = half; no_input = h })
      waiter h Empty half idle = absurd (closed Empty half refl)
      waiter h (Offered q) half idle = absurd (true≢false idle)
      waiter h (Enabled x) half idle = absurd (closed (Enabled x) half refl)
      waiter h (Fired x) half idle = absurd (closed (Fired x) half refl)

      by : (o : Option Offer) → (link_end asked.machine.control e.link).input ≡ o
          → HasInput e ⊎ HasWaiter e at_node
      by None h =
          let k = subst (λ (o : Option Offer). IsInput (shows.named e.node) o (s (LinkHalf e Input))) h
          (there.links e.link at_node.1).input in
          waiter h k.0 k.1 k.2
      by (Some o) h =
          inl (record {
            receiving = record {
              node = asked;
              inp = o;
              asks = record { node = here p c s shows steady over never e.node plan.0 plan.1; input = h };
              works = there.works;
            };
            role = there.role;
          })

  -- a source sends, if it has a message
  source_sends_there : (f : End) (k : ℕ) (source : SourcePlan) → slice_get p.sources k ≡ Some source
      → f ≡ end_at (length p.nodes + k) 0 → is_passable (Messages f) (s (Messages f)) ≡ true → IsSending f
  source_sends_there f k source planned at passable =
      by_rest it.rest it.output it.messages
    where
      n : ℕ
      n = length p.nodes + k

      there : (node : Node) × (node_of c n ≡ Some node) × ShowsSource s (end_at n 0) node
      there = shows.sources k source planned

      it : ShowsSource s (end_at n 0) there.0
      it = there.2

      is_open : is_passable (Messages (end_at n 0)) (s (Messages (end_at n 0))) ≡ true
      is_open = subst (λ (z : End). is_passable (Messages z) (s (Messages z)) ≡ true) at passable

      closed : s (Messages (end_at n 0)) ≡ AreMessages [] → ⊥
      closed e = true≢false (sym is_open ∙ ap (is_passable (Messages (end_at n 0))) e)

      by_copied : (length : ℕ) (rest : List ℕ)
          → (link_end there.0.machine.control 0).output ≡ first_offer it.address (length ∷ rest)
          → (b : Bool) → was_copied there.0 0 ≡ b → IsSending f
      by_copied length rest output true copied =
          absurd (over (Wake (end_at n 0)) _ (record {
            node = there.0;
            out = record { wdesc = 0; buffer = it.address; length = length };
            copied = record { node = there.1; output = output; copied = copied };
            works = it.works;
            after = refl;
          }))
      by_copied length rest output false copied =
          subst IsSending (sym at) (record {
            node = there.0;
            out = record { wdesc = 0; buffer = it.address; length = length };
            offers = record { node = there.1; output = output; fresh = copied };
          })

      by_rest : (rest : List ℕ) → (link_end there.0.machine.control 0).output ≡ first_offer it.address rest
          → s (Messages (end_at n 0))
          ≡ AreMessages (to_come (was_copied there.0 0) (messages_from there.0.machine.store it.address rest))
          → IsSending f
      by_rest [] output messages = absurd (nothing (was_copied there.0 0) messages)
        where
          nothing : (b : Bool) → s (Messages (end_at n 0)) ≡ AreMessages (to_come b []) → ⊥
          nothing true e = closed e
          nothing false e = closed e
      by_rest (length ∷ rest) output messages = by_copied length rest output (was_copied there.0 0) refl

  -- a message that is offered and asked for over a wire would go over, or freeze its receiver
  meets : (e f : End) → far_end (all_wires p) e ≡ Some f → IsSending f → HasInput e → ⊥
  meets e f wired sending input = by (cases_eq sending.out.length input.receiving.inp.length)
    where
      far : far_end c.wires e ≡ Some f
      far = subst (λ ws. far_end ws e ≡ Some f) (sym shows.wires) wired

      by : (sending.out.length ≡ input.receiving.inp.length) ⊎ (sending.out.length ≡ input.receiving.inp.length → ⊥) → ⊥
      by (inl same) =
          over (Copy f e) _ (record {
            sender = sending.node;
            receiver = input.receiving.node;
            out = sending.out;
            inp = input.receiving.inp;
            wired = far;
            offers = sending.offers;
            asks = input.receiving.asks;
            works = input.receiving.works;
            fits = subst (λ (r : Role). Fits r sending.out input.receiving.inp) (sym input.role) same;
            after = refl;
          })
      by (inr other) =
          over (Freeze_at e.node LengthMismatch) _ (record {
            node = input.receiving.node;
            here = input.receiving.asks.node;
            works = input.receiving.works;
            reason = inr (
              refl,
              record {
                link = e.link;
                far = f;
                sender = sending.node;
                receiver = input.receiving.node;
                out = sending.out;
                inp = input.receiving.inp;
                wired = far;
                offers = sending.offers;
                asks = input.receiving.asks;
                differ = subst (λ (r : Role). Differs r sending.out input.receiving.inp) (sym input.role) other;
              },
            );
            after = refl;
          })

  -- one to a sink would go over, or the step of the wire would stop
  sinks : (e f : End) (k : ℕ) (sink : SinkPlan) → slice_get p.sinks k ≡ Some sink
      → e ≡ end_at (length p.nodes + length p.sources + k) 0 → far_end (all_wires p) e ≡ Some f
      → sender_to p e ≡ Some f → role_at p e.node ≡ Sink → IsNodeEnd p f → HasOutput f
      → are_open (process_machine p) (Wire e) s ≡ true → ⊥
  sinks e f k sink planned at wired joined role at_node output opened = by (cases_lt room out.length)
    where
      n : ℕ
      n = length p.nodes + length p.sources + k

      out : Offer
      out = output.sending.out

      there : (node : Node) × (node_of c n ≡ Some node) × ShowsSink s (end_at n 0) node
      there = shows.sinks k sink planned

      it : ShowsSink s (end_at n 0) there.0
      it = there.2

      room : ℕ
      room = it.room

      far : far_end c.wires (end_at n 0) ≡ Some f
      far = subst (λ (z : End). far_end c.wires z ≡ Some f) at
          (subst (λ ws. far_end ws e ≡ Some f) (sym shows.wires) wired)

      kept : s (Kept e) ≡ AreKept room it.messages
      kept = subst (λ (z : End). s (Kept z) ≡ AreKept room it.messages) (sym at) it.stands

      -- what is left after the message was read
      rest : Store → Doing
      rest message = do
        receives p (role_at p e.node) e message
        telling message done

      full : room < out.length → (message : Store) → length message ≡ out.length → (t : State)
          → t (Kept e) ≡ s (Kept e) → After (rest message) t (λ _ _. ⊥)
      full small message size t same =
          subst (λ r. After (receives p r e message >>= (λ _. telling message done)) t (λ _ _. ⊥)) (sym role)
          (subst (λ (v : Value). After (keeps e message v >>= (λ _. telling message done)) t (λ _ _. ⊥))
          (sym (same ∙ kept)) (too_long (nat_le (length message) room) refl))
        where
          too_long : (b : Bool) → nat_le (length message) room ≡ b
              → After ((require b FullSink >>= (λ _. change (Kept e)
              (Put (AreKept (room - length message) (it.messages ++ message ∷ [])))))
              >>= (λ _. telling message done)) t (λ _ _. ⊥)
          too_long true h = absurd (omega (arith, small, size, leb-true _ _ h))
          too_long false h = tt

      by : (room < out.length) ⊎ (out.length ≤ room) → ⊥
      by (inr fits) =
          over (Copy f (end_at n 0)) _ (record {
            sender = output.sending.node;
            receiver = there.0;
            out = out;
            inp = record { wdesc = 0; buffer = most_neg + sum it.kept; length = room };
            wired = far;
            offers = output.sending.offers;
            asks = record { node = there.1; input = it.input };
            works = it.works;
            fits = subst (λ (r : Role). Fits r out (record {
              wdesc = 0;
              buffer = most_neg + sum it.kept;
              length = room;
            })) (sym it.role) fits;
            after = refl;
          })
      by (inl small) = stopped_shut p s (Wire e) never stops opened
        where
          plan : (x : NodePlan) × (slice_get p.nodes f.node ≡ Some x)
          plan = found_at p.nodes f.node at_node.0

          sender : Node
          sender = node p c s shows steady over never f.node plan.0 plan.1

          whole : plan.0.memory % 4 ≡ 0
          whole =
              subst (λ z. z % 4 ≡ 0) (shown p c s shows steady over never f.node plan.0 plan.1).size
              (is_steady p c s shows steady over never f.node plan.0 plan.1).sized.size.2

          words : (j : ℕ) → 4 * j + 4 ≤ plan.0.memory → IsWhole (s (WordAt f.node j))
          words =
              (tells_from s f.node plan.0.memory sender.machine.store
              (shown p c s shows steady over never f.node plan.0 plan.1).size whole
              (shown p c s shows steady over never f.node plan.0 plan.1).store).words

          sent : After (sent_by (site_of f.node plan.0) f (Offered output.request)) s
              (λ message t. After (rest message) t (λ _ _. ⊥))
          sent =
              after_bind (touch (site_of f.node plan.0) Reads output.request.buffer) _ s _
              (touch_then (site_of f.node plan.0) whole Reads output.request.buffer s _ words (λ ws touched.
              after_bind
              (wakes output.request.process (Some (record { link = f.link; buffer = output.request.buffer }))) _
              (changed (Unfinished f) (Put (IsFlag true)) (changed (LinkHalf f Output) (Put (IsLink Empty)) s)) _
              (wakes_then output.request.process (Some (record { link = f.link; buffer = output.request.buffer })) e
              (changed (Unfinished f) (Put (IsFlag true)) (changed (LinkHalf f Output) (Put (IsLink Empty)) s)) _
              (λ t same.
              full small (part_of output.request.buffer ws)
              (part-length s f.node plan.0.memory output.request.buffer ws whole
              (span_read s f.node plan.0.memory Reads output.request.buffer ws touched)
              ∙ ap (λ (z : Span). z.size) output.buffer) t same))))

          no_sink : Sink ≡ Processor → ⊥
          no_sink z = cc

          stops : After (step_of p (Wire e)) s (λ _ _. ⊥)
          stops =
              subst (λ (o : Option End). After (passes p o e) s (λ _ _. ⊥)) (sym joined)
              (passes_then p e f s (λ _ _. ⊥) (λ r. absurd (no_sink (sym role ∙ r)))
              (after_bind (sends p (role_at p f.node) f) _ s (λ _ _. ⊥)
              (subst (λ r. After (sends p r f) s (λ message t. After (rest message) t (λ _ _. ⊥)))
              (sym (node_role p f.node at_node.0))
              (rw (plan.1, After)
              (subst (λ (v : Value). After (sent_by (site_of f.node plan.0) f (link_in v)) s
              (λ message t. After (rest message) t (λ _ _. ⊥))) (sym output.half) sent)))))

  -- no wire has a step
  wire_shut : (e : End) → are_open (process_machine p) (Wire e) s ≡ true → ⊥
  wire_shut e opened = by (sender_to p e) refl
    where
      by : (o : Option End) → sender_to p e ≡ o → ⊥
      by None h = true≢false (sym (subst (λ o. are_passable p s e o ≡ true) h opened))
      by (Some f) h = joins (wire_joins p none e f far)
        where
          far : far_end (all_wires p) e ≡ Some f
          far = sender_is_far p e f h

          gates : are_passable p s e (Some f) ≡ true
          gates = subst (λ o. are_passable p s e o ≡ true) h opened

          offered : is_passable (offer_place (role_at p f.node) f) (s (offer_place (role_at p f.node) f)) ≡ true
          offered = (both_pass s (offer_place (role_at p f.node) f) (take_place (role_at p e.node) e) gates).0

          asked : is_passable (take_place (role_at p e.node) e) (s (take_place (role_at p e.node) e)) ≡ true
          asked = (both_pass s (offer_place (role_at p f.node) f) (take_place (role_at p e.node) e) gates).1

          -- what is left of its step, once the message is known
          after_message : Store → Doing
          after_message message = do
            receives p (role_at p e.node) e message
            telling message done

          offered_as : (r : EndRole) → role_at p f.node ≡ r → is_passable (offer_place r f) (s (offer_place r f)) ≡ true
          offered_as r e = subst (λ r. is_passable (offer_place r f) (s (offer_place r f)) ≡ true) e offered

          asked_as : (r : EndRole) → role_at p e.node ≡ r → is_passable (take_place r e) (s (take_place r e)) ≡ true
          asked_as r h = subst (λ r. is_passable (take_place r e) (s (take_place r e)) ≡ true) h asked

          -- a node asks for the message, or a process waits there for others too
          taken : (a : IsNodeEnd p e) → IsSending f → HasInput e ⊎ HasWaiter e a → ⊥
          taken a sending (inl input) = meets e f far sending input
          taken a sending (inr w) =
              awaited_shut p c s shows steady over never e f
              (subst (λ ws. far_end ws e ≡ Some f) (sym shows.wires) far) h a sending.node sending.out sending.offers
              w.waiter w.half w.no_input opened

          no_source : Source ≡ Processor → ⊥
          no_source z = cc

          joins : AreJoined p e f → ⊥
          joins (inl (a, inl b)) =
              taken a
              (output_there f b (offered_as Processor (node_role p f.node b.0))).sending
              (input_there e a (asked_as Processor (node_role p e.node a.0)))
          joins (inl (a, inr b)) = from_script (cases_lt f.node (length p.nodes + length p.sources))
            where
              k : ℕ
              k = f.node - length p.nodes

              from_script : (f.node < length p.nodes + length p.sources) ⊎ (length p.nodes + length p.sources ≤ f.node)
                  → ⊥
              from_script (inl small) =
                  let source = found_at p.sources k (omega (arith, b.0, small)) in
                  taken a
                  (source_sends_there f k source.0 source.1
                  (λ i. record { node = first i; link = b.2 i })
                  (offered_as Source (source_role p f.node b.0 small)))
                  (input_there e a (asked_as Processor (node_role p e.node a.0)))
                where
                  first : f.node ≡ length p.nodes + k
                  first = omega (arith, b.0)
              from_script (inr past) =
                  let i : ℕ = f.node - (length p.nodes + length p.sources) in
                  let sink = found_at p.sinks i (omega (arith, past, b.1)) in
                  let first : f.node ≡ length p.nodes + length p.sources + i = omega (arith, past) in
                  let silent : s (LinkHalf f Output) ≡ IsLink Empty =
                  subst (λ (z : End). s (LinkHalf z Output) ≡ IsLink Empty)
                  (sym (λ j. record { node = first j; link = b.2 j })) (shows.sinks i sink.0 sink.1).2.silent in
                  true≢false (sym (offered_as Sink (sink_role p f.node past (omega (arith, b.1))))
                  ∙ ap (is_passable (LinkHalf f Output)) silent)
          joins (inr (a, b)) = to_script (cases_lt e.node (length p.nodes + length p.sources))
            where
              k : ℕ
              k = e.node - (length p.nodes + length p.sources)

              to_script : (e.node < length p.nodes + length p.sources) ⊎ (length p.nodes + length p.sources ≤ e.node)
                  → ⊥
              to_script (inl small) =
                  stopped_shut p s (Wire e) never
                  (subst (λ (o : Option End). After (passes p o e) s (λ _ _. ⊥)) (sym h)
                  (passes_then p e f s (λ _ _. ⊥)
                  (λ r. absurd (no_source (sym (source_role p e.node a.0 small) ∙ r)))
                  (after_bind (sends p (role_at p f.node) f) after_message s (λ _ _. ⊥)
                  (after_all (sends p (role_at p f.node) f) s _ (λ message t.
                  subst (λ r. After (receives p r e message >>= (λ _. telling message done)) t (λ _ _. ⊥))
                  (sym (source_role p e.node a.0 small)) tt))))) opened
              to_script (inr past) =
                  let sink = found_at p.sinks k (omega (arith, past, a.1)) in
                  sinks e f k sink.0 sink.1 (λ i. record { node = first i; link = a.2 i }) far h
                  (sink_role p e.node past (omega (arith, a.1))) b
                  (output_there f b (offered_as Processor (node_role p f.node b.0))) opened
                where
                  first : e.node ≡ length p.nodes + length p.sources + k
                  first = omega (arith, past)

-- so no agent has a step
pub rests_are_seen : RestsAreSeen
rests_are_seen p c s none shows steady over never = over_from p s shut
  where
    shut : (a : Agent) → are_open (process_machine p) a s ≡ true → ⊥
    shut (Process x) h = process_shut p c s shows steady over never x h
    shut (Channel n a) h = channel_shut p c s shows steady over never n a h
    shut (Wire e) h = wire_shut p c s none shows steady over never e h
    shut (Successor n k) h = successor_shut p c s shows steady over never n k h
