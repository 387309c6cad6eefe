-- Sources and sinks as places of the whole machine.
use Rattle.std.proofs.Common.{◌≡◌, ◌≢◌, ◌<◌, ◌≤◌, ◌+◌, ◌-◌, ℕ, zero, suc, refl, sym, ap, ◌∙◌, subst, arith, Bool, true}
use Rattle.std.proofs.Common.{false}
use Rattle.std.proofs.Common.{List, [], ◌∷◌, Option, Some, None, Result, Ok, Err, length, ◌⊎◌, inl, inr}
use Rattle.std.proofs.Math.ListN.{drop, get_or}
use Rattle.std.proofs.Math.Seq.{drop-nil}
use Rattle.std.specs.Prelude.{◌==◌, ◌&&◌, nat_lt, nat_le, slice_get, slice_index, slice_set, if◌then◌else◌}
use Rattle.std.proofs.lemmas.Bool.{eq-eqb, eqb-true, false≢true, le-leb, leb-true, ltb-false, ltb-true}
use Rattle.std.proofs.lemmas.List.{get_or-set_other, get_or-set_same, length-set}
use Rattle.std.proofs.lemmas.Option.{same_Some, slice_get_cases, slice_get_past}
use Rattle.tplan.specs.declared.plan.End.{End}
use Rattle.tplan.specs.declared.plan.Plan.{Plan}
use Rattle.tplan.specs.declared.plan.SinkPlan.{SinkPlan}
use Rattle.tplan.specs.declared.plan.SourcePlan.{SourcePlan}
use Rattle.tword.specs.Stores.{Store, as_cells}
use Rattle.tplan.specs.Wires.{same_end}
use Rattle.tprocesses.specs.LinkMessages.{sink_receives, source_sends}
use Rattle.tprocesses.specs.Machine.{Role, Processor, Source, Sink, Nothing, role_at}
use Rattle.tprocesses.specs.Opening.{messages_of, source_at, sink_at}
use Rattle.tprocesses.specs.Parts.{HasNoStep, Part, Reason}
use Rattle.tprocesses.specs.Places.{Place, WordAt, Sending, Standing, Ports, Half, LinkHalf, Unfinished, Error}
use Rattle.tprocesses.specs.Places.{HaltOnError, Life, Successions, Messages, Kept, Population, HasRun, FlagChanged}
use Rattle.tprocesses.specs.Places.{same_place}
use Rattle.tprocesses.specs.Values.{AreMessages, Value}
use Rattle.tcertify.specs.declared.node.Node.{Node}
use Rattle.tcertify.specs.declared.notes.Notes.{Notes}
use Rattle.tcertify.specs.declared.sink.Sink as kept
use Rattle.tcertify.specs.Ends.{DoesThere, RunsThere, messages_kept, standing_at}
use Rattle.tcertify.specs.declared.fault.Fault.{Fault}
use Rattle.tcertify.specs.declared.fault.Fault.TheVariants as fault
use Rattle.tcertify.specs.Nodes.{nothing}
use Rattle.tcertify.specs.Words.{reason_of}
use Rattle.tcertify.specs.declared.notes.Mode.TheVariants as noted
use Rattle.tcertify.specs.Notes.{AreNoted, Keeps, Numbering, Tells}
use Rattle.tcertify.specs.Running.{State, run_part}
use Rattle.tcertify.specs.Walked.{accesses}
use Rattle.tcertify.proofs.EndMessages.{none_left, source_is_done, source_sends_one}
use Rattle.tcertify.proofs.NodeRunning.{grows_not}
use Rattle.tcertify.proofs.Places.{set_elsewhere, set_here}
use Rattle.tcertify.proofs.Running.{keeps_all}
use Rattle.tcertify.proofs.Telling.{same_place-true}
use Rattle.tverdict.specs.declared.machine.Machine.{Machine}
use Rattle.tverdict.specs.Machines.{kept_by, machine_at, state_of}
use Rattle.tverdict.specs.Passing.{DoesHalf, GoesOn, HasSinkPlace, NumbersMachine, RunsHalf, notes_at, notes_or}
use Rattle.tverdict.specs.Stepping.{Fits}
use Rattle.tverdict.specs.Wires.{messages_at, messages_by}
use Rattle.tverdict.proofs.Wired.{source_messages}

-- a place that stands as it does
as_it_is : (p : Place) (v : Value) (s : State) → s p ≡ v → standing_at p v s ≡ s
as_it_is p v s e = λ i q. by q (same_place p q) refl i
  where
    by : (q : Place) (t : Bool) → same_place p q ≡ t → (if t then v else s q) ≡ s q
    by q true h = sym e ∙ ap s (same_place-true p q h)
    by q false h = refl

-- a part that runs at one place, behind the nodes, runs on the machine
module _ {A : Type 0} (plan : Plan) (part : Part A) (n place : ℕ) (p : Place) (v w : Value) (old new : Machine)
    (before after : Notes) (answer : Result A Reason)
    (ran : RunsThere p place part (record { value = v; notes = before }) answer (record { value = w; notes = after }))
    (here : machine_at plan old p ≡ v) (there : machine_at plan new ≡ standing_at p w (machine_at plan old))
    (nodes : new.nodes.items ≡ old.nodes.items) (past : slice_get old.nodes.items n ≡ None)
    (numbers : (numbering : Numbering) → NumbersMachine numbering new → numbering p ≡ place)
    (goes : GoesOn n old new) where
  before_it : standing_at p v (machine_at plan old) ≡ machine_at plan old
  before_it = as_it_is p v (machine_at plan old) here

  keeps_by : (o : Option Node) → Keeps (notes_or before o) (notes_or after o)
  keeps_by (Some node) = keeps_all node.words.notes
  keeps_by None = ran.keeps

  pub runs_half : RunsHalf plan part n old before answer new after
  runs_half =
      record {
        runs = ap (λ (s : State). run_part part s) (sym before_it) ∙ ran.runs (machine_at plan old)
            ∙ ap (λ (s : State). (answer, s)) (sym there);
        goes = goes;
        keeps = λ k.
            subst (λ (o : Option Node). Keeps (notes_or before (slice_get old.nodes.items k)) (notes_or after o))
            (ap (λ (xs : List Node). slice_get xs k) (sym nodes)) (keeps_by (slice_get old.nodes.items k));
        noted = λ numbering is.
            subst (λ (s : State). AreNoted numbering (notes_at new after n) (accesses part s)) before_it
            (subst (λ (o : Option Node).
            AreNoted numbering (notes_or after o) (accesses part (standing_at p v (machine_at plan old))))
            (sym (ap (λ (xs : List Node). slice_get xs n) nodes ∙ past))
            (ran.noted numbering (numbers numbering is) (machine_at plan old)));
        led = λ k b l at has. inl (b, ap (λ (xs : List Node). slice_get xs k) (sym nodes) ∙ at, has);
      }

-- a state that differs at one place alone
differs : (p : Place) (w : Value) (s t : State) → t p ≡ w → ((q : Place) → same_place p q ≡ false → t q ≡ s q)
    → t ≡ standing_at p w s
differs p w s t here else' = λ i q. by q (same_place p q) refl i
  where
    by : (q : Place) (b : Bool) → same_place p q ≡ b → t q ≡ (if b then w else s q)
    by q true h = ap t (sym (same_place-true p q h)) ∙ here
    by q false h = else' q h

both : (t u : Bool) → t ≡ true → u ≡ true → (t && u) ≡ true
both true u h k = k
both false u h k = absurd (false≢true h)

-- the end of a source or a sink
ends_differ : (e f : End) → same_end e f ≡ false → e.link ≡ 0 → f.link ≡ 0 → e.node ≡ f.node → ⊥
ends_differ e f h zero_e zero_f same =
    false≢true (sym h ∙ both (e.node == f.node) (e.link == f.link) (eq-eqb e.node f.node same)
    (eq-eqb e.link f.link (zero_e ∙ sym zero_f)))

-- what is chosen by two tests
chosen_two : {X : Type 0} (t u : Bool) (o : Option X) (x : X) → (if t && u then o else None) ≡ Some x
    → (t ≡ true) × (u ≡ true) × (o ≡ Some x)
chosen_two true true o x e = (refl, refl, e)
chosen_two true false o x e = cc
chosen_two false u o x e = cc

first_of : {X : Type 0} (xs : List X) (n : ℕ) (x : X) → slice_get xs n ≡ Some x → drop n xs ≡ x ∷ drop (suc n) xs
first_of [] n x e = cc
first_of (y ∷ ys) zero x e = let same : y ≡ x = same_Some y x e in ap (λ z. z ∷ ys) same
first_of (y ∷ ys) (suc n) x e = first_of ys n x e

module _ (plan : Plan) where
  abbrev nodes : ℕ
  nodes = length plan.nodes

  abbrev ends : ℕ
  ends = length plan.nodes + length plan.sources

  abbrev role_by : Bool → Bool → Bool → Role
  role_by node source sink =
      if node then Processor else if source then Source else if sink then Sink else Nothing

  source_tests : (t u v : Bool) → role_by t u v ≡ Source → (t ≡ false) × (u ≡ true)
  source_tests true u v e = cc
  source_tests false true v e = (refl, refl)
  source_tests false false true e = cc
  source_tests false false false e = cc

  sink_tests : (t u v : Bool) → role_by t u v ≡ Sink → (t ≡ false) × (u ≡ false) × (v ≡ true)
  sink_tests true u v e = cc
  sink_tests false true v e = cc
  sink_tests false false true e = (refl, refl, refl)
  sink_tests false false false e = cc

  -- where a source stands, and a sink
  pub source_lies : (n : ℕ) → role_at plan n ≡ Source → (nodes ≤ n) × (n < ends)
  source_lies n e =
      let (t, u) = source_tests (nat_lt n nodes) (nat_lt n ends) (nat_lt n (ends + length plan.sinks)) e in
      (ltb-false n nodes t, ltb-true n ends u)

  pub sink_lies : (n : ℕ) → role_at plan n ≡ Sink → (ends ≤ n) × (n < ends + length plan.sinks)
  sink_lies n e =
      let (t, u, v) = sink_tests (nat_lt n nodes) (nat_lt n ends) (nat_lt n (ends + length plan.sinks)) e in
      (ltb-false n ends u, ltb-true n (ends + length plan.sinks) v)

  source_there : (f : End) (s : SourcePlan) → source_at plan f ≡ Some s → (f.link ≡ 0) × (nodes ≤ f.node)
  source_there f s e =
      let (t, u, at) = chosen_two (f.link == 0) (nat_le nodes f.node) (slice_get plan.sources (f.node - nodes)) s e in
      (eqb-true f.link 0 t, leb-true nodes f.node u)

  sink_there : (f : End) (s : SinkPlan) → sink_at plan f ≡ Some s → (f.link ≡ 0) × (ends ≤ f.node)
  sink_there f s e =
      let (t, u, at) = chosen_two (f.link == 0) (nat_le ends f.node) (slice_get plan.sinks (f.node - ends)) s e in
      (eqb-true f.link 0 t, leb-true ends f.node u)

-- a source sends one more
module _ (plan : Plan) (old : Machine) (e : End) (past : length plan.nodes ≤ e.node) (more : ℕ) (list : List ℕ)
    (set : list ≡ slice_set old.sent.items (e.node - length plan.nodes) more) (zero_link : e.link ≡ 0) where
  abbrev after_sent : State
  after_sent = state_of plan old.nodes.items list old.sinks.items

  left_else : (f : End) → same_end e f ≡ false → (o : Option SourcePlan) → source_at plan f ≡ o
      → drop (slice_index list (f.node - length plan.nodes)) (messages_of o)
      ≡ drop (slice_index old.sent.items (f.node - length plan.nodes)) (messages_of o)
  left_else f h None at =
      drop-nil (slice_index list (f.node - length plan.nodes))
      ∙ sym (drop-nil (slice_index old.sent.items (f.node - length plan.nodes)))
  left_else f h (Some s) at =
      let (zero_f, past_f) = source_there plan f s at in
      let apart : f.node - length plan.nodes ≢ e.node - length plan.nodes =
      λ same. ends_differ e f h zero_link zero_f (omega (arith, same, past, past_f)) in
      ap (λ (k : ℕ). drop k s.messages)
      (ap (λ (xs : List ℕ). slice_index xs (f.node - length plan.nodes)) set
      ∙ get_or-set_other old.sent.items (e.node - length plan.nodes) (f.node - length plan.nodes) more 0 apart)

  sent_else : (q : Place) → same_place (Messages e) q ≡ false → after_sent q ≡ machine_at plan old q
  sent_else (WordAt m k) h = refl
  sent_else (Sending m k) h = refl
  sent_else (Standing x) h = refl
  sent_else (Ports x) h = refl
  sent_else (Half m c side) h = refl
  sent_else (LinkHalf f side) h = refl
  sent_else (Unfinished f) h = refl
  sent_else (Error m) h = refl
  sent_else (HaltOnError m) h = refl
  sent_else (FlagChanged m) h = refl
  sent_else (Life m w) h = refl
  sent_else (Successions m w) h = refl
  sent_else (Population m) h = refl
  sent_else (HasRun m q) h = refl
  sent_else (Messages f) h = ap AreMessages (left_else f h (source_at plan f) refl)
  sent_else (Kept f) h = refl

  -- all else stays
  pub sent_on : e.node - length plan.nodes < length old.sent.items
      → after_sent ≡ standing_at (Messages e) (AreMessages (drop more (messages_of (source_at plan e))))
      (machine_at plan old)
  sent_on low =
      differs (Messages e) (AreMessages (drop more (messages_of (source_at plan e)))) (machine_at plan old) after_sent
      (ap (λ (k : ℕ). AreMessages (drop k (messages_of (source_at plan e))))
      (ap (λ (xs : List ℕ). slice_index xs (e.node - length plan.nodes)) set
      ∙ get_or-set_same old.sent.items (e.node - length plan.nodes) more 0 low)) sent_else

-- only link 0 of a source has messages
abbrev messages_if : Bool → Option SourcePlan → List (List ℕ)
messages_if t (Some s) = if t then s.messages else []
messages_if t None = []

messages_as : (link : ℕ) (o : Option SourcePlan) → messages_if (link == 0) o ≡ messages_by link o
messages_as link (Some s) = refl
messages_as link None = refl

zero_by : (link : ℕ) (o : Option SourcePlan) (t : Bool) → (link == 0) ≡ t → (k : ℕ) (m : List ℕ)
    → slice_get (messages_if t o) k ≡ Some m → link ≡ 0
zero_by link o true e k m at = eqb-true link 0 e
zero_by link (Some s) false e k m at = cc
zero_by link None false e k m at = cc

zero_link_of : (plan : Plan) (e : End) (m : List ℕ) (k : ℕ)
    → slice_get (messages_at plan (e.node - length plan.nodes) e.link) k ≡ Some m → e.link ≡ 0
zero_link_of plan e m k at =
    zero_by e.link (slice_get plan.sources (e.node - length plan.nodes)) (e.link == 0) refl k m
    (ap (λ (xs : List (List ℕ)). slice_get xs k) (sym (messages_as e.link
    (slice_get plan.sources (e.node - length plan.nodes)))) ∙ at)

-- a source sends, or has nothing left
module _ (plan : Plan) (old : Machine) (fits : Fits plan old) (e : End) (role : role_at plan e.node ≡ Source)
    (place : ℕ) (at : place ≡ old.first_script + e.node) (before notes : Notes) (kept : Keeps before notes)
    (tells : Tells notes place noted.Puts) where
  abbrev number : ℕ
  number = e.node - length plan.nodes

  past_nodes : length plan.nodes ≤ e.node
  past_nodes = (source_lies plan e.node role).0

  no_node_there : slice_get old.nodes.items e.node ≡ None
  no_node_there =
      slice_get_past old.nodes.items e.node
      (let many : length old.nodes.items ≡ length plan.nodes = fits.nodes.many in omega (arith, many, past_nodes))

  messages_are : messages_of (source_at plan e) ≡ messages_at plan number e.link
  messages_are = source_messages plan e past_nodes

  goes_to : (new : Machine) → new.nodes ≡ old.nodes → new.sinks ≡ old.sinks
      → length new.sent.items ≡ length old.sent.items
      → new ≡ record old { nodes = new.nodes; sent = new.sent; sinks = new.sinks } → GoesOn e.node old new
  goes_to new nodes sinks long same =
      record {
        nodes = record {
          many = ap (λ v. length v.items) nodes;
          grow = λ k a there. (a, ap (λ v. slice_get v.items k) nodes ∙ there, grows_not a);
        };
        others = λ k other. ap (λ v. slice_get v.items k) nodes;
        sent = long;
        sinks = ap (λ v. length v.items) sinks;
        places = λ k p (s, there, is). (s, ap (λ v. slice_get v.items k) (sym sinks) ∙ there, is);
        same = same;
      }

  pub nothing_sent : length (messages_at plan number e.link) ≤ slice_index old.sent.items number
      → RunsHalf plan (source_sends e) e.node old before (Err HasNoStep) old notes
  nothing_sent none =
      let value : Value = machine_at plan old (Messages e) in
      runs_half plan (source_sends e) e.node place (Messages e) value value old old before notes (Err HasNoStep)
      (source_is_done e place before notes kept tells
      (drop (slice_index old.sent.items number) (messages_of (source_at plan e)))
      (ap (drop (slice_index old.sent.items number)) messages_are
      ∙ none_left (messages_at plan number e.link) (slice_index old.sent.items number) none))
      refl (sym (as_it_is (Messages e) value (machine_at plan old) refl)) refl no_node_there
      (λ numbering is. is.messages e ∙ sym at) (goes_to old refl refl refl refl)

  pub one_sent : (m : List ℕ) → slice_get (messages_at plan number e.link) (slice_index old.sent.items number) ≡ Some m
      → (bytes : Store) → bytes ≡ as_cells m → (new : Machine) → new ≡ record old { sent = new.sent }
      → new.sent.items ≡ slice_set old.sent.items number (slice_index old.sent.items number + 1)
      → RunsHalf plan (source_sends e) e.node old before (Ok bytes) new notes
  one_sent m first bytes cells new same set =
      let k : ℕ = slice_index old.sent.items number in
      let ms : List (List ℕ) = messages_of (source_at plan e) in
      let left : drop k ms ≡ m ∷ drop (k + 1) ms =
      first_of ms k m (ap (λ (xs : List (List ℕ)). slice_get xs k) messages_are ∙ first)
      ∙ ap (λ (j : ℕ). m ∷ drop j ms) (let one : suc k ≡ k + 1 = omega arith in one) in
      let low : number < length old.sent.items =
      (let (from, below) = source_lies plan e.node role in omega (arith, from, below, fits.sent)) in
      runs_half plan (source_sends e) e.node place (Messages e) (AreMessages (drop k ms))
      (AreMessages (drop (k + 1) ms))
      old new before notes (Ok bytes)
      (source_sends_one e place before notes kept tells (drop k ms) (drop (k + 1) ms) m bytes left cells)
      refl
      (ap (λ (x : Machine). machine_at plan x) same
      ∙ sent_on plan old e past_nodes (k + 1) new.sent.items set (zero_link_of plan e m k first) low)
      (ap (λ (x : Machine). x.nodes.items) same) no_node_there
      (λ numbering is. is.messages e ∙ ap (λ (x : Machine). x.first_script + e.node) same ∙ sym at)
      (goes_to new (ap (λ (x : Machine). x.nodes) same) (ap (λ (x : Machine). x.sinks) same)
      (ap length set ∙ length-set old.sent.items number (k + 1))
      (same ∙ ap (λ (x : Machine). record old { nodes = x.nodes; sent = new.sent; sinks = x.sinks }) (sym same)))

-- a sink is another one
module _ (plan : Plan) (old : Machine) (fits : Fits plan old) (e : End) (role : role_at plan e.node ≡ Sink)
    (zero_link : e.link ≡ 0) (sink now : kept.Sink) (list : List kept.Sink)
    (had : slice_get old.sinks.items (e.node - (length plan.nodes + length plan.sources)) ≡ Some sink)
    (set : list ≡ slice_set old.sinks.items (e.node - (length plan.nodes + length plan.sources)) now)
    (same_place_now : now.place ≡ sink.place) where
  abbrev scripts : ℕ
  scripts = length plan.nodes + length plan.sources

  abbrev which : ℕ
  which = e.node - scripts

  abbrev after_kept : State
  after_kept = state_of plan old.nodes.items old.sent.items list

  far : scripts ≤ e.node
  far = (sink_lies plan e.node role).0

  -- what a sink at this end has
  kept_by_sink : (o : Option SinkPlan) → ((length plan.sinks ≤ which) × (o ≡ None) → ⊥)
      → ((x : SinkPlan) × (o ≡ Some x)) ⊎ ((length plan.sinks ≤ which) × (o ≡ None)) → (t : Bool) → t ≡ true
      → (s : kept.Sink) → kept_by (if t then o else None) (Some s) ≡ messages_kept s
  kept_by_sink o never (inl (x, at)) t holds s =
      ap (λ (b : Bool). kept_by (if b then o else None) (Some s)) holds
      ∙ ap (λ (p : Option SinkPlan). kept_by p (Some s)) at
  kept_by_sink o never (inr gone) t holds s = absurd (never gone)

  kept_at : (s : kept.Sink) → kept_by (sink_at plan e) (Some s) ≡ messages_kept s
  kept_at s =
      let (below, above) = sink_lies plan e.node role in
      kept_by_sink (slice_get plan.sinks which) (λ gone. omega (arith, above, far, gone.0))
      (there_or_gone ((slice_get_cases plan.sinks which).1)) ((e.link == 0) && nat_le scripts e.node)
      (both (e.link == 0) (nat_le scripts e.node) (eq-eqb e.link 0 zero_link) (le-leb scripts e.node far)) s
    where
      there_or_gone :
          ((x : SinkPlan) × (which < length plan.sinks) × (slice_get plan.sinks which ≡ Some x)
          × (get_or plan.sinks which x ≡ x)) ⊎ ((length plan.sinks ≤ which) × (slice_get plan.sinks which ≡ None))
          → ((x : SinkPlan) × (slice_get plan.sinks which ≡ Some x))
          ⊎ ((length plan.sinks ≤ which) × (slice_get plan.sinks which ≡ None))
      there_or_gone (inl (x, low, at, g)) = inl (x, at)
      there_or_gone (inr gone) = inr gone

  now_there : slice_get list which ≡ Some now
  now_there =
      ap (λ (xs : List kept.Sink). slice_get xs which) set ∙ set_here old.sinks.items which now sink had

  kept_else : (f : End) → same_end e f ≡ false → (o : Option SinkPlan) → sink_at plan f ≡ o
      → kept_by o (slice_get list (f.node - scripts)) ≡ kept_by o (slice_get old.sinks.items (f.node - scripts))
  kept_else f h None at = refl
  kept_else f h (Some x) at =
      let (zero_f, far_f) = sink_there plan f x at in
      let apart : which ≡ f.node - scripts → ⊥ =
      λ same. ends_differ e f h zero_link zero_f (omega (arith, same, far, far_f)) in
      ap (λ (o : Option kept.Sink). kept_by (Some x) o)
      (ap (λ (xs : List kept.Sink). slice_get xs (f.node - scripts)) set
      ∙ set_elsewhere old.sinks.items which (f.node - scripts) now apart)

  sinks_else : (q : Place) → same_place (Kept e) q ≡ false → after_kept q ≡ machine_at plan old q
  sinks_else (WordAt m k) h = refl
  sinks_else (Sending m k) h = refl
  sinks_else (Standing x) h = refl
  sinks_else (Ports x) h = refl
  sinks_else (Half m c side) h = refl
  sinks_else (LinkHalf f side) h = refl
  sinks_else (Unfinished f) h = refl
  sinks_else (Error m) h = refl
  sinks_else (HaltOnError m) h = refl
  sinks_else (FlagChanged m) h = refl
  sinks_else (Life m w) h = refl
  sinks_else (Successions m w) h = refl
  sinks_else (Population m) h = refl
  sinks_else (HasRun m q) h = refl
  sinks_else (Messages f) h = refl
  sinks_else (Kept f) h = kept_else f h (sink_at plan f) refl

  sinks_on : after_kept ≡ standing_at (Kept e) (messages_kept now) (machine_at plan old)
  sinks_on =
      differs (Kept e) (messages_kept now) (machine_at plan old) after_kept
      (ap (λ (o : Option kept.Sink). kept_by (sink_at plan e) o) now_there ∙ kept_at now) sinks_else

  no_node_at : slice_get old.nodes.items e.node ≡ None
  no_node_at =
      slice_get_past old.nodes.items e.node
      (let many : length old.nodes.items ≡ length plan.nodes = fits.nodes.many in omega (arith, many, far))

  place_had : (k p : ℕ) (s : kept.Sink) → slice_get list k ≡ Some s → s.place ≡ p → (b : Bool) → (which == k) ≡ b
      → HasSinkPlace old k p
  place_had k p s at is true h =
      let here : which ≡ k = eqb-true which k h in (
        sink,
        ap (λ (j : ℕ). slice_get old.sinks.items j) (sym here) ∙ had,
        sym same_place_now
            ∙ ap (λ (x : kept.Sink). x.place)
            (same_Some now s (sym now_there ∙ ap (λ (j : ℕ). slice_get list j) here ∙ at)) ∙ is,
      )
  place_had k p s at is false h = (
    s,
    sym (ap (λ (xs : List kept.Sink). slice_get xs k) set
        ∙ set_elsewhere old.sinks.items which k now (λ same. false≢true (sym h ∙ eq-eqb which k same))) ∙ at,
    is,
  )

  module _ (new : Machine) (same : new ≡ record old { sinks = new.sinks }) (list_is : new.sinks.items ≡ list)
      (before notes : Notes) (message : Store) where
    kept_goes : GoesOn e.node old new
    kept_goes =
        record {
          nodes = record {
            many = ap (λ (x : Machine). length x.nodes.items) same;
            grow = λ k a there. (a, ap (λ (x : Machine). slice_get x.nodes.items k) same ∙ there, grows_not a);
          };
          others = λ k other. ap (λ (x : Machine). slice_get x.nodes.items k) same;
          sent = ap (λ (x : Machine). length x.sent.items) same;
          sinks = ap length (list_is ∙ set) ∙ length-set old.sinks.items which now;
          places = λ k p (s, there, is).
              place_had k p s (ap (λ (xs : List kept.Sink). slice_get xs k) (sym list_is) ∙ there) is (which == k) refl;
          same = same
              ∙ ap (λ (x : Machine). record old { nodes = x.nodes; sent = x.sent; sinks = new.sinks }) (sym same);
        }

    kept_half : (answer : Result (Unit {0}) Reason)
        → RunsThere (Kept e) sink.place (sink_receives message e)
        (record { value = messages_kept sink; notes = before }) answer
        (record { value = messages_kept now; notes = notes })
        → RunsHalf plan (sink_receives message e) e.node old before answer new notes
    kept_half answer ran =
        runs_half plan (sink_receives message e) e.node sink.place (Kept e) (messages_kept sink) (messages_kept now) old
        new
        before notes answer ran
        (ap (λ (o : Option kept.Sink). kept_by (sink_at plan e) o) had ∙ kept_at sink)
        (ap (λ (x : Machine). machine_at plan x) same
        ∙ ap (λ (xs : List kept.Sink). state_of plan old.nodes.items old.sent.items xs) list_is ∙ sinks_on)
        (ap (λ (x : Machine). x.nodes.items) same) no_node_at
        (λ numbering is.
        (let given : numbering (Kept e) ≡ old.first_script + e.node =
        is.kept e ∙ ap (λ (x : Machine). x.first_script + e.node) same in
        let placed : sink.place ≡ old.first_script + (length plan.nodes + length plan.sources + which) =
        fits.kept_places which sink had in omega (arith, given, placed, far))) kept_goes

    pub sink_half : (r : Result (Unit {0}) Fault)
        → DoesThere (Kept e) sink.place (sink_receives message e) nothing
        (record { value = messages_kept sink; notes = before }) r
        (record { value = messages_kept now; notes = notes })
        → DoesHalf plan (sink_receives message e) nothing e.node old before r new notes
    sink_half (Ok x) ran = kept_half (Ok tt) ran
    sink_half (Err (fault.Stops why)) ran = kept_half (Err (reason_of why)) ran
    sink_half (Err fault.OutOfMemory) ran = tt
