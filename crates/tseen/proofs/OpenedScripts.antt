-- The sources and the sinks of a plan before the first step.
use Rattle.std.proofs.Common.{◌≡◌, ℕ, zero, suc, ◌+◌, ◌-◌, ◌≤◌, refl, sym, ap, ◌∙◌, List, [], ◌∷◌, ◌++◌, length, map}
use Rattle.std.proofs.Common.{Bool, false, cond, Option, Some, None, arith, option_map, replicate}
use Rattle.std.specs.Prelude.{slice_get, sum}
use Rattle.std.specs.List.{concat}
use Rattle.std.proofs.lemmas.Bool.{le-leb}
use Rattle.std.proofs.lemmas.List.{length-map, length-append, length-replicate, append_assoc, take_at, drop_at}
use Rattle.std.proofs.lemmas.List.Sums.{sum_by-cons}
use Rattle.std.proofs.lemmas.Option.{slice_get-map}
use Rattle.tword.specs.Words.{most_neg}
use Rattle.tword.specs.Stores.{Store, as_cells, shown, place, cells, hiding_from}
use Rattle.tword.specs.Touches.{byte_span}
use Rattle.tword.specs.Claims.{is_input}
use Rattle.tword.proofs.Hiding.{length-hiding_from}
use Rattle.tproc.specs.Machine.{claims_of}
use Rattle.tproc.specs.Hidden.{hidden}
use Rattle.tproc.specs.LinkChannels.{link_end}
use Rattle.tlink.specs.Roles.{script_control, offering, asking}
use Rattle.tlink.specs.Node.{NodeState, fresh_source, fresh_sink}
use Rattle.tplan.specs.declared.plan.NodePlan.{NodePlan}
use Rattle.tplan.specs.declared.plan.SourcePlan.{SourcePlan}
use Rattle.tplan.specs.declared.plan.SinkPlan.{SinkPlan}
use Rattle.tplan.specs.declared.plan.Plan.{Plan}
use Rattle.tnet.specs.Building.{machines_of, opened_machine, opening_node, opening_configuration, fresh_scripts}
use Rattle.tnet.specs.Rendezvous.{Node, node_of}
use Rattle.tplan.specs.Wires.{end_at}
use Rattle.tnet.proofs.PlannedWires.{slice_left, slice_past}
use Rattle.tlink.specs.Roles.{Processor}
use Rattle.tprocesses.specs.Values.{AreMessages, AreKept}
use Rattle.tprocesses.specs.Opening.{opening_state, source_at, sink_at, messages_of, capacity_of}
use Rattle.tseen.specs.Scripts.{messages_from, ShowsSource, ShowsSink}

-- bytes that become cells
shown-as_cells : (bytes : List ℕ) → shown (as_cells bytes) ≡ bytes
shown-as_cells [] = refl
shown-as_cells (b ∷ bytes) = ap (λ (bs : List ℕ). b ∷ bs) (shown-as_cells bytes)

as_cells-append : (xs ys : List ℕ) → as_cells (xs ++ ys) ≡ as_cells xs ++ as_cells ys
as_cells-append [] ys = refl
as_cells-append (x ∷ xs) ys = ap (λ (s : Store). Some x ∷ s) (as_cells-append xs ys)

-- the cells behind others
behind : (front new rest : Store) (a n : ℕ) → place a ≡ length front → length new ≡ n
    → cells (front ++ (new ++ rest)) a n ≡ new
behind front new rest a n here many =
    let e : place a + n - place a ≡ n = omega arith in
    rw (e, drop_at front (new ++ rest) (place a) (sym here)) (take_at new rest n many)

-- messages that lie one behind another are read as they were put
read_back : (front : Store) (messages : List (List ℕ)) (a : ℕ) → place a ≡ length front → most_neg ≤ a
    → map shown (messages_from (front ++ as_cells (concat messages)) a (map length messages)) ≡ messages
read_back front [] a here above = refl
read_back front (m ∷ ms) a here above =
    let many : length (as_cells m) ≡ length m = length-map m (λ b. Some b) in
    let split : front ++ as_cells (concat (m ∷ ms)) ≡ front ++ (as_cells m ++ as_cells (concat ms)) =
    ap (λ (s : Store). front ++ s) (as_cells-append m (concat ms)) in
    let whole : front ++ as_cells (concat (m ∷ ms)) ≡ (front ++ as_cells m) ++ as_cells (concat ms) =
    split ∙ sym (append_assoc front (as_cells m) (as_cells (concat ms))) in
    let first : shown (cells (front ++ as_cells (concat (m ∷ ms))) a (length m)) ≡ m =
    ap (λ (s : Store). shown (cells s a (length m))) split
    ∙ ap shown (behind front (as_cells m) (as_cells (concat ms)) a (length m) here many) ∙ shown-as_cells m in
    let rest : map shown (messages_from (front ++ as_cells (concat (m ∷ ms))) (a + length m) (map length ms)) ≡ ms =
    ap (λ (s : Store). map shown (messages_from s (a + length m) (map length ms))) whole
    ∙ read_back (front ++ as_cells m) ms (a + length m)
    (omega (arith, here, above, many, length-append front (as_cells m))) (omega (arith, above)) in
    ap (λ (x : List ℕ). x ∷ map shown
    (messages_from (front ++ as_cells (concat (m ∷ ms))) (a + length m) (map length ms))) first
    ∙ ap (λ (xs : List (List ℕ)). m ∷ xs) rest

-- nothing is hidden of a source, for it asks for nothing
hiding_nothing : (f : ℕ → Bool) (a : ℕ) (s : Store) → ((b : ℕ) → f b ≡ false) → hiding_from f a s ≡ s
hiding_nothing f a [] h = refl
hiding_nothing f a (cell ∷ s) h = rw (h a, hiding_nothing f (suc a) s h) refl

-- what stands behind the links of a script
abbrev pub seen : NodeState → Node
seen n = opening_node n.role (hidden n.machine)

pub source_store : (messages : List (List ℕ))
    → (seen (fresh_source messages)).machine.store ≡ as_cells (concat messages)
source_store messages =
    hiding_nothing
    (λ x. is_input (claims_of (script_control (offering most_neg (map length messages)))) (byte_span x)) most_neg
    (as_cells (concat messages)) (λ b. refl)

-- messages are as long as all of them
long : (messages : List (List ℕ)) → sum (map length messages) ≡ length (concat messages)
long [] = refl
long (m ∷ ms) =
    sum_by-cons (λ x. x) (length m) (map length ms) ∙ omega (arith, long ms, length-append m (concat ms))

module _ (p : Plan) (k : ℕ) where
  -- the scripts stand behind the nodes
  abbrev processors : List Node
  processors = map (opening_node Processor) (machines_of p)

  count : length processors ≡ length p.nodes
  unfolding machines_of
  count =
      length-map (machines_of p) (opening_node Processor) ∙ length-map p.nodes (opened_machine p.timeslice)

  script : (n : NodeState) → slice_get (fresh_scripts p) k ≡ Some n
      → node_of (opening_configuration p) (length p.nodes + k) ≡ Some (seen n)
  script n e =
      let back : length p.nodes + k - length processors ≡ k = omega (arith, count) in
      slice_past processors (map seen (fresh_scripts p)) (length p.nodes + k) (omega (arith, count))
      ∙ ap (λ (i : ℕ). slice_get (map seen (fresh_scripts p)) i) back
      ∙ slice_get-map seen (fresh_scripts p) k ∙ ap (option_map seen) e

-- a processor
pub processor_there : (p : Plan) (n : ℕ) (plan : NodePlan) → slice_get p.nodes n ≡ Some plan
    → node_of (opening_configuration p) n ≡ Some (opening_node Processor (opened_machine p.timeslice plan))
unfolding machines_of
processor_there p n plan at =
    slice_left (map (opening_node Processor) (machines_of p)) (map seen (fresh_scripts p)) n
    (opening_node Processor (opened_machine p.timeslice plan))
    (slice_get-map (opening_node Processor) (machines_of p) n
    ∙ ap (option_map (opening_node Processor))
    (slice_get-map (opened_machine p.timeslice) p.nodes n ∙ ap (option_map (opened_machine p.timeslice)) at))

-- a source
pub source_shown : (p : Plan) (k : ℕ) (source : SourcePlan) → slice_get p.sources k ≡ Some source
    → (node : Node) × (node_of (opening_configuration p) (length p.nodes + k) ≡ Some node)
    × ShowsSource (opening_state p) (end_at (length p.nodes + k) 0) node
source_shown p k source there = (seen (fresh_source source.messages), script p k _ here, shows)
  where
    here : slice_get (fresh_scripts p) k ≡ Some (fresh_source source.messages)
    here =
        slice_left (map (λ (x : SourcePlan). fresh_source x.messages) p.sources)
        (map (λ (x : SinkPlan). fresh_sink x.capacity) p.sinks) k (fresh_source source.messages)
        (slice_get-map (λ (x : SourcePlan). fresh_source x.messages) p.sources k
        ∙ ap (option_map (λ (x : SourcePlan). fresh_source x.messages)) there)

    found : source_at p (end_at (length p.nodes + k) 0) ≡ Some source
    found =
        let back : length p.nodes + k - length p.nodes ≡ k = omega arith in
        ap (λ t. cond t (slice_get p.sources (length p.nodes + k - length p.nodes)) None)
        (le-leb (length p.nodes) (length p.nodes + k) (omega arith))
        ∙ ap (λ i. slice_get p.sources i) back ∙ there

    shows : ShowsSource (opening_state p) (end_at (length p.nodes + k) 0) (seen (fresh_source source.messages))
    shows =
        record {
          works = refl;
          over = [];
          rest = map length source.messages;
          role = refl;
          seen = ap (λ (z : Store). as_cells (shown z)) (source_store source.messages)
              ∙ ap as_cells (shown-as_cells (concat source.messages)) ∙ sym (source_store source.messages);
          address = most_neg;
          above = omega arith;
          lies = omega (
            arith,
            ap (λ (z : Store). length z) (source_store source.messages),
            length-map {A = ℕ} (concat source.messages) Some,
            long source.messages,
          );
          output = refl;
          input = refl;
          messages =
              ap (λ (o : Option SourcePlan). AreMessages (messages_of o)) found
              ∙ ap (λ (ms : List (List ℕ)). AreMessages ms)
              (sym (ap (λ (s : Store). map shown (messages_from s most_neg (map length source.messages)))
              (source_store source.messages) ∙ read_back [] source.messages most_neg refl (omega arith)));
        }

-- a sink
pub sink_shown : (p : Plan) (k : ℕ) (sink : SinkPlan) → slice_get p.sinks k ≡ Some sink
    → (node : Node) × (node_of (opening_configuration p) (length p.nodes + length p.sources + k) ≡ Some node)
    × ShowsSink (opening_state p) (end_at (length p.nodes + length p.sources + k) 0) node
sink_shown p k sink there = (seen (fresh_sink sink.capacity), place_is, shows)
  where
    here : slice_get (fresh_scripts p) (length p.sources + k) ≡ Some (fresh_sink sink.capacity)
    here =
        let many : length (map (λ (x : SourcePlan). fresh_source x.messages) p.sources) ≡ length p.sources =
        length-map p.sources (λ (x : SourcePlan). fresh_source x.messages) in
        let back : length p.sources + k - length (map (λ (x : SourcePlan). fresh_source x.messages) p.sources) ≡ k =
        omega (arith, many) in
        slice_past (map (λ (x : SourcePlan). fresh_source x.messages) p.sources)
        (map (λ (x : SinkPlan). fresh_sink x.capacity) p.sinks) (length p.sources + k) (omega (arith, many))
        ∙ ap (λ (i : ℕ). slice_get (map (λ (x : SinkPlan). fresh_sink x.capacity) p.sinks) i) back
        ∙ slice_get-map (λ (x : SinkPlan). fresh_sink x.capacity) p.sinks k
        ∙ ap (option_map (λ (x : SinkPlan). fresh_sink x.capacity)) there

    place_is : node_of (opening_configuration p) (length p.nodes + length p.sources + k)
        ≡ Some (seen (fresh_sink sink.capacity))
    place_is =
        let e : length p.nodes + length p.sources + k ≡ length p.nodes + (length p.sources + k) = omega arith in
        ap (node_of (opening_configuration p)) e
        ∙ script p (length p.sources + k) (fresh_sink sink.capacity) here

    found : sink_at p (end_at (length p.nodes + length p.sources + k) 0) ≡ Some sink
    found =
        let back : length p.nodes + length p.sources + k - (length p.nodes + length p.sources) ≡ k = omega arith in
        ap (λ t. cond t
        (slice_get p.sinks (length p.nodes + length p.sources + k - (length p.nodes + length p.sources))) None)
        (le-leb (length p.nodes + length p.sources) (length p.nodes + length p.sources + k) (omega arith))
        ∙ ap (λ i. slice_get p.sinks i) back ∙ there

    no_other : (l : ℕ) → (link_end (script_control (asking most_neg sink.capacity)) (suc l)).input ≡ None
    no_other zero = refl
    no_other (suc zero) = refl
    no_other (suc (suc zero)) = refl
    no_other (suc (suc (suc l))) = refl

    shows : ShowsSink (opening_state p) (end_at (length p.nodes + length p.sources + k) 0)
        (seen (fresh_sink sink.capacity))
    shows =
        record {
          works = refl;
          kept = [];
          role = refl;
          room = sink.capacity;
          input = refl;
          output = refl;
          silent = refl;
          alone = no_other;
          lies = omega (
            arith,
            length-hiding_from
                (λ x. is_input (claims_of (script_control (asking most_neg sink.capacity))) (byte_span x)) most_neg
                (as_cells (replicate sink.capacity 0)),
            length-map {A = ℕ} (replicate sink.capacity 0) Some,
            length-replicate {A = ℕ} sink.capacity 0,
          );
          messages = [];
          stands = ap (λ (o : Option SinkPlan). AreKept (capacity_of o) []) found;
          knows = tt;
        }
