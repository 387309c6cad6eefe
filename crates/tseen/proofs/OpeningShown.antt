-- The nodes of a plan before the first step are shown.
use Rattle.tseen.specs.Choices.{alternative_of}
use Rattle.tprocesses.specs.Places.{Root, Image, After}
use Rattle.tprocesses.specs.Opening.{opened_stand}
use Rattle.tword.specs.Stores.{Store}
use Rattle.std.proofs.Common.{true≢false}
use Rattle.tprocesses.specs.Values.{stand_in}
use Rattle.tseen.specs.Choices.{Alternative, alternative_at, is_quiet, ShowsChoices}
use Rattle.tseen.specs.Words.{is_set_aside}
use Rattle.std.proofs.Common.{◌≡◌, ℕ, zero, suc, ◌+◌, ◌*◌, ◌<◌, ◌≤◌, ◌^◌, refl, sym, ap, ◌∙◌, subst, List, [], ◌∷◌}
use Rattle.std.proofs.Common.{◌++◌, length, get_or, Bool, true, false, cond, Result, Ok, Err, Option, Some, None, All}
use Rattle.std.proofs.Common.{arith, Contains, fold}
use Rattle.std.specs.Prelude.{slice_get}
use Rattle.std.proofs.lemmas.List.Elements.{All-append, All-nil, All-cons, All-head, All-tail, Contains-get_or}
use Rattle.std.proofs.lemmas.Option.{slice_get_within, get_or_from_slice_get}
use Rattle.std.proofs.lemmas.List.{get_or-replicate}
use Rattle.tword.specs.declared.breaks.Break.{Break}
use Rattle.tword.specs.Words.{most_neg, word_below}
use Rattle.tproc.specs.Machine.{Control, Machine, workspace_of, descheduled}
use Rattle.tproc.specs.ProcessStatus.{reason_of}
use Rattle.tproc.specs.declared.waiter.Reason.{Reason}
use Rattle.tproc.specs.declared.waiter.LinkEnd.{LinkEnd}
use Rattle.tproc.specs.LinkChannels.{link_end, quiet_end}
use Rattle.tproc.specs.Placement.{IsWord}
use Rattle.tproc.specs.Opening.{empty_machine, no_processes, loaded}
use Rattle.tproc.proofs.Opening.{IsReadyMachine, is_ready_empty, is_ready_loaded}
use Rattle.tlink.specs.Roles.{Processor}
use Rattle.tplan.specs.declared.plan.Segment.{Segment}
use Rattle.tplan.specs.declared.plan.Process.{Process}
use Rattle.tplan.specs.declared.plan.NodePlan.{NodePlan}
use Rattle.tplan.specs.declared.plan.Plan.{Plan}
use Rattle.tnet.specs.Building.{fault_of, ArePlanWords, AreBytes, AreImageWords, loaded_machine, built_machine}
use Rattle.tnet.specs.Building.{or_loaded, opened_machine, opening_node, bad_process, bad_segment, is_bad_segment}
use Rattle.tnet.specs.Building.{is_bad_size, opening_configuration}
use Rattle.tnet.proofs.OpenedPlans.{IsFaultless, faultless, good_size, good_segment, no_position}
use Rattle.tnet.specs.Rendezvous.{Node, node_of, was_copied}
use Rattle.tnet.proofs.OpenedNets.{quiet_link}
use Rattle.tproc.specs.declared.channels.Side.TheVariants.{Input}
use Rattle.tplan.specs.Wires.{end_at}
use Rattle.tprocesses.specs.Places.{Place, Name, WordAt, Standing, LinkHalf}
use Rattle.tprocesses.specs.Values.{Nobody, TakenBy, Value, Word, Free, Saved, Engaged, Request, IsWord as a_word}
use Rattle.tprocesses.specs.Values.{Empty, Fired, IsLink, IsHalf}
use Rattle.tprocesses.specs.Values.{word_in, unknown, Stand, Absent, IsStand}
use Rattle.tprocesses.specs.Machine.{awaits_successor}
use Rattle.tprocesses.specs.Touching.{word_number}
use Rattle.tprocesses.specs.Opening.{opening_state, of_node, stand_of, opened_word, loaded_byte, is_below}
use Rattle.tseen.specs.Words.{AreMarked, AreSavedWords, use_at, cells_at}
use Rattle.tseen.specs.Halves.{ShowsChannels, ShowsLink, IsInput}
use Rattle.tseen.specs.Shown.{ShowsNode, OpeningIsShown}
use Rattle.tseen.proofs.Loaded.{Holds, holds_all}
use Rattle.tseen.proofs.Queued.{seats, seat_of, HasProcess}
use Rattle.tseen.proofs.Built.{queued}
use Rattle.tseen.proofs.Adding.{IsBuilt, built_all, among}
use Rattle.tseen.proofs.OpenedWords.{word_known, saved_there, unknown_there}
use Rattle.tseen.proofs.OpenedScripts.{processor_there, source_shown, sink_shown}
use Rattle.tseen.proofs.OpenedNodes.{opened_name, control, of_node_is, processes_shown}

module _ (p : Plan) (n : ℕ) (plan : NodePlan) (at : slice_get p.nodes n ≡ Some plan) (timeslice : ℕ)
    (start m : Machine) (b : IsBuilt start plan.memory plan.image.processes m)
    (empty : start.control ≡ no_processes timeslice plan.kind) (room : plan.memory ≤ 2 ^ 31)
    (h : Holds (loaded_byte plan) plan.memory start.store) where
  abbrev ds : List Process
  ds = plan.image.processes

  abbrev s : Place → Value
  s = opening_state p

  control_is : m.control ≡ queued plan.image.processes (no_processes timeslice plan.kind)
  control_is = control p n plan at timeslice start m b empty

  word_is : (k : ℕ) → s (WordAt n k) ≡ a_word (opened_word plan (most_neg + 4 * k))
  word_is k =
      ap (λ (w : Word). a_word w)
      (of_node_is p n plan at timeslice start m b empty (record { cells = []; used = Free })
      (λ plan. opened_word plan (most_neg + 4 * k)))

  -- the use of a word
  used_is : (k : ℕ) → (word_in (s (WordAt n k))).used ≡ (opened_word plan (most_neg + 4 * k)).used
  used_is k = ap (λ (v : Value). (word_in v).used) (word_is k)

  -- the saved words below a workspace
  abbrev AreSaved : ℕ → Type 0
  AreSaved w = AreSavedWords s n w

  saved_one : (q : Process) → Contains ds q → (k : ℕ) → k < 3
      → use_at s n (word_below (workspace_of q.wdesc) (suc k)) ≡ Saved
  saved_one q c k small =
      used_is (word_number (word_below (workspace_of q.wdesc) (suc k)))
      ∙ saved_there plan start m room b h q k c small

  unknown_one : (q : Process) → Contains ds q → (k : ℕ) → k < 2
      → cells_at s n (word_below (workspace_of q.wdesc) (suc k)) ≡ unknown
  unknown_one q c k small =
      ap (λ (v : Value). (word_in v).cells) (word_is (word_number (word_below (workspace_of q.wdesc) (suc k))))
      ∙ unknown_there plan start m room b h q k c small

  saved_of : (q : Process) → Contains ds q → AreSaved (workspace_of q.wdesc)
  saved_of q c =
      let P : ℕ → Type 0 = λ k. use_at s n (word_below (workspace_of q.wdesc) k) ≡ Saved in
      let R : ℕ → Type 0 = λ k. cells_at s n (word_below (workspace_of q.wdesc) k) ≡ unknown in
      record {
        used = All-cons P 1 (2 ∷ []) (saved_one q c 0 (omega arith))
            (All-cons P 2 [] (saved_one q c 1 (omega arith)) (All-nil P));
        third = ap is_set_aside (saved_one q c 2 (omega arith));
        unknown = All-cons R 1 (2 ∷ []) (unknown_one q c 0 (omega arith))
            (All-cons R 2 [] (unknown_one q c 1 (omega arith)) (All-nil R));
      }

  saved_seats : (v : ℕ) → All AreSaved (seats v ds)
  saved_seats v k x inside =
      by (get_or (seats v ds) k x)
      (seat_of v (get_or (seats v ds) k x) ds
      (among (seats v ds) (get_or (seats v ds) k x) (Contains-get_or (seats v ds) k x inside)))
    where
      by : (w : ℕ) → HasProcess ds v w → AreSaved w
      by w y = subst AreSaved y.workspace (saved_of y.process y.there)

  pub quiet : (l : ℕ) → link_end m.control l ≡ quiet_end
  quiet l = quiet_link m l (ap (λ (c : Control). c.links) control_is)

  no_successor : (t : Bool) → awaits_successor (cond t Saved Free) ≡ false
  no_successor true = refl
  no_successor false = refl

  marks : AreMarked s n (λ _. None) m.control
  marks =
      record {
        saved = subst (λ (c : Control). All AreSaved (descheduled c)) (sym control_is)
            (All-append AreSaved (seats 0 ds ++ seats 1 ds) []
            (All-append AreSaved (seats 0 ds) (seats 1 ds) (saved_seats 0) (saved_seats 1)) (All-nil AreSaved));
        inputs = λ l o e.
            (let f : None ≡ Some o = sym (ap (λ (x : LinkEnd). x.input) (quiet l)) ∙ e in cc);
        inputs_apart = λ j a b o q e f.
            (let g : None ≡ Some o = sym (ap (λ (x : LinkEnd). x.input) (quiet a)) ∙ e in cc);
        outputs = λ k. refl;
        no_successor = λ k.
            ap awaits_successor (used_is k) ∙ no_successor (is_below plan (1 ∷ 2 ∷ 3 ∷ []) (most_neg + 4 * k));
      }

  not_engaged : (t : Bool) → cond t Saved Free ≡ Engaged → ⊥
  not_engaged true e = cc
  not_engaged false e = cc

  no_half : (q : Request) → IsHalf Nobody ≡ IsHalf (TakenBy q) → ⊥
  no_half q e = cc

  nobody_waits : (process : ℕ) (r : Reason) → reason_of m.control process ≡ Some r → ⊥
  nobody_waits process r e =
      let f : None ≡ Some r = subst (λ (c : Control). reason_of c process ≡ Some r) control_is e in cc

  channels : ShowsChannels s n (opened_name n ds) m
  channels =
      record {
        taken = λ channel side q e. absurd (no_half q e);
        halves = λ channel side. (Nobody, refl);
        waiting = λ process channel side buffer e. absurd (nobody_waits process _ e);
        engaged = λ k e.
            absurd (not_engaged (is_below plan (1 ∷ 2 ∷ 3 ∷ []) (most_neg + 4 * k)) (sym (used_is k) ∙ e));
      }

  not_copied : (l : ℕ) → was_copied (opening_node Processor m) l ≡ false
  not_copied zero = refl
  not_copied (suc zero) = refl
  not_copied (suc (suc zero)) = refl
  not_copied (suc (suc (suc zero))) = refl
  not_copied (suc (suc (suc (suc l)))) = refl

  link : (l : ℕ) → ShowsLink s n (opened_name n ds) (λ _. None) (opening_node Processor m) l
  link l =
      record {
        input = subst (λ (x : LinkEnd). IsInput (opened_name n ds) x.input (s (LinkHalf (end_at n l) Input)))
            (sym (quiet l)) (Empty, refl, refl);
        output = refl;
        unfinished = refl;
        offered = λ o e. (let f : None ≡ Some o = sym (ap (λ (x : LinkEnd). x.output) (quiet l)) ∙ e in cc);
        fresh = λ e. not_copied l;
        unnoticed = λ o e. ap (λ (x : LinkEnd). x.noticed) (quiet l);
        remembered = λ e. ap (λ (x : LinkEnd). x.remembered) (quiet l);
        forgotten = λ e. ap (λ (x : LinkEnd). x.remembered) (quiet l);
        fired = λ x e. absurd (not_fired e);
        pending = λ q e _. cc;
      }
    where
      not_fired : {x : Name} → IsLink Empty ≡ IsLink (Fired x) → ⊥
      not_fired e = cc

  nobody : {y : Name} → None ≡ Some y → ⊥
  nobody e = cc

  no_port : false ≡ true → ⊥
  no_port e = true≢false (sym e)

  -- no process has an alternative
  plain_stand : (x : Name) → (alternative_at s n x ≡ None) × (is_quiet (stand_in (s (Standing x))) ≡ true)
  plain_stand x = by (slice_get p.nodes x.node) refl
    where
      of : (o : Option Process) → (alternative_of (opened_stand o) ≡ None) × (is_quiet (opened_stand o) ≡ true)
      of None = (refl, refl)
      of (Some q) = (refl, refl)

      at_root : (root : Root) (path : List ℕ) (node : NodePlan)
          → (alternative_of (stand_of root path node) ≡ None) × (is_quiet (stand_of root path node) ≡ true)
      at_root (Image k) [] node = of (slice_get node.image.processes k)
      at_root (Image k) (i ∷ is) node = (refl, refl)
      at_root (After w i) path node = (refl, refl)

      by : (o : Option NodePlan) → slice_get p.nodes x.node ≡ o
          → (alternative_at s n x ≡ None) × (is_quiet (stand_in (s (Standing x))) ≡ true)
      by None e = rw (e, of_node, alternative_of, is_quiet) (refl, refl)
      by (Some node) e = rw (e, of_node, alternative_of, is_quiet) (at_root x.root x.path node)

  choices : (links : List LinkEnd) (store : Store) → ShowsChoices s n links store
  choices links store =
      record {
        choices = λ x a home e. absurd (differ (sym (plain_stand x).0 ∙ e));
        apart = λ x y a b home f e g i. absurd (differ (sym (plain_stand x).0 ∙ e));
        quiet = λ x home. (plain_stand x).1;
        owner = λ x d home e. absurd (no_port e);
        enabled = λ d x e. absurd (nobody e);
        linked = λ l x b e. absurd (nobody e);
      }
    where
      differ : {a : Alternative} → None ≡ Some a → ⊥
      differ e = cc

  pub node_shown : ShowsNode s n plan (opened_name n plan.image.processes) (λ _. None) (opening_node Processor m)
  node_shown =
      record {
        role = refl;
        works = refl;
        runs_on = ap (λ (c : Control). c.halted) control_is;
        size = b.ready.size;
        kind = ap (λ (c : Control). c.kind) control_is;
        store = λ k inside. record {
          word = opened_word plan (most_neg + 4 * k);
          is = word_is k;
          cells = word_known plan start m room b h k inside;
        };
        marks = marks;
        channels = channels;
        links = λ l _. link l;
        processes = processes_shown p n plan at timeslice start m b empty;
        choices = choices m.control.links m.store;
      }

-- loading changes no register and no queue
loaded_control : (ss : List Segment) (m : Machine)
    → (fold (λ m s. loaded s.address s.bytes m) m ss).control ≡ m.control
loaded_control [] m = refl
loaded_control (s ∷ ss) m = loaded_control ss (loaded s.address s.bytes m)

loaded_ready : (memory : ℕ) (ss : List Segment) (m : Machine) → IsReadyMachine memory 0 m
    → All (λ s. is_bad_segment memory s ≡ false) ss → All (λ s. IsWord s.address × AreBytes s.bytes) ss
    → IsReadyMachine memory 0 (fold (λ m s. loaded s.address s.bytes m) m ss)
loaded_ready memory [] m r good words = r
loaded_ready memory (s ∷ ss) m r good words =
    loaded_ready memory ss (loaded s.address s.bytes m)
    (is_ready_loaded memory 0 s.address s.bytes m r
    (All-head (λ s. IsWord s.address × AreBytes s.bytes) s ss words).1
    (good_segment memory s (All-head (λ s. is_bad_segment memory s ≡ false) s ss good)))
    (All-tail (λ s. is_bad_segment memory s ≡ false) s ss good)
    (All-tail (λ s. IsWord s.address × AreBytes s.bytes) s ss words)

module _ (timeslice : ℕ) (plan : NodePlan) (size : is_bad_size plan ≡ false) (segments : bad_segment plan ≡ None)
    (words : AreImageWords plan.image) where
  abbrev start : Machine
  start = loaded_machine timeslice plan

  good : All (λ s. is_bad_segment plan.memory s ≡ false) plan.image.segments
  good = no_position (λ s. is_bad_segment plan.memory s) plan.image.segments segments

  start_control : start.control ≡ no_processes timeslice plan.kind
  start_control = loaded_control plan.image.segments (empty_machine plan.memory timeslice plan.kind)

  start_holds : Holds (loaded_byte plan) plan.memory start.store
  start_holds =
      holds_all (λ _. 0) plan.memory plan.image.segments (empty_machine plan.memory timeslice plan.kind)
      (record {
        full = (is_ready_empty plan.memory timeslice plan.kind).size;
        cells = λ i inside. get_or-replicate plan.memory i (Some 0) None inside;
      }) good

  start_built : IsBuilt start plan.memory [] start
  start_built =
      record {
        control = start_control ∙ sym (ap (queued []) start_control);
        iptrs = All-nil _;
        others = λ i inside clear. refl;
        distinct = λ i j d below inside. absurd (omega (arith, inside));
        ready = loaded_ready plan.memory plan.image.segments (empty_machine plan.memory timeslice plan.kind)
            (record {
              size = (is_ready_empty plan.memory timeslice plan.kind).size;
              visible = (is_ready_empty plan.memory timeslice plan.kind).visible;
              placed = (is_ready_empty plan.memory timeslice plan.kind).placed;
            }) good words.segments;
      }

  pub all_built : bad_process timeslice plan ≡ None
      → IsBuilt start plan.memory plan.image.processes (opened_machine timeslice plan)
  all_built none = by (built_machine timeslice plan) refl none
    where
      by : (x : Result Machine (ℕ × Break)) → built_machine timeslice plan ≡ x
          → ◌≡◌ {A = Option (ℕ × Break)} (elim x [ Ok m ↦ None | Err fault ↦ Some fault ]) None
          → IsBuilt start plan.memory plan.image.processes (or_loaded start x)
      by (Ok m) e none =
          built_all start plan.memory (good_size plan size) 0 plan.image.processes [] start m words.processes
          start_built e
      by (Err fault) e none = cc

-- the processes of the image of a node, if the plan has the node
abbrev processes_at : Plan → ℕ → List Process
processes_at p n = of_node p n [] (λ plan. plan.image.processes)

-- each node of a plan without a fault
module _ (p : Plan) (none : fault_of p ≡ None) (words : ArePlanWords p) (n : ℕ) (plan : NodePlan)
    (at : slice_get p.nodes n ≡ Some plan) where
  faults : IsFaultless p
  faults = faultless p none

  inside : n < length p.nodes
  inside = slice_get_within p.nodes n plan at

  there : get_or p.nodes n plan ≡ plan
  there = get_or_from_slice_get p.nodes n plan plan at

  pub size_there : is_bad_size plan ≡ false
  size_there = subst (λ (x : NodePlan). is_bad_size x ≡ false) there (faults.sizes n plan inside)

  segments : bad_segment plan ≡ None
  segments = subst (λ (x : NodePlan). bad_segment x ≡ None) there (faults.segments n plan inside)

  processes : bad_process p.timeslice plan ≡ None
  processes = subst (λ (x : NodePlan). bad_process p.timeslice x ≡ None) there (faults.processes n plan inside)

  image : AreImageWords plan.image
  image = subst (λ (x : NodePlan). AreImageWords x.image) there (words.images n plan inside)

  pub built_there : IsBuilt (loaded_machine p.timeslice plan) plan.memory plan.image.processes
      (opened_machine p.timeslice plan)
  built_there = all_built p.timeslice plan size_there segments image processes

  pub start_there : (loaded_machine p.timeslice plan).control ≡ no_processes p.timeslice plan.kind
  start_there = start_control p.timeslice plan size_there segments image

  same : processes_at p n ≡ plan.image.processes
  same =
      of_node_is p n plan at p.timeslice (loaded_machine p.timeslice plan) (opened_machine p.timeslice plan) built_there
      start_there [] (λ q. q.image.processes)

  node_there : ShowsNode (opening_state p) n plan (opened_name n (processes_at p n)) (λ _. None)
      (opening_node Processor (opened_machine p.timeslice plan))
  node_there =
      subst (λ (qs : List Process). ShowsNode (opening_state p) n plan (opened_name n qs) (λ _. None)
      (opening_node Processor (opened_machine p.timeslice plan))) (sym same)
      (node_shown p n plan at p.timeslice (loaded_machine p.timeslice plan) (opened_machine p.timeslice plan)
      built_there start_there
      (good_size plan size_there) (start_holds p.timeslice plan size_there segments image))

  -- no byte was noticed
  pub nothing_noticed : (node : Node) → node_of (opening_configuration p) n ≡ Some node → (l : ℕ)
      → (link_end node.machine.control l).noticed ≡ false
  nothing_noticed node here l =
      ap (λ (x : Node). (link_end x.machine.control l).noticed) (some_is (sym here ∙ processor_there p n plan at))
      ∙ ap (λ (x : LinkEnd). x.noticed)
      (quiet p n plan at p.timeslice (loaded_machine p.timeslice plan) (opened_machine p.timeslice plan) built_there
      start_there (good_size plan size_there) (start_holds p.timeslice plan size_there segments image) l)
    where
      some_is : {a b : Node} → Some a ≡ Some b → a ≡ b
      some_is e = cc

-- where the plan has no node there is no process
nobody_there : (p : Plan) (x : Name) → slice_get p.nodes x.node ≡ None
    → opening_state p (Standing x) ≡ IsStand Absent
nobody_there p x none =
    ap (λ (o : Option NodePlan). IsStand (elim o as (λ _. Stand)
    [ Some q ↦ stand_of x.root x.path q | None ↦ Absent ])) none

-- the opening of each plan without a fault
pub opening_is_shown : OpeningIsShown
opening_is_shown p none words =
    record {
      named = λ n. opened_name n (processes_at p n);
      sent = λ n l. None;
      wires = refl;
      processors = λ n plan at. (
        opening_node Processor (opened_machine p.timeslice plan),
        processor_there p n plan at,
        node_there p none words n plan at,
      );
      sources = source_shown p;
      sinks = sink_shown p;
      noticed = λ n l plan node at here e.
          absurd (true≢false (sym e ∙ nothing_noticed p none words n plan at node here l));
      nobody = nobody_there p;
    }
