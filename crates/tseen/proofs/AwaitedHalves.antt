-- What is shown stays shown where a process that has enabled inputs of channels waits for them.
use Rattle.std.proofs.Common.{None, ◌<◌, List, Some, option_map}
use Rattle.tproc.specs.declared.waiter.LinkEnd.{LinkEnd}
use Rattle.tproc.specs.LinkChannels.{link_end, quiet_end}
use Rattle.tproc.specs.Channels.{ready}
use Rattle.tproc.specs.Queues.{state_word}
use Rattle.tword.specs.Words.{word_below}
use Rattle.tplan.specs.declared.plan.End.{End}
use Rattle.tlink.specs.Roles.{Processor}
use Rattle.tseen.specs.Halves.{ShowsLink}
use Rattle.tseen.specs.Words.{AreMarked, ShowsStore}
use Rattle.tword.specs.Stores.{Store, word_at}
use Rattle.tseen.specs.Choices.{ShowsChoices}
use Rattle.tprocesses.specs.Values.{amount_in}
use Rattle.std.proofs.Common.{◌≡◌, ℕ, refl, sym, ap, subst, ◌∙◌, Bool, true, false, length, ◌⊎◌, inl, inr, Option}
use Rattle.std.specs.Prelude.{◌+◌, slice_get, slice_index_or, option_and_then}
use Rattle.std.proofs.lemmas.Option.{IfSome_then}
use Rattle.std.proofs.lemmas.List.Elements.{All-contains}
use Rattle.tproc.specs.declared.channels.Side.{Side}
use Rattle.tproc.specs.declared.channels.Side.TheVariants.{Input, Output}
use Rattle.tproc.specs.Machine.{descheduled}
use Rattle.tplan.specs.declared.plan.NodePlan.{NodePlan}
use Rattle.tplan.specs.declared.plan.Plan.{Plan}
use Rattle.tplan.specs.Wires.{end_at}
use Rattle.tnet.specs.Rendezvous.{Node, Configuration, node_of}
use Rattle.tprocesses.specs.Places.{Place, Name, WordAt, Sending, Standing, Ports, Half, LinkHalf, Error, HaltOnError}
use Rattle.tprocesses.specs.Places.{Life, Messages, Kept, Population, HasRun, FlagChanged, Unfinished}
use Rattle.tprocesses.specs.Values.{Value, Holder, TakenBy, EnabledBy, AwaitedBy, Request, IsHalf, word_in, stand_in}
use Rattle.tprocesses.specs.Values.{half_in, ports_in}
use Rattle.tprocesses.specs.Choosing.{is_taken as is_taken_half, has_port}
use Rattle.tprocesses.specs.Machine.{awaits_successor, is_passable, Role, Processor as Computing, Source, Sink}
use Rattle.tprocesses.specs.Machine.{Nothing}
use Rattle.tprocesses.specs.Machine.{offer_place, role_at}
use Rattle.tseen.specs.Choices.{Alternative, alternative_of, alternative_at, is_quiet, enabler, enabler_at, enabler_on}
use Rattle.tseen.specs.Choices.{enables, is_sent, is_due, input_at, input_channel, unfired}
use Rattle.tseen.specs.Choices.{descriptor_at}
use Rattle.tseen.specs.Choices.{remembered_at, unready_word, IsReady, IsUnready, HasChoice, HasEnabled, IsEnabled}
use Rattle.tseen.specs.Choices.{IsEnabledLink}
use Rattle.tseen.specs.Seats.{Seat, is_taken}
use Rattle.tseen.specs.Outputs.{Pending}
use Rattle.tseen.specs.Words.{ShowsWord, AreSavedWords}
use Rattle.tseen.specs.Halves.{ShowsChannels, IsTakenHalf, HasHolder}
use Rattle.tcpu.specs.declared.registers.Registers.{Registers}
use Rattle.tseen.specs.Processes.{IsSeated, IsGone, HasFlags, KeepsFlags, ShowsProcesses, context_in}
use Rattle.tseen.specs.Shown.{ShowsNode, Shows, HasSender}
use Rattle.tseen.specs.Steps.{LeadsTo}
use Rattle.tseen.proofs.After.{State}
use Rattle.tseen.proofs.AwaitedLinks.{IsLinkAwaitedNow, enabler_still, unfired_still, awaited_still, fired_still}
use Rattle.tseen.proofs.AwaitedLinks.{input_still}
use Rattle.tseen.proofs.Staying.{saved_words_alike, marks_from}
use Rattle.tseen.proofs.ChoiceChanged.{due_same}
use Rattle.tseen.proofs.Choices.{ready_same, unready_same}
use Rattle.tseen.proofs.Nets.{source_stays, sink_stays}

-- the input of a channel or of a link
abbrev pub is_input_half : Place → Bool
is_input_half (Half n d Input) = true
is_input_half (LinkHalf e Input) = true
is_input_half _ = false

-- a half stays, or who has enabled it waits for it
abbrev pub IsAwaitedNow : Value → Value → Type 0
IsAwaitedNow v w = (w ≡ v) ⊎ ((x : Name) × (v ≡ IsHalf (EnabledBy x)) × (w ≡ IsHalf (AwaitedBy x)))

-- a state with the inputs of another
abbrev pub restored : State → State → State
restored s z (Half n d Input) = s (Half n d Input)
restored s z (LinkHalf e Input) = s (LinkHalf e Input)
restored s z q = z q

-- all that is shown of a node but its alternatives
pub record IsShownBeside (s : State) (n : ℕ) (plan : NodePlan) (named : Seat → Name) (sent : ℕ → Option Pending)
    (node : Node) : Type 0 where
  pub role : node.role ≡ Processor
  pub works : node.broken ≡ None
  pub runs_on : node.machine.control.halted ≡ false
  pub size : length node.machine.store ≡ plan.memory
  pub kind : node.machine.control.kind ≡ plan.kind
  pub store : ShowsStore s n node.machine.store plan.memory
  pub marks : AreMarked s n sent node.machine.control
  pub channels : ShowsChannels s n named node.machine
  pub links : (l : ℕ) → l < 4 → ShowsLink s n named sent node l
  pub processes : ShowsProcesses s n named sent node

beside : (s : State) (n : ℕ) (plan : NodePlan) (named : Seat → Name) (sent : ℕ → Option Pending) (node : Node)
    → ShowsNode s n plan named sent node → IsShownBeside s n plan named sent node
beside s n plan named sent node k =
    record {
      role = k.role;
      works = k.works;
      runs_on = k.runs_on;
      size = k.size;
      kind = k.kind;
      store = k.store;
      marks = k.marks;
      channels = k.channels;
      links = k.links;
      processes = k.processes;
    }

module _ (s s' : State) (same : (q : Place) → is_input_half q ≡ false → s' q ≡ s q)
    (awaited : (n d : ℕ) → IsAwaitedNow (s (Half n d Input)) (s' (Half n d Input))) where
  not_taken : (x : Name) (q : Request) → IsHalf (EnabledBy x) ≡ IsHalf (TakenBy q) → ⊥
  not_taken x q e = cc

  awaited_not_taken : (x : Name) (q : Request) → IsHalf (AwaitedBy x) ≡ IsHalf (TakenBy q) → ⊥
  awaited_not_taken x q e = cc

  module _ (n : ℕ) where
    -- halves that are taken, and who has enabled inputs
    taken_before : (d : ℕ) (side : Side) (q : Request) → s' (Half n d side) ≡ IsHalf (TakenBy q)
        → s (Half n d side) ≡ IsHalf (TakenBy q)
    taken_before d Output q e = sym (same (Half n d Output) refl) ∙ e
    taken_before d Input q e = by (awaited n d)
      where
        by : IsAwaitedNow (s (Half n d Input)) (s' (Half n d Input)) → s (Half n d Input) ≡ IsHalf (TakenBy q)
        by (inl f) = sym f ∙ e
        by (inr f) = absurd (awaited_not_taken f.0 q (sym f.2 ∙ e))

    taken_now : (d : ℕ) (side : Side) (q : Request) → s (Half n d side) ≡ IsHalf (TakenBy q)
        → s' (Half n d side) ≡ IsHalf (TakenBy q)
    taken_now d Output q e = same (Half n d Output) refl ∙ e
    taken_now d Input q e = by (awaited n d)
      where
        by : IsAwaitedNow (s (Half n d Input)) (s' (Half n d Input)) → s' (Half n d Input) ≡ IsHalf (TakenBy q)
        by (inl f) = f ∙ e
        by (inr f) = absurd (not_taken f.0 q (sym f.1 ∙ e))

    pub enabler_same : (d : ℕ) → enabler (half_in (s' (Half n d Input))) ≡ enabler (half_in (s (Half n d Input)))
    enabler_same d = by (awaited n d)
      where
        by : IsAwaitedNow (s (Half n d Input)) (s' (Half n d Input))
            → enabler (half_in (s' (Half n d Input))) ≡ enabler (half_in (s (Half n d Input)))
        by (inl f) = ap (λ (v : Value). enabler (half_in v)) f
        by (inr f) =
            ap (λ (v : Value). enabler (half_in v)) f.2 ∙ sym (ap (λ (v : Value). enabler (half_in v)) f.1)

    half_now : (d : ℕ) (side : Side) → (h : Holder) × (s (Half n d side) ≡ IsHalf h)
        → (h : Holder) × (s' (Half n d side) ≡ IsHalf h)
    half_now d Output h = (h.0, same (Half n d Output) refl ∙ h.1)
    half_now d Input h = by (awaited n d)
      where
        by : IsAwaitedNow (s (Half n d Input)) (s' (Half n d Input)) → (h : Holder) × (s' (Half n d Input) ≡ IsHalf h)
        by (inl f) = (h.0, f ∙ h.1)
        by (inr f) = (AwaitedBy f.0, f.2)

    module _ (plan : NodePlan) (named : Seat → Name) (sent : ℕ → Option Pending) (node : Node)
        (linked : (l : ℕ) → l < 4 → IsLinkAwaitedNow (link_end node.machine.control l).noticed
        (s (LinkHalf (end_at n l) Input)) (s' (LinkHalf (end_at n l) Input)))
        (k : IsShownBeside s n plan named sent node) where
      uses : (j : ℕ) → (word_in (s' (WordAt n j))).used ≡ (word_in (s (WordAt n j))).used
      uses j = ap (λ (v : Value). (word_in v).used) (same (WordAt n j) refl)

      taken_half : (d : ℕ) (side : Side) (q : Request) → IsTakenHalf s n named node.machine d side q
          → IsTakenHalf s' n named node.machine d side q
      taken_half d side q t =
          record {
            process = t.process;
            name = t.name;
            waits = t.waits;
            channel_word = t.channel_word;
            engaged = uses _ ∙ t.engaged;
            placed = t.placed;
          }

      holder : (d : ℕ) → HasHolder s n named d → HasHolder s' n named d
      holder d (inl (side, q, e)) = inl (side, q, taken_now d side q e)
      holder d (inr (x, e)) = inr (x, enabler_same d ∙ e)

      channels_now : ShowsChannels s' n named node.machine
      channels_now =
          record {
            taken = λ d side q e. taken_half d side q (k.channels.taken d side q (taken_before d side q e));
            halves = λ d side. half_now d side (k.channels.halves d side);
            waiting = λ process d side buffer e.
                taken_now d side _ (k.channels.waiting process d side buffer e);
            engaged = λ j e. (let f = k.channels.engaged j (sym (uses j) ∙ e) in (f.0, f.1, holder f.0 f.2));
          }

      gone_now : (x : Name) → IsGone s n x → IsGone s' n x
      gone_now x (inl e) = inl (same (Standing x) refl ∙ e)
      gone_now x (inr e) = inr (same (Standing x) refl ∙ e)

      seated_now : (q : Seat) (x : Name) → IsSeated s n node q x → IsSeated s' n node q x
      seated_now q x h =
          record {
            home = h.home;
            stand = h.stand;
            stands = same (Standing x) refl ∙ h.stands;
            fits = h.fits;
            has_run = IfSome_then (context_in h.stand) h.has_run (λ c e. same (HasRun n c.priority) refl ∙ e);
          }

      keeps_before : KeepsFlags s' n → KeepsFlags s n
      keeps_before h =
          rw (
            sym (same (FlagChanged n) refl),
            sym (same (HasRun n 0) refl),
            sym (same (HasRun n 1) refl),
          ) h

      flags_now : (r : Registers) → HasFlags s n r → HasFlags s' n r
      flags_now r f =
          record {
            error = same (Error n) refl ∙ f.error;
            halting = same (HaltOnError n) refl ∙ f.halting;
          }

      processes_now : ShowsProcesses s' n named sent node
      processes_now =
          record {
            seated = λ q h. seated_now q (named q) (k.processes.seated q h);
            there = λ x h. there x (k.processes.there x h);
            lent = λ x c t h e l. k.processes.lent x c t h (sym (same (Standing x) refl) ∙ e) l;
            passed = λ l p e h. (let f = k.processes.passed l p e h in
                (f.0, f.1, same (Standing p.request.process) refl ∙ f.2, f.3));
            lives = λ w. same (Life n w) refl ∙ k.processes.lives w;
            population = (
              k.processes.population.0,
              same (Population n) refl ∙ k.processes.population.1,
              k.processes.population.2,
            );
            interrupting = IfSome_then node.machine.control.interrupted k.processes.interrupting
                (λ t e. same (HasRun n 0) refl ∙ e);
            flags = λ h. flags_now node.machine.control.registers (k.processes.flags (keeps_before h));
            kept_flags = λ h. IfSome_then node.machine.control.interrupted (k.processes.kept_flags (keeps_before h))
                (λ t f. flags_now t.registers f);
          }
        where
          there : (x : Name)
              → IsGone s n x ⊎ ((q : Seat) × (is_taken node.machine.control q ≡ true) × (named q ≡ x))
              → IsGone s' n x ⊎ ((q : Seat) × (is_taken node.machine.control q ≡ true) × (named q ≡ x))
          there x (inl g) = inl (gone_now x g)
          there x (inr q) = inr q

      remembered_still : (l : ℕ) → l < 4 → (link_end node.machine.control l).noticed ≡ false
          → remembered_at s' n l ≡ remembered_at s n l
      remembered_still l b e =
          ap (option_and_then (descriptor_at s' n)) (unfired_still _ _ _ e (linked l b))
          ∙ by (unfired (input_at s n l))
        where
          by : (o : Option Name) → option_and_then (descriptor_at s' n) o ≡ option_and_then (descriptor_at s n) o
          by None = refl
          by (Some x) =
              ap (λ (v : Value). option_map (λ (a : Alternative). a.wptr + a.priority) (alternative_of (stand_in v)))
              (same (Standing x) refl)

      link_now : (l : ℕ) → l < 4 → ShowsLink s n named sent node l → ShowsLink s' n named sent node l
      link_now l b h =
          record {
            input = input_still _ _ _ named (link_end node.machine.control l).input h.input (linked l b);
            output = same (LinkHalf (end_at n l) Output) refl ∙ h.output;
            unfinished = same (Unfinished (end_at n l)) refl ∙ h.unfinished;
            offered = h.offered;
            fresh = h.fresh;
            unnoticed = h.unnoticed;
            remembered = λ e. h.remembered e ∙ sym (remembered_still l b e);
            forgotten = h.forgotten;
            fired = λ x e. fired_still _ _ _ x e (h.fired x) (linked l b);
            pending = h.pending;
          }

      pub node_awaits : ShowsChoices s' n node.machine.control.links node.machine.store
          → ShowsNode s' n plan named sent node
      node_awaits choices =
          record {
            role = k.role;
            works = k.works;
            runs_on = k.runs_on;
            size = k.size;
            kind = k.kind;
            store = λ j h. subst (ShowsWord node.machine.store j) (sym (same (WordAt n j) refl)) (k.store j h);
            marks = marks_from s s' n sent sent node.machine.control node.machine.control
                (λ v h. saved_words_alike s s' n v (same (WordAt n _) refl) (same (WordAt n _) refl)
                (same (WordAt n _) refl)
                (All-contains (AreSavedWords s n) (descheduled node.machine.control) v k.marks.saved h)) (λ l. refl)
                (λ j e. uses j ∙ e) (λ j. same (Sending n j) refl ∙ k.marks.outputs j)
                (λ j. ap awaits_successor (uses j) ∙ k.marks.no_successor j) k.marks;
            channels = channels_now;
            links = λ l b. link_now l b (k.links l b);
            processes = processes_now;
            choices = choices;
          }

    pub held : (d : ℕ) (x : Name) → half_in (s (Half n d Input)) ≡ AwaitedBy x
        → IsAwaitedNow (s (Half n d Input)) (s' (Half n d Input)) → half_in (s' (Half n d Input)) ≡ AwaitedBy x
    held d x e (inl f) = ap half_in f ∙ e
    held d x e (inr f) = absurd (differ (sym (ap half_in f.1) ∙ e))
      where
        differ : EnabledBy f.0 ≡ AwaitedBy x → ⊥
        differ g = cc

    -- and its alternatives
    module _ (links : List LinkEnd) (store : Store) (linked : (l : ℕ) → l < 4 → IsLinkAwaitedNow
        (slice_index_or links l quiet_end).noticed (s (LinkHalf (end_at n l) Input)) (s' (LinkHalf (end_at n l) Input)))
        (k : ShowsChoices s n links store) where
      stands : (x : Name) → alternative_at s' n x ≡ alternative_at s n x
      stands x = ap (λ (v : Value). alternative_of (stand_in v)) (same (Standing x) refl)

      enables_same : (x : Name) (d : ℕ) → enables s' n x d ≡ enables s n x d
      enables_same x d = ap (λ (v : Value). has_port d (ports_in v)) (same (Ports x) refl)

      on_same : (l : ℕ) → l < 4 → enabler_on s' n l ≡ enabler_on s n l
      on_same l b = enabler_still _ _ _ (linked l b)

      sent_same : (d : ℕ) → is_sent s' n d ≡ is_sent s n d
      sent_same d = ap (λ (v : Value). is_taken_half (half_in v)) (same (Half n d Output) refl)

      due : (x : Name) (d : ℕ) → enables s n x d ≡ true → is_due s' n links d ≡ is_due s n links d
      due x d e = due_same s s' n links (λ i. same (Half n i Output) refl) d

      choice : (x : Name) (a : Alternative) → HasChoice s n links store x a → HasChoice s' n links store x a
      choice x a c =
          record {
            small = c.small;
            placed = c.placed;
            used = ap (λ (v : Value). (word_in v).used) (same (WordAt n _) refl) ∙ c.used;
            unseen = ap (λ (v : Value). (word_in v).cells) (same (WordAt n _) refl) ∙ c.unseen;
            unsent = ap amount_in (same (Sending n _) refl) ∙ c.unsent;
            state = by c.state;
            unready = λ e. unready_same s s' n links links x (same (Ports x) refl) (due x) a.skips (c.unready e);
          }
        where
          by : ((word_at store (word_below a.wptr state_word) ≡ ready) × IsReady s n links x a.skips)
              ⊎ ((word_at store (word_below a.wptr state_word) ≡ unready_word a.waits)
              × IsUnready s n links x a.skips)
              → ((word_at store (word_below a.wptr state_word) ≡ ready) × IsReady s' n links x a.skips)
              ⊎ ((word_at store (word_below a.wptr state_word) ≡ unready_word a.waits)
              × IsUnready s' n links x a.skips)
          by (inl (e, f)) = inl (e, ready_same s s' n links links x (same (Ports x) refl) (due x) a.skips f)
          by (inr (e, f)) = inr (e, unready_same s s' n links links x (same (Ports x) refl) (due x) a.skips f)

      has_enabled : (d : ℕ) (x : Name) → HasEnabled s n d x → HasEnabled s' n d x
      has_enabled d x (inl (internal, e)) = inl (internal, enabler_same d ∙ e)
      has_enabled d x (inr (l, b, is, e)) = inr (l, b, is, on_same l b ∙ e)

      enabled : (d : ℕ) (x : Name) → enabler_at s' n d ≡ Some x → IsEnabled s' n store d x
      enabled d x e =
          let old : IsEnabled s n store d x = k.enabled d x (sym (enabler_same d) ∙ e) in
          record {
            internal = old.internal;
            home = old.home;
            port = enables_same x d ∙ old.port;
            placed = old.placed;
            engaged = ap (λ (v : Value). (word_in v).used) (same (WordAt n _) refl) ∙ old.engaged;
            names = λ f a g. old.names (sym (sent_same d) ∙ f) a (sym (stands x) ∙ g);
            awaited = λ a g f. held d x (old.awaited a (sym (stands x) ∙ g) f) (awaited n d);
          }

      enabled_link : (l : ℕ) (x : Name) → l < 4 → enabler_on s' n l ≡ Some x → IsEnabledLink s' n l x
      enabled_link l x b e =
          let old : IsEnabledLink s n l x = k.linked l x b (sym (on_same l b) ∙ e) in
          record {
            home = old.home;
            port = enables_same x (input_channel l) ∙ old.port;
            awaited = λ a g f. awaited_still _ _ _ x (old.awaited a (sym (stands x) ∙ g) f) (linked l b);
          }

      choices_await : ShowsChoices s' n links store
      choices_await =
          record {
            choices = λ x a home e. choice x a (k.choices x a home (sym (stands x) ∙ e));
            apart = λ x y a b f g d e i. k.apart x y a b f g (sym (stands x) ∙ d) (sym (stands y) ∙ e) i;
            quiet = λ x home. ap (λ (v : Value). is_quiet (stand_in v)) (same (Standing x) refl) ∙ k.quiet x home;
            owner = λ x d home e. (let o = k.owner x d home (sym (enables_same x d) ∙ e) in
                (o.0, stands x ∙ o.1, has_enabled d x o.2));
            enabled = enabled;
            linked = enabled_link;
          }

  -- so what is shown of a net
  sender_still : (p : Plan) (e : End) → HasSender p s e → HasSender p s' e
  sender_still p e h =
      record {
        from = h.from;
        joined = h.joined;
        sends = ap (is_passable (offers h.from)) (offer_stays (role_at p h.from.node) h.from) ∙ h.sends;
      }
    where
      offers : End → Place
      offers f = offer_place (role_at p f.node) f

      offer_stays : (r : Role) (f : End) → s' (offer_place r f) ≡ s (offer_place r f)
      offer_stays Source f = same _ refl
      offer_stays Computing f = same _ refl
      offer_stays Sink f = same _ refl
      offer_stays Nothing f = same _ refl

  -- the inputs of links are those of a configuration
  abbrev pub AreLinksOf : Plan → Configuration → Type 0
  AreLinksOf p c =
      (n l : ℕ) (plan : NodePlan) (node : Node) → l < 4 → slice_get p.nodes n ≡ Some plan → node_of c n ≡ Some node
      → IsLinkAwaitedNow (link_end node.machine.control l).noticed (s (LinkHalf (end_at n l) Input))
      (s' (LinkHalf (end_at n l) Input))

  shows_awaits : (p : Plan) (c : Configuration) → AreLinksOf p c → Shows p c s → Shows p c s'
  shows_awaits p c linked k =
      record {
        named = k.named;
        sent = k.sent;
        wires = k.wires;
        processors = λ n plan is. (let old = k.processors n plan is in (
          old.0,
          old.1,
          node_awaits n plan (k.named n) (k.sent n) old.0 (λ l b. linked n l plan old.0 b is old.1)
              (beside s n plan (k.named n) (k.sent n) old.0 old.2)
              (choices_await n old.0.machine.control.links old.0.machine.store
              (λ l b. linked n l plan old.0 b is old.1) old.2.choices),
        ));
        sources = λ j source is. (let old = k.sources j source is in (
          old.0,
          old.1,
          source_stays s s' (end_at (length p.nodes + j) 0) old.0
              (same (Messages (end_at (length p.nodes + j) 0)) refl) old.2,
        ));
        sinks = λ j sink is. (let old = k.sinks j sink is in (
          old.0,
          old.1,
          sink_stays s s' (end_at (length p.nodes + length p.sources + j) 0) old.0
              (same (Kept (end_at (length p.nodes + length p.sources + j) 0)) refl)
              (same (LinkHalf (end_at (length p.nodes + length p.sources + j) 0) Output) refl) old.2,
        ));
        noticed = λ n l plan node planned here e. sender_still p (end_at n l) (k.noticed n l plan node planned here e);
        nobody = λ x none. same (Standing x) refl ∙ k.nobody x none;
      }

  pub leads_awaits : (p : Plan) (c : Configuration) (n : ℕ) (k : LeadsTo p c n s) → AreLinksOf p k.configuration
      → LeadsTo p c n s'
  leads_awaits p c n k linked =
      record {
        configuration = k.configuration;
        local = k.local;
        shows = shows_awaits p k.configuration linked k.shows;
      }
