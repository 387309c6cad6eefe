-- A node after a byte was noticed at one of its links, where no process was queued: it is shown by the same state.
use Rattle.std.proofs.Common.{◌≡◌, ℕ, ◌+◌, ◌<◌, ◌/◌, refl, sym, ap, subst, ◌∙◌, true, false}
use Rattle.std.proofs.Common.{length, get_or, Contains, Option, None, ◌⊎◌, inl, inr}
use Rattle.std.specs.Prelude.{IfSome}
use Rattle.std.proofs.lemmas.Option.{IfSome_then}
use Rattle.tword.specs.Words.{most_neg, word_below}
use Rattle.tword.specs.Stores.{Store, word_at}
use Rattle.tword.specs.Claims.{Claims, is_input}
use Rattle.tword.specs.Touches.{word_place_break, byte_span}
use Rattle.tproc.specs.declared.channels.Side.TheVariants.{Input}
use Rattle.tproc.specs.declared.offer.Offer.{Offer}
use Rattle.tproc.specs.Hidden.{hidden}
use Rattle.tproc.specs.LinkChannels.{link_end}
use Rattle.tproc.specs.Machine.{Control, Machine, claims_of, descheduled, workspace_of}
use Rattle.tproc.specs.Placement.{IsBuffer}
use Rattle.tproc.specs.Queues.{iptr_word}
use Rattle.tproc.proofs.LinkClaims.{noticing, noticing-claims}
use Rattle.tplan.specs.declared.plan.NodePlan.{NodePlan}
use Rattle.tplan.specs.Wires.{end_at}
use Rattle.tnet.specs.Rendezvous.{Node}
use Rattle.tprocesses.specs.Places.{Name, LinkHalf}
use Rattle.tprocesses.specs.Values.{Link, Engaged, Receiving, IsLink}
use Rattle.tprocesses.specs.Machine.{is_offered}
use Rattle.tseen.specs.Seats.{Seat, Current, Interrupted, Queued, Waiting, is_taken}
use Rattle.tseen.specs.Outputs.{Pending}
use Rattle.tseen.specs.Words.{use_at}
use Rattle.tseen.specs.Choices.{ShowsChoices}
use Rattle.tseen.specs.Halves.{IsInput}
use Rattle.tseen.specs.Processes.{IsSeated, IsGone, ShowsProcesses}
use Rattle.tseen.specs.Shown.{ShowsNode}
use Rattle.tseen.specs.Steps.{IsSteady}
use Rattle.tseen.proofs.After.{State}
use Rattle.tseen.proofs.Cells.{use_of, Tells, shows_from}
use Rattle.tseen.proofs.Counted.{waits_descheduled, queued_descheduled}
use Rattle.tseen.proofs.NoticedLinks.{input_stays, links_noticed}
use Rattle.tseen.proofs.Others.{queued_stays, waiting_stays, interrupted_stays}
use Rattle.tseen.proofs.Receives.{input_receives}
use Rattle.tseen.proofs.Receiving.{hidden_by, none_where_hidden}
use Rattle.tseen.proofs.Staying.{channels_stay}

module _ (s : State) (n : ℕ) (plan : NodePlan) (named : Seat → Name) (sent : ℕ → Option Pending) (node : Node)
    (shown : ShowsNode s n plan named sent node) (steady : IsSteady node) (l : ℕ) (small : l < 4)
    (no_input : (link_end node.machine.control l).input ≡ None) where
  abbrev m : Machine
  m = node.machine

  abbrev store : Store
  store = node.machine.store

  abbrev now : Control
  now = (noticing l node.machine).control

  abbrev pub noticed_node : Store → Node
  noticed_node store' = record node { machine = record { control = (noticing l node.machine).control; store = store' } }

  -- what its store has to keep
  pub record KeepsStore (store' : Store) : Type 0 where
    pub size : length store' ≡ length store
    pub tells : Tells s n plan.memory store'
    pub words : (d : ℕ) → word_place_break (length store) d ≡ None → use_at s n d ≡ Engaged
        → word_at store' d ≡ word_at store d
    pub iptrs : (v : ℕ) → Contains (descheduled m.control) v
        → word_at store' (word_below v iptr_word) ≡ word_at store (word_below v iptr_word)
    pub received : (i : ℕ) → use_of s n (i / 4) ≡ Receiving → get_or store' i None ≡ get_or store i None
    pub choices : ShowsChoices s n now.links store'

  within : l < length m.control.links
  within = subst (λ z. l < z) (sym steady.placed.claimed.links) small

  buffers : (j : ℕ) → IfSome (link_end m.control j).input (IsBuffer (length store))
  buffers j = IfSome_then (link_end m.control j).input (steady.placed.claimed.inputs j) (λ o h. h.1)

  -- what stands at the input of the link
  own : (h : Link) × (s (LinkHalf (end_at n l) Input) ≡ IsLink h) × (is_offered h ≡ false)
  own =
      subst (λ (o : Option Offer). IsInput named o (s (LinkHalf (end_at n l) Input))) no_input
      (shown.links l small).input

  module _ (store' : Store) (k : KeepsStore store') where
    abbrev node' : Node
    node' = noticed_node store'

    seated : (q : Seat) → is_taken m.control q ≡ true → IsSeated s n node q (named q) → IsSeated s n node' q (named q)
    seated Current taken h =
        record { home = h.home; stand = h.stand; stands = h.stands; fits = h.fits; has_run = h.has_run }
    seated Interrupted taken h = interrupted_stays n s s (λ q. refl) node node' (named Interrupted) refl refl h
    seated (Queued b) taken h =
        queued_stays n s s (λ q. refl) node node' b (named (Queued b)) refl
        (k.iptrs (workspace_of b) (queued_descheduled m.control b taken)) h
    seated (Waiting b) taken h =
        waiting_stays n s s (λ q. refl) node node' b (named (Waiting b)) refl (λ e. e) (λ e. e)
        (k.iptrs (workspace_of b) (waits_descheduled m.control b taken)) h

    taken_before : (q : Seat) → is_taken now q ≡ true → is_taken m.control q ≡ true
    taken_before Current h = h
    taken_before Interrupted h = h
    taken_before (Queued process) h = h
    taken_before (Waiting process) h = h

    taken_now : (q : Seat) → is_taken m.control q ≡ true → is_taken now q ≡ true
    taken_now Current h = h
    taken_now Interrupted h = h
    taken_now (Queued process) h = h
    taken_now (Waiting process) h = h

    processes_now : ShowsProcesses s n named sent node'
    processes_now =
        record {
          seated = λ q h. seated q (taken_before q h) (shown.processes.seated q (taken_before q h));
          there = λ x h. place x (shown.processes.there x h);
          lent = shown.processes.lent;
          passed = shown.processes.passed;
          lives = shown.processes.lives;
          population = shown.processes.population;
          interrupting = shown.processes.interrupting;
          flags = shown.processes.flags;
          kept_flags = shown.processes.kept_flags;
        }
      where
        place : (x : Name) → IsGone s n x ⊎ ((q : Seat) × (is_taken m.control q ≡ true) × (named q ≡ x))
            → IsGone s n x ⊎ ((q : Seat) × (is_taken now q ≡ true) × (named q ≡ x))
        place x (inl h) = inl h
        place x (inr (q, taken, e)) = inr (q, taken_now q taken, e)

    inputs : (j : ℕ) → (link_end now j).input ≡ (link_end m.control j).input
    inputs = input_stays s s n l named named sent node node' refl within

    pub noticed_shown : ShowsNode s n plan named sent (noticed_node store')
    noticed_shown =
        record {
          role = shown.role;
          works = shown.works;
          runs_on = shown.runs_on;
          size = k.size ∙ shown.size;
          kind = shown.kind;
          store = shows_from s n plan.memory store' k.tells;
          marks = record {
            saved = shown.marks.saved;
            inputs = λ j o e. shown.marks.inputs j o (sym (inputs j) ∙ e);
            inputs_apart = λ i a b o q e f.
                shown.marks.inputs_apart i a b o q (sym (inputs a) ∙ e) (sym (inputs b) ∙ f);
            outputs = shown.marks.outputs;
            no_successor = shown.marks.no_successor;
          };
          channels = channels_stay s s n named named m node'.machine (λ w. refl) (λ j e. e) (λ j e. e) (λ c side. refl)
              (λ q. refl) k.size k.words shown.channels;
          links = λ j b. links_noticed s s n l named named sent node node' refl within (λ w. refl) (λ i. refl) no_input
              (λ i. refl) (λ i. refl) (λ i d. refl) own (λ i d y e. refl) j b (shown.links j b);
          processes = processes_now;
          choices = k.choices;
        }

    -- nothing else is hidden
    pub still_hidden : hidden (noticed_node store').machine ≡ (noticed_node store').machine
    still_hidden =
        ap (λ (z : Store). record { control = now; store = z })
        (hidden_by now store' (λ i h.
        let before : is_input (claims_of m.control) (byte_span (most_neg + i)) ≡ true =
        ap (λ (c : Claims). is_input c (byte_span (most_neg + i))) (sym (noticing-claims l m)) ∙ h in
        k.received i (input_receives s n sent m.control (length store) buffers shown.marks i before)
        ∙ none_where_hidden m.control store (ap (λ (z : Machine). z.store) steady.hides) i before))
