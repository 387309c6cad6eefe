-- A process sends on a channel for which another one waits: what this leads to is shown after the step of the channel.
use Rattle.std.proofs.Common.{◌≡◌, ◌≢◌, ℕ, ◌+◌, ◌*◌, ◌≤◌, ◌/◌, refl, sym, ap, subst, ◌∙◌, true, false}
use Rattle.std.proofs.Common.{true≢false, length, get_or, Contains, AllPairs, List, [], ◌∷◌, ◌++◌, Option, Some, None}
use Rattle.std.proofs.Common.{arith, ◌⊎◌, inl, inr}
use Rattle.std.specs.Prelude.{IfSome, is_some}
use Rattle.std.proofs.lemmas.Bool.{eqb-true, ne_eqb, cases_eq}
use Rattle.std.proofs.Common.{◌<◌}
use Rattle.std.proofs.lemmas.List.Elements.{All-contains, Contains-push_cases}
use Rattle.tword.specs.Words.{most_neg, word_below}
use Rattle.tword.specs.Stores.{Store, place, word_at}
use Rattle.tword.specs.Touches.{word_place_break}
use Rattle.tproc.specs.declared.channels.Side.TheVariants.{Input, Output}
use Rattle.tproc.specs.declared.ran.Ran.TheVariants as ran
use Rattle.tproc.specs.Hidden.{hidden}
use Rattle.tproc.specs.Machine.{Control, Machine, descheduled, workspace_of, priority_of}
use Rattle.tproc.specs.Placement.{IsWorkspace, IsWord as IsMachineWord}
use Rattle.tproc.specs.Queues.{iptr_word}
use Rattle.tproc.specs.SavedWords.{WordStands, SavedStand}
use Rattle.tproc.proofs.Occurs.{occurs, occurs-append, occurring_once, occurs-contains, pairs_from, same_once}
use Rattle.tproc.proofs.Occurs.{other_never}
use Rattle.tproc.proofs.SavedWords.{saved_words_stand}
use Rattle.tproc.proofs.WordsApart.{LiesWord, length-with_word, other_word}
use Rattle.tplan.specs.declared.plan.Plan.{Plan}
use Rattle.tnet.specs.Rendezvous.{Node, Configuration}
use Rattle.tprocesses.specs.Places.{Place, Name, WordAt, Standing, Half, HasRun, LinkHalf}
use Rattle.tprocesses.specs.Values.{Value, Use, Free, Saved, Receiving, Engaged, Context, Stand, Chooses}
use Rattle.tprocesses.specs.Values.{AwaitedBy, IsStand, IsFlag, word_in, stand_in, half_in}
use Rattle.tprocesses.specs.Touching.{Site, word_number}
use Rattle.tprocesses.specs.Machine.{site_of}
use Rattle.tseen.specs.Seats.{Seat}
use Rattle.tseen.specs.Words.{is_set_aside}
use Rattle.tseen.specs.Choices.{Alternative, alternative_of, is_quiet, enabler, enabler_at}
use Rattle.tseen.specs.Processes.{context_in}
use Rattle.tseen.specs.Shown.{ShowsNode}
use Rattle.tseen.specs.Steps.{IsCurrent, LeadsTo}
use Rattle.tseen.proofs.After.{State}
use Rattle.tseen.proofs.Adding.{last_descheduled}
use Rattle.tseen.proofs.Built.{lies_below}
use Rattle.tseen.proofs.Cells.{use_of, Tells, shows_from}
use Rattle.tseen.proofs.Choices.{lasting_not_saved, lasting_not_free}
use Rattle.tseen.proofs.ChosenShown.{IsLetGo, processes_chosen, channels_chosen, link_chosen, marks_chosen}
use Rattle.tseen.proofs.ChosenShown.{named' as renamed_to}
use Rattle.tseen.proofs.Enabler.{theirs, theirs_is, other, address, it, apart, workspace, priority, state_not}
use Rattle.tseen.proofs.Enabler.{IsChoosing, sends}
use Rattle.tseen.proofs.Exchanged.{linked}
use Rattle.tseen.proofs.Finished.{is_stand_of}
use Rattle.tseen.proofs.FirstWords.{unfree_stays, engaged_was, desch_now, hidden_with, marks_now}
use Rattle.tseen.proofs.Frames.{node_at}
use Rattle.tseen.proofs.HalfShown.{named', node', processes_now, channels_now, links_now, elsewhere, reason_other}
use Rattle.tseen.proofs.HalfShown.{name_other, iptr_stays}
use Rattle.tseen.proofs.HalfTaken.{is_half_of}
use Rattle.tseen.proofs.LetGo.{HasBeenLet}
use Rattle.tseen.proofs.OfferChoices.{HasSent, sent_choices}
use Rattle.tseen.proofs.OfferShown.{alone, has_sent}
use Rattle.tseen.proofs.OfferWords.{readied, readied_laid, readied_received, ready_there, others_stay, lies_there, last}
use Rattle.tseen.proofs.OfferWords.{released_control, is_there, two, waiting_steps}
use Rattle.tseen.proofs.Others.{saved_stays}
use Rattle.tseen.proofs.Partner.{sides_apart}
use Rattle.tseen.proofs.Running.{RunsThere}
use Rattle.tseen.proofs.Saving.{below}
use Rattle.tseen.proofs.SetUnknown.{set_unknown, tells_alike}
use Rattle.tseen.proofs.Spans.{word_placed}
use Rattle.tseen.proofs.Staying.{used_two, unknown_two}
use Rattle.tseen.proofs.Stepped.{shown_node, there, leads_there}
use Rattle.tseen.proofs.Taken.{HasTaken, saved_of, first_free, is_new, not_aside}
use Rattle.tseen.proofs.TakenWords.{at, lies_one}
use Rattle.tseen.proofs.Writing.{word_lies}
use Rattle.tseen.proofs.Yielding.{other_cell_stays}
use Rattle.tplan.specs.Wires.{end_at}
use Rattle.tseen.proofs.NoticedOffers.{outputs_stay}

module _ (p : Plan) (c : Configuration) (s : State) (n : ℕ) (x : Name) (k : IsCurrent p c s n x) (v : State)
    (h : HasTaken p c s n x k v) (y : Name) (enabled : enabler_at s n k.node.machine.control.registers.b ≡ Some y)
    (q : IsChoosing p c s n x k v h y enabled) where
  abbrev m : Control
  m = k.node.machine.control

  abbrev store : Store
  store = k.node.machine.store

  abbrev site : Site
  site = site_of n k.plan

  abbrev running : RunsThere s n k.plan k.node x
  running = there p c s n x k

  abbrev shown : ShowsNode s n k.plan (k.shows.named n) (k.shows.sent n) k.node
  shown = shown_node p c s n x k

  abbrev channel : ℕ
  channel = m.registers.b

  abbrev w : ℕ
  w = m.registers.wptr

  abbrev old : Alternative
  old = theirs p c s n x k v h y enabled

  abbrev waiter : ℕ
  waiter = other p c s n x k v h y enabled

  abbrev state : ℕ
  state = address p c s n x k v h y enabled

  abbrev d : Context
  d = q.context

  abbrev before : Store
  before = readied p c s n x k v h y enabled

  abbrev behind : Option ℕ
  behind = last p c s n x k v h y enabled

  -- the store after the step: the last of the queue is linked to the process
  abbrev after : Store
  after = linked before behind (workspace_of waiter)

  abbrev middle : Node
  middle = node' p c s n x k v h before (readied_laid p c s n x k v h y enabled) (alone p c s n x k v h y enabled)

  abbrev named_then : Seat → Name
  named_then =
      named' p c s n x k v h before (readied_laid p c s n x k v h y enabled) (alone p c s n x k v h y enabled)

  before_size : length before ≡ k.plan.memory
  before_size = (readied_laid p c s n x k v h y enabled).tells.length

  behind_there : (b : ℕ) → behind ≡ Some b → Contains (descheduled m) b
  behind_there b e = last_descheduled m (priority_of waiter) b e

  link_saved : (b : ℕ) → Contains (descheduled m) b → use_of s n (below b 2) ≡ Saved
  link_saved b inside = used_two s n b (saved_of p c s n x k v h b inside)

  lies_link : (b : ℕ) → Contains (descheduled m) b → LiesWord k.plan.memory (word_below b 2)
  lies_link b inside =
      subst (λ l. LiesWord l (word_below b 2)) shown.size
      (lies_below (length store) b 2 k.steady.placed.claimed.size
      (All-contains (IsWorkspace (length store)) (descheduled m) b k.steady.placed.claimed.saved inside)
      (All-contains IsMachineWord (descheduled m) b k.steady.placed.workspaces inside) (omega arith, omega arith))

  -- a word that was no saved word
  linked_word : (a : ℕ) → LiesWord k.plan.memory a → (use_of s n (word_number a) ≡ Saved → ⊥)
      → word_at after a ≡ word_at before a
  linked_word a l unsaved = by behind refl
    where
      by : (o : Option ℕ) → behind ≡ o → word_at (linked before o (workspace_of waiter)) a ≡ word_at before a
      by None e = refl
      by (Some b) e =
          let inside : Contains (descheduled m) b = behind_there b e in
          other_word before (word_below b 2) (workspace_of waiter) a
          (subst (λ z. LiesWord z (word_below b 2)) (sym before_size) (lies_link b inside))
          (subst (λ z. LiesWord z a) (sym before_size) l)
          (λ f. unsaved (subst (λ z. use_of s n (word_number z) ≡ Saved) f (link_saved b inside)))

  linked_cell : (i : ℕ) → (use_of s n (i / 4) ≡ Saved → ⊥) → get_or after i None ≡ get_or before i None
  linked_cell i unsaved = by behind refl
    where
      by : (o : Option ℕ) → behind ≡ o
          → get_or (linked before o (workspace_of waiter)) i None ≡ get_or before i None
      by None e = refl
      by (Some b) e =
          let inside : Contains (descheduled m) b = behind_there b e in
          other_cell_stays before (word_below b 2) (workspace_of waiter) i
          (subst (λ z. LiesWord z (word_below b 2)) (sym before_size) (lies_link b inside))
          (λ f. unsaved (ap (use_of s n) f ∙ link_saved b inside))

  linked_size : length after ≡ k.plan.memory
  linked_size = by behind refl
    where
      by : (o : Option ℕ) → behind ≡ o → length (linked before o (workspace_of waiter)) ≡ k.plan.memory
      by None e = before_size
      by (Some b) e =
          length-with_word before (word_below b 2) (workspace_of waiter) 0
          (subst (λ z. LiesWord z (word_below b 2)) (sym before_size) (lies_link b (behind_there b e))) ∙ before_size

  lies_at : (a : ℕ) → word_place_break k.plan.memory a ≡ None → LiesWord k.plan.memory a
  lies_at a there =
      let l : (place a ≡ 4 * word_number a) × (most_neg ≤ a) × (4 * word_number a + 4 ≤ k.plan.memory) =
      word_lies site running.whole a there in
      record {
        above = l.1;
        within = omega (arith, l.0, l.1, l.2);
        aligned = eqb-true _ _ (word_placed k.plan.memory a there).0;
      }

  -- the machine after the step
  abbrev now : Machine
  now = record { control = released_control p c s n x k v h y enabled; store = after }

  stands_saved : SavedStand k.node.machine now
  stands_saved =
      (saved_words_stand k.node.machine k.steady.placed).steps now ran.Instruction
      (waiting_steps p c s n x k v h y enabled q)

  iptr_before : (a : ℕ) → Contains (descheduled m) a
      → word_at before (word_below a iptr_word) ≡ word_at store (word_below a iptr_word)
  iptr_before a inside =
      iptr_stays p c s n x k v h before (readied_laid p c s n x k v h y enabled)
      (alone p c s n x k v h y enabled) a inside

  iptrs : (a : ℕ) → Contains (descheduled middle.machine.control) a
      → word_at after (word_below a iptr_word) ≡ word_at before (word_below a iptr_word)
  iptrs a inside =
      by (Contains-push_cases (descheduled m) w a
      (subst (λ (z : List ℕ). Contains z a) (desch_now p c s n x k v h) inside))
    where
      free_not : Free ≡ Saved → ⊥
      free_not e = cc

      by : Contains (descheduled m) a ⊎ (w ≡ a)
          → word_at after (word_below a iptr_word) ≡ word_at before (word_below a iptr_word)
      by (inl e) =
          All-contains (λ b. WordStands iptr_word b k.node.machine now) (descheduled m) a stands_saved.iptrs e
          ∙ sym (iptr_before a e)
      by (inr e) =
          subst (λ b. word_at after (word_below b iptr_word) ≡ word_at before (word_below b iptr_word)) e
          (linked_word (word_below w 1) (lies_one p c s n x k v h)
          (λ f. free_not (sym (first_free p c s n x k v h) ∙ f)))

  distinct : AllPairs (λ a b. a ≢ b) (descheduled middle.machine.control)
  distinct =
      subst (AllPairs (λ a b. a ≢ b)) (sym (desch_now p c s n x k v h))
      (pairs_from (λ a b. a ≢ b) (descheduled m ++ w ∷ []) once (λ a b f g e. e))
    where
      absent : 0 < occurs w (descheduled m) → ⊥
      absent e = is_new p c s n x k v h w (occurs-contains w (descheduled m) e) refl

      once : (a : ℕ) → occurs a (descheduled m ++ w ∷ []) ≤ 1
      once a = by (cases_eq w a)
        where
          by : (w ≡ a) ⊎ (w ≡ a → ⊥) → occurs a (descheduled m ++ w ∷ []) ≤ 1
          by (inl e) =
              let none : 0 < occurs a (descheduled m) → ⊥ =
              λ f. absent (subst (λ z. 0 < occurs z (descheduled m)) (sym e) f) in
              omega (arith, occurs-append a (descheduled m) (w ∷ []), same_once w a e, none)
          by (inr e) =
              omega (
                arith,
                occurs-append a (descheduled m) (w ∷ []),
                other_never w a e,
                occurring_once (descheduled m) k.steady.placed.claimed.distinct a,
              )

  input_then : v (Half n channel Input) ≡ s (Half n channel Input)
  input_then =
      at p c s n x k v h (Half n channel Input) refl
      (subst (λ z. is_half_of n channel z (Half n channel Input) ≡ false) (sym (sends p c s n x k v h y enabled))
      (sides_apart n channel Output)) refl

  pub awaited_then : half_in (v (Half n channel Input)) ≡ AwaitedBy y
  awaited_then =
      ap half_in input_then
      ∙ (it p c s n x k v h y enabled).awaited old (theirs_is p c s n x k v h y enabled) q.waits

  pub stood_then : v (Standing y) ≡ IsStand (Chooses d)
  stood_then = at p c s n x k v h (Standing y) refl refl (apart p c s n x k v h y enabled) ∙ q.stood

  has_run : s (HasRun n d.priority) ≡ IsFlag true
  has_run =
      subst (λ (z : Stand). IfSome (context_in z) (λ e. s (HasRun n e.priority) ≡ IsFlag true))
      (one_stand (sym q.seat.stands ∙ q.stood)) q.seat.has_run
    where
      one_stand : {a b : Stand} → IsStand a ≡ IsStand b → a ≡ b
      one_stand e = cc

  module _ (t : State) (g : HasBeenLet site p channel y d v t) where
    let_go : IsLetGo p n v t named_then (k.shows.sent n) middle y waiter channel d after
    let_go =
        record {
          idle = refl;
          reason = reason_other p c s n x k v h before (readied_laid p c s n x k v h y enabled)
              (alone p c s n x k v h y enabled) waiter (λ e. two p c s n x k v h y enabled q (sym e)) ∙ q.reason;
          name = name_other p c s n x k v h before (readied_laid p c s n x k v h y enabled)
              (alone p c s n x k v h y enabled) waiter (λ e. two p c s n x k v h y enabled q (sym e)) ∙ q.name;
          home = (it p c s n x k v h y enabled).home;
          stood = stood_then;
          fits = saved_stays store before waiter d
              (iptr_before (workspace_of waiter) (is_there p c s n x k v h y enabled q)) q.fits;
          nothing_lent = q.nothing_lent;
          has_run = at p c s n x k v h (HasRun n d.priority) refl refl refl ∙ has_run;
          distinct = distinct;
          awaited = awaited_then;
          stands = g.stands;
          input = g.input;
          rest = g.rest;
          size = linked_size ∙ sym before_size;
          iptrs = iptrs;
          words = λ a there e. linked_word a
              (lies_at a (subst (λ z. word_place_break z a ≡ None) before_size there))
              (not_saved (word_number a) (engaged_was p c s n x k v h (word_number a) e));
        }
      where
        differ : Engaged ≡ Saved → ⊥
        differ e = cc

        not_saved : (i : ℕ) → (i ≡ word_number channel) ⊎ (use_of s n i ≡ Engaged) → use_of s n i ≡ Saved → ⊥
        not_saved i (inl e) f =
            differ (sym (it p c s n x k v h y enabled).engaged ∙ ap (use_of s n) (sym e) ∙ f)
        not_saved i (inr e) f = differ (sym e ∙ f)

    -- its alternative
    abbrev alternative_now : Alternative
    alternative_now =
        record { skips = true; wptr = d.wptr; priority = d.priority; runs = false; waits = false }

    sent : HasSent p c s n x k v h y enabled t after alternative_now
    sent =
        has_sent p c s n x k v h y enabled t alternative_now g.rest
        (ap (λ (z : Value). enabler (half_in z)) g.input)
        (ap (λ (z : Value). alternative_of (stand_in z)) g.stands) (
          q.fits.wptr ∙ workspace p c s n x k v h y enabled,
          q.fits.priority ∙ priority p c s n x k v h y enabled,
          sym q.runs,
          refl,
        )
        (ap (λ (z : Value). is_quiet (stand_in z)) g.stands) after (linked_size ∙ sym shown.size)
        (linked_word state (lies_there p c s n x k v h y enabled)
        (state_not p c s n x k v h y enabled Saved (λ e. cc) (λ e. cc)) ∙ ready_there p c s n x k v h y enabled)
        (λ a l e f i. linked_word a l (lasting_not_saved e)
        ∙ others_stay p c s n x k v h y enabled a l (lasting_not_free e) f i)

    word_stays : (i : ℕ) → t (WordAt n i) ≡ v (WordAt n i)
    word_stays i = g.rest (WordAt n i) refl refl

    tells_now : Tells t n k.plan.memory after
    tells_now = by behind refl
      where
        same : Tells t n k.plan.memory before
        same = tells_alike v t n k.plan.memory before word_stays (readied_laid p c s n x k v h y enabled).tells

        saved_not_free : {u : Use} → u ≡ Saved → u ≡ Free → ⊥
        saved_not_free e f = differ (sym e ∙ f)
          where
            differ : Saved ≡ Free → ⊥
            differ i = cc

        kept : (b : ℕ) → Contains (descheduled m) b → t (WordAt n (below b 2)) ≡ s (WordAt n (below b 2))
        kept b inside =
            word_stays (below b 2)
            ∙ unfree_stays p c s n x k v h (below b 2) (saved_not_free (link_saved b inside))
            (λ e. true≢false (sym (ap is_set_aside (link_saved b inside)) ∙ ap (λ i. is_set_aside (use_of s n i)) e
            ∙ not_aside p c s n x k v h))

        by : (o : Option ℕ) → behind ≡ o → Tells t n k.plan.memory (linked before o (workspace_of waiter))
        by None e = same
        by (Some b) e =
            let inside : Contains (descheduled m) b = behind_there b e in
            set_unknown t n k.plan.memory before (word_below b 2) (workspace_of waiter) same (lies_link b inside)
            (ap (λ (z : Value). (word_in z).cells) (kept b inside)
            ∙ unknown_two s n b (saved_of p c s n x k v h b inside))

    under_way : is_some d.choice ≡ true
    under_way =
        sym (ap (λ (z : Value). is_quiet (stand_in z)) q.stood)
        ∙ shown.choices.quiet y (it p c s n x k v h y enabled).home

    shown_now : ShowsNode t n k.plan (renamed_to p n v t named_then (k.shows.sent n) middle y waiter channel d after
        let_go)
        (k.shows.sent n) (record k.node { machine = now })
    shown_now =
        record {
          role = shown.role;
          works = shown.works;
          runs_on = shown.runs_on;
          size = linked_size;
          kind = shown.kind;
          store = shows_from t n k.plan.memory after tells_now;
          marks = marks_chosen p n v t named_then (k.shows.sent n) middle y waiter channel d after let_go
              (marks_now p c s n x k v h);
          channels = channels_chosen p n v t named_then (k.shows.sent n) middle y waiter channel d after let_go
              (channels_now p c s n x k v h before (readied_laid p c s n x k v h y enabled)
              (alone p c s n x k v h y enabled));
          links = λ l e. link_chosen p n v t named_then (k.shows.sent n) middle y waiter channel d after let_go
              under_way l (links_now p c s n x k v h before (readied_laid p c s n x k v h y enabled)
              (alone p c s n x k v h y enabled) l e);
          processes = processes_chosen p n v t named_then (k.shows.sent n) middle y waiter channel d after let_go
              (processes_now p c s n x k v h before (readied_laid p c s n x k v h y enabled)
              (alone p c s n x k v h y enabled));
          choices = sent_choices p c s n x k v h y enabled t after alternative_now sent;
        }

    hides : hidden now ≡ now
    hides =
        ap (λ (z : Store). record { control = released_control p c s n x k v h y enabled; store = z })
        (hidden_with p c s n x k v h after (λ i e. linked_cell i (λ f. received_not (sym f ∙ e))
        ∙ readied_received p c s n x k v h y enabled i e))
      where
        received_not : Saved ≡ Receiving → ⊥
        received_not e = cc

    pub let_go_leads : LeadsTo p c n t
    let_go_leads =
        leads_there p c s n x k now t
        (renamed_to p n v t named_then (k.shows.sent n) middle y waiter channel d after let_go) (k.shows.sent n)
        (waiting_steps p c s n x k v h y enabled q) hides shown_now
        (λ r e. g.rest r (stand r e) (half r e)
        ∙ elsewhere p c s n x k v h before (readied_laid p c s n x k v h y enabled)
        (alone p c s n x k v h y enabled) r e)
        (outputs_stay s t n k.node (record k.node { machine = now })
        (λ l. g.rest (LinkHalf (end_at n l) Output) refl refl
        ∙ at p c s n x k v h (LinkHalf (end_at n l) Output) refl refl refl) (λ l. refl))
      where
        stand : (r : Place) → node_at r ≢ n → is_stand_of y r ≡ false
        stand (Standing z) e =
            rw (ne_eqb y.node z.node (λ f. e (sym f ∙ (it p c s n x k v h y enabled).home))) refl
        stand _ e = refl

        half : (r : Place) → node_at r ≢ n → is_half_of n channel Input r ≡ false
        half (Half b a sd) e = rw (ne_eqb n b (λ f. e (sym f))) refl
        half _ e = refl
