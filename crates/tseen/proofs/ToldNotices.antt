-- A notice at a link that a process has enabled which does not wait: its alternative is ready, and its node is shown as
-- before.
use Rattle.std.proofs.Common.{◌≡◌, ◌≢◌, ℕ, ◌+◌, ◌*◌, ◌<◌, ◌≤◌, ◌/◌, ◌%◌, refl, sym, ap, subst, ◌∙◌, true, false}
use Rattle.std.proofs.Common.{true≢false, length, get_or, Option, Some, None, ◌⊎◌, inl, inr, arith}
use Rattle.std.specs.Prelude.{◌==◌, ◌&&◌}
use Rattle.std.proofs.lemmas.Bool.{cases_eq, eq-eqb}
use Rattle.std.proofs.lemmas.List.{get_or-set_same}
use Rattle.std.proofs.lemmas.List.Elements.{All-contains}
use Rattle.tword.specs.Words.{most_neg, word_below}
use Rattle.tword.specs.Stores.{Store, place, word_at}
use Rattle.tword.specs.Touches.{word_place_break}
use Rattle.tproc.specs.declared.waiter.LinkEnd.{LinkEnd}
use Rattle.tproc.specs.Channels.{enabling, ready}
use Rattle.tproc.specs.Hidden.{hidden}
use Rattle.tproc.specs.LinkChannels.{link_end, quiet_end}
use Rattle.tproc.specs.Links.{notice}
use Rattle.tproc.specs.Machine.{Control, Machine, descheduled}
use Rattle.tproc.specs.Queues.{iptr_word, state_word}
use Rattle.tproc.specs.SavedWords.{WordStands}
use Rattle.tproc.specs.Telling.{is_told}
use Rattle.tproc.proofs.LinkClaims.{noticing}
use Rattle.tproc.proofs.SavedWords.{saved_words_stand}
use Rattle.tproc.proofs.WordsApart.{LiesWord}
use Rattle.tplan.specs.declared.plan.NodePlan.{NodePlan}
use Rattle.tplan.specs.declared.plan.Plan.{Plan}
use Rattle.tnet.specs.Rendezvous.{Node}
use Rattle.treduction.proofs.Notifying.{state_at, told, go, noticed_with, notice_tells}
use Rattle.tprocesses.specs.Places.{Name, Standing, same_name}
use Rattle.tprocesses.specs.Values.{Use, Receiving, Engaged, Choosing, Awaiting}
use Rattle.tprocesses.specs.Touching.{word_number}
use Rattle.tprocesses.specs.Machine.{site_of}
use Rattle.tseen.specs.Seats.{Seat}
use Rattle.tseen.specs.Outputs.{Pending}
use Rattle.tseen.specs.Words.{use_at, cells_at}
use Rattle.tseen.specs.Choices.{enabler_on, input_channel, is_due, HasChoice}
use Rattle.tseen.specs.Choices.{IsReady, IsUnready, unready_word}
use Rattle.tseen.specs.Shown.{ShowsNode}
use Rattle.tseen.specs.Steps.{IsSteady}
use Rattle.tseen.proofs.After.{State}
use Rattle.tseen.proofs.Cells.{use_of, tells_from}
use Rattle.tseen.proofs.Finished.{place_itself}
use Rattle.tseen.proofs.InputChannels.{input_is_link, input_names_link}
use Rattle.tseen.proofs.LinkEnabler.{has, lies_state, workspace, state_not}
use Rattle.tseen.proofs.NoticedLinks.{with_notice, other_end}
use Rattle.tseen.proofs.NoticedNode.{noticed_node, noticed_shown, still_hidden, KeepsStore}
use Rattle.tseen.proofs.QuietNotices.{IsEnabler}
use Rattle.tseen.proofs.ReadiedChoices.{choices_readied}
use Rattle.tseen.proofs.ReadiedWord.{IsReadied, told_readied, other_stays, readied_tells}
use Rattle.tseen.proofs.Writing.{word_lies}

module _ (p : Plan) (s : State) (n : ℕ) (plan : NodePlan) (named : Seat → Name) (sent : ℕ → Option Pending)
    (node : Node) (shown : ShowsNode s n plan named sent node) (steady : IsSteady node) (l : ℕ) (small : l < 4)
    (no_input : (link_end node.machine.control l).input ≡ None)
    (not_noticed : (link_end node.machine.control l).noticed ≡ false) (y : Name)
    (k : IsEnabler s n plan named sent node shown steady l small no_input not_noticed y)
    (awake : k.alternative.waits ≡ false)
    (reached : is_told node.machine (k.alternative.wptr + k.alternative.priority) ≡ true) where
  abbrev m : Control
  m = node.machine.control

  abbrev store : Store
  store = node.machine.store

  abbrev process : ℕ
  process = k.alternative.wptr + k.alternative.priority

  abbrev state : ℕ
  state = state_at (k.alternative.wptr + k.alternative.priority)

  abbrev store' : Store
  store' = told (go node.machine process) state store

  choice : HasChoice s n m.links store y k.alternative
  choice = has s n plan named sent node shown steady y k.home k.alternative k.is

  same_state : state ≡ word_below k.alternative.wptr state_word
  same_state =
      ap (λ z. word_below z state_word) (workspace s n plan named sent node shown steady y k.home k.alternative k.is)

  lies_there : LiesWord (length store) state
  lies_there =
      subst (LiesWord (length store)) (sym same_state)
      (lies_state s n plan named sent node shown steady y k.home k.alternative k.is)

  whole : plan.memory % 4 ≡ 0
  whole = subst (λ z. z % 4 ≡ 0) shown.size steady.sized.size.2

  -- where nothing is done, it is ready already
  ready_before : go node.machine process ≡ false → word_at store state ≡ ready
  ready_before h = by choice.state
    where
      enabling_not : (word_at store state == enabling) ≡ false
      enabling_not = ap (λ b. b && (word_at store state == enabling)) (sym reached) ∙ h

      by : ((word_at store (word_below k.alternative.wptr state_word) ≡ ready)
          × IsReady s n m.links y k.alternative.skips)
          ⊎ ((word_at store (word_below k.alternative.wptr state_word) ≡ unready_word k.alternative.waits)
          × IsUnready s n m.links y k.alternative.skips) → word_at store state ≡ ready
      by (inl e) = ap (word_at store) same_state ∙ e.0
      by (inr e) =
          absurd (true≢false (sym (eq-eqb (word_at store state) enabling
          (ap (word_at store) same_state ∙ e.0 ∙ ap unready_word awake)) ∙ enabling_not))

  readied : IsReadied state store store'
  readied = told_readied store state (go node.machine process) lies_there ready_before

  not_used : (u : Use) → (Choosing ≡ u → ⊥) → (Awaiting ≡ u → ⊥) → use_of s n (word_number state) ≡ u → ⊥
  not_used u a b e =
      state_not s n plan named sent node shown steady y k.home k.alternative k.is u a b
      (ap (λ z. use_of s n (word_number z)) (sym same_state) ∙ e)

  told_is : notice l node.machine ≡ noticed_with l node.machine store'
  told_is = notice_tells l process node.machine k.remembers reached

  within : l < length m.links
  within = subst (λ z. l < z) (sym steady.placed.claimed.links) small

  abbrev now : Control
  now = (noticing l node.machine).control

  lies_of : (d : ℕ) → word_place_break (length store) d ≡ None → LiesWord (length store) d
  lies_of d h =
      let at : (place d ≡ 4 * word_number d) × (most_neg ≤ d) × (4 * word_number d + 4 ≤ plan.memory) =
      word_lies (site_of n plan) whole d (subst (λ z. word_place_break z d ≡ None) shown.size h) in
      record {
        above = at.1;
        within = omega (arith, at.0, at.2, shown.size);
        aligned = omega (arith, at.0, at.1);
      }

  not_engaged : (d : ℕ) → use_at s n d ≡ Engaged → word_number d ≢ word_number state
  not_engaged d e f = not_used Engaged (λ h. one h) (λ h. two h) (ap (use_of s n) (sym f) ∙ e)
    where
      one : Choosing ≡ Engaged → ⊥
      one h = cc

      two : Awaiting ≡ Engaged → ⊥
      two h = cc

  received : (i : ℕ) → use_of s n (i / 4) ≡ Receiving → get_or store' i None ≡ get_or store i None
  received i e =
      readied.only i (λ f. not_used Receiving (λ h. one h) (λ h. two h) (ap (use_of s n) (sym f) ∙ e))
    where
      one : Choosing ≡ Receiving → ⊥
      one h = cc

      two : Awaiting ≡ Receiving → ⊥
      two h = cc

  -- the byte at its link makes it ready
  due_now : is_due s n now.links (input_channel l) ≡ true
  due_now =
      rw (input_is_link l small, input_names_link l small)
      (ap (λ (e : LinkEnd). e.noticed)
      (get_or-set_same m.links l (with_notice (link_end m l)) quiet_end within))

  some_name : {a b : Name} → Some a ≡ Some b → a ≡ b
  some_name e = cc

  noticed_stays : (j : ℕ) (z : Name) → same_name y z ≡ false → enabler_on s n j ≡ Some z → (j ≡ l) ⊎ (j ≡ l → ⊥)
      → (link_end now j).noticed ≡ (link_end m j).noticed
  noticed_stays j z e f (inl h) =
      absurd (true≢false (sym (place_itself p (Standing y)) ∙ ap (same_name y)
      (some_name (sym k.enabled ∙ ap (enabler_on s n) (sym h) ∙ f)) ∙ e))
  noticed_stays j z e f (inr h) =
      ap (λ (v : LinkEnd). v.noticed)
      (other_end s s n l named named sent node
      (noticed_node s n plan named sent node shown steady l small no_input store') refl within j h)

  keeps : KeepsStore s n plan named sent node shown steady l small no_input store'
  keeps =
      record {
        size = readied.size;
        tells = readied_tells state store store' readied s n plan.memory
            (ap (λ z. cells_at s n z) same_state ∙ choice.unseen)
            (tells_from s n plan.memory store shown.size whole shown.store);
        words = λ d h e. other_stays state store store' readied d (lies_of d h) (not_engaged d e);
        iptrs = λ v h. subst (λ (z : Machine). WordStands iptr_word v node.machine z) told_is
            (All-contains (λ w. WordStands iptr_word w node.machine (notice l node.machine)) (descheduled m) v
            ((saved_words_stand node.machine steady.placed).notices l).iptrs h);
        received = received;
        choices = choices_readied p (site_of n plan) whole s s m.links now.links store store' shown.size y
            k.alternative k.alternative (record {
              home = k.home;
              before = k.is;
              now = k.is;
              wptr = refl;
              priority = refl;
              runs = refl;
              awake = awake;
              stands = λ z e. refl;
              quiet = shown.choices.quiet y k.home;
              ports = λ z. refl;
              words = λ j. refl;
              sendings = λ j. refl;
              inputs = λ d. refl;
              outputs = λ d. refl;
              enablers = λ j. refl;
              awaited = λ j z e f. f;
              noticed = λ j z e f. noticed_stays j z e f (cases_eq j l);
              same_size = readied.size;
              others = λ d h e f. other_stays state store store' readied d (lies_of d h) (λ i. f (i
                  ∙ ap word_number same_state));
              is = ap (word_at store') (sym same_state) ∙ readied.is;
              due = inr (input_channel l, k.linked.port, due_now);
            }) shown.choices;
      }

  pub told_shown : ShowsNode s n plan named sent (record node { machine = hidden (notice l node.machine) })
  told_shown =
      subst (λ (z : Machine). ShowsNode s n plan named sent (record node { machine = z }))
      (sym (ap hidden told_is ∙ still_hidden s n plan named sent node shown steady l small no_input store' keeps))
      (noticed_shown s n plan named sent node shown steady l small no_input store' keeps)
