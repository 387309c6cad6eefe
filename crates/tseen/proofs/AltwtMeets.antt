-- A process that waits for its alternative is made to go on, where a message was sent before.
use Rattle.std.proofs.Common.{◌≡◌, ◌≢◌, ℕ, refl, sym, ap, subst, ◌∙◌, Bool, true, false, true≢false, List}
use Rattle.std.proofs.Common.{◌⊎◌, inl, inr, ◌<◌}
use Rattle.std.specs.Prelude.{slice_index_or}
use Rattle.std.proofs.lemmas.Bool.{cases_eq, eq-eqb, ne_eqb}
use Rattle.tword.specs.Stores.{Store, word_at}
use Rattle.tword.specs.Words.{word_below}
use Rattle.tcode.specs.declared.instruction.Operation.TheVariants.{Altwt}
use Rattle.tproc.specs.declared.channels.Side.TheVariants.{Input, Output}
use Rattle.tproc.specs.Channels.{ready}
use Rattle.tproc.specs.Machine.{Control}
use Rattle.tproc.specs.declared.waiter.LinkEnd.{LinkEnd}
use Rattle.tproc.specs.LinkChannels.{is_link, link_end, quiet_end}
use Rattle.tplan.specs.Wires.{end_at}
use Rattle.tplan.specs.declared.plan.End.{End}
use Rattle.tplan.specs.declared.plan.Plan.{Plan}
use Rattle.tnet.specs.Rendezvous.{Configuration, node_of}
use Rattle.tprocesses.specs.Places.{Place, Name, WordAt, Standing, Ports, Half, LinkHalf}
use Rattle.tprocesses.specs.Values.{Value, Use, Free, Choosing, Choice, Context, Chosen, Runs, Holder}
use Rattle.tprocesses.specs.Values.{EnabledBy, IsWord, IsStand, IsHalf, word_in}
use Rattle.tprocesses.specs.Values.{half_in, ports_in, Link, Enabled, Fired, IsLink, link_in}
use Rattle.tprocesses.specs.Changes.{used_word}
use Rattle.tprocesses.specs.Touching.{Site}
use Rattle.tprocesses.specs.Standing.{forget, stands, goes_on}
use Rattle.tprocesses.specs.Choosing.{has_port, with_choice}
use Rattle.tprocesses.specs.Machine.{Process, site_of}
use Rattle.tseen.specs.AgentSteps.{HasStep}
use Rattle.tseen.specs.Alternatives.{FollowsOnce}
use Rattle.tseen.specs.Choices.{enables, input_channel}
use Rattle.tseen.specs.Shown.{ShowsNode}
use Rattle.tseen.specs.Steps.{IsCurrent, LeadsTo, Makes}
use Rattle.tseen.proofs.After.{State, after_step}
use Rattle.tseen.proofs.AltwtGoes.{tells_less, last, on, HasGoneOn, altwt_goes, links_there, state_word_stays}
use Rattle.tseen.proofs.AltwtSteps.{is_input_of, IsUnderWay, IsWaiting}
use Rattle.tseen.proofs.AltwtSteps.{IsTakenUp, IsEnabledAt, port_place}
use Rattle.tseen.proofs.AtOperation.{IsAtOperation, context_at}
use Rattle.tseen.proofs.AwaitedLinks.{IsLinkAwaitedNow}
use Rattle.tseen.proofs.AwaitedHalves.{is_input_half, IsAwaitedNow, AreLinksOf, restored}
use Rattle.tseen.proofs.AwaitedHalves.{leads_awaits}
use Rattle.tseen.proofs.InputChannels.{input_is_link, input_names_link}
use Rattle.tseen.proofs.LinkPort.{input_value}
use Rattle.tseen.proofs.Cells.{use_of}
use Rattle.tseen.proofs.ChoicePlain.{is_for_choice}
use Rattle.tseen.proofs.DispatchShown.{chosen_then}
use Rattle.tseen.proofs.Due.{process_due}
use Rattle.tseen.proofs.Finished.{is_stand_of, StandsNow, stands_then}
use Rattle.tseen.proofs.Freed.{IsFreed, freed_word, unsave_chosen_then}
use Rattle.tseen.proofs.Running.{RunsThere}
use Rattle.tseen.proofs.Saving.{below, no_word, other_number}
use Rattle.tseen.proofs.Stepped.{shown_node, there}
use Rattle.tseen.proofs.Stored.{GoesOn}
use Rattle.tseen.proofs.Written.{is_word_of}

-- a word is one of the three below a workspace, or another one
pub by_below : (w : ℕ) (P : ℕ → Type 0) → P (below w 1) → P (below w 2) → P (below w 3)
    → ((j : ℕ) → j ≢ below w 1 → j ≢ below w 2 → j ≢ below w 3 → P j) → (j : ℕ) → P j
by_below w P one two three other j = by (cases_eq j (below w 1)) (cases_eq j (below w 2)) (cases_eq j (below w 3))
  where
    by : (j ≡ below w 1) ⊎ (j ≡ below w 1 → ⊥) → (j ≡ below w 2) ⊎ (j ≡ below w 2 → ⊥)
        → (j ≡ below w 3) ⊎ (j ≡ below w 3 → ⊥) → P j
    by (inl e) b d = subst P (sym e) one
    by (inr a) (inl e) d = subst P (sym e) two
    by (inr a) (inr b) (inl e) = subst P (sym e) three
    by (inr a) (inr b) (inr d) = other j a b d

module _ (p : Plan) (c : Configuration) (s : State) (n : ℕ) (x : Name) (k : IsCurrent p c s n x) (u : State)
    (a : IsAtOperation p c s n x k Altwt u) (choice : Choice) (v : State)
    (way : IsUnderWay (site_of n k.plan) (there p c s n x k).whole p x (context_at p c s n x k a.size) choice u v)
    (s' : State)
    (waits : IsWaiting (site_of n k.plan) (there p c s n x k).whole p x (context_at p c s n x k a.size) v s') where
  abbrev m : Control
  m = k.node.machine.control

  abbrev store : Store
  store = k.node.machine.store

  abbrev running : RunsThere s n k.plan k.node x
  running = there p c s n x k

  abbrev shown : ShowsNode s n k.plan (k.shows.named n) (k.shows.sent n) k.node
  shown = shown_node p c s n x k

  abbrev site : Site
  site = site_of n k.plan

  abbrev w : ℕ
  w = m.registers.wptr

  abbrev context : Context
  context = context_at p c s n x k a.size

  abbrev ports : List ℕ
  ports = ports_in (v (Ports x))

  went : GoesOn n k.plan.memory s v store (last p c s n x k u a choice v way)
  went = on p c s n x k u a choice v way

  choosing_free : Choosing ≡ Free → ⊥
  choosing_free e = cc

  -- the words below the workspace
  pub first_free : use_of s n (below w 1) ≡ Free
  first_free = sym (went.keeps.uses (below w 1)) ∙ waits.touched_one.touched.free

  pub second_free : use_of s n (below w 2) ≡ Free
  second_free = sym (went.keeps.uses (below w 2)) ∙ waits.touched_two.touched.free

  pub third_choosing : use_of s n (below w 3) ≡ Choosing
  third_choosing = sym (went.keeps.uses (below w 3)) ∙ way.choosing

  pub three_two : below w 3 ≢ below w 2
  three_two e = choosing_free (sym third_choosing ∙ ap (use_of s n) e ∙ second_free)

  pub three_one : below w 3 ≢ below w 1
  three_one e = choosing_free (sym third_choosing ∙ ap (use_of s n) e ∙ first_free)

  -- the inputs that the process has enabled
  pub own_half : (d : ℕ) → has_port d ports ≡ true → is_link d ≡ false → s (Half n d Input) ≡ IsHalf (EnabledBy x)
  own_half d e internal =
      let h = shown.channels.halves d Input in
      h.1 ∙ ap IsHalf (sym (ap half_in h.1) ∙ ap half_in (sym (went.keeps.others (Half n d Input) refl))
      ∙ subst (λ b. IsEnabledAt x b (v (port_place n b d))) internal (waits.enabled d e))

  pub own_input : (l : ℕ) → l < 4 → has_port (input_channel l) ports ≡ true
      → s (LinkHalf (end_at n l) Input) ≡ IsLink (Enabled x)
  own_input l small e =
      input_value (k.shows.named n) (link_end m l).input (s (LinkHalf (end_at n l) Input)) (shown.links l small).input
      ∙ ap IsLink (ap link_in (sym (went.keeps.others (LinkHalf (end_at n l) Input) refl))
      ∙ subst (λ i. link_in (v (LinkHalf (end_at n i) Input)) ≡ Enabled x) (input_names_link l small)
      (subst (λ b. IsEnabledAt x b (v (port_place n b (input_channel l)))) (input_is_link l small)
      (waits.enabled (input_channel l) e)))

  -- what is no word and no input stays
  pub far : (q : Place) → is_word_of n q ≡ false → is_stand_of x q ≡ false → is_input_of n q ≡ false → s' q ≡ s q
  far q e f g = waits.rest q e f g ∙ went.keeps.others q e

  pub taken_up : (q : Place) → is_word_of n q ≡ false → is_stand_of x q ≡ false
      → (s' q ≡ s q) ⊎ IsTakenUp x (s q) (s' q)
  taken_up q e f =
      subst (λ z. (s' q ≡ z) ⊎ IsTakenUp x z (s' q)) (went.keeps.others q e) (waits.inputs q e f)

  pub input_now : (d : ℕ) → IsAwaitedNow (s (Half n d Input)) (s' (Half n d Input))
  input_now d = by (taken_up (Half n d Input) refl refl)
    where
      value : s (Half n d Input) ≡ IsHalf (half_in (s (Half n d Input)))
      value =
          let h = shown.channels.halves d Input in
          h.1 ∙ ap IsHalf (sym (ap half_in h.1))

      no_link : (h : Holder) → link_in (IsHalf h) ≡ Enabled x → ⊥
      no_link h e = cc

      by : (s' (Half n d Input) ≡ s (Half n d Input)) ⊎ IsTakenUp x (s (Half n d Input)) (s' (Half n d Input))
          → IsAwaitedNow (s (Half n d Input)) (s' (Half n d Input))
      by (inl e) = inl e
      by (inr (inl (e, f))) = inr (x, value ∙ ap IsHalf e, f)
      by (inr (inr (e, f))) = absurd (no_link (half_in (s (Half n d Input))) (sym (ap link_in value) ∙ e))

  pub link_now : (noticed : Bool) (l : ℕ) → l < 4
      → IsLinkAwaitedNow noticed (s (LinkHalf (end_at n l) Input)) (s' (LinkHalf (end_at n l) Input))
  link_now noticed l small = by (taken_up (LinkHalf (end_at n l) Input) refl refl)
    where
      value : s (LinkHalf (end_at n l) Input) ≡ IsLink (link_in (s (LinkHalf (end_at n l) Input)))
      value =
          input_value (k.shows.named n) (link_end m l).input (s (LinkHalf (end_at n l) Input))
          (shown.links l small).input

      no_half : (h : Link) → half_in (IsLink h) ≡ EnabledBy x → ⊥
      no_half h e = cc

      by : (s' (LinkHalf (end_at n l) Input) ≡ s (LinkHalf (end_at n l) Input))
          ⊎ IsTakenUp x (s (LinkHalf (end_at n l) Input)) (s' (LinkHalf (end_at n l) Input))
          → IsLinkAwaitedNow noticed (s (LinkHalf (end_at n l) Input)) (s' (LinkHalf (end_at n l) Input))
      by (inl e) = inl e
      by (inr (inl (e, f))) = absurd (no_half (link_in (s (LinkHalf (end_at n l) Input))) (sym (ap half_in value) ∙ e))
      by (inr (inr (e, f))) = inr (x, value ∙ ap IsLink e, inl f)

  -- the channels that the process has enabled
  pub own_port : (d : ℕ) → enables s n x d ≡ true → has_port d ports ≡ true
  own_port d e = ap (λ (y : Value). has_port d (ports_in y)) (went.keeps.others (Ports x) refl) ∙ e

  -- the process is made to go on
  abbrev pub d : Context
  d = with_choice true (forget context)

  -- by the input of a link at which a byte was noticed
  abbrev pub WasFired : State → Place → Type 0
  WasFired t q =
      (l : ℕ) × (q ≡ LinkHalf (end_at n l) Input) × (s q ≡ IsLink (Enabled x)) × (t q ≡ IsLink (Fired x))
      × ((link_end m l).noticed ≡ true)

  pub record HasLetGo (t : State) : Type 0 where
    pub stands : t (Standing x) ≡ IsStand (Chosen d)
    pub inputs : (q : Place) → is_input_of n q ≡ true → (t q ≡ s' q) ⊎ ((t q ≡ s q) ⊎ WasFired t q)
    pub others : (q : Place) → is_input_of n q ≡ false → is_stand_of x q ≡ false → t q ≡ s' q

  -- then the process has a step
  process_goes : (t : State) → HasLetGo t → HasStep p (Process x) t
  process_goes t go = process_due p x t (Chosen d) go.stands refl

  -- and goes on
  module _ (is_ready : word_at store (word_below w 3) ≡ ready) (t : State) (go : HasLetGo t) (y : State)
      (freed : IsFreed n w t y)
      (third : y (WordAt n (below w 3)) ≡ IsWord (used_word Choosing))
      (upper : (y (WordAt n (below w 1)) ≡ freed_word t n (below w 1))
      × (y (WordAt n (below w 2)) ≡ freed_word t n (below w 2)))
      (z : State) (runs : StandsNow site x (Runs d) y z) where
    t_word : (j : ℕ) → t (WordAt n j) ≡ s' (WordAt n j)
    t_word j = go.others (WordAt n j) refl refl

    z_word : (j : ℕ) → z (WordAt n j) ≡ y (WordAt n j)
    z_word j = runs.others (WordAt n j) refl

    z_one : z (WordAt n (below w 1)) ≡ IsWord (used_word Free)
    z_one =
        z_word (below w 1) ∙ upper.0
        ∙ ap (λ (b : Value). IsWord (record { cells = (word_in b).cells; used = Free }))
        (t_word (below w 1) ∙ waits.one)

    z_two : z (WordAt n (below w 2)) ≡ IsWord (used_word Free)
    z_two =
        z_word (below w 2) ∙ upper.1
        ∙ ap (λ (b : Value). IsWord (record { cells = (word_in b).cells; used = Free }))
        (t_word (below w 2) ∙ waits.two)

    z_three : z (WordAt n (below w 3)) ≡ IsWord (used_word Choosing)
    z_three = z_word (below w 3) ∙ third

    z_other : (j : ℕ) → j ≢ below w 1 → j ≢ below w 2 → j ≢ below w 3 → z (WordAt n j) ≡ v (WordAt n j)
    z_other j e f g =
        z_word j ∙ freed.rest (WordAt n j) (other_number n w j e f g) ∙ t_word j ∙ waits.words j e f g

    -- what is no word stays from the step of the channel on
    z_far : (q : Place) → is_word_of n q ≡ false → is_stand_of x q ≡ false → z q ≡ t q
    z_far q e f = runs.others q f ∙ freed.rest q (no_word n w q e)

    z_stays : (q : Place) → is_word_of n q ≡ false → is_stand_of x q ≡ false → is_input_of n q ≡ false → z q ≡ s q
    z_stays q e f g = z_far q e f ∙ go.others q g f ∙ far q e f g

    z_input : (e : ℕ) → IsAwaitedNow (s (Half n e Input)) (z (Half n e Input))
    z_input e =
        subst (IsAwaitedNow (s (Half n e Input))) (sym (z_far (Half n e Input) refl refl))
        (by (go.inputs (Half n e Input) (eq-eqb n n refl)))
      where
        no_link : {l : ℕ} → Half n e Input ≡ LinkHalf (end_at n l) Input → ⊥
        no_link f = cc

        by : (t (Half n e Input) ≡ s' (Half n e Input))
            ⊎ ((t (Half n e Input) ≡ s (Half n e Input)) ⊎ WasFired t (Half n e Input))
            → IsAwaitedNow (s (Half n e Input)) (t (Half n e Input))
        by (inl f) = subst (IsAwaitedNow (s (Half n e Input))) (sym f) (input_now e)
        by (inr (inl f)) = inl f
        by (inr (inr f)) = absurd (no_link f.1)

    z_link : (l : ℕ) → l < 4 → IsLinkAwaitedNow (link_end m l).noticed (s (LinkHalf (end_at n l) Input))
        (z (LinkHalf (end_at n l) Input))
    z_link l small =
        subst (IsLinkAwaitedNow (link_end m l).noticed (s half)) (sym (z_far half refl refl))
        (by (go.inputs half (eq-eqb n n refl)))
      where
        half : Place
        half = LinkHalf (end_at n l) Input

        same_link : {i : ℕ} → LinkHalf (end_at n l) Input ≡ LinkHalf (end_at n i) Input → l ≡ i
        same_link {i} f = (let e : end_at n l ≡ end_at n i = cc in ap (λ (z : End). z.link) e)

        by : (t half ≡ s' half) ⊎ ((t half ≡ s half) ⊎ WasFired t half)
            → IsLinkAwaitedNow (link_end m l).noticed (s half) (t half)
        by (inl f) =
            subst (IsLinkAwaitedNow (link_end m l).noticed (s half)) (sym f) (link_now (link_end m l).noticed l small)
        by (inr (inl f)) = inl f
        by (inr (inr (i, same, e, f, noticed))) =
            inr (x, e, inr (f, ap (λ j. (link_end m j).noticed) (same_link same) ∙ noticed))

    still : (q : Place) → is_word_of n q ≡ false → is_stand_of x q ≡ false → restored s z q ≡ s q
    still (Half i e Input) f g = refl
    still (Half i e Output) f g = z_stays (Half i e Output) f g refl
    still (LinkHalf e Input) f g = refl
    still (LinkHalf e Output) f g = z_stays (LinkHalf e Output) f g refl
    still q f g = z_stays q f g refl

    same : (q : Place) → is_input_half q ≡ false → z q ≡ restored s z q
    same (Half i e Input) f = absurd (true≢false f)
    same (Half i e Output) f = refl
    same (LinkHalf e Input) f = absurd (true≢false f)
    same (LinkHalf e Output) f = refl
    same q f = refl

    awaited_now : (i e : ℕ) → IsAwaitedNow (s (Half i e Input)) (z (Half i e Input))
    awaited_now i e = by (cases_eq n i)
      where
        by : (n ≡ i) ⊎ (n ≡ i → ⊥) → IsAwaitedNow (s (Half i e Input)) (z (Half i e Input))
        by (inl f) = subst (λ b. IsAwaitedNow (s (Half b e Input)) (z (Half b e Input))) f (z_input e)
        by (inr f) = inl (z_stays (Half i e Input) refl refl (ne_eqb n i f))

    plain_word : (j : ℕ) → use_of s n j ≡ Free → z (WordAt n j) ≡ IsWord (used_word Free)
        → (is_for_choice (use_of s n j) ≡ true) × (is_for_choice (use_of z n j) ≡ true)
    plain_word j e f = (ap is_for_choice e, ap (λ (b : Value). is_for_choice (word_in b).used) f)

    gone_on : HasGoneOn p c s n x k u a choice v way (restored s z) d true
    gone_on =
        record {
          stands = runs.is;
          choice_is = refl;
          knows = record {
            priority = running.registers.priority;
            wptr = refl;
            iptr = refl;
            a = tt;
            b = tt;
            c = tt;
            nothing_lent = running.registers.nothing_lent;
          };
          tells = tells_less v (restored s z) n k.plan.memory (last p c s n x k u a choice v way)
              (by_below w (λ j. (z (WordAt n j) ≡ v (WordAt n j))
              ⊎ ((used : Use) × (z (WordAt n j) ≡ IsWord (used_word used)))) (inr (Free, z_one)) (inr (Free, z_two))
              (inr (Choosing, z_three)) (λ j e f g. inl (z_other j e f g))) went.tells;
          used = ap (λ (b : Value). (word_in b).used) z_three;
          unseen = ap (λ (b : Value). (word_in b).cells) z_three;
          words = by_below w (λ j. (z (WordAt n j) ≡ v (WordAt n j))
              ⊎ ((is_for_choice (use_of s n j) ≡ true) × (is_for_choice (use_of z n j) ≡ true)))
              (inr (plain_word (below w 1) first_free z_one)) (inr (plain_word (below w 2) second_free z_two))
              (inr (ap is_for_choice third_choosing, ap (λ (b : Value). is_for_choice (word_in b).used) z_three))
              (λ j e f g. inl (z_other j e f g));
          states = by_below w (λ j. use_of s n j ≡ Choosing → j ≢ below w 3 → z (WordAt n j) ≡ v (WordAt n j))
              (λ e f. absurd (choosing_free (sym e ∙ first_free)))
              (λ e f. absurd (choosing_free (sym e ∙ second_free))) (λ e f. absurd (f refl))
              (λ j e f g h i. z_other j e f g);
          others = still;
          told = inl (state_word_stays p c s n x k u a choice v way ∙ is_ready, inl refl);
        }

    abbrev first_leads : LeadsTo p c n (restored s z)
    first_leads = altwt_goes p c s n x k u a choice v way (restored s z) d true gone_on is_ready

    links_are : AreLinksOf (restored s z) z same awaited_now p first_leads.configuration
    links_are i l plan node small planned here = by (cases_eq n i)
      where
        by : (n ≡ i) ⊎ (n ≡ i → ⊥) → IsLinkAwaitedNow (link_end node.machine.control l).noticed
            (s (LinkHalf (end_at i l) Input)) (z (LinkHalf (end_at i l) Input))
        by (inr f) = inl (z_stays (LinkHalf (end_at i l) Input) refl refl (ne_eqb n i f))
        by (inl f) =
            let at : node.machine.control.links ≡ m.links =
            links_there p c s n x k u a choice v way (restored s z) d true gone_on is_ready node
            (ap (node_of first_leads.configuration) f ∙ here) in
            subst (λ (ls : List LinkEnd). IsLinkAwaitedNow (slice_index_or ls l quiet_end).noticed
            (s (LinkHalf (end_at i l) Input)) (z (LinkHalf (end_at i l) Input))) (sym at)
            (subst (λ b. IsLinkAwaitedNow (link_end m l).noticed (s (LinkHalf (end_at b l) Input))
            (z (LinkHalf (end_at b l) Input))) f (z_link l small))

    chosen_leads : LeadsTo p c n z
    chosen_leads = leads_awaits (restored s z) z same awaited_now p c n first_leads links_are

  chosen_goes : word_at store (word_below w 3) ≡ ready → (t z : State) → HasLetGo t → Makes p x t z
      → LeadsTo p c n z
  chosen_goes is_ready t z go goes =
      after_step p x t z Q goes
      (chosen_then p k.plan n t x d Q running.home k.planned go.stands
      (unsave_chosen_then site running.whole d (goes_on x d) t Q three_two three_one waits.two_one
      (ap (λ (b : Value). (word_in b).used) (go.others (WordAt n (below w 1)) refl refl ∙ waits.one))
      (ap (λ (b : Value). (word_in b).used) (go.others (WordAt n (below w 2)) refl refl ∙ waits.two))
      (λ y freed used third upper.
      stands_then site p x (Runs d) y Q (λ z runs. chosen_leads is_ready t go y freed third upper z runs))))
    where
      Q : Unit {0} → State → Type 0
      Q _ z = LeadsTo p c n z

  -- so it goes on once it was let go
  pub follows : word_at store (word_below w 3) ≡ ready → (t : State) → HasLetGo t → FollowsOnce p c n x t
  follows is_ready t go = (process_goes t go, λ z makes. chosen_goes is_ready t z go makes)
