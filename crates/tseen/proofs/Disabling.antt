-- `disc` of the input of a link: whether it made its process go on, or nobody sends there.
use Rattle.std.proofs.Common.{◌≡◌, ℕ, ◌<◌, refl, sym, ap, subst, ◌∙◌, Bool, true, false, true≢false}
use Rattle.std.proofs.Common.{Option, Some, None, not}
use Rattle.std.specs.Prelude.{◌==◌, ◌&&◌}
use Rattle.tword.specs.declared.breaks.Break.TheVariants.{LinkBusy, Unaligned, WrongEnd}
use Rattle.tword.specs.Touches.{Writes, is_aligned}
use Rattle.tcode.specs.declared.instruction.Operation.TheVariants.{Disc}
use Rattle.tproc.specs.declared.channels.Side.TheVariants.{Input, Output}
use Rattle.tproc.specs.LinkChannels.{is_link, is_right_end, link_end}
use Rattle.tproc.specs.Machine.{Control}
use Rattle.tplan.specs.declared.plan.End.{End}
use Rattle.tplan.specs.declared.plan.Plan.{Plan}
use Rattle.tplan.specs.Wires.{end_at}
use Rattle.tnet.specs.Rendezvous.{Configuration}
use Rattle.tprocesses.specs.Places.{Place, Name, WordAt, Standing, Ports, LinkHalf, same_name}
use Rattle.tprocesses.specs.Values.{Value, Choice, Context, Runs, Listens, Link, Empty, Offered, Enabled, Awaited}
use Rattle.tprocesses.specs.Values.{Fired}
use Rattle.tprocesses.specs.Values.{IsWord, IsStand, IsLink, ArePorts, link_in, ports_in, stand_in}
use Rattle.tprocesses.specs.Changes.{Put, free_word}
use Rattle.tprocesses.specs.Parts.{require, Breaks, HasNoStep, SeveralReady, ◌>>=◌}
use Rattle.tprocesses.specs.Touching.{Site, word_number, touch_word_at}
use Rattle.tprocesses.specs.Choosing.{answers, without_port, disables_link, disables_pending}
use Rattle.tprocesses.specs.Choosing.{begins_to_listen, goes_on_unfired, is_unfired_by}
use Rattle.tprocesses.specs.Machine.{Role, Processor, Source, Sink, Nothing, offer_place, role_at, is_passable}
use Rattle.tprocesses.specs.Machine.{sender_to, site_of}
use Rattle.tprocesses.specs.Machine.{is_offered, at_site, stepped, listens, requires_no_sender}
use Rattle.tseen.specs.Alternatives.{FollowsOnce, LeadsOrListens}
use Rattle.tseen.specs.Choices.{enabler_on, input_at, link_enabler}
use Rattle.tseen.specs.Shown.{ShowsNode, HasSender}
use Rattle.tseen.specs.Steps.{IsCurrent, LeadsTo, Makes}
use Rattle.tseen.proofs.After.{State, After, changed, after_bind, after_require, after_step}
use Rattle.tseen.proofs.AtOperation.{IsAtOperation, context_at}
use Rattle.tseen.proofs.DiscLink.{l, half, disabled_leads}
use Rattle.tseen.proofs.Due.{process_due}
use Rattle.tseen.proofs.Finished.{one_name, place_itself, StandsNow, stands_then}
use Rattle.tseen.proofs.LinkPort.{is_link_port_of, input_value}
use Rattle.tseen.proofs.OwnLink.{names_input}
use Rattle.tseen.proofs.Running.{RunsThere}
use Rattle.tseen.proofs.Selecting.{with_offset, is_chosen, selects_then}
use Rattle.tseen.proofs.SetUnknown.{tells_alike}
use Rattle.tseen.proofs.Stepped.{shown_node, there}
use Rattle.tseen.proofs.Writing.{IsWordTouched, touch_word_at_then}
use Rattle.tseen.proofs.Written.{is_word_of, changed_else}

and_false : (b e : Bool) → (b && e) ≡ false → (b && e && true) ≡ false
and_false true true h = h
and_false true false h = refl
and_false false e h = refl

and_output : (b e : Bool) → (b && e && false) ≡ false
and_output true true = refl
and_output true false = refl
and_output false e = refl

-- a process that runs does not listen
pub runs_on : (p : Plan) (c : Configuration) (n : ℕ) (x : Name) (z : State) {d : Context}
    → z (Standing x) ≡ IsStand (Runs d) → LeadsTo p c n z → LeadsOrListens (stand_in (z (Standing x))) p c n x z
runs_on p c n x z is leads = subst (λ (v : Value). LeadsOrListens (stand_in v) p c n x z) (sym is) leads

module _ (p : Plan) (c : Configuration) (s : State) (n : ℕ) (x : Name) (k : IsCurrent p c s n x) where
  abbrev m : Control
  m = k.node.machine.control

  abbrev running : RunsThere s n k.plan k.node x
  running = there p c s n x k

  abbrev shown : ShowsNode s n k.plan (k.shows.named n) (k.shows.sent n) k.node
  shown = shown_node p c s n x k

  abbrev site : Site
  site = site_of n k.plan

  abbrev w : ℕ
  w = m.registers.wptr

  abbrev channel : ℕ
  channel = m.registers.c

  abbrev link : ℕ
  link = l p c s n x k

  abbrev input : Place
  input = half p c s n x k

  -- the process has given up the input
  abbrev emptied : State → State
  emptied v = changed input (Put (IsLink Empty)) v

  abbrev given_up : State → State
  given_up v =
      changed (Ports x) (Put (ArePorts (without_port channel (ports_in (emptied v (Ports x)))))) (emptied v)

  emptied_place : (v : State) (q : Place) → is_link_port_of n x link q ≡ false → emptied v q ≡ v q
  emptied_place v (LinkHalf e Input) f = rw (and_false (n == e.node) (link == e.link) f) refl
  emptied_place v (LinkHalf e Output) f = rw (and_output (n == e.node) (link == e.link)) refl
  emptied_place v q f = refl

  other_place : (v : State) (q : Place) → is_link_port_of n x link q ≡ false → given_up v q ≡ v q
  other_place v (Ports y) f = rw f refl
  other_place v q f = emptied_place v q f

  input_empty : (v : State) → given_up v input ≡ IsLink Empty
  input_empty v = rw (place_itself p input) refl

  ports_left : (v : State) → ports_in (given_up v (Ports x)) ≡ without_port channel (ports_in (v (Ports x)))
  ports_left v = rw (place_itself p (Ports x)) refl

  module _ (u : State) (a : IsAtOperation p c s n x k Disc u) (choice : Choice)
      (is : running.context.choice ≡ Some choice) (skips : choice.skips ≡ true) (guard : (m.registers.b == 0) ≡ false)
      (is_a_link : is_link channel ≡ true) where
    abbrev context : Context
    context = context_at p c s n x k a.size

    abbrev d : Context
    d = answers false context

    abbrev L : Unit {0} → State → Type 0
    L _ z = LeadsTo p c n z

    abbrev Q : Unit {0} → State → Type 0
    Q _ z = LeadsOrListens (stand_in (z (Standing x))) p c n x z

    module _ (aligned : is_aligned channel ≡ true) (right : is_right_end Input channel ≡ true) where
      small : link < 4
      small = (names_input channel is_a_link aligned right).0

      was : {h : Link} → link_in (u input) ≡ h → input_at s n link ≡ h
      was e = ap link_in (sym (a.on.keeps.others input refl)) ∙ e

      -- the process has enabled it, and nothing is offered there
      abbrev IsOwn : Type 0
      IsOwn = (enabler_on s n link ≡ Some x) × (is_offered (input_at s n link) ≡ false)

      -- the input made the process go on
      fired_leads : input_at s n link ≡ Fired x → IsWordTouched site running.whole (given_up u) Writes w → (s' : State)
          → StandsNow site x (Runs (answers (is_chosen true k.node.machine.store w) context))
          (with_offset (is_chosen true k.node.machine.store w) n w m.registers.a (given_up u)) s' → LeadsTo p c n s'
      fired_leads e t s' now =
          disabled_leads p c s n x k u a choice is skips guard is_a_link aligned right (ap link_enabler e)
          (ap is_offered e) (record {
            placed = t.placed;
            touched = record { free = t.touched.free; unsent = λ f. t.touched.unsent f };
            at = t.at;
            above = t.above;
            within = t.within;
          }) true noticed s' (record {
            stands = now.is;
            words = λ i. now.others (WordAt n i) refl ∙ word chosen i;
            others = λ q h f i. now.others q f ∙ place chosen q h ∙ other_place u q i ∙ a.on.keeps.others q h;
            disabled = now.others input refl ∙ place chosen input refl ∙ input_empty u;
            ports = ap ports_in (now.others (Ports x) refl ∙ place chosen (Ports x) refl) ∙ ports_left u
                ∙ ap (λ (v : Value). without_port channel (ports_in v)) (a.on.keeps.others (Ports x) refl);
          })
        where
          chosen : Bool
          chosen = is_chosen true k.node.machine.store w

          noticed : (link_end m link).noticed ≡ true
          noticed =
              (shown.links link small).fired x
              (input_value (k.shows.named n) (link_end m link).input (s input) (shown.links link small).input
              ∙ ap IsLink e)

          word : (b : Bool) (i : ℕ) → with_offset b n w m.registers.a (given_up u) (WordAt n i)
              ≡ with_offset b n w m.registers.a u (WordAt n i)
          word true i = refl
          word false i = refl

          place : (b : Bool) (q : Place) → is_word_of n q ≡ false
              → with_offset b n w m.registers.a (given_up u) q ≡ given_up u q
          place true q h =
              changed_else n (word_number w) (Put (IsWord (free_word m.registers.a))) (given_up u) q h
          place false q h = refl

      -- the process listens
      module _ (own : IsOwn) (t : IsWordTouched site running.whole u Writes w) (z : State)
          (now : StandsNow site x (Listens channel d) u z) where
        offer_stays : (r : Role) (f : End) → z (offer_place r f) ≡ s (offer_place r f)
        offer_stays Source f = now.others _ refl ∙ a.on.keeps.others _ refl
        offer_stays Processor f = now.others _ refl ∙ a.on.keeps.others _ refl
        offer_stays Sink f = now.others _ refl ∙ a.on.keeps.others _ refl
        offer_stays Nothing f = now.others _ refl ∙ a.on.keeps.others _ refl

        abbrev offers_there : End → Place
        offers_there f = offer_place (role_at p f.node) f

        -- nobody sends there, so no byte was noticed
        unnoticed : (o : Option End) → sender_to p (end_at n link) ≡ o
            → ((f : End) → o ≡ Some f → is_passable (offers_there f) (z (offers_there f)) ≡ false)
            → (link_end m link).noticed ≡ false
        unnoticed o e silent = by (link_end m link).noticed refl
          where
            by : (b : Bool) → (link_end m link).noticed ≡ b → (link_end m link).noticed ≡ false
            by false f = f
            by true f =
                let sender : HasSender p s (end_at n link) = k.shows.noticed n link k.plan k.node k.planned k.here f in
                absurd (true≢false (sym sender.sends
                ∙ ap (is_passable (offers_there sender.from))
                (sym (offer_stays (role_at p sender.from.node) sender.from))
                ∙ silent sender.from (sym e ∙ sender.joined)))

        silent_leads : (link_end m link).noticed ≡ false → (s' : State) → StandsNow site x (Runs d) (given_up z) s'
            → LeadsTo p c n s'
        silent_leads noticed s' runs =
            disabled_leads p c s n x k u a choice is skips guard is_a_link aligned right own.0 own.1 t false noticed s'
            (record {
              stands = runs.is;
              words = λ i. runs.others (WordAt n i) refl ∙ now.others (WordAt n i) refl;
              others = λ q h f i. runs.others q f ∙ other_place z q i ∙ now.others q f ∙ a.on.keeps.others q h;
              disabled = runs.others input refl ∙ input_empty z;
              ports = ap ports_in (runs.others (Ports x) refl) ∙ ports_left z
                  ∙ ap (λ (v : Value). without_port channel (ports_in v))
                  (now.others (Ports x) refl ∙ a.on.keeps.others (Ports x) refl);
            })

        goes_then : (link_end m link).noticed ≡ false → After (goes_on_unfired site x channel d) z L
        goes_then noticed =
            after_bind (require (is_unfired_by x (link_in (z input))) HasNoStep) _ z L
            (after_require (is_unfired_by x (link_in (z input))) HasNoStep z _ (λ unfired.
            stands_then site p x (Runs d) (given_up z) L (λ s' runs. silent_leads noticed s' runs)))

        listens_then : After (listens p x channel d site) z L
        listens_then =
            subst (λ j. After (requires_no_sender p (sender_to p (end_at j link))
            >>= (λ _. goes_on_unfired site x channel d)) z L) (sym running.home)
            (after_bind (requires_no_sender p (sender_to p (end_at n link))) _ z L
            (by (sender_to p (end_at n link)) refl))
          where
            not_true : (b : Bool) → not b ≡ true → b ≡ false
            not_true false e = refl
            not_true true e = absurd (true≢false (sym e))

            none_some : {f : End} → None ≡ Some f → ⊥
            none_some e = cc

            one_is : {f g : End} → Some f ≡ Some g → f ≡ g
            one_is e = cc

            by : (o : Option End) → sender_to p (end_at n link) ≡ o
                → After (requires_no_sender p o) z (λ _ v. After (goes_on_unfired site x channel d) v L)
            by None e = goes_then (unnoticed None e (λ f g. absurd (none_some g)))
            by (Some f) e =
                after_require (not (is_passable (offers_there f) (z (offers_there f)))) SeveralReady z _ (λ silent.
                goes_then (unnoticed (Some f) e (λ g same.
                subst (λ i. is_passable (offers_there i) (z (offers_there i)) ≡ false) (one_is same)
                (not_true _ silent))))

        listening_leads : (s' : State) → Makes p x z s' → LeadsTo p c n s'
        listening_leads s' makes =
            after_step p x z s' L makes
            (subst (λ (v : Value). After (at_site p x.node (stepped p x (stand_in v))) z L) (sym now.is)
            (subst (λ j. After (at_site p j (stepped p x (Listens channel d))) z L) (sym running.home) at_node))
          where
            at_node : After (at_site p n (stepped p x (Listens channel d))) z L
            at_node = rw (k.planned, After) listens_then

        follows : FollowsOnce p c n x z
        follows = (process_due p x z (Listens channel d) now.is refl, listening_leads)

      silent_then : IsOwn → After (begins_to_listen site x context channel) u Q
      silent_then own =
          after_bind (touch_word_at site Writes w) _ u Q (touch_word_at_then site running.whole Writes w u _ (λ t.
          stands_then site p x (Listens channel d) u Q (λ z now.
          subst (λ (v : Value). LeadsOrListens (stand_in v) p c n x z) (sym now.is) (follows own t z now))))

      pending_then : (h : Link) → link_in (u input) ≡ h → After (disables_pending site x context channel h) u Q
      pending_then (Fired y) e =
          after_bind (require (same_name y x) (Breaks LinkBusy)) _ u Q
          (after_require (same_name y x) (Breaks LinkBusy) u _ (λ same.
          selects_then p site running.whole x context (given_up u) k.node.machine.store
          (tells_alike u (given_up u) n k.plan.memory k.node.machine.store (λ i. refl) a.on.tells) m.registers.a
          running.registers.a Q true (λ t s' now.
          runs_on p c n x s' now.is (fired_leads (was e ∙ ap Fired (one_name p y x same)) t s' now))))
      pending_then (Enabled y) e =
          after_bind (require (same_name y x) (Breaks LinkBusy)) _ u Q
          (after_require (same_name y x) (Breaks LinkBusy) u _ (λ same.
          silent_then (ap link_enabler (was e) ∙ ap (λ z. Some z) (one_name p y x same), ap is_offered (was e))))
      pending_then (Awaited y) e =
          after_bind (require (same_name y x) (Breaks LinkBusy)) _ u Q
          (after_require (same_name y x) (Breaks LinkBusy) u _ (λ same.
          silent_then (ap link_enabler (was e) ∙ ap (λ z. Some z) (one_name p y x same), ap is_offered (was e))))
      pending_then Empty e = tt
      pending_then (Offered q) e = tt

    -- the input of a link is disabled
    pub disables_link_then : After (disables_link site x context channel) u Q
    disables_link_then =
        after_bind (require (is_aligned channel) (Breaks Unaligned) >>= (λ _. require (is_right_end Input channel)
        (Breaks WrongEnd))) _ u Q
        (after_bind (require (is_aligned channel) (Breaks Unaligned)) _ u _
        (after_require (is_aligned channel) (Breaks Unaligned) u _ (λ aligned.
        after_require (is_right_end Input channel) (Breaks WrongEnd) u _ (λ right.
        pending_then aligned right (link_in (u input)) refl))))
