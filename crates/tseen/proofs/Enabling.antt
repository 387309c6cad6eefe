-- `enbc` of the input of a link, by what stands there.
use Rattle.std.proofs.Common.{◌≡◌, ℕ, ◌<◌, refl, sym, ap, ◌∙◌, Bool, true, false}
use Rattle.std.proofs.Common.{inl, inr, Some, pos}
use Rattle.std.specs.Prelude.{◌==◌, ◌&&◌}
use Rattle.tword.specs.declared.breaks.Break.TheVariants.{LinkBusy, Unaligned, WrongEnd}
use Rattle.tword.specs.Touches.{is_aligned}
use Rattle.tcode.specs.declared.instruction.Operation.TheVariants.{Enbc}
use Rattle.tproc.specs.declared.channels.Side.TheVariants.{Input, Output}
use Rattle.tproc.specs.LinkChannels.{is_link, is_right_end, link_end}
use Rattle.tproc.specs.Machine.{Control}
use Rattle.tplan.specs.declared.plan.Plan.{Plan}
use Rattle.tnet.specs.Rendezvous.{Configuration}
use Rattle.tprocesses.specs.Places.{Place, Name, WordAt, Sending, Ports, LinkHalf, same_name}
use Rattle.tprocesses.specs.Values.{Value, Choice, Context, Runs, Link, Empty, Offered, Enabled}
use Rattle.tprocesses.specs.Values.{Awaited}
use Rattle.tprocesses.specs.Values.{Fired, IsLink, ArePorts, link_in, ports_in, amount_in}
use Rattle.tprocesses.specs.Changes.{Change, Put}
use Rattle.tprocesses.specs.Parts.{require, Breaks, ◌>>=◌}
use Rattle.tprocesses.specs.Standing.{goes_on}
use Rattle.tprocesses.specs.Touching.{Site}
use Rattle.tprocesses.specs.Choosing.{drop_channel, with_port, changes_ports, enables_link, enables_pending}
use Rattle.tprocesses.specs.Machine.{site_of, is_offered}
use Rattle.tseen.specs.Choices.{input_at}
use Rattle.tseen.specs.Choices.{link_enabler}
use Rattle.tseen.specs.AgentSteps.{NothingStops}
use Rattle.tseen.specs.Shown.{ShowsNode}
use Rattle.tseen.specs.Steps.{IsCurrent, LeadsTo}
use Rattle.tseen.proofs.After.{State, After, changed, after_bind, after_require}
use Rattle.tseen.proofs.AtOperation.{IsAtOperation, context_at}
use Rattle.tseen.proofs.Finished.{one_name, place_itself, StandsNow, stands_then}
use Rattle.tseen.proofs.LinkPort.{is_link_port_of, input_value}
use Rattle.tseen.proofs.OwnLink.{names_input}
use Rattle.tseen.proofs.Running.{RunsThere}
use Rattle.tseen.proofs.Saving.{below}
use Rattle.tseen.proofs.Stepped.{shown_node, there}
use Rattle.tseen.proofs.EnbcLink.{l, half, enabled_leads}

module _ (p : Plan) (c : Configuration) (s : State) (n : ℕ) (x : Name) (k : IsCurrent p c s n x) where
  abbrev m : Control
  m = k.node.machine.control

  abbrev running : RunsThere s n k.plan k.node x
  running = there p c s n x k

  abbrev shown : ShowsNode s n k.plan (k.shows.named n) (k.shows.sent n) k.node
  shown = shown_node p c s n x k

  abbrev site : Site
  site = site_of n k.plan

  abbrev w : ℕ
  w = m.registers.wptr

  abbrev channel : ℕ
  channel = m.registers.b

  abbrev link : ℕ
  link = l p c s n x k

  abbrev input : Place
  input = half p c s n x k

  module _ (u : State) (a : IsAtOperation p c s n x k Enbc u) (choice : Choice)
      (is : running.context.choice ≡ Some choice) (clear : amount_in (u (Sending n (below w 3))) ≡ pos 0)
      (guard : (m.registers.a == 0) ≡ false) (is_a_link : is_link channel ≡ true)
      (aligned : is_aligned channel ≡ true) (right : is_right_end Input channel ≡ true) where
    abbrev d : Context
    d = drop_channel (context_at p c s n x k a.size)

    small : link < 4
    small = (names_input channel is_a_link aligned right).0

    abbrev L : Unit {0} → State → Type 0
    L _ z = NothingStops p z → LeadsTo p c n z

    -- the rest of `enbc`
    abbrev Goes : Unit {0} → State → Type 0
    Goes _ z = After (goes_on x d) z L

    abbrev ports_put : State → Change
    ports_put v = Put (ArePorts (with_port channel (ports_in (v (Ports x)))))

    -- what stood at the input
    input_was : u input ≡ IsLink (link_in (u input))
    input_was =
        let e : u input ≡ s input = a.on.keeps.others input refl in
        e ∙ input_value (k.shows.named n) (link_end m link).input (s input) (shown.links link small).input
        ∙ ap (λ (v : Value). IsLink (link_in v)) (sym e)

    was : {h : Link} → link_in (u input) ≡ h → input_at s n link ≡ h
    was e = ap link_in (sym (a.on.keeps.others input refl)) ∙ e

    and_false : (b e : Bool) → (b && e) ≡ false → (b && e && true) ≡ false
    and_false true true h = h
    and_false true false h = refl
    and_false false e h = refl

    and_output : (b e : Bool) → (b && e && false) ≡ false
    and_output true true = refl
    and_output true false = refl
    and_output false e = refl

    abbrev put : State
    put = changed input (Put (IsLink (Enabled x))) u

    put_place : (q : Place) → is_link_port_of n x link q ≡ false → put q ≡ u q
    put_place (LinkHalf e Input) f = rw (and_false (n == e.node) (link == e.link) f) refl
    put_place (LinkHalf e Output) f = rw (and_output (n == e.node) (link == e.link)) refl
    put_place q f = refl

    ports_place : (v : State) (q : Place) → is_link_port_of n x link q ≡ false
        → changed (Ports x) (ports_put v) v q ≡ v q
    ports_place v (Ports y) f = rw f refl
    ports_place v q f = refl

    -- nobody had enabled it
    new_leads : link_in (u input) ≡ Empty → (s' : State)
        → StandsNow site x (Runs d) (changed (Ports x) (ports_put put) put) s' → LeadsTo p c n s'
    new_leads e s' now =
        enabled_leads p c s n x k u a choice is clear guard is_a_link aligned right s' (record {
          stands = now.is;
          words = λ i. now.others (WordAt n i) refl;
          others = λ q h f i. now.others q f ∙ ports_place put q i ∙ put_place q i ∙ a.on.keeps.others q h;
          enabled = now.others input refl ∙ rw (place_itself p input) refl;
          ports = ap ports_in (now.others (Ports x) refl)
              ∙ rw (place_itself p (Ports x)) (ap (λ (v : Value). with_port channel (ports_in v))
              (a.on.keeps.others (Ports x) refl));
          before = inl (ap link_enabler (was e));
          free = ap is_offered (was e);
        }) (link_end m link).noticed refl

    -- the process had
    again_leads : link_in (u input) ≡ Enabled x → (s' : State)
        → StandsNow site x (Runs d) (changed (Ports x) (ports_put u) u) s' → LeadsTo p c n s'
    again_leads e s' now =
        enabled_leads p c s n x k u a choice is clear guard is_a_link aligned right s' (record {
          stands = now.is;
          words = λ i. now.others (WordAt n i) refl;
          others = λ q h f i. now.others q f ∙ ports_place u q i ∙ a.on.keeps.others q h;
          enabled = now.others input refl ∙ input_was ∙ ap IsLink e;
          ports = ap ports_in (now.others (Ports x) refl)
              ∙ rw (place_itself p (Ports x)) (ap (λ (v : Value). with_port channel (ports_in v))
              (a.on.keeps.others (Ports x) refl));
          before = inr (ap link_enabler (was e));
          free = ap is_offered (was e);
        }) (link_end m link).noticed refl

    pending_then : (h : Link) → link_in (u input) ≡ h
        → After (enables_pending site x channel h >>= (λ _. changes_ports x (with_port channel))) u Goes
    pending_then Empty e =
        stands_then site p x (Runs d) (changed (Ports x) (ports_put put) put) L (λ s' now none. new_leads e s' now)
    pending_then (Enabled y) e =
        after_bind (require (same_name y x) (Breaks LinkBusy)) _ u Goes
        (after_require (same_name y x) (Breaks LinkBusy) u _ (λ same.
        stands_then site p x (Runs d) (changed (Ports x) (ports_put u) u) L (λ s' now none.
        again_leads (e ∙ ap (λ z. Enabled z) (one_name p y x same)) s' now)))
    pending_then (Offered q) e = tt
    pending_then (Awaited y) e = tt
    pending_then (Fired y) e = tt

  -- a link is enabled
  pub link_then : (u : State) (a : IsAtOperation p c s n x k Enbc u) (choice : Choice)
      → running.context.choice ≡ Some choice → amount_in (u (Sending n (below w 3))) ≡ pos 0
      → (m.registers.a == 0) ≡ false → is_link channel ≡ true
      → After (enables_link site x channel) u (λ _ z.
      After (goes_on x (drop_channel (context_at p c s n x k a.size))) z
      (λ _ t. NothingStops p t → LeadsTo p c n t))
  link_then u a choice is clear guard is_a_link =
      after_bind (require (is_aligned channel) (Breaks Unaligned) >>= (λ _. require (is_right_end Input channel)
      (Breaks WrongEnd))) _ u _
      (after_bind (require (is_aligned channel) (Breaks Unaligned)) _ u _
      (after_require (is_aligned channel) (Breaks Unaligned) u _ (λ aligned.
      after_require (is_right_end Input channel) (Breaks WrongEnd) u _ (λ right.
      pending_then u a choice is clear guard is_a_link aligned right (link_in (u input)) refl))))
