-- An operation of an alternative that enables or disables the input of a link.
use Rattle.std.proofs.Common.{◌≡◌, ℕ, ◌+◌, ◌<◌, refl, sym, ap, subst, ◌∙◌, Bool, true, false, true≢false, List}
use Rattle.std.proofs.Common.{arith, ◌⊎◌, inl, inr, Option, Some, None, option_map}
use Rattle.std.specs.Prelude.{◌==◌, ◌&&◌, slice_index_or, option_and_then}
use Rattle.std.proofs.lemmas.Bool.{cases_eq, ne_eqb, eq-eqb}
use Rattle.tword.specs.Stores.{Store}
use Rattle.tword.specs.Touches.{word_place_break}
use Rattle.tcpu.specs.declared.registers.Registers.{Registers}
use Rattle.tproc.specs.declared.channels.Side.{Side}
use Rattle.tproc.specs.declared.channels.Side.TheVariants.{Input, Output}
use Rattle.tproc.specs.declared.offer.Offer.{Offer}
use Rattle.tproc.specs.declared.waiter.LinkEnd.{LinkEnd}
use Rattle.tproc.specs.LinkChannels.{is_link, link_end, quiet_end}
use Rattle.tproc.specs.Machine.{Control, claims_of}
use Rattle.tplan.specs.declared.plan.Plan.{Plan}
use Rattle.tplan.specs.Wires.{end_at}
use Rattle.tnet.specs.Rendezvous.{Node, Configuration}
use Rattle.tprocesses.specs.Places.{Place, Name, WordAt, Sending, Standing, Ports, Half, LinkHalf, Unfinished}
use Rattle.tprocesses.specs.Places.{same_name}
use Rattle.tprocesses.specs.Values.{Value, Context, Runs, Link, Fired, IsStand, IsLink}
use Rattle.tprocesses.specs.Values.{stand_in, half_in, link_in, amount_in}
use Rattle.tprocesses.specs.Choosing.{is_taken}
use Rattle.tprocesses.specs.Machine.{is_offered}
use Rattle.tprocesses.specs.Touching.{word_number}
use Rattle.tseen.specs.Known.{HasRegisters}
use Rattle.tseen.specs.Seats.{Seat}
use Rattle.tseen.specs.Outputs.{Pending}
use Rattle.tseen.specs.Halves.{IsInput, ShowsLink}
use Rattle.tseen.specs.Choices.{Alternative, alternative_of, alternative_at, is_quiet, enabler, enabler_at, enabler_on}
use Rattle.tseen.specs.Choices.{enables, link_enabler, input_at, input_channel, unfired, descriptor_at, is_sent}
use Rattle.tseen.specs.Choices.{HasChoice, HasEnabled, IsEnabled, IsEnabledLink}
use Rattle.tseen.specs.Shown.{ShowsNode}
use Rattle.tseen.specs.Steps.{IsCurrent}
use Rattle.tseen.proofs.After.{State}
use Rattle.tseen.proofs.Cells.{use_of}
use Rattle.tseen.proofs.ChoiceChanged.{IsChanged, choices_changed}
use Rattle.tseen.proofs.ChoicePlain.{IsChoiceWords, is_for_choice, for_choice_open, not_open_for_choice}
use Rattle.tseen.proofs.ChoicePlain.{alternative_context, used, engaged_back, same_size, channel_word, state_stays}
use Rattle.tseen.proofs.ChoicePlain.{same_context}
use Rattle.tseen.proofs.ChoiceShown.{HasGone, gone, is_open, is_choice_place}
use Rattle.tseen.proofs.Finished.{is_stand_of, one_name, place_itself}
use Rattle.tseen.proofs.InputChannels.{input_is_link, unfired_enabler}
use Rattle.tseen.proofs.Running.{RunsThere}
use Rattle.tseen.proofs.Staying.{channels_stay, link_stays}
use Rattle.tseen.proofs.Stepped.{shown_node, there}
use Rattle.tseen.proofs.Written.{is_word_of}

-- a place that changes where the input of a link is enabled or disabled
abbrev pub is_link_port_of : ℕ → Name → (link : ℕ) → Place → Bool
is_link_port_of n x l (Ports y) = same_name x y
is_link_port_of n x l (LinkHalf e Input) = (n == e.node) && (l == e.link)
is_link_port_of n x l _ = false

-- two links have two channel words
pub input_apart : (j l : ℕ) → (j ≡ l → ⊥) → input_channel l ≡ input_channel j → ⊥
input_apart j l h e = h (omega (arith, e))

-- no input is pending where none is offered
pub no_input : (named : Seat → Name) (o : Option Offer) (v : Value) → IsInput named o v → is_offered (link_in v) ≡ false
    → o ≡ None
no_input named None v h e = refl
no_input named (Some o) v h e = absurd (true≢false (sym (ap (λ (z : Value). is_offered (link_in z)) h) ∙ e))

-- and what stands there is what a link has
pub input_value : (named : Seat → Name) (o : Option Offer) (v : Value) → IsInput named o v → v ≡ IsLink (link_in v)
input_value named None v (h, e, f) = e ∙ ap (λ (z : Value). IsLink (link_in z)) (sym e)
input_value named (Some o) v h = h ∙ ap (λ (z : Value). IsLink (link_in z)) (sym h)

module _ (p : Plan) (c : Configuration) (s : State) (n : ℕ) (x : Name) (k : IsCurrent p c s n x) where
  abbrev m : Control
  m = k.node.machine.control

  abbrev store : Store
  store = k.node.machine.store

  abbrev running : RunsThere s n k.plan k.node x
  running = there p c s n x k

  abbrev shown : ShowsNode s n k.plan (k.shows.named n) (k.shows.sent n) k.node
  shown = shown_node p c s n x k

  abbrev w : ℕ
  w = m.registers.wptr

  module _ (l : ℕ) where
    -- the process has gone on, and has enabled or disabled the input of the link. pending: what stands there now
    pub record IsLinkPortChange (s' : State) (after : Registers) (links : List LinkEnd) (last : Store) (d : Context)
        : Type 0 where
      pub changes : IsChoiceWords p c s n x k s' last
      pub stands : s' (Standing x) ≡ IsStand (Runs d)
      pub knows : HasRegisters running.level after d
      pub same_wptr : after.wptr ≡ w
      pub same_error : after.error ≡ m.registers.error
      pub same_halting : after.halt_on_error ≡ m.registers.halt_on_error
      pub others : (q : Place) → is_word_of n q ≡ false → is_stand_of x q ≡ false → is_link_port_of n x l q ≡ false
          → s' q ≡ s q
      -- the alternative of the process
      pub own_choice : (a : Alternative) → alternative_at s' n x ≡ Some a → HasChoice s' n links last x a
      pub own_apart : (y : Name) (b : Alternative) → same_name x y ≡ false → y.node ≡ n → alternative_at s n y ≡ Some b
          → b.wptr ≡ w → (a : Alternative) → alternative_at s' n x ≡ Some a → ⊥
      pub own_keeps : (a : Alternative) × (alternative_at s' n x ≡ Some a)
      -- the input of the link, before and after
      pub small : l < 4
      pub before : (enabler_on s n l ≡ None) ⊎ (enabler_on s n l ≡ Some x)
      pub free : is_offered (input_at s n l) ≡ false
      pub pending : Link
      pub half : s' (LinkHalf (end_at n l) Input) ≡ IsLink pending
      pub not_offered : is_offered pending ≡ false
      pub after_by : (link_enabler pending ≡ None) ⊎ (link_enabler pending ≡ Some x)
      -- the link, before and after
      pub other_ends : (j : ℕ) → (j ≡ l → ⊥) → slice_index_or links j quiet_end ≡ link_end m j
      pub same_input : (slice_index_or links l quiet_end).input ≡ (link_end m l).input
      pub same_output : (slice_index_or links l quiet_end).output ≡ (link_end m l).output
      pub same_noticed : (slice_index_or links l quiet_end).noticed ≡ (link_end m l).noticed
      pub same_claims : claims_of (record m { links = links }) ≡ claims_of m
      pub remembered : (link_end m l).noticed ≡ false
          → (slice_index_or links l quiet_end).remembered ≡ option_and_then (descriptor_at s' n) (unfired pending)
      pub forgotten : (link_end m l).noticed ≡ true → (slice_index_or links l quiet_end).remembered ≡ None
      pub fired : (y : Name) → pending ≡ Fired y → (link_end m l).noticed ≡ true
      -- the channels that the process has enabled
      pub ports_back : (e : ℕ) → (input_channel l ≡ e → ⊥) → enables s' n x e ≡ true → enables s n x e ≡ true
      pub ports_on : (e : ℕ) → (input_channel l ≡ e → ⊥) → enables s n x e ≡ true → enables s' n x e ≡ true
      pub port_back : enables s' n x (input_channel l) ≡ true → link_enabler pending ≡ Some x
      pub port_there : link_enabler pending ≡ Some x → enables s' n x (input_channel l) ≡ true

    module _ (s' : State) (after : Registers) (count : ℕ) (links : List LinkEnd) (last : Store) (d : Context)
        (g : IsLinkPortChange s' after links last d) where
      stand_stays : (y : Name) → same_name x y ≡ false → s' (Standing y) ≡ s (Standing y)
      stand_stays y h = g.others (Standing y) refl h refl

      halves : (a : ℕ) (side : Side) → s' (Half n a side) ≡ s (Half n a side)
      halves a side = g.others (Half n a side) refl refl refl

      enabler_is : (e : ℕ) → enabler_at s' n e ≡ enabler_at s n e
      enabler_is e = ap (λ (v : Value). enabler (half_in v)) (halves e Input)

      sent_is : (e : ℕ) → is_sent s' n e ≡ is_sent s n e
      sent_is e = ap (λ (v : Value). is_taken (half_in v)) (halves e Output)

      -- another link
      other_half : (j : ℕ) (side : Side) → (j ≡ l → ⊥)
          → s' (LinkHalf (end_at n j) side) ≡ s (LinkHalf (end_at n j) side)
      other_half j Input h =
          g.others (LinkHalf (end_at n j) Input) refl refl (rw (eq-eqb n n refl, ne_eqb l j (λ e. h (sym e))) refl)
      other_half j Output h = g.others (LinkHalf (end_at n j) Output) refl refl refl

      other_on : (j : ℕ) → (j ≡ l → ⊥) → enabler_on s' n j ≡ enabler_on s n j
      other_on j h = ap (λ (v : Value). link_enabler (link_in v)) (other_half j Input h)

      on_now : enabler_on s' n l ≡ link_enabler g.pending
      on_now = ap (λ (v : Value). link_enabler (link_in v)) g.half

      noticed_is : (j : ℕ) → (slice_index_or links j quiet_end).noticed ≡ (link_end m j).noticed
      noticed_is j = by (cases_eq j l)
        where
          by : (j ≡ l) ⊎ (j ≡ l → ⊥) → (slice_index_or links j quiet_end).noticed ≡ (link_end m j).noticed
          by (inl e) =
              subst (λ i. (slice_index_or links i quiet_end).noticed ≡ (link_end m i).noticed) (sym e) g.same_noticed
          by (inr h) = ap (λ (z : LinkEnd). z.noticed) (g.other_ends j h)

      none_some : {y : Name} → None ≡ Some y → ⊥
      none_some e = cc

      not_own : (y : Name) → same_name x y ≡ false → Some x ≡ Some y → ⊥
      not_own y f e = true≢false (sym (place_itself p (Standing x)) ∙ ap (same_name x) (one_is e) ∙ f)
        where
          one_is : Some x ≡ Some y → x ≡ y
          one_is i = cc

      -- the input that another process has enabled is another one
      apart_from : (j : ℕ) (y : Name) → same_name x y ≡ false → enabler_on s n j ≡ Some y → j ≡ l → ⊥
      apart_from j y f h same = by g.before
        where
          at : enabler_on s n l ≡ Some y
          at = ap (enabler_on s n) (sym same) ∙ h

          by : (enabler_on s n l ≡ None) ⊎ (enabler_on s n l ≡ Some x) → ⊥
          by (inl i) = none_some (sym i ∙ at)
          by (inr i) = not_own y f (sym i ∙ at)

      linked_back : (j : ℕ) (y : Name) → same_name x y ≡ false → enabler_on s' n j ≡ Some y
          → enabler_on s n j ≡ Some y
      linked_back j y f h = by (cases_eq j l)
        where
          by : (j ≡ l) ⊎ (j ≡ l → ⊥) → enabler_on s n j ≡ Some y
          by (inr i) = sym (other_on j i) ∙ h
          by (inl i) = absurd (of g.after_by)
            where
              at : link_enabler g.pending ≡ Some y
              at = sym on_now ∙ ap (enabler_on s' n) (sym i) ∙ h

              of : (link_enabler g.pending ≡ None) ⊎ (link_enabler g.pending ≡ Some x) → ⊥
              of (inl r) = none_some (sym r ∙ at)
              of (inr r) = not_own y f (sym r ∙ at)

      context_same : (a b : Alternative) → alternative_at s n x ≡ Some a → alternative_at s' n x ≡ Some b
          → a.wptr + a.priority ≡ b.wptr + b.priority
      context_same = same_context p c s n x k s' after d g.stands g.knows g.same_wptr

      -- the process runs
      not_waiting : (a : Alternative) → alternative_at s' n x ≡ Some a → a.waits ≡ true → ⊥
      not_waiting a i f =
          true≢false (sym f ∙ (alternative_context true false d a
          (sym (ap (λ (v : Value). alternative_of (stand_in v)) g.stands) ∙ i)).3)

      has_enabled : (e : ℕ) → (input_channel l ≡ e → ⊥) → HasEnabled s n e x → HasEnabled s' n e x
      has_enabled e h (inl (internal, f)) = inl (internal, enabler_is e ∙ f)
      has_enabled e h (inr (j, b, is, f)) =
          inr (j, b, is, other_on j (λ i. h (ap input_channel (sym i) ∙ sym is)) ∙ f)

      own_ports : (e : ℕ) → x.node ≡ n → enables s' n x e ≡ true → (input_channel l ≡ e) ⊎ (input_channel l ≡ e → ⊥)
          → HasEnabled s' n e x
      own_ports e home h (inl i) =
          inr (l, g.small, sym i, on_now ∙ g.port_back (ap (enables s' n x) i ∙ h))
      own_ports e home h (inr i) = has_enabled e i (shown.choices.owner x e home (g.ports_back e i h)).2

      own_enabled : (e : ℕ) → enabler_at s' n e ≡ Some x → IsEnabled s' n last e x
      own_enabled e h =
          let old : IsEnabled s n store e x = shown.choices.enabled e x (sym (enabler_is e) ∙ h) in
          let own = shown.choices.owner x e old.home old.port in
          record {
            internal = old.internal;
            home = old.home;
            port = g.ports_on e
                (λ i. true≢false (sym (input_is_link l g.small) ∙ ap is_link i ∙ old.internal)) old.port;
            placed = subst (λ z. word_place_break z e ≡ None) (sym (same_size p c s n x k s' last g.changes))
                old.placed;
            engaged = used p c s n x k s' last g.changes (word_number e) (ap is_for_choice old.engaged) ∙ old.engaged;
            names = λ f a i. channel_word p c s n x k s' last g.changes e old.placed old.engaged
                ∙ old.names (sym (sent_is e) ∙ f) own.0 own.1 ∙ context_same own.0 a own.1 i;
            awaited = λ a i f. absurd (not_waiting a i f);
          }

      own_linked : (j : ℕ) → j < 4 → enabler_on s' n j ≡ Some x → IsEnabledLink s' n j x
      own_linked j b h = by (cases_eq j l)
        where
          by : (j ≡ l) ⊎ (j ≡ l → ⊥) → IsEnabledLink s' n j x
          by (inl i) =
              record {
                home = running.home;
                port = ap (λ z. enables s' n x (input_channel z)) i
                    ∙ g.port_there (sym on_now ∙ ap (enabler_on s' n) (sym i) ∙ h);
                awaited = λ a r f. absurd (not_waiting a r f);
              }
          by (inr i) =
              let old : IsEnabledLink s n j x = shown.choices.linked j x b (sym (other_on j i) ∙ h) in
              record {
                home = old.home;
                port = g.ports_on (input_channel j) (input_apart j l i) old.port;
                awaited = λ a r f. absurd (not_waiting a r f);
              }

      changed_choice : IsChanged p s s' n m.links links store last x
      changed_choice =
          record {
            stands = λ y f home. ap (λ (v : Value). alternative_of (stand_in v)) (stand_stays y f);
            quiet = λ y f home e. ap (λ (v : Value). is_quiet (stand_in v)) (stand_stays y f) ∙ e;
            ports = λ y f home. g.others (Ports y) refl refl f;
            inputs = λ e y f h. enabler_is e ∙ h;
            inputs_back = λ e y f h. sym (enabler_is e) ∙ h;
            held = λ e y f h. ap half_in (halves e Input) ∙ h;
            sent = λ e y f h. sent_is e;
            unsent = λ j e z. ap amount_in (g.others (Sending n j) refl refl refl) ∙ z;
            size = same_size p c s n x k s' last g.changes;
            states = state_stays p c s n x k s' last g.changes;
            words = λ e y f h it. (
              used p c s n x k s' last g.changes (word_number e) (ap is_for_choice it.engaged) ∙ it.engaged,
              channel_word p c s n x k s' last g.changes e it.placed it.engaged,
            );
            linked = λ j y f h. other_on j (apart_from j y f h) ∙ h;
            linked_back = linked_back;
            awaited = λ j y f h. ap link_in (other_half j Input (apart_from j y f (ap link_enabler h))) ∙ h;
            noticed = λ j y f h. noticed_is j;
            own_quiet = ap (λ (v : Value). is_quiet (stand_in v)) g.stands;
            own_choice = g.own_choice;
            own_apart = λ a e y b f home is same. g.own_apart y b f home is (sym same ∙ workspace a e) a e;
            own_ports = λ e home h. (g.own_keeps.0, g.own_keeps.1, own_ports e home h (cases_eq (input_channel l) e));
            own_enabled = own_enabled;
            own_linked = own_linked;
          }
        where
          workspace : (a : Alternative) → alternative_at s' n x ≡ Some a → a.wptr ≡ w
          workspace a e =
              (alternative_context true false d a
              (sym (ap (λ (v : Value). alternative_of (stand_in v)) g.stands) ∙ e)).0
              ∙ g.knows.wptr ∙ g.same_wptr

      -- who has enabled the input of a link has the same descriptor
      descriptor_is : (j : ℕ) → j < 4 → (y : Name) → unfired (input_at s n j) ≡ Some y
          → descriptor_at s' n y ≡ descriptor_at s n y
      descriptor_is j b y e = by (same_name x y) refl
        where
          old : IsEnabledLink s n j y
          old = shown.choices.linked j y b (unfired_enabler (input_at s n j) y e)

          own_is : x.node ≡ n → enables s n x (input_channel j) ≡ true → descriptor_at s' n x ≡ descriptor_at s n x
          own_is home port =
              let own = shown.choices.owner x (input_channel j) home port in
              ap described g.own_keeps.1
              ∙ ap (λ z. Some z) (sym (context_same own.0 g.own_keeps.0 own.1 g.own_keeps.1))
              ∙ sym (ap described own.1)
            where
              described : Option Alternative → Option ℕ
              described o = option_map (λ (a : Alternative). a.wptr + a.priority) o

          by : (t : Bool) → same_name x y ≡ t → descriptor_at s' n y ≡ descriptor_at s n y
          by false f = ap (λ (v : Value). option_map (λ (a : Alternative). a.wptr + a.priority)
              (alternative_of (stand_in v))) (stand_stays y f)
          by true f =
              let same : x ≡ y = one_name p x y f in
              subst (λ z. descriptor_at s' n z ≡ descriptor_at s n z) same
              (own_is (ap (λ (z : Name). z.node) same ∙ old.home)
              (ap (λ z. enables s n z (input_channel j)) same ∙ old.port))

      abbrev named : Seat → Name
      named = k.shows.named n

      abbrev sent : ℕ → Option Pending
      sent = k.shows.sent n

      abbrev node' : Node
      node' = record k.node { machine = gone p c s n x k after count links last }

      -- the link
      own_link : ShowsLink s' n named sent node' l
      own_link =
          record {
            input = subst (λ o. IsInput named o (s' (LinkHalf (end_at n l) Input))) (sym (g.same_input ∙ nothing))
                (g.pending, g.half, g.not_offered);
            output = g.others (LinkHalf (end_at n l) Output) refl refl refl ∙ old.output;
            unfinished = g.others (Unfinished (end_at n l)) refl refl refl ∙ old.unfinished;
            offered = λ o e. old.offered o (sym g.same_output ∙ e);
            fresh = λ e. old.fresh (sym g.same_output ∙ e);
            unnoticed = λ o e. absurd (differ (sym nothing ∙ sym g.same_input ∙ e));
            remembered = λ e. g.remembered (sym g.same_noticed ∙ e)
                ∙ ap (λ (v : Value). option_and_then (descriptor_at s' n) (unfired (link_in v))) (sym g.half);
            forgotten = λ e. g.forgotten (sym g.same_noticed ∙ e);
            fired = λ y e. g.same_noticed ∙ g.fired y (one_link (sym g.half ∙ e));
            pending = λ q e f. (let o = old.pending q e f in (o.0, g.same_output ∙ o.1));
          }
        where
          old : ShowsLink s n named sent k.node l
          old = shown.links l g.small

          nothing : (link_end m l).input ≡ None
          nothing = no_input named (link_end m l).input (s (LinkHalf (end_at n l) Input)) old.input g.free

          differ : {o : Offer} → None ≡ Some o → ⊥
          differ e = cc

          one_link : {a b : Link} → IsLink a ≡ IsLink b → a ≡ b
          one_link e = cc

      links_now : (j : ℕ) → j < 4 → ShowsLink s' n named sent node' j
      links_now j b = by (cases_eq j l)
        where
          by : (j ≡ l) ⊎ (j ≡ l → ⊥) → ShowsLink s' n named sent node' j
          by (inl e) = subst (ShowsLink s' n named sent node') (sym e) own_link
          by (inr h) =
              link_stays s s' n named named sent k.node node' j (λ v. refl) (λ side. other_half j side h)
              (g.others (Unfinished (end_at n j)) refl refl refl) (descriptor_is j b) (g.other_ends j h) refl
              (shown.links j b)

      inputs_same : (j : ℕ) → (slice_index_or links j quiet_end).input ≡ (link_end m j).input
      inputs_same j = by (cases_eq j l)
        where
          by : (j ≡ l) ⊎ (j ≡ l → ⊥) → (slice_index_or links j quiet_end).input ≡ (link_end m j).input
          by (inl e) =
              subst (λ i. (slice_index_or links i quiet_end).input ≡ (link_end m i).input) (sym e) g.same_input
          by (inr h) = ap (λ (z : LinkEnd). z.input) (g.other_ends j h)

      -- so the process has gone on
      pub link_port_gone : HasGone p c s n x k s' after count links last d
      link_port_gone =
          record {
            tells = g.changes.tells;
            stands = g.stands;
            knows = g.knows;
            same_wptr = g.same_wptr;
            same_error = g.same_error;
            same_halting = g.same_halting;
            others = other;
            words = λ j. opened j (g.changes.words j);
            only = λ i h. g.changes.only i (not_open_for_choice (use_of s n _) h);
            channels = channels_stay s s' n named named k.node.machine (gone p c s n x k after count links last)
                (λ b. refl)
                (λ j e. used p c s n x k s' last g.changes j (ap is_for_choice e) ∙ e)
                (engaged_back p c s n x k s' last g.changes) halves (λ b. refl)
                (same_size p c s n x k s' last g.changes) (channel_word p c s n x k s' last g.changes)
                shown.channels;
            choices = choices_changed p s s' n m.links links store last x changed_choice shown.choices;
            same_inputs = inputs_same;
            same_claims = g.same_claims;
            notices = λ j e. sym (noticed_is j) ∙ e;
            linked = links_now;
          }
        where
          opened : (j : ℕ) → (s' (WordAt n j) ≡ s (WordAt n j))
              ⊎ ((is_for_choice (use_of s n j) ≡ true) × (is_for_choice (use_of s' n j) ≡ true))
              → (s' (WordAt n j) ≡ s (WordAt n j))
              ⊎ ((is_open (use_of s n j) ≡ true) × (is_open (use_of s' n j) ≡ true))
          opened j (inl e) = inl e
          opened j (inr e) = inr (for_choice_open _ e.0, for_choice_open _ e.1)

          other : (q : Place) → is_choice_place n x q ≡ false → s' q ≡ s q
          other (WordAt i j) h = g.others (WordAt i j) h refl refl
          other (Standing y) h = g.others (Standing y) refl h refl
          other (Ports y) h = g.others (Ports y) refl refl h
          other (LinkHalf e Input) h = g.others (LinkHalf e Input) refl refl (rw h refl)
          other q h = g.others q refl refl refl
