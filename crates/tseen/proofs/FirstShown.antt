-- What the first of two processes at an internal channel leads to is shown after its step.
use Rattle.tseen.specs.Choices.{enabler}
use Rattle.tprocesses.specs.Places.{Sending, LinkHalf}
use Rattle.tprocesses.specs.Values.{amount_in}
use Rattle.tseen.proofs.Choices.{state_lasts}
use Rattle.tseen.specs.Words.{use_at}
use Rattle.tproc.specs.declared.channels.Side.TheVariants.{Input, Output}
use Rattle.tprocesses.specs.Choosing.{is_taken as is_taken_half}
use Rattle.tseen.proofs.Taken.{was_free}
use Rattle.tprocesses.specs.Places.{Ports}
use Rattle.tseen.specs.Choices.{enabler_at}
use Rattle.tseen.proofs.Choices.{is_lasting, lasting_not_free, stands_alike, quiet_alike, choices_kept, AreKeptChoices}
use Rattle.std.proofs.Common.{◌*◌, ◌≡◌, ◌≢◌, ℕ, ◌+◌, ◌≤◌, refl, sym, ap, subst, ◌∙◌, Bool, true, false, List}
use Rattle.std.proofs.Common.{length, Some, None, arith}
use Rattle.std.proofs.lemmas.Bool.{eqb-true}
use Rattle.tword.specs.Words.{most_neg}
use Rattle.tword.specs.Stores.{Store, word_at, place}
use Rattle.tword.specs.Touches.{word_place_break}
use Rattle.tproc.specs.declared.channels.Side.{Side}
use Rattle.tproc.specs.Queues.{not_process}
use Rattle.tplan.specs.declared.plan.Plan.{Plan}
use Rattle.tnet.specs.Rendezvous.{Configuration}
use Rattle.tprocesses.specs.Places.{Name, WordAt, Standing, Half}
use Rattle.tprocesses.specs.Places.{same_name, same_place}
use Rattle.tprocesses.specs.Values.{TakenBy, Value, Free, Engaged}
use Rattle.tprocesses.specs.Values.{Request}
use Rattle.tprocesses.specs.Values.{IsHalf, word_in, half_in}
use Rattle.tprocesses.specs.Touching.{Site, word_number}
use Rattle.tprocesses.specs.Machine.{site_of}
use Rattle.tseen.specs.Shown.{ShowsNode}
use Rattle.tseen.specs.Steps.{IsCurrent, LeadsTo}
use Rattle.tseen.proofs.FirstWords.{made, stepped, unfree_stays, word_stays_after, hidden_still}
use Rattle.tseen.proofs.FirstWords.{IsLaid, made_laid}
use Rattle.tseen.proofs.Spans.{word_placed}
use Rattle.tseen.proofs.After.{State}
use Rattle.tseen.proofs.Cells.{use_of}
use Rattle.tseen.proofs.Writing.{word_lies}
use Rattle.tseen.proofs.Running.{RunsThere}
use Rattle.tseen.proofs.Stepped.{shown_node, there, leads_there}
use Rattle.tseen.proofs.Renamed.{one_half}
use Rattle.tseen.proofs.Asked.{side_of}
use Rattle.tseen.proofs.Taken.{HasTaken}
use Rattle.tseen.proofs.HalfShown.{named', node_now, stay, enabler_stays, elsewhere}
use Rattle.tseen.proofs.TakenWords.{alternative_now, alternative_before, quiet_now}
use Rattle.tseen.proofs.InputChannels.{inputs_stay}
use Rattle.tseen.proofs.NoticedOffers.{outputs_stay}
use Rattle.tproc.specs.declared.waiter.LinkEnd.{LinkEnd}
use Rattle.tplan.specs.Wires.{end_at}

module _ (p : Plan) (c : Configuration) (s : State) (n : ℕ) (x : Name) (k : IsCurrent p c s n x) (v : State)
    (h : HasTaken p c s n x k v)
    (finds : word_at k.node.machine.store k.node.machine.control.registers.b ≡ not_process) where
  abbrev store : Store
  store = k.node.machine.store

  abbrev site : Site
  site = site_of n k.plan

  abbrev links : List LinkEnd
  links = k.node.machine.control.links

  abbrev running : RunsThere s n k.plan k.node x
  running = there p c s n x k

  abbrev shown : ShowsNode s n k.plan (k.shows.named n) (k.shows.sent n) k.node
  shown = shown_node p c s n x k

  abbrev channel : ℕ
  channel = k.node.machine.control.registers.b

  abbrev last : Store
  last = (made p c s n x k v h).store

  abbrev laid : IsLaid p c s n x k v h last
  laid = made_laid p c s n x k v h

  free : use_of s n (word_number channel) ≡ Free
  free = was_free p c s n x k v h finds

  not_free : Engaged ≡ Free → ⊥
  not_free e = cc

  -- nobody has a half of the channel, or has enabled it
  alone : (t : Side) (q : Request) → s (Half n channel t) ≡ IsHalf (TakenBy q) → ⊥
  alone t q e = not_free (sym (shown.channels.taken channel t q e).engaged ∙ free)

  not_enabled : (y : Name) → enabler_at s n channel ≡ Some y → ⊥
  not_enabled y e = not_free (sym (shown.choices.enabled channel y e).engaged ∙ free)

  -- the halves of a channel that is enabled stay
  enabled_half : (a : ℕ) (y : Name) (t : Side) → enabler_at s n a ≡ Some y → v (Half n a t) ≡ s (Half n a t)
  enabled_half a y t e = by (same_place (Half n channel (side_of h.operation)) (Half n a t)) refl
    where
      by : (b : Bool) → same_place (Half n channel (side_of h.operation)) (Half n a t) ≡ b
          → v (Half n a t) ≡ s (Half n a t)
      by false f = stay p c s n x k v h last laid alone (Half n a t) refl f refl
      by true f =
          absurd (not_enabled y (ap (enabler_at s n) (one_half p n channel a (side_of h.operation) t f).0 ∙ e))

  lasting_other : (i : ℕ) → is_lasting (use_of s n i) ≡ true → i ≢ word_number channel
  lasting_other i e f = lasting_not_free e (ap (use_of s n) f ∙ free)

  lasting_word : (a : ℕ) → word_place_break (length store) a ≡ None → is_lasting (use_at s n a) ≡ true
      → word_at last a ≡ word_at store a
  lasting_word a there e =
      let l : (place a ≡ 4 * word_number a) × (most_neg ≤ a) × (4 * word_number a + 4 ≤ k.plan.memory) =
      word_lies site running.whole a (subst (λ z. word_place_break z a ≡ None) shown.size there) in
      word_stays_after p c s n x k v h a (record {
        above = l.1;
        within = omega (arith, l.0, l.1, l.2);
        aligned = eqb-true _ _ (word_placed (length store) a there).0;
      }) (lasting_not_free e) (lasting_other (word_number a) e)

  kept : AreKeptChoices s v n links links store last
  kept =
      record {
        stands = λ y e. stands_alike p s v n x stand_stays (alternative_now p c s n x k v h
            ∙ sym (alternative_before p c s n x k v h)) y;
        quiet = λ y e f. quiet_alike p s v n x stand_stays (quiet_now p c s n x k v h) y f;
        ports = λ y e. stay p c s n x k v h last laid alone (Ports y) refl refl refl;
        linked = inputs_stay s v n links links
            (λ l. stay p c s n x k v h last laid alone (LinkHalf (end_at n l) Input) refl refl refl) refl;
        inputs = enabler_stays p c s n x k v h last laid alone;
        held = λ a y e. ap half_in (enabled_half a y Input (ap enabler e)) ∙ e;
        unsent = λ i e z. ap amount_in (stay p c s n x k v h last laid alone (Sending n i) refl refl refl) ∙ z;
        sent = λ a y e. ap (λ (z : Value). is_taken_half (half_in z)) (enabled_half a y Output e);
        choosing = λ i e. lasting i (state_lasts (use_of s n i) e);
        engaged = λ a y e f. ap (λ (z : Value). (word_in z).used) (lasting (word_number a) (ap is_lasting f)) ∙ f;
        size = laid.tells.length ∙ sym shown.size;
        states = λ a e f. lasting_word a e (state_lasts (use_at s n a) f);
        words = λ a y e f i. lasting_word a f (ap is_lasting i);
      }
    where
      stand_stays : (y : Name) → same_name x y ≡ false → v (Standing y) ≡ s (Standing y)
      stand_stays y e = stay p c s n x k v h last laid alone (Standing y) refl refl e

      lasting : (i : ℕ) → is_lasting (use_of s n i) ≡ true → v (WordAt n i) ≡ s (WordAt n i)
      lasting i e = unfree_stays p c s n x k v h i (lasting_not_free e) (lasting_other i e)

  pub first_leads : LeadsTo p c n v
  first_leads =
      leads_there p c s n x k (made p c s n x k v h) v (named' p c s n x k v h last laid alone) (k.shows.sent n)
      (stepped p c s n x k v h finds) (hidden_still p c s n x k v h)
      (node_now p c s n x k v h last laid alone (choices_kept s v n links links store last kept shown.choices))
      (elsewhere p c s n x k v h last laid alone)
      (outputs_stay s v n k.node (record k.node { machine = made p c s n x k v h })
      (λ l. stay p c s n x k v h last laid alone (LinkHalf (end_at n l) Output) refl refl refl) (λ l. refl))
