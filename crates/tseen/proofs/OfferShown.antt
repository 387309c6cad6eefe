-- A process sends on a channel that an alternative has enabled: what this leads to is shown.
use Rattle.std.proofs.Common.{◌≡◌, ◌≢◌, ℕ, refl, sym, ap, subst, ◌∙◌, Bool, true, false, true≢false, Some, None, Ok}
use Rattle.std.proofs.Common.{length, ◌⊎◌, inl, inr}
use Rattle.std.proofs.lemmas.Bool.{cases_eq}
use Rattle.tword.specs.Stores.{Store, word_at}
use Rattle.tproc.specs.Channels.{ready}
use Rattle.tproc.proofs.WordsApart.{LiesWord}
use Rattle.tseen.specs.Words.{use_at}
use Rattle.tseen.proofs.Partner.{sides_apart}
use Rattle.tproc.specs.declared.channels.Side.{Side}
use Rattle.tproc.specs.declared.channels.Side.TheVariants.{Input, Output}
use Rattle.tproc.specs.declared.ran.Ran.TheVariants as ran
use Rattle.tproc.specs.Steps.{step}
use Rattle.tplan.specs.declared.plan.Plan.{Plan}
use Rattle.tnet.specs.Rendezvous.{Configuration}
use Rattle.tprocesses.specs.Places.{Place, Name, WordAt, Sending, Standing, Ports, Half, same_place, same_name}
use Rattle.tprocesses.specs.Places.{LinkHalf}
use Rattle.tprocesses.specs.Values.{Value, Nobody, TakenBy, Request, IsHalf, word_in, stand_in, half_in}
use Rattle.tprocesses.specs.Choosing.{is_taken}
use Rattle.tprocesses.specs.Touching.{word_number}
use Rattle.tseen.specs.Choices.{Alternative, alternative_of, alternative_at, is_quiet, enabler, enabler_at}
use Rattle.tseen.specs.Shown.{ShowsNode}
use Rattle.tseen.specs.Steps.{IsCurrent, LeadsTo}
use Rattle.tseen.proofs.After.{State}
use Rattle.tseen.proofs.Asked.{side_of}
use Rattle.tseen.proofs.Choices.{is_lasting, lasting_not_free}
use Rattle.tseen.proofs.Enabler.{address, number, theirs, theirs_is, apart}
use Rattle.tseen.proofs.Enabler.{it, sends, output_empty, WasInterrupted, IsQueued}
use Rattle.tseen.proofs.Finished.{is_stand_of, one_name, place_itself}
use Rattle.tseen.proofs.FirstWords.{made, unfree_stays, engaged_stays}
use Rattle.tseen.proofs.HalfShown.{named', node_now, enabler_stays, elsewhere}
use Rattle.tseen.proofs.HalfTaken.{is_half_of}
use Rattle.tseen.proofs.OfferChoices.{HasSent, sent_choices}
use Rattle.tseen.proofs.OfferWords.{readied, readied_laid, readied_hidden, ready_there, others_stay, queued_steps}
use Rattle.tseen.proofs.OfferWords.{interrupted_steps}
use Rattle.tseen.proofs.Renamed.{one_half}
use Rattle.tseen.proofs.Stepped.{shown_node, leads_there}
use Rattle.tseen.proofs.Taken.{HasTaken}
use Rattle.tseen.proofs.TakenWords.{at, own_half, alternative_now, quiet_now}
use Rattle.tplan.specs.Wires.{end_at}
use Rattle.tseen.proofs.NoticedOffers.{outputs_stay}

module _ (p : Plan) (c : Configuration) (s : State) (n : ℕ) (x : Name) (k : IsCurrent p c s n x) (v : State)
    (h : HasTaken p c s n x k v) (y : Name) (enabled : enabler_at s n k.node.machine.control.registers.b ≡ Some y) where
  abbrev store : Store
  store = k.node.machine.store

  abbrev shown : ShowsNode s n k.plan (k.shows.named n) (k.shows.sent n) k.node
  shown = shown_node p c s n x k

  abbrev channel : ℕ
  channel = k.node.machine.control.registers.b

  abbrev side : Side
  side = side_of h.operation

  abbrev old : Alternative
  old = theirs p c s n x k v h y enabled

  abbrev last : Store
  last = readied p c s n x k v h y enabled

  -- nobody has a half of the channel
  pub alone : (a : Side) (q : Request) → s (Half n channel a) ≡ IsHalf (TakenBy q) → ⊥
  alone Input q e = nobody (sym (ap (λ (z : Value). enabler (half_in z)) e) ∙ enabled)
    where
      nobody : {z : Name} → None ≡ Some z → ⊥
      nobody f = cc
  alone Output q e = filled (sym (output_empty p c s n x k v h y enabled) ∙ ap half_in e)
    where
      filled : {r : Request} → Nobody ≡ TakenBy r → ⊥
      filled f = cc

  -- the halves of other channels stay
  other_half : (d : ℕ) (a : Side) → (channel ≡ d → ⊥) → v (Half n d a) ≡ s (Half n d a)
  other_half d a f = by (same_place (Half n channel side) (Half n d a)) refl
    where
      by : (b : Bool) → same_place (Half n channel side) (Half n d a) ≡ b → v (Half n d a) ≡ s (Half n d a)
      by false e = at p c s n x k v h (Half n d a) refl e refl
      by true e = absurd (f (one_half p n channel d side a e).0)

  -- the message is sent, whatever becomes of the process that has enabled the channel
  module _ (t : State) (now : Alternative)
      (rest : (q : Place) → is_stand_of y q ≡ false → is_half_of n channel Input q ≡ false → t q ≡ v q)
      (input : enabler_at t n channel ≡ Some y) (is : alternative_at t n y ≡ Some now)
      (same : (now.wptr ≡ old.wptr) × (now.priority ≡ old.priority) × (now.runs ≡ old.runs) × (now.waits ≡ false))
      (quiet : is_quiet (stand_in (t (Standing y))) ≡ true) where
    not_this : (a : Name) → same_place (Standing y) (Standing a) ≡ false → t (Standing a) ≡ v (Standing a)
    not_this a e = rest (Standing a) e refl

    not_input : (d : ℕ) (a : Side) → (channel ≡ d → ⊥) → t (Half n d a) ≡ v (Half n d a)
    not_input d a f = by (same_place (Half n channel Input) (Half n d a)) refl
      where
        by : (b : Bool) → same_place (Half n channel Input) (Half n d a) ≡ b → t (Half n d a) ≡ v (Half n d a)
        by false e = rest (Half n d a) refl e
        by true e = absurd (f (one_half p n channel d Input a e).0)

    stand_of_own : t (Standing x) ≡ v (Standing x)
    stand_of_own = not_this x (other_way (same_name y x) refl)
      where
        other_way : (b : Bool) → same_name y x ≡ b → same_name y x ≡ false
        other_way false e = e
        other_way true e =
            absurd (true≢false (sym (place_itself p (Standing x))
            ∙ ap (same_name x) (sym (one_name p y x e)) ∙ apart p c s n x k v h y enabled))

    pub has_sent : (lastly : Store) → length lastly ≡ length store
        → word_at lastly (address p c s n x k v h y enabled) ≡ ready
        → ((a : ℕ) → LiesWord k.plan.memory a → is_lasting (use_at s n a) ≡ true
        → word_number a ≢ word_number channel → word_number a ≢ number p c s n x k v h y enabled
        → word_at lastly a ≡ word_at store a)
        → HasSent p c s n x k v h y enabled t lastly now
    has_sent lastly size is_ready others =
        record {
          own_none = ap (λ (z : Value). alternative_of (stand_in z)) stand_of_own ∙ alternative_now p c s n x k v h;
          own_quiet = ap (λ (z : Value). is_quiet (stand_in z)) stand_of_own ∙ quiet_now p c s n x k v h;
          stands = λ z e f. not_this z f ∙ at p c s n x k v h (Standing z) refl refl e;
          ports = λ z. rest (Ports z) refl refl ∙ at p c s n x k v h (Ports z) refl refl refl;
          inputs = λ d. inputs d (cases_eq channel d);
          held = λ d f. not_input d Input f ∙ other_half d Input f;
          outputs = λ d f. not_input d Output f ∙ other_half d Output f;
          sent = ap (λ (z : Value). is_taken (half_in z)) (rest (Half n channel Output) refl
              (sides_apart n channel Input)
              ∙ ap (λ a. v (Half n channel a)) (sym (sends p c s n x k v h y enabled)) ∙ own_half p c s n x k v h);
          links = λ l. rest (LinkHalf (end_at n l) Input) refl refl
              ∙ at p c s n x k v h (LinkHalf (end_at n l) Input) refl refl refl;
          amounts = λ i. rest (Sending n i) refl refl ∙ at p c s n x k v h (Sending n i) refl refl refl;
          words = λ i f g. rest (WordAt n i) refl refl ∙ unfree_stays p c s n x k v h i f g;
          engaged = ap (λ (z : Value). (word_in z).used) (rest (WordAt n (word_number channel)) refl refl)
              ∙ engaged_stays p c s n x k v h (word_number channel) (it p c s n x k v h y enabled).engaged;
          size = size;
          is_ready = is_ready;
          others = others;
          is = is;
          same = same;
          quiet = quiet;
        }
      where
        inputs : (d : ℕ) → (channel ≡ d) ⊎ (channel ≡ d → ⊥) → enabler_at t n d ≡ enabler_at s n d
        inputs d (inl e) = subst (λ a. enabler_at t n a ≡ enabler_at s n a) e (input ∙ sym enabled)
        inputs d (inr e) =
            ap (λ (z : Value). enabler (half_in z)) (not_input d Input e ∙ other_half d Input e)

  -- where the process does not wait, its alternative alone becomes ready
  module _ (waits : old.waits ≡ false)
      (steps : step k.node.machine
      ≡ Ok (record { control = (made p c s n x k v h).control; store = last }, ran.Instruction)) where
    stands : v (Standing y) ≡ s (Standing y)
    stands = at p c s n x k v h (Standing y) refl refl (apart p c s n x k v h y enabled)

    sent : HasSent p c s n x k v h y enabled v last old
    sent =
        has_sent v old (λ q e f. refl)
        (enabler_stays p c s n x k v h last (readied_laid p c s n x k v h y enabled) alone channel ∙ enabled)
        (ap (λ (z : Value). alternative_of (stand_in z)) stands ∙ theirs_is p c s n x k v h y enabled)
        (refl, refl, refl, waits)
        (ap (λ (z : Value). is_quiet (stand_in z)) stands
        ∙ shown.choices.quiet y (it p c s n x k v h y enabled).home)
        last ((readied_laid p c s n x k v h y enabled).tells.length ∙ sym shown.size)
        (ready_there p c s n x k v h y enabled)
        (λ a l e f i. others_stay p c s n x k v h y enabled a l (lasting_not_free e) f i)

    pub offer_leads : LeadsTo p c n v
    offer_leads =
        leads_there p c s n x k (record { control = (made p c s n x k v h).control; store = last }) v
        (named' p c s n x k v h last (readied_laid p c s n x k v h y enabled) alone) (k.shows.sent n) steps
        (readied_hidden p c s n x k v h y enabled)
        (node_now p c s n x k v h last (readied_laid p c s n x k v h y enabled) alone
        (sent_choices p c s n x k v h y enabled v last old sent))
        (elsewhere p c s n x k v h last (readied_laid p c s n x k v h y enabled) alone)
        (outputs_stay s v n k.node (record k.node {
          machine = record { control = (made p c s n x k v h).control; store = last };
        }) (λ l. at p c s n x k v h (LinkHalf (end_at n l) Output) refl refl refl) (λ l. refl))

  pub queued_leads : IsQueued p c s n x k v h y enabled → LeadsTo p c n v
  queued_leads q = offer_leads q.waits (queued_steps p c s n x k v h y enabled q)

  pub interrupted_leads : WasInterrupted p c s n x k v h y enabled → LeadsTo p c n v
  interrupted_leads q = offer_leads q.waits (interrupted_steps p c s n x k v h y enabled q)
