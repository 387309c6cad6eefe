-- Whose gate each place is.
use Rattle.std.proofs.Common.{◌≡◌, ℕ, refl, sym, ap, ◌∙◌, subst, Bool, true, false, inl, inr, true≢false, Option}
use Rattle.std.proofs.Common.{Some, None}
use Rattle.std.specs.Prelude.{◌&&◌, if◌then◌else◌, is_some}
use Rattle.tproc.specs.declared.channels.Side.{Side}
use Rattle.tproc.specs.declared.channels.Side.TheVariants.{Input, Output}
use Rattle.tplan.specs.declared.plan.End.{End}
use Rattle.tplan.specs.declared.plan.Plan.{Plan}
use Rattle.tplan.specs.Wires.{same_end, far_end}
use Rattle.tplan.specs.Wires.{all_wires}
use Rattle.tplan.proofs.Ends.{same_end-true}
use Rattle.tagents.specs.Tidy.{IsOneOf, IsGate}
use Rattle.tprocesses.specs.Places.{Name, Place, WordAt, Standing, Ports, Half, LinkHalf, Unfinished, Error}
use Rattle.tprocesses.specs.Places.{HaltOnError, Successions, Messages, Kept}
use Rattle.tprocesses.specs.Values.{Value, IsStand, IsHalf, IsLink, stand_in, half_in, link_in}
use Rattle.tprocesses.specs.Machine.{Agent, Process, Channel, Wire, Successor, Role, Processor, Source, Sink}
use Rattle.tprocesses.specs.Machine.{Nothing, offer_place, take_place, if_joined, joined_to, sender_to}
use Rattle.tprocesses.specs.Machine.{gates_between, role_at, is_ready, is_due_at, is_met_at, is_passable, is_open}
use Rattle.tprocesses.specs.Machine.{process_machine}
use Rattle.tprocesses.specs.Choosing.{is_taken}
use Rattle.tprocesses.proofs.Changing.{shut_wire}
use Rattle.tprocesses.proofs.Safe.{Seen, Shut, Tells, IsShutTo}

-- a place at which a wire may wait
is_wire_place : Place → Bool
is_wire_place (LinkHalf e s) = true
is_wire_place (Messages e) = true
is_wire_place (Kept e) = true
is_wire_place _ = false

offers_at_wires : (r : Role) (f : End) → is_wire_place (offer_place r f) ≡ true
unfolding is_wire_place
offers_at_wires Processor f = refl
offers_at_wires Source f = refl
offers_at_wires Sink f = refl
offers_at_wires Nothing f = refl

takes_at_wires : (r : Role) (e : End) → is_wire_place (take_place r e) ≡ true
unfolding is_wire_place
takes_at_wires Processor e = refl
takes_at_wires Source e = refl
takes_at_wires Sink e = refl
takes_at_wires Nothing e = refl

-- which end an offer place is of
offered_output : (r : Role) (g f : End) → offer_place r g ≡ LinkHalf f Output → g ≡ f
offered_output Processor g f h = cc
offered_output Source g f h = cc
offered_output Sink g f h = cc
offered_output Nothing g f h = cc

offered_input : (r : Role) (g f : End) → offer_place r g ≡ LinkHalf f Input → ⊥
offered_input Processor g f h = cc
offered_input Source g f h = cc
offered_input Sink g f h = cc
offered_input Nothing g f h = cc

offered_messages : (r : Role) (g f : End) → offer_place r g ≡ Messages f → g ≡ f
offered_messages Processor g f h = cc
offered_messages Source g f h = cc
offered_messages Sink g f h = cc
offered_messages Nothing g f h = cc

offered_kept : (r : Role) (g f : End) → offer_place r g ≡ Kept f → ⊥
offered_kept Processor g f h = cc
offered_kept Source g f h = cc
offered_kept Sink g f h = cc
offered_kept Nothing g f h = cc

taken_output : (r : Role) (g f : End) → take_place r g ≡ LinkHalf f Output → ⊥
taken_output Processor g f h = cc
taken_output Source g f h = cc
taken_output Sink g f h = cc
taken_output Nothing g f h = cc

taken_input : (r : Role) (g f : End) → take_place r g ≡ LinkHalf f Input → g ≡ f
taken_input Processor g f h = cc
taken_input Source g f h = cc
taken_input Sink g f h = cc
taken_input Nothing g f h = cc

taken_messages : (r : Role) (g f : End) → take_place r g ≡ Messages f → ⊥
taken_messages Processor g f h = cc
taken_messages Source g f h = cc
taken_messages Sink g f h = cc
taken_messages Nothing g f h = cc

taken_kept : (r : Role) (g f : End) → take_place r g ≡ Kept f → g ≡ f
taken_kept Processor g f h = cc
taken_kept Source g f h = cc
taken_kept Sink g f h = cc
taken_kept Nothing g f h = cc

-- a place that is a gate of some agent
may_be_gate : Place → Bool
may_be_gate (WordAt n k) = true
may_be_gate (Standing x) = true
may_be_gate (Half n c s) = true
may_be_gate (LinkHalf e s) = true
may_be_gate (Messages e) = true
may_be_gate (Kept e) = true
may_be_gate _ = false

wires_may_be : (q : Place) → is_wire_place q ≡ true → may_be_gate q ≡ true
unfolding is_wire_place may_be_gate
wires_may_be (LinkHalf e s) h = refl
wires_may_be (Messages e) h = refl
wires_may_be (Kept e) h = refl
wires_may_be _ h = absurd (true≢false (sym h))

module _ (p : Plan) where
  -- the gates of a wire are places of wires
  wire_gates : (e : End) (t : Option End) (q : Place) → IsOneOf q (gates_between p e t) → is_wire_place q ≡ true
  unfolding is_wire_place
  wire_gates e (Some f) q (inl h) = sym (ap is_wire_place h) ∙ offers_at_wires (role_at p f.node) f
  wire_gates e (Some f) q (inr (inl h)) = sym (ap is_wire_place h) ∙ takes_at_wires (role_at p e.node) e
  wire_gates e (Some f) q (inr (inr h)) = absurd h
  wire_gates e None q (inl h) = sym (ap is_wire_place h)
  wire_gates e None q (inr h) = absurd h

  not_of_wire : (e : End) (q : Place) → is_wire_place q ≡ false → IsGate (process_machine p) (Wire e) q → ⊥
  not_of_wire e q h gate = true≢false (sym (wire_gates e (sender_to p e) q gate) ∙ h)

  -- whose gate a place is
  pub word_gate : (b : Agent) (n k : ℕ) → IsGate (process_machine p) b (WordAt n k) → b ≡ Successor n k
  unfolding is_wire_place
  word_gate (Process x) n k (inl h) = cc
  word_gate (Process x) n k (inr h) = absurd h
  word_gate (Channel m c) n k (inl h) = cc
  word_gate (Channel m c) n k (inr (inl h)) = cc
  word_gate (Channel m c) n k (inr (inr h)) = absurd h
  word_gate (Wire e) n k h = absurd (not_of_wire e (WordAt n k) refl h)
  word_gate (Successor m l) n k (inl h) = cc
  word_gate (Successor m l) n k (inr h) = absurd h

  pub standing_gate : (b : Agent) (x : Name) → IsGate (process_machine p) b (Standing x) → b ≡ Process x
  unfolding is_wire_place
  standing_gate (Process y) x (inl h) = cc
  standing_gate (Process y) x (inr h) = absurd h
  standing_gate (Channel m c) x (inl h) = cc
  standing_gate (Channel m c) x (inr (inl h)) = cc
  standing_gate (Channel m c) x (inr (inr h)) = absurd h
  standing_gate (Wire e) x h = absurd (not_of_wire e (Standing x) refl h)
  standing_gate (Successor m l) x (inl h) = cc
  standing_gate (Successor m l) x (inr h) = absurd h

  pub half_gate : (b : Agent) (n c : ℕ) (s : Side) → IsGate (process_machine p) b (Half n c s) → b ≡ Channel n c
  unfolding is_wire_place
  half_gate (Process y) n c s (inl h) = cc
  half_gate (Process y) n c s (inr h) = absurd h
  half_gate (Channel m d) n c s (inl h) = cc
  half_gate (Channel m d) n c s (inr (inl h)) = cc
  half_gate (Channel m d) n c s (inr (inr h)) = absurd h
  half_gate (Wire e) n c s h = absurd (not_of_wire e (Half n c s) refl h)
  half_gate (Successor m l) n c s (inl h) = cc
  half_gate (Successor m l) n c s (inr h) = absurd h

  -- whose places the gates of a wire are
  output_of : (e : End) (t : Option End) (f : End) → IsOneOf (LinkHalf f Output) (gates_between p e t) → t ≡ Some f
  output_of e (Some g) f (inl h) = ap Some (offered_output (role_at p g.node) g f h)
  output_of e (Some g) f (inr (inl h)) = absurd (taken_output (role_at p e.node) e f h)
  output_of e (Some g) f (inr (inr h)) = absurd h
  output_of e None f (inl h) = cc
  output_of e None f (inr h) = absurd h

  messages_of : (e : End) (t : Option End) (f : End) → IsOneOf (Messages f) (gates_between p e t) → t ≡ Some f
  messages_of e (Some g) f (inl h) = ap Some (offered_messages (role_at p g.node) g f h)
  messages_of e (Some g) f (inr (inl h)) = absurd (taken_messages (role_at p e.node) e f h)
  messages_of e (Some g) f (inr (inr h)) = absurd h
  messages_of e None f (inl h) = cc
  messages_of e None f (inr h) = absurd h

  input_of : (e : End) (t : Option End) (f : End) → IsOneOf (LinkHalf f Input) (gates_between p e t) → e ≡ f
  input_of e (Some g) f (inl h) = absurd (offered_input (role_at p g.node) g f h)
  input_of e (Some g) f (inr (inl h)) = taken_input (role_at p e.node) e f h
  input_of e (Some g) f (inr (inr h)) = absurd h
  input_of e None f (inl h) = cc
  input_of e None f (inr h) = absurd h

  kept_of : (e : End) (t : Option End) (f : End) → IsOneOf (Kept f) (gates_between p e t) → e ≡ f
  kept_of e (Some g) f (inl h) = absurd (offered_kept (role_at p g.node) g f h)
  kept_of e (Some g) f (inr (inl h)) = taken_kept (role_at p e.node) e f h
  kept_of e (Some g) f (inr (inr h)) = absurd h
  kept_of e None f (inl h) = cc
  kept_of e None f (inr h) = absurd h

  -- a gate that is a place of wires is a wire's
  record IsWire (b : Agent) (q : Place) : Type 0 where
    «end» : End
    wire : b ≡ Wire «end»

  wire_gate : (b : Agent) (q : Place) → is_wire_place q ≡ true → IsGate (process_machine p) b q → IsWire b q
  unfolding is_wire_place
  wire_gate (Process y) q w (inl h) = absurd (true≢false (sym w ∙ sym (ap is_wire_place h)))
  wire_gate (Process y) q w (inr h) = absurd h
  wire_gate (Channel m d) q w (inl h) = absurd (true≢false (sym w ∙ sym (ap is_wire_place h)))
  wire_gate (Channel m d) q w (inr (inl h)) = absurd (true≢false (sym w ∙ sym (ap is_wire_place h)))
  wire_gate (Channel m d) q w (inr (inr h)) = absurd h
  wire_gate (Wire e) q w h = record { «end» = e; wire = refl }
  wire_gate (Successor m l) q w (inl h) = absurd (true≢false (sym w ∙ sym (ap is_wire_place h)))
  wire_gate (Successor m l) q w (inr h) = absurd h

  -- places that are no gates
  no_gate : (b : Agent) (q : Place) → may_be_gate q ≡ false → IsGate (process_machine p) b q → ⊥
  unfolding may_be_gate
  no_gate (Process y) q w (inl h) = true≢false (ap may_be_gate h ∙ w)
  no_gate (Process y) q w (inr h) = h
  no_gate (Channel m d) q w (inl h) = true≢false (ap may_be_gate h ∙ w)
  no_gate (Channel m d) q w (inr (inl h)) = true≢false (ap may_be_gate h ∙ w)
  no_gate (Channel m d) q w (inr (inr h)) = h
  no_gate (Wire e) q w h = true≢false (sym (wires_may_be q (wire_gates e (sender_to p e) q h)) ∙ w)
  no_gate (Successor m l) q w (inl h) = true≢false (ap may_be_gate h ∙ w)
  no_gate (Successor m l) q w (inr h) = h

  -- an end sends to one end alone
  back_from : (e f g : End) (t : Option End) → if_joined e g t ≡ Some f → (g ≡ f) × (t ≡ Some e)
  back_from e f g None h = cc
  back_from e f g (Some back) h = by (same_end back e) refl h
    where
      by : (t : Bool) → same_end back e ≡ t → (if t then Some g else None) ≡ Some f → (g ≡ f) × (Some back ≡ Some e)
      by true k h' = (cc, ap Some (same_end-true back e k))
      by false k h' = cc

  sent_from : (e f : End) (t : Option End) → joined_to p e t ≡ Some f → far_end (all_wires p) f ≡ Some e
  sent_from e f None h = cc
  sent_from e f (Some g) h =
      let both : (g ≡ f) × (far_end (all_wires p) g ≡ Some e) = back_from e f g (far_end (all_wires p) g) h in
      ap (far_end (all_wires p)) (sym both.0) ∙ both.1

  pub one_receiver : (e e' f : End) → sender_to p e ≡ Some f → sender_to p e' ≡ Some f → e ≡ e'
  one_receiver e e' f h k =
      let there : Some e ≡ Some e' =
      sym (sent_from e f (far_end (all_wires p) e) h) ∙ sent_from e' f (far_end (all_wires p) e') k in
      cc

  -- the own gates of an agent are no others'
  pub own_standing : (x : Name) (seen : Seen) → Shut p (Process x) (Standing x) seen
  own_standing x seen b other gate = absurd (other (standing_gate b x gate))

  pub own_half : (n c : ℕ) (s : Side) (seen : Seen) → Shut p (Channel n c) (Half n c s) seen
  own_half n c s seen b other gate = absurd (other (half_gate b n c s gate))

  pub own_word : (n k : ℕ) (seen : Seen) → Shut p (Successor n k) (WordAt n k) seen
  own_word n k seen b other gate = absurd (other (word_gate b n k gate))

  -- the gates of other wires
  other_input : (e : End) (b : Agent) → IsGate (process_machine p) b (LinkHalf e Input) → IsWire b (LinkHalf e Input)
      → b ≡ Wire e
  other_input e b gate w =
      let mine : IsGate (process_machine p) (Wire w.«end») (LinkHalf e Input) =
      subst (λ (c : Agent). IsGate (process_machine p) c (LinkHalf e Input)) w.wire gate in
      w.wire ∙ ap Wire (input_of w.«end» (sender_to p w.«end») e mine)

  other_kept : (e : End) (b : Agent) → IsGate (process_machine p) b (Kept e) → IsWire b (Kept e) → b ≡ Wire e
  other_kept e b gate w =
      let mine : IsGate (process_machine p) (Wire w.«end») (Kept e) =
      subst (λ (c : Agent). IsGate (process_machine p) c (Kept e)) w.wire gate in
      w.wire ∙ ap Wire (kept_of w.«end» (sender_to p w.«end») e mine)

  other_output : (e f : End) → sender_to p e ≡ Some f → (b : Agent)
      → IsGate (process_machine p) b (LinkHalf f Output) → IsWire b (LinkHalf f Output) → b ≡ Wire e
  other_output e f from b gate w =
      let mine : IsGate (process_machine p) (Wire w.«end») (LinkHalf f Output) =
      subst (λ (c : Agent). IsGate (process_machine p) c (LinkHalf f Output)) w.wire gate in
      w.wire ∙ ap Wire (one_receiver w.«end» e f (output_of w.«end» (sender_to p w.«end») f mine) from)

  other_messages : (e f : End) → sender_to p e ≡ Some f → (b : Agent)
      → IsGate (process_machine p) b (Messages f) → IsWire b (Messages f) → b ≡ Wire e
  other_messages e f from b gate w =
      let mine : IsGate (process_machine p) (Wire w.«end») (Messages f) =
      subst (λ (c : Agent). IsGate (process_machine p) c (Messages f)) w.wire gate in
      w.wire ∙ ap Wire (one_receiver w.«end» e f (messages_of w.«end» (sender_to p w.«end») f mine) from)

  input_gate : (e : End) (b : Agent) → IsGate (process_machine p) b (LinkHalf e Input) → b ≡ Wire e
  unfolding is_wire_place
  input_gate e b gate = other_input e b gate (wire_gate b (LinkHalf e Input) refl gate)

  pub own_input : (e : End) (seen : Seen) → Shut p (Wire e) (LinkHalf e Input) seen
  own_input e seen b other gate = absurd (other (input_gate e b gate))

  pub own_kept : (e : End) (seen : Seen) → Shut p (Wire e) (Kept e) seen
  unfolding is_wire_place
  own_kept e seen b other gate = absurd (other (other_kept e b gate (wire_gate b (Kept e) refl gate)))

  pub own_output : (e f : End) → sender_to p e ≡ Some f → (seen : Seen) → Shut p (Wire e) (LinkHalf f Output) seen
  unfolding is_wire_place
  own_output e f from seen b other gate =
      absurd (other (other_output e f from b gate (wire_gate b (LinkHalf f Output) refl gate)))

  pub own_messages : (e f : End) → sender_to p e ≡ Some f → (seen : Seen) → Shut p (Wire e) (Messages f) seen
  unfolding is_wire_place
  own_messages e f from seen b other gate =
      absurd (other (other_messages e f from b gate (wire_gate b (Messages f) refl gate)))

  nobodys : (a : Agent) (q : Place) (seen : Seen) → may_be_gate q ≡ false → Shut p a q seen
  nobodys a q seen h b other gate = absurd (no_gate b q h gate)

  pub error_is_free : (a : Agent) (n : ℕ) (seen : Seen) → Shut p a (Error n) seen
  unfolding may_be_gate
  error_is_free a n seen = nobodys a (Error n) seen refl

  pub halting_is_free : (a : Agent) (n : ℕ) (seen : Seen) → Shut p a (HaltOnError n) seen
  unfolding may_be_gate
  halting_is_free a n seen = nobodys a (HaltOnError n) seen refl

  pub ports_are_free : (a : Agent) (x : Name) (seen : Seen) → Shut p a (Ports x) seen
  unfolding may_be_gate
  ports_are_free a x seen = nobodys a (Ports x) seen refl

  pub unfinished_is_free : (a : Agent) (e : End) (seen : Seen) → Shut p a (Unfinished e) seen
  unfolding may_be_gate
  unfinished_is_free a e seen = nobodys a (Unfinished e) seen refl

  pub successions_are_free : (a : Agent) (n w : ℕ) (seen : Seen) → Shut p a (Successions n w) seen
  unfolding may_be_gate
  successions_are_free a n w seen = nobodys a (Successions n w) seen refl

  -- values that open no gate at their places
  process_shut : (x : Name) (q : Place) (v : Value) → is_ready (stand_in v) ≡ false → is_open p (Process x) q v ≡ false
  process_shut x q (IsStand s) h = h
  process_shut x q _ h = refl

  pub standing_shut : (a : Agent) (x : Name) (v : Value) → is_ready (stand_in v) ≡ false
      → IsShutTo p a (Standing x) v
  standing_shut a x v h b gate =
      ap (λ (c : Agent). is_open p c (Standing x) v) (standing_gate b x gate) ∙ process_shut x (Standing x) v h

  channel_shut : (n c : ℕ) (q : Place) (v : Value) → is_met_at q (half_in v) ≡ false
      → is_open p (Channel n c) q v ≡ false
  channel_shut n c q (IsHalf h) k = k
  channel_shut n c q _ k = refl

  pub half_shut : (a : Agent) (n c : ℕ) (s : Side) (v : Value) → is_met_at (Half n c s) (half_in v) ≡ false
      → IsShutTo p a (Half n c s) v
  half_shut a n c s v h b gate =
      ap (λ (d : Agent). is_open p d (Half n c s) v) (half_gate b n c s gate) ∙ channel_shut n c (Half n c s) v h

  -- a channel is shut where no message is sent on it
  pub silent_shut : (a : Agent) (n c : ℕ) (v : Value) (t : Seen) → is_taken (half_in v) ≡ false
      → Tells p a (Half n c Output) v t → Shut p a (Half n c Input) t
  silent_shut a n c v t h tells b other gate =
      let output : IsGate (process_machine p) b (Half n c Output) =
      subst (λ (d : Agent). IsGate (process_machine p) d (Half n c Output)) (sym (half_gate b n c Input gate))
      (inr (inl refl)) in
      tells b other output (half_shut a n c Output v h b output)

  wire_shut : (e f : End) (s : Side) (v : Value) → is_due_at s (link_in v) ≡ false
      → is_open p (Wire e) (LinkHalf f s) v ≡ false
  wire_shut e f s (IsLink l) h = shut_wire (is_some (sender_to p e)) _ h
  wire_shut e f s _ h = shut_wire (is_some (sender_to p e)) _ refl

  pub link_shut : (a : Agent) (f : End) (s : Side) (v : Value) → is_due_at s (link_in v) ≡ false
      → IsShutTo p a (LinkHalf f s) v
  unfolding is_wire_place
  link_shut a f s v h b gate =
      let w : IsWire b (LinkHalf f s) = wire_gate b (LinkHalf f s) refl gate in
      ap (λ (c : Agent). is_open p c (LinkHalf f s) v) w.wire ∙ wire_shut w.«end» f s v h

  -- the input of a link is shut where nobody offers at the far end
  pub unoffered_shut : (a : Agent) (e f : End) (v : Value) (t : Seen) → sender_to p e ≡ Some f
      → is_passable (offer_place (role_at p f.node) f) v ≡ false → Tells p a (offer_place (role_at p f.node) f) v t
      → Shut p a (LinkHalf e Input) t
  unoffered_shut a e f v t from unoffered tells b other gate = let q = offer_place (role_at p f.node) f in
      let offer : IsGate (process_machine p) (Wire e) q =
      subst (λ z. IsOneOf q (gates_between p e z)) (sym from) (inl refl) in
      tells b other (subst (λ (c : Agent). IsGate (process_machine p) c q) (sym (input_gate e b gate)) offer)
      (ap (λ (c : Agent). is_open p c q v) (input_gate e b gate) ∙ shut_wire (is_some (sender_to p e)) _ unoffered)

  -- and where there is no far end
  pub unjoined_shut : (a : Agent) (e : End) (v : Value) → sender_to p e ≡ None → IsShutTo p a (LinkHalf e Input) v
  unjoined_shut a e v none b gate =
      ap (λ (c : Agent). is_open p c (LinkHalf e Input) v) (input_gate e b gate)
      ∙ ap (λ z. is_some z && is_passable (LinkHalf e Input) v) none
