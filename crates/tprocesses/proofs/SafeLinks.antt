-- Alternatives over links spare the gates of others.
use Rattle.std.proofs.Common.{◌≡◌, ◌⊎◌, ℕ, refl, sym, ap, true, false, inl, inr, true≢false, Option, Some, None}
use Rattle.std.specs.Prelude.{not}
use Rattle.std.proofs.lemmas.Bool.{not-true}
use Rattle.tword.specs.declared.breaks.Break.TheVariants.{LinkBusy, Unaligned, WrongEnd}
use Rattle.tword.specs.Touches.{Writes, is_aligned}
use Rattle.tproc.specs.declared.channels.Side.TheVariants.{Input}
use Rattle.tproc.specs.LinkChannels.{is_right_end, link_of}
use Rattle.tplan.specs.declared.plan.End.{End}
use Rattle.tplan.specs.declared.plan.Plan.{Plan}
use Rattle.tplan.specs.Wires.{end_at}
use Rattle.tprocesses.specs.Places.{Name, Standing, LinkHalf, same_name}
use Rattle.tprocesses.specs.Values.{Context, Stand, Runs, Chooses, Chosen, Listens, Link, Empty, Enabled, Awaited}
use Rattle.tprocesses.specs.Values.{Fired, Value, IsStand, IsLink, stand_in, link_in}
use Rattle.tprocesses.specs.Parts.{Breaks, SeveralReady, HasNoStep}
use Rattle.tprocesses.specs.Touching.{Site}
use Rattle.tprocesses.specs.Choosing.{with_choice, with_port, without_port, input_of, is_input, enables_pending}
use Rattle.tprocesses.specs.Choosing.{enables_link, is_enabled_on, awaits_link, answers, gives_up_link}
use Rattle.tprocesses.specs.Choosing.{begins_to_listen, is_unfired_by, goes_on_unfired, waiting, fires}
use Rattle.tprocesses.specs.Machine.{Agent, sender_to, role_at, offer_place, is_ready, is_due_at, is_passable, offers}
use Rattle.tprocesses.specs.Machine.{requires_no_sender, listens}
use Rattle.tprocesses.proofs.Gates.{standing_shut, link_shut, unoffered_shut, unjoined_shut}
use Rattle.tprocesses.proofs.Safe.{Seen, Anything, Shut, IsShutTo, Tells, Safely, Stays, andthen, nothing, stops}
use Rattle.tprocesses.proofs.Safe.{sees, sees_each, keeping, lighter, requires, requires_fine, puts}
use Rattle.tprocesses.proofs.SafeTouches.{stays_shut, still, touch_word_at_safe}
use Rattle.tprocesses.proofs.SafeParts.{IsOwn, stands_safe, changes_ports_safe}

module _ (p : Plan) (a : Agent) where
  -- a channel word is looked at, and nothing changes
  pub is_input_fine : {K : Seen → Type 0} (channel : ℕ) → Safely p a K (is_input channel) Anything
  is_input_fine channel =
      andthen p a (requires_fine p a (is_aligned channel) (Breaks Unaligned))
      (λ y. requires_fine p a (is_right_end Input channel) (Breaks WrongEnd))

  -- the input of a link is enabled where it was seen empty
  enables_pending_safe : (s : Site) (x : Name) (channel : ℕ) (v : Value) (l : Link) → link_in v ≡ l
      → Safely p a (λ t. IsShutTo p a (input_of s channel) v → Shut p a (input_of s channel) t)
      (enables_pending s x channel l) Anything
  enables_pending_safe s x channel v Empty e =
      puts p a (input_of s channel) (IsLink (Enabled x))
      (λ t known. known (link_shut p a (end_at s.number (link_of Input channel)) Input v (ap (is_due_at Input) e)))
  enables_pending_safe s x channel v (Enabled y) e = requires_fine p a (same_name y x) (Breaks LinkBusy)
  enables_pending_safe s x channel v _ e = stops p a (Breaks LinkBusy)

  pub enables_link_safe : {K : Seen → Type 0} (s : Site) (x : Name) (channel : ℕ)
      → Safely p a K (enables_link s x channel) Anything
  enables_link_safe s x channel =
      andthen p a (is_input_fine channel)
      (λ y. andthen p a (sees p a (input_of s channel))
      (λ v. andthen p a (enables_pending_safe s x channel v (link_in v) refl)
      (λ z. changes_ports_safe p a x (with_port channel))))

  -- a wire has no step while its input is enabled
  enabled_not_due : (x : Name) (l : Link) → is_enabled_on x l ≡ true → is_due_at Input l ≡ false
  enabled_not_due x (Enabled y) h = refl
  enabled_not_due x _ h = absurd (true≢false (sym h))

  pub awaits_link_safe : {K : Seen → Type 0} (s : Site) (x : Name) (channel : ℕ)
      → Safely p a K (awaits_link s x channel) Anything
  awaits_link_safe s x channel =
      andthen p a (sees p a (input_of s channel))
      (λ v. andthen p a (requires p a (is_enabled_on x (link_in v)) (Breaks LinkBusy))
      (λ y. puts p a (input_of s channel) (IsLink (Awaited x))
      (λ t known. known.1 (link_shut p a (end_at s.number (link_of Input channel)) Input v
      (enabled_not_due x (link_in v) known.0)))))

  -- a link is given up where its input was seen shut
  pub gives_up_link_safe : (s : Site) (x : Name) (channel : ℕ)
      → Safely p a (λ t. Shut p a (input_of s channel) t) (gives_up_link s x channel) Anything
  gives_up_link_safe s x channel =
      andthen p a (puts p a (input_of s channel) (IsLink Empty) (λ t known. known))
      (λ y. changes_ports_safe p a x (without_port channel))

  -- a process that has to listen changes where it stands
  pub begins_to_listen_safe : {K : Seen → Type 0} (s : Site) (x : Name) (c : Context) (channel : ℕ) → IsOwn p a x
      → Safely p a K (begins_to_listen s x c channel) Anything
  begins_to_listen_safe s x c channel own =
      andthen p a (touch_word_at_safe p a s Writes c.wptr)
      (λ cells. stands_safe p a x (Listens channel (answers false c)) own)

  -- whether a message is offered: if not, the inputs to which the end sends are shut
  offers_safe : {K : Seen → Type 0} (f : End)
      → Safely p a K (offers p f)
      (λ t s. t ≡ false → (e : End) → sender_to p e ≡ Some f → Shut p a (LinkHalf e Input) s)
  offers_safe f = let q = offer_place (role_at p f.node) f in
      andthen p a (sees_each p a q)
      (λ v. nothing p a (is_passable q v)
      (λ t told unoffered e from. unoffered_shut p a e f v t from unoffered told))

  -- a look at an offer changes nothing
  pub offers_fine : {K : Seen → Type 0} (f : End) → Safely p a K (offers p f) Anything
  offers_fine f = lighter p a (λ t known. known) (λ x t known. tt) (offers_safe f)

  -- nobody sends to an end: it has no far end, or its input was seen shut
  abbrev IsSilent : End → Seen → Type 0
  IsSilent e t = (sender_to p e ≡ None) ⊎ Shut p a (LinkHalf e Input) t

  silent_stays : (e : End) → Stays p a (IsSilent e)
  silent_stays e t t' later (inl none) = inl none
  silent_stays e t t' later (inr shut) = inr (stays_shut p a (LinkHalf e Input) t t' later shut)

  -- so it is still shut when it is looked at
  silent_shut : (e : End) (v : Value) (t : Seen) → IsSilent e t → Tells p a (LinkHalf e Input) v t
      → Shut p a (LinkHalf e Input) t
  silent_shut e v t (inl none) told b other gate = told b other gate (unjoined_shut p a e v none b gate)
  silent_shut e v t (inr shut) told b other gate = shut b other gate

  -- whoever goes on where nobody sends knows that
  no_sender_safe : {K : Seen → Type 0} (e : End) (f : Option End) → sender_to p e ≡ f
      → Safely p a K (requires_no_sender p f) (λ y t. IsSilent e t)
  no_sender_safe e (Some f) from =
      andthen p a (offers_safe f)
      (λ offered. lighter p a (λ t known. known) (λ y t known. inr (known.1 (not-true offered known.0) e from))
      (requires p a (not offered) SeveralReady))
  no_sender_safe e None from = nothing p a tt (λ t known. inl from)

  -- a process that has listened gives up its link and goes on
  goes_on_unfired_safe : (s : Site) (x : Name) (channel : ℕ) (c : Context) → IsOwn p a x
      → Safely p a (IsSilent (end_at s.number (link_of Input channel))) (goes_on_unfired s x channel c) Anything
  goes_on_unfired_safe s x channel c own = let e = end_at s.number (link_of Input channel) in
      andthen p a (keeping p a (silent_stays e) (λ t known. known) (sees_each p a (input_of s channel)))
      (λ v. andthen p a
      (lighter p a (λ t known. silent_shut e v t known.0 known.1) (λ y t known. known)
      (still p a (input_of s channel) (requires_fine p a (is_unfired_by x (link_in v)) HasNoStep)))
      (λ y. andthen p a (gives_up_link_safe s x channel) (λ z. stands_safe p a x (Runs c) own)))

  -- a process that listens, at its own node
  pub listens_safe : {K : Seen → Type 0} (x : Name) (channel : ℕ) (c : Context) (s : Site) → s.number ≡ x.node
      → IsOwn p a x → Safely p a K (listens p x channel c s) Anything
  listens_safe x channel c s home own =
      andthen p a
      (lighter p a (λ t known. known) (λ y t known. rw home known)
      (no_sender_safe (end_at x.node (link_of Input channel))
      (sender_to p (end_at x.node (link_of Input channel))) refl))
      (λ y. goes_on_unfired_safe s x channel c own)

  -- a process that was seen to wait
  pub waiting_safe : (x : Name) (v : Value) (stand : Stand) → stand_in v ≡ stand
      → Safely p a (λ t. IsShutTo p a (Standing x) v → Shut p a (Standing x) t) (waiting stand)
      (λ c t. Shut p a (Standing x) t)
  waiting_safe x v (Chooses c) is =
      nothing p a c (λ t known. known (standing_shut p a x v (ap is_ready is)))
  waiting_safe x v _ is = stops p a SeveralReady

  -- the input of a link makes a process go on that was seen to wait
  pub fires_safe : {K : Seen → Type 0} (e : End) (x : Name) → ((t : Seen) → Shut p a (LinkHalf e Input) t)
      → Safely p a K (fires e x) Anything
  fires_safe e x own =
      andthen p a (sees p a (Standing x))
      (λ v. andthen p a (waiting_safe x v (stand_in v) refl)
      (λ c. andthen p a
      (still p a (Standing x) (puts p a (LinkHalf e Input) (IsLink (Fired x)) (λ t known. own t)))
      (λ z. puts p a (Standing x) (IsStand (Chosen (with_choice true c))) (λ t known. known))))
