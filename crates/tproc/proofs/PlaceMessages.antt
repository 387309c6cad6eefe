-- A step keeps what a placement says of a control: the rows of messages, on internal channels and on links.
use Rattle.std.proofs.Common.{◌≡◌, ℕ, ◌+◌, ◌<◌, refl, ap, ◌∙◌, length, true, false, Some, None, inl, inr, arith}
use Rattle.std.specs.Prelude.{◌==◌, nat_le, nat_lt}
use Rattle.std.proofs.lemmas.Bool.{and_parts, eq-eqb, ltb-true}
use Rattle.std.proofs.lemmas.List.{get_or-set_same}
use Rattle.std.proofs.lemmas.List.Folds.{list_any_at}
use Rattle.tword.specs.Words.{word_below, most_neg}
use Rattle.tword.specs.Actions.{Action, Deed, answer, ◌>>=◌, set_saved_word}
use Rattle.tword.proofs.Giving.{Gives, gives_bind, gives_after, gives_if}
use Rattle.tcpu.specs.declared.registers.Registers.{Registers}
use Rattle.tproc.specs.declared.ran.Ran.{Ran}
use Rattle.tproc.specs.declared.ran.Ran.TheVariants.{Instruction}
use Rattle.tproc.specs.Machine.{Control, workspace_of}
use Rattle.tproc.specs.declared.waiter.LinkEnd.{LinkEnd}
use Rattle.tproc.specs.declared.waiter.Waiter.{Waiter}
use Rattle.tproc.specs.declared.waiter.Reason.{Reason}
use Rattle.tproc.specs.declared.waiter.Reason.TheVariants.{Receives, Sends, LinkInput, LinkOutput, Chooses}
use Rattle.tproc.specs.declared.process_status.ProcessStatus.{ProcessStatus}
use Rattle.tproc.specs.declared.process_status.ProcessStatus.TheVariants.{Waits, Queued, Interrupted}
use Rattle.tproc.specs.ProcessStatus.{status}
use Rattle.tproc.specs.Queues.{not_process, state_word, release, waiting_for}
use Rattle.tproc.specs.declared.channels.Side.{Side}
use Rattle.tproc.specs.declared.channels.Side.TheVariants.{Input, Output}
use Rattle.tproc.specs.Channels.{ready, set_touched_word, Request, waits_on_channel, exchanged, met, wakes_choice}
use Rattle.tproc.specs.Channels.{readies_choice, reason_for, input_meets, output_meets, meets, internal_message}
use Rattle.tproc.specs.Channels.{goes_on, own_side}
use Rattle.tproc.specs.LinkChannels.{quiet_end, link_end, with_link, link_of, is_right_end, is_free, is_link, offer_of}
use Rattle.tproc.specs.LinkChannels.{offered, link_message, message}
use Rattle.tproc.specs.Placement.{AreWords, HasOffer}
use Rattle.tproc.proofs.ClaimState.{HasWaiter}
use Rattle.tproc.proofs.Waiters.{status_waits}
use Rattle.tproc.proofs.MessageRows.{none_if}
use Rattle.tproc.proofs.PlaceMoves.{IsSeat, IsSettled, settled_going, settled_linked, settled_waiting}
use Rattle.tproc.proofs.PlaceQueues.{IsWaiting, Stays, release-settles}

-- what holds after a step
abbrev pub Settles : Control × Ran → Type 0
Settles r = IsSettled r.0

-- a process that waits for something is among those that wait, and so is one that is found to wait
pub waits_for : (m : Control) (process : ℕ) (r : Reason) → HasWaiter m.waiting process r → IsWaiting m process
waits_for m process r h =
    list_any_at (λ w. w.process == process) m.waiting h.0 (record { process = process; reason = r }) h.1
    (eq-eqb _ _ (ap (λ (w : Waiter). w.process) h.2))

pub waits_found : (m : Control) (process : ℕ) (r : Reason) → status m process ≡ Waits r → IsWaiting m process
waits_found m process r h = waits_for m process r (status_waits m process r h)

message_offers : (m : Control) (q : Request) (side : Side) → HasOffer m q.process (reason_for q side)
message_offers m q Input = tt
message_offers m q Output = tt

-- a part after which the same process runs, and then its registers
pub then_goes : (m : Control) (x : Action Control) (r : Registers) → AreWords r → Gives (Stays m) x
    → Gives Settles (x >>= goes_on r)
then_goes m x r w h = gives_bind (Stays m) Settles x (goes_on r) h (λ m' k. settled_going m' r k.0 w)

exchanged-settles : (r : Registers) (q : Request) (other from to : ℕ) (m : Control) → IsSettled m → AreWords r
    → IsWaiting m other → Gives Settles (exchanged r q other from to m)
exchanged-settles r q other from to m s w h = then_goes m (release other m) r w (release-settles other m s h)

met-settles : (r : Registers) (q : Request) (other : ℕ) (side : Side) (channel buffer length : ℕ) (m : Control)
    → IsSettled m → AreWords r → IsWaiting m other → Gives Settles (met r q other side channel buffer length m)
met-settles r q other Input channel buffer length m s w h = λ _ _. exchanged-settles r q other buffer q.buffer m s w h
met-settles r q other Output channel buffer length m s w h = λ _ _. exchanged-settles r q other q.buffer buffer m s w h

input_meets-settles : (r : Registers) (q : Request) (other : ℕ) (at : ProcessStatus) (m : Control)
    → status m other ≡ at → IsSettled m → AreWords r → Gives Settles (input_meets r q other at m)
input_meets-settles r q other (Waits (Sends channel buffer length)) m h s w =
    met-settles r q other Input channel buffer length m s w (waits_found m other (Sends channel buffer length) h)
input_meets-settles r q other _ m h s w = tt

-- the process that runs, with its priority and its request
module _ (p : ℕ) (q : Request) (seat : IsSeat (workspace_of q.process)) where
  waits_on_channel-settles : (m : Control) → IsSettled m → m.current ≡ Some p → Gives Settles (waits_on_channel q m)
  unfolding own_side
  waits_on_channel-settles m s e =
      settled_waiting m p q.process (reason_for q q.side) s e seat (message_offers m q q.side)

  wakes_choice-settles : (other : ℕ) (m : Control) → IsSettled m → m.current ≡ Some p → IsWaiting m other
      → Gives Settles (wakes_choice q other m)
  unfolding own_side
  wakes_choice-settles other m s e h =
      gives_bind (Stays m) Settles (release other m)
      (λ m'. answer (waiting_for q.process (reason_for q q.side) m', Instruction)) (release-settles other m s h)
      (λ m' k. settled_waiting m' p q.process (reason_for q q.side) k.0 (k.1 ∙ e) seat (message_offers m' q q.side))

  readies_choice-settles : (state : ℕ) (tells : Deed) (m : Control) → IsSettled m → m.current ≡ Some p
      → Gives Settles (readies_choice q state tells m)
  unfolding own_side
  readies_choice-settles state tells m s e =
      λ _. gives_after Settles tells (λ _. answer (waiting_for q.process (reason_for q q.side) m, Instruction))
      (λ _. waits_on_channel-settles m s e)

  output_meets-settles : (r : Registers) (other : ℕ) (at : ProcessStatus) (m : Control) → status m other ≡ at
      → IsSettled m → m.current ≡ Some p → AreWords r → Gives Settles (output_meets r q other at m)
  output_meets-settles r other (Waits (Receives channel buffer length)) m h s e w =
      met-settles r q other Output channel buffer length m s w (waits_found m other (Receives channel buffer length) h)
  output_meets-settles r other (Waits Chooses) m h s e w =
      wakes_choice-settles other m s e (waits_found m other Chooses h)
  output_meets-settles r other Queued m h s e w =
      λ state _. readies_choice-settles state (set_saved_word (workspace_of other) state_word ready) m s e
  output_meets-settles r other Interrupted m h s e w =
      λ _ state _. readies_choice-settles state
      (set_touched_word m.registers.wptr (word_below (workspace_of other) state_word) ready) m s e
  output_meets-settles r other _ m h s e w = tt

  meets-settles : (side : Side) (r : Registers) (other : ℕ) (m : Control) → IsSettled m → m.current ≡ Some p
      → AreWords r → Gives Settles (meets side r q other m)
  meets-settles Input r other m s e w = input_meets-settles r q other (status m other) m refl s w
  meets-settles Output r other m s e w = output_meets-settles r other (status m other) m refl s e w

  internal-settles : (r : Registers) (m : Control) → IsSettled m → m.current ≡ Some p → AreWords r
      → Gives Settles (internal_message r q m)
  internal-settles r m s e w = λ _ found _.
      gives_if Settles (found == not_process) (waits_on_channel q m) (meets q.side r q found m)
      (λ _. waits_on_channel-settles m s e) (λ _. meets-settles q.side r found m s e w)

  -- a link
  offered_output : (m : Control) → IsSettled m → m.current ≡ Some p → is_link q.channel ≡ true
      → is_right_end Output q.channel ≡ true
      → is_free Output (link_end m (link_of Output q.channel)) m ≡ true → IsSettled (offered q Output m)
  offered_output m s e link right free =
      settled_waiting m' p q.process (LinkOutput l)
      (settled_linked m l e' s (inr (none_if (link_end m l).output free)) (inl refl)) e seat
      (rw (get_or-set_same m.links l e' quiet_end (omega (arith, s.listed.links, ltb-true _ _ right))) refl)
    where
      l : ℕ
      l = link_of Output q.channel

      e' : LinkEnd
      e' = record (link_end m l) { output = Some (offer_of q) }

      m' : Control
      m' = with_link l e' m

  offered_input : (m : Control) → IsSettled m → m.current ≡ Some p → is_link q.channel ≡ true
      → is_right_end Input q.channel ≡ true
      → is_free Input (link_end m (link_of Input q.channel)) m ≡ true → IsSettled (offered q Input m)
  offered_input m s e link right free =
      settled_waiting m' p q.process (LinkInput l)
      (settled_linked m l e' s (inl refl) (inr (none_if (link_end m l).input (and_parts _ _ free).0))) e seat
      (rw (get_or-set_same m.links l e' quiet_end below) refl)
    where
      l : ℕ
      l = link_of Input q.channel

      below : l < length m.links
      below =
          let h : (nat_le most_neg q.channel ≡ true) × (nat_lt q.channel (most_neg + 32) ≡ true) = and_parts _ _ link in
          let i : q.channel < most_neg + 32 = ltb-true _ _ h.1 in
          omega (arith, s.listed.links)

      e' : LinkEnd
      e' = record (link_end m l) { input = Some (offer_of q); noticed = false; remembered = None }

      m' : Control
      m' = with_link l e' m

  offered-settles : (side : Side) (m : Control) → IsSettled m → m.current ≡ Some p → is_link q.channel ≡ true
      → is_right_end side q.channel ≡ true
      → is_free side (link_end m (link_of side q.channel)) m ≡ true → IsSettled (offered q side m)
  offered-settles Output m s e link right free = offered_output m s e link right free
  offered-settles Input m s e link right free = offered_input m s e link right free

  pub message-settles : (r : Registers) (m : Control) → IsSettled m → m.current ≡ Some p → AreWords r
      → Gives Settles (message r q m)
  message-settles r m s e w =
      gives_if Settles (is_link q.channel) (link_message q m) (internal_message r q m)
      (λ link _ right _ free. offered-settles q.side m s e link right free) (λ _. internal-settles r m s e w)
