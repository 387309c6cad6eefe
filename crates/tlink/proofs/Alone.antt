-- Scripts do what they are for, and nothing else.
use Rattle.std.proofs.Common.{◌≡◌, ℕ, zero, suc, refl, ap, Bool, true, false, Option, Some, None, Err}
use Rattle.std.specs.Prelude.{slice_index_or}
use Rattle.tword.specs.declared.breaks.Break.{Break}
use Rattle.tproc.specs.declared.offer.Offer.{Offer}
use Rattle.tproc.specs.declared.waiter.LinkEnd.{LinkEnd}
use Rattle.tproc.specs.LinkChannels.{quiet_end}
use Rattle.tlink.specs.declared.counts.Arrival.{Arrival}
use Rattle.tlink.specs.declared.event.NodeEvent.{NodeEvent}
use Rattle.tlink.specs.declared.event.NodeEvent.TheVariants.{Run, Send, Data, Take, Ack}
use Rattle.tlink.specs.declared.event.StepFault.TheVariants.{NotEnabled}
use Rattle.tlink.specs.Alone.{SourcesSendAlone, SinksTakeAlone}
use Rattle.tlink.specs.Roles.{receives, script_control}
use Rattle.tlink.specs.Node.{NodeState, counts_at, output_at, input_at, is_wired, one_link}
use Rattle.tlink.specs.Events.{happens, unless_frozen, after_take}
use Rattle.tlink.specs.Whole.{IsSource, IsSink}
use Rattle.tlink.proofs.Held.{script-step, script-else, script_each}

-- what is not enabled is not enabled of a frozen node
still : (b : Option Break) → unless_frozen b (Err NotEnabled) ≡ Err NotEnabled
still None = refl
still (Some b) = refl

-- only link 0 has a wire
unwired : (l : ℕ) → slice_index_or one_link (suc l) false ≡ false
unwired zero = refl
unwired (suc zero) = refl
unwired (suc (suc zero)) = refl
unwired (suc (suc (suc l))) = refl

module _ (n : NodeState) where
  no_run : (e : LinkEnd) → n.machine.control ≡ script_control e → happens Run n ≡ Err NotEnabled
  unfolding happens
  no_run e h = rw (script-step e n.machine h) (still n.broken)

  no_send : (l : ℕ) → output_at n l ≡ None → happens (Send l) n ≡ Err NotEnabled
  unfolding happens
  no_send l h = rw h (still n.broken)

  no_ack : (l : ℕ) → output_at n l ≡ None → happens (Ack l) n ≡ Err NotEnabled
  unfolding happens
  no_ack l h = rw h (still n.broken)

  no_take : (l : ℕ) → input_at n l ≡ None → happens (Take l) n ≡ Err NotEnabled
  unfolding happens
  no_take l h = rw h (by (counts_at n l).arrived)
    where
      by : (a : Option Arrival) → unless_frozen n.broken (after_take l a None (counts_at n l) n) ≡ Err NotEnabled
      by None = still n.broken
      by (Some a) = still n.broken

  no_data : (l byte : ℕ) (last : Bool) → receives n.role ≡ false → happens (Data l byte last) n ≡ Err NotEnabled
  unfolding happens
  no_data l byte last h = rw h (still n.broken)

  no_wire : (l byte : ℕ) (last : Bool) → receives n.role ≡ true → is_wired n l ≡ false
      → happens (Data l byte last) n ≡ Err NotEnabled
  unfolding happens
  no_wire l byte last r h = rw (r, h) (still n.broken)

  -- with an output at link 0 alone, where nothing is received
  pub sends_alone : (o : Option Offer) → n.machine.control ≡ script_control (record quiet_end { output = o })
      → receives n.role ≡ false → (e : NodeEvent) → (e ≡ Send 0 → ⊥) → (e ≡ Ack 0 → ⊥) → happens e n ≡ Err NotEnabled
  sends_alone o control deaf = by
    where
      no_output : (l : ℕ) → output_at n (suc l) ≡ None
      no_output l = rw control (ap (λ (x : LinkEnd). x.output) (script-else (record quiet_end { output = o }) l))

      no_input : (l : ℕ) → input_at n l ≡ None
      no_input l = rw control (script_each (λ x. x.input ≡ None) (record quiet_end { output = o }) refl refl l)

      by : (e : NodeEvent) → (e ≡ Send 0 → ⊥) → (e ≡ Ack 0 → ⊥) → happens e n ≡ Err NotEnabled
      by Run send ack = no_run _ control
      by (Send zero) send ack = absurd (send refl)
      by (Send (suc l)) send ack = no_send (suc l) (no_output l)
      by (Data l byte last) send ack = no_data l byte last deaf
      by (Take l) send ack = no_take l (no_input l)
      by (Ack zero) send ack = absurd (ack refl)
      by (Ack (suc l)) send ack = no_ack (suc l) (no_output l)

  -- with an input at link 0 alone, where only that has a wire
  pub takes_alone : (o : Option Offer) → n.machine.control ≡ script_control (record quiet_end { input = o })
      → receives n.role ≡ true → n.wired ≡ one_link → (e : NodeEvent)
      → ((byte : ℕ) (last : Bool) → e ≡ Data 0 byte last → ⊥) → (e ≡ Take 0 → ⊥) → happens e n ≡ Err NotEnabled
  takes_alone o control hears wires = by
    where
      no_output : (l : ℕ) → output_at n l ≡ None
      no_output l = rw control (script_each (λ x. x.output ≡ None) (record quiet_end { input = o }) refl refl l)

      no_input : (l : ℕ) → input_at n (suc l) ≡ None
      no_input l = rw control (ap (λ (x : LinkEnd). x.input) (script-else (record quiet_end { input = o }) l))

      by : (e : NodeEvent) → ((byte : ℕ) (last : Bool) → e ≡ Data 0 byte last → ⊥) → (e ≡ Take 0 → ⊥)
          → happens e n ≡ Err NotEnabled
      by Run comes take = no_run _ control
      by (Send l) comes take = no_send l (no_output l)
      by (Data zero byte last) comes take = absurd (comes byte last refl)
      by (Data (suc l) byte last) comes take = no_wire (suc l) byte last hears (rw wires (unwired l))
      by (Take zero) comes take = absurd (take refl)
      by (Take (suc l)) comes take = no_take (suc l) (no_input l)
      by (Ack l) comes take = no_ack l (no_output l)

pub sources_send_alone : SourcesSendAlone
sources_send_alone n done rest e whole k =
    let held : IsSource rest n.machine = rw k at whole.held in sends_alone n _ held.control (rw k refl) e

pub sinks_take_alone : SinksTakeAlone
sinks_take_alone n kept e whole k =
    let held : IsSink kept n.machine = rw k at whole.held in
    takes_alone n _ held.control (rw k refl) (rw k at whole.wires) e
