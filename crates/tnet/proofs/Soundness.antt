-- A net stays_sound sound.
use Rattle.std.proofs.Common.{◌≡◌, refl, sym, subst, Result, Ok, Err}
use Rattle.tlink.specs.declared.event.Emitted.{Emitted}
use Rattle.tlink.specs.declared.event.StepFault.{StepFault}
use Rattle.tlink.specs.declared.event.StepFault.TheVariants.{NotEnabled, Frozen}
use Rattle.tplan.specs.declared.event.Event.{Event}
use Rattle.tnet.specs.Net.{NetState}
use Rattle.tnet.specs.Packets.{NetAnswer, net_happens, net_left_by}
use Rattle.tnet.specs.Sound.{IsSound}
use Rattle.tnet.proofs.SoundEvents.{stays_sound}
use Rattle.tnet.specs.Answers.{DoesEvent}

by_answer : (e : Event) (net : NetState) (a : NetAnswer) → IsSound net → net_happens e net ≡ a
    → IsSound (net_left_by e net a)
by_answer e net (Ok (net', x)) sound h = stays_sound net net' e sound (rw h refl)
by_answer e net (Err NotEnabled) sound h = sound
by_answer e net (Err (Frozen b)) sound h = stays_sound net (net_left_by e net (Err (Frozen b))) e sound (rw h refl)

-- an event leaves a sound net
pub left_sound : (e : Event) (net net' : NetState) (r : Result Emitted StepFault) → IsSound net
    → DoesEvent e net r net' → IsSound net'
left_sound e net net' r sound does = subst IsSound (sym does.left) (by_answer e net (net_happens e net) sound refl)
