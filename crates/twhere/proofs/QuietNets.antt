-- What the test of a quiet net tells, and where the wires of a sound net lead.
use Rattle.std.proofs.Common.{◌≡◌, ◌<◌, refl, sym, Bool, true, false, Option, Some, None, IsTrue, ◌↔◌}
use Rattle.std.specs.Prelude.{IfSome}
use Rattle.tplan.specs.declared.plan.End.{End}
use Rattle.tnet.specs.Net.{NetState}
use Rattle.tnet.specs.Packets.{IsQuiet}
use Rattle.tnet.specs.Quiet.{is_quiet}
use Rattle.tnet.specs.Sound.{IsSound}
use Rattle.tplan.specs.Wires.{far_end}
use Rattle.tnet.proofs.Ends.{far_end-is_end}
use Rattle.tnet.proofs.QuietEvents.{quiet_agrees}

-- whether a net is quiet
pub quiet_as : (net : NetState) → IsSound net → (b : Bool) → IsTrue b ↔ IsQuiet net → is_quiet net ≡ b
quiet_as net sound true h = (quiet_agrees net sound).1 (h.0 refl)
quiet_as net sound false h = loud (is_quiet net) (λ e. h.1 ((quiet_agrees net sound).0 e))
  where
    loud : (c : Bool) → (c ≡ true → IsTrue false) → c ≡ false
    loud true f = let wrong : false ≡ true = f refl in cc
    loud false f = refl

-- a far end is one of four links
pub far_below : (net : NetState) → IsSound net → (e : End) (far : Option End) → far ≡ far_end net.wires e
    → IfSome far (λ f. f.link < 4)
far_below net sound e None h = tt
far_below net sound e (Some f) h = (far_end-is_end net sound e f (sym h)).1
