-- What a certificate of a plan tells of all nets of packets that the plan opens.
-- Source: own choice.
use Rattle.std.specs.Prelude.{◌≡◌, ◌≤◌, List, length, Some, None}
use Rattle.tplan.specs.declared.event.Event.{Event}
use Rattle.tplan.specs.declared.plan.End.{End}
use Rattle.tplan.specs.declared.plan.Plan.{Plan}
use Rattle.tnet.specs.Net.{NetState}
use Rattle.tnet.specs.Packets.{after_events, IsQuiet}
use Rattle.tnet.specs.Notes.{notes}
use Rattle.tnet.specs.View.{view, images}
use Rattle.tnet.specs.Building.{fault_of, opening_net, ArePlanWords}
use Rattle.treduction.specs.Ends.{NoneFrozen}
use Rattle.tprocesses.specs.Places.{Place}
use Rattle.tprocesses.specs.Values.{Value}
use Rattle.tprocesses.specs.Certified.{ProcessStep, IsCertificate}
use Rattle.tseen.specs.Carried.{arrived, handed, AreKnownAs}
use Rattle.tseen.specs.Whole.{most_steps, HasCarried, HasKnownBytes, HasKnownMessages, HasMessagesLeft, NoneHalted}

-- what is told of a net to which these events lead from another one: the steps that are seen of them are no more than
-- the certificate allows, no node is frozen or has halted, and each wire has carried the first messages that it carries
-- in the certificate. Where no event is enabled, memories, sources and sinks are as in the certified end, and each wire
-- has carried all of these messages
pub record IsToldOfNet (p : Plan) (steps : List ProcessStep) (end : Place → Value) (opened : NetState)
    (events : List Event) (net : NetState) : Type 0 where
  pub bounded : length (images events opened) ≤ most_steps p steps
  pub working : NoneFrozen (view net)
  pub running : NoneHalted (view net)
  pub carried : (e : End) → HasCarried p steps e (notes events opened)
  pub memories : IsQuiet net → HasKnownBytes p (view net) end
  pub messages : IsQuiet net → HasKnownMessages p (view net) end
  pub left : IsQuiet net → HasMessagesLeft p (view net) end
  pub carried_all : IsQuiet net → (e : End) → AreKnownAs (handed p e steps) (arrived e (notes events opened))

-- of each net to which events lead from the opening of a plan this is told, if the plan has a certificate
abbrev pub CertificatesTellOfPackets : Type 0
CertificatesTellOfPackets =
    (p : Plan) (steps : List ProcessStep) (end : Place → Value) → fault_of p ≡ None → ArePlanWords p
    → IsCertificate p steps end
    → (events : List Event) (net : NetState) → after_events events (opening_net p) ≡ Some net
    → IsToldOfNet p steps end (opening_net p) events net
