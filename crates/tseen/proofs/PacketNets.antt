-- What is seen of a net of packets is where a run of the net leads.
use Rattle.tplan.specs.declared.event.Event.{Event}
use Rattle.tplan.specs.declared.plan.Plan.{Plan}
use Rattle.std.proofs.Common.{◌≡◌, List, Some, None}
use Rattle.tnet.specs.Net.{NetState}
use Rattle.tnet.specs.Packets.{after_events, IsQuiet}
use Rattle.tnet.specs.Notes.{notes}
use Rattle.tnet.specs.View.{view, images}
use Rattle.tnet.specs.Building.{fault_of, opening_net, ArePlanWords}
use Rattle.tnet.proofs.Headline.{headline, simulation}
use Rattle.tnet.proofs.OpenedNets.{opens_sound}
use Rattle.treduction.specs.Ends.{IsOver as IsAtEnd}
use Rattle.treduction.proofs.Quiet.{quiet_views_are_over}
use Rattle.tprocesses.specs.Places.{Place}
use Rattle.tprocesses.specs.Values.{Value}
use Rattle.tprocesses.specs.Certified.{ProcessStep, IsCertificate}
use Rattle.tseen.specs.Whole.{IsTold}
use Rattle.tseen.specs.Packets.{IsToldOfNet, CertificatesTellOfPackets}
use Rattle.tseen.proofs.AllRuns.{certificates_tell_of_the_net}

module _ (p : Plan) (steps : List ProcessStep) (end : Place → Value) (built : fault_of p ≡ None)
    (words : ArePlanWords p) (certificate : IsCertificate p steps end)
    (events : List Event) (net : NetState)
    (done : after_events events (opening_net p) ≡ Some net) where
  told : IsTold p steps end (view net) (images events (opening_net p)) (notes events (opening_net p))
  told =
      certificates_tell_of_the_net p steps end built words certificate (view net) (images events (opening_net p))
      (notes events (opening_net p)) (headline p events net built words done)

  -- where no event is enabled, no step is lawful
  rests : IsQuiet net → IsAtEnd (view net)
  rests quiet =
      quiet_views_are_over net (simulation (opening_net p) net events (opens_sound p built words) done).1 quiet
      told.working

  told_of_net : IsToldOfNet p steps end (opening_net p) events net
  told_of_net =
      record {
        bounded = told.bounded;
        working = told.working;
        running = told.running;
        carried = told.carried;
        memories = λ quiet. told.memories (rests quiet);
        messages = λ quiet. told.messages (rests quiet);
        left = λ quiet. (told.ends (rests quiet)).sources;
        carried_all = λ quiet. told.carried_all (rests quiet);
      }

pub certificates_tell_of_packets : CertificatesTellOfPackets
certificates_tell_of_packets p steps end built words certificate events net done =
    told_of_net p steps end built words certificate events net done
