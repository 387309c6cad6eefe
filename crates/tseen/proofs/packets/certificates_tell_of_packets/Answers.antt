use Rattle.tseen.proofs.PacketNets.{certificates_tell_of_packets}
use Rattle.tseen.proofs.packets.certificates_tell_of_packets.Goals as goal

pub returns : goal.returns
returns c = certificates_tell_of_packets
