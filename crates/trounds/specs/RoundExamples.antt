-- Rounds that the definitions compute.
use Rattle.std.specs.Prelude.{ℕ, ◌≡◌, List, [], ◌∷◌, length, refl, Some}
use Rattle.tword.specs.declared.breaks.Break.TheVariants.{LengthMismatch}
use Rattle.tword.specs.declared.kind.Kind.TheVariants.{One}
use Rattle.tproc.specs.Steps.{computes}
use Rattle.tproc.specs.Links.{notice, finish_input, finish_output}
use Rattle.tlink.specs.Events.{happens}
use Rattle.tplan.specs.declared.event.PacketKind.TheVariants as kind
use Rattle.tplan.specs.declared.event.Note.{Note}
use Rattle.tplan.specs.declared.event.Note.TheVariants.{Msg, Freeze}
use Rattle.tplan.specs.declared.event.Hold.{Hold}
use Rattle.trounds.specs.declared.report.Ending.{Ending}
use Rattle.trounds.specs.declared.report.Ending.TheVariants as ending
use Rattle.tplan.specs.Wires.{end_at}
use Rattle.tnet.specs.Net.{NetState}
use Rattle.tnet.specs.Packets.{net_happens}
use Rattle.tnet.specs.Building.{opening_net, machines_of}
use Rattle.tplan.specs.Examples.{sender, receiver, node_plan}
use Rattle.tnet.specs.Examples.{pair}
use Rattle.trounds.specs.Rounds.{Rounds, rounds, bad_hold}

-- rounds: how many, how many events, and what they told
abbrev told : Rounds → Ending × ℕ × ℕ × List Note
told r = (r.ending, r.count, length r.progress.events, r.progress.notes)

rounds_of_pair : told (rounds [] 64 20 (pair 4))
    ≡ (ending.Quiet, 9, 32, Msg (end_at 0 1) (end_at 1 2) (1 ∷ 2 ∷ 3 ∷ 4 ∷ []) ∷ [])
unfolding computes pair sender receiver node_plan machines_of net_happens happens notice finish_input finish_output
rounds_of_pair = refl

rounds_of_held : told
    (rounds (record { «end» = end_at 1 2; kind = kind.Data; from = 1; until = 5 } ∷ []) 64 20 (pair 4))
    ≡ (ending.Quiet, 13, 32, Msg (end_at 0 1) (end_at 1 2) (1 ∷ 2 ∷ 3 ∷ 4 ∷ []) ∷ [])
unfolding computes pair sender receiver node_plan machines_of net_happens happens notice finish_input finish_output
rounds_of_held = refl

rounds_of_few : told (rounds [] 64 8 (pair 4))
    ≡ (ending.Rounds, 8, 29, Msg (end_at 0 1) (end_at 1 2) (1 ∷ 2 ∷ 3 ∷ 4 ∷ []) ∷ [])
unfolding computes pair sender receiver node_plan machines_of net_happens happens notice finish_input finish_output
rounds_of_few = refl

rounds_of_mismatch : told (rounds [] 64 20 (pair 8)) ≡ (ending.Quiet, 8, 27, Freeze 1 LengthMismatch ∷ [])
unfolding computes pair sender receiver node_plan machines_of net_happens happens notice finish_input finish_output
rounds_of_mismatch = refl

-- one node whose two links are joined: rounds until nothing is left
loop : NetState
unfolding machines_of
loop =
    opening_net (record {
      timeslice = 1024;
      nodes = record {
        memory = 2048;
        kind = One;
        image = record {
          segments = record { address = 0x8000_0080; bytes = 0x24 ∷ 0xf2 ∷ 0x22 ∷ 0x4a ∷ 0xfe ∷ 0x21 ∷ 0xf5 ∷ [] }
              ∷ record { address = 0x8000_0090; bytes = 0x11 ∷ 0x24 ∷ 0xf2 ∷ 0x55 ∷ 0x41 ∷ 0xf7 ∷ 0x21 ∷ 0xf5 ∷ [] }
              ∷ [];
          processes = record { wdesc = 0x8000_0101; iptr = 0x8000_0080 }
              ∷ record { wdesc = 0x8000_0201; iptr = 0x8000_0090 } ∷ [];
        };
      } ∷ [];
      wires = record { a = end_at 0 0; b = end_at 0 1 } ∷ [];
      sources = [];
      sinks = [];
    })

rounds_of_loop : told (rounds [] 64 20 loop) ≡ (ending.Quiet, 3, 18, Msg (end_at 0 0) (end_at 0 1) (0x2a ∷ []) ∷ [])
unfolding computes loop machines_of net_happens happens notice finish_input finish_output
rounds_of_loop = refl

-- holds: one that is good, one at an end without a wire, and one that ends before it begins
abbrev held_from : ℕ → ℕ → ℕ → Hold
held_from l from until = record { «end» = end_at 1 l; kind = kind.Ack; from = from; until = until }

second_hold : bad_hold (pair 4) (held_from 2 1 1 ∷ held_from 3 1 5 ∷ []) ≡ Some 1
unfolding pair sender receiver node_plan machines_of
second_hold = refl

late_hold : bad_hold (pair 4) (held_from 2 5 4 ∷ []) ≡ Some 0
unfolding pair sender receiver node_plan machines_of
late_hold = refl
