-- What an event is told to be does not depend on what the buffers of pending inputs hold.
use Rattle.std.proofs.Common.{◌≡◌, ℕ, zero, suc, ◌+◌, refl, sym, ap, ap₂, ◌∙◌, List, [], ◌∷◌, Option, Some, None}
use Rattle.std.proofs.Common.{Result}
use Rattle.std.specs.Prelude.{option_map, slice_get}
use Rattle.std.proofs.lemmas.Option.{slice_get-map}
use Rattle.tword.specs.declared.breaks.Break.{Break}
use Rattle.tcode.specs.declared.instruction.Instruction.{Instruction as Decoded}
use Rattle.tword.specs.Claims.{AreApart}
use Rattle.tproc.specs.Machine.{Machine, claims_of}
use Rattle.tproc.specs.Placement.{IsClaimed}
use Rattle.tproc.specs.Hidden.{hidden}
use Rattle.tlink.specs.declared.counts.Arrival.{Arrival}
use Rattle.tlink.specs.declared.event.Emitted.{Emitted}
use Rattle.tlink.specs.declared.event.StepFault.{StepFault}
use Rattle.tlink.specs.Roles.{Role, Processor, Source, Sink}
use Rattle.tlink.specs.Scripts.{processor_of}
use Rattle.tlink.specs.Node.{NodeState}
use Rattle.tlink.specs.Whole.{IsHeld}
use Rattle.tplan.specs.declared.event.Act.{Act}
use Rattle.tplan.specs.declared.event.Act.TheVariants.{Run, Send, Data, Take, Ack}
use Rattle.tplan.specs.declared.event.Event.{Event}
use Rattle.tnet.specs.Net.{NetState}
use Rattle.tnet.specs.Sound.{IsSound}
use Rattle.tnet.proofs.SoundNodes.{node_sound}
use Rattle.twhere.specs.Unseen.{hidden_net, hidden_node}
use Rattle.twhere.proofs.UnseenBytes.{fetched_same}
use Rattle.thistory.specs.declared.deed.Deed.{Deed}
use Rattle.thistory.specs.declared.deed.Deed.TheVariants as deed
use Rattle.thistory.specs.Deeds.{act_deed, deed_of, done_of, instruction_deed, processor_at, processor_deed}
use Rattle.thistory.specs.Deeds.{processor_in, run_deed, waiting_at}

-- the processor of a node
processor_role : (role : Role) (m : Machine) → processor_of role (hidden m) ≡ option_map hidden (processor_of role m)
processor_role Processor m = refl
processor_role (Source over rest) m = refl
processor_role (Sink kept) m = refl

processor_node : (s : Option NodeState) → processor_at (option_map hidden_node s) ≡ option_map hidden (processor_at s)
processor_node None = refl
processor_node (Some s) = processor_role s.role s.machine

pub processor_same : (net : NetState) (n : ℕ)
    → processor_in (hidden_net net) n ≡ option_map hidden (processor_in net n)
processor_same net n = ap processor_at (slice_get-map hidden_node net.nodes n) ∙ processor_node (slice_get net.nodes n)

-- the byte that waits
waiting_node : (l : ℕ) (s : Option NodeState) → waiting_at l (option_map hidden_node s) ≡ waiting_at l s
waiting_node l None = refl
waiting_node l (Some s) = refl

-- what a processor is about to run
module _ (m : Machine) (claimed : IsClaimed m) (apart : AreApart (claims_of m.control)) where
  instruction_same : (p : ℕ) → instruction_deed p (hidden m) ≡ instruction_deed p m
  instruction_same p =
      ap (λ (f : Result Decoded Break). deed.Instruction (m.control.registers.wptr + p) m.control.registers.iptr f)
      (fetched_same m claimed apart m.control.registers.iptr)

  run_same : (current : Option ℕ) (high : List ℕ) → run_deed current high (hidden m) ≡ run_deed current high m
  run_same None high = refl
  run_same (Some zero) high = instruction_same 0
  run_same (Some (suc p)) [] = instruction_same 1
  run_same (Some (suc p)) (w ∷ ws) = refl

role_same : (role : Role) (m : Machine) → IsHeld role m
    → processor_deed (option_map hidden (processor_of role m)) ≡ processor_deed (processor_of role m)
role_same Processor m held = run_same m held.0 held.1 m.control.current m.control.high
role_same (Source over rest) m held = refl
role_same (Sink kept) m held = refl

module _ (net : NetState) (sound : IsSound net) (n : ℕ) where
  node_same : (s : Option NodeState) → slice_get net.nodes n ≡ s
      → processor_deed (option_map hidden (processor_at s)) ≡ processor_deed (processor_at s)
  node_same None h = refl
  node_same (Some s) h = role_same s.role s.machine (node_sound net n s sound h).whole.held

  act_same : (act : Act) → act_deed (hidden_net net) n act ≡ act_deed net n act
  act_same Run = ap processor_deed (processor_same net n) ∙ node_same (slice_get net.nodes n) refl
  act_same (Send l) = refl
  act_same (Data l) = refl
  act_same (Take l) =
      ap (λ (a : Option Arrival). deed.Take l a)
      (ap (waiting_at l) (slice_get-map hidden_node net.nodes n) ∙ waiting_node l (slice_get net.nodes n))
  act_same (Ack l) = refl

-- so it is told to be the same in nets that agree except for hidden bytes
pub deed_alike : (a b : NetState) → IsSound a → IsSound b → hidden_net a ≡ hidden_net b → (e : Event)
    → deed_of a e ≡ deed_of b e
deed_alike a b sound_a sound_b same e =
    sym (act_same a sound_a e.node e.act)
    ∙ ap (λ (w : NetState). act_deed w e.node e.act) same
    ∙ act_same b sound_b e.node e.act

-- with its answer
pub done_alike : (a b : NetState) (e : Event) → deed_of a e ≡ deed_of b e
    → (done_of a e).answer ≡ (done_of b e).answer → done_of a e ≡ done_of b e
done_alike a b e d h =
    ap₂ (λ (x : Deed) (y : Result Emitted StepFault). record { event = e; deed = x; answer = y }) d h
