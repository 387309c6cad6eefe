-- How a freeze names its instruction.
use Rattle.std.proofs.Common.{◌≡◌, ◌∙◌, ℕ, ap, ◌++◌, List, [], Some, None, codes, refl}
use Rattle.tproc.specs.Machine.{Control}
use Rattle.tlink.specs.Roles.{Source, Sink}
use Rattle.tnet.specs.Rendezvous.{Node}
use Rattle.twhere.specs.Standing.{word_text}
use Rattle.tendings.specs.Tellings.{instruction_at, instruction_text}

pub some_runs : (m : Control) (iptr p : ℕ) → iptr ≡ m.registers.iptr → m.current ≡ Some p
    → codes " " ++ word_text iptr ≡ instruction_at m m.current
some_runs m iptr p at runs = rw runs (ap (λ (w : ℕ). codes " " ++ word_text w) at)

pub none_runs : (m : Control) → m.current ≡ None → [] ≡ instruction_at m m.current
none_runs m rests = rw rests refl

-- a source and a sink have none
pub source_has_none : (s x : Node) (over rest : List ℕ) → s ≡ x → x.role ≡ Source over rest
    → [] ≡ instruction_text s.role s.machine.control
source_has_none s x over rest e h =
    let role : s.role ≡ Source over rest = ap (λ (y : Node). y.role) e ∙ h in
    rw role refl

pub sink_has_none : (s x : Node) (kept : List ℕ) → s ≡ x → x.role ≡ Sink kept
    → [] ≡ instruction_text s.role s.machine.control
sink_has_none s x kept e h =
    let role : s.role ≡ Sink kept = ap (λ (y : Node). y.role) e ∙ h in
    rw role refl
