-- Steps of a process that runs, and that touches nothing which was not noted before.
-- Source: own choice.
use Rattle.std.specs.Prelude.{ℕ, ◌≡◌, not, ◌||◌, true, false, length, Some, Ok, slice_get}
use Rattle.tcode.specs.declared.instruction.Instruction.{Instruction}
use Rattle.tcpu.specs.declared.registers.Next.TheVariants.{Go}
use Rattle.tcpu.specs.Outcomes.{Outcome}
use Rattle.tprocesses.specs.Instructions as instructions
use Rattle.tprocesses.specs.Instructions.{context_after, executed, has_flags}
use Rattle.tprocesses.specs.Performing.{Performed}
use Rattle.tprocesses.specs.Standing.{goes_on}
use Rattle.tprocesses.specs.Uses.{has_needed}
use Rattle.tprocesses.specs.Values.{Context}
use Rattle.tcertify.specs.declared.context.Context as machine
use Rattle.tcertify.specs.declared.node.Node.{Node}
use Rattle.tcertify.specs.declared.notes.Mode.TheVariants.{Puts}
use Rattle.tcertify.specs.declared.process.Process.{Process}
use Rattle.tcertify.specs.declared.stored.Words.{Words}
use Rattle.tcertify.specs.Common.{unseen, used}
use Rattle.tcertify.specs.Nodes.{RunsAt, name_at, node_site}
use Rattle.tcertify.specs.Notes.{Tells}
use Rattle.tcertify.specs.Steps.{IsRunning, performed, step_of_process}
use Rattle.tcertify.specs.Words.{Runs, site_of}

-- an instruction was done on words, without a note: the next one follows at the same workspace, with this context
pub record LeavesNoted (c : Context) (i : Instruction) (old : Words) (after : Context) (new : Words) : Type 0 where
  pub outcome : Performed Outcome
  pub enough : has_needed (used old.kind c i).needs c ≡ true
  pub plain : has_flags old.kind i ≡ false
  pub performs : Runs (performed (site_of old) c i (instructions.registers c unseen)) old (Ok outcome) new
  pub goes : outcome.value.1 ≡ Go
  pub workspace : outcome.value.0.wptr ≡ c.wptr
  pub met : (outcome.known || not (used old.kind c i).reads_known) ≡ true
  pub left : context_after c (used old.kind c i) outcome.known outcome.value.0 ≡ after
  pub site : site_of new ≡ site_of old
  pub notes : new.notes ≡ old.notes

-- the notes tell that the process of this number is put elsewhere
abbrev pub IsStandNoted : Node → ℕ → Type 0
IsStandNoted n k = (p : Process) → slice_get n.processes.items.items k ≡ Some p → Tells n.words.notes p.place Puts

-- an instruction of the process of this number was done up to its end, where it goes on with this context
abbrev pub IsExecuted : (k : ℕ) (c : Context) (i : Instruction) (old : Node) (after : Context) (new : Node) → Type 0
IsExecuted k c i old after new =
    (end : Node) → RunsAt (goes_on (name_at new k) after) new (Ok tt) end
    → RunsAt (executed (node_site old) (name_at old k) c i) old (Ok tt) end

-- the step of a process that runs before and behind it: it notes nothing and leads to nobody, and nobody comes
pub record IsQuietStep (k : ℕ) (old new : Node) : Type 0 where
  pub before : machine.Context
  pub runs : IsRunning old k before
  pub after : machine.Context
  pub goes_on : IsRunning new k after
  pub does : RunsAt (step_of_process (node_site old) (name_at old k)) old (Ok tt) new
  pub notes : new.words.notes ≡ old.words.notes
  pub leads : new.leads ≡ old.leads
  pub processes : length new.processes.items.items ≡ length old.processes.items.items
  pub channels : new.channels ≡ old.channels
  pub population : new.population ≡ old.population
