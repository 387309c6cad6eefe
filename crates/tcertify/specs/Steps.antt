-- A step of a process, and an instruction up to what follows it.
-- Source: own choice, parts of the steps of `tprocesses`.
use Rattle.std.specs.Prelude.{ℕ, ◌≡◌, not, ◌||◌, ◌==◌, is_none, unwrap_or, Some, option_map, slice_get}
use Rattle.tword.specs.Words.{plus}
use Rattle.tcode.specs.declared.instruction.Instruction.{Instruction}
use Rattle.tcpu.specs.declared.registers.Registers.{Registers}
use Rattle.tcpu.specs.Effects.{effect}
use Rattle.tcpu.specs.Outcomes.{Outcome}
use Rattle.tprocesses.specs.Instructions.{context_after, flags_after, flags_before, followed, has_flags, registers}
use Rattle.tprocesses.specs.Machine.{process_step}
use Rattle.tprocesses.specs.Parts.{Part, Doing, gives, require, see, SawTheScheduler, WordInUse, ◌>>=◌, ◌>>◌}
use Rattle.tprocesses.specs.Performing.{Performed, perform}
use Rattle.tprocesses.specs.Places.{Name, Standing}
use Rattle.tprocesses.specs.Standing.{moves}
use Rattle.tprocesses.specs.Touching.{Site}
use Rattle.tprocesses.specs.Uses.{Uses, has_needed, known_writes, uses_of}
use Rattle.tprocesses.specs.Values.{Context, stand_in}
use Rattle.tcertify.specs.declared.context.Context as machine
use Rattle.tcertify.specs.declared.node.Node.{Node}
use Rattle.tcertify.specs.declared.standing.Stand.TheVariants as stand
use Rattle.tcertify.specs.Carried.{Followed}

-- the step of a process, where it stands
abbrev pub step_of_process : Site → Name → Doing
step_of_process s x = do
  stood ← see (Standing x)
  process_step x (stand_in stood) s

-- the process of a number runs with this context
abbrev pub IsRunning : Node → ℕ → machine.Context → Type 0
IsRunning n k c = option_map (λ p. p.stand) (slice_get n.processes.items.items k) ≡ Some (stand.Runs c)

-- what an instruction does at these registers
abbrev pub performed : Site → Context → Instruction → Registers → Part (Performed Outcome)
performed s c i r = perform s (known_writes c (uses_of s.kind i (unwrap_or c.a 0))) (effect s.kind i r)

-- an instruction that uses this, up to what follows it: what follows, and the context behind it
abbrev pub instructed_by : Site → Context → Instruction → Uses → Part Followed
instructed_by s c i u = do
  require (has_needed u.needs c) SawTheScheduler
  f ← flags_before s (has_flags s.kind i)
  p ← perform s (known_writes c u) (effect s.kind i (registers c f))
  require (p.known || not u.reads_known) SawTheScheduler
  flags_after s (has_flags s.kind i) f p.value.0
  gives (p.value.1, context_after c u p.known p.value.0)

-- an instruction
abbrev pub instructed : Site → Context → Instruction → Part Followed
instructed s c i = instructed_by s c i (uses_of s.kind i (unwrap_or c.a 0))

-- the end of an instruction, with what follows it and the context behind it. While an alternative is under way the
-- workspace stays
abbrev pub ended : Context → Instruction → Site → Name → Followed → Doing
ended c i s x k = do
  require (is_none c.choice || (c.wptr == k.1.wptr)) WordInUse
  moves s c.wptr k.1.wptr
  followed k.0 s x (record c { iptr = plus c.iptr i.length }) k.1
