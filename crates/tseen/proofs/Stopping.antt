-- A process that stops is seen to end.
use Rattle.std.proofs.Common.{◌≡◌, ℕ, ◌+◌, ◌<◌, ◌≤◌, ◌/◌, refl, sym, ap, subst, ◌∙◌, true, true≢false, length, Ok, None}
use Rattle.std.proofs.Common.{arith, inr}
use Rattle.std.specs.Prelude.{negsuc, if◌then◌else◌}
use Rattle.std.specs.Int.{w32, to_le_bytes}
use Rattle.tword.specs.Words.{plus, word_below}
use Rattle.tword.specs.Stores.{Store, place, with_word, as_cells}
use Rattle.tword.specs.Claims.{Claims}
use Rattle.tword.specs.Touches.{Writes, word_break}
use Rattle.tword.specs.Actions.{run, run_from}
use Rattle.tcode.specs.declared.instruction.Operation.{Operation}
use Rattle.tcode.specs.declared.instruction.Operation.TheVariants.{Stoperr, Stopp}
use Rattle.tcode.specs.declared.instruction.Instruction.{Instruction}
use Rattle.tcode.specs.Decoding.{decode}
use Rattle.tcpu.specs.declared.registers.Registers.{Registers}
use Rattle.tcpu.specs.declared.registers.Next.TheVariants.{Schedule}
use Rattle.tcpu.specs.Outcomes.{Outcome}
use Rattle.tproc.specs.declared.ran.Ran.TheVariants as ran
use Rattle.tproc.specs.Machine.{Control, claims_of}
use Rattle.tproc.specs.Queues.{at_rest}
use Rattle.tproc.specs.Channels.{goes_on}
use Rattle.tproc.specs.Scheduler.{operation_step, counted_by, stops as stopping}
use Rattle.tproc.specs.Steps.{step, after}
use Rattle.tplan.specs.declared.plan.Plan.{Plan}
use Rattle.tnet.specs.Rendezvous.{Configuration}
use Rattle.treduction.specs.Plain.{rank}
use Rattle.tprocesses.specs.Places.{Name, Life}
use Rattle.tprocesses.specs.Values.{Free, Ended}
use Rattle.tprocesses.specs.Changes.{Add}
use Rattle.tprocesses.specs.Performing.{Performed}
use Rattle.tprocesses.specs.Touching.{Site, word_number}
use Rattle.tprocesses.specs.Machine.{site_of}
use Rattle.tseen.specs.Steps.{IsCurrent, LeadsTo, stops_process}
use Rattle.tseen.proofs.After.{State, changed}
use Rattle.tseen.proofs.Cells.{use_of}
use Rattle.tseen.proofs.Writing.{IsWordWritten}
use Rattle.tseen.proofs.Stored.{GoesOn, set_both, goes_on_more, knows_bytes, permits_on}
use Rattle.tseen.proofs.Leaving.{nothing_moved, rested, left_leads}
use Rattle.tseen.proofs.Performed.{word_passes}
use Rattle.tseen.proofs.Finished.{HasMoved, StandsNow}
use Rattle.tseen.proofs.Running.{RunsThere}
use Rattle.tseen.proofs.Stepped.{shown_node, there, Executed, step_is}
use Rattle.tseen.proofs.Scheduled.{unchanged, at_operation, context_there, registers_there}

-- what a processor does whose process stops
stops_run : (o : Operation) (q size : ℕ) (m : Control) (r : Registers) (old new : Store) (claims : Claims)
    → stops_process r o ≡ true → word_break (length old) claims Writes (word_below r.wptr 1) ≡ None
    → run_from (after size q m r (Schedule o)) old claims new
    ≡ Ok (
      (at_rest (counted_by o q (record m { registers = record r { iptr = plus r.iptr size } })), ran.Instruction),
      with_word new (word_below r.wptr 1) (plus r.iptr size),
    )
unfolding operation_step
stops_run Stopp q size m r old new claims h passes = rw passes refl
stops_run Stoperr q size m r old new claims h passes =
    ap (λ b. run_from (if b then stopping (after_it m r) else goes_on (after_it m r).registers (after_it m r))
    old claims new) h
    ∙ rw passes refl
  where
    after_it : Control → Registers → Control
    after_it m r = counted_by Stoperr q (record m { registers = record r { iptr = plus r.iptr size } })
stops_run _ q size m r old new claims h passes = absurd (true≢false (sym h))

module _ (p : Plan) (c : Configuration) (s : State) (n : ℕ) (x : Name) (k : IsCurrent p c s n x) (i : Instruction)
    (decodes : run (decode k.node.machine.control.kind k.node.machine.control.registers.iptr) k.node.machine.store
    (claims_of k.node.machine.control) ≡ Ok (i, k.node.machine.store)) (pp : Performed Outcome) (t : State)
    (d : Executed p c s n x k i pp t) (o : Operation) (is : d.next ≡ Schedule o)
    (stops : stops_process k.node.machine.control.registers o ≡ true) (u v s' : State)
    (moved_on : HasMoved (site_of n k.plan) (there p c s n x k).context.wptr d.after.wptr t u)
    (plain : (there p c s n x k).context.choice ≡ None)
    (written : IsWordWritten (site_of n k.plan) (there p c s n x k).whole u v (word_below d.after.wptr 1)
    (as_cells (to_le_bytes w32 (context_there p c s n x k i decodes pp t d o is).iptr)))
    (ended : StandsNow (site_of n k.plan) x Ended (changed (Life n d.after.wptr) (Add (negsuc 0)) v) s') where
  abbrev m : Control
  m = k.node.machine.control

  abbrev store : Store
  store = k.node.machine.store

  abbrev site : Site
  site = site_of n k.plan

  abbrev running : RunsThere s n k.plan k.node x
  running = there p c s n x k

  abbrev w : ℕ
  w = d.after.wptr

  abbrev registers : Registers
  registers = at_operation p c s n x k i decodes pp t d o is

  abbrev last : Store
  last = with_word d.store' (word_below w 1) registers.iptr

  nothing : u ≡ t
  nothing =
      nothing_moved site running.context.wptr w t u (registers_there p c s n x k i decodes pp t d o is).wptr moved_on

  on_before : GoesOn n k.plan.memory s u store d.store'
  on_before = subst (λ (z : State). GoesOn n k.plan.memory s z store d.store') (sym nothing) d.on

  same_iptr : (context_there p c s n x k i decodes pp t d o is).iptr ≡ registers.iptr
  same_iptr = (registers_there p c s n x k i decodes pp t d o is).iptr

  on : GoesOn n k.plan.memory u v d.store' last
  on =
      set_both n k.plan.memory u v d.store' (word_below w 1)
      (as_cells (to_le_bytes w32 (context_there p c s n x k i decodes pp t d o is).iptr))
      (as_cells (to_le_bytes w32 registers.iptr)) on_before.tells written.keeps written.set refl
      (λ j h. knows_bytes true (to_le_bytes w32 (context_there p c s n x k i decodes pp t d o is).iptr)
      (to_le_bytes w32 registers.iptr) (λ _. ap (to_le_bytes w32) same_iptr) j)
      (λ j l h. subst (λ z. use_of u n z ≡ Free) (word j l h) written.touched.touched.free)
      (inr (written.touched.above, omega (arith, written.touched.at, written.touched.within)))
    where
      word : (j : ℕ) → place (word_below w 1) ≤ j → j < place (word_below w 1) + 4
          → word_number (word_below w 1) ≡ j / 4
      word j l h = omega (arith, written.touched.at, l, h)

  -- the word may be written in the store
  passes : word_break (length store) (claims_of m) Writes (word_below w 1) ≡ None
  passes =
      subst (λ z. word_break z (claims_of m) Writes (word_below w 1) ≡ None) (sym (shown_node p c s n x k).size)
      (word_passes site running.whole (claims_of m) u Writes (word_below w 1)
      (permits_on s u n (claims_of m) on_before.keeps running.permits) written.touched)

  run_is : run_from (after i.length (rank running.level) m d.after (Schedule o)) store (claims_of m) d.store'
      ≡ Ok ((at_rest (record m { registers = registers }), ran.Instruction), last)
  run_is =
      stops_run o (rank running.level) i.length m d.after store d.store' (claims_of m)
      (subst (λ r. stops_process r o ≡ true) (sym (unchanged p c s n x k i decodes pp t d o is)) stops) passes

  stepped : step k.node.machine ≡ Ok (rested p c s n x k last, ran.Instruction)
  stepped =
      step_is p c s n x k i pp t d (at_rest (record m { registers = registers })) last decodes
      (subst (λ z. run_from (after i.length (rank running.level) m d.after z) store (claims_of m) d.store'
      ≡ Ok ((at_rest (record m { registers = registers }), ran.Instruction), last)) (sym is) run_is)
      ∙ ap (λ (r : Registers). Ok (
        record { control = at_rest (record m { registers = r }); store = last },
        ran.Instruction,
      )) (unchanged p c s n x k i decodes pp t d o is)

  pub stop_leads : LeadsTo p c n s'
  stop_leads =
      left_leads p c s n x k s' last
      (record {
        before = v;
        plain = plain;
        on = goes_on_more n k.plan.memory s u v store d.store' last on_before on;
        ended = subst (λ b. StandsNow site x Ended (changed (Life n b) (Add (negsuc 0)) v) s') own ended;
      }) stepped
    where
      own : w ≡ m.registers.wptr
      own = ap (λ (r : Registers). r.wptr) (unchanged p c s n x k i decodes pp t d o is)
