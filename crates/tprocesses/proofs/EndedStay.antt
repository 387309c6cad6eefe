-- A process that has ended stays so: the step of each agent leaves it alone.
use Rattle.std.proofs.Common.{◌≡◌, ◌∙◌, refl, ap, ℕ, zero, suc, [], Option, Some, None}
use Rattle.std.specs.Prelude.{◌==◌, ◌||◌, not, unwrap_or, is_none, negsuc}
use Rattle.std.specs.Int.{w32, to_le_bytes}
use Rattle.tword.specs.declared.breaks.Break.TheVariants.{Unaligned, AlreadyLive}
use Rattle.tword.specs.Stores.{as_cells}
use Rattle.tword.specs.Words.{plus, word_below}
use Rattle.tword.specs.Touches.{Reads, is_aligned, word_place_break}
use Rattle.tcode.specs.declared.instruction.Instruction.{Instruction}
use Rattle.tcode.specs.declared.instruction.Operation.{Operation}
use Rattle.tcode.specs.declared.instruction.Operation.TheVariants.{Startp, Endp, Runp, Stopp, Stoperr, Ldpri, In, Out}
use Rattle.tcode.specs.declared.instruction.Operation.TheVariants.{Outbyte, Outword, Alt, Enbc, Enbs, Altwt, Disc, Diss}
use Rattle.tcode.specs.declared.instruction.Operation.TheVariants.{Altend}
use Rattle.tcode.specs.Decoding.{decode}
use Rattle.tcpu.specs.declared.registers.Next.{Next}
use Rattle.tcpu.specs.declared.registers.Next.TheVariants.{Go, Jumped, Schedule, Halt}
use Rattle.tcpu.specs.Outcomes.{Outcome}
use Rattle.tcpu.specs.Effects.{effect}
use Rattle.tproc.specs.Machine.{workspace_of, priority_of}
use Rattle.tproc.specs.declared.channels.Side.TheVariants.{Input, Output}
use Rattle.tplan.specs.declared.plan.Plan.{Plan}
use Rattle.tprocesses.specs.Places.{Name, After, child_of}
use Rattle.tprocesses.specs.Values.{Use, Last, Context, Lent, Stand, Rests, Runs, Chosen, Listens, word_in, stand_in}
use Rattle.tprocesses.specs.Values.{flag_in, amount_in, count_in}
use Rattle.tprocesses.specs.Changes.{known_word}
use Rattle.tprocesses.specs.Parts.{require, unless, Breaks, Halts, SawTheScheduler, WordInUse, HasNoStep}
use Rattle.tprocesses.specs.Touching.{Site, word_number, is_zero, touch_word_at, write_word_at, unsent, count_outputs}
use Rattle.tprocesses.specs.Touching.{save, kept}
use Rattle.tprocesses.specs.Performing.{Performed, perform}
use Rattle.tprocesses.specs.Standing.{known, is_absent, comes, starts, ends, moves, unsave, takes_back, resumes}
use Rattle.tprocesses.specs.Standing.{fresh}
use Rattle.tprocesses.specs.Scheduling.{starts_child, runs_child, stops_itself, stops_by_error, ends_among_others}
use Rattle.tprocesses.specs.Scheduling.{schedules, goes_on_after, successor_workspace, successor_step}
use Rattle.tprocesses.specs.Instructions.{Flags, has_flags, flags_before, registers, flags_after, context_after, jumped}
use Rattle.tprocesses.specs.Instructions.{sets_error, followed, completed, executed, runs}
use Rattle.tprocesses.specs.ChannelMessages.{channel_step}
use Rattle.tprocesses.specs.Uses.{Uses, uses_of, has_needed, known_writes}
use Rattle.tprocesses.specs.Machine.{Agent, Process, Channel, Wire, Successor, sender_to, stepped, step_of}
use Rattle.tprocesses.specs.Lives.{EndedStayEnded}
use Rattle.tprocesses.proofs.Quiet.{requires, unlesses, unsents, touches_at, writes_at, saves, counts, performs, knows}
use Rattle.tprocesses.proofs.Quiet.{unsaves, flags_looked_at, set_flags}
use Rattle.tprocesses.proofs.Avoiding.{IsOther, Avoids, andthen, quiet_avoids, quietly, chooses, required}
use Rattle.tprocesses.proofs.Avoiding.{absent_other, agent_other, stays_there}
use Rattle.tprocesses.proofs.AvoidingMessages.{send_or_receive, send_from, channel, there, pass}
use Rattle.tprocesses.proofs.AvoidingChoices.{begin_choice, enable_channel, enable_skip, await_choice, go_on_chosen}
use Rattle.tprocesses.proofs.AvoidingChoices.{disable_channel, disable_skip, end_choice, listen}

-- processes that come
module _ (e : Name) where
  -- one that comes was absent, so it is another one
  come : (s : Site) (x : Name) (c : Context) (stand : Context → Stand) → Avoids e (comes s x c stand)
  come s x c stand life seen =
      quietly e (require (is_zero (amount_in life)) (Breaks AlreadyLive)) _
      (requires (is_zero (amount_in life)) (Breaks AlreadyLive))
      (λ y. (
        tt,
        λ stood shown.
            required e (is_absent (stand_in stood)) HasNoStep _
            (λ absent. (absent_other e x (stand_in stood) shown absent, (tt, (tt, tt)))),
      ))

  -- one is started by another one
  start : (s : Site) (x : Name) (c : Context) → Avoids e (starts s x c)
  start s x c =
      quietly e (require (is_aligned c.wptr) (Breaks Unaligned)) _ (requires (is_aligned c.wptr) (Breaks Unaligned))
      (λ y. andthen e (comes s x c Rests) _ (come s x c Rests)
      (λ z. quiet_avoids e (save s c.wptr kept) (saves s c.wptr kept)))

  -- a successor comes
  succeed : (s : Site) (k : ℕ) (u : Use) → Avoids e (goes_on_after s k u)
  succeed s k (Last priority) = let w = successor_workspace k in
      quietly e (touch_word_at s Reads w) _ (touches_at s Reads w)
      (λ cells. quietly e (known (known_word cells)) _ (knows (known_word cells))
      (λ iptr. quietly e (unsent s k) _ (unsents s k)
      (λ y. (
        tt,
        λ earlier seen. (
          tt,
          come s (record { node = s.number; root = After w (count_in earlier); path = [] }) (fresh priority w iptr)
              Runs,
        ),
      ))))
  succeed s k _ = tt

-- the step of another process
module _ (e x : Name) (another : IsOther e x) where
  -- an output of a link is over
  take_back : (s : Site) (lent : Option Lent) → Avoids e (takes_back s lent)
  take_back s None = tt
  take_back s (Some l) =
      quietly e (count_outputs s (negsuc 0) l.buffer) _ (counts s (negsuc 0) l.buffer)
      (λ y unfinished seen. quietly e (require (flag_in unfinished) HasNoStep) _
      (requires (flag_in unfinished) HasNoStep) (λ z. (tt, tt)))

  -- a process that rests goes on
  resume : (s : Site) (c : Context) → Avoids e (resumes s x c)
  resume s c =
      quietly e (unsave s c.wptr) _ (unsaves s c.wptr)
      (λ y. andthen e (takes_back s c.lent) _ (take_back s c.lent) (λ z. (another, tt)))

  -- it ends
  end : (s : Site) (c : Context) → Avoids e (ends s x c)
  end s c =
      quietly e (require (is_none c.choice) WordInUse) _ (requires (is_none c.choice) WordInUse)
      (λ z. (tt, (another, tt)))

  -- it has another workspace
  move : (s : Site) (old new : ℕ) → Avoids e (moves s old new)
  move s old new = chooses e (old == new) _ _ tt (tt, (tt, tt))

  -- `startp`
  start_child : (s : Site) (c : Context) → Avoids e (starts_child s x c)
  start_child s c =
      quietly e (known c.a) _ (knows c.a)
      (λ workspace. quietly e (known c.b) _ (knows c.b)
      (λ offset. andthen e
      (starts s (child_of x c.children) (fresh c.priority workspace (plus c.iptr offset))) _
      (start e s (child_of x c.children) (fresh c.priority workspace (plus c.iptr offset)))
      (λ y. (another, tt))))

  -- `runp`
  run_child : (s : Site) (c : Context) → Avoids e (runs_child s x c)
  run_child s c =
      quietly e (known c.a) _ (knows c.a)
      (λ process. quietly e (touch_word_at s Reads (word_below (workspace_of process) 1)) _
      (touches_at s Reads (word_below (workspace_of process) 1))
      (λ cells. quietly e (known (known_word cells)) _ (knows (known_word cells))
      (λ iptr. andthen e
      (starts s (child_of x c.children) (fresh (priority_of process) (workspace_of process) iptr)) _
      (start e s (child_of x c.children) (fresh (priority_of process) (workspace_of process) iptr))
      (λ y. (another, tt)))))

  -- `stopp`
  stop : (s : Site) (c : Context) → Avoids e (stops_itself s x c)
  stop s c =
      quietly e (write_word_at s (word_below c.wptr 1) (as_cells (to_le_bytes w32 c.iptr))) _
      (writes_at s (word_below c.wptr 1) (as_cells (to_le_bytes w32 c.iptr))) (λ y. end s c)

  -- `stoperr`
  stop_by_error : (s : Site) (c : Context) → Avoids e (stops_by_error s x c)
  stop_by_error s c error seen = chooses e (flag_in error) (stops_itself s x c) _ (stop s c) (another, tt)

  -- `endp`
  end_among_others : (s : Site) (c : Context) → Avoids e (ends_among_others s x c)
  end_among_others s c =
      quietly e (known c.a) _ (knows c.a)
      (λ workspace. quietly e (touch_word_at s Reads workspace) _ (touches_at s Reads workspace)
      (λ cells. quietly e (unless (word_place_break s.size (plus workspace 4))) _
      (unlesses (word_place_break s.size (plus workspace 4)))
      (λ y. quietly e (unsent s (word_number (plus workspace 4))) _ (unsents s (word_number (plus workspace 4)))
      (λ z. (tt, end s c)))))

  -- an operation of the scheduler
  schedule : (o : Operation) (s : Site) (c : Context) → Avoids e (schedules o s x c)
  schedule Startp s c = start_child s c
  schedule Endp s c = end_among_others s c
  schedule Runp s c = run_child s c
  schedule Stopp s c = stop s c
  schedule Stoperr s c = stop_by_error s c
  schedule Ldpri s c = (another, tt)
  schedule In s c = send_or_receive e x another Input s c
  schedule Out s c = send_or_receive e x another Output s c
  schedule Outbyte s c = send_from e x another 1 s c
  schedule Outword s c = send_from e x another 4 s c
  schedule Alt s c = begin_choice e x another s c
  schedule Enbc s c = enable_channel e x another s c
  schedule Enbs s c = enable_skip e x another s c
  schedule Altwt s c = await_choice e x another s c
  schedule Disc s c = disable_channel e x another s c
  schedule Diss s c = disable_skip e x another s c
  schedule Altend s c = end_choice e x another s c
  schedule _ s c = tt

  -- it jumps
  jump : (priority : ℕ) (s : Site) (c : Context) → Avoids e (jumped priority s x c)
  jump zero s c = (another, tt)
  jump (suc q) s c = quietly e (save s c.wptr kept) _ (saves s c.wptr kept) (λ y. (another, tt))

  -- it sets Error
  set_error : (s : Site) (c : Context) → Avoids e (sets_error s x c)
  set_error s c halting seen =
      quietly e (require (not (flag_in halting)) Halts) _ (requires (not (flag_in halting)) Halts)
      (λ y. (tt, (tt, (another, tt))))

  -- what follows an instruction
  follow : (next : Next) (s : Site) (scheduled after : Context) → Avoids e (followed next s x scheduled after)
  follow Go s scheduled after = (another, tt)
  follow Jumped s scheduled after = jump after.priority s after
  follow (Schedule o) s scheduled after = schedule o s scheduled
  follow Halt s scheduled after = set_error s after

  -- the end of an instruction
  complete : (s : Site) (c : Context) (i : Instruction) (f : Flags) (u : Uses) (d : Performed Outcome)
      → Avoids e (completed s x c i f u d)
  complete s c i f u d =
      quietly e (require (d.known || not u.reads_known) SawTheScheduler) _
      (requires (d.known || not u.reads_known) SawTheScheduler)
      (λ y. quietly e (flags_after s (has_flags s.kind i) f d.value.0) _
      (set_flags s (has_flags s.kind i) f d.value.0)
      (λ z. quietly e (require (is_none c.choice || (c.wptr == d.value.0.wptr)) WordInUse) _
      (requires (is_none c.choice || (c.wptr == d.value.0.wptr)) WordInUse)
      (λ v. andthen e (moves s c.wptr d.value.0.wptr) _ (move s c.wptr d.value.0.wptr)
      (λ w. follow d.value.1 s (record c { iptr = plus c.iptr i.length }) (context_after c u d.known d.value.0)))))

  -- an instruction is done
  execute : (s : Site) (c : Context) (i : Instruction) → Avoids e (executed s x c i)
  execute s c i = let u = uses_of s.kind i (unwrap_or c.a 0) in
      quietly e (require (has_needed u.needs c) SawTheScheduler) _ (requires (has_needed u.needs c) SawTheScheduler)
      (λ y. quietly e (flags_before s (has_flags s.kind i)) _ (flags_looked_at s (has_flags s.kind i))
      (λ f. quietly e (perform s (known_writes c u) (effect s.kind i (registers c f))) _
      (performs s (known_writes c u) (effect s.kind i (registers c f))) (λ d. complete s c i f u d)))

  -- the instruction at Iptr is decoded and done
  run : (s : Site) (c : Context) → Avoids e (runs s x c)
  run s c =
      quietly e (perform s [] (decode s.kind c.iptr)) _ (performs s [] (decode s.kind c.iptr))
      (λ d. quietly e (require d.known SawTheScheduler) _ (requires d.known SawTheScheduler)
      (λ y. execute s c d.value))

  -- the step of a process where it stands
  process : (p : Plan) (stand : Stand) (s : Site) → Avoids e (stepped p x stand s)
  process p (Rests c) s = resume s c
  process p (Runs c) s = run s c
  process p (Chosen c) s = go_on_chosen e x another s c
  process p (Listens channel c) s = listen e x another p s channel c
  process p _ s = tt

-- the step of each agent that is not the process that has ended avoids that one
step_avoids : (e : Name) (p : Plan) (a : Agent) → ((x : Name) → a ≡ Process x → IsOther e x) → Avoids e (step_of p a)
step_avoids e p (Process x) others = λ stood shown.
    there e p x.node (stepped p x (stand_in stood)) (λ s. process e x (others x refl) p (stand_in stood) s)
step_avoids e p (Channel n word) others = there e p n (channel_step word) (λ s. channel e word s)
step_avoids e p (Wire f) others = pass e p (sender_to p f) f
step_avoids e p (Successor n k) others =
    there e p n (successor_step k) (λ s count seen. succeed e s k (word_in count).used)

-- a process that has ended stays so after each step
pub ended_stay_ended : EndedStayEnded
ended_stay_ended p s s' step x does goes ended =
    ap stand_in (stays_there x p s s' step does ended
    (step_avoids x p step.agent (λ y own. agent_other x p s s' step y own does ended))) ∙ ended
