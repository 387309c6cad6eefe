-- Where the steps of all agents put processes, and which nodes have one more: one comes and then its parent goes on, or
-- the agent's own ends, or none comes or ends.
use Rattle.std.proofs.Common.{◌∷◌, ◌++◌, sym, subst, List, ◌≡◌, ℕ, suc, refl, ap, false, [], Option, Some, None}
use Rattle.std.specs.Prelude.{◌==◌, ◌||◌, not, unwrap_or, slice_get, is_none, pos, negsuc}
use Rattle.std.specs.Int.{w32, to_le_bytes}
use Rattle.tword.specs.declared.breaks.Break.TheVariants.{Unaligned, AlreadyLive}
use Rattle.tword.specs.Stores.{as_cells}
use Rattle.tword.specs.Words.{plus, word_below}
use Rattle.tword.specs.Touches.{Reads, is_aligned, word_place_break}
use Rattle.tcode.specs.declared.instruction.Instruction.{Instruction}
use Rattle.tcode.specs.declared.instruction.Operation.{Operation}
use Rattle.tcode.specs.declared.instruction.Operation.TheVariants.{Startp, Endp, Runp, Stopp, Stoperr, Ldpri, In, Out}
use Rattle.tcode.specs.declared.instruction.Operation.TheVariants.{Outbyte, Outword, Alt, Enbc, Enbs, Altwt, Disc, Diss}
use Rattle.tcode.specs.declared.instruction.Operation.TheVariants.{Altend}
use Rattle.tcode.specs.Decoding.{decode}
use Rattle.tcpu.specs.declared.registers.Next.{Next}
use Rattle.tcpu.specs.declared.registers.Next.TheVariants.{Go, Jumped, Schedule, Halt}
use Rattle.tcpu.specs.Outcomes.{Outcome}
use Rattle.tcpu.specs.Effects.{effect}
use Rattle.tproc.specs.Machine.{workspace_of, priority_of}
use Rattle.tproc.specs.declared.channels.Side.TheVariants.{Input, Output}
use Rattle.tplan.specs.declared.plan.NodePlan.{NodePlan}
use Rattle.tplan.specs.declared.plan.Plan.{Plan}
use Rattle.tprocesses.specs.Places.{Name, WordAt, Standing, Error, Life, HasRun, Successions, After, child_of}
use Rattle.tprocesses.specs.Values.{Use, Last, Context, Stand, Rests, Runs, Chosen, Listens, Ended, IsWord, IsCount}
use Rattle.tprocesses.specs.Values.{word_in, stand_in, flag_in, amount_in, count_in}
use Rattle.tprocesses.specs.Changes.{Put, Decrement, Raise, free_word, known_word, Add}
use Rattle.tprocesses.specs.Parts.{Part, stopping, change, require, unless, Breaks, SawTheScheduler, WordInUse}
use Rattle.tprocesses.specs.Parts.{HasNoStep}
use Rattle.tprocesses.specs.Touching.{Site, word_number, word_place, is_zero, touch_word_at, write_word_at, unsent}
use Rattle.tprocesses.specs.Touching.{save, kept}
use Rattle.tprocesses.specs.Performing.{Performed, perform}
use Rattle.tprocesses.specs.Standing.{goes_on, known, is_absent, comes, starts, ends, moves, resumes, fresh, push, pop}
use Rattle.tprocesses.specs.Scheduling.{starts_child, runs_child, stops_itself, stops_by_error, ends_among_others}
use Rattle.tprocesses.specs.Scheduling.{with_child, sends_or_receives, sends_from_workspace, schedules, goes_on_after}
use Rattle.tprocesses.specs.Scheduling.{successor_workspace, successor_step}
use Rattle.tprocesses.specs.Choosing.{begins_choice, enables_channel, enables_skip, awaits_choice, goes_on_chosen}
use Rattle.tprocesses.specs.Choosing.{disables_channel, disables_skip, ends_choice}
use Rattle.tprocesses.specs.Instructions.{Flags, has_flags, flags_before, registers, flags_after, context_after, jumped}
use Rattle.tprocesses.specs.Instructions.{sets_error, followed, completed, executed, runs}
use Rattle.tprocesses.specs.ChannelMessages.{channel_step}
use Rattle.tprocesses.specs.Uses.{Uses, uses_of, has_needed, known_writes}
use Rattle.tprocesses.specs.Machine.{Agent, Process, Channel, Wire, Successor, site_of, at_site, sender_to}
use Rattle.tprocesses.specs.Machine.{listens, passes, stepped, step_of}
use Rattle.tprocesses.proofs.Quiet.{requires, unlesses, unsents, touches_at, writes_at, saves, performs, knows}
use Rattle.tprocesses.proofs.Quiet.{flags_looked_at, set_flags}
use Rattle.tprocesses.proofs.Plain.{resume, send_or_receive, send_from, jump, set_error}
use Rattle.tprocesses.proofs.Plain.{there as plain_there}
use Rattle.tprocesses.proofs.PlainChoices.{begin_choice, enable_channel, enable_skip, await_choice, go_on_chosen}
use Rattle.tprocesses.proofs.PlainChoices.{disable_channel, disable_skip, end_choice, channels}
use Rattle.tprocesses.proofs.PlainLinks.{pass, listen}
use Rattle.tprocesses.proofs.Leaving.{Leaves, andthen, sees, chooses, lighter}
use Rattle.tprocesses.proofs.Stood.{Stood, is_ended, NoneEnded, Holds, IsFresh, HasCome, IsSettled, Begun, Done, Goes}
use Rattle.tprocesses.proofs.Stood.{holds_more, keeps, stopped, quietly, lives_on, still, stands_there, adds}

-- one process comes
come : (s : Site) (x : Name) (c : Context) (stand : Context → Stand) → is_ended (stand c) ≡ false
    → Goes IsFresh HasCome (comes s x c stand)
come s x c stand lives =
    andthen (sees (Life s.number c.wptr))
    (λ life. andthen (quietly (require (is_zero (amount_in life)) (Breaks AlreadyLive))
    (requires (is_zero (amount_in life)) (Breaks AlreadyLive)))
    (λ y. andthen (lives_on s.number c.wptr (Add (pos 1)))
    (λ z. andthen (sees (Standing x))
    (λ v. andthen (quietly (require (is_absent (stand_in v)) HasNoStep) (requires (is_absent (stand_in v)) HasNoStep))
    (λ w. andthen (stands_there {T = HasCome} x (stand c) (λ stood added fresh. record {
      one = record { name = x; stand = stand c };
      only = ap (λ z. z ++ record { name = x; stand = stand c } ∷ []) fresh.0;
      lives = lives;
    }))
    (λ r. andthen (adds s.number (λ stood added h. h))
    (λ k. quietly (change (HasRun s.number c.priority) Raise) (refl, tt))))))))

start : (s : Site) (x : Name) (c : Context) → Goes IsFresh HasCome (starts s x c)
start s x c =
    andthen (quietly (require (is_aligned c.wptr) (Breaks Unaligned)) (requires (is_aligned c.wptr) (Breaks Unaligned)))
    (λ y. andthen (come s x c Rests refl) (λ z. quietly (save s c.wptr kept) (saves s c.wptr kept)))

-- its parent goes on
go_on : (x : Name) (c : Context) → Goes HasCome (IsSettled (Process x)) (goes_on x c)
go_on x c =
    stands_there x (Runs c) (λ stood added h. let own : Stood = record { name = x; stand = Runs c } in Begun (record {
      one = h.one;
      others = own ∷ [];
      all = ap (λ z. z ++ own ∷ []) h.only;
      live = subst (λ z. NoneEnded (z ++ own ∷ [])) (sym h.only) (h.lives, (refl, tt));
      own = (refl, tt);
    }))

-- one has another workspace
move : (s : Site) (old new : ℕ) → Goes IsFresh IsFresh (moves s old new)
move s old new =
    chooses (old == new) (keeps tt (λ stood added h. h))
    (andthen (lives_on s.number old (Add (negsuc 0))) (λ y. lives_on s.number new (Add (pos 1))))

-- one ends
end : (s : Site) (x : Name) (c : Context) → Goes IsFresh (IsSettled (Process x)) (ends s x c)
end s x c =
    andthen (quietly (require (is_none c.choice) WordInUse) (requires (is_none c.choice) WordInUse))
    (λ z. andthen (lives_on s.number c.wptr (Add (negsuc 0)))
    (λ y. stands_there x Ended (λ stood added fresh. Done (record {
      name = x;
      own = refl;
      only = ap (λ z. z ++ record { name = x; stand = Ended } ∷ []) fresh.0;
      none = fresh.1;
    }))))

-- operations of the scheduler
start_child : (s : Site) (x : Name) (c : Context) → Goes IsFresh (IsSettled (Process x)) (starts_child s x c)
start_child s x c =
    andthen (quietly (known c.a) (knows c.a))
    (λ workspace. andthen (quietly (known c.b) (knows c.b))
    (λ offset. andthen (start s (child_of x c.children) (fresh c.priority workspace (plus c.iptr offset)))
    (λ y. go_on x (pop (pop (with_child c))))))

run_child : (s : Site) (x : Name) (c : Context) → Goes IsFresh (IsSettled (Process x)) (runs_child s x c)
run_child s x c =
    andthen (quietly (known c.a) (knows c.a))
    (λ process. andthen (quietly (touch_word_at s Reads (word_below (workspace_of process) 1))
    (touches_at s Reads (word_below (workspace_of process) 1)))
    (λ cells. andthen (quietly (known (known_word cells)) (knows (known_word cells)))
    (λ iptr. andthen
    (start s (child_of x c.children) (fresh (priority_of process) (workspace_of process) iptr))
    (λ y. go_on x (pop (with_child c))))))

stop : (s : Site) (x : Name) (c : Context) → Goes IsFresh (IsSettled (Process x)) (stops_itself s x c)
stop s x c =
    andthen (quietly (write_word_at s (word_below c.wptr 1) (as_cells (to_le_bytes w32 c.iptr)))
    (writes_at s (word_below c.wptr 1) (as_cells (to_le_bytes w32 c.iptr))))
    (λ y. end s x c)

stop_by_error : (s : Site) (x : Name) (c : Context) → Goes IsFresh (IsSettled (Process x)) (stops_by_error s x c)
stop_by_error s x c =
    andthen (sees (Error s.number))
    (λ error. chooses (flag_in error) (stop s x c) (still (goes_on x c) (tt, tt)))

end_among_others : (s : Site) (x : Name) (c : Context) → Goes IsFresh (IsSettled (Process x)) (ends_among_others s x c)
end_among_others s x c =
    andthen (quietly (known c.a) (knows c.a))
    (λ workspace. andthen (quietly (touch_word_at s Reads workspace) (touches_at s Reads workspace))
    (λ cells. andthen (quietly (unless (word_place_break s.size (plus workspace 4)))
    (unlesses (word_place_break s.size (plus workspace 4))))
    (λ y. andthen (quietly (unsent s (word_number (plus workspace 4)))
    (unsents s (word_number (plus workspace 4))))
    (λ z. andthen (quietly (change (word_place s (plus workspace 4)) (Decrement c.priority))
    (tt, tt)) (λ w. end s x c)))))

schedule : (o : Operation) (s : Site) (x : Name) (c : Context)
    → Goes IsFresh (IsSettled (Process x)) (schedules o s x c)
schedule Startp s x c = start_child s x c
schedule Endp s x c = end_among_others s x c
schedule Runp s x c = run_child s x c
schedule Stopp s x c = stop s x c
schedule Stoperr s x c = stop_by_error s x c
schedule Ldpri s x c = still (goes_on x (push (Some c.priority) c)) (tt, tt)
schedule In s x c = still (sends_or_receives Input s x c) (send_or_receive Input s x c)
schedule Out s x c = still (sends_or_receives Output s x c) (send_or_receive Output s x c)
schedule Outbyte s x c = still (sends_from_workspace 1 s x c) (send_from 1 s x c)
schedule Outword s x c = still (sends_from_workspace 4 s x c) (send_from 4 s x c)
schedule Alt s x c = still (begins_choice s x c) (begin_choice s x c)
schedule Enbc s x c = still (enables_channel s x c) (enable_channel s x c)
schedule Enbs s x c = still (enables_skip s x c) (enable_skip s x c)
schedule Altwt s x c = still (awaits_choice s x c) (await_choice s x c)
schedule Disc s x c = still (disables_channel s x c) (disable_channel s x c)
schedule Diss s x c = still (disables_skip s x c) (disable_skip s x c)
schedule Altend s x c = still (ends_choice s x c) (end_choice s x c)
schedule _ s x c = stopped _

-- a successor has come, and nobody goes on
settled : {a : Agent} (stood : List Stood) (added : List ℕ) → HasCome stood added → IsSettled a stood added
settled stood added h =
    Begun (record {
      one = h.one;
      others = [];
      all = h.only;
      live = subst NoneEnded (sym h.only) (h.lives, tt);
      own = tt;
    })

succeed : {a : Agent} (s : Site) (k : ℕ) (u : Use) → Goes IsFresh (IsSettled a) (goes_on_after s k u)
succeed s k (Last priority) =
    andthen (quietly (touch_word_at s Reads (successor_workspace k))
    (touches_at s Reads (successor_workspace k)))
    (λ cells. andthen (quietly (known (known_word cells)) (knows (known_word cells)))
    (λ iptr. andthen (quietly (unsent s k) (unsents s k))
    (λ y. andthen (quietly (change (WordAt s.number k) (Put (IsWord (free_word 0)))) (tt, tt))
    (λ z. andthen (sees (Successions s.number (successor_workspace k)))
    (λ earlier. andthen
    (quietly (change (Successions s.number (successor_workspace k)) (Put (IsCount (suc (count_in earlier)))))
    (tt, tt))
    (λ w. lighter (holds_more settled) (come s (record {
      node = s.number;
      root = After (successor_workspace k) (count_in earlier);
      path = [];
    }) (fresh priority (successor_workspace k) iptr) Runs refl)))))))
succeed s k _ = stopped _

-- instructions
follow : (next : Next) (s : Site) (x : Name) (scheduled after : Context)
    → Goes IsFresh (IsSettled (Process x)) (followed next s x scheduled after)
follow Go s x scheduled after = still (goes_on x after) (tt, tt)
follow Jumped s x scheduled after = still (jumped after.priority s x after) (jump after.priority s x after)
follow (Schedule o) s x scheduled after = schedule o s x scheduled
follow Halt s x scheduled after = still (sets_error s x after) (set_error s x after)

complete : (s : Site) (x : Name) (c : Context) (i : Instruction) (f : Flags) (u : Uses) (d : Performed Outcome)
    → Goes IsFresh (IsSettled (Process x)) (completed s x c i f u d)
complete s x c i f u d =
    andthen (quietly (require (d.known || not u.reads_known) SawTheScheduler)
    (requires (d.known || not u.reads_known) SawTheScheduler))
    (λ y. andthen (quietly (flags_after s (has_flags s.kind i) f d.value.0)
    (set_flags s (has_flags s.kind i) f d.value.0))
    (λ z. andthen (quietly (require (is_none c.choice || (c.wptr == d.value.0.wptr)) WordInUse)
    (requires (is_none c.choice || (c.wptr == d.value.0.wptr)) WordInUse))
    (λ v. andthen (move s c.wptr d.value.0.wptr)
    (λ w. follow d.value.1 s x (record c { iptr = plus c.iptr i.length }) (context_after c u d.known d.value.0)))))

execute : (s : Site) (x : Name) (c : Context) (i : Instruction)
    → Goes IsFresh (IsSettled (Process x)) (executed s x c i)
execute s x c i = let u = uses_of s.kind i (unwrap_or c.a 0) in
    andthen (quietly (require (has_needed u.needs c) SawTheScheduler)
    (requires (has_needed u.needs c) SawTheScheduler))
    (λ y. andthen (quietly (flags_before s (has_flags s.kind i)) (flags_looked_at s (has_flags s.kind i)))
    (λ f. andthen (quietly (perform s (known_writes c u) (effect s.kind i (registers c f)))
    (performs s (known_writes c u) (effect s.kind i (registers c f))))
    (λ d. complete s x c i f u d)))

run : (s : Site) (x : Name) (c : Context) → Goes IsFresh (IsSettled (Process x)) (runs s x c)
run s x c =
    andthen (quietly (perform s [] (decode s.kind c.iptr)) (performs s [] (decode s.kind c.iptr)))
    (λ d. andthen (quietly (require d.known SawTheScheduler)
    (requires d.known SawTheScheduler)) (λ y. execute s x c d.value))

-- the steps of all agents
process : (p : Plan) (x : Name) (stand : Stand) (s : Site)
    → Goes IsFresh (IsSettled (Process x)) (stepped p x stand s)
process p x (Rests c) s = still (resumes s x c) (resume s x c)
process p x (Runs c) s = run s x c
process p x (Chosen c) s = still (goes_on_chosen s x c) (go_on_chosen s x c)
process p x (Listens channel c) s = still (listens p x channel c s) (listen p x channel c s)
process p x _ s = stopped HasNoStep

there : {A : Type 0} {R T : List Stood → List ℕ → Type 0} (p : Plan) (m : ℕ) (step : Site → Part A)
    → ((plan : NodePlan) → Goes R T (step (site_of m plan))) → Goes R T (at_site p m step)
there {R = R} {T} p m step h = by (slice_get p.nodes m)
  where
    by : (t : Option NodePlan) → Goes R T (elim t [ Some plan ↦ step (site_of m plan) | None ↦ stopping HasNoStep ])
    by (Some plan) = h plan
    by None = stopped HasNoStep

step_goes : (p : Plan) (a : Agent) → Goes IsFresh (IsSettled a) (step_of p a)
step_goes p (Process x) =
    andthen (sees (Standing x))
    (λ stood. there p x.node (stepped p x (stand_in stood))
    (λ plan. process p x (stand_in stood) (site_of x.node plan)))
step_goes p (Channel m c) = still (at_site p m (channel_step c)) (plain_there p m (channel_step c) (channels c))
step_goes p (Wire e) = still (passes p (sender_to p e) e) (pass p (sender_to p e) e)
step_goes p (Successor m k) =
    there p m (successor_step k)
    (λ plan. andthen (sees (WordAt m k)) (λ v. succeed (site_of m plan) k (word_in v).used))

pub steps_are_settled : (p : Plan) (a : Agent) → Leaves (step_of p a) [] (Holds (IsSettled a))
steps_are_settled p a =
    (step_goes p a).leads [] (record {
      stood = [];
      added = [];
      known = (refl, refl);
      tame = tt;
      put = tt;
      is_stood = refl;
      is_added = refl;
    })
