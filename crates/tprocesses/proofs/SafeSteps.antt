-- The steps of all agents spare the gates of others.
use Rattle.std.proofs.Common.{◌≡◌, ℕ, zero, suc, refl, Bool, true, false, [], Option, Some, None}
use Rattle.std.specs.Prelude.{◌==◌, ◌||◌, not, unwrap_or, slice_get, is_none}
use Rattle.std.specs.Int.{w32, to_le_bytes}
use Rattle.tword.specs.declared.span.Span.{Span}
use Rattle.tword.specs.declared.breaks.Break.TheVariants.{NoSuchOperation}
use Rattle.tword.specs.Stores.{Store, as_cells}
use Rattle.tword.specs.Words.{plus, word_below}
use Rattle.tword.specs.Touches.{Reads, word_place_break}
use Rattle.tcode.specs.declared.instruction.Instruction.{Instruction}
use Rattle.tcode.specs.declared.instruction.Operation.{Operation}
use Rattle.tcode.specs.declared.instruction.Operation.TheVariants.{Startp, Endp, Runp, Stopp, Stoperr, Ldpri, In}
use Rattle.tcode.specs.declared.instruction.Operation.TheVariants.{Out, Outbyte, Outword, Alt, Enbc, Enbs, Altwt}
use Rattle.tcode.specs.declared.instruction.Operation.TheVariants.{Disc, Diss, Altend}
use Rattle.tcode.specs.Decoding.{decode}
use Rattle.tcpu.specs.declared.registers.Registers.{Registers}
use Rattle.tcpu.specs.declared.registers.Next.{Next}
use Rattle.tcpu.specs.declared.registers.Next.TheVariants.{Go, Jumped, Schedule, Halt}
use Rattle.tcpu.specs.Outcomes.{Outcome}
use Rattle.tcpu.specs.Effects.{effect}
use Rattle.tproc.specs.Machine.{workspace_of, priority_of}
use Rattle.tproc.specs.declared.channels.Side.{Side}
use Rattle.tproc.specs.declared.channels.Side.TheVariants.{Input, Output}
use Rattle.tproc.specs.LinkChannels.{is_link}
use Rattle.tplan.specs.declared.plan.End.{End}
use Rattle.tplan.specs.declared.plan.NodePlan.{NodePlan}
use Rattle.tplan.specs.declared.plan.Plan.{Plan}
use Rattle.tprocesses.specs.Places.{Place, Name, WordAt, Standing, LinkHalf, Messages, Kept, Error, HaltOnError}
use Rattle.tprocesses.specs.Places.{FlagChanged, Successions, After, child_of}
use Rattle.tprocesses.specs.Values.{Use, Last, Context, Stand, Rests, Runs, Chosen, Listens, IsWord, IsCount}
use Rattle.tprocesses.specs.Values.{IsFlag, word_in, stand_in, link_in, flag_in, count_in}
use Rattle.tprocesses.specs.Changes.{known_word, free_word}
use Rattle.tprocesses.specs.Parts.{Part, stopping, Breaks, Halts, SawTheScheduler, WordInUse}
use Rattle.tprocesses.specs.Parts.{HasNoStep}
use Rattle.tprocesses.specs.Touching.{Site, word_number, word_place, kept}
use Rattle.tprocesses.specs.Performing.{Performed}
use Rattle.tprocesses.specs.Uses.{Uses, uses_of, has_needed, known_writes}
use Rattle.tprocesses.specs.Standing.{goes_on, push, pop, fresh, forget}
use Rattle.tprocesses.specs.ChannelMessages.{channel_step}
use Rattle.tprocesses.specs.LinkMessages.{node_sends, node_receives}
use Rattle.tprocesses.specs.Scheduling.{starts_child, runs_child, stops_itself, stops_by_error, ends_among_others}
use Rattle.tprocesses.specs.Scheduling.{with_child, communicates, sends_or_receives, sends_from_workspace}
use Rattle.tprocesses.specs.Scheduling.{schedules, goes_on_after, laid_down, successor_workspace, successor_step}
use Rattle.tprocesses.specs.Instructions.{Flags, has_flags, flags_before, registers, is_same_flag, sets_flag}
use Rattle.tprocesses.specs.Instructions.{flags_after, context_after, jumped, sets_error, followed, completed}
use Rattle.tprocesses.specs.Instructions.{executed, runs}
use Rattle.tprocesses.specs.Machine.{Agent, Process, Channel, Wire, Successor, Role, Processor, Source, Sink}
use Rattle.tprocesses.specs.Machine.{Nothing, role_at, site_of, at_site, sender_to, awaiting, sends, receives, asks}
use Rattle.tprocesses.specs.Machine.{crosses, passes, stepped, step_of}
use Rattle.tprocesses.proofs.Gates.{own_standing, own_half, own_word, own_input, own_kept, own_output, own_messages}
use Rattle.tprocesses.proofs.Gates.{error_is_free, halting_is_free, successions_are_free}
use Rattle.tprocesses.proofs.Safe.{Seen, Anything, Safely, IsFine, andthen, nothing, stops, sees_fine, plain}
use Rattle.tprocesses.proofs.Safe.{chooses, requires_fine, unless_fine, decrements, raises, tells}
use Rattle.tprocesses.proofs.SafeTouches.{unsent_safe, write_word_at_safe, save_safe}
use Rattle.tprocesses.proofs.SafeParts.{IsOwn, touch_word_at_fine, perform_fine, stands_safe, known_fine}
use Rattle.tprocesses.proofs.SafeParts.{comes_fine, starts_fine, ends_safe, moves_fine, resumes_safe}
use Rattle.tprocesses.proofs.SafeMessages.{IsMine, puts_mine, takes_half_safe, channel_step_safe, takes_link_safe}
use Rattle.tprocesses.proofs.SafeMessages.{node_sends_safe, source_sends_safe, node_receives_safe}
use Rattle.tprocesses.proofs.SafeMessages.{sink_receives_safe}
use Rattle.tprocesses.proofs.SafeChoices.{begins_choice_safe, enables_channel_safe, enables_skip_safe}
use Rattle.tprocesses.proofs.SafeChoices.{awaits_choice_safe, goes_on_chosen_safe, disables_channel_safe}
use Rattle.tprocesses.proofs.SafeChoices.{disables_skip_safe, ends_choice_safe}
use Rattle.tprocesses.proofs.SafeLinks.{offers_fine, listens_safe, fires_safe}

module _ (p : Plan) (a : Agent) where
  goes_on_safe : {K : Seen → Type 0} (x : Name) (c : Context) → IsOwn p a x → Safely p a K (goes_on x c) Anything
  goes_on_safe x c own = stands_safe p a x (Runs c) own

  starts_child_safe : {K : Seen → Type 0} (s : Site) (x : Name) (c : Context) → IsOwn p a x
      → Safely p a K (starts_child s x c) Anything
  starts_child_safe s x c own =
      andthen p a (known_fine p a c.a)
      (λ workspace. andthen p a (known_fine p a c.b)
      (λ offset. andthen p a
      (starts_fine p a s (child_of x c.children) (fresh c.priority workspace (plus c.iptr offset)))
      (λ y. goes_on_safe x (pop (pop (with_child c))) own)))

  runs_child_safe : {K : Seen → Type 0} (s : Site) (x : Name) (c : Context) → IsOwn p a x
      → Safely p a K (runs_child s x c) Anything
  runs_child_safe s x c own =
      andthen p a (known_fine p a c.a)
      (λ process. andthen p a (touch_word_at_fine p a s Reads (word_below (workspace_of process) 1))
      (λ cells. andthen p a (known_fine p a (known_word cells))
      (λ iptr. andthen p a
      (starts_fine p a s (child_of x c.children) (fresh (priority_of process) (workspace_of process) iptr))
      (λ y. goes_on_safe x (pop (with_child c)) own))))

  stops_itself_safe : {K : Seen → Type 0} (s : Site) (x : Name) (c : Context) → IsOwn p a x
      → Safely p a K (stops_itself s x c) Anything
  stops_itself_safe s x c own =
      andthen p a (write_word_at_safe p a s (word_below c.wptr 1) (as_cells (to_le_bytes w32 c.iptr)))
      (λ y. ends_safe p a s x c own)

  stops_by_error_safe : {K : Seen → Type 0} (s : Site) (x : Name) (c : Context) → IsOwn p a x
      → Safely p a K (stops_by_error s x c) Anything
  stops_by_error_safe s x c own =
      andthen p a (sees_fine p a (Error s.number))
      (λ error. chooses p a (flag_in error) (stops_itself_safe s x c own) (goes_on_safe x c own))

  ends_among_others_safe : {K : Seen → Type 0} (s : Site) (x : Name) (c : Context) → IsOwn p a x
      → Safely p a K (ends_among_others s x c) Anything
  ends_among_others_safe s x c own =
      andthen p a (known_fine p a c.a)
      (λ workspace. andthen p a (touch_word_at_fine p a s Reads workspace)
      (λ cells. andthen p a (unless_fine p a (word_place_break s.size (plus workspace 4)))
      (λ y. andthen p a (unsent_safe p a s (word_number (plus workspace 4)))
      (λ z. andthen p a (decrements p a (word_place s (plus workspace 4)) c.priority)
      (λ u. ends_safe p a s x c own)))))

  communicates_safe : {K : Seen → Type 0} (s : Site) (x : Name) (c : Context) (side : Side) (channel : ℕ)
      (buffer : Span) → IsOwn p a x → Safely p a K (communicates s x c side channel buffer) Anything
  communicates_safe s x c side channel buffer own =
      chooses p a (is_link channel) (takes_link_safe p a s x c side channel buffer own)
      (takes_half_safe p a s x c side channel buffer own)

  sends_or_receives_safe : {K : Seen → Type 0} (side : Side) (s : Site) (x : Name) (c : Context) → IsOwn p a x
      → Safely p a K (sends_or_receives side s x c) Anything
  sends_or_receives_safe side s x c own =
      andthen p a (known_fine p a c.a)
      (λ length. andthen p a (known_fine p a c.b)
      (λ channel. andthen p a (known_fine p a c.c)
      (λ buffer. communicates_safe s x c side channel (record { start = buffer; size = length }) own)))

  sends_from_workspace_safe : {K : Seen → Type 0} (length : ℕ) (s : Site) (x : Name) (c : Context) → IsOwn p a x
      → Safely p a K (sends_from_workspace length s x c) Anything
  sends_from_workspace_safe length s x c own =
      andthen p a (known_fine p a c.b)
      (λ channel. andthen p a (write_word_at_safe p a s c.wptr (laid_down c.a))
      (λ y. communicates_safe s x c Output channel (record { start = c.wptr; size = length }) own))

  schedules_safe : {K : Seen → Type 0} (o : Operation) (s : Site) (x : Name) (c : Context) → IsOwn p a x
      → Safely p a K (schedules o s x c) Anything
  schedules_safe Startp s x c own = starts_child_safe s x c own
  schedules_safe Endp s x c own = ends_among_others_safe s x c own
  schedules_safe Runp s x c own = runs_child_safe s x c own
  schedules_safe Stopp s x c own = stops_itself_safe s x c own
  schedules_safe Stoperr s x c own = stops_by_error_safe s x c own
  schedules_safe Ldpri s x c own = goes_on_safe x (push (Some c.priority) c) own
  schedules_safe In s x c own = sends_or_receives_safe Input s x c own
  schedules_safe Out s x c own = sends_or_receives_safe Output s x c own
  schedules_safe Outbyte s x c own = sends_from_workspace_safe 1 s x c own
  schedules_safe Outword s x c own = sends_from_workspace_safe 4 s x c own
  schedules_safe Alt s x c own = begins_choice_safe p a s x c own
  schedules_safe Enbc s x c own = enables_channel_safe p a s x c own
  schedules_safe Enbs s x c own = enables_skip_safe p a s x c own
  schedules_safe Altwt s x c own = awaits_choice_safe p a s x c own
  schedules_safe Disc s x c own = disables_channel_safe p a s x c own
  schedules_safe Diss s x c own = disables_skip_safe p a s x c own
  schedules_safe Altend s x c own = ends_choice_safe p a s x c own
  schedules_safe _ s x c own = stops p a (Breaks NoSuchOperation)

  goes_on_after_safe : {K : Seen → Type 0} (s : Site) (k : ℕ) (u : Use) → IsMine p a (WordAt s.number k)
      → Safely p a K (goes_on_after s k u) Anything
  goes_on_after_safe s k (Last priority) own = let w = successor_workspace k in
      andthen p a (touch_word_at_fine p a s Reads w)
      (λ cells. andthen p a (known_fine p a (known_word cells))
      (λ iptr. andthen p a (unsent_safe p a s k)
      (λ y. andthen p a (puts_mine p a (WordAt s.number k) (IsWord (free_word 0)) own)
      (λ z. andthen p a (sees_fine p a (Successions s.number w))
      (λ earlier. andthen p a
      (puts_mine p a (Successions s.number w) (IsCount (suc (count_in earlier)))
      (successions_are_free p a s.number w))
      (λ u. comes_fine p a s (record { node = s.number; root = After w (count_in earlier); path = [] })
      (fresh priority w iptr) Runs))))))
  goes_on_after_safe s k _ own = stops p a WordInUse

  successor_step_safe : {K : Seen → Type 0} (k : ℕ) (s : Site) → IsMine p a (WordAt s.number k)
      → Safely p a K (successor_step k s) Anything
  successor_step_safe k s own =
      andthen p a (sees_fine p a (WordAt s.number k)) (λ count. goes_on_after_safe s k (word_in count).used own)

  flags_before_fine : {K : Seen → Type 0} (s : Site) (b : Bool) → Safely p a K (flags_before s b) Anything
  flags_before_fine s true =
      andthen p a (sees_fine p a (Error s.number))
      (λ error. andthen p a (sees_fine p a (HaltOnError s.number)) (λ halting. nothing p a _ (λ t k. tt)))
  flags_before_fine s false = nothing p a _ (λ t k. tt)

  sets_flag_safe : {K : Seen → Type 0} (s : Site) (q : Place) (old new : Bool) → IsMine p a q
      → Safely p a K (sets_flag s q old new) Anything
  sets_flag_safe s q old new own =
      chooses p a (is_same_flag old new) (nothing p a tt (λ t k. tt))
      (andthen p a (puts_mine p a q (IsFlag new) own) (λ y. raises p a (FlagChanged s.number)))

  flags_after_fine : {K : Seen → Type 0} (s : Site) (b : Bool) (f : Flags) (r : Registers)
      → Safely p a K (flags_after s b f r) Anything
  flags_after_fine s true f r =
      andthen p a (sets_flag_safe s (Error s.number) f.error r.error (error_is_free p a s.number))
      (λ y. sets_flag_safe s (HaltOnError s.number) f.halt_on_error r.halt_on_error (halting_is_free p a s.number))
  flags_after_fine s false f r = nothing p a tt (λ t k. tt)

  jumped_safe : {K : Seen → Type 0} (priority : ℕ) (s : Site) (x : Name) (c : Context) → IsOwn p a x
      → Safely p a K (jumped priority s x c) Anything
  jumped_safe zero s x c own = goes_on_safe x c own
  jumped_safe (suc q) s x c own =
      andthen p a (save_safe p a s c.wptr kept) (λ y. stands_safe p a x (Rests (forget c)) own)

  sets_error_safe : {K : Seen → Type 0} (s : Site) (x : Name) (c : Context) → IsOwn p a x
      → Safely p a K (sets_error s x c) Anything
  sets_error_safe s x c own =
      andthen p a (sees_fine p a (HaltOnError s.number))
      (λ halting. andthen p a (requires_fine p a (not (flag_in halting)) Halts)
      (λ y. andthen p a (raises p a (Error s.number))
      (λ z. andthen p a (raises p a (FlagChanged s.number)) (λ u. goes_on_safe x c own))))

  followed_safe : {K : Seen → Type 0} (next : Next) (s : Site) (x : Name) (scheduled after : Context) → IsOwn p a x
      → Safely p a K (followed next s x scheduled after) Anything
  followed_safe Go s x scheduled after own = goes_on_safe x after own
  followed_safe Jumped s x scheduled after own = jumped_safe after.priority s x after own
  followed_safe (Schedule o) s x scheduled after own = schedules_safe o s x scheduled own
  followed_safe Halt s x scheduled after own = sets_error_safe s x after own

  completed_safe : {K : Seen → Type 0} (s : Site) (x : Name) (c : Context) (i : Instruction) (f : Flags) (u : Uses)
      (d : Performed Outcome) → IsOwn p a x → Safely p a K (completed s x c i f u d) Anything
  completed_safe s x c i f u d own = let r = d.value.0 in
      andthen p a (requires_fine p a (d.known || not u.reads_known) SawTheScheduler)
      (λ y. andthen p a (flags_after_fine s (has_flags s.kind i) f r)
      (λ z. andthen p a (requires_fine p a (is_none c.choice || (c.wptr == r.wptr)) WordInUse)
      (λ v. andthen p a (moves_fine p a s c.wptr r.wptr)
      (λ w. followed_safe d.value.1 s x (record c { iptr = plus c.iptr i.length }) (context_after c u d.known r)
      own))))

  executed_safe : {K : Seen → Type 0} (s : Site) (x : Name) (c : Context) (i : Instruction) → IsOwn p a x
      → Safely p a K (executed s x c i) Anything
  executed_safe s x c i own = let u = uses_of s.kind i (unwrap_or c.a 0) in
      andthen p a (requires_fine p a (has_needed u.needs c) SawTheScheduler)
      (λ y. andthen p a (flags_before_fine s (has_flags s.kind i))
      (λ f. andthen p a (perform_fine p a s (known_writes c u) (effect s.kind i (registers c f)))
      (λ d. completed_safe s x c i f u d own)))

  runs_safe : {K : Seen → Type 0} (s : Site) (x : Name) (c : Context) → IsOwn p a x → Safely p a K (runs s x c) Anything
  runs_safe s x c own =
      andthen p a (plain p a (perform_fine p a s [] (decode s.kind c.iptr)))
      (λ d. andthen p a (requires_fine p a d.known SawTheScheduler) (λ y. executed_safe s x c d.value own))

  stepped_safe : {K : Seen → Type 0} (x : Name) (stand : Stand) (s : Site) → s.number ≡ x.node → IsOwn p a x
      → Safely p a K (stepped p x stand s) Anything
  stepped_safe x (Rests c) s home own = resumes_safe p a s x c own
  stepped_safe x (Runs c) s home own = runs_safe s x c own
  stepped_safe x (Chosen c) s home own = goes_on_chosen_safe p a s x c own
  stepped_safe x (Listens channel c) s home own = listens_safe p a x channel c s home own
  stepped_safe x _ s home own = stops p a HasNoStep

  at_site_safe : {A : Type 0} {K : Seen → Type 0} (n : ℕ) (step : Site → Part A)
      → ((plan : NodePlan) → Safely p a K (step (site_of n plan)) Anything) → Safely p a K (at_site p n step) Anything
  at_site_safe {A} {K} n step h = by (slice_get p.nodes n)
    where
      by : (t : Option NodePlan)
          → Safely p a K (elim t [ Some plan ↦ step (site_of n plan) | None ↦ stopping HasNoStep ]) Anything
      by (Some plan) = h plan
      by None = stops p a HasNoStep

  sends_safe : {K : Seen → Type 0} (r : Role) (f : End) → IsMine p a (LinkHalf f Output) → IsMine p a (Messages f)
      → Safely p a K (sends p r f) Anything
  sends_safe Processor f out messages =
      at_site_safe f.node (node_sends f) (λ plan. node_sends_safe p a f (site_of f.node plan) out)
  sends_safe Source f out messages = source_sends_safe p a f messages
  sends_safe Sink f out messages = stops p a HasNoStep
  sends_safe Nothing f out messages = stops p a HasNoStep

  receives_safe : {K : Seen → Type 0} (r : Role) (e : End) (message : Store) → IsMine p a (LinkHalf e Input)
      → IsMine p a (Kept e) → Safely p a K (receives p r e message) Anything
  receives_safe Processor e message input mine =
      at_site_safe e.node (node_receives message e)
      (λ plan. node_receives_safe p a message e (site_of e.node plan) input)
  receives_safe Sink e message input mine = sink_receives_safe p a message e mine
  receives_safe Source e message input mine = stops p a HasNoStep
  receives_safe Nothing e message input mine = stops p a HasNoStep

  asks_fine : {K : Seen → Type 0} (r : Role) (e : End) → Safely p a K (asks r e) Anything
  asks_fine Processor e =
      andthen p a (sees_fine p a (LinkHalf e Input)) (λ half. nothing p a (awaiting (link_in half)) (λ t k. tt))
  asks_fine Source e = nothing p a None (λ t k. tt)
  asks_fine Sink e = nothing p a None (λ t k. tt)
  asks_fine Nothing e = nothing p a None (λ t k. tt)

module _ (p : Plan) where
  crosses_safe : {K : Seen → Type 0} (e f : End) (asked : Option Name) → sender_to p e ≡ Some f
      → Safely p (Wire e) K (crosses p f e asked) Anything
  crosses_safe e f None from =
      andthen p (Wire e)
      (sends_safe p (Wire e) (role_at p f.node) f (own_output p e f from) (own_messages p e f from))
      (λ message. andthen p (Wire e)
      (receives_safe p (Wire e) (role_at p e.node) e message (own_input p e) (own_kept p e))
      (λ y. tells p (Wire e) message))
  crosses_safe e f (Some x) from =
      andthen p (Wire e) (offers_fine p (Wire e) f)
      (λ offered. andthen p (Wire e) (requires_fine p (Wire e) offered HasNoStep)
      (λ y. fires_safe p (Wire e) e x (own_input p e)))

  passes_safe : (e : End) (t : Option End) → sender_to p e ≡ t → IsFine p (Wire e) (passes p t e)
  passes_safe e (Some f) from =
      andthen p (Wire e) (asks_fine p (Wire e) (role_at p e.node) e) (λ asked. crosses_safe e f asked from)
  passes_safe e None from = stops p (Wire e) HasNoStep

  pub step_of_safe : (a : Agent) → IsFine p a (step_of p a)
  step_of_safe (Process x) =
      andthen p (Process x) (sees_fine p (Process x) (Standing x))
      (λ stood. at_site_safe p (Process x) x.node (stepped p x (stand_in stood))
      (λ plan. stepped_safe p (Process x) x (stand_in stood) (site_of x.node plan) refl (own_standing p x)))
  step_of_safe (Channel n c) =
      at_site_safe p (Channel n c) n (channel_step c)
      (λ plan. channel_step_safe p (Channel n c) c (site_of n plan) (λ side. own_half p n c side))
  step_of_safe (Wire e) = passes_safe e (sender_to p e) refl
  step_of_safe (Successor n k) =
      at_site_safe p (Successor n k) n (successor_step k)
      (λ plan. successor_step_safe p (Successor n k) k (site_of n plan) (own_word p n k))
