-- A process that sends or receives on an internal channel: it stores its message, if it has to, and takes its half.
use Rattle.std.proofs.Common.{◌≡◌, ℕ, ◌+◌, ◌≤◌, ◌<◌, ◌/◌, refl, sym, ap, subst, true, false, true≢false, length}
use Rattle.std.proofs.Common.{get_or}
use Rattle.std.proofs.Common.{Option, Some, None, arith, ◌⊎◌, inl, inr}
use Rattle.std.specs.Prelude.{if◌then◌else◌}
use Rattle.std.specs.Int.{w32, to_le_bytes}
use Rattle.std.proofs.lemmas.Bool.{eqb-true}
use Rattle.tword.specs.Stores.{Store, place, with_word, as_cells}
use Rattle.tword.specs.Claims.{Claims}
use Rattle.tword.specs.declared.span.Span.{Span}
use Rattle.tword.specs.Touches.{Writes, word_break}
use Rattle.tword.specs.Actions.{run_from}
use Rattle.tcode.specs.declared.instruction.Operation.{Operation}
use Rattle.tcode.specs.declared.instruction.Operation.TheVariants.{In, Out, Outbyte, Outword}
use Rattle.tcpu.specs.declared.registers.Registers.{Registers}
use Rattle.tcpu.specs.Outcomes.{pop}
use Rattle.tproc.specs.declared.channels.Side.{Side}
use Rattle.tproc.specs.declared.channels.Side.TheVariants.{Input, Output}
use Rattle.tproc.specs.Machine.{Control, claims_of}
use Rattle.tproc.specs.Channels.{Request, internal_message}
use Rattle.tproc.specs.LinkChannels.{is_link, message}
use Rattle.tproc.specs.Scheduler.{operation_step}
use Rattle.tproc.proofs.WordsApart.{LiesWord}
use Rattle.tplan.specs.declared.plan.Plan.{Plan}
use Rattle.tnet.specs.Rendezvous.{Configuration}
use Rattle.treduction.specs.Plain.{rank}
use Rattle.tprocesses.specs.Places.{Name}
use Rattle.tprocesses.specs.Values.{Free}
use Rattle.tprocesses.specs.Touching.{Site, word_number, write_word_at}
use Rattle.tprocesses.specs.Standing.{known}
use Rattle.tprocesses.specs.ChannelMessages.{takes_half}
use Rattle.tprocesses.specs.LinkMessages.{takes_link}
use Rattle.tprocesses.specs.Scheduling.{schedules, communicates, laid_down, sends_from_workspace, sends_or_receives}
use Rattle.tprocesses.specs.Machine.{site_of}
use Rattle.tseen.specs.Known.{Knows}
use Rattle.tseen.specs.Messages.{is_message}
use Rattle.tseen.specs.Steps.{IsCurrent}
use Rattle.tseen.proofs.After.{State, After, after_bind}
use Rattle.tseen.proofs.Cells.{use_of, Knows as CellKnows}
use Rattle.tseen.proofs.Touched.{Permits}
use Rattle.tseen.proofs.Writing.{IsWordWritten, write_word_at_then}
use Rattle.tseen.proofs.Stored.{GoesOn, goes_on_more, set_both, knows_bytes, permits_on}
use Rattle.tseen.proofs.Performed.{word_passes}
use Rattle.tseen.proofs.Running.{RunsThere}
use Rattle.tseen.proofs.Stepped.{there}
use Rattle.tseen.proofs.AtOperation.{registers_at, context_at, control_at, IsAtOperation}
use Rattle.tseen.proofs.HalfTaken.{IsHalfTaken, takes_half_then}

-- what an operation asks for: the side, the buffer, and the registers that go on
abbrev pub side_of : Operation → Side
side_of In = Input
side_of _ = Output

abbrev pub length_of : Operation → Registers → ℕ
length_of Outbyte r = 1
length_of Outword r = 4
length_of _ r = r.a

abbrev pub start_of : Operation → Registers → ℕ
start_of Outbyte r = r.wptr
start_of Outword r = r.wptr
start_of _ r = r.c

abbrev pub buffer_for : Operation → Registers → Span
buffer_for o r = record { start = start_of o r; size = length_of o r }

abbrev pub left_by : Operation → Registers → Registers
left_by Outbyte r = pop (pop r)
left_by Outword r = pop (pop r)
left_by _ r = pop (pop (pop r))

abbrev pub request_for : Operation → (process : ℕ) → Registers → Request
request_for o process r =
    record { process = process; side = side_of o; channel = r.b; buffer = start_of o r; length = length_of o r }

-- a value that has to be known is the one that is there
known_then : (v : Option ℕ) (value : ℕ) → Knows v value → (s : State) (Q : ℕ → State → Type 0) → Q value s
    → After (known v) s Q
known_then None value h s Q q = tt
known_then (Some v) value h s Q q = subst (λ z. Q z s) (sym h) q

pub four_laid : (v : Option ℕ) → length (laid_down v) ≡ 4
four_laid None = refl
four_laid (Some v) = refl

module _ (p : Plan) (c : Configuration) (s : State) (n : ℕ) (x : Name) (k : IsCurrent p c s n x) where
  abbrev m : Control
  m = k.node.machine.control

  abbrev store : Store
  store = k.node.machine.store

  abbrev claims : Claims
  claims = claims_of m

  abbrev site : Site
  site = site_of n k.plan

  abbrev running : RunsThere s n k.plan k.node x
  running = there p c s n x k

  -- a process asks for its message on an internal channel, with this store
  pub record IsAsked (o : Operation) (size : ℕ) (u : State) (laid : Store) : Type 0 where
    pub on : GoesOn n k.plan.memory s u store laid
    pub runs : run_from (operation_step o (rank running.level) (control_at p c s n x k o size)) store claims store
        ≡ run_from (internal_message (left_by o (registers_at p c s n x k size))
        (request_for o (m.registers.wptr + rank running.level) m.registers)
        (control_at p c s n x k o size)) store claims laid
    -- what is stored lies in the buffer
    pub first : (laid ≡ store)
        ⊎ ((laid ≡ with_word store m.registers.wptr m.registers.a) × (start_of o m.registers ≡ m.registers.wptr)
        × (0 < length_of o m.registers) × LiesWord (length store) m.registers.wptr)

  -- the half is taken
  abbrev pub IsTakenBy : Operation → (size : ℕ) → State → State → Type 0
  IsTakenBy o size u v =
      IsHalfTaken site running.whole x (context_at p c s n x k size) (side_of o) m.registers.b
      (buffer_for o m.registers) u v

  abbrev pub TakesHalf : Operation → (size : ℕ) → (Unit {0} → State → Type 0) → Type 0
  TakesHalf o size Q =
      (u v : State) (laid : Store) → IsAsked o size u laid → IsTakenBy o size u v → Q tt v

  module _ (internal : is_link m.registers.b ≡ false) where
    -- a message on an internal channel
    is_internal : (after : Registers) (q : Request) (m' : Control) (new : Store) → is_link q.channel ≡ false
        → run_from (message after q m') store claims new ≡ run_from (internal_message after q m') store claims new
    is_internal after q m' new e = rw e refl

    half_then : (o : Operation) (size : ℕ) (u : State) (laid : Store) (Q : Unit {0} → State → Type 0)
        → IsAsked o size u laid → TakesHalf o size Q
        → After (communicates site x (context_at p c s n x k size) (side_of o) m.registers.b (buffer_for o m.registers))
        u Q
    half_then o size u laid Q asked q =
        subst (λ t. After (if t then takes_link site x (context_at p c s n x k size) (side_of o) m.registers.b
        (buffer_for o m.registers) else takes_half site x (context_at p c s n x k size) (side_of o) m.registers.b
        (buffer_for o m.registers)) u Q) (sym internal)
        (takes_half_then site running.whole x (context_at p c s n x k size) (side_of o) m.registers.b
        (buffer_for o m.registers) p u Q asked.on.tells.words (λ v taken. q u v laid asked taken))

    -- the message is stored
    module _ (u : State) (on : GoesOn n k.plan.memory s u store store) where
      permits_then : Permits u n claims
      permits_then = permits_on s u n claims on.keeps running.permits

      laid_on : (v : State) → IsWordWritten site running.whole u v m.registers.wptr (laid_down running.context.a)
          → GoesOn n k.plan.memory s v store (with_word store m.registers.wptr m.registers.a)
      laid_on v wr =
          goes_on_more n k.plan.memory s u v store store (with_word store m.registers.wptr m.registers.a) on
          (set_both n k.plan.memory u v store m.registers.wptr (laid_down running.context.a)
          (as_cells (to_le_bytes w32 m.registers.a)) on.tells wr.keeps wr.set (four_laid running.context.a)
          (λ j h. knows_laid running.context.a running.registers.a j)
          (λ i l h. subst (λ z. use_of u n z ≡ Free) (word i l h) wr.touched.touched.free)
          (inr (wr.touched.above, omega (arith, wr.touched.at, wr.touched.within))))
        where
          word : (i : ℕ) → place m.registers.wptr ≤ i → i < place m.registers.wptr + 4
              → word_number m.registers.wptr ≡ i / 4
          word i l h = omega (arith, wr.touched.at, l, h)

          knows_laid : (a : Option ℕ) → Knows a m.registers.a → (j : ℕ)
              → CellKnows (get_or (laid_down a) j None)
              (get_or (as_cells (to_le_bytes w32 m.registers.a)) j None)
          knows_laid None h j =
              knows_bytes false (to_le_bytes w32 0) (to_le_bytes w32 m.registers.a) (λ e. absurd (true≢false (sym e))) j
          knows_laid (Some v) h j =
              knows_bytes true (to_le_bytes w32 v) (to_le_bytes w32 m.registers.a) (λ e. ap (to_le_bytes w32) h) j

      -- and it may be
      laid_passes : (v : State) → IsWordWritten site running.whole u v m.registers.wptr (laid_down running.context.a)
          → word_break (length store) claims Writes m.registers.wptr ≡ None
      laid_passes v wr =
          subst (λ z. word_break z claims Writes m.registers.wptr ≡ None) (sym running.tells.length)
          (word_passes site running.whole claims u Writes m.registers.wptr permits_then wr.touched)

      laid_then : (o : Operation) (size : ℕ) (Q : Unit {0} → State → Type 0)
          → start_of o m.registers ≡ m.registers.wptr → side_of o ≡ Output → (count : ℕ)
          → length_of o m.registers ≡ count → 0 < count
          → ((word_break (length store) claims Writes m.registers.wptr ≡ None)
          → run_from (operation_step o (rank running.level) (control_at p c s n x k o size)) store claims store
          ≡ run_from (internal_message (left_by o (registers_at p c s n x k size))
          (request_for o (m.registers.wptr + rank running.level) m.registers)
          (control_at p c s n x k o size)) store claims (with_word store m.registers.wptr m.registers.a))
          → TakesHalf o size Q
          → After (sends_from_workspace count site x (context_at p c s n x k size)) u Q
      laid_then o size Q start side count counted some runs q =
          after_bind (known running.context.b) _ u Q
          (known_then running.context.b m.registers.b running.registers.b u _
          (after_bind (write_word_at site m.registers.wptr (laid_down running.context.a)) _ u Q
          (write_word_at_then site running.whole m.registers.wptr (laid_down running.context.a) u _
          (four_laid running.context.a) (λ v wr.
          subst (λ side. After (communicates site x (context_at p c s n x k size) side m.registers.b
          (record { start = m.registers.wptr; size = count })) v Q) side
          (subst (λ a. After (communicates site x (context_at p c s n x k size) (side_of o) m.registers.b
          (record { start = a; size = count })) v Q) start
          (subst (λ l. After (communicates site x (context_at p c s n x k size) (side_of o) m.registers.b
          (record { start = start_of o m.registers; size = l })) v Q) counted
          (half_then o size v (with_word store m.registers.wptr m.registers.a) Q (record {
            on = laid_on v wr;
            runs = runs (laid_passes v wr);
            first = inr (
              refl,
              start,
              subst (λ l. 0 < l) (sym counted) some,
              record {
                above = wr.touched.above;
                within = omega (arith, wr.touched.at, wr.touched.within, running.tells.length);
                aligned = eqb-true _ _ k.steady.placed.words.aligned;
              },
            );
          }) q)))))))

      -- `in` and `out`
      asked_then : (o : Operation) (size : ℕ) (Q : Unit {0} → State → Type 0) → start_of o m.registers ≡ m.registers.c
          → length_of o m.registers ≡ m.registers.a
          → (run_from (operation_step o (rank running.level) (control_at p c s n x k o size)) store claims store
          ≡ run_from (internal_message (left_by o (registers_at p c s n x k size))
          (request_for o (m.registers.wptr + rank running.level) m.registers)
          (control_at p c s n x k o size)) store claims store)
          → TakesHalf o size Q
          → After (sends_or_receives (side_of o) site x (context_at p c s n x k size)) u Q
      asked_then o size Q start counted runs q =
          after_bind (known running.context.a) _ u Q
          (known_then running.context.a m.registers.a running.registers.a u _
          (after_bind (known running.context.b) _ u Q
          (known_then running.context.b m.registers.b running.registers.b u _
          (after_bind (known running.context.c) _ u Q
          (known_then running.context.c m.registers.c running.registers.c u _
          (subst (λ a. After (communicates site x (context_at p c s n x k size) (side_of o) m.registers.b
          (record { start = a; size = m.registers.a })) u Q) start
          (subst (λ l. After (communicates site x (context_at p c s n x k size) (side_of o) m.registers.b
          (record { start = start_of o m.registers; size = l })) u Q) counted
          (half_then o size u store Q (record { on = on; runs = runs; first = inl refl }) q))))))))

    -- so each of the four
    pub message_then : (o : Operation) → is_message o ≡ true → (u : State) (a : IsAtOperation p c s n x k o u)
        (Q : Unit {0} → State → Type 0)
        → TakesHalf o a.size Q
        → After (schedules o site x (context_at p c s n x k a.size)) u Q
    unfolding operation_step
    message_then In h u a Q q = asked_then u a.on In a.size Q refl refl (is_internal _ _ _ store internal) q
    message_then Out h u a Q q = asked_then u a.on Out a.size Q refl refl (is_internal _ _ _ store internal) q
    message_then Outbyte h u a Q q =
        laid_then u a.on Outbyte a.size Q refl refl 1 refl (omega arith)
        (λ passes. rw passes (is_internal _ _ _ (with_word store m.registers.wptr m.registers.a) internal)) q
    message_then Outword h u a Q q =
        laid_then u a.on Outword a.size Q refl refl 4 refl (omega arith)
        (λ passes. rw passes (is_internal _ _ _ (with_word store m.registers.wptr m.registers.a) internal)) q
    message_then _ h u a Q q = absurd (true≢false (sym h))
