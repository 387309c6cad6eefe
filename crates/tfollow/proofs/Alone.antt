-- A step in which a count falls changes that word in no other way.
use Rattle.std.proofs.Common.{◌≡◌, ℕ, suc, zero, ℤ, inl, inr, ◌⊎◌, refl, sym, ap, ◌∙◌, subst, Bool, true, false, cond}
use Rattle.std.proofs.Common.{List, [], ◌∷◌, Option, Some, None, true≢false, map, slice_get}
use Rattle.std.specs.Prelude.{filter, is_none, IfSome, if◌then◌else◌, ◌||◌, not, unwrap_or, pos, negsuc, ◌==◌}
use Rattle.tword.specs.declared.kind.Kind.{Kind}
use Rattle.tword.specs.declared.breaks.Break.TheVariants.{NoSuchOperation}
use Rattle.tword.specs.Stores.{Store, shown}
use Rattle.std.specs.Int.{w32, from_le_bytes}
use Rattle.tword.specs.Words.{plus, minus}
use Rattle.tword.specs.Touches.{Reads, byte_span, word_place_break}
use Rattle.tword.specs.Actions.{Action, answer, breaks}
use Rattle.tcode.specs.declared.instruction.Function.{Function}
use Rattle.tcode.specs.declared.instruction.Function.TheVariants as function
use Rattle.tcode.specs.declared.instruction.Operation.{Operation}
use Rattle.tcode.specs.declared.instruction.Operation.TheVariants as op
use Rattle.tcode.specs.declared.instruction.Instruction.{Instruction}
use Rattle.tcode.specs.Chains.{longest, Chained, More, Last, chained, instruction, is_listed}
use Rattle.tcode.specs.Decoding.{complete, fetch, decode}
use Rattle.tcode.specs.Table.{operation_at}
use Rattle.tcpu.specs.declared.registers.Registers.{Registers}
use Rattle.tcpu.specs.declared.registers.Next.{Next}
use Rattle.tcpu.specs.declared.registers.Next.TheVariants.{Go, Jumped, Schedule, Halt}
use Rattle.tcpu.specs.Outcomes.{Outcome}
use Rattle.tcpu.specs.Functions.{function_effect}
use Rattle.tcpu.specs.Operations.{operation_effect, looped, is_positive_word}
use Rattle.tcpu.specs.Effects.{local_or_left, selected_effect, effect_at, effect}
use Rattle.tcpu.proofs.Quiet.{IsQuiet}
use Rattle.tproc.specs.declared.channels.Side.TheVariants.{Input, Output}
use Rattle.tproc.specs.LinkChannels.{link_of}
use Rattle.tplan.specs.declared.plan.End.{End}
use Rattle.tplan.specs.declared.plan.NodePlan.{NodePlan}
use Rattle.tplan.specs.declared.plan.Plan.{Plan}
use Rattle.tplan.specs.Wires.{end_at}
use Rattle.tagents.specs.Tidy.{IsOneOf}
use Rattle.tprocesses.specs.Places.{Place, Name, WordAt, Standing, LinkHalf, Life, Error, HaltOnError, FlagChanged}
use Rattle.tprocesses.specs.Places.{same_place}
use Rattle.tprocesses.specs.Values.{Context, Stand, Absent, Rests, Runs, Waits, Chooses, Chosen, Listens, Ended}
use Rattle.tprocesses.specs.Values.{Value, IsStand, IsFlag, stand_in, link_in}
use Rattle.tprocesses.specs.Changes.{Change, Put, Engage, Decrement, Add, Raise, are_known}
use Rattle.tprocesses.specs.Parts.{Part, gives, stopping, seeing, changing, telling, Changed, change, Breaks}
use Rattle.tprocesses.specs.Parts.{HasNoStep, SawTheScheduler, SeveralReady, WordInUse, ◌>>=◌}
use Rattle.tprocesses.specs.Touching.{Site, word_number, word_place, part_of}
use Rattle.tprocesses.specs.Performing.{Performed, noted, perform}
use Rattle.tprocesses.specs.Uses.{Uses, uses_of, has_needed, known_writes}
use Rattle.tprocesses.specs.Standing.{ends, moves, push}
use Rattle.tprocesses.specs.Standing as standing
use Rattle.tprocesses.specs.Scheduling.{ends_among_others, schedules}
use Rattle.tprocesses.specs.Instructions.{Flags, has_flags, registers, is_same_flag, sets_flag, flags_after}
use Rattle.tprocesses.specs.Instructions.{context_after, followed, completed, executed, runs}
use Rattle.tprocesses.specs.Machine.{Agent, Process, Channel, Wire, Successor, Role, Processor, Source, Sink, Nothing}
use Rattle.tprocesses.specs.Machine.{role_at, site_of, at_site, sender_to, process_step, sends, receives, asks, offers}
use Rattle.tprocesses.specs.Machine.{awaiting, crosses, passes, requires_no_sender, listens, stepped, step_of}
use Rattle.tprocesses.specs.Machine.{is_passable, offer_place}
use Rattle.tprocesses.specs.ChannelMessages.{channel_step}
use Rattle.tprocesses.specs.LinkMessages.{node_sends, node_receives}
use Rattle.tprocesses.specs.Scheduling.{successor_step}
use Rattle.tprocesses.proofs.Tidy.{process_machine_is_tidy}
use Rattle.tclocks.proofs.Lists.{test}
use Rattle.tcertify.specs.Running.{State, changed}
use Rattle.tcertify.specs.Walked as walked
use Rattle.tfollow.specs.Leading.{is_count_down}
use Rattle.tfollow.proofs.Each.{Any, EachChange, Each, andwith, andthen, nothing, stops, sees, changes, tells, requires}
use Rattle.tfollow.proofs.Each.{unless_each, chooses, unsent_each, touch_each, touch_word_at_each, known_each}
use Rattle.tfollow.proofs.Each.{flags_before_each}
use Rattle.tfollow.proofs.Even.{perform_even, goes_on_even, resumes_even, channel_step_even, node_sends_even}
use Rattle.tfollow.proofs.Even.{source_sends_even, node_receives_even, sink_receives_even, starts_child_even}
use Rattle.tfollow.proofs.Even.{runs_child_even, stops_itself_even, stops_by_error_even, sends_or_receives_even}
use Rattle.tfollow.proofs.Even.{sends_from_workspace_even, successor_step_even, jumped_even, sets_error_even}
use Rattle.tfollow.proofs.Even.{begins_choice_even, enables_channel_even, enables_skip_even, awaits_choice_even}
use Rattle.tfollow.proofs.Even.{goes_on_chosen_even, disables_channel_even, disables_skip_even, ends_choice_even}
use Rattle.tfollow.proofs.Even.{fires_even, goes_on_unfired_even}

-- a change counts nothing down
abbrev CountsNothing : Change → Type 0
CountsNothing (Decrement p) = ⊥
CountsNothing _ = Unit {0}

abbrev is_word : Place → Bool
is_word (WordAt n k) = true
is_word _ = false

abbrev Even : Changed → Type 0
Even x = CountsNothing x.change

-- it counts nothing down, and is at no word
abbrev Aside : Changed → Type 0
Aside x = (is_word x.place ≡ false) × CountsNothing x.change

-- a part counts nothing down, or counts down one word, and before and after that changes no word
abbrev AloneIn : {A : Type 0} → Part A → Type 0
AloneIn (gives x) = Unit {0}
AloneIn (stopping why) = Unit {0}
AloneIn (seeing q next) = (v : Value) → AloneIn (next v)
AloneIn (changing q c next) =
    (Aside (record { place = q; change = c }) × AloneIn next)
    ⊎ ((CountsNothing c × EachChange Even Any next) ⊎ ((is_word q ≡ true) × EachChange Aside Any next))
AloneIn (telling m next) = AloneIn next

record Alone {A : Type 0} (part : Part A) : Type 0 where
  alone : AloneIn part

alone-even : {A : Type 0} (part : Part A) → EachChange Even Any part → AloneIn part
alone-even (gives x) h = tt
alone-even (stopping why) h = tt
alone-even (seeing q next) h = λ v. alone-even (next v) (h v)
alone-even (changing q c next) h = inr (inl h)
alone-even (telling m next) h = alone-even next h

even : {A : Type 0} {part : Part A} → Each Even Any part → Alone part
even {part = part} h = record { alone = alone-even part h.each }

aside-bind : {A B : Type 0} (part : Part A) (f : A → Part B) → EachChange Aside Any part → ((x : A) → AloneIn (f x))
    → AloneIn (part >>= f)
aside-bind (gives x) f h k = k x
aside-bind (stopping why) f h k = tt
aside-bind (seeing q next) f h k = λ v. aside-bind (next v) f (h v) k
aside-bind (changing q c next) f h k = inl (h.0, aside-bind next f h.1 k)
aside-bind (telling m next) f h k = aside-bind next f h k

aside : {A B : Type 0} {part : Part A} {f : A → Part B} → Each Aside Any part → ((x : A) → Alone (f x))
    → Alone (part >>= f)
aside {part = part} {f} h k = record { alone = aside-bind part f h.each (λ x. (k x).alone) }

lighter : {A : Type 0} (part : Part A) → EachChange Aside Any part → EachChange Even Any part
lighter (gives x) h = tt
lighter (stopping why) h = tt
lighter (seeing q next) h = λ v. lighter (next v) (h v)
lighter (changing q c next) h = (h.0.1, lighter next h.1)
lighter (telling m next) h = lighter next h

light : {A : Type 0} {part : Part A} → Each Aside Any part → Each Even Any part
light {part = part} h = record { each = lighter part h.each }

-- no change of one that counts nothing down is a count down
none-counted : {A : Type 0} (part : Part A) (s : State) (r : Place) (p : ℕ) → EachChange Even Any part
    → IsOneOf (record { place = r; change = Decrement p }) (walked.changes part s) → ⊥
none-counted (gives x) s r p h one = one
none-counted (stopping why) s r p h one = one
none-counted (seeing q next) s r p h one = none-counted (next (s q)) s r p (h (s q)) one
none-counted (changing q c next) s r p h (inl here) =
    subst CountsNothing (ap (λ (x : Changed). x.change) here) h.0
none-counted (changing q c next) s r p h (inr there) = none-counted next (changed q c s) r p h.1 there
none-counted (telling m next) s r p h one = none-counted next s r p h one

module _ (plan : Plan) (r : Place) (word : is_word r ≡ true) where
  -- the changes at a place
  abbrev at_place : List Changed → List Changed
  at_place cs = filter (λ x. same_place x.place r) cs

  other-place : (q : Place) → is_word q ≡ false → same_place q r ≡ false
  other-place q h = elim (test (same_place q r)) as (λ _. same_place q r ≡ false) [
    | inl same ↦ absurd (true≢false (sym word
        ∙ sym (ap is_word ((process_machine_is_tidy plan).told.is_same_place q r same)) ∙ h))
    | inr other ↦ other
  ]

  same-here : same_place r r ≡ true
  same-here = elim (test (same_place r r)) as (λ _. same_place r r ≡ true) [
    | inl same ↦ same
    | inr differ ↦ absurd ((process_machine_is_tidy plan).told.not_same_place r r differ refl)
  ]

  skipped : (x : Changed) (cs : List Changed) → is_word x.place ≡ false → at_place (x ∷ cs) ≡ at_place cs
  skipped x cs h = ap (λ (t : Bool). cond t (x ∷ at_place cs) (at_place cs)) (other-place x.place h)

  none-at : {A : Type 0} (part : Part A) (s : State) → EachChange Aside Any part → at_place (walked.changes part s) ≡ []
  none-at (gives x) s h = refl
  none-at (stopping why) s h = refl
  none-at (seeing q next) s h = none-at (next (s q)) s (h (s q))
  none-at (changing q c next) s h =
      skipped (record { place = q; change = c }) (walked.changes next (changed q c s)) h.0.0
      ∙ none-at next (changed q c s) h.1
  none-at (telling m next) s h = none-at next s h

  abbrev Falls : List Changed → Type 0
  Falls cs = is_count_down (map (λ x. x.change) (at_place cs)) ≡ true

  pub falls-alone : {A : Type 0} (part : Part A) (s : State) (p : ℕ) → AloneIn part
      → IsOneOf (record { place = r; change = Decrement p }) (walked.changes part s) → Falls (walked.changes part s)
  falls-alone (gives x) s p h one = absurd one
  falls-alone (stopping why) s p h one = absurd one
  falls-alone (seeing q next) s p h one = falls-alone (next (s q)) s p (h (s q)) one
  falls-alone (changing q c next) s p (inl h) (inl here) =
      absurd (subst CountsNothing (ap (λ (x : Changed). x.change) here) h.0.1)
  falls-alone (changing q c next) s p (inl h) (inr there) =
      subst (λ (cs : List Changed). is_count_down (map (λ x. x.change) cs) ≡ true)
      (sym (skipped (record { place = q; change = c }) (walked.changes next (changed q c s)) h.0.0))
      (falls-alone next (changed q c s) p h.1 there)
  falls-alone (changing q c next) s p (inr (inl h)) one = absurd (none-counted (changing q c next) s r p h one)
  falls-alone (changing q c next) s p (inr (inr h)) (inl here) =
      subst (λ (x : Changed). Falls (x ∷ walked.changes next (changed q c s))) (sym here)
      (subst (λ (t : Bool). is_count_down (map (λ x. x.change)
      (cond t (record { place = r; change = Decrement p } ∷ at_place (walked.changes next (changed q c s)))
      (at_place (walked.changes next (changed q c s))))) ≡ true) (sym same-here)
      (subst (λ (cs : List Changed). is_count_down (Decrement p ∷ map (λ x. x.change) cs) ≡ true)
      (sym (none-at next (changed q c s) h.1)) refl))
  falls-alone (changing q c next) s p (inr (inr h)) (inr there) =
      absurd (none-counted next (changed q c s) r p (lighter next h.1) there)
  falls-alone (telling m next) s p h one = falls-alone next s p h one

-- what an instruction does is local
abbrev IsNotLeft : Next → Type 0
IsNotLeft (Schedule o) = ⊥
IsNotLeft _ = Unit {0}

abbrev IsLocal : Outcome → Type 0
IsLocal o = IsNotLeft o.1

halts_or_goes : (b : Bool) → IsNotLeft (cond b Halt Go)
halts_or_goes true = tt
halts_or_goes false = tt

functions-local : (f : Function) (n : ℕ) (r : Registers) → IsQuiet IsLocal (function_effect f n r)
unfolding function_effect
functions-local function.J n r = tt
functions-local _ n r = search halts_or_goes

looped-local : (left index : ℕ) (t : Bool) (r : Registers) → IsQuiet IsLocal (looped left index t r)
looped-local left index true r = tt
looped-local left index false r = tt

operations-local : (o : Operation) (r : Registers) → IfSome (operation_effect o r) (λ x. IsQuiet IsLocal x)
unfolding operation_effect
operations-local op.Lend r = λ count index. looped-local (minus count 1) index (is_positive_word (minus count 1)) r
operations-local _ r = search halts_or_goes

-- the effect of an instruction is local, or it is left to the scheduler at once
abbrev IsLocalOrLeft : Registers → Action Outcome → Type 0
IsLocalOrLeft r x = IsQuiet IsLocal x ⊎ ((o : Operation) × (x ≡ answer (r, Schedule o)))

left-or-local : (x : Option (Action Outcome)) (o : Operation) (b : Registers) → IfSome x (λ y. IsQuiet IsLocal y)
    → IsLocalOrLeft b (local_or_left x o b)
left-or-local (Some x) o b h = inl h
left-or-local None o b h = inr (o, refl)

selected : (o : Option Operation) (b r : Registers) → IsLocalOrLeft b (selected_effect o b r)
selected None b r = inl tt
selected (Some o) b r = left-or-local (operation_effect o r) o b (operations-local o r)

effects_at : (kind : Kind) (f : Function) (n : ℕ) (b r : Registers) → IsLocalOrLeft b (effect_at kind f n b r)
effects_at kind function.Opr n b r = selected (operation_at kind n) b r
effects_at kind f n b r = inl (functions-local f n r)

effects : (kind : Kind) (i : Instruction) (r : Registers) → IsLocalOrLeft r (effect kind i r)
unfolding effect
effects kind i r = effects_at kind i.function i.operand r (record r { iptr = plus r.iptr i.length })

-- decoding only looks
module _ (P : Changed → Type 0) where
  noted_each : {A : Type 0} (known : Bool) (rest : Part (Performed A)) → Each P Any rest → Each P Any (noted known rest)
  noted_each known rest h = andthen P h (λ x. nothing P _)

  completes : (s : Site) (kind : Kind) (rest : ℤ → Action Instruction) (length : ℕ) (c : Chained)
      → ((v : ℤ) → Each P Any (perform s [] (rest v))) → Each P Any (perform s [] (complete kind rest length c))
  completes s kind rest length (More value) h = h value
  completes s kind rest length (Last f value) h = by (is_listed kind f value)
    where
      by : (t : Bool)
          → Each P Any (perform s [] (if t then answer (instruction f value length) else breaks NoSuchOperation))
      by true = nothing P _
      by false = stops P _

  fetches : (s : Site) (kind : Kind) (left had address : ℕ) (value : ℤ)
      → Each P Any (perform s [] (fetch kind left had address value))
  fetches s kind zero had address value = stops P _
  fetches s kind (suc left) had address value =
      andthen P (touch_each P s Reads (byte_span address))
      (λ words. noted_each (are_known (part_of (byte_span address) words)) _
      (completes s kind (fetch kind left (suc had) (plus address 1)) (suc had)
      (chained value (from_le_bytes w32 (shown (part_of (byte_span address) words))))
      (λ v. fetches s kind left (suc had) (plus address 1) v)))

  decodes : (s : Site) (iptr : ℕ) → Each P Any (perform s [] (decode s.kind iptr))
  unfolding decode
  decodes s iptr = fetches s s.kind longest 0 iptr (pos 0)

-- changes at no word
sets_flag_aside : (s : Site) (q : Place) (old new : Bool) → is_word q ≡ false → Each Aside Any (sets_flag s q old new)
sets_flag_aside s q old new h =
    chooses Aside (is_same_flag old new) (nothing Aside tt)
    (andthen Aside (changes Aside q (Put (IsFlag new)) (h, tt))
    (λ y. changes Aside (FlagChanged s.number) Raise (refl, tt)))

flags_after_aside : (s : Site) (b : Bool) (f : Flags) (r : Registers) → Each Aside Any (flags_after s b f r)
flags_after_aside s true f r =
    andthen Aside (sets_flag_aside s (Error s.number) f.error r.error refl)
    (λ y. sets_flag_aside s (HaltOnError s.number) f.halt_on_error r.halt_on_error refl)
flags_after_aside s false f r = nothing Aside tt

moves_aside : (s : Site) (old new : ℕ) → Each Aside Any (moves s old new)
moves_aside s old new =
    chooses Aside (old == new) (nothing Aside tt)
    (andthen Aside (changes Aside (Life s.number old) (Add (negsuc 0)) (refl, tt))
    (λ y. changes Aside (Life s.number new) (Add (pos 1)) (refl, tt)))

ends_aside : (s : Site) (x : Name) (c : Context) → Each Aside Any (ends s x c)
ends_aside s x c =
    andthen Aside (requires Aside (is_none c.choice) WordInUse)
    (λ y. andthen Aside (changes Aside (Life s.number c.wptr) (Add (negsuc 0)) (refl, tt))
    (λ z. changes Aside (Standing x) (Put (IsStand Ended)) (refl, tt)))

-- the one count that falls
count_falls : (s : Site) (q : ℕ) (p : ℕ) (x : Name) (c : Context)
    → Alone (change (word_place s q) (Decrement p) >>= (λ y. ends s x c))
count_falls s q p x c = record { alone = inr (inr (refl, (ends_aside s x c).each)) }

ends_among_others_alone : (s : Site) (x : Name) (c : Context) → Alone (ends_among_others s x c)
ends_among_others_alone s x c =
    aside (known_each Aside c.a)
    (λ workspace. aside (touch_word_at_each Aside s Reads workspace)
    (λ cells. aside (unless_each Aside (word_place_break s.size (plus workspace 4)))
    (λ y. aside (unsent_each Aside s (word_number (plus workspace 4)))
    (λ z. count_falls s (plus workspace 4) c.priority x c))))

-- all other parts are even
some_put : (q : Place) (v : Value) → Even (record { place = q; change = Put v })
some_put q v = tt

some_engage : (q : Place) → Even (record { place = q; change = Engage })
some_engage q = tt

some_add : (q : Place) (z : ℤ) → Even (record { place = q; change = Add z })
some_add q z = tt

some_raise : (q : Place) → Even (record { place = q; change = Raise })
some_raise q = tt

goes_on : (x : Name) (c : Context) → Each Even Any (standing.goes_on x c)
goes_on = goes_on_even Even some_put some_engage some_add some_raise

schedules_alone : (o : Operation) (s : Site) (x : Name) (c : Context) → Alone (schedules o s x c)
schedules_alone op.Startp s x c = even (starts_child_even Even some_put some_engage some_add some_raise s x c)
schedules_alone op.Endp s x c = ends_among_others_alone s x c
schedules_alone op.Runp s x c = even (runs_child_even Even some_put some_engage some_add some_raise s x c)
schedules_alone op.Stopp s x c = even (stops_itself_even Even some_put some_engage some_add some_raise s x c)
schedules_alone op.Stoperr s x c = even (stops_by_error_even Even some_put some_engage some_add some_raise s x c)
schedules_alone op.Ldpri s x c = even (goes_on x (push (Some c.priority) c))
schedules_alone op.In s x c = even (sends_or_receives_even Even some_put some_engage some_add some_raise Input s x c)
schedules_alone op.Out s x c = even (sends_or_receives_even Even some_put some_engage some_add some_raise Output s x c)
schedules_alone op.Outbyte s x c =
    even (sends_from_workspace_even Even some_put some_engage some_add some_raise 1 s x c)
schedules_alone op.Outword s x c =
    even (sends_from_workspace_even Even some_put some_engage some_add some_raise 4 s x c)
schedules_alone op.Alt s x c = even (begins_choice_even Even some_put some_engage some_add some_raise s x c)
schedules_alone op.Enbc s x c = even (enables_channel_even Even some_put some_engage some_add some_raise s x c)
schedules_alone op.Enbs s x c = even (enables_skip_even Even some_put some_engage some_add some_raise s x c)
schedules_alone op.Altwt s x c = even (awaits_choice_even Even some_put some_engage some_add some_raise s x c)
schedules_alone op.Disc s x c = even (disables_channel_even Even some_put some_engage some_add some_raise s x c)
schedules_alone op.Diss s x c = even (disables_skip_even Even some_put some_engage some_add some_raise s x c)
schedules_alone op.Altend s x c = even (ends_choice_even Even some_put some_engage some_add some_raise s x c)
schedules_alone _ s x c = even (stops Even (Breaks NoSuchOperation))

-- one instruction
followed_even : (next : Next) (s : Site) (x : Name) (scheduled after : Context) → IsNotLeft next
    → Each Even Any (followed next s x scheduled after)
followed_even Go s x scheduled after h = goes_on x after
followed_even Jumped s x scheduled after h =
    jumped_even Even some_put some_engage some_add some_raise after.priority s x after
followed_even Halt s x scheduled after h = sets_error_even Even some_put some_engage some_add some_raise s x after
followed_even (Schedule o) s x scheduled after h = absurd h

completed_even : (s : Site) (x : Name) (c : Context) (i : Instruction) (f : Flags) (u : Uses) (d : Performed Outcome)
    → IsLocal d.value → Each Even Any (completed s x c i f u d)
completed_even s x c i f u d h =
    andthen Even (requires Even (d.known || not u.reads_known) SawTheScheduler)
    (λ y. andthen Even (light (flags_after_aside s (has_flags s.kind i) f d.value.0))
    (λ z. andthen Even (requires Even (is_none c.choice || (c.wptr == d.value.0.wptr)) WordInUse)
    (λ v. andthen Even (light (moves_aside s c.wptr d.value.0.wptr))
    (λ w. followed_even d.value.1 s x (record c { iptr = plus c.iptr i.length })
    (context_after c u d.known d.value.0) h))))

completed_alone : (s : Site) (x : Name) (c : Context) (i : Instruction) (f : Flags) (u : Uses) (r : Registers)
    (o : Operation) → Alone (completed s x c i f u (record { value = (r, Schedule o); known = true }))
completed_alone s x c i f u r o =
    aside (requires Aside true SawTheScheduler)
    (λ y. aside (flags_after_aside s (has_flags s.kind i) f r)
    (λ z. aside (requires Aside (is_none c.choice || (c.wptr == r.wptr)) WordInUse)
    (λ v. aside (moves_aside s c.wptr r.wptr)
    (λ w. schedules_alone o s x (record c { iptr = plus c.iptr i.length })))))

-- an effect, and what follows it
done_alone : (s : Site) (x : Name) (c : Context) (i : Instruction) (f : Flags) (u : Uses) (r : Registers)
    (e : Action Outcome) (writes : List Bool) → IsLocalOrLeft r e
    → Alone (perform s writes e >>= (λ p. completed s x c i f u p))
done_alone s x c i f u r e writes (inl local) =
    even (andwith Even (perform_even Even some_put some_engage some_add some_raise IsLocal s writes e local)
    (λ p h. completed_even s x c i f u p h))
done_alone s x c i f u r e writes (inr (o, same)) =
    subst (λ (y : Action Outcome). Alone (perform s writes y >>= (λ p. completed s x c i f u p))) (sym same)
    (completed_alone s x c i f u r o)

executed_alone : (s : Site) (x : Name) (c : Context) (i : Instruction) → Alone (executed s x c i)
executed_alone s x c i = let u = uses_of s.kind i (unwrap_or c.a 0) in
    aside (requires Aside (has_needed u.needs c) SawTheScheduler)
    (λ y. aside (flags_before_each Aside s (has_flags s.kind i))
    (λ f. done_alone s x c i f u (registers c f) (effect s.kind i (registers c f)) (known_writes c u)
    (effects s.kind i (registers c f))))

runs_alone : (s : Site) (x : Name) (c : Context) → Alone (runs s x c)
runs_alone s x c =
    aside (decodes Aside s c.iptr)
    (λ d. aside (requires Aside d.known SawTheScheduler) (λ y. executed_alone s x c d.value))

-- the steps of all agents
process_step_alone : (x : Name) (stand : Stand) (s : Site) → Alone (process_step x stand s)
process_step_alone x (Rests c) s = even (resumes_even Even some_put some_engage some_add some_raise s x c)
process_step_alone x (Runs c) s = runs_alone s x c
process_step_alone x Absent s = even (stops Even HasNoStep)
process_step_alone x (Chosen c) s = even (goes_on_chosen_even Even some_put some_engage some_add some_raise s x c)
process_step_alone x (Waits c) s = even (stops Even HasNoStep)
process_step_alone x (Chooses c) s = even (stops Even HasNoStep)
process_step_alone x (Listens channel c) s = even (stops Even HasNoStep)
process_step_alone x Ended s = even (stops Even HasNoStep)

at_site_alone : {A : Type 0} (plan : Plan) (n : ℕ) (step : Site → Part A)
    → ((node : NodePlan) → Alone (step (site_of n node))) → Alone (at_site plan n step)
at_site_alone {A} plan n step h = by (slice_get plan.nodes n)
  where
    by : (t : Option NodePlan) → Alone (elim t [ Some node ↦ step (site_of n node) | None ↦ stopping HasNoStep ])
    by (Some node) = h node
    by None = record { alone = tt }

at_site_even : {A : Type 0} (plan : Plan) (n : ℕ) (step : Site → Part A)
    → ((node : NodePlan) → Each Even Any (step (site_of n node))) → Each Even Any (at_site plan n step)
at_site_even {A} plan n step h = by (slice_get plan.nodes n)
  where
    by : (t : Option NodePlan)
        → Each Even Any (elim t [ Some node ↦ step (site_of n node) | None ↦ stopping HasNoStep ])
    by (Some node) = h node
    by None = stops Even HasNoStep

sends_even : (plan : Plan) (r : Role) (f : End) → Each Even Any (sends plan r f)
sends_even plan Processor f =
    at_site_even plan f.node (node_sends f)
    (λ node. node_sends_even Even some_put some_engage some_add some_raise f (site_of f.node node))
sends_even plan Source f = source_sends_even Even some_put some_engage some_add some_raise f
sends_even plan Sink f = stops Even HasNoStep
sends_even plan Nothing f = stops Even HasNoStep

receives_even : (plan : Plan) (r : Role) (e : End) (message : Store) → Each Even Any (receives plan r e message)
receives_even plan Processor e message =
    at_site_even plan e.node (node_receives message e)
    (λ node. node_receives_even Even some_put some_engage some_add some_raise message e (site_of e.node node))
receives_even plan Sink e message = sink_receives_even Even some_put some_engage some_add some_raise message e
receives_even plan Source e message = stops Even HasNoStep
receives_even plan Nothing e message = stops Even HasNoStep

asks_even : (r : Role) (e : End) → Each Even Any (asks r e)
asks_even Processor e =
    andthen Even (sees Even (LinkHalf e Input)) (λ half. nothing Even (awaiting (link_in half)))
asks_even Source e = nothing Even None
asks_even Sink e = nothing Even None
asks_even Nothing e = nothing Even None

offers_even : (plan : Plan) (f : End) → Each Even Any (offers plan f)
offers_even plan f = let q = offer_place (role_at plan f.node) f in
    andthen Even (sees Even q) (λ offered. nothing Even (is_passable q offered))

crosses_even : (plan : Plan) (f e : End) (asked : Option Name) → Each Even Any (crosses plan f e asked)
crosses_even plan f e None =
    andthen Even (sends_even plan (role_at plan f.node) f)
    (λ message. andthen Even (receives_even plan (role_at plan e.node) e message) (λ y. tells Even message))
crosses_even plan f e (Some x) =
    andthen Even (offers_even plan f)
    (λ offered. andthen Even (requires Even offered HasNoStep)
    (λ y. fires_even Even some_put some_engage some_add some_raise e x))

passes_even : (plan : Plan) (e : End) (t : Option End) → Each Even Any (passes plan t e)
passes_even plan e (Some f) =
    andthen Even (asks_even (role_at plan e.node) e) (λ asked. crosses_even plan f e asked)
passes_even plan e None = stops Even HasNoStep

no_sender_even : (plan : Plan) (t : Option End) → Each Even Any (requires_no_sender plan t)
no_sender_even plan (Some f) =
    andthen Even (offers_even plan f) (λ offered. requires Even (not offered) SeveralReady)
no_sender_even plan None = nothing Even tt

listens_even : (plan : Plan) (x : Name) (channel : ℕ) (c : Context) (s : Site)
    → Each Even Any (listens plan x channel c s)
listens_even plan x channel c s =
    andthen Even (no_sender_even plan (sender_to plan (end_at x.node (link_of Input channel))))
    (λ y. goes_on_unfired_even Even some_put some_engage some_add some_raise s x channel c)

stepped_alone : (plan : Plan) (x : Name) (stand : Stand) (s : Site) → Alone (stepped plan x stand s)
stepped_alone plan x (Listens channel c) s = even (listens_even plan x channel c s)
stepped_alone plan x Absent s = process_step_alone x Absent s
stepped_alone plan x (Rests c) s = process_step_alone x (Rests c) s
stepped_alone plan x (Runs c) s = process_step_alone x (Runs c) s
stepped_alone plan x (Waits c) s = process_step_alone x (Waits c) s
stepped_alone plan x (Chooses c) s = process_step_alone x (Chooses c) s
stepped_alone plan x (Chosen c) s = process_step_alone x (Chosen c) s
stepped_alone plan x Ended s = process_step_alone x Ended s

steps_alone : (plan : Plan) (a : Agent) → Alone (step_of plan a)
steps_alone plan (Process x) =
    aside (sees Aside (Standing x))
    (λ stood. at_site_alone plan x.node (stepped plan x (stand_in stood))
    (λ node. stepped_alone plan x (stand_in stood) (site_of x.node node)))
steps_alone plan (Channel n c) =
    at_site_alone plan n (channel_step c)
    (λ node. even (channel_step_even Even some_put some_engage some_add some_raise c (site_of n node)))
steps_alone plan (Wire e) = even (passes_even plan e (sender_to plan e))
steps_alone plan (Successor n k) =
    at_site_alone plan n (successor_step k)
    (λ node. even (successor_step_even Even some_put some_engage some_add some_raise k (site_of n node)))

-- so where a step counts down a word, it changes that word in no other way
pub count_alone : (plan : Plan) (a : Agent) (s : State) (n k p : ℕ)
    → IsOneOf (record { place = WordAt n k; change = Decrement p }) (walked.changes (step_of plan a) s)
    → is_count_down (map (λ x. x.change)
    (filter (λ x. same_place x.place (WordAt n k)) (walked.changes (step_of plan a) s)))
    ≡ true
count_alone plan a s n k p one =
    falls-alone plan (WordAt n k) refl (step_of plan a) s p (steps_alone plan a).alone one
