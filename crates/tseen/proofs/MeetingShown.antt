-- What the second of two processes at an internal channel leads to is shown after its three steps.
use Rattle.tprocesses.specs.Values.{amount_in}
use Rattle.tseen.proofs.Choices.{state_lasts, is_state}
use Rattle.tseen.specs.Words.{use_at}
use Rattle.tseen.specs.Halves.{HasHolder}
use Rattle.tprocesses.specs.Choosing.{is_taken as is_taken_half}
use Rattle.tseen.proofs.Taken.{third_free}
use Rattle.tprocesses.specs.Values.{stand_in}
use Rattle.tprocesses.specs.Places.{Ports, Unfinished}
use Rattle.tseen.specs.Choices.{alternative_of, alternative_at, is_quiet, enabler, IsEnabled}
use Rattle.tseen.proofs.Choices.{is_lasting, lasting_not_free, lasting_not_saved, both_alike}
use Rattle.tseen.proofs.Choices.{both_quiet, alternative_none, no_choice, choices_kept}
use Rattle.tseen.specs.Choices.{enabler_at}
use Rattle.std.proofs.Common.{◌≡◌, ◌≢◌, ℕ, ◌+◌, ◌*◌, ◌≤◌, ◌%◌, refl, sym, ap, subst, ◌∙◌, Bool, true, false, true≢false}
use Rattle.std.proofs.Common.{length, length-append, Contains, Option, Some, None, arith, ◌⊎◌, inl, inr, pos, cond, suc}
use Rattle.std.proofs.lemmas.List.Sums.{sum_by-append}
use Rattle.std.proofs.lemmas.Option.{IfSome_then}
use Rattle.std.specs.Prelude.{IfSome, ◌==◌, is_some}
use Rattle.std.proofs.lemmas.Bool.{eq-eqb, eqb-true, ne_eqb, cases_eq}
use Rattle.std.proofs.lemmas.List.Elements.{All-contains}
use Rattle.tword.specs.Words.{most_neg, word_below}
use Rattle.tword.specs.Stores.{Store, word_at, place}
use Rattle.tword.specs.declared.span.Span.{Span}
use Rattle.tword.specs.Touches.{word_place_break}
use Rattle.tcode.specs.declared.instruction.Operation.{Operation}
use Rattle.tcode.specs.declared.instruction.Operation.TheVariants.{Outbyte, Outword}
use Rattle.tcpu.specs.declared.registers.Registers.{Registers}
use Rattle.tproc.specs.declared.channels.Side.{Side}
use Rattle.tproc.specs.declared.channels.Side.TheVariants.{Input, Output}
use Rattle.tproc.specs.declared.ran.Ran.TheVariants as ran
use Rattle.tproc.specs.declared.waiter.Reason.{Reason}
use Rattle.tproc.specs.Machine.{Control, Machine, descheduled, workspace_of}
use Rattle.tproc.specs.ProcessStatus.{live, reason_of, is_queued}
use Rattle.tproc.specs.Queues.{iptr_word, not_process}
use Rattle.tproc.specs.SavedWords.{WordStands, SavedStand}
use Rattle.tproc.proofs.SavedWords.{saved_words_stand}
use Rattle.tplan.specs.declared.plan.Plan.{Plan}
use Rattle.tplan.specs.Wires.{end_at}
use Rattle.tnet.specs.Rendezvous.{Node, Configuration}
use Rattle.tprocesses.specs.Values.{Holder, Nobody, TakenBy, IsFlag, Value, Free, Saved, Receiving, Engaged, Context}
use Rattle.tprocesses.specs.Values.{Lent, Stand, Rests, Runs}
use Rattle.tprocesses.specs.Values.{Waits, Request, IsStand, IsAmount, IsHalf, word_in, half_in}
use Rattle.tprocesses.specs.Places.{Place, Name, WordAt, Sending, Standing, Half, LinkHalf, Error, HaltOnError, Life}
use Rattle.tprocesses.specs.Places.{Population, HasRun, same_name, same_place}
use Rattle.tprocesses.specs.Touching.{Site, word_number}
use Rattle.tprocesses.specs.Machine.{site_of, awaits_successor}
use Rattle.tseen.specs.Known.{HasRegisters}
use Rattle.tseen.specs.Seats.{Seat, Current, Interrupted, Queued, Waiting, is_taken}
use Rattle.tseen.specs.Words.{AreMarked}
use Rattle.tseen.specs.Halves.{ShowsChannels, IsTakenHalf, reason_at}
use Rattle.tseen.specs.Processes.{Fits, IsSeated, IsGone, ShowsProcesses}
use Rattle.tseen.specs.Shown.{ShowsNode}
use Rattle.tseen.specs.Steps.{IsCurrent, LeadsTo}
use Rattle.tseen.proofs.MeetingWords.{channel_free, again, HaveGoneOn, made, stepped, used_now, kept_now, not_channel}
use Rattle.tseen.proofs.MeetingWords.{tells_now, saved_stays as saved_word_stays, word_stays_after, hidden_still}
use Rattle.tseen.proofs.After.{State}
use Rattle.tseen.proofs.Spans.{word_placed}
use Rattle.tseen.proofs.Cells.{use_of, shows_from}
use Rattle.tseen.proofs.Written.{is_word_of}
use Rattle.tseen.proofs.Writing.{word_lies}
use Rattle.tseen.proofs.Finished.{is_stand_of, one_name, place_itself}
use Rattle.tseen.proofs.Frames.{node_at}
use Rattle.tseen.proofs.Running.{RunsThere}
use Rattle.tseen.proofs.Counted.{beside as none_running, count_at, settled, live_long, lives_are, waits_descheduled}
use Rattle.tseen.proofs.Counted.{queued_descheduled}
use Rattle.tseen.proofs.Staying.{saved_words_stay, marks_from, link_stays}
use Rattle.tseen.proofs.Saving.{no_word}
use Rattle.tseen.proofs.Stepped.{shown_node, there, leads_there, apart as interrupted_other}
use Rattle.tseen.proofs.Others.{saved_stays, queued_stays, waiting_stays, interrupted_stays}
use Rattle.tseen.proofs.YieldShown.{renamed}
use Rattle.tseen.proofs.Renamed.{one_reason, one_half}
use Rattle.tseen.proofs.AtOperation.{registers_at, control_at}
use Rattle.tseen.proofs.Asked.{side_of, left_by}
use Rattle.tseen.proofs.HalfTaken.{is_half_of}
use Rattle.tseen.proofs.Taken.{HasTaken, opposite, lies, saved_of, own_empty}
use Rattle.tseen.proofs.TakenWords.{aligned, at}
use Rattle.tseen.proofs.Meeting.{woken}
use Rattle.tseen.proofs.Partner.{asked, asked_half, partner, name_is, waits, is_there, IsPartner, stands_there, apart}
use Rattle.tseen.proofs.Partner.{only_partner}
use Rattle.tseen.proofs.Released.{still_queued, queued_now, was_queued, not_queued, count_alike, length_alike}
use Rattle.tseen.proofs.Released.{were_there, other_reason, no_reason}
use Rattle.tseen.proofs.InputChannels.{descriptors_stay, inputs_stay}
use Rattle.tseen.proofs.NoticedOffers.{outputs_stay}

-- the registers that go on are those of the same process
pub left_keeps : (o : Operation) (r : Registers) → ((left_by o r).wptr ≡ r.wptr) × ((left_by o r).iptr ≡ r.iptr)
    × ((left_by o r).error ≡ r.error) × ((left_by o r).halt_on_error ≡ r.halt_on_error)
left_keeps Outbyte r = (refl, refl, refl, refl)
left_keeps Outword r = (refl, refl, refl, refl)
left_keeps _ r = (refl, refl, refl, refl)

module _ (p : Plan) (c : Configuration) (s : State) (n : ℕ) (x : Name) (k : IsCurrent p c s n x) (v : State)
    (h : HasTaken p c s n x k v)
    (differs : (word_at k.node.machine.store k.node.machine.control.registers.b ≢ not_process)
    × (enabler_at s n k.node.machine.control.registers.b ≡ None)) (t z : State)
    (g : HaveGoneOn p c s n x k v h differs t z) where
  abbrev m : Control
  m = k.node.machine.control

  abbrev store : Store
  store = k.node.machine.store

  abbrev site : Site
  site = site_of n k.plan

  abbrev running : RunsThere s n k.plan k.node x
  running = there p c s n x k

  abbrev shown : ShowsNode s n k.plan (k.shows.named n) (k.shows.sent n) k.node
  shown = shown_node p c s n x k

  abbrev o : Operation
  o = h.operation

  abbrev side : Side
  side = side_of o

  abbrev channel : ℕ
  channel = m.registers.b

  abbrev j : ℕ
  j = word_number channel

  abbrev w : ℕ
  w = m.registers.wptr

  abbrev other : ℕ
  other = partner p c s n x k v h differs

  abbrev theirs : Request
  theirs = asked p c s n x k v h differs

  abbrev y : Name
  y = theirs.process

  abbrev beside : IsPartner p c s n x k v h differs
  beside = stands_there p c s n x k v h differs

  abbrev before : Control
  before = control_at p c s n x k o h.size

  abbrev after : Registers
  after = left_by o (registers_at p c s n x k h.size)

  abbrev now : Machine
  now = made p c s n x k v h differs t z g

  abbrev node' : Node
  node' = record k.node { machine = now }

  abbrev named : Seat → Name
  named = k.shows.named n

  abbrev named' : Seat → Name
  named' = renamed other y named

  abbrev reason : Reason
  reason = reason_at (opposite side) channel theirs.buffer

  there_waits : reason_of before other ≡ Some reason
  there_waits = waits p c s n x k v h differs

  kept : ((left_by o (registers_at p c s n x k h.size)).wptr ≡ w)
      × ((left_by o (registers_at p c s n x k h.size)).iptr ≡ (registers_at p c s n x k h.size).iptr)
      × ((left_by o (registers_at p c s n x k h.size)).error ≡ m.registers.error)
      × ((left_by o (registers_at p c s n x k h.size)).halt_on_error ≡ m.registers.halt_on_error)
  kept = left_keeps o (registers_at p c s n x k h.size)

  -- what is neither a word, nor of the two processes, nor a half of the channel
  stay : (q : Place) → is_word_of n q ≡ false → is_half_of n channel Input q ≡ false
      → is_half_of n channel Output q ≡ false → is_stand_of x q ≡ false → is_stand_of y q ≡ false → z q ≡ s q
  stay q word a b e f =
      g.runs.others q e ∙ g.unsaved.set.rest q (no_word n w q word) ∙ g.met.others q word e f a b
      ∙ at p c s n x k v h q word (by side) e
    where
      by : (r : Side) → is_half_of n channel r q ≡ false
      by Input = a
      by Output = b

  -- where a third process stands
  stay_stand : (b : Name) → same_name x b ≡ false → same_name y b ≡ false → z (Standing b) ≡ s (Standing b)
  stay_stand b e f = stay (Standing b) refl refl refl e f

  stay_run : (q : ℕ) → z (HasRun n q) ≡ s (HasRun n q)
  stay_run q = stay (HasRun n q) refl refl refl refl refl

  own_stood : z (Standing x) ≡ IsStand (Runs (again p c s n x k v h differs))
  own_stood = g.runs.is

  other_stood : z (Standing y) ≡ IsStand (Rests (woken beside.context))
  other_stood =
      g.runs.others (Standing y) (apart p c s n x k v h differs)
      ∙ g.unsaved.set.rest (Standing y) (no_word n w (Standing y) refl) ∙ g.met.other_rests

  empty_half : (a : Side) → z (Half n channel a) ≡ IsHalf Nobody
  empty_half a =
      g.runs.others (Half n channel a) refl
      ∙ g.unsaved.set.rest (Half n channel a) (no_word n w (Half n channel a) refl) ∙ g.met.halves a

  -- the seats
  stands : SavedStand k.node.machine now
  stands =
      (saved_words_stand k.node.machine k.steady.placed).steps now ran.Instruction
      (stepped p c s n x k v h differs t z g)

  iptr_stays : (a : ℕ) → Contains (descheduled m) a
      → word_at now.store (word_below a iptr_word) ≡ word_at store (word_below a iptr_word)
  iptr_stays a e = All-contains (λ a. WordStands iptr_word a k.node.machine now) (descheduled m) a stands.iptrs e

  not_queued_before : is_queued m other ≡ true → ⊥
  not_queued_before e =
      not_queued after other before reason there_waits k.steady.placed.claimed.distinct e

  reason_now : (b : ℕ) → b ≢ other → reason_of now.control b ≡ reason_of m b
  reason_now b e = other_reason after other before reason there_waits k.steady.placed.claimed.distinct b e

  no_reason_now : reason_of now.control other ≡ None
  no_reason_now = no_reason after other before reason there_waits k.steady.placed.claimed.distinct

  -- who waits now is another one, and waited before
  waits_other : (b : ℕ) → is_some (reason_of now.control b) ≡ true → b ≢ other
  waits_other b e f =
      true≢false (sym e ∙ ap (λ q. is_some (reason_of now.control q)) f
      ∙ ap (λ (q : Option Reason). is_some q) no_reason_now)

  waited : (b : ℕ) → b ≢ other → is_some (reason_of now.control b) ≡ true → is_some (reason_of m b) ≡ true
  waited b f e = subst (λ (q : Option Reason). is_some q ≡ true) (reason_now b f) e

  name_queued : named' (Queued other) ≡ y
  name_queued = rw (eq-eqb other other refl) refl

  name_other : (b : ℕ) → b ≢ other → named' (Queued b) ≡ named (Queued b)
  name_other b e = rw (ne_eqb b other e) refl

  current_seated : IsSeated z n node' Current x
  current_seated =
      record {
        home = running.home;
        stand = Runs (again p c s n x k v h differs);
        stands = own_stood;
        fits = subst (λ (q : Option ℕ). IfSome q (λ level. HasRegisters level after (again p c s n x k v h differs)))
            (sym running.current) (record {
              priority = running.registers.priority;
              wptr = sym kept.0;
              iptr = sym kept.1;
              a = tt;
              b = tt;
              c = tt;
              nothing_lent = refl;
            });
        has_run = stay_run running.context.priority ∙ ap (λ q. s (HasRun n q)) running.registers.priority
            ∙ running.has_run;
      }

  partner_seated : IsSeated z n node' (Queued other) y
  partner_seated =
      record {
        home = beside.home;
        stand = Rests (woken beside.context);
        stands = other_stood;
        fits = saved_stays store now.store other (woken beside.context)
            (iptr_stays (workspace_of other) (waits_descheduled m other (is_there p c s n x k v h differs)))
            (record {
              priority = beside.saved.priority;
              wptr = beside.saved.wptr;
              iptr = beside.saved.iptr;
              a = beside.saved.a;
              b = beside.saved.b;
              c = beside.saved.c;
            });
        has_run = stay_run beside.context.priority ∙ beside.has_run;
      }

  -- a name that is not that of the two is none of theirs
  third : (q : Seat) → is_taken m q ≡ true → (named q ≡ x → ⊥) → (named q ≡ y → ⊥)
      → (same_name x (named q) ≡ false) × (same_name y (named q) ≡ false)
  third q taken e f = (by x e (same_name x (named q)) refl, by y f (same_name y (named q)) refl)
    where
      by : (a : Name) → (named q ≡ a → ⊥) → (b : Bool) → same_name a (named q) ≡ b → same_name a (named q) ≡ false
      by a e false i = i
      by a e true i = absurd (e (sym (one_name p a (named q) i)))

  -- how the two stand
  one_stand : {a b : Stand} → IsStand a ≡ IsStand b → a ≡ b
  one_stand e = cc

  queued_third : (b : ℕ) → is_queued m b ≡ true → (named (Queued b) ≡ x → ⊥) × (named (Queued b) ≡ y → ⊥)
  queued_third b e = with_seat (shown.processes.seated (Queued b) e)
    where
      with_seat : IsSeated s n k.node (Queued b) (named (Queued b))
          → (named (Queued b) ≡ x → ⊥) × (named (Queued b) ≡ y → ⊥)
      with_seat q = (
        λ f. subst (Fits k.node (Queued b)) (one_stand (sym q.stands ∙ ap (λ a. s (Standing a)) f ∙ running.stood))
            q.fits,
        λ f. subst (Fits k.node (Queued b)) (one_stand (sym q.stands ∙ ap (λ a. s (Standing a)) f ∙ beside.stood))
            q.fits,
      )

  waiting_third : (b : ℕ) → is_some (reason_of m b) ≡ true → b ≢ other
      → (named (Waiting b) ≡ x → ⊥) × (named (Waiting b) ≡ y → ⊥)
  waiting_third b e other_one = with_seat (shown.processes.seated (Waiting b) e)
    where
      with_seat : IsSeated s n k.node (Waiting b) (named (Waiting b))
          → (named (Waiting b) ≡ x → ⊥) × (named (Waiting b) ≡ y → ⊥)
      with_seat q = (
        λ f. subst (Fits k.node (Waiting b)) (one_stand (sym q.stands ∙ ap (λ a. s (Standing a)) f ∙ running.stood))
            q.fits,
        λ f. other_one (only_partner p c s n x k v h differs b e f),
      )

  seated : (q : Seat) → is_taken now.control q ≡ true → IsSeated z n node' q (named' q)
  seated Current e = subst (IsSeated z n node' Current) (sym k.name) current_seated
  seated Interrupted e =
      let old : IsSeated s n k.node Interrupted (named Interrupted) = shown.processes.seated Interrupted e in
      interrupted_stays n s z stay_run k.node node' (named Interrupted)
      (stay_stand (named Interrupted) (interrupted_other p c s n x k e) (other_interrupted old)) refl old
    where
      other_interrupted : IsSeated s n k.node Interrupted (named Interrupted) → same_name y (named Interrupted) ≡ false
      other_interrupted q = by (same_name y (named Interrupted)) refl
        where
          by : (b : Bool) → same_name y (named Interrupted) ≡ b → same_name y (named Interrupted) ≡ false
          by false i = i
          by true i =
              absurd (subst (Fits k.node Interrupted) (one_stand (sym q.stands
              ∙ ap (λ a. s (Standing a)) (sym (one_name p y (named Interrupted) i)) ∙ beside.stood)) q.fits)
  seated (Queued b) e = by (cases_eq b other)
    where
      of : b ≢ other → (is_queued m b ≡ true) ⊎ (b ≡ other) → IsSeated z n node' (Queued b) (named' (Queued b))
      of f (inr i) = absurd (f i)
      of f (inl taken) =
          let two : (named (Queued b) ≡ x → ⊥) × (named (Queued b) ≡ y → ⊥) = queued_third b taken in
          let apart_from : (same_name x (named (Queued b)) ≡ false) × (same_name y (named (Queued b)) ≡ false) =
          third (Queued b) taken two.0 two.1 in
          subst (IsSeated z n node' (Queued b)) (sym (name_other b f))
          (queued_stays n s z stay_run k.node node' b (named (Queued b))
          (stay_stand (named (Queued b)) apart_from.0 apart_from.1)
          (iptr_stays (workspace_of b) (queued_descheduled m b taken)) (shown.processes.seated (Queued b) taken))

      by : (b ≡ other) ⊎ (b ≡ other → ⊥) → IsSeated z n node' (Queued b) (named' (Queued b))
      by (inl f) =
          subst (λ a. IsSeated z n node' (Queued a) (named' (Queued a))) (sym f)
          (subst (IsSeated z n node' (Queued other)) (sym name_queued) partner_seated)
      by (inr f) =
          of f (was_queued after other before reason there_waits k.steady.placed.claimed.distinct b e)
  seated (Waiting b) e =
      let f : b ≢ other = waits_other b e in
      let taken : is_some (reason_of m b) ≡ true = waited b f e in
      let two : (named (Waiting b) ≡ x → ⊥) × (named (Waiting b) ≡ y → ⊥) = waiting_third b taken f in
      let apart_from : (same_name x (named (Waiting b)) ≡ false) × (same_name y (named (Waiting b)) ≡ false) =
      third (Waiting b) taken two.0 two.1 in
      waiting_stays n s z stay_run k.node node' b (named (Waiting b))
      (stay_stand (named (Waiting b)) apart_from.0 apart_from.1) (λ i. (i.0, reason_now b f ∙ i.1, i.2))
      (λ i. reason_now b f ∙ i)
      (iptr_stays (workspace_of b) (waits_descheduled m b taken)) (shown.processes.seated (Waiting b) taken)

  -- who is anywhere has a seat
  abbrev HasPlace : Name → Type 0
  HasPlace b = IsGone z n b ⊎ ((q : Seat) × (is_taken now.control q ≡ true) × (named' q ≡ b))

  placed : (b : Name) → b.node ≡ n → HasPlace b
  placed b home = by (same_name x b) refl (same_name y b) refl
    where
      itself : (a : Name) → same_name a a ≡ true
      itself a = place_itself p (Standing a)

      not_same : (a : Name) → a ≡ b → same_name a b ≡ false → ⊥
      not_same a e f = true≢false (sym (itself a) ∙ ap (same_name a) e ∙ f)

      of : same_name x b ≡ false → same_name y b ≡ false
          → IsGone s n b ⊎ ((q : Seat) × (is_taken m q ≡ true) × (named q ≡ b)) → HasPlace b
      of e f (inl (inl i)) = inl (inl (stay_stand b e f ∙ i))
      of e f (inl (inr i)) = inl (inr (stay_stand b e f ∙ i))
      of e f (inr (Current, taken, i)) = absurd (not_same x (sym k.name ∙ i) e)
      of e f (inr (Interrupted, taken, i)) = inr (Interrupted, taken, i)
      of e f (inr (Queued a, taken, i)) =
          inr (
            Queued a,
            still_queued after other before reason there_waits k.steady.placed.claimed.distinct a taken,
            name_other a (λ r. not_queued_before (subst (λ q. is_queued m q ≡ true) r taken)) ∙ i,
          )
      of e f (inr (Waiting a, taken, i)) =
          let differ : a ≢ other =
          λ r. not_same y (sym (name_is p c s n x k v h differs) ∙ ap (λ q. named (Waiting q)) (sym r) ∙ i) f in
          inr (Waiting a, subst (λ (q : Option Reason). is_some q ≡ true) (sym (reason_now a differ)) taken, i)

      by : (d : Bool) → same_name x b ≡ d → (e : Bool) → same_name y b ≡ e → HasPlace b
      by true f e i = inr (Current, running_still, k.name ∙ one_name p x b f)
        where
          running_still : is_some m.current ≡ true
          running_still = ap is_some running.current
      by false f true i =
          inr (
            Queued other,
            queued_now after other before reason there_waits k.steady.placed.claimed.distinct,
            name_queued ∙ one_name p y b i,
          )
      by false f false i = of f i (shown.processes.there b home)

  -- how many live
  aligned_now : after.wptr % 4 ≡ 0
  aligned_now = ap (λ a. a % 4) kept.0 ∙ aligned p c s n x k v h

  lives : (b : ℕ) → z (Life n b) ≡ IsAmount (pos (count_at b (live now.control)))
  lives b =
      stay (Life n b) refl refl refl refl refl ∙ shown.processes.lives b
      ∙ ap (λ q. IsAmount (pos q)) (lives_are m running.level b running.current (aligned p c s n x k v h) running.small
      ∙ ap (λ q. q + cond (w == b) 1 0) (sym settled_alike)
      ∙ ap (λ a. count_at b (settled now.control) + cond (a == b) 1 0) (sym kept.0)
      ∙ sym (lives_are now.control running.level b running.current aligned_now running.small))
    where
      f : ℕ → ℕ
      f a = cond (a == b) 1 0

      settled_alike : count_at b (settled now.control) ≡ count_at b (settled m)
      settled_alike =
          sum_by-append f (descheduled now.control) (none_running m)
          ∙ ap (λ q. q + count_at b (none_running m))
          (count_alike after other before reason there_waits k.steady.placed.claimed.distinct b)
          ∙ sym (sum_by-append f (descheduled m) (none_running m))

  many : length (live now.control) ≡ length (live m)
  many =
      live_long now.control running.level running.current
      ∙ ap suc (length-append (descheduled now.control) (none_running m)
      ∙ ap (λ q. q + length (none_running m))
      (length_alike after other before reason there_waits k.steady.placed.claimed.distinct)
      ∙ sym (length-append (descheduled m) (none_running m)))
      ∙ sym (live_long m running.level running.current)

  processes_now : ShowsProcesses z n named' (k.shows.sent n) node'
  processes_now =
      record {
        seated = seated;
        there = placed;
        lent = λ b a l e f i. shown.processes.lent b a l e
            (rests_before b a f l i (same_name x b) refl (same_name y b) refl) i;
        passed = λ l q e f. (let i = shown.processes.passed l q e f in (
          i.0,
          i.1,
          still_rests q.request.process i.1 i.2 ∙ i.2,
          i.3,
        ));
        lives = lives;
        population = (
          shown.processes.population.0,
          stay (Population n) refl refl refl refl refl ∙ shown.processes.population.1,
          subst (λ q. q ≤ shown.processes.population.0) (sym many) shown.processes.population.2,
        );
        interrupting = IfSome_then m.interrupted shown.processes.interrupting (λ t e. stay_run 0 ∙ e);
        flags = λ e. record {
          error = stay (Error n) refl refl refl refl refl ∙ running.flags.error ∙ ap IsFlag (sym kept.2);
          halting = stay (HaltOnError n) refl refl refl refl refl ∙ running.flags.halting ∙ ap IsFlag (sym kept.3);
        };
        kept_flags = λ e. IfSome_then m.interrupted (shown.processes.kept_flags k.kept) (λ t f. record {
          error = stay (Error n) refl refl refl refl refl ∙ f.error;
          halting = stay (HaltOnError n) refl refl refl refl refl ∙ f.halting;
        });
      }
    where
      not_runs : (a : Context) → IsStand (Runs (again p c s n x k v h differs)) ≡ IsStand (Rests a) → ⊥
      not_runs a e = cc

      same_lent : (a : Context) → IsStand (Rests (woken beside.context)) ≡ IsStand (Rests a) → a.lent ≡ None
      same_lent a e = sym (ap lent_in e)
        where
          lent_in : Value → Option Lent
          lent_in (IsStand (Rests b)) = b.lent
          lent_in _ = None

      rests_before : (b : Name) (a : Context) → z (Standing b) ≡ IsStand (Rests a) → (l : Lent) → a.lent ≡ Some l
          → (d : Bool) → same_name x b ≡ d → (e : Bool) → same_name y b ≡ e → s (Standing b) ≡ IsStand (Rests a)
      rests_before b a f l i true d e r =
          absurd (not_runs a (sym own_stood ∙ ap (λ q. z (Standing q)) (one_name p x b d) ∙ f))
      rests_before b a f l i false d true r =
          let none : None ≡ Some l =
          sym (same_lent a (sym other_stood ∙ ap (λ q. z (Standing q)) (one_name p y b r) ∙ f)) ∙ i in cc
      rests_before b a f l i false d false r = sym (stay_stand b d r) ∙ f

      rests_not_runs : (a d : Context) → IsStand (Rests a) ≡ IsStand (Runs d) → ⊥
      rests_not_runs a d e = cc

      rests_not_waits : (a d : Context) → IsStand (Rests a) ≡ IsStand (Waits d) → ⊥
      rests_not_waits a d e = cc

      still_rests : (b : Name) (a : Context) → s (Standing b) ≡ IsStand (Rests a) → z (Standing b) ≡ s (Standing b)
      still_rests b a e = by (same_name x b) refl (same_name y b) refl
        where
          by : (d : Bool) → same_name x b ≡ d → (f : Bool) → same_name y b ≡ f → z (Standing b) ≡ s (Standing b)
          by true d f i =
              absurd (rests_not_runs a running.context (sym e ∙ ap (λ q. s (Standing q)) (sym (one_name p x b d))
              ∙ running.stood))
          by false d true i =
              absurd (rests_not_waits a beside.context (sym e ∙ ap (λ q. s (Standing q)) (sym (one_name p y b i))
              ∙ beside.stood))
          by false d false i = stay_stand b d i

  -- the marks
  marks_now : AreMarked z n (k.shows.sent n) now.control
  marks_now =
      marks_from s z n (k.shows.sent n) (k.shows.sent n) m now.control
      (λ a e. saved_words_stay s z n a (saved_word_stays p c s n x k v h differs t z g)
      (saved_of p c s n x k v h a (were_there after other before reason there_waits
      k.steady.placed.claimed.distinct a e)))
      (λ l. refl)
      (λ i e. ap (λ (q : Value). (word_in q).used) (kept_now p c s n x k v h differs t z g i
      (λ f. not_received (sym e ∙ f))
      (not_channel p c s n x k v h differs t z g i Receiving e engaged_not_received)) ∙ e)
      (λ i. stay (Sending n i) refl refl refl refl refl ∙ shown.marks.outputs i)
      (λ i. by i (used_now p c s n x k v h differs t z g i)) shown.marks
    where
      not_received : Receiving ≡ Free → ⊥
      not_received e = cc

      engaged_not_received : Engaged ≡ Receiving → ⊥
      engaged_not_received e = cc

      by : (i : ℕ) → ((i ≡ j) × (use_of z n i ≡ Free)) ⊎ (use_of z n i ≡ use_of s n i)
          → awaits_successor (use_of z n i) ≡ false
      by i (inl e) = ap awaits_successor e.1
      by i (inr e) = ap awaits_successor e ∙ shown.marks.no_successor i

  -- the channels
  -- a half of another channel
  stay_half : (a : ℕ) (r : Side) → (channel ≡ a → ⊥) → z (Half n a r) ≡ s (Half n a r)
  stay_half a r e = stay (Half n a r) refl (of Input) (of Output) refl refl
    where
      of : (q : Side) → is_half_of n channel q (Half n a r) ≡ false
      of q = by (same_place (Half n channel q) (Half n a r)) refl
        where
          by : (d : Bool) → same_place (Half n channel q) (Half n a r) ≡ d
              → same_place (Half n channel q) (Half n a r) ≡ false
          by false f = f
          by true f = absurd (e (one_half p n channel a q r f).0)

  not_free : Engaged ≡ Free → ⊥
  not_free e = cc

  not_saved : Engaged ≡ Saved → ⊥
  not_saved e = cc

  old_taken : (a : ℕ) (r : Side) (q : Request) → (channel ≡ a → ⊥) → IsTakenHalf s n named k.node.machine a r q
      → IsTakenHalf z n named' now a r q
  old_taken a r q e old =
      let there : word_place_break k.plan.memory a ≡ None =
      subst (λ b. word_place_break b a ≡ None) shown.size old.placed in
      let l : (place a ≡ 4 * word_number a) × (most_neg ≤ a) × (4 * word_number a + 4 ≤ k.plan.memory) =
      word_lies site running.whole a there in
      let another : word_number a ≢ j =
      λ f. e (omega (arith, f, l.0, l.1, (lies p c s n x k v h).0, (lies p c s n x k v h).1)) in
      let differ : old.process ≢ other =
      λ f. e ((one_reason (opposite side) r channel a theirs.buffer q.buffer (one_is (sym there_waits
      ∙ ap (reason_of m) (sym f) ∙ old.waits))).1) in
      record {
        process = old.process;
        name = old.name;
        waits = reason_now old.process differ ∙ old.waits;
        channel_word = word_stays_after p c s n x k v h differs t z g a (record {
          above = l.1;
          within = omega (arith, l.0, l.1, l.2);
          aligned = eqb-true _ _ (word_placed k.plan.memory a there).0;
        }) (λ f. not_free (sym old.engaged ∙ f)) (λ f. not_saved (sym old.engaged ∙ f)) another ∙ old.channel_word;
        engaged = ap (λ (b : Value). (word_in b).used) (kept_now p c s n x k v h differs t z g (word_number a)
            (λ f. not_free (sym old.engaged ∙ f)) another) ∙ old.engaged;
        placed = subst (λ b. word_place_break b a ≡ None) (sym (tells_now p c s n x k v h differs t z g).length) there;
      }
    where
      one_is : {a b : Reason} → Some a ≡ Some b → a ≡ b
      one_is e = cc

  channels_now : ShowsChannels z n named' now
  channels_now =
      record {
        taken = λ a r q e. taken_by a r q e (cases_eq channel a);
        halves = λ a r. half_by a r (cases_eq channel a);
        waiting = λ b a r span e. waiting_by b a r span e (cases_eq channel a);
        engaged = λ i e. engaged_by i e (used_now p c s n x k v h differs t z g i);
      }
    where
      not_filled : {q : Request} → IsHalf Nobody ≡ IsHalf (TakenBy q) → ⊥
      not_filled e = cc

      taken_by : (a : ℕ) (r : Side) (q : Request) → z (Half n a r) ≡ IsHalf (TakenBy q)
          → (channel ≡ a) ⊎ (channel ≡ a → ⊥) → IsTakenHalf z n named' now a r q
      taken_by a r q e (inl f) =
          absurd (not_filled (sym (empty_half r) ∙ ap (λ b. z (Half n b r)) f ∙ e))
      taken_by a r q e (inr f) =
          old_taken a r q f (shown.channels.taken a r q (sym (stay_half a r f) ∙ e))

      half_by : (a : ℕ) (r : Side) → (channel ≡ a) ⊎ (channel ≡ a → ⊥)
          → (q : Holder) × (z (Half n a r) ≡ IsHalf q)
      half_by a r (inl f) = (Nobody, ap (λ b. z (Half n b r)) (sym f) ∙ empty_half r)
      half_by a r (inr f) = ((shown.channels.halves a r).0, stay_half a r f ∙ (shown.channels.halves a r).1)

      -- who waits at the channel is the partner
      at_channel : (b : ℕ) (r : Side) (span : Span) → is_some (reason_of m b) ≡ true
          → s (Half n channel r) ≡ IsHalf (TakenBy (record { process = named (Waiting b); buffer = span }))
          → b ≡ other
      at_channel b r span e f = by r side refl f
        where
          own : s (Half n channel side) ≡ IsHalf (TakenBy (record { process = named (Waiting b); buffer = span })) → ⊥
          own i = filled (sym (own_empty p c s n x k v h) ∙ ap half_in i)
            where
              filled : {q : Request} → Nobody ≡ TakenBy q → ⊥
              filled e = cc

          theirs_is : s (Half n channel (opposite side))
              ≡ IsHalf (TakenBy (record { process = named (Waiting b); buffer = span })) → b ≡ other
          theirs_is i =
              only_partner p c s n x k v h differs b e
              (ap (λ (q : Request). q.process) (one_request (sym i ∙ asked_half p c s n x k v h differs)))
            where
              one_request : {q q' : Request} → IsHalf (TakenBy q) ≡ IsHalf (TakenBy q') → q ≡ q'
              one_request e = cc

          by : (r d : Side) → side ≡ d
              → s (Half n channel r) ≡ IsHalf (TakenBy (record { process = named (Waiting b); buffer = span }))
              → b ≡ other
          by Input Input i e = absurd (own (ap (λ q. s (Half n channel q)) i ∙ e))
          by Output Output i e = absurd (own (ap (λ q. s (Half n channel q)) i ∙ e))
          by Input Output i e = theirs_is (ap (λ q. s (Half n channel (opposite q))) i ∙ e)
          by Output Input i e = theirs_is (ap (λ q. s (Half n channel (opposite q))) i ∙ e)

      waiting_by : (b a : ℕ) (r : Side) (span : Span) → reason_of now.control b ≡ Some (reason_at r a span)
          → (channel ≡ a) ⊎ (channel ≡ a → ⊥)
          → z (Half n a r) ≡ IsHalf (TakenBy (record { process = named (Waiting b); buffer = span }))
      waiting_by b a r span e f =
          let there : is_some (reason_of now.control b) ≡ true =
          subst (λ (q : Option Reason). is_some q ≡ true) (sym e) refl in
          let differ : b ≢ other = waits_other b there in
          let old : s (Half n a r) ≡ IsHalf (TakenBy (record { process = named (Waiting b); buffer = span })) =
          shown.channels.waiting b a r span (sym (reason_now b differ) ∙ e) in
          of differ (waited b differ there) old f
        where
          of : b ≢ other → is_some (reason_of m b) ≡ true
              → s (Half n a r) ≡ IsHalf (TakenBy (record { process = named (Waiting b); buffer = span }))
              → (channel ≡ a) ⊎ (channel ≡ a → ⊥)
              → z (Half n a r) ≡ IsHalf (TakenBy (record { process = named (Waiting b); buffer = span }))
          of differ inside old (inl i) =
              absurd (differ (at_channel b r span inside (ap (λ q. s (Half n q r)) i ∙ old)))
          of differ inside old (inr i) = stay_half a r i ∙ old

      engaged_by : (i : ℕ) → use_of z n i ≡ Engaged
          → ((i ≡ j) × (use_of z n i ≡ Free)) ⊎ (use_of z n i ≡ use_of s n i)
          → (a : ℕ) × (word_number a ≡ i) × HasHolder z n named' a
      engaged_by i e (inl f) = absurd (not_free (sym e ∙ f.1))
      engaged_by i e (inr f) =
          let old = shown.channels.engaged i (sym f ∙ e) in
          (old.0, old.1, held old.0 (λ d. free_there (ap word_number d ∙ old.1)) old.2)
        where
          held : (a : ℕ) → (channel ≡ a → ⊥) → HasHolder s n named a → HasHolder z n named' a
          held a d (inl (r, q, o)) = inl (r, q, stay_half a r d ∙ o)
          held a d (inr (b, o)) = inr (b, ap (λ (q : Value). enabler (half_in q)) (stay_half a Input d) ∙ o)

          free_there : j ≡ i → ⊥
          free_there d = by (used_now p c s n x k v h differs t z g j)
            where
              by : ((j ≡ j) × (use_of z n j ≡ Free)) ⊎ (use_of z n j ≡ use_of s n j) → ⊥
              by (inl q) = not_free (sym e ∙ ap (use_of z n) (sym d) ∙ q.1)
              by (inr q) = not_free (sym e ∙ ap (use_of z n) (sym d) ∙ channel_free p c s n x k v h differs t z g)

  -- a channel that is enabled is another one
  enabled_other : (a : ℕ) (b : Name) → enabler_at s n a ≡ Some b → channel ≡ a → ⊥
  enabled_other a b e f = nobody (sym differs.1 ∙ ap (enabler_at s n) f ∙ e)
    where
      nobody : None ≡ Some b → ⊥
      nobody i = cc

  enabler_stays : (a : ℕ) → enabler_at z n a ≡ enabler_at s n a
  enabler_stays a = by (cases_eq channel a)
    where
      by : (channel ≡ a) ⊎ (channel ≡ a → ⊥) → enabler_at z n a ≡ enabler_at s n a
      by (inl e) =
          subst (λ b. enabler_at z n b ≡ enabler_at s n b) e
          (ap (λ (q : Value). enabler (half_in q)) (empty_half Input) ∙ sym differs.1)
      by (inr e) = ap (λ (q : Value). enabler (half_in q)) (stay_half a Input e)

  -- a word in use as another channel, or for an alternative, stays
  lasting_use : (i : ℕ) → is_lasting (use_of s n i) ≡ true → i ≢ j → use_of z n i ≡ use_of s n i
  lasting_use i e f =
      ap (λ (b : Value). (word_in b).used) (kept_now p c s n x k v h differs t z g i (lasting_not_free e) f)

  lasting_word : (a : ℕ) → word_place_break (length store) a ≡ None → is_lasting (use_at s n a) ≡ true
      → word_number a ≢ j → word_at now.store a ≡ word_at store a
  lasting_word a there e f =
      let l : (place a ≡ 4 * word_number a) × (most_neg ≤ a) × (4 * word_number a + 4 ≤ k.plan.memory) =
      word_lies site running.whole a (subst (λ z. word_place_break z a ≡ None) shown.size there) in
      word_stays_after p c s n x k v h differs t z g a (record {
        above = l.1;
        within = omega (arith, l.0, l.1, l.2);
        aligned = eqb-true _ _ (word_placed (length store) a there).0;
      }) (lasting_not_free e) (lasting_not_saved e) f

  another_word : (a : ℕ) (b : Name) → enabler_at s n a ≡ Some b → word_number a ≢ j
  another_word a b e f =
      let it : IsEnabled s n store a b = shown.choices.enabled a b e in
      let l : (place a ≡ 4 * word_number a) × (most_neg ≤ a) × (4 * word_number a + 4 ≤ k.plan.memory) =
      word_lies site running.whole a (subst (λ z. word_place_break z a ≡ None) shown.size it.placed) in
      enabled_other a b e (omega (arith, f, l.0, l.1, (lies p c s n x k v h).0, (lies p c s n x k v h).1))

  not_state : (i : ℕ) → is_state (use_of s n i) ≡ true → i ≢ j
  not_state i e =
      not_channel p c s n x k v h differs t z g i (use_of s n i) refl (λ f. true≢false (sym e ∙ sym (ap is_state f)))

  -- so the node is shown
  node_now : ShowsNode z n k.plan named' (k.shows.sent n) node'
  node_now =
      record {
        role = shown.role;
        works = shown.works;
        runs_on = shown.runs_on;
        size = (tells_now p c s n x k v h differs t z g).length;
        kind = shown.kind;
        store = shows_from z n k.plan.memory now.store (tells_now p c s n x k v h differs t z g);
        marks = marks_now;
        channels = channels_now;
        links = λ l e. link_stays s z n named named' (k.shows.sent n) k.node node' l (λ b. refl)
            (λ r. stay (LinkHalf (end_at n l) r) refl refl refl refl refl)
            (stay (Unfinished (end_at n l)) refl refl refl refl refl)
            (descriptors_stay s z n m.links store shown.choices alternatives l e) refl refl (shown.links l e);
        processes = processes_now;
        choices = choices_kept s z n m.links m.links store now.store (record {
          linked = inputs_stay s z n m.links m.links
              (λ l. stay (LinkHalf (end_at n l) Input) refl refl refl refl refl) refl;
          stands = alternatives;
          quiet = λ b e f. both_quiet p s z n x y stand_stays own_quiet other_quiet b f;
          ports = λ b e. stay (Ports b) refl refl refl refl refl;
          inputs = enabler_stays;
          held = λ a b e. ap half_in (stay_half a Input (enabled_other a b (ap enabler e))) ∙ e;
          unsent = λ i e z. ap amount_in (stay (Sending n i) refl refl refl refl refl) ∙ z;
          sent = λ a b e. ap (λ (q : Value). is_taken_half (half_in q)) (stay_half a Output (enabled_other a b e));
          choosing = λ i e. kept_now p c s n x k v h differs t z g i
              (lasting_not_free (state_lasts (use_of s n i) e)) (not_state i e);
          engaged = λ a b e f. lasting_use (word_number a) (ap is_lasting f) (another_word a b e) ∙ f;
          size = (tells_now p c s n x k v h differs t z g).length ∙ sym shown.size;
          states = λ a e f. lasting_word a e (state_lasts (use_at s n a) f) (not_state (word_number a) f);
          words = λ a b e f i. lasting_word a f (ap is_lasting i) (another_word a b e);
        }) shown.choices;
      }
    where
      stand_stays : (b : Name) → same_name x b ≡ false → same_name y b ≡ false → z (Standing b) ≡ s (Standing b)
      stand_stays b e f = stay (Standing b) refl refl refl e f

      no_alternative : running.context.choice ≡ None
      no_alternative =
          no_choice s n m.links store x running.context shown.choices running.home running.stood
          (subst (λ b. use_of s n (word_number (word_below b 3)) ≡ Free) (sym running.registers.wptr)
          (third_free p c s n x k v h))

      own_now : alternative_at z n x ≡ None
      own_now =
          ap (λ (q : Value). alternative_of (stand_in q)) own_stood
          ∙ alternative_none true false (again p c s n x k v h differs) no_alternative

      own_before : alternative_at s n x ≡ None
      own_before =
          ap (λ (q : Value). alternative_of (stand_in q)) running.stood
          ∙ alternative_none true false running.context no_alternative

      other_now : alternative_at z n y ≡ None
      other_now = ap (λ (q : Value). alternative_of (stand_in q)) other_stood

      other_before : alternative_at s n y ≡ None
      other_before = ap (λ (q : Value). alternative_of (stand_in q)) beside.stood

      own_quiet : is_quiet (stand_in (z (Standing x))) ≡ true
      own_quiet = ap (λ (q : Value). is_quiet (stand_in q)) own_stood

      other_quiet : is_quiet (stand_in (z (Standing y))) ≡ true
      other_quiet =
          ap (λ (q : Value). is_quiet (stand_in q)) other_stood
          ∙ sym (ap (λ (q : Value). is_quiet (stand_in q)) beside.stood) ∙ shown.choices.quiet y beside.home

      alternatives : (b : Name) → b.node ≡ n → alternative_at z n b ≡ alternative_at s n b
      alternatives b e =
          both_alike p s z n x y stand_stays (own_now ∙ sym own_before) (other_now ∙ sym other_before) b

  pub meeting_leads : LeadsTo p c n z
  meeting_leads =
      leads_there p c s n x k now z named' (k.shows.sent n) (stepped p c s n x k v h differs t z g)
      (hidden_still p c s n x k v h differs t z g) node_now elsewhere
      (outputs_stay s z n k.node node' (λ l. stay (LinkHalf (end_at n l) Output) refl refl refl refl refl) (λ l. refl))
    where
      elsewhere : (q : Place) → node_at q ≢ n → z q ≡ s q
      elsewhere q e =
          stay q (word q e) (half Input q e) (half Output q e) (stand x running.home q e) (stand y beside.home q e)
        where
          not_n : (b : ℕ) → b ≢ n → (n == b) ≡ false
          not_n b e = ne_eqb n b (λ f. e (sym f))

          word : (q : Place) → node_at q ≢ n → is_word_of n q ≡ false
          word (WordAt b i) e = not_n b e
          word _ e = refl

          half : (r : Side) (q : Place) → node_at q ≢ n → is_half_of n channel r q ≡ false
          half r (Half b a d) e = rw (not_n b e) refl
          half r _ e = refl

          stand : (a : Name) → a.node ≡ n → (q : Place) → node_at q ≢ n → is_stand_of a q ≡ false
          stand a home (Standing b) e = rw (ne_eqb a.node b.node (λ f. e (sym f ∙ home))) refl
          stand a home _ e = refl
