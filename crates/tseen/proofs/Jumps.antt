-- Instructions that are done, and jumps after which the process runs on.
use Rattle.std.specs.Prelude.{◌==◌}
use Rattle.std.proofs.Common.{◌||◌}
use Rattle.std.proofs.Common.{is_none}
use Rattle.std.proofs.Common.{◌≡◌, ◌≢◌, ℕ, refl, sym, subst, ◌∙◌, List, [], ◌∷◌, Bool, true, false}
use Rattle.std.proofs.Common.{true≢false, length, Ok, Option, Some, None, arith, inr}
use Rattle.std.specs.Prelude.{◌&&◌, ◌||◌, nat_le, nat_lt, slice_get}
use Rattle.std.proofs.lemmas.Bool.{lt-ltb, or_parts}
use Rattle.tword.specs.Stores.{Store}
use Rattle.tword.specs.Words.{plus}
use Rattle.tprocesses.specs.Scheduling.{schedules}
use Rattle.tword.specs.Claims.{Claims}
use Rattle.tword.specs.Actions.{run, run_from}
use Rattle.tcode.specs.declared.instruction.Operation.{Operation}
use Rattle.tcode.specs.declared.instruction.Instruction.{Instruction}
use Rattle.tcode.specs.Decoding.{decode}
use Rattle.tcpu.specs.declared.registers.Registers.{Registers}
use Rattle.tcpu.specs.declared.registers.Next.{Next}
use Rattle.tcpu.specs.declared.registers.Next.TheVariants.{Go, Jumped, Schedule, Halt}
use Rattle.tcpu.specs.Outcomes.{Outcome}
use Rattle.tproc.specs.declared.ran.Ran.TheVariants as ran
use Rattle.tproc.specs.Machine.{Control, claims_of}
use Rattle.tproc.specs.Scheduler.{raised}
use Rattle.tproc.specs.Steps.{after}
use Rattle.tplan.specs.declared.plan.NodePlan.{NodePlan}
use Rattle.tplan.specs.declared.plan.Plan.{Plan}
use Rattle.tnet.specs.Rendezvous.{Configuration}
use Rattle.treduction.specs.Plain.{rank}
use Rattle.tprocesses.specs.Places.{Place, Name, WordAt, Standing, Error, HaltOnError, Life}
use Rattle.tprocesses.specs.Values.{Value, Context, Lent, Rests, Runs, IsStand, stand_in}
use Rattle.tprocesses.specs.Parts.{◌>>=◌}
use Rattle.tprocesses.specs.Touching.{Site, save, kept}
use Rattle.tprocesses.specs.Performing.{Performed}
use Rattle.tprocesses.specs.Standing.{forget, unsave, takes_back, resumes, goes_on}
use Rattle.tprocesses.specs.Instructions.{jumped}
use Rattle.tprocesses.specs.Machine.{Process, site_of, step_of, at_site, stepped}
use Rattle.tseen.specs.Steps.{IsCurrent, Makes, LeadsTo, next_of, yields, InstructionsAreDone, HighJumpsAreSeen}
use Rattle.tseen.specs.Steps.{LowJumpsAreSeen}
use Rattle.tseen.proofs.After.{State, After, after_bind, after_all, after_step}
use Rattle.tseen.proofs.Written.{is_word_of}
use Rattle.tseen.proofs.Stored.{GoesOn, goes_on_more}
use Rattle.tseen.proofs.Finished.{is_flag_of, is_life_of, is_stand_of, IsFlagged, HasMoved, StandsNow, stands_then}
use Rattle.tseen.proofs.Completed.{WentOn, went}
use Rattle.tseen.proofs.Running.{RunsThere}
use Rattle.tseen.proofs.Stepped.{there, step_then, next_is, leads, step_is, left, gone_on, one_next, Executed}
use Rattle.tseen.proofs.Saving.{no_word, IsSaved, save_then, IsUnsaved, unsave_then}
use Rattle.tseen.proofs.Softened.{with_words, softened, softened_goes}

go_not_halt : Go ≡ Halt → ⊥
go_not_halt e = cc

jumped_not_halt : Jumped ≡ Halt → ⊥
jumped_not_halt e = cc

scheduled_not_halt : (o : Operation) → Schedule o ≡ Halt → ⊥
scheduled_not_halt o e = cc

-- an instruction whose step does not stop is done
pub instructions_are_done : InstructionsAreDone
instructions_are_done p c s s' n x k makes =
    after_step p x s s' (λ _ s'. (next : Next) × (next_of k.node.machine ≡ Some next) × (next ≢ Halt)) makes
    (step_then p c s n x k (λ _ s'. (next : Next) × (next_of k.node.machine ≡ Some next) × (next ≢ Halt))
    (λ i decodes pp t. record {
      goes = λ d e u went. (
        d.next,
        next_is p c s n x k i pp t decodes d,
        λ f. go_not_halt (sym e ∙ f),
      );
      jumps = λ d e u moved flagged still.
          after_all (jumped (left p c s n x k i pp).priority (site_of n k.plan) x (left p c s n x k i pp)) u
          (λ _ s'. (next : Next) × (next_of k.node.machine ≡ Some next) × (next ≢ Halt)) (λ y v. (
            d.next,
            next_is p c s n x k i pp t decodes d,
            λ f. jumped_not_halt (sym e ∙ f),
          ));
      schedules = λ d o e u moved.
          after_all (schedules o (site_of n k.plan) x (record (there p c s n x k).context {
            iptr = plus (there p c s n x k).context.iptr i.length;
          })) u (λ _ s'. (next : Next) × (next_of k.node.machine ≡ Some next) × (next ≢ Halt)) (λ y v. (
            d.next,
            next_is p c s n x k i pp t decodes d,
            λ f. scheduled_not_halt o (sym e ∙ f),
          ));
    }))

pub go_not_jumped : Go ≡ Jumped → ⊥
go_not_jumped e = cc

pub scheduled_not_jumped : (o : Operation) → Schedule o ≡ Jumped → ⊥
scheduled_not_jumped o e = cc

pub same_level : {a b : ℕ} → Some a ≡ Some b → a ≡ b
same_level e = cc

-- jumps of high processes are seen
pub high_jumps_are_seen : HighJumpsAreSeen
high_jumps_are_seen p c s s' n x k next high makes =
    after_step p x s s' (λ _ s'. LeadsTo p c n s') makes (step_then p c s n x k (λ _ s'. LeadsTo p c n s')
    (λ i decodes pp t. record {
      goes = λ d e u w. absurd (go_not_jumped (sym e ∙ one_next (sym (next_is p c s n x k i pp t decodes d) ∙ next)));
      schedules = λ d o e u w.
          absurd (scheduled_not_jumped o (sym e ∙ one_next (sym (next_is p c s n x k i pp t decodes d) ∙ next)));
      jumps = λ d e u m f still.
          subst (λ q. After (jumped q (site_of n k.plan) x (left p c s n x k i pp)) u (λ _ s'. LeadsTo p c n s'))
          (sym (d.knows.priority ∙ level)) (stands_then (site_of n k.plan) p x (Runs (left p c s n x k i pp)) u
          (λ _ s'. LeadsTo p c n s') (λ v h.
          leads p c s n x k d.after d.store' (gone_on p c s n x k d.after).count v t
          (step_is p c s n x k i pp t d (gone_on p c s n x k d.after) d.store' decodes
          (runs_on i.length d.after d.next d.store' e)) d.on
          (left p c s n x k i pp) d.knows refl
          (went (site_of n k.plan) x (there p c s n x k).context.wptr d.after
          (left p c s n x k i pp) t t u v f m h still)));
    }))
  where
    level : (there p c s n x k).level ≡ 0
    level = same_level (sym (there p c s n x k).current ∙ high)

    runs_on : (length : ℕ) (r : Registers) (next : Next) (store' : Store) → next ≡ Jumped
        → run_from (after length (rank (there p c s n x k).level) k.node.machine.control r next) k.node.machine.store
        (claims_of k.node.machine.control) store'
        ≡ Ok ((gone_on p c s n x k r, ran.Instruction), store')
    runs_on length r next store' e = rw (e, level) refl

-- a low process that does not yield at a jump runs on
pub runs_on_low : (size : ℕ) (m : Control) (r : Registers) (old new : Store) (claims : Claims) → yields m ≡ false
    → (count : ℕ) × (run_from (after size 1 m r Jumped) old claims new
    ≡ Ok ((record m { registers = r; count = count }, ran.Instruction), new))
runs_on_low size m r old new claims h =
    by (nat_le m.timeslice (raised 1 m.count m.timeslice)) refl m.low refl h
  where
    by : (b : Bool) → nat_le m.timeslice (raised 1 m.count m.timeslice) ≡ b → (low : List ℕ) → m.low ≡ low
        → (nat_le m.timeslice (raised 1 m.count m.timeslice) && nat_lt 0 (length m.low)) ≡ false
        → (count : ℕ) × (run_from (after size 1 m r Jumped) old claims new
        ≡ Ok ((record m { registers = r; count = count }, ran.Instruction), new))
    by false e low f h = (raised 1 m.count m.timeslice, rw e refl)
    by true e [] f h = (0, rw (e, f) refl)
    by true e (w ∷ ws) f h =
        let g : nat_lt 0 (length (w ∷ ws)) ≡ false = rw (e, f) at h in
        absurd (true≢false (sym (lt-ltb 0 (length (w ∷ ws)) (omega arith)) ∙ g))

-- a process that rests goes on
pub resting_then : (p : Plan) (plan : NodePlan) (n : ℕ) (s : State) (x : Name)
    (d : Context) (Q : Unit {0} → State → Type 0)
    → x.node ≡ n → slice_get p.nodes n ≡ Some plan → s (Standing x) ≡ IsStand (Rests d)
    → After (resumes (site_of n plan) x d) s Q → After (step_of p (Process x)) s Q
resting_then p plan n s x d Q home planned stood h =
    subst (λ (v : Value). After (at_site p x.node (stepped p x (stand_in v))) s Q) (sym stood)
    (subst (λ j. After (at_site p j (stepped p x (Rests d))) s Q) (sym home) at_node)
  where
    at_node : After (at_site p n (stepped p x (Rests d))) s Q
    at_node = rw (planned, After) h

module _ (p : Plan) (c : Configuration) (s : State) (n : ℕ) (x : Name) (k : IsCurrent p c s n x) (i : Instruction)
    (decodes : run (decode k.node.machine.control.kind k.node.machine.control.registers.iptr) k.node.machine.store
    (claims_of k.node.machine.control) ≡ Ok (i, k.node.machine.store)) (pp : Performed Outcome) (t : State)
    (d : Executed p c s n x k i pp t) (jumps : d.next ≡ Jumped) (low : (there p c s n x k).level ≡ 1) where
  abbrev m : Control
  m = k.node.machine.control

  abbrev site : Site
  site = site_of n k.plan

  abbrev running : RunsThere s n k.plan k.node x
  running = there p c s n x k

  -- the context after the jump, as it rests and as it goes on
  abbrev pub jumped_context : Context
  jumped_context = left p c s n x k i pp

  abbrev pub resting : Context
  resting = forget jumped_context

  abbrev again : Context
  again = record resting { lent = None }

  abbrev Leads : Unit {0} → State → Type 0
  Leads _ z = LeadsTo p c n z

  -- the two steps: the states after the move, the save, the jump, and as the process goes on
  record AreSteps (u v v1 v3 v4 : State) : Type 0 where
    moved_on : HasMoved site running.context.wptr d.after.wptr t u
    flagged : IsFlagged n d.after.error d.after.halt_on_error t t
    saved : IsSaved site running.whole u v jumped_context.wptr kept
    rests : StandsNow site x (Rests resting) v v1
    freed : IsUnsaved site running.whole v1 v3 jumped_context.wptr
    goes : StandsNow site x (Runs again) v3 v4
    still : (is_none again.choice || (running.context.wptr == d.after.wptr)) ≡ true

  module _ (u v v1 v3 v4 : State) (a : AreSteps u v v1 v3 v4) (stays : yields m ≡ false) where
    -- what is no word and not where the process stands was left by the move
    passes : (q : Place) → is_stand_of x q ≡ false → is_word_of n q ≡ false → v4 q ≡ u q
    passes q h w =
        a.goes.others q h ∙ a.freed.set.rest q (no_word n jumped_context.wptr q w) ∙ a.rests.others q h
        ∙ a.saved.set.rest q (no_word n jumped_context.wptr q w)

    on : GoesOn n k.plan.memory s (with_words n v3 t) k.node.machine.store d.store'
    on =
        goes_on_more n k.plan.memory s t (with_words n v3 t) k.node.machine.store d.store' d.store' d.on
        (softened_goes n k.plan.memory t v3 d.store' d.on.tells
        (softened site running.whole jumped_context.wptr x (Rests resting) t u v v1 v3
        (λ j. a.moved_on.others (WordAt n j) refl) a.saved a.rests a.freed))

    went_on : WentOn site x running.context.wptr d.after again (with_words n v3 t) v4
    went_on =
        record {
          stand = a.goes.is;
          lives = λ w. passes (Life n w) refl refl ∙ a.moved_on.lives w;
          error = passes (Error n) refl refl ∙ a.moved_on.others (Error n) refl ∙ a.flagged.error;
          halting = passes (HaltOnError n) refl refl ∙ a.moved_on.others (HaltOnError n) refl ∙ a.flagged.halting;
          others = λ q h. others q (or_parts _ _ h) (is_word_of n q) refl;
          noted = inr (
            passes (Error n) refl refl ∙ a.moved_on.others (Error n) refl,
            passes (HaltOnError n) refl refl ∙ a.moved_on.others (HaltOnError n) refl,
          );
          stays = a.still;
        }
      where
        others : (q : Place) → ((is_flag_of n q || is_life_of n q) ≡ false) × (is_stand_of x q ≡ false) → (b : Bool)
            → is_word_of n q ≡ b → v4 q ≡ with_words n v3 t q
        others q h true w = rw w (a.goes.others q h.1)
        others q h false w = rw w (passes q h.1 w ∙ a.moved_on.others q (or_parts _ _ h.0).1)

    both_lead : LeadsTo p c n v4
    both_lead = of (runs_on_low i.length m d.after k.node.machine.store d.store' (claims_of m) stays)
      where
        of : ((count : ℕ) × (run_from (after i.length 1 m d.after Jumped) k.node.machine.store (claims_of m) d.store'
            ≡ Ok ((record m { registers = d.after; count = count }, ran.Instruction), d.store'))) → LeadsTo p c n v4
        of r =
            leads p c s n x k d.after d.store' r.0 v4 (with_words n v3 t)
            (step_is p c s n x k i pp t d (record m { registers = d.after; count = r.0 }) d.store' decodes
            (subst (λ l. run_from (after i.length (rank l) m d.after d.next) k.node.machine.store (claims_of m) d.store'
            ≡ Ok ((record m { registers = d.after; count = r.0 }, ran.Instruction), d.store')) (sym low)
            (subst (λ z. run_from (after i.length 1 m d.after z) k.node.machine.store (claims_of m) d.store'
            ≡ Ok ((record m { registers = d.after; count = r.0 }, ran.Instruction), d.store')) (sym jumps) r.1)))
            on again (record {
              priority = d.knows.priority;
              wptr = d.knows.wptr;
              iptr = d.knows.iptr;
              a = tt;
              b = tt;
              c = tt;
              nothing_lent = refl;
            }) refl went_on

  -- the process goes on from its rest
  resumed : (u v v1 : State) → HasMoved site running.context.wptr d.after.wptr t u
      → IsFlagged n d.after.error d.after.halt_on_error t t
      → IsSaved site running.whole u v jumped_context.wptr kept → StandsNow site x (Rests resting) v v1
      → yields m ≡ false → (is_none again.choice || (running.context.wptr == d.after.wptr)) ≡ true
      → After (step_of p (Process x)) v1 Leads
  resumed u v v1 moved_on flagged saved rests stays still =
      resting_then p k.plan n v1 x resting Leads running.home k.planned rests.is
      (after_bind (unsave site jumped_context.wptr) _ v1 Leads
      (unsave_then site running.whole jumped_context.wptr v1 _ saved.three_two saved.three_one saved.two_one (λ v3 us.
      subst (λ (l : Option Lent). After (takes_back site l >>= (λ _. goes_on x again)) v3 Leads)
      (sym running.registers.nothing_lent)
      (stands_then site p x (Runs again) v3 Leads (λ v4 h.
      both_lead u v v1 v3 v4 (record {
        moved_on = moved_on;
        flagged = flagged;
        saved = saved;
        rests = rests;
        freed = us;
        goes = h;
        still = still;
      }) stays)))))

  -- so the jump and what follows it
  abbrev pub GoesAgain : Unit {0} → State → Type 0
  GoesAgain _ s' = (s'' : State) → Makes p x s' s'' → LeadsTo p c n s''

  pub jump_then : (u : State) → HasMoved site running.context.wptr d.after.wptr t u
      → IsFlagged n d.after.error d.after.halt_on_error t t → yields m ≡ false
      → (is_none again.choice || (running.context.wptr == d.after.wptr)) ≡ true
      → After (jumped 1 site x jumped_context) u GoesAgain
  jump_then u moved_on flagged stays still =
      after_bind (save site jumped_context.wptr kept) _ u GoesAgain
      (save_then site running.whole jumped_context.wptr kept u _ (λ v saved.
      stands_then site p x (Rests resting) v GoesAgain (λ v1 rests v2 makes.
      after_step p x v1 v2 Leads makes (resumed u v v1 moved_on flagged saved rests stays still))))

-- jumps of low processes that do not yield are seen
pub low_jumps_are_seen : LowJumpsAreSeen
low_jumps_are_seen p c s s' s'' n x k next low stays makes again =
    after_step p x s s' (λ _ s'. (s'' : State) → Makes p x s' s'' → LeadsTo p c n s'') makes
    (step_then p c s n x k (λ _ s'. (s'' : State) → Makes p x s' s'' → LeadsTo p c n s'')
    (λ i decodes pp t. record {
      goes = λ d e u w. absurd (go_not_jumped (sym e ∙ one_next (sym (next_is p c s n x k i pp t decodes d) ∙ next)));
      schedules = λ d o e u w.
          absurd (scheduled_not_jumped o (sym e ∙ one_next (sym (next_is p c s n x k i pp t decodes d) ∙ next)));
      jumps = λ d e u m f still.
          subst (λ q. After (jumped q (site_of n k.plan) x (left p c s n x k i pp)) u
          (λ _ s'. (s'' : State) → Makes p x s' s'' → LeadsTo p c n s''))
          (sym (d.knows.priority ∙ level)) (jump_then p c s n x k i decodes pp t d e level u m f stays still);
    })) s'' again
  where
    level : (there p c s n x k).level ≡ 1
    level = same_level (sym (there p c s n x k).current ∙ low)
