-- The end of an instruction: it goes on, it jumps, or it is left to the scheduler.
use Rattle.std.proofs.Common.{◌≡◌, ℕ, refl, sym, ap, subst, ◌∙◌, Bool, true, false, true≢false, not, ◌||◌, unwrap_or}
use Rattle.std.proofs.Common.{◌%◌, inl, inr}
use Rattle.std.specs.Prelude.{◌==◌, is_none, if◌then◌else◌}
use Rattle.std.proofs.lemmas.Bool.{or_parts}
use Rattle.tword.specs.Words.{plus}
use Rattle.tword.specs.Stores.{Store}
use Rattle.tword.specs.Claims.{Claims}
use Rattle.tcode.specs.declared.instruction.Operation.{Operation}
use Rattle.tcode.specs.declared.instruction.Instruction.{Instruction}
use Rattle.tcpu.specs.declared.registers.Registers.{Registers}
use Rattle.tcpu.specs.declared.registers.Next.{Next}
use Rattle.tcpu.specs.declared.registers.Next.TheVariants.{Go, Jumped, Schedule, Halt}
use Rattle.tcpu.specs.Outcomes.{Outcome}
use Rattle.tplan.specs.declared.plan.Plan.{Plan}
use Rattle.tprocesses.specs.Places.{Place, Name, Standing, Error, HaltOnError, Life, FlagChanged}
use Rattle.tprocesses.specs.Values.{Context, Runs, IsStand, IsFlag, flag_in}
use Rattle.tprocesses.specs.Parts.{WordInUse, Part, require, SawTheScheduler, ◌>>=◌}
use Rattle.tprocesses.specs.Instructions.{Flags, has_flags, flags_after, context_after, jumped, followed, completed}
use Rattle.tprocesses.specs.Instructions.{sets_flag}
use Rattle.tprocesses.specs.Scheduling.{schedules}
use Rattle.tprocesses.specs.Standing.{moves}
use Rattle.tprocesses.specs.Touching.{Site}
use Rattle.tprocesses.specs.Performing.{Performed}
use Rattle.tprocesses.specs.Uses.{Uses, uses_of}
use Rattle.tprocesses.specs.Depending.{fails}
use Rattle.tseen.specs.Known.{HasRegisters}
use Rattle.tseen.specs.Processes.{HasFlags}
use Rattle.tseen.proofs.After.{State, After, after_bind, after_require}
use Rattle.tseen.proofs.Cells.{Tells}
use Rattle.tseen.proofs.Touched.{Permits}
use Rattle.tseen.proofs.Effected.{IsReadKnown}
use Rattle.tseen.proofs.Executed.{IsExecuted, flags_for, AreFlagsAfter}
use Rattle.tseen.proofs.Finished.{is_flag_of, is_life_of, is_stand_of, IsNoted, IsFlagged, sets_error_then}
use Rattle.tseen.proofs.Finished.{sets_halting_then, moved, HasMoved, moves_then, StandsNow, stands_then, error_then}

-- a place that the end of an instruction may change
abbrev pub is_own : ℕ → Name → Place → Bool
is_own n x q = (is_flag_of n q || is_life_of n q) || is_stand_of x q

-- a process goes on with these registers, and this context. old: its workspace before
pub record WentOn (site : Site) (x : Name) (old : ℕ) (after : Registers) (c : Context) (t s : State) : Type 0 where
  pub stand : s (Standing x) ≡ IsStand (Runs c)
  pub lives : (w : ℕ) → s (Life site.number w) ≡ moved site old after.wptr w (t (Life site.number w))
  pub error : s (Error site.number) ≡ IsFlag after.error
  pub halting : s (HaltOnError site.number) ≡ IsFlag after.halt_on_error
  pub others : (q : Place) → is_own site.number x q ≡ false → s q ≡ t q
  pub noted : IsNoted site.number t s
  -- an alternative that is under way keeps the workspace
  pub stays : (is_none c.choice || (old == after.wptr)) ≡ true

module _ (site : Site) (x : Name) (old : ℕ) (after : Registers) (c : Context) where
  abbrev n : ℕ
  n = site.number

  -- flags, workspaces and then where it stands
  pub went : (t t1 t2 t3 : State) → IsFlagged n after.error after.halt_on_error t t1
      → HasMoved site old after.wptr t1 t2
      → StandsNow site x (Runs c) t2 t3 → (is_none c.choice || (old == after.wptr)) ≡ true
      → WentOn site x old after c t t3
  went t t1 t2 t3 f m k still =
      record {
        stand = k.is;
        lives = λ w. k.others (Life n w) refl ∙ m.lives w
            ∙ ap (moved site old after.wptr w) (f.others (Life n w) refl);
        error = k.others (Error n) refl ∙ m.others (Error n) refl ∙ f.error;
        halting = k.others (HaltOnError n) refl ∙ m.others (HaltOnError n) refl ∙ f.halting;
        others = λ q h. (let p : ((is_flag_of n q || is_life_of n q) ≡ false) × (is_stand_of x q ≡ false) =
            or_parts _ _ h in
            let o : (is_flag_of n q ≡ false) × (is_life_of n q ≡ false) = or_parts _ _ p.0 in
            k.others q p.1 ∙ m.others q o.1 ∙ f.others q o.0);
        noted = by f.noted;
        stays = still;
      }
    where
      by : IsNoted n t t1 → IsNoted n t t3
      by (inl e) = inl (ap flag_in (k.others (FlagChanged n) refl ∙ m.others (FlagChanged n) refl) ∙ e)
      by (inr e) =
          inr (
            k.others (Error n) refl ∙ m.others (Error n) refl ∙ e.0,
            k.others (HaltOnError n) refl ∙ m.others (HaltOnError n) refl ∙ e.1,
          )

  -- workspaces, then flags, and then where it stands
  went_with_error : (t t1 t2 t3 : State) → HasMoved site old after.wptr t t1
      → IsFlagged n after.error after.halt_on_error t1 t2
      → StandsNow site x (Runs c) t2 t3 → (is_none c.choice || (old == after.wptr)) ≡ true
      → WentOn site x old after c t t3
  went_with_error t t1 t2 t3 m f k still =
      record {
        stand = k.is;
        lives = λ w. k.others (Life n w) refl ∙ f.others (Life n w) refl ∙ m.lives w;
        error = k.others (Error n) refl ∙ f.error;
        halting = k.others (HaltOnError n) refl ∙ f.halting;
        others = λ q h. (let p : ((is_flag_of n q || is_life_of n q) ≡ false) × (is_stand_of x q ≡ false) =
            or_parts _ _ h in
            let o : (is_flag_of n q ≡ false) × (is_life_of n q ≡ false) = or_parts _ _ p.0 in
            k.others q p.1 ∙ f.others q o.0 ∙ m.others q o.1);
        noted = by f.noted;
        stays = still;
      }
    where
      by : IsNoted n t1 t2 → IsNoted n t t3
      by (inl e) = inl (ap flag_in (k.others (FlagChanged n) refl) ∙ e)
      by (inr e) =
          inr (
            k.others (Error n) refl ∙ e.0 ∙ m.others (Error n) refl,
            k.others (HaltOnError n) refl ∙ e.1 ∙ m.others (HaltOnError n) refl,
          )

module _ (plan : Plan) (site : Site) (whole : site.size % 4 ≡ 0) (claims : Claims) (i : Instruction) (level : ℕ)
    (r : Registers) (c : Context) (k : HasRegisters level r c) (s : State) (store : Store)
    (tells : Tells s site.number site.size store) (permits : Permits s site.number claims)
    (flags : HasFlags s site.number r) (x : Name) where
  abbrev u : Uses
  u = uses_of site.kind i (unwrap_or c.a 0)

  abbrev Executed : Performed Outcome → State → Type 0
  Executed p t = IsExecuted site whole claims i level r c k s store tells permits flags p t

  abbrev with : Bool → Flags
  with b = flags_for site whole claims i level r c k s store tells permits flags b

  -- the context after it
  abbrev pub left_context : Performed Outcome → Context
  left_context p = context_after c u p.known p.value.0

  -- what follows each end
  pub record Follows (p : Performed Outcome) (t : State) (Q : Unit {0} → State → Type 0) : Type 0 where
    pub goes : (d : Executed p t) → d.next ≡ Go → (s' : State) → WentOn site x c.wptr d.after (left_context p) t s'
        → Q tt s'
    pub jumps : (d : Executed p t) → d.next ≡ Jumped → (t' : State) → HasMoved site c.wptr d.after.wptr t t'
        → IsFlagged site.number d.after.error d.after.halt_on_error t t
        → (is_none c.choice || (c.wptr == d.after.wptr)) ≡ true
        → After (jumped (left_context p).priority site x (left_context p)) t' Q
    pub schedules : (d : Executed p t) (o : Operation) → d.next ≡ Schedule o → (t' : State)
        → HasMoved site c.wptr d.after.wptr t t'
        → After (schedules o site x (record c { iptr = plus c.iptr i.length })) t' Q

  module _ (p : Performed Outcome) (t : State) (Q : Unit {0} → State → Type 0) (f : Follows p t Q) where
    -- the flags before
    flagged : (d : Executed p t) → IsFlagged site.number r.error r.halt_on_error t t
    flagged d =
        record {
          error = d.on.keeps.others (Error site.number) refl ∙ flags.error;
          halting = d.on.keeps.others (HaltOnError site.number) refl ∙ flags.halting;
          others = λ q h. refl;
          noted = inr (refl, refl);
        }

    moved_now : (d : Executed p t) (t1 t2 : State) → HasMoved site c.wptr p.value.0.wptr t1 t2
        → HasMoved site c.wptr d.after.wptr t1 t2
    moved_now d t1 t2 m = subst (λ w. HasMoved site c.wptr w t1 t2) d.wptr m

    still_now : (d : Executed p t) → (is_none c.choice || (c.wptr == p.value.0.wptr)) ≡ true
        → (is_none c.choice || (c.wptr == d.after.wptr)) ≡ true
    still_now d still = subst (λ w. (is_none c.choice || (c.wptr == w)) ≡ true) d.wptr still

    abbrev end : Part (Unit {0})
    end = followed p.value.1 site x (record c { iptr = plus c.iptr i.length }) (left_context p)

    -- an alternative that is under way keeps the workspace
    abbrev stays : Part (Unit {0})
    stays = require (is_none c.choice || (c.wptr == p.value.0.wptr)) WordInUse

    -- the end of an instruction that looks at flags
    with_flags_end : (d : Executed p t) → AreFlagsAfter site whole claims i level r c k s store tells permits flags true
        p d.after d.next → After (flags_after site true (with true) p.value.0 >>=
        (λ _. stays >>= (λ _. moves site c.wptr p.value.0.wptr >>= (λ _. end)))) t Q
    with_flags_end d a =
        after_bind (flags_after site true (with true) p.value.0) _ t Q
        (after_bind (sets_flag site (Error site.number) r.error p.value.0.error) _ t _
        (sets_error_then site r.error p.value.0.error r.halt_on_error t t _ (flagged d) (λ t1 f1.
        sets_halting_then site p.value.0.error r.halt_on_error p.value.0.halt_on_error t t1 _ f1 (λ t2 f2.
        after_bind stays _ t2 Q
        (after_require (is_none c.choice || (c.wptr == p.value.0.wptr)) WordInUse t2 _ (λ still.
        after_bind (moves site c.wptr p.value.0.wptr) _ t2 Q (moves_then site c.wptr p.value.0.wptr t2 _ (λ t3 m.
        subst (λ v. After (followed v site x (record c { iptr = plus c.iptr i.length }) (left_context p)) t3 Q)
        (sym (a.0 ∙ a.3))
        (stands_then site plan x (Runs (left_context p)) t3 Q (λ t4 h.
        f.goes d a.3 t4 (went site x c.wptr d.after (left_context p) t t2 t3 t4 (flags_now t2 f2) (moved_now d t2 t3 m)
        h (still_now d still))))))))))))
      where
        flags_now : (t2 : State) → IsFlagged site.number p.value.0.error p.value.0.halt_on_error t t2
            → IsFlagged site.number d.after.error d.after.halt_on_error t t2
        flags_now t2 g =
            subst (λ b. IsFlagged site.number d.after.error b t t2) a.2
            (subst (λ b. IsFlagged site.number b p.value.0.halt_on_error t t2) a.1 g)

    without_flags_end : (d : Executed p t) → AreFlagsAfter site whole claims i level r c k s store tells permits flags
        false p d.after d.next → After (stays >>= (λ _. moves site c.wptr p.value.0.wptr >>= (λ _. end))) t Q
    without_flags_end d a =
        after_bind stays _ t Q
        (after_require (is_none c.choice || (c.wptr == p.value.0.wptr)) WordInUse t _ (λ still.
        after_bind (moves site c.wptr p.value.0.wptr) _ t Q (moves_then site c.wptr p.value.0.wptr t _ (λ t1 m.
        by t1 (moved_now d t t1 m) (still_now d still) p.value.1 refl))))
      where
        -- what follows, where this was answered
        is : (v : Next) → p.value.1 ≡ v
            → d.next ≡ (if fails v then (if r.halt_on_error then Halt else Go) else v)
        is v e = a.2 ∙ ap (λ z. if fails z then (if r.halt_on_error then Halt else Go) else z) e

        flags_now : (e : fails p.value.1 ≡ false)
            → IsFlagged site.number d.after.error d.after.halt_on_error t t
        flags_now e =
            subst (λ b. IsFlagged site.number d.after.error b t t) (sym a.1)
            (subst (λ b. IsFlagged site.number b r.halt_on_error t t)
            (sym (a.0 ∙ ap (λ b. b || r.error) e)) (flagged d))

        flags_at : (t1 : State) → HasMoved site c.wptr d.after.wptr t t1
            → IsFlagged site.number r.error r.halt_on_error t1 t1
        flags_at t1 m =
            record {
              error = m.others (Error site.number) refl ∙ (flagged d).error;
              halting = m.others (HaltOnError site.number) refl ∙ (flagged d).halting;
              others = λ q h. refl;
              noted = inr (refl, refl);
            }

        error_now : (t1 t2 : State) → p.value.1 ≡ Halt → r.halt_on_error ≡ false
            → IsFlagged site.number true false t1 t2
            → IsFlagged site.number d.after.error d.after.halt_on_error t1 t2
        error_now t1 t2 e low g =
            subst (λ b. IsFlagged site.number d.after.error b t1 t2) (sym (a.1 ∙ low))
            (subst (λ b. IsFlagged site.number b false t1 t2) (sym (a.0 ∙ ap (λ z. fails z || r.error) e)) g)

        by : (t1 : State) → HasMoved site c.wptr d.after.wptr t t1
            → (is_none c.choice || (c.wptr == d.after.wptr)) ≡ true → (v : Next) → p.value.1 ≡ v
            → After (followed v site x (record c { iptr = plus c.iptr i.length }) (left_context p)) t1 Q
        by t1 m still Go e =
            stands_then site plan x (Runs (left_context p)) t1 Q (λ t2 h.
            f.goes d (is Go e) t2 (went site x c.wptr d.after (left_context p) t t t1 t2 (flags_now (ap fails e)) m h
            still))
        by t1 m still Jumped e = f.jumps d (is Jumped e) t1 m (flags_now (ap fails e)) still
        by t1 m still (Schedule o) e = f.schedules d o (is (Schedule o) e) t1 m
        by t1 m still Halt e =
            error_then site plan x (left_context p) r.error r.halt_on_error t1 t1 Q (flags_at t1 m) (λ t2 t3 low g h.
            f.goes d (is Halt e ∙ ap (λ b. if b then Halt else Go) low) t3
            (went_with_error site x c.wptr d.after (left_context p) t t1 t2 t3 m (error_now t1 t2 e low g) h
            still))

    pub completed_then : (IsReadKnown site whole claims site.kind i level r c k s store tells permits p → Executed p t)
        → After (completed site x c i (with (has_flags site.kind i)) u p) t Q
    completed_then read =
        after_bind (require (p.known || not u.reads_known) SawTheScheduler) _ t Q
        (after_require (p.known || not u.reads_known) SawTheScheduler t _ (λ h.
        by (read (is_read p.known u.reads_known h)) (has_flags site.kind i) refl))
      where
        is_read : (a b : Bool) → (a || not b) ≡ true → b ≡ true → a ≡ true
        is_read true b h e = refl
        is_read false true h e = absurd (true≢false (sym h))
        is_read false false h e = absurd (true≢false (sym e))

        by : (d : Executed p t) (b : Bool) → has_flags site.kind i ≡ b
            → After (flags_after site b (with b) p.value.0 >>=
            (λ _. stays >>= (λ _. moves site c.wptr p.value.0.wptr >>= (λ _. end)))) t Q
        by d true e = with_flags_end d (subst (λ b. AreFlagsAfter site whole claims i level r c k s store tells permits
            flags b p d.after d.next) e d.flagged)
        by d false e = without_flags_end d (subst (λ b. AreFlagsAfter site whole claims i level r c k s store tells
            permits flags b p d.after d.next) e d.flagged)
