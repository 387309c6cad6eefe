-- The instruction of a process, with the flags as they are.
use Rattle.std.proofs.Common.{◌≡◌, ℕ, ◌%◌, refl, sym, ap, subst, ◌∙◌, Bool, true, false, ◌||◌, Result, Ok, unwrap_or}
use Rattle.std.specs.Prelude.{if◌then◌else◌}
use Rattle.tword.specs.Stores.{Store}
use Rattle.tword.specs.Claims.{Claims}
use Rattle.tword.specs.Actions.{run, answer}
use Rattle.tcode.specs.declared.instruction.Instruction.{Instruction}
use Rattle.tcpu.specs.declared.registers.Registers.{Registers}
use Rattle.tcpu.specs.declared.registers.Next.{Next}
use Rattle.tcpu.specs.declared.registers.Next.TheVariants.{Go, Halt}
use Rattle.tcpu.specs.Outcomes.{Outcome}
use Rattle.tcpu.specs.Effects.{effect}
use Rattle.tprocesses.specs.Places.{Name, HaltOnError}
use Rattle.tprocesses.specs.Values.{Context, Value, flag_in}
use Rattle.tprocesses.specs.Parts.{require, SawTheScheduler, ◌>>=◌}
use Rattle.tprocesses.specs.Instructions.{Flags, registers, has_flags, flags_before, context_after, completed}
use Rattle.tprocesses.specs.Instructions.{executed}
use Rattle.tprocesses.specs.Touching.{Site}
use Rattle.tprocesses.specs.Performing.{Performed, perform}
use Rattle.tprocesses.specs.Uses.{Uses, uses_of, has_needed, known_writes}
use Rattle.tprocesses.specs.Depending.{with_flags, fails}
use Rattle.tprocesses.proofs.Flagged.{flags_are_told}
use Rattle.tword.specs.declared.breaks.Break.{Break}
use Rattle.tseen.specs.Known.{Knows, HasRegisters}
use Rattle.tseen.specs.Processes.{HasFlags}
use Rattle.tseen.proofs.After.{State, After, after_bind, after_weaken, after_require}
use Rattle.tseen.proofs.Cells.{Tells}
use Rattle.tseen.proofs.Touched.{Permits}
use Rattle.tseen.proofs.Stored.{GoesOn}
use Rattle.tseen.proofs.Ordered.{flags_go}
use Rattle.tseen.proofs.Effected.{IsReadKnown, IsEffected, effected, EndsSo, does_too}

module _ (site : Site) (whole : site.size % 4 ≡ 0) (claims : Claims) (i : Instruction) (level : ℕ) (r : Registers)
    (c : Context) (k : HasRegisters level r c) (s : State) (store : Store)
    (tells : Tells s site.number site.size store) (permits : Permits s site.number claims)
    (flags : HasFlags s site.number r) where
  abbrev u : Uses
  u = uses_of site.kind i (unwrap_or c.a 0)

  -- the flags with which it is done
  abbrev pub flags_for : Bool → Flags
  flags_for true = record { error = r.error; halt_on_error = r.halt_on_error }
  flags_for false = record { error = false; halt_on_error = true }

  -- how flags and what follows are told: by an instruction that looks at flags, and by one that does not
  abbrev pub AreFlagsAfter : Bool → Performed Outcome → Registers → Next → Type 0
  AreFlagsAfter true p after next =
      (p.value.1 ≡ next) × (p.value.0.error ≡ after.error) × (p.value.0.halt_on_error ≡ after.halt_on_error)
      × (next ≡ Go)
  AreFlagsAfter false p after next =
      (after.error ≡ (fails p.value.1 || r.error)) × (after.halt_on_error ≡ r.halt_on_error)
      × (next ≡ (if fails p.value.1 then (if r.halt_on_error then Halt else Go) else p.value.1))

  -- the instruction was done by the store
  pub record IsExecuted (p : Performed Outcome) (t : State) : Type 0 where
    pub after : Registers
    pub next : Next
    pub store' : Store
    pub ran : run (effect site.kind i r) store claims ≡ Ok ((after, next), store')
    pub knows : HasRegisters level after (context_after c u p.known p.value.0)
    pub wptr : p.value.0.wptr ≡ after.wptr
    pub on : GoesOn site.number site.size s t store store'
    pub flagged : AreFlagsAfter (has_flags site.kind i) p after next

  flags_then : (b : Bool) (Q : Flags → State → Type 0) → Q (flags_for b) s → After (flags_before site b) s Q
  flags_then true Q h =
      subst (λ (v : Value). Q (record { error = flag_in v; halt_on_error = flag_in (s (HaltOnError site.number)) }) s)
      (sym flags.error)
      (subst (λ (v : Value). Q (record { error = r.error; halt_on_error = flag_in v }) s) (sym flags.halting) h)
  flags_then false Q h = h

  -- what looks at flags goes on
  goes : (p : Performed Outcome) (t : State) → has_flags site.kind i ≡ true
      → IsEffected site whole claims site.kind i level r c k s store tells permits (flags_for true) p t
      → IsExecuted p t
  goes p t h d =
      record {
        after = d.after;
        next = d.next;
        store' = d.store';
        ran = d.ran;
        knows = d.knows;
        wptr = d.wptr;
        on = d.on;
        flagged = subst (λ b. AreFlagsAfter b p d.after d.next) (sym h) (d.same, d.error, d.halting, next_is);
      }
    where
      g : (q : Registers) × (effect site.kind i r ≡ answer (q, Go))
      g = flags_go site.kind i r h

      next_is : d.next ≡ Go
      next_is =
          let e : ◌≡◌ {A = Result (Outcome × Store) Break} (Ok ((d.after, d.next), d.store')) (Ok ((g.0, Go), store)) =
          sym d.ran ∙ ap (λ x. run x store claims) g.1 in
          let f : ◌≡◌ {A = Outcome × Store} ((d.after, d.next), d.store') ((g.0, Go), store) = cc in
          ap (λ (q : Outcome × Store). q.0.1) f

  -- what does not is done with the flags as they are
  by_flags : (p : Performed Outcome) (t : State) → has_flags site.kind i ≡ false
      → IsEffected site whole claims site.kind i level r c k s store tells permits (flags_for false) p t
      → IsExecuted p t
  by_flags p t h d = of (does_too r.error r.halt_on_error claims (effect site.kind i (with_flags false true r))
      (effect site.kind i r) store store (d.after, d.next) d.store'
      (flags_are_told site.kind i r r.error r.halt_on_error h) d.ran)
    where
      of : EndsSo r.error r.halt_on_error claims (effect site.kind i r) store store (d.after, d.next) d.store'
          → IsExecuted p t
      of e =
          record {
            after = e.0.0;
            next = e.0.1;
            store' = d.store';
            ran = e.1;
            knows = record {
              priority = d.knows.priority;
              wptr = d.knows.wptr ∙ ap (λ (q : Registers). q.wptr) (sym e.2.0);
              iptr = d.knows.iptr ∙ ap (λ (q : Registers). q.iptr) (sym e.2.0);
              a = subst (λ v. Knows (context_after c u p.known p.value.0).a v) (ap (λ (q : Registers). q.a) (sym e.2.0))
                  d.knows.a;
              b = subst (λ v. Knows (context_after c u p.known p.value.0).b v) (ap (λ (q : Registers). q.b) (sym e.2.0))
                  d.knows.b;
              c = subst (λ v. Knows (context_after c u p.known p.value.0).c v) (ap (λ (q : Registers). q.c) (sym e.2.0))
                  d.knows.c;
              nothing_lent = d.knows.nothing_lent;
            };
            wptr = d.wptr ∙ ap (λ (q : Registers). q.wptr) (sym e.2.0);
            on = d.on;
            flagged = subst (λ b. AreFlagsAfter b p e.0.0 e.0.1) (sym h) (
              ap (λ (q : Registers). q.error) e.2.0 ∙ ap (λ z. fails z || r.error) (sym d.same),
              ap (λ (q : Registers). q.halt_on_error) e.2.0,
              e.2.1
                  ∙ ap (λ z. if fails z then (if r.halt_on_error then Halt else Go) else z) (sym d.same),
            );
          }

  -- so an instruction is executed
  pub executed_then : (x : Name) (Q : Unit {0} → State → Type 0)
      → ((p : Performed Outcome) (t : State)
      → (IsReadKnown site whole claims site.kind i level r c k s store tells permits p → IsExecuted p t)
      → After (completed site x c i (flags_for (has_flags site.kind i)) u p) t Q)
      → After (executed site x c i) s Q
  executed_then x Q h =
      after_bind (require (has_needed u.needs c) SawTheScheduler) _ s Q
      (after_require (has_needed u.needs c) SawTheScheduler s _ (λ needed.
      after_bind (flags_before site (has_flags site.kind i)) _ s Q
      (flags_then (has_flags site.kind i) _ (by needed (has_flags site.kind i) refl))))
    where
      by : (needed : has_needed u.needs c ≡ true) (b : Bool) → has_flags site.kind i ≡ b
          → After (perform site (known_writes c u) (effect site.kind i (registers c (flags_for b))) >>=
          (λ p. completed site x c i (flags_for b) u p)) s Q
      by needed true e =
          after_bind (perform site (known_writes c u) (effect site.kind i (registers c (flags_for true)))) _ s Q
          (after_weaken (perform site (known_writes c u) (effect site.kind i (registers c (flags_for true)))) s _ _
          (effected site whole claims site.kind i level r c k s store tells permits (flags_for true) needed)
          (λ p t d. subst (λ b. After (completed site x c i (flags_for b) u p) t Q) e
          (h p t (λ read. goes p t e (d read)))))
      by needed false e =
          after_bind (perform site (known_writes c u) (effect site.kind i (registers c (flags_for false)))) _ s Q
          (after_weaken (perform site (known_writes c u) (effect site.kind i (registers c (flags_for false)))) s _ _
          (effected site whole claims site.kind i level r c k s store tells permits (flags_for false) needed)
          (λ p t d. subst (λ b. After (completed site x c i (flags_for b) u p) t Q) e
          (h p t (λ read. by_flags p t e (d read)))))
