-- An instruction that is performed on places, with what is known of its registers, is done by the store with the
-- registers that are there.
use Rattle.std.proofs.Common.{◌≡◌, ℕ, ◌%◌, refl, sym, ap, subst, ◌∙◌, [], ◌∷◌, length, Bool, true, false, true≢false}
use Rattle.std.proofs.Common.{Result, Ok, Option, None, unwrap_or}
use Rattle.tword.specs.declared.kind.Kind.{Kind}
use Rattle.tword.specs.declared.breaks.Break.{Break}
use Rattle.tword.specs.Stores.{Store, word_at, with_word, with_cells, as_cells, byte_at, cells}
use Rattle.tword.specs.Claims.{Claims}
use Rattle.tword.specs.Actions.{Action, answer, breaks, requiring, touching_word, touching_byte, writing_word}
use Rattle.tword.specs.Actions.{writing_byte, copying, run_from, run, unless, unmet}
use Rattle.tword.specs.Touches.{Writes, word_break, span_break, copy_break, byte_span}
use Rattle.tword.proofs.Leads.{passed}
use Rattle.tcode.specs.declared.instruction.Instruction.{Instruction}
use Rattle.tcpu.specs.declared.registers.Registers.{Registers}
use Rattle.tcpu.specs.declared.registers.Next.{Next}
use Rattle.tcpu.specs.Outcomes.{Outcome}
use Rattle.tcpu.specs.Effects.{effect}
use Rattle.tprocesses.specs.Values.{Context}
use Rattle.tprocesses.specs.Instructions.{Flags, registers, context_after}
use Rattle.tprocesses.specs.Touching.{Site}
use Rattle.tprocesses.specs.Performing.{Performed, perform}
use Rattle.tprocesses.specs.Uses.{Uses, uses_of, has_needed, known_writes}
use Rattle.tprocesses.specs.Depending.{with_flags, DoAlike, AreAlike, EndsByFlags, DoesByFlags}
use Rattle.tprocesses.proofs.Depended.{uses_are_told}
use Rattle.tseen.specs.Known.{HasRegisters}
use Rattle.tseen.proofs.After.{State, After, after_weaken, after_both}
use Rattle.tseen.proofs.Cells.{Tells}
use Rattle.tseen.proofs.Touched.{Permits}
use Rattle.tseen.proofs.Stored.{GoesOn}
use Rattle.tseen.proofs.Performed.{IsDone, Ends, Begins, performs}
use Rattle.tseen.proofs.Needed.{none_read, same_registers, known_as, known_after}
use Rattle.tseen.proofs.Ordered.{reads_first}

-- an action that does the same by other flags
module _ (e h : Bool) (claims : Claims) where
  -- it ends by the flags, and leaves the same store
  abbrev pub EndsSo : Action Outcome → Store → Store → Outcome → Store → Type 0
  EndsSo y old new x t =
      (o : Outcome) × (run_from y old claims new ≡ Ok (o, t)) × EndsByFlags e h x o

  -- a check that passed
  once : (c : Option Break) (rest : Result (Outcome × Store) Break) (x : Outcome) (t : Store) → c ≡ None
      → ((o : Outcome) × (rest ≡ Ok (o, t)) × EndsByFlags e h x o)
      → (o : Outcome) × (unless c rest ≡ Ok (o, t)) × EndsByFlags e h x o
  once c rest x t none d = (d.0, rw none d.1, d.2)

  pub does_too : (a b : Action Outcome) (old new : Store) (x : Outcome) (t : Store) → DoesByFlags e h a b
      → run_from a old claims new ≡ Ok (x, t) → EndsSo b old new x t
  does_too (answer x') (answer y) old new x t d r =
      let p : ◌≡◌ {A = Outcome × Store} (x', new) (x, t) = cc in (
        y,
        ap (λ (s : Store). Ok (y, s)) (ap (λ (q : Outcome × Store). q.1) p),
        subst (λ (q : Outcome). EndsByFlags e h q y) (ap (λ (q : Outcome × Store). q.0) p) d,
      )
  does_too (breaks c) (breaks c') old new x t d r = cc
  does_too (requiring q c a) (requiring q' c' b) old new x t d r =
      let p = passed _ _ _ r in
      subst (λ z. EndsSo (requiring q' z b) old new x t) d.1
      (subst (λ z. EndsSo (requiring z c b) old new x t) d.0
      (once (unmet q c) (run_from b old claims new) x t p.0 (does_too a b old new x t d.2 p.1)))
  does_too (touching_word m c a) (touching_word m' c' b) old new x t d r =
      let p = passed _ _ _ r in
      subst (λ z. EndsSo (touching_word m' z b) old new x t) d.1
      (subst (λ z. EndsSo (touching_word z c b) old new x t) d.0
      (once (word_break (length old) claims m c) (run_from (b (word_at old c)) old claims new) x t p.0
      (does_too (a (word_at old c)) (b (word_at old c)) old new x t (d.2 (word_at old c)) p.1)))
  does_too (touching_byte m c a) (touching_byte m' c' b) old new x t d r =
      let p = passed _ _ _ r in
      subst (λ z. EndsSo (touching_byte m' z b) old new x t) d.1
      (subst (λ z. EndsSo (touching_byte z c b) old new x t) d.0
      (once (span_break (length old) claims m (byte_span c)) (run_from (b (unwrap_or (byte_at old c) 0)) old claims new)
      x t p.0
      (does_too (a (unwrap_or (byte_at old c) 0)) (b (unwrap_or (byte_at old c) 0)) old new x t
      (d.2 (unwrap_or (byte_at old c) 0)) p.1)))
  does_too (writing_word c v a) (writing_word c' v' b) old new x t d r =
      let p = passed _ _ _ r in
      subst (λ z. EndsSo (writing_word c' z b) old new x t) d.1
      (subst (λ z. EndsSo (writing_word z v b) old new x t) d.0
      (once (word_break (length old) claims Writes c) (run_from b old claims (with_word new c v)) x t p.0
      (does_too a b old (with_word new c v) x t d.2 p.1)))
  does_too (writing_byte c v a) (writing_byte c' v' b) old new x t d r =
      let p = passed _ _ _ r in
      subst (λ z. EndsSo (writing_byte c' z b) old new x t) d.1
      (subst (λ z. EndsSo (writing_byte z v b) old new x t) d.0
      (once (span_break (length old) claims Writes (byte_span c))
      (run_from b old claims (with_cells new c (as_cells (v % 256 ∷ [])))) x t p.0
      (does_too a b old (with_cells new c (as_cells (v % 256 ∷ []))) x t d.2 p.1)))
  does_too (copying f g m a) (copying f' g' m' b) old new x t d r =
      let p = passed _ _ _ r in
      subst (λ z. EndsSo (copying f' g' z b) old new x t) d.2
      (subst (λ z. EndsSo (copying f' z m b) old new x t) d.1
      (subst (λ z. EndsSo (copying z g m b) old new x t) d.0
      (once (copy_break (length old) claims f g m) (run_from b old claims (with_cells new g (cells new f m))) x t p.0
      (does_too a b old (with_cells new g (cells new f m)) x t d.3 p.1))))
  does_too _ _ old new x t d r = absurd d

module _ (site : Site) (whole : site.size % 4 ≡ 0) (claims : Claims) (kind : Kind) (i : Instruction) (level : ℕ)
    (r : Registers) (c : Context) (k : HasRegisters level r c) (s : State) (store : Store)
    (tells : Tells s site.number site.size store) (permits : Permits s site.number claims) where
  abbrev u : Uses
  u = uses_of kind i (unwrap_or c.a 0)

  -- what was read need be known, and is
  abbrev pub IsReadKnown : Performed Outcome → Type 0
  IsReadKnown p = u.reads_known ≡ true → p.known ≡ true

  -- the instruction was done by the store, with these flags before it
  pub record IsEffected (f : Flags) (p : Performed Outcome) (t : State) : Type 0 where
    pub after : Registers
    pub next : Next
    pub store' : Store
    pub ran : run (effect kind i (with_flags f.error f.halt_on_error r)) store claims ≡ Ok ((after, next), store')
    pub same : p.value.1 ≡ next
    pub knows : HasRegisters level after (context_after c u p.known p.value.0)
    pub error : p.value.0.error ≡ after.error
    pub halting : p.value.0.halt_on_error ≡ after.halt_on_error
    pub wptr : p.value.0.wptr ≡ after.wptr
    pub on : GoesOn site.number site.size s t store store'

  module _ (f : Flags) (needed : has_needed u.needs c ≡ true) where
    abbrev there : Registers
    there = with_flags f.error f.halt_on_error r

    done_as : (same : Bool) (p : Performed Outcome) (t : State) → p.known ≡ same
        → IsDone site whole claims u (registers c f) there same (effect kind i there) store store s p.value t
        → IsEffected f p t
    done_as same p t e d =
        let a = d.alike in
        record {
          after = d.outcome.0;
          next = d.outcome.1;
          store' = d.store;
          ran = d.ran;
          same = a.0;
          knows = record {
            priority = k.priority;
            wptr = ap (λ (q : Registers). q.wptr) a.4;
            iptr = ap (λ (q : Registers). q.iptr) a.4;
            a = known_after level r c k f u.a p.known p.value.0.a d.outcome.0.a
                (subst (λ b. AreAlike u.a b (registers c f) there p.value.0.a d.outcome.0.a) (sym e) a.1);
            b = known_after level r c k f u.b p.known p.value.0.b d.outcome.0.b
                (subst (λ b. AreAlike u.b b (registers c f) there p.value.0.b d.outcome.0.b) (sym e) a.2);
            c = known_after level r c k f u.c p.known p.value.0.c d.outcome.0.c
                (subst (λ b. AreAlike u.c b (registers c f) there p.value.0.c d.outcome.0.c) (sym e) a.3);
            nothing_lent = k.nothing_lent;
          };
          error = ap (λ (q : Registers). q.error) a.4;
          halting = ap (λ (q : Registers). q.halt_on_error) a.4;
          wptr = ap (λ (q : Registers). q.wptr) a.4;
          on = d.on;
        }

    begins : Begins site whole claims u (registers c f) there false s store store
    begins = record { tells = tells; permits = permits; size = tells.length; unwritten = λ e. refl }

    -- performed, where what is read is the same, or need not be
    performed_as : (same : Bool) → (u.reads_known ≡ true → same ≡ true)
        → After (perform site (known_writes c u) (effect kind i (registers c f))) s
        (Ends site whole claims u (registers c f) there same (effect kind i there) store store s)
    performed_as same h =
        performs site whole claims u (registers c f) there same (effect kind i (registers c f)) (effect kind i there)
        u.written (known_writes c u) false s store store
        (subst (λ (q : Registers). DoAlike u u.written same (registers c f) q (effect kind i (registers c f))
        (effect kind i q)) (same_registers level r c k f u.needs needed)
        (uses_are_told kind i (registers c f) r.a r.b r.c same h))
        (reads_first kind i (registers c f))
        (known_as level r c k f same u.written (none_read kind i (unwrap_or c.a 0)))
        begins

    pub effected : After (perform site (known_writes c u) (effect kind i (registers c f))) s
        (λ p t. IsReadKnown p → IsEffected f p t)
    effected = by u.reads_known refl
      where
        by : (b : Bool) → u.reads_known ≡ b
            → After (perform site (known_writes c u) (effect kind i (registers c f))) s
            (λ p t. IsReadKnown p → IsEffected f p t)
        by true e =
            after_weaken (perform site (known_writes c u) (effect kind i (registers c f))) s _ _
            (performed_as true (λ h. refl)) (λ p t d h. done_as true p t (h e) (d (λ _. h e)))
        by false e =
            after_weaken (perform site (known_writes c u) (effect kind i (registers c f))) s _ _
            (after_both (perform site (known_writes c u) (effect kind i (registers c f))) s _ _
            (performed_as true (λ h. refl)) (performed_as false (λ h. absurd (true≢false (sym h ∙ e)))))
            (λ p t d h. of p t d.0 d.1 p.known refl)
          where
            of : (p : Performed Outcome) (t : State)
                → Ends site whole claims u (registers c f) there true (effect kind i there) store store s p t
                → Ends site whole claims u (registers c f) there false (effect kind i there) store store s p t
                → (b : Bool) → p.known ≡ b → IsEffected f p t
            of p t d g true e = done_as true p t e (d (λ _. e))
            of p t d g false e = done_as false p t e (g (λ h. absurd (true≢false (sym h))))
