-- `endp` that is not the last is seen; what is shown once the count is lowered.
use Rattle.std.proofs.Common.{◌≡◌, ℕ, ◌+◌, ◌<◌, ◌≤◌, ◌/◌, refl, sym, ap, subst, ◌∙◌, Bool, true, false}
use Rattle.std.proofs.Common.{length, Some, None, arith, ◌⊎◌, inl, inr}
use Rattle.std.specs.Prelude.{◌==◌, negsuc, slice_get}
use Rattle.std.specs.Int.{w32, to_le_bytes}
use Rattle.std.proofs.lemmas.Bool.{eq-eqb, eqb-true, ne_eqb, cases_eq}
use Rattle.tword.specs.Words.{plus, minus}
use Rattle.tword.specs.Stores.{Store, place, with_word, as_cells}
use Rattle.tword.specs.Touches.{Mode, Reads, Writes, word_break}
use Rattle.tproc.specs.Machine.{Control, claims_of}
use Rattle.tproc.specs.Queues.{at_rest}
use Rattle.tplan.specs.declared.plan.NodePlan.{NodePlan}
use Rattle.tplan.specs.declared.plan.Plan.{Plan}
use Rattle.tnet.specs.Rendezvous.{Configuration}
use Rattle.tagents.specs.Walks.{label_of, state_after}
use Rattle.tprocesses.specs.Places.{Place, Name, WordAt, Standing, Life, same_place}
use Rattle.tprocesses.specs.Values.{Value, Free, Spoilt, Word, IsWord, word_in}
use Rattle.tprocesses.specs.Changes.{Put, Add, Decrement, free_word, used_word}
use Rattle.tprocesses.specs.Machine.{Successor, process_machine, step_of, site_of, awaits_successor}
use Rattle.tprocesses.specs.Scheduling.{goes_on_after}
use Rattle.tseen.specs.Steps.{IsCurrent, LeadsTo}
use Rattle.tseen.specs.Ended.{EndsAreSeen}
use Rattle.tseen.specs.AgentSteps.{HasStep, NeverStops}
use Rattle.tseen.proofs.After.{State, changed, After, after_agent_step}
use Rattle.tseen.proofs.Cells.{use_of}
use Rattle.tseen.proofs.Touched.{Permits}
use Rattle.tseen.proofs.Written.{changed_there, changed_word, changed_else}
use Rattle.tseen.proofs.Writing.{IsWordTouched, IsWordWritten, word_written}
use Rattle.tseen.proofs.Stored.{GoesOn, set_both, knows_bytes, goes_on_more, permits_on}
use Rattle.tseen.proofs.Performed.{word_passes}
use Rattle.tseen.proofs.Finished.{is_stand_of}
use Rattle.tseen.proofs.Stepped.{shown_node}
use Rattle.tseen.proofs.Leaving.{HasLeft, left_leads}
use Rattle.tseen.proofs.Ends.{HasCounted, number, a, m, store, site, running, left, at_end, ends_run, ends_counted}
use Rattle.tseen.proofs.Ends.{other_word_counted, count_lies, counted, lowered}

module _ (p : Plan) (c : Configuration) (s : State) (n : ℕ) (x : Name) (k : IsCurrent p c s n x) (z : State)
    (h : HasCounted p c s n x k z) (free : use_of h.before n (number p c s n x k) ≡ Free) where
  -- names of what is there
  abbrev here : ℕ
  here = number p c s n x k

  abbrev address : ℕ
  address = plus (a p c s n x k) 4

  abbrev old : Store
  old = store p c s n x k

  abbrev control : Control
  control = m p c s n x k

  -- the count may be written
  touched : IsWordTouched (site p c s n x k) (running p c s n x k).whole h.before Writes address
  touched =
      let lies = count_lies p c s n x k z h in
      record {
        placed = h.placed;
        touched = record { free = free; unsent = λ e. h.unsent };
        at = lies.0;
        above = lies.1;
        within = lies.2;
      }

  permits : Permits h.before n (claims_of control)
  permits = permits_on s h.before n (claims_of control) h.on.keeps (running p c s n x k).permits

  passes : (mode : Mode) (b : ℕ)
      → IsWordTouched (site p c s n x k) (running p c s n x k).whole h.before mode b
      → word_break (length old) (claims_of control) mode b ≡ None
  passes mode b t =
      subst (λ size. word_break size (claims_of control) mode b ≡ None) (sym (shown_node p c s n x k).size)
      (word_passes (site p c s n x k) (running p c s n x k).whole (claims_of control) h.before mode b permits t)

  -- in the store too, and the word at A may be read
  pub reads_there : word_break (length old) (claims_of control) Reads (a p c s n x k) ≡ None
  reads_there = passes Reads (a p c s n x k) h.read

  pub writes_there : word_break (length old) (claims_of control) Writes address ≡ None
  writes_there = passes Writes address touched

  -- once the count is set to a number
  module _ (y : State) (v : ℕ) (there : y (WordAt n here) ≡ IsWord (free_word v))
      (same : (q : Place) → same_place (WordAt n here) q ≡ false → y q ≡ z q) where
    abbrev put : State
    put = changed (WordAt n here) (Put (IsWord (free_word v))) h.before

    written : IsWordWritten (site p c s n x k) (running p c s n x k).whole h.before put address
        (as_cells (to_le_bytes w32 v))
    written =
        word_written (site p c s n x k) (running p c s n x k).whole address (as_cells (to_le_bytes w32 v)) h.before refl
        touched

    on : GoesOn n k.plan.memory s put old (with_word old address v)
    on =
        goes_on_more n k.plan.memory s h.before put old old (with_word old address v) h.on
        (set_both n k.plan.memory h.before put old address (as_cells (to_le_bytes w32 v))
        (as_cells (to_le_bytes w32 v)) h.on.tells written.keeps written.set refl
        (λ j l. knows_bytes true (to_le_bytes w32 v) (to_le_bytes w32 v) (λ _. refl) j)
        (λ j l r. subst (λ i. use_of h.before n i ≡ Free) (word j l r) free)
        (inr (touched.above, omega (arith, touched.at, touched.within))))
      where
        word : (j : ℕ) → place address ≤ j → j < place address + 4 → here ≡ j / 4
        word j l r = omega (arith, touched.at, l, r)

    -- the process has left its node
    pub has_left : HasLeft p c s n x k y (with_word old address v)
    has_left =
        record {
          before = put;
          on = on;
          plain = h.plain;
          ended = record { is = same (Standing x) refl ∙ h.ended.is; others = others };
        }
      where
        level : ℕ
        level = (running p c s n x k).level

        word : (j : ℕ) → (here ≡ j) ⊎ (here ≡ j → ⊥) → y (WordAt n j) ≡ put (WordAt n j)
        word j (inl e) =
            subst (λ i. y (WordAt n i) ≡ put (WordAt n i)) e
            (there ∙ sym (changed_there n here (Put (IsWord (free_word v))) h.before))
        word j (inr e) =
            same (WordAt n j) (rw (eq-eqb n n refl, ne_eqb here j e) refl)
            ∙ other_word_counted p c s n x k z h j e
            ∙ sym (changed_word n here (Put (IsWord (free_word v))) h.before j e)

        word_at_node : (b j : ℕ) (o : Bool) → (n == b) ≡ o → y (WordAt b j) ≡ put (WordAt b j)
        word_at_node b j true e =
            subst (λ i. y (WordAt i j) ≡ put (WordAt i j)) (eqb-true n b e) (word j (cases_eq here j))
        word_at_node b j false e =
            same (WordAt b j) (rw e refl) ∙ h.ended.others (WordAt b j) refl
            ∙ changed_else n here (Decrement level) h.before (WordAt b j) e
            ∙ sym (changed_else n here (Put (IsWord (free_word v))) h.before (WordAt b j) e)

        others : (q : Place) → is_stand_of x q ≡ false
            → y q ≡ changed (Life n control.registers.wptr) (Add (negsuc 0)) put q
        others (WordAt b j) e = word_at_node b j (n == b) refl
        others q e = same q refl ∙ h.ended.others q e

-- a successor whose count is not in use for anything else has a step
pub due : (p : Plan) (n j : ℕ) (s : State) (w : Word) → s (WordAt n j) ≡ IsWord w → awaits_successor w.used ≡ true
    → HasStep p (Successor n j) s
due p n j s w is waits =
    record {
      label = label_of (process_machine p) (Successor n j) s;
      agent = refl;
      state = state_after (process_machine p) (label_of (process_machine p) (Successor n j) s).deed s;
      step = rw (is, waits) refl;
    }

-- where the count is spoilt its step stops
pub spoilt_then : (p : Plan) (plan : NodePlan) (n j : ℕ) (s : State) (Q : Unit {0} → State → Type 0)
    → slice_get p.nodes n ≡ Some plan → s (WordAt n j) ≡ IsWord (used_word Spoilt)
    → After (step_of p (Successor n j)) s Q
spoilt_then p plan n j s Q planned spoilt =
    rw (planned, After)
    (subst (λ (v : Value). After (goes_on_after (site_of n plan) j (word_in v).used) s Q) (sym spoilt) tt)

spoilt_stops : (p : Plan) (plan : NodePlan) (n j : ℕ) (s : State) → slice_get p.nodes n ≡ Some plan
    → s (WordAt n j) ≡ IsWord (used_word Spoilt) → NeverStops p (Successor n j) s → ⊥
spoilt_stops p plan n j s planned spoilt never =
    let it : HasStep p (Successor n j) s = due p n j s (used_word Spoilt) spoilt refl in
    after_agent_step p (Successor n j) s it.state (λ _ _. ⊥)
    (record {
      label = it.label;
      agent = it.agent;
      step = it.step;
      goes_on = never it.label it.state it.agent it.step;
    }) (spoilt_then p plan n j s (λ _ _. ⊥) planned spoilt)

-- an `endp` that is not the last is seen
pub ends_are_seen : EndsAreSeen
ends_are_seen p c s s' n x k next more makes never = by (counted p c s n x k s' h)
  where
    h : HasCounted p c s n x k s'
    h = ends_counted p c s s' n x k next makes

    by : (s' (WordAt n (number p c s n x k)) ≡ IsWord (used_word Spoilt))
        ⊎ ((use_of h.before n (number p c s n x k) ≡ Free)
        × (s' (WordAt n (number p c s n x k))
        ≡ IsWord (lowered (running p c s n x k).level (left p c s n x k))))
        → LeadsTo p c n s'
    by (inl e) = absurd (spoilt_stops p k.plan n (number p c s n x k) s' k.planned e never)
    by (inr e) =
        left_leads p c s n x k s'
        (with_word (store p c s n x k) (plus (a p c s n x k) 4) (minus (left p c s n x k) 1))
        (has_left p c s n x k s' h e.0 s' (minus (left p c s n x k) 1) (e.1 ∙ ap IsWord fewer) (λ q o. refl))
        (h.steps (at_rest (m p c s n x k))
        (with_word (store p c s n x k) (plus (a p c s n x k) 4) (minus (left p c s n x k) 1))
        (ends_run (at_end p c s n x k h.size) (store p c s n x k) (claims_of (m p c s n x k))
        (reads_there p c s n x k s' h e.0) (writes_there p c s n x k s' h e.0) more))
      where
        fewer : lowered (running p c s n x k).level (left p c s n x k) ≡ free_word (minus (left p c s n x k) 1)
        fewer = rw (ne_eqb (left p c s n x k) 1 more) refl
