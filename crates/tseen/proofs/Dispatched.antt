-- What a processor does that dispatches a process.
use Rattle.std.proofs.Common.{◌≡◌, ℕ, zero, suc, ◌+◌, ◌<◌, refl, sym, ap, ◌∙◌, List, [], ◌∷◌, true, false, Ok, Option}
use Rattle.std.proofs.Common.{Some, None, arith, ◌⊎◌, inl, inr}
use Rattle.std.specs.Prelude.{◌==◌}
use Rattle.std.proofs.lemmas.Bool.{eq-eqb, eqb-true, or_left, or_right, or_cases}
use Rattle.tword.specs.Words.{word_below}
use Rattle.tword.specs.Stores.{Store, word_at}
use Rattle.tword.specs.Claims.{Claims, has_saved}
use Rattle.tproc.specs.declared.ran.Ran.TheVariants as ran
use Rattle.tproc.specs.declared.waiter.Suspended.{Suspended}
use Rattle.tproc.specs.Machine.{Control, claims_of, descheduled}
use Rattle.tproc.specs.ProcessStatus.{queue, is_among}
use Rattle.tproc.specs.Steps.{step, acted, control_step, dispatched}
use Rattle.tproc.specs.Queues.{started}
use Rattle.tword.specs.Actions.{run_from}
use Rattle.tseen.specs.Steps.{next_queued}

-- the process runs, from its saved Iptr on
abbrev pub begun : Control → (workspace priority iptr : ℕ) → Control
begun m w level iptr =
    record m {
      registers = record m.registers { a = 0; b = 0; c = 0; iptr = iptr; wptr = w };
      current = Some level;
      count = 0;
    }

-- a control without the process that is dispatched
pub record IsPopped (m : Control) (process : ℕ) : Type 0 where
  pub level : ℕ
  pub small : level < 2
  pub workspace : ℕ
  pub rest : Control
  pub first : descheduled m ≡ workspace ∷ descheduled rest
  pub process_is : process ≡ workspace + level
  pub own : is_among workspace (queue m level) ≡ true
  pub still : (v q : ℕ) → q < 2 → is_among v (queue m q) ≡ true
      → (is_among v (queue rest q) ≡ true) ⊎ ((v ≡ workspace) × (q ≡ level))
  pub were : (v q : ℕ) → q < 2 → is_among v (queue rest q) ≡ true → is_among v (queue m q) ≡ true
  pub registers : rest.registers ≡ m.registers
  pub interrupted : rest.interrupted ≡ m.interrupted
  pub waiting : rest.waiting ≡ m.waiting
  pub links : rest.links ≡ m.links
  pub kind : rest.kind ≡ m.kind
  pub halted : rest.halted ≡ m.halted
  pub steps : (store : Store) → m.halted ≡ false → m.current ≡ None
      → has_saved (claims_of m) workspace ≡ true
      → step (record { control = m; store = store })
      ≡ Ok (
        record { control = begun rest workspace level (word_at store (word_below workspace 1)); store = store },
        ran.Dispatch,
      )

-- a processor at which no process runs
from_high : (m : Control) (w : ℕ) (ws : List ℕ) (old new : Store) (claims : Claims) → m.halted ≡ false
    → m.current ≡ None → m.high ≡ w ∷ ws
    → run_from (control_step m.halted m) old claims new
    ≡ run_from (dispatched (started w 0 (record m { high = ws }))) old claims new
from_high m w ws old new claims a b e = rw a (rw b (rw e refl))

from_low : (m : Control) (w : ℕ) (ws : List ℕ) (old new : Store) (claims : Claims) → m.halted ≡ false
    → m.current ≡ None → m.high ≡ [] → m.interrupted ≡ None → m.low ≡ w ∷ ws
    → run_from (control_step m.halted m) old claims new
    ≡ run_from (dispatched (started w 1 (record m { low = ws }))) old claims new
from_low m w ws old new claims a b none c e = rw a (rw b (rw none (rw c (rw e refl))))

-- the process that starts
starts : (m : Control) (w level : ℕ) (old new : Store) (claims : Claims) → has_saved claims w ≡ true
    → run_from (dispatched (started w level m)) old claims new
    ≡ Ok ((begun m w level (word_at old (word_below w 1)), ran.Dispatch), new)
starts m w level old new claims h = rw h refl

module _ (m : Control) (process : ℕ) where
  -- the first of a queue, or another of it
  of_queue : (v w : ℕ) (ws : List ℕ) → is_among v (w ∷ ws) ≡ true → (is_among v ws ≡ true) ⊎ (v ≡ w)
  of_queue v w ws h = by (or_cases (w == v) (is_among v ws) h)
    where
      by : ((w == v) ≡ true) ⊎ (is_among v ws ≡ true) → (is_among v ws ≡ true) ⊎ (v ≡ w)
      by (inl e) = inr (sym (eqb-true _ _ e))
      by (inr e) = inl e

  high_step : (w : ℕ) (ws : List ℕ) → m.high ≡ w ∷ ws → (store : Store) → m.halted ≡ false → m.current ≡ None
      → has_saved (claims_of m) w ≡ true
      → step (record { control = m; store = store })
      ≡ Ok (
        record {
          control = begun (record m { high = ws }) w 0 (word_at store (word_below w 1));
          store = store;
        },
        ran.Dispatch,
      )
  unfolding step
  high_step w ws e store a b h =
      ap (acted store) (from_high m w ws store store (claims_of m) a b e
      ∙ starts (record m { high = ws }) w 0 store store (claims_of m) h)

  low_step : (w : ℕ) (ws : List ℕ) → m.high ≡ [] → m.low ≡ w ∷ ws → (store : Store) → m.halted ≡ false
      → m.current ≡ None → m.interrupted ≡ None → has_saved (claims_of m) w ≡ true
      → step (record { control = m; store = store })
      ≡ Ok (
        record {
          control = begun (record m { low = ws }) w 1 (word_at store (word_below w 1));
          store = store;
        },
        ran.Dispatch,
      )
  unfolding step
  low_step w ws none e store a b c h =
      ap (acted store) (from_low m w ws store store (claims_of m) a b none c e
      ∙ starts (record m { low = ws }) w 1 store store (claims_of m) h)

  high_popped : (w : ℕ) (ws : List ℕ) → m.high ≡ w ∷ ws → process ≡ w → IsPopped m process
  high_popped w ws e f =
      record {
        level = 0;
        small = omega arith;
        workspace = w;
        rest = record m { high = ws };
        first = rw e refl;
        process_is = f ∙ omega arith;
        own = rw e (or_left (w == w) (is_among w ws) (eq-eqb w w refl));
        still = still;
        were = were;
        registers = refl;
        interrupted = refl;
        waiting = refl;
        links = refl;
        kind = refl;
        halted = refl;
        steps = steps;
      }
    where
      still : (v q : ℕ) → q < 2 → is_among v (queue m q) ≡ true
          → (is_among v (queue (record m { high = ws }) q) ≡ true) ⊎ ((v ≡ w) × (q ≡ 0))
      still v zero l h = of (of_queue v w ws (rw e at h))
        where
          of : (is_among v ws ≡ true) ⊎ (v ≡ w) → (is_among v ws ≡ true) ⊎ ((v ≡ w) × (zero ≡ 0))
          of (inl g) = inl g
          of (inr g) = inr (g, refl)
      still v (suc q) l h = inl h

      were : (v q : ℕ) → q < 2 → is_among v (queue (record m { high = ws }) q) ≡ true → is_among v (queue m q) ≡ true
      were v zero l h = rw e (or_right (w == v) (is_among v ws) h)
      were v (suc q) l h = h

      steps : (store : Store) → m.halted ≡ false → m.current ≡ None
          → has_saved (claims_of m) w ≡ true
          → step (record { control = m; store = store })
          ≡ Ok (
            record {
              control = begun (record m { high = ws }) w 0 (word_at store (word_below w 1));
              store = store;
            },
            ran.Dispatch,
          )
      steps store a b h = high_step w ws e store a b h

  low_popped : (w : ℕ) (ws : List ℕ) → m.interrupted ≡ None → m.high ≡ [] → m.low ≡ w ∷ ws → process ≡ w + 1
      → IsPopped m process
  low_popped w ws alone none e f =
      record {
        level = 1;
        small = omega arith;
        workspace = w;
        rest = record m { low = ws };
        first = rw (none, e) refl;
        process_is = f;
        own = rw e (or_left (w == w) (is_among w ws) (eq-eqb w w refl));
        still = still;
        were = were;
        registers = refl;
        interrupted = refl;
        waiting = refl;
        links = refl;
        kind = refl;
        halted = refl;
        steps = steps;
      }
    where
      still : (v q : ℕ) → q < 2 → is_among v (queue m q) ≡ true
          → (is_among v (queue (record m { low = ws }) q) ≡ true) ⊎ ((v ≡ w) × (q ≡ 1))
      still v zero l h = inl h
      still v (suc q) l h = of (of_queue v w ws (rw e at h))
        where
          of : (is_among v ws ≡ true) ⊎ (v ≡ w) → (is_among v ws ≡ true) ⊎ ((v ≡ w) × (suc q ≡ 1))
          of (inl g) = inl g
          of (inr g) = inr (g, omega arith)

      were : (v q : ℕ) → q < 2 → is_among v (queue (record m { low = ws }) q) ≡ true → is_among v (queue m q) ≡ true
      were v zero l h = h
      were v (suc q) l h = rw e (or_right (w == v) (is_among v ws) h)

      steps : (store : Store) → m.halted ≡ false → m.current ≡ None
          → has_saved (claims_of m) w ≡ true
          → step (record { control = m; store = store })
          ≡ Ok (
            record {
              control = begun (record m { low = ws }) w 1 (word_at store (word_below w 1));
              store = store;
            },
            ran.Dispatch,
          )
      steps store a b h = low_step w ws none e store a b alone h

  pub popped : next_queued m.interrupted m.high m.low ≡ Some process → IsPopped m process
  popped h = by m.interrupted refl m.high refl m.low refl h
    where
      same : {a b : ℕ} → Some a ≡ Some b → a ≡ b
      same e = cc

      by : (t : Option Suspended) → m.interrupted ≡ t → (high : List ℕ) → m.high ≡ high → (low : List ℕ)
          → m.low ≡ low → next_queued t high low ≡ Some process → IsPopped m process
      by t i (w ∷ ws) e low f g = high_popped w ws e (same (sym g))
      by None i [] e (w ∷ ws) f g = low_popped w ws i e f (same (sym g))
      by None i [] e [] f g = cc
      by (Some t) i [] e low f g = cc
