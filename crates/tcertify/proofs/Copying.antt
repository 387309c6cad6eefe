-- Spans that are written, or copied, as a program does.
use Rattle.std.proofs.Common.{◌≡◌, ap, subst, Bool, true, List, Result, Ok, Err}
use Rattle.tcode.specs.declared.instruction.Operation.TheVariants.{Move}
use Rattle.tcpu.specs.declared.registers.Registers.{Registers}
use Rattle.tcpu.specs.declared.registers.Next.TheVariants.{Go}
use Rattle.tcpu.specs.Effects.{local_or_left}
use Rattle.tcpu.specs.Operations.{operation_effect}
use Rattle.tcpu.specs.Outcomes.{Outcome, pop}
use Rattle.tword.specs.declared.span.Span.{Span}
use Rattle.tword.specs.Stores.{Store}
use Rattle.tword.specs.Touches.{Reads, Writes}
use Rattle.tprocesses.specs.Parts.{Reason, Part, Doing, gives}
use Rattle.tprocesses.specs.Performing.{Performed, copied, perform}
use Rattle.tprocesses.specs.Touching.{Site, part_of, put, replaced, touch, word_count, word_number, write}
use Rattle.tprocesses.specs.Values.{Free}
use Rattle.tcertify.specs.declared.stored.StoredWord.{StoredWord}
use Rattle.tcertify.specs.declared.stored.Words.{Words}
use Rattle.tcertify.specs.Spans.{cells_from, span_cells}
use Rattle.tcertify.specs.Words.{Runs, site_of}
use Rattle.tcertify.proofs.Running.{runs_given, runs_on, runs_stop}

-- the same bytes
cells_same : (w t : Words) (span : Span) → t.items.items ≡ w.items.items → span_cells t span ≡ span_cells w span
cells_same w t span e =
    ap (λ (ws : List StoredWord). cells_from ws (word_number span.start) (word_count span)) e

module _ (w : Words) (to : Span) (new : Store) where
  -- what follows the touch
  abbrev sets : Store → Doing
  sets words = put (site_of w) Free to (replaced to words new)

  pub writes_none : (v : Words) (why : Reason) → Runs (touch (site_of w) Writes to) w (Err why) v
      → Runs (write (site_of w) to new) w (Err why) v
  writes_none v why h = runs_stop (touch (site_of w) Writes to) sets w v why h

  pub writes_all : (t v : Words) → Runs (touch (site_of w) Writes to) w (Ok (span_cells w to)) t
      → site_of t ≡ site_of w → t.items.items ≡ w.items.items
      → Runs (put (site_of t) Free to (replaced to (span_cells t to) new)) t (Ok tt) v
      → Runs (write (site_of w) to new) w (Ok tt) v
  writes_all t v h same items changed =
      runs_on (touch (site_of w) Writes to) sets w t v (span_cells w to) (Ok tt) h
      (subst (λ (l : Store). Runs (sets l) t (Ok tt) v) (cells_same w t to items)
      (subst (λ (s : Site). Runs (put s Free to (replaced to (span_cells t to) new)) t (Ok tt) v) same changed))

module _ (w : Words) (from to : Span) where
  -- what follows the read
  abbrev lays : Store → Doing
  lays words = write (site_of w) to (part_of from words)

  pub copies_none : (v : Words) (why : Reason) → Runs (touch (site_of w) Reads from) w (Err why) v
      → Runs (copied (site_of w) from to) w (Err why) v
  copies_none v why h = runs_stop (touch (site_of w) Reads from) lays w v why h

  pub copies : (t v : Words) (r : Result (Unit {0}) Reason)
      → Runs (touch (site_of w) Reads from) w (Ok (span_cells w from)) t → site_of t ≡ site_of w
      → t.items.items ≡ w.items.items → Runs (write (site_of t) to (part_of from (span_cells t from))) t r v
      → Runs (copied (site_of w) from to) w r v
  copies t v r h same items written =
      runs_on (touch (site_of w) Reads from) lays w t v (span_cells w from) r h
      (subst (λ (l : Store). Runs (lays l) t r v) (cells_same w t from items)
      (subst (λ (s : Site). Runs (write s to (part_of from (span_cells t from))) t r v) same written))

  -- the copy behind both touches
  pub copies_all : (t u v : Words) → Runs (touch (site_of w) Reads from) w (Ok (span_cells w from)) t
      → site_of t ≡ site_of w → t.items.items ≡ w.items.items
      → Runs (touch (site_of t) Writes to) t (Ok (span_cells t to)) u → site_of u ≡ site_of t
      → u.items.items ≡ t.items.items
      → Runs (put (site_of u) Free to (replaced to (span_cells u to) (part_of from (span_cells u from)))) u (Ok tt) v
      → Runs (copied (site_of w) from to) w (Ok tt) v
  copies_all t u v read same items taken alike kept changed =
      copies t v (Ok tt) read same items
      (writes_all t to (part_of from (span_cells t from)) u v taken alike kept
      (subst (λ (l : Store). Runs (put (site_of u) Free to (replaced to (span_cells u to) (part_of from l))) u
      (Ok tt) v) (cells_same t u from kept) changed))

-- the row of `move`
module _ (w : Words) (known : List Bool) (r before : Registers) where
  abbrev source : Span
  source = record { start = r.c; size = r.a }

  abbrev target : Span
  target = record { start = r.b; size = r.a }

  abbrev row : Part (Performed Outcome)
  row = perform (site_of w) known (local_or_left (operation_effect Move r) Move before)

  abbrev moved : Performed Outcome
  moved = record { value = (pop (pop (pop r)), Go); known = true }

  pub moves_not : (v : Words) (why : Reason) → Runs (copied (site_of w) source target) w (Err why) v
      → Runs row w (Err why) v
  unfolding operation_effect
  moves_not v why h = runs_stop (copied (site_of w) source target) (λ _. gives moved) w v why h

  pub moves_bytes : (v : Words) → Runs (copied (site_of w) source target) w (Ok tt) v → Runs row w (Ok moved) v
  unfolding operation_effect
  moves_bytes v h =
      runs_on (copied (site_of w) source target) (λ _. gives moved) w v v tt (Ok moved) h (runs_given moved v)
