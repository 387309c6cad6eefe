use Rattle.std.proofs.Common.{◌≡◌, ◌∙◌, ◌<◌, ap, refl, sym, length, take, arith, None}
use Rattle.std.proofs.lemmas.List.{get_or_read}
use Rattle.tproc.specs.Entries.{present}
use Rattle.tproc.proofs.Entries.{closed_up_all, closed_up_none, closed_up_one, closed_up_past}
use Rattle.tproc.proofs.process_table.close_up.Goals as goal
use Rattle.tproc.proofs.process_table.close_up.Goals.{in-Some, in_default}

pub loop-place-init : goal.loop-place-init
loop-place-init c = (closed_up_none c.args.entries.now.items, refl)

pub index_mut-requires : goal.index_mut-requires
index_mut-requires c =
    omega (arith, c.loop-place.invariant.0.before, c.loop-place.invariant.0.size, c.loop-place-test.true)

pub overflow_add-kept : goal.overflow_add-kept
overflow_add-kept c =
    omega (
      arith,
      c.loop-place.invariant.0.before,
      c.loop-place-test.true,
      c.len-place-end.ensures,
      c.len-place-end.type_inv,
    )

pub loop-place-preserved : goal.loop-place-preserved
loop-place-preserved c =
    let es = c.loop-place.entries.items in
    let h = c.loop-place.invariant.0 in
    let there : c.loop-place.place < length es =
    omega (arith, h.size, c.loop-place-test.true, c.len-place-end.ensures) in
    let read = get_or_read es _ _ there c.index.ensures None in
    elim c.match-index.branch [
      | in-Some w ↦
          rw (w.entries-is, w.kept-is)
          (closed_up_one _ _ es _ w.in-Some.entry h there (sym read ∙ w.in-Some.is), c.loop-place.invariant.1)
      | in_default w ↦
          rw (w.entries-is, w.kept-is)
          (closed_up_past _ _ es _ h there (sym read ∙ w.in_default.is), c.loop-place.invariant.1)
    ]

-- at the end all are those that are kept
all_kept : (c : goal.After-truncate)
    → (present (take c.loop-place.kept c.loop-place.entries.items) ≡ present c.args.entries.now.items)
    × (length (present c.args.entries.now.items) ≡ c.loop-place.kept)
all_kept c =
    let h = c.loop-place.invariant.0 in
    closed_up_all _ _ c.loop-place.entries.items _ h
    (omega (arith, h.size, c.loop-place-test.false, c.len-place-end.ensures))

pub returns-clause-same : goal.returns-clause-same
returns-clause-same c = ap present c.truncate.ensures.items ∙ (all_kept c).0

pub returns-clause-room : goal.returns-clause-room
returns-clause-room c = omega (arith, c.truncate.ensures.len, (all_kept c).1, c.requires.few)
