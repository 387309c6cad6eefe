use Rattle.std.proofs.Common.{ℕ, sym, ap, add-zero, flat_map}
use Rattle.tword.specs.Stores.{as_cells, hiding_from}
use Rattle.tfiles.specs.Texts.{is_pending}
use Rattle.tfiles.proofs.Told.{goes_on-as, goes_on-start, goes_on-next, goes_on-end}
use Rattle.tjson.specs.Runs.{cell_digits}
use Rattle.tjson.proofs.Memories.{digits_end, digits_next}
use Rattle.tjson.proofs.memory.put_digits.Goals as goal

pub loop-i-init : goal.loop-i-init
loop-i-init g c =
    goes_on-as
    (goes_on-start c.args.out.now
    (flat_map cell_digits (hiding_from (is_pending c.args.pending.now) c.args.address (as_cells c.args.bytes.now))))
    (ap (λ (a : ℕ). flat_map cell_digits (hiding_from (is_pending c.args.pending.now) a (as_cells c.args.bytes.now)))
    (sym (add-zero c.args.address)))

pub loop-i-preserved : goal.loop-i-preserved
loop-i-preserved g c =
    goes_on-next _ _ c.loop-i.invariant
    (digits_next (is_pending c.args.pending.now) c.args.address c.loop-i.i c.args.bytes.now c.loop-i-test.true)
    c.put_cell.ensures

pub returns : goal.returns
returns g c =
    goes_on-end c.loop-i.invariant
    (digits_end (is_pending c.args.pending.now) _ c.loop-i.i c.args.bytes.now c.loop-i-test.false)
