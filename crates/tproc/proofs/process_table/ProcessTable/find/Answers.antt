use Rattle.std.proofs.Common.{◌≡◌, ◌<◌, ◌∙◌, length, sym, None, false, arith}
use Rattle.std.proofs.lemmas.List.{get_or_read}
use Rattle.tword.specs.Claims.{has_saved}
use Rattle.tproc.specs.Machine.{workspace_of}
use Rattle.tproc.specs.Entries.{present, IsEntryAt}
use Rattle.tproc.proofs.Entries.{entry_read, found_at, once_each, unsaved_absent}
use Rattle.tproc.proofs.process_table.ProcessTable.find.Goals as goal

pub returns-then-is_of : goal.returns-then-is_of
returns-then-is_of c =
    let es = c.self.inside.entries.items in
    let within : c.noted-noted.result < length es = omega (arith, c.if-noted-len.true, c.len.ensures) in
    let at = entry_read es c.noted-noted.result c.args.process _ within c.index.ensures c.if-is_of.ensures in
    let apart = rw (← c.self.view_is) at c.requires.apart in
    rw (← c.self.view_is) (get_or_read es _ _ within c.index-then-is_of.ensures None
    ∙ sym (found_at es c.noted-noted.result c.args.process (once_each (present es) apart) at))

pub returns-then-not-has_saved : goal.returns-then-not-has_saved
returns-then-not-has_saved c =
    let unsaved : has_saved c.args.claimed.now.marks (workspace_of c.args.process) ≡ false =
    sym (rw c.workspace_of.ensures at c.if-not-has_saved.ensures) in
    rw (← c.self.view_is) (sym
    (unsaved_absent c.args.claimed.now.marks (present c.self.inside.entries.items) c.args.process
    (rw (← c.self.view_is) at c.requires.saved) unsaved))

pub returns : goal.returns
returns c =
    let es = c.self.inside.entries.items in
    let at : IsEntryAt es c.in_ok-place.place c.args.process =
    rw c.as_slice.ensures.value at c.in_ok-place.ensures.found in
    let apart = rw (← c.self.view_is) at c.requires.apart in
    rw (← c.self.view_is) (get_or_read es _ _ at.0 c.index-2.ensures None
    ∙ sym (found_at es c.in_ok-place.place c.args.process (once_each (present es) apart) at))
