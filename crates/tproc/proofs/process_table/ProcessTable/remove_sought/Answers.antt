use Rattle.std.proofs.Common.{None, refl, arith}
use Rattle.std.proofs.lemmas.List.{length-set}
use Rattle.tproc.specs.Entries.{present, IsEntryAt}
use Rattle.tproc.proofs.Entries.{emptied, emptied_length, once_each, unfound_stays}
use Rattle.tproc.proofs.process_table.ProcessTable.remove_sought.Goals as goal

pub overflow_sub-self : goal.overflow_sub-self
overflow_sub-self c =
    let es = c.self.inside.entries.items in
    let at : IsEntryAt es c.in-Some.place c.args.process = rw c.as_slice.ensures.value at c.in-Some.ensures.found in
    omega (arith, c.self.invariant.2, emptied_length es c.in-Some.place c.args.process at)

pub invariant_of-self : goal.invariant_of-self
invariant_of-self c =
    let es = c.self.inside.entries.items in
    let at : IsEntryAt es c.in-Some.place c.args.process = rw c.as_slice.ensures.value at c.in-Some.ensures.found in
    let less = emptied_length es c.in-Some.place c.args.process at in
    let long = c.self.invariant.1 in
    let count = c.self.invariant.2 in (
      c.self.invariant.0,
      rw (length-set es c.in-Some.place None) long,
      omega (arith, count, less),
      omega (arith, c.self.invariant.3),
    )

pub returns-in-Some : goal.returns-in-Some
returns-in-Some c =
    let es = c.self.inside.entries.items in
    let at : IsEntryAt es c.in-Some.place c.args.process = rw c.as_slice.ensures.value at c.in-Some.ensures.found in
    let apart = rw (← c.self.view_is) at c.requires in
    rw (← c.self.view_is) (emptied es c.in-Some.place c.args.process (once_each (present es) apart) at)

pub returns-in_default : goal.returns-in_default
returns-in_default c =
    let es = c.self.inside.entries.items in
    let none = rw c.as_slice.ensures.value at (c.in_default.ensures.none refl) in
    rw (← c.self.view_is) (unfound_stays (present es) c.args.process none)
