use Rattle.std.proofs.Common.{refl, length}
use Rattle.std.proofs.lemmas.Option.{slice_get_read}
use Rattle.tcertify.proofs.Indexing.{indexed_set}
use Rattle.std.specs.HashMap.{get}
use Rattle.std.specs.Prelude.{nat_eq}
use Rattle.tcertify.proofs.process_table.Processes.set_stand.Goals as goal

pub returns : goal.returns
returns c =
    let items = c.args.self.now.items.items in let process = c.index_mut-process.result.now in
    record {
      process = process;
      there = slice_get_read items (length items) c.args.number process refl c.requires
          c.index_mut-process.ensures.value;
      set = refl;
      place = refl;
    }

pub invariant_of-self-clause-indexed : goal.invariant_of-self-clause-indexed
invariant_of-self-clause-indexed c =
    let old = c.args.self.now in let items = old.items.items in let process = c.index_mut-process.result.now in
    indexed_set items c.args.number process _ (get nat_eq old.latest) old.earlier.items
    (slice_get_read items (length items) c.args.number process refl c.requires c.index_mut-process.ensures.value) refl
    old.indexed
