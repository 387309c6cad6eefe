use Rattle.std.proofs.Common.{refl, length}
use Rattle.std.proofs.lemmas.Option.{slice_get_read}
use Rattle.tcertify.proofs.Indexing.{apart_set, indexed_set}
use Rattle.std.specs.HashMap.{get}
use Rattle.std.specs.Prelude.{nat_eq}
use Rattle.tcertify.proofs.process_table.Processes.enable.Goals as goal

pub returns-clause-ok : goal.returns-clause-ok
returns-clause-ok c =
    let items = c.args.self.now.items.items in let process = c.index_mut-process.result.now in
    record {
      process = process;
      now = record process { ports = c.add_port.new.ports };
      there = slice_get_read items (length items) c.args.number process refl c.requires
          c.index_mut-process.ensures.value;
      set = refl;
      same = refl;
      ports = (c.in_ok-add_port.ensures);
      place = refl;
    }

pub invariant_of-self : goal.invariant_of-self
invariant_of-self c =
    let old = c.args.self.now in let items = old.items.items in let process = c.index_mut-process.result.now in
    let there = slice_get_read items (length items) c.args.number process refl c.requires
    c.index_mut-process.ensures.value in
    record {
      apart = apart_set items c.args.number process _ there refl old.apart;
      indexed = indexed_set items c.args.number process _ (get nat_eq old.latest) old.earlier.items there refl
          old.indexed;
    }

pub invariant_of-self-2 : goal.invariant_of-self-2
invariant_of-self-2 c =
    let old = c.args.self.now in let items = old.items.items in let process = c.index_mut-process.result.now in
    let there = slice_get_read items (length items) c.args.number process refl c.requires
    c.index_mut-process.ensures.value in
    record {
      apart = apart_set items c.args.number process _ there refl old.apart;
      indexed = indexed_set items c.args.number process _ (get nat_eq old.latest) old.earlier.items there refl
          old.indexed;
    }
