use Rattle.std.proofs.Common.{◌≡◌, refl, sym, ap, ◌∙◌, length, Some}
use Rattle.std.proofs.lemmas.Option.{slice_get_read}
use Rattle.std.specs.HashMap.{get}
use Rattle.std.specs.Prelude.{nat_eq, option_map, slice_get}
use Rattle.tcertify.specs.declared.context.Context.{Context}
use Rattle.tcertify.specs.declared.process.Process.{Process}
use Rattle.tcertify.specs.declared.standing.Stand.TheVariants.{Runs}
use Rattle.tcertify.specs.Carried.{with_registers}
use Rattle.tcertify.proofs.Indexing.{apart_set, indexed_set}
use Rattle.tcertify.proofs.process_table.Processes.set_left.Goals.{in-Runs, in_default}
use Rattle.tcertify.proofs.process_table.Processes.set_left.Goals as goal

pub returns : goal.returns
returns c =
    let items = c.args.self.now.items.items in let q = c.index_mut-process.result.now in
    let ctx = c.args.context.now in let left = c.args.left in
    let there : slice_get items c.args.number ≡ Some q =
    slice_get_read items (length items) c.args.number q refl c.requires.there c.index_mut-process.ensures.value in
    let running : q.stand ≡ Runs ctx =
    (let e : Some q.stand ≡ Some (Runs ctx) = ap (option_map (λ (p : Process). p.stand)) (sym there) ∙ c.requires.runs
    in cc) in
    let is : c.match-process.process ≡ record q { stand = Runs (with_registers ctx left) } =
    elim c.match-process.branch [
      | in-Runs w ↦
          let same : w.in-Runs.now ≡ ctx =
          (let e : Runs w.in-Runs.now ≡ Runs ctx = sym w.in-Runs.is ∙ running in cc) in
          w.process-is ∙ (λ j. record q {
            stand = Runs (record (same j) {
              wptr = (ap (λ (x : Context). x.wptr) same ∙ sym c.requires.workspace) j;
              iptr = left.iptr;
              a = left.a;
              b = left.b;
              c = left.c;
            });
          })
      | in_default w ↦ absurd (w.in_default.not-Runs ctx running)
    ] in
    record { process = q; there = there; set = rw is refl; place = rw is refl }

pub invariant_of-self-clause-indexed : goal.invariant_of-self-clause-indexed
invariant_of-self-clause-indexed c =
    let items = c.args.self.now.items.items in let q = c.index_mut-process.result.now in
    let ctx = c.args.context.now in let left = c.args.left in
    let there : slice_get items c.args.number ≡ Some q =
    slice_get_read items (length items) c.args.number q refl c.requires.there c.index_mut-process.ensures.value in
    let running : q.stand ≡ Runs ctx =
    (let e : Some q.stand ≡ Some (Runs ctx) = ap (option_map (λ (p : Process). p.stand)) (sym there) ∙ c.requires.runs
    in cc) in
    let is : c.match-process.process ≡ record q { stand = Runs (with_registers ctx left) } =
    elim c.match-process.branch [
      | in-Runs w ↦
          let same : w.in-Runs.now ≡ ctx =
          (let e : Runs w.in-Runs.now ≡ Runs ctx = sym w.in-Runs.is ∙ running in cc) in
          w.process-is ∙ (λ j. record q {
            stand = Runs (record (same j) {
              wptr = (ap (λ (x : Context). x.wptr) same ∙ sym c.requires.workspace) j;
              iptr = left.iptr;
              a = left.a;
              b = left.b;
              c = left.c;
            });
          })
      | in_default w ↦ absurd (w.in_default.not-Runs ctx running)
    ] in
    rw is
    (indexed_set items c.args.number q (record q { stand = Runs (with_registers ctx left) })
    (get nat_eq c.args.self.now.latest) c.args.self.now.earlier.items there refl c.args.self.now.indexed)

pub invariant_of-self-clause-apart : goal.invariant_of-self-clause-apart
invariant_of-self-clause-apart c =
    let items = c.args.self.now.items.items in let q = c.index_mut-process.result.now in
    let ctx = c.args.context.now in let left = c.args.left in
    let there : slice_get items c.args.number ≡ Some q =
    slice_get_read items (length items) c.args.number q refl c.requires.there c.index_mut-process.ensures.value in
    let running : q.stand ≡ Runs ctx =
    (let e : Some q.stand ≡ Some (Runs ctx) = ap (option_map (λ (p : Process). p.stand)) (sym there) ∙ c.requires.runs
    in cc) in
    let is : c.match-process.process ≡ record q { stand = Runs (with_registers ctx left) } =
    elim c.match-process.branch [
      | in-Runs w ↦
          let same : w.in-Runs.now ≡ ctx =
          (let e : Runs w.in-Runs.now ≡ Runs ctx = sym w.in-Runs.is ∙ running in cc) in
          w.process-is ∙ (λ j. record q {
            stand = Runs (record (same j) {
              wptr = (ap (λ (x : Context). x.wptr) same ∙ sym c.requires.workspace) j;
              iptr = left.iptr;
              a = left.a;
              b = left.b;
              c = left.c;
            });
          })
      | in_default w ↦ absurd (w.in_default.not-Runs ctx running)
    ] in
    rw is
    (apart_set items c.args.number q (record q { stand = Runs (with_registers ctx left) }) there refl
    c.args.self.now.apart)
