use Rattle.std.proofs.Common.{refl, sym, ap, ◌∙◌, subst, arith, length, true≢false}
use Rattle.std.specs.HashMap.{get}
use Rattle.std.specs.Prelude.{nat_eq}
use Rattle.std.proofs.lemmas.Option.{slice_get_read}
use Rattle.tcertify.specs.Processes.{name_of}
use Rattle.tcertify.proofs.Indexing.{IsNext, behind_falls, behind_inside, behind_next, first_next, next_inside}
use Rattle.tcertify.proofs.process_table.Processes.find.Goals as goal

pub loop-next-init : goal.loop-next-init
loop-next-init c =
    let a = c.args.self.now in let name = name_of 0 c.args.process.now in
    subst (IsNext a.items.items name)
    (sym (c.copied-next.ensures ∙ c.get.ensures.value ∙ ap (get nat_eq a.latest) c.fingerprint.ensures))
    (first_next a.items.items (get nat_eq a.latest) a.earlier.items name a.indexed)

pub index-requires : goal.index-requires
index-requires c =
    let inside = next_inside c.args.self.now.items.items (name_of 0 c.args.process.now) c.loop-next.next
    c.in-Some.candidate c.loop-next.invariant c.in-Some.is in
    omega (arith, inside)

pub returns-then-is_named_as : goal.returns-then-is_named_as
returns-then-is_named_as c =
    let ps = c.args.self.now.items.items in let k = c.in-Some.candidate in (
      c.index.result.now,
      slice_get_read ps (length ps) k c.index.result.now refl
          (next_inside ps (name_of 0 c.args.process.now) c.loop-next.next k c.loop-next.invariant c.in-Some.is)
          c.index.ensures,
      c.is_named_as.ensures.yes c.if-is_named_as.true,
    )

pub index-next-requires : goal.index-next-requires
index-next-requires c =
    let a = c.args.self.now in
    let inside = behind_inside a.items.items (get nat_eq a.latest) a.earlier.items (name_of 0 c.args.process.now)
    c.loop-next.next c.in-Some.candidate a.indexed c.loop-next.invariant c.in-Some.is in
    omega (arith, inside)

pub loop-next-smaller : goal.loop-next-smaller
loop-next-smaller c =
    let a = c.args.self.now in
    behind_falls a.items.items (get nat_eq a.latest) a.earlier.items (name_of 0 c.args.process.now) c.loop-next.next
    c.in-Some.candidate c.index-next.result.now a.indexed c.loop-next.invariant c.in-Some.is c.index-next.ensures

pub loop-next-preserved : goal.loop-next-preserved
loop-next-preserved c =
    let a = c.args.self.now in
    behind_next a.items.items (get nat_eq a.latest) a.earlier.items (name_of 0 c.args.process.now) c.loop-next.next
    c.in-Some.candidate c.index-next.result.now a.indexed c.loop-next.invariant c.in-Some.is c.index-next.ensures
    c.index.result.now c.index.ensures
    (λ same. absurd (true≢false (sym (c.is_named_as.ensures.no same) ∙ c.if-is_named_as.false)))
