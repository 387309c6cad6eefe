use Rattle.std.proofs.Common.{◌<◌, ap, arith, length, refl, subst, sym, List}
use Rattle.std.proofs.lemmas.Option.{slice_get_read}
use Rattle.std.specs.Prelude.{Contains}
use Rattle.tcertify.specs.declared.lead.Lead.{Lead}
use Rattle.tverdict.specs.Stepping.{KeepsTold}
use Rattle.tverdict.proofs.Keeping.{keeps_twice}
use Rattle.tverdict.proofs.machine.Machine.lead_on.Goals as goal
use Rattle.tverdict.proofs.machine.Machine.lead_on.Goals.{in-Some+in_ok-lead_by, in_default}

pub lead_by-requires-clause-lead : goal.lead_by-requires-clause-lead
lead_by-requires-clause-lead c =
    let ns = c.loop-index.self.nodes.items in let at = c.index-in-loop-index.result.now in
    let low : c.args.node < length ns =
    omega (arith, c.if-len-node.false, c.len.ensures, ap length c.loop-index.invariant.more.nodes) in (
      at,
      slice_get_read ns (length ns) c.args.node at refl low c.index-in-loop-index.ensures,
      subst (λ (ls : List Lead). Contains ls c.in-Some.lead.now) c.deref.ensures.value
          (c.loop-index.index, c.in-Some.ensures.lookup.3.0, sym c.in-Some.ensures.lookup.1),
    )

pub lead_by-requires-clause-told : goal.lead_by-requires-clause-told
lead_by-requires-clause-told c =
    let (plan, at, among, t) = c.requires in (plan, at, among, c.loop-index.invariant.told plan at among t)

pub loop-index-preserved : goal.loop-index-preserved
loop-index-preserved c = elim c.match-get.branch [
  | in-Some+in_ok-lead_by w ↦
      subst (KeepsTold c.args.number c.args.node c.args.self.now) (sym w.self-is)
      (keeps_twice c.args.number c.args.node c.args.self.now c.loop-index.self w.lead_by.new.self
      c.loop-index.invariant w.in_ok-lead_by.ensures)
  | in_default w ↦
      subst (KeepsTold c.args.number c.args.node c.args.self.now) (sym w.self-is) c.loop-index.invariant
]
