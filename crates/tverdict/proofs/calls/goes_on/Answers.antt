use Rattle.std.proofs.Common.{◌≡◌, ◌∙◌, ◌↔◌, ℕ, Bool, true, false, IsTrue, Some, inl, inr, ap, length, refl, sym}
use Rattle.std.specs.Prelude.{slice_get}
use Rattle.std.proofs.lemmas.Option.{same_Some, slice_get_read}
use Rattle.tcertify.specs.declared.node.Node.{Node}
use Rattle.tcertify.specs.declared.process.Process.{Process}
use Rattle.tverdict.specs.Still.{GoesOnAt, goes_on}
use Rattle.tverdict.proofs.calls.goes_on.Goals as goal

-- what is told of the stand of a process is told of the process
told : (node : Node) (k : ℕ) (known : Process) (b : Bool) → slice_get node.processes.items.items k ≡ Some known
    → goes_on known.stand ≡ b → IsTrue b ↔ GoesOnAt node k
told node k known b has e = (
  λ t. record { known = known; has = has; goes = e ∙ t },
  λ h.
      let same : known ≡ h.known = same_Some known h.known (sym has ∙ h.has) in
      sym e ∙ ap (λ (p : Process). goes_on p.stand) same ∙ h.goes,
)

pub returns-in-Runs : goal.returns-in-Runs
returns-in-Runs c =
    let known = c.index.result.now in let ps = c.args.node.now.processes.items.items in
    let goes : goes_on known.stand ≡ true = elim c.in-Runs.is [ inl e ↦ ap goes_on e.1 | inr e ↦ ap goes_on e.1 ] in
    told c.args.node.now c.args.process known true
    (slice_get_read ps (length ps) c.args.process known refl c.requires c.index.ensures) goes

pub returns-in-Absent : goal.returns-in-Absent
returns-in-Absent c =
    let known = c.index.result.now in let ps = c.args.node.now.processes.items.items in
    let rests : goes_on known.stand ≡ false =
    elim c.in-Absent.is [
      | inl e ↦ ap goes_on e
      | inr a ↦ elim a [
        | inl e ↦ ap goes_on e.1
        | inr b ↦ elim b [
          | inl e ↦ ap goes_on e.1
          | inr d ↦ elim d [
            | inl e ↦ ap goes_on e.1
            | inr l ↦ elim l [ inl e ↦ ap goes_on e.2 | inr e ↦ ap goes_on e ]
          ]
        ]
      ]
    ] in
    told c.args.node.now c.args.process known false
    (slice_get_read ps (length ps) c.args.process known refl c.requires c.index.ensures) rests
