use Rattle.std.proofs.Common.{◌≡◌, ◌∙◌, ℕ, ap, arith, inl, inr, length, refl, sym}
use Rattle.std.specs.Prelude.{slice_get}
use Rattle.std.proofs.lemmas.Bool.{cases_eq, false≢true}
use Rattle.std.proofs.lemmas.Option.{same_Some, slice_get_read}
use Rattle.tcertify.specs.declared.node.Node.{Node}
use Rattle.tverdict.specs.Verdicts.{had_many, is_crowded_at}
use Rattle.tverdict.proofs.endings.first_too_full.Goals as goal
use Rattle.tverdict.proofs.endings.first_too_full.Goals.{else-had_many-via-then-had_many+else-is_crowded}
use Rattle.tverdict.proofs.endings.first_too_full.Goals.{else-had_many-via-else-had_many}

pub returns-then-is_crowded-clause-some : goal.returns-then-is_crowded-clause-some
returns-then-is_crowded-clause-some c =
    let nodes = c.args.nodes.now in let k = c.loop-number.number in let node = c.index-nodes-number.result in (
      node,
      slice_get_read nodes (length nodes) k node refl c.loop-number-test.true c.index-nodes-number.is,
      sym c.had_many.ensures ∙ c.if-had_many.true,
    )

pub loop-number-preserved : goal.loop-number-preserved
loop-number-preserved c = λ n x low there many.
    let nodes = c.args.nodes.now in let k = c.loop-number.number in let node = c.index-nodes-number.result in
    let at = slice_get_read nodes (length nodes) k node refl c.loop-number-test.true c.index-nodes-number.is in
    elim (cases_eq n k) [
      | inl e ↦
          let same : node ≡ x = same_Some node x (sym at ∙ ap (λ (j : ℕ). slice_get nodes j) (sym e) ∙ there) in
          elim c.else-had_many.branch [
            | else-had_many-via-then-had_many+else-is_crowded w ↦
                ap (λ (j : ℕ). is_crowded_at c.args.lodgings.now j) e ∙ sym w.is_crowded.ensures ∙ w.if-is_crowded.false
            | else-had_many-via-else-had_many w ↦
                absurd (false≢true (sym w.if-had_many.false ∙ c.had_many.ensures
                ∙ ap (λ (y : Node). had_many y) same ∙ many))
          ]
      | inr other ↦ c.loop-number.invariant n x (omega (arith, low, other)) there many
    ]
