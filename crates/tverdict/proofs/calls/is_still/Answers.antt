use Rattle.std.proofs.Common.{◌≡◌, ◌∙◌, vec_len, true, false, sym, arith}
use Rattle.std.proofs.lemmas.Bool.{eqb-true, false≢true, not-true}
use Rattle.std.proofs.lemmas.List.{nil_from_length}
use Rattle.tverdict.proofs.calls.is_still.Goals as goal
use Rattle.tverdict.proofs.calls.is_still.Goals.{then-notes-len, else-notes-len, then-not-notes, else-not-notes}
use Rattle.tverdict.proofs.calls.is_still.Goals.{then-is_empty, else-is_empty, then-len-before, else-len-before}
use Rattle.tverdict.proofs.calls.is_still.Goals.{then-len-before-2, else-len-before-2}

-- each condition holds, the last one first
pub returns-then-node-population : goal.returns-then-node-population
returns-then-node-population c = (
  λ t.
      let node = c.args.node.now in let before = c.args.before in let notes = node.words.notes in
      let people : (node.population ≡ c.args.population) × (c.if-len-before.value ≡ true) =
      elim c.if-len-before-2.branch [
        | then-len-before-2 w ↦ (
          eqb-true _ _ (sym w.value-is ∙ c.if-node-population.true),
          w.if-len-before-2.true,
        )
        | else-len-before-2 w ↦
            absurd (false≢true (sym w.if-len-before-2.false ∙ sym w.value-is ∙ c.if-node-population.true))
      ] in
      let channels : (vec_len node.channels.items ≡ before.channels) × (c.if-is_empty.value ≡ true) =
      elim c.if-len-before.branch [
        | then-len-before w ↦ (
          sym w.len-then-len-before.ensures ∙ eqb-true _ _ (sym w.value-is ∙ people.1),
          w.if-len-before.true,
        )
        | else-len-before w ↦ absurd (false≢true (sym w.if-len-before.false ∙ sym w.value-is ∙ people.1))
      ] in
      let processes : (vec_len node.processes.items ≡ before.processes) × (c.if-not-notes.value ≡ true) =
      elim c.if-is_empty.branch [
        | then-is_empty w ↦ (
          sym w.len-then-is_empty.ensures ∙ eqb-true _ _ (sym w.value-is ∙ channels.1),
          w.if-is_empty.true,
        )
        | else-is_empty w ↦ absurd (false≢true (sym w.if-is_empty.false ∙ sym w.value-is ∙ channels.1))
      ] in
      let leads : (vec_len node.leads ≡ 0) × (c.if-notes-len.value ≡ true) =
      elim c.if-not-notes.branch [
        | then-not-notes w ↦ (
          eqb-true (vec_len node.leads) 0 (sym w.is_empty.ensures ∙ sym w.value-is ∙ processes.1),
          w.if-not-notes.true,
        )
        | else-not-notes w ↦ absurd (false≢true (sym w.if-not-notes.false ∙ sym w.value-is ∙ processes.1))
      ] in
      let noted : (notes.earlier ≡ vec_len notes.items) × (notes.is_lost ≡ false) =
      elim c.if-notes-len.branch [
        | then-notes-len w ↦ (w.if-notes-len.true ∙ c.len.ensures, not-true _ (sym w.value-is ∙ leads.1))
        | else-notes-len w ↦ absurd (w.if-notes-len.false (eqb-true _ _ (sym w.value-is ∙ leads.1)))
      ] in
      record {
        goes = c.goes_on.ensures.0 t;
        leads = nil_from_length node.leads.items (omega (arith, leads.0, node.leads.ok.0));
        earlier = omega (arith, noted.0, notes.items.ok.0);
        kept = noted.1;
        processes = omega (arith, processes.0, node.processes.items.ok.0);
        channels = omega (arith, channels.0, node.channels.items.ok.0);
        population = people.0;
      },
  λ h. c.goes_on.ensures.1 h.goes,
)
