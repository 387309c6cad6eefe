use Rattle.std.proofs.Common.{◌≡◌, ◌<◌, ◌+◌, sym, ap, ◌∙◌, subst, [], ◌∷◌, ◌++◌, take, length, Ok, arith}
use Rattle.std.proofs.lemmas.List.{take_more}
use Rattle.toml.specs.View.{view, items_view}
use Rattle.twiring.specs.Wirings.{IsWiringAnswer}
use Rattle.twiring.specs.WiringParts.{table_in, more_in}
use Rattle.twiring.proofs.WiringAnswers.{answer-one_more, more_in-last}
use Rattle.twiring.proofs.wiring.tables.Goals as goal

pub loop-value-preserved : goal.loop-value-preserved
loop-value-preserved g c =
    let part = table_in (g.T.Section.told c.args.first) in
    let i = c.loop-value.value-index in
    let xs = c.args.array.now in
    let x = c.value-item.result in
    let l : i < length xs = omega arith in
    let items : take (i + 1) xs ≡ take i xs ++ x ∷ [] = take_more xs i x l
    ∙ ap (λ v. take i xs ++ v ∷ []) (sym c.value-item.is) in
    let more = ap (λ vs. more_in part (Ok []) (items_view vs)) items ∙ more_in-last part (Ok []) (take i xs) x in
    subst (λ p. IsWiringAnswer p c.one_more-found.result) (sym more)
    (answer-one_more (more_in part (Ok []) (items_view (take i xs))) c.loop-value.found (part (view x))
    c.table.result c.one_more-found.result
    c.loop-value.invariant c.table.ensures c.one_more-found.ensures)
