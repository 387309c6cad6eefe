use Rattle.std.proofs.Common.{◌≡◌, ◌∙◌, ◌++◌, ◌∷◌, [], ℕ, ap, arith, sym, List, map}
use Rattle.std.specs.List.{range_with_len}
use Rattle.std.proofs.lemmas.List.FromFn.{map-range_with_len_more}
use Rattle.tword.specs.Limits.{most_processes}
use Rattle.tfollow.specs.declared.berth.Berth.{Berth}
use Rattle.tverdict.specs.Lodging.{first_berth}
use Rattle.tverdict.proofs.lodging.first_berths.Goals as goal

pub loop-place-preserved : goal.loop-place-preserved
loop-place-preserved c =
    c.in_ok-push.ensures.items
    ∙ ap (λ (bs : List Berth). bs ++ first_berth c.args.count c.loop-place.place ∷ []) c.loop-place.invariant
    ∙ sym (map-range_with_len_more (first_berth c.args.count) 0 c.loop-place.place c.loop-place.place (omega arith))

pub returns : goal.returns
returns c =
    let all : c.loop-place.place ≡ most_processes =
    omega (arith, c.loop-place-test.false, c.loop-place.auto.place-end) in
    c.loop-place.invariant ∙ ap (λ (k : ℕ). map (first_berth c.args.count) (range_with_len 0 k)) all
