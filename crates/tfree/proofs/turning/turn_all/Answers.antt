use Rattle.std.proofs.Common.{◌≡◌, ◌∙◌, arith, length}
use Rattle.tfree.proofs.Rests.{staged_turned, staged_made, staged_refused}
use Rattle.tfree.proofs.Turnings.{shares_stay, written_back}
use Rattle.tfree.proofs.turning.turn_all.Goals as goal

pub returns-clause-turned : goal.returns-clause-turned
returns-clause-turned g c =
    let n : length c.turn_in_stages.new.endings ≡ c.in_ok-endings.endings.len =
    omega (arith, c.turn_in_stages.auto.endings, c.as_mut_slice.ensures.len) in
    let e : c.as_slice.result.now ≡ c.turn_in_stages.new.endings = c.as_slice.ensures.value ∙ written_back _ _ _ n in
    staged_turned c.args.turns c.args.slice _ _ _ c.turn_in_stages.ensures c.refusal.result (rw e at c.refusal.ensures)

pub returns-clause-made : goal.returns-clause-made
returns-clause-made g c =
    let n : length c.turn_in_stages.new.endings ≡ c.in_ok-endings.endings.len =
    omega (arith, c.turn_in_stages.auto.endings, c.as_mut_slice.ensures.len) in
    let e : c.as_slice.result.now ≡ c.turn_in_stages.new.endings = c.as_slice.ensures.value ∙ written_back _ _ _ n in
    staged_made c.args.turns c.args.slice _ _ _ c.turn_in_stages.ensures c.refusal.result (rw e at c.refusal.ensures)

pub returns-clause-refused : goal.returns-clause-refused
returns-clause-refused g c =
    let n : length c.turn_in_stages.new.endings ≡ c.in_ok-endings.endings.len =
    omega (arith, c.turn_in_stages.auto.endings, c.as_mut_slice.ensures.len) in
    let e : c.as_slice.result.now ≡ c.turn_in_stages.new.endings = c.as_slice.ensures.value ∙ written_back _ _ _ n in
    staged_refused c.args.turns c.args.slice _ _ _ c.turn_in_stages.ensures c.refusal.result
    (rw e at c.refusal.ensures)

pub returns-clause-same : goal.returns-clause-same
returns-clause-same g c =
    shares_stay c.turn_in_stages.ensures.made c.args.slice c.args.workers.now c.turn_in_stages.new.endings
    c.turn_in_stages.new.workers c.turn_in_stages.ensures.each
