use Rattle.std.proofs.Common.{◌≡◌, ◌<◌, ◌≤◌, ℕ, List, [], arith, length, slice_index_or, ap, ◌∙◌}
use Rattle.std.proofs.lemmas.List.{get_or_default}
use Rattle.tclocks.specs.Checks.{Check}
use Rattle.tclocks.proofs.ClockLemmas.{CountThemselves-set}
use Rattle.tclocks.proofs.race_check.RaceCheck.join.Goals as goal

pub invariant_of-self : goal.invariant_of-self
invariant_of-self c =
    let within : c.args.agent < length c.self.inside.clocks.items =
    omega (arith, c.requires.agent, ap (λ (check : Check). length check.clocks) c.self.view_is) in
    let before : c.index_mut.result.now ≡ slice_index_or c.self.inside.clocks.items c.args.agent [] =
    c.index_mut.ensures.value
    ∙ get_or_default c.self.inside.clocks.items c.args.agent c.index_mut.result.now [] within in
    CountThemselves-set _ _ _ c.self.invariant
    (let longer : length c.index_mut.result.now ≤ length c.join.new.self = c.join.ensures.longer in
    omega (arith, longer, ap (λ (list : List ℕ). length list) before))
