use Rattle.std.proofs.Common.{◌≡◌, Some, inl, inr, arith, rules}
use Rattle.toml.specs.Data.{as_array}
use Rattle.toml.specs.View.{view, items_view}
use Rattle.twiring.proofs.WiringAnswers.{end_in-other}
use Rattle.twiring.proofs.wiring.end.Goals as goal

pub returns-in_default-as_slice : goal.returns-in_default-as_slice
returns-in_default-as_slice c =
    let seen : as_array (view c.args.value.now) ≡ Some (items_view c.as_slice.result.now) = search rules in
    end_in-other (view c.args.value.now) c.as_slice.result.now seen (inl (omega arith))

pub returns-in_default-as_slice-2 : goal.returns-in_default-as_slice-2
returns-in_default-as_slice-2 c =
    let seen : as_array (view c.args.value.now) ≡ Some (items_view c.as_slice.result.now) = search rules in
    end_in-other (view c.args.value.now) c.as_slice.result.now seen (inr (omega arith))
