-- What is wrong with the holds of a run.
-- Source: own choice; what is a fault is said in `trounds`, `specs/Rounds`.
use Rattle.std.specs.Prelude.{ℕ, ◌≡◌, not, nat_le, nat_lt, List, [], ◌++◌, length, None, is_some, ◌↔◌}
use Rattle.tword.specs.Limits.{most_holds}
use Rattle.tplan.specs.declared.event.Hold.{Hold}
use Rattle.tplan.specs.declared.plan.Wire.{Wire}
use Rattle.tplan.specs.Wires.{far_end}
use Rattle.tnet.specs.Net.{NetState}
use Rattle.trounds.specs.Rounds.{bad_hold}
use Rattle.tcheck.specs.declared.flaws.Place.TheVariants as place
use Rattle.tcheck.specs.declared.flaws.Plenty.TheVariants as plenty
use Rattle.tcheck.specs.declared.flaws.Flaw.TheVariants as flaw
use Rattle.tcheck.specs.declared.flaws.Wrong.{Wrong}
use Rattle.tcheck.specs.Wrongs.{each_from, wrong_if}

-- what is wrong with a hold: there is no wire at its end, or it begins behind its end
abbrev pub one_hold_wrongs : List Wire → ℕ → Hold → List Wrong
one_hold_wrongs wires number h =
    wrong_if (not (is_some (far_end wires h.«end»))) (place.Hold number) (flaw.NoWire h.«end»)
    ++ wrong_if (not (nat_le h.from h.until)) (place.Hold number) (flaw.EndsEarly h.from h.until)

-- what is wrong with holds, where there are these wires
abbrev pub hold_wrongs : List Wire → List Hold → List Wrong
hold_wrongs wires holds =
    wrong_if (nat_lt most_holds (length holds)) place.Net (flaw.TooMany plenty.Holds (length holds))
    ++ each_from (one_hold_wrongs wires) 0 holds

-- nothing is wrong with the holds of a net just where rounds do not refuse them
abbrev pub NoHoldIsRefused : List Hold → Type 0
NoHoldIsRefused holds =
    (net : NetState) → (hold_wrongs net.wires holds ≡ []) ↔ (bad_hold net holds ≡ None)
