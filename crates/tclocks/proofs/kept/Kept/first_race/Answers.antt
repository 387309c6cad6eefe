use Rattle.std.proofs.Common.{◌∙◌, sym, ap, List}
use Rattle.std.specs.Option.{option_or}
use Rattle.std.proofs.lemmas.List.Folds.{find-append}
use Rattle.tclocks.specs.declared.step.Access.{Access}
use Rattle.tclocks.specs.Places.{races, first_race}
use Rattle.tclocks.specs.Kept.{unless_none}
use Rattle.tclocks.proofs.Briefly.{briefly-two}
use Rattle.tclocks.proofs.kept.Kept.first_race.Goals as goal

pub returns : goal.returns
returns c brief lists =
    c.or.ensures ∙ ap (λ o. option_or o c.race-2.result) c.race.ensures
    ∙ ap (λ o. option_or (first_race c.args.access.step.agent c.args.clock.now c.args.access.mode
    (unless_none c.in_ok-first.first)) o) c.race-2.ensures
    ∙ sym (find-append (races c.args.access.step.agent c.args.clock.now c.args.access.mode)
    (unless_none c.in_ok-first.first) (unless_none c.in_ok-first.second))
    ∙ ap (λ (list : List Access). first_race c.args.access.step.agent c.args.clock.now c.args.access.mode list)
    (sym ((briefly-two c.args.self c.in_ok-first.first c.in_ok-first.second
    (sym c.two.ensures ∙ c.in_ok-first.was)).same lists))
