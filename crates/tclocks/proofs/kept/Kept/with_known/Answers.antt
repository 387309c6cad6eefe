use Rattle.std.proofs.Common.{◌∙◌, ◌∷◌, [], ◌++◌, sym, subst, List}
use Rattle.tclocks.specs.declared.step.Access.{Access}
use Rattle.tclocks.specs.Kept.{unless_none, IsBriefly, IsNotedBriefly, ReplacesAll}
use Rattle.tclocks.proofs.Briefly.{alone-noted, briefly-two, first-again, first-renumbered, second-again}
use Rattle.tclocks.proofs.Briefly.{second-renumbered, replaces-append, some-more}
use Rattle.tclocks.proofs.kept.Kept.with_known.Goals as goal

pub returns-then-replaces-2 : goal.returns-then-replaces-2
returns-then-replaces-2 c =
    let first : Access = c.in_ok-first.first in
    let second : Access = c.in_ok-first.second in
    let kept : IsBriefly (unless_none first ++ unless_none second) c.args.self =
    briefly-two c.args.self first second (sym c.two.ensures ∙ c.in_ok-first.was) in
    some-more c.alone.result (λ kept. IsBriefly (c.args.access ∷ []) kept)
    (λ kept. IsNotedBriefly c.args.clock.now c.args.access c.args.self kept)
    (λ after is. alone-noted _ _ _ _ is
    (λ lists. subst (λ (list : List Access). ReplacesAll c.args.clock.now c.args.access list) (sym (kept.same lists))
    (replaces-append _ _ _ _ (c.replaces.ensures c.if-replaces.true)
    (c.replaces-then-replaces.ensures c.if-replaces-2.true)))) c.alone.ensures

pub returns-then-not-races : goal.returns-then-not-races
returns-then-not-races c =
    first-again _ _ _ _ _ _ c.requires (sym c.two.ensures ∙ c.in_ok-first.was)
    (first-renumbered _ _ _ _ _ (c.is_again.ensures.mode c.if-is_again.true)
    (c.is_again.ensures.agent c.if-is_again.true) (sym c.two.ensures ∙ c.in_ok-first.was) c.with_numbers.ensures)
    (c.is_again.ensures.mode c.if-is_again.true) (c.is_again.ensures.agent c.if-is_again.true)
    (sym c.races.ensures ∙ c.if-not-races.true)

pub returns-then-not-races-2 : goal.returns-then-not-races-2
returns-then-not-races-2 c =
    second-again _ _ _ _ _ _ c.requires (sym c.two.ensures ∙ c.in_ok-first.was)
    (second-renumbered _ _ _ _ _ (c.is_again-2.ensures.mode c.if-is_again-2.true)
    (c.is_again-2.ensures.agent c.if-is_again-2.true) (sym c.two.ensures ∙ c.in_ok-first.was)
    c.with_numbers-then-not-races-2.ensures)
    (c.is_again-2.ensures.mode c.if-is_again-2.true) (c.is_again-2.ensures.agent c.if-is_again-2.true)
    (sym c.races-then-is_again-2.ensures ∙ c.if-not-races-2.true)
