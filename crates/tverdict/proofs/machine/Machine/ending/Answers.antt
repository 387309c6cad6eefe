use Rattle.std.proofs.Common.{◌∙◌, sym, ap, List}
use Rattle.std.specs.Prelude.{position}
use Rattle.tcertify.specs.declared.node.Node.{Node}
use Rattle.tverdict.specs.Verdicts.{changed_flags}
use Rattle.tverdict.proofs.Ended.{changed_at, ends_certified, had_many_at}
use Rattle.tverdict.proofs.machine.Machine.ending.Goals as goal

pub returns-in-Some : goal.returns-in-Some
returns-in-Some c = λ plan most f over. (
  f,
  had_many_at plan c.args.self.now f c.in-Some.node c.in-Some.ensures.some,
)

pub returns-in-Some-first_with_flags : goal.returns-in-Some-first_with_flags
returns-in-Some-first_with_flags c = λ plan most f over. (
  f,
  changed_at plan c.args.self.now f c.in-Some-first_with_flags.node
      (sym (ap (λ (xs : List Node). position changed_flags xs) c.as_slice.ensures.value)
      ∙ sym c.first_with_flags.ensures ∙ c.in-Some-first_with_flags.is),
)

pub returns-in-None-first_with_flags : goal.returns-in-None-first_with_flags
returns-in-None-first_with_flags c = λ plan most f over. ends_certified plan c.args.self.now f
    c.in-None.ensures.none
    (sym (ap (λ (xs : List Node). position changed_flags xs) c.as_slice.ensures.value)
    ∙ sym c.first_with_flags.ensures ∙ c.in-None-first_with_flags.is) over
