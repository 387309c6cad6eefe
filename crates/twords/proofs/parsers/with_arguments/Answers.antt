use Rattle.std.proofs.Common.{◌≡◌, List, [], arith, drop, drop_of_length-le, subst}
use Rattle.twords.specs.CommandLines.{with_rows}
use Rattle.twords.specs.declared.table.Argument.{Argument}
use Rattle.twords.proofs.WordParsers.{Lacks, lacks_next, lacks_none}
use Rattle.twords.proofs.parsers.with_arguments.Goals as goal

pub loop-argument-preserved : goal.loop-argument-preserved
loop-argument-preserved c = λ s h.
    lacks_next (with_rows s c.args.arguments.now) c.args.arguments.now c.loop-argument.argument-index _
    c.loop-argument.parser c.argument_of.result _ (omega (arith, c.loop-argument-test.true)) c.in_ok-parser.ensures
    c.argument_of.ensures.rule c.argument_of.ensures.local (c.loop-argument.invariant s h)

pub returns : goal.returns
returns c = λ s h.
    let none : drop c.loop-argument.argument-index c.args.arguments.now ≡ [] =
    drop_of_length-le c.args.arguments.now (omega (arith, c.loop-argument-test.false)) in
    lacks_none (with_rows s c.args.arguments.now) c.loop-argument.parser
    (subst (λ (rest : List Argument). Lacks (with_rows s c.args.arguments.now) rest c.loop-argument.parser) none
    (c.loop-argument.invariant s h))
