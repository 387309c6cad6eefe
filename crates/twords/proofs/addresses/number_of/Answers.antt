use Rattle.std.proofs.Common.{arith}
use Rattle.twords.proofs.Digits.{more, small}
use Rattle.twords.proofs.addresses.number_of.Goals as goal

pub overflow_mul-value : goal.overflow_mul-value
overflow_mul-value c =
    omega (
      arith,
      small c.loop-digit.value c.loop-digit.digit-index c.loop-digit.invariant.2
          (omega (arith, c.loop-digit-test.true, c.if-digits-gt-DIGITS.false)),
    )

pub overflow_add-value : goal.overflow_add-value
overflow_add-value c =
    omega (
      arith,
      small c.loop-digit.value c.loop-digit.digit-index c.loop-digit.invariant.2
          (omega (arith, c.loop-digit-test.true, c.if-digits-gt-DIGITS.false)),
      c.in_ok-value.ensures.value.0,
      c.in_ok-value.ensures.value.1,
    )

pub loop-digit-preserved : goal.loop-digit-preserved
loop-digit-preserved c =
    more c.args.digits.now c.loop-digit.digit-index c.loop-digit.value c.in_ok-value.field-0 c.from.result
    c.loop-digit-test.true c.loop-digit.invariant c.from.ensures c.in_ok-value.ensures.value.0
    c.in_ok-value.ensures.value.1
