use Rattle.std.proofs.Common.{arith}
use Rattle.std.proofs.lemmas.Bool.Decides.{nat_tests}
use Rattle.h5_command.proofs.Numbers.{number_upto_step}
use Rattle.h5_command.proofs.number.number_upto.Goals as goal

pub returns-in_err-checked_mul : goal.returns-in_err-checked_mul
returns-in_err-checked_mul c =
    rw c.from_residual.ensures
    (number_upto_step c.args.most c.loop-digit.number c.loop-digit.digit-index c.args.word.now c.loop-digit-test.true c.loop-digit.invariant.number
    (grind (arith, nat_tests)))

pub returns-in_err-number : goal.returns-in_err-number
returns-in_err-number c =
    rw c.from_residual-in_err-number.ensures
    (number_upto_step c.args.most c.loop-digit.number c.loop-digit.digit-index c.args.word.now c.loop-digit-test.true c.loop-digit.invariant.number
    (grind (arith, nat_tests)))

pub returns-then-number-most : goal.returns-then-number-most
returns-then-number-most c =
    number_upto_step c.args.most c.loop-digit.number c.loop-digit.digit-index c.args.word.now c.loop-digit-test.true c.loop-digit.invariant.number
    (grind (arith, nat_tests))
