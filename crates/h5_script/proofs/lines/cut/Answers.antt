use Rattle.std.proofs.Common.{◌≡◌, false, eqb, take_all, arith}
use Rattle.std.proofs.lemmas.Bool.Decides.{nat_tests}
use Rattle.std.proofs.lemmas.List.Elements.{All-more}
use Rattle.h5_script.proofs.lines.cut.Goals as goal

pub loop-k-preserved : goal.loop-k-preserved
loop-k-preserved c = All-more (λ b. eqb b 10 ≡ false) c.args.bytes.now c.loop-k.k 0 c.loop-k-test.true c.loop-k.invariant (grind (arith, nat_tests))

pub returns : goal.returns
returns c = rw (take_all _ _ c.loop-k-test.false) at c.loop-k.invariant
