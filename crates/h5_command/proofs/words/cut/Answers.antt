use Rattle.std.proofs.Common.{◌≡◌, false, eqb, eq-eqb, take_all, arith}
use Rattle.std.proofs.lemmas.Bool.Decides.{nat_tests}
use Rattle.std.proofs.lemmas.List.{take_rest}
use Rattle.std.proofs.lemmas.List.Elements.{All-more}
use Rattle.std.proofs.lemmas.List.Splits.{slice_split_none}
use Rattle.h5_command.proofs.Splits.{slice_split_read}
use Rattle.h5_command.proofs.words.cut.Goals as goal

pub returns-then-byte-at-clause-parts : goal.returns-then-byte-at-clause-parts
returns-then-byte-at-clause-parts c =
    rw take_rest (slice_split_read c.args.at c.loop-k.k c.args.bytes.now c.loop-k-test.true (eq-eqb _ _ c.if-byte-at.true) c.loop-k.invariant)

pub loop-k-preserved : goal.loop-k-preserved
loop-k-preserved c = All-more (λ b. eqb b c.args.at ≡ false) c.args.bytes.now c.loop-k.k 0 c.loop-k-test.true c.loop-k.invariant (grind (arith, nat_tests))

pub returns-clause-parts : goal.returns-clause-parts
returns-clause-parts c = slice_split_none _ _ (rw (take_all _ _ c.loop-k-test.false) at c.loop-k.invariant)
