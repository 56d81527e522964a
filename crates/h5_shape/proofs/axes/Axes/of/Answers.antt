use Rattle.std.proofs.Common.{◌≡◌, length, true, arith}
use Rattle.std.proofs.lemmas.Bool.Decides.{nat_tests}
use Rattle.h5_model.specs.Views.Selection.{has_rank}
use Rattle.h5_model.proofs.RefusalLaws.{length-axes_of}
use Rattle.h5_shape.proofs.axes.Axes.of.Goals as goal

pub returns-clause-rank : goal.returns-clause-rank
returns-clause-rank c =
    let lists = c.args.lists.now in
    let stride : length lists.stride ≡ length lists.start = let same : length c.stride.result.now ≡ length c.start-rank.result.now = omega (arith, c.if-stride-rank.false) in rw (c.stride.ensures, c.start-rank.ensures) at same in
    let count : length lists.count ≡ length lists.start = let same : length c.count.result.now ≡ length c.start-rank.result.now = omega (arith, c.if-count-rank.false) in rw (c.count.ensures, c.start-rank.ensures) at same in
    let block : length lists.block ≡ length lists.start = let same : length c.block.result.now ≡ length c.start-rank.result.now = omega (arith, c.if-block-rank.false) in rw (c.block.ensures, c.start-rank.ensures) at same in
    let even : has_rank (length lists.start) lists ≡ true = grind (arith, nat_tests, stride, count, block) in
    rw (c.lend.ensures, length-axes_of (length lists.start) lists even) even
