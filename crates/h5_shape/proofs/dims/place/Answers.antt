use Rattle.std.proofs.Common.{arith}
use Rattle.h5_model.proofs.PlaceLaws.{place_step, place_below}
use Rattle.h5_shape.proofs.dims.place.Goals as goal

pub overflow_mul-place : goal.overflow_mul-place
overflow_mul-place c = omega (arith, place_step c.loop-k.place c.loop-k.k c.args.sizes.now c.args.index.now c.loop-k-test.true c.loop-k.invariant.inside, place_below c.args.sizes.now c.args.index.now c.requires.inside)

pub overflow_add-place : goal.overflow_add-place
overflow_add-place c = omega (arith, place_step c.loop-k.place c.loop-k.k c.args.sizes.now c.args.index.now c.loop-k-test.true c.loop-k.invariant.inside, place_below c.args.sizes.now c.args.index.now c.requires.inside)
