use Rattle.std.proofs.Common.{◌≡◌, length, arith, rules}
use Rattle.h5_heap.proofs.units.Units.new.Goals as goal

pub set_free-requires-clause-inside : goal.set_free-requires-clause-inside
set_free-requires-clause-inside c =
    let long : length c.as_mut_slice.result.now ≡ c.div_ceil.result = search rules in
    (c.args.len, omega (arith, c.ranges.len.fits), omega (arith, long, c.div_ceil.ensures), c.requires.inside)
