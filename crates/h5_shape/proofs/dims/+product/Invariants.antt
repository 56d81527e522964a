use Rattle.std.proofs.Common.{length}
use Rattle.h5_shape.proofs.dims.+product.Given as goal

abbrev pub decreases-product : goal.decreases-product
decreases-product l = length l.sizes.now
