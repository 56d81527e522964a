use Rattle.std.proofs.Common.{length}
use Rattle.h5_shape.proofs.dims.+positive_product.Given as goal

abbrev pub decreases-positive_product : goal.decreases-positive_product
decreases-positive_product l = length l.sizes.now
