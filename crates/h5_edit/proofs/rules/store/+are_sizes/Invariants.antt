use Rattle.std.proofs.Common.{length}
use Rattle.h5_edit.proofs.rules.store.+are_sizes.Given as goal

abbrev pub decreases-are_sizes : goal.decreases-are_sizes
decreases-are_sizes l = length l.sizes.now
