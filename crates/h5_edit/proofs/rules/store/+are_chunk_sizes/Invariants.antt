use Rattle.std.proofs.Common.{length}
use Rattle.h5_edit.proofs.rules.store.+are_chunk_sizes.Given as goal

abbrev pub decreases-are_chunk_sizes : goal.decreases-are_chunk_sizes
decreases-are_chunk_sizes l = length l.chunk.now
