use Rattle.std.proofs.Common.{length}
use Rattle.h5_layout.proofs.grid.+bytes_of.Given as goal

-- proposed from what the function passes where it calls itself
abbrev pub decreases-bytes_of : goal.decreases-bytes_of
decreases-bytes_of l = length l.chunk.now
