use Rattle.h5_layout.proofs.GridLaws.{none_zero_kept}
use Rattle.h5_layout.proofs.index.ChunkIndex.step_row.Goals as goal

pub new-chunk-requires-clause-some : goal.new-chunk-requires-clause-some
new-chunk-requires-clause-some c = none_zero_kept _ _ c.self.view_is c.requires.kept.grid.sizes
