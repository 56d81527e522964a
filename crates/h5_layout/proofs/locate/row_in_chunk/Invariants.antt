use Rattle.std.proofs.Common.{◌≡◌, ◌-◌, ◌/◌, ◌<◌, ◌≤◌, length, drop, get_or}
use Rattle.h5_model.specs.Tree.Grid.{corner_of}
use Rattle.h5_model.specs.Tree.Places.{cells, index_of}
use Rattle.h5_layout.specs.ChunkCells.{left_in_row}
use Rattle.h5_layout.proofs.LocateLaws.{first_from, inner_from}
use Rattle.h5_layout.proofs.locate.row_in_chunk.Given as goal

-- what the dimensions from the k-th on say
abbrev pub invariant-loop-k : goal.invariant-loop-k
invariant-loop-k l = record {
  within : l.k ≤ length l.sizes;
  rest : l.rest ≡ l.place / cells (drop l.k l.sizes);
  stride : l.stride ≡ cells (drop l.k l.chunk);
  inner : l.inner ≡ inner_from l.sizes l.chunk l.place l.k;
  step : l.step ≡ cells (drop l.k l.sizes);
  first : l.corner ≡ first_from l.sizes l.chunk l.place l.k;
  alone : l.k ≡ length l.sizes → l.cells ≡ 1;
  left : l.k < length l.sizes → l.cells ≡ left_in_row l.sizes l.chunk l.place;
  scalar : l.k ≡ length l.sizes → l.column ≡ 0;
  column : l.k < length l.sizes → l.column ≡ get_or (corner_of l.chunk (index_of l.sizes l.place)) (length l.sizes - 1) 0;
}

abbrev pub decreases-loop-k : goal.decreases-loop-k
decreases-loop-k l = l.k
