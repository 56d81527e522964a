use Rattle.std.proofs.Common.{◌≡◌, ◌/◌, ◌≤◌, length, drop}
use Rattle.h5_model.specs.Tree.Places.{cells}
use Rattle.h5_layout.proofs.LocateLaws.{index_from}
use Rattle.h5_layout.proofs.locate.write_index.Given as goal

-- the numbers from the k-th dimension on are written
abbrev pub invariant-loop-k : goal.invariant-loop-k
invariant-loop-k l = record {
  within : l.k ≤ length l.sizes;
  room : length l.index ≡ length l.sizes;
  rest : l.rest ≡ l.place / cells (drop l.k l.sizes);
  index : drop l.k l.index ≡ index_from l.sizes l.sizes l.place l.k;
}

abbrev pub decreases-loop-k : goal.decreases-loop-k
decreases-loop-k l = l.k
