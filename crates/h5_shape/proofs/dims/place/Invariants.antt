use Rattle.std.proofs.Common.{◌≡◌, ◌+◌, ◌*◌, drop}
use Rattle.h5_model.specs.Tree.Places.{cells, place_of, IsInside}
use Rattle.h5_shape.proofs.dims.place.Given as goal

-- the place so far, and what the rest of the index adds
abbrev pub invariant-loop-k : goal.invariant-loop-k
invariant-loop-k l = record {
  inside : IsInside (drop l.k l.sizes) (drop l.k l.index);
  sum : l.place * cells (drop l.k l.sizes) + place_of (drop l.k l.sizes) (drop l.k l.index) ≡ place_of l.sizes l.index;
}
