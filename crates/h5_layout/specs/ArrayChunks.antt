-- The chunks of an array by its header, without its image (File Format Specification 3.0, sections III.A.1 and IV.A.2.i).
use Rattle.std.specs.Prelude.{◌≡◌, ℕ, ◌*◌, ◌^◌, ◌<◌, ◌≤◌, true, ℤ, Option, List, length}
use Rattle.std.specs.List.{AllByRecursion}
use Rattle.h5_model.specs.Format.Limits.{most_chunk_bytes}
use Rattle.h5_model.specs.Format.Fixed.{Fixed, IsFixed, fits}
use Rattle.h5_model.specs.Format.Layout.{InChunks, Layout}
use Rattle.h5_model.specs.Format.Described.{Described}
use Rattle.h5_model.specs.Tree.Places.{cells}
use Rattle.h5_chunks.specs.Shapes.{AreChunkSizes}

abbrev pub IsChunked : Layout → Type 0
IsChunked layout = (chunk : List ℕ) × (root : Option ℕ) × (layout ≡ InChunks chunk root)

-- the type of the cells, their fill, the sizes of a chunk, and the root of the tree, where there is one
pub record ArrayChunks : Type 0 where
  pub fixed : Fixed
  pub fill : ℤ
  pub chunk : List ℕ
  pub root : Option ℕ

-- The sizes are such as chunks have, none has more than 2^30 bytes, and the fill is a value of the type.
pub record AreSoundChunks (k : ArrayChunks) : Type 0 where
  pub sizes : AreChunkSizes k.chunk
  pub short : AllByRecursion (λ size. size < 2 ^ 32) k.chunk
  pub small : cells k.chunk * (k.fixed).size ≤ most_chunk_bytes
  pub sound : IsFixed k.fixed
  pub of_type : fits k.fixed k.fill ≡ true

-- The array is in these chunks.
pub record IsInChunksOf (a : Described) (k : ArrayChunks) : Type 0 where
  pub fixed : k.fixed ≡ a.fixed
  pub fill : k.fill ≡ a.fill
  pub layout : a.layout ≡ InChunks k.chunk k.root
  pub rank : length k.chunk ≡ length a.sizes
