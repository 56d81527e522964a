-- Keys of trees of chunks, as they are written (File Format Specification 3.0, section III.A.1).
use Rattle.std.specs.Prelude.{ℕ, ◌+◌, List, [], ◌∷◌, ◌++◌}
use Rattle.h5_bytes.specs.Numbers.{middle, word, zeros}
use Rattle.h5_model.specs.Format.Bodies.{words}

-- how many bytes the chunk has that the key is of, and its offsets
pub record OffsetKey : Type 0 where
  pub bytes : ℕ
  pub offsets : List ℕ

-- the size, no filter, the offsets, and that of the element
abbrev pub chunk_key : OffsetKey → List ℕ
chunk_key key = middle key.bytes ++ (zeros 4 ++ (words key.offsets ++ word 0))

-- the index in the array of a cell with this index in the chunk at these offsets
abbrev pub index_from : List ℕ → List ℕ → List ℕ
index_from [] inner = []
index_from (o ∷ os) [] = []
index_from (o ∷ os) (i ∷ is) = (o + i) ∷ index_from os is
