-- The sizes of chunks (File Format Specification 3.0, section IV.A.2.i).
use Rattle.std.specs.Prelude.{ℕ, ◌<◌, ◌≤◌, List, length, slice_index_or}
use Rattle.h5_model.specs.Format.Limits.{most_dimensions}

-- at most 32, none of which is 0
pub record AreChunkSizes (sizes : List ℕ) : Type 0 where
  pub few : length sizes ≤ most_dimensions
  pub some : (d : ℕ) → d < length sizes → 1 ≤ slice_index_or sizes d 0
