-- Values that a caller lends (HDF5 dataset reference, H5Dwrite: the type in memory and the buffer).
use Rattle.std.specs.Prelude.{◌≡◌, ◌==◌, ◌%◌, ◌^◌, ◌<◌, ℕ, ℤ, Bool, true, List, length, slice_index}
use Rattle.h5_model.specs.Format.Fixed.{Fixed, IsFixed}
use Rattle.h5_model.specs.Scripts.Answers.{stored_values}
use Rattle.h5_layout.specs.declared.buffer.Lent.{Lent}
use Rattle.h5_layout.specs.declared.buffer.Lent.TheVariants.{Numbers, Cells}

-- bytes of a whole number of cells
abbrev pub are_whole_cells : Fixed → List ℕ → Bool
are_whole_cells t bytes = length bytes % t.size == 0

-- numbers, or the values of cells
abbrev pub values_lent : Lent → List ℤ
values_lent (Numbers values) = values.now
values_lent (Cells t bytes) = stored_values t bytes.now

-- bytes in memory
pub record AreInMemory (bytes : List ℕ) : Type 0 where
  pub few : length bytes < 2 ^ 64
  pub low : (i : ℕ) → slice_index bytes i < 256

-- bytes are those of whole cells
pub record AreWholeCells (t : Fixed) (bytes : List ℕ) : Type 0 where
  pub type : IsFixed t
  pub whole : are_whole_cells t bytes ≡ true
  pub memory : AreInMemory bytes

abbrev pub AreValuesLent : Lent → Type 0
AreValuesLent (Numbers values) = Unit {0}
AreValuesLent (Cells t bytes) = AreWholeCells t bytes.now

-- there are so many of them
pub record AreValuesCounted (lent : Lent) (count : ℕ) : Type 0 where
  pub lent_so : AreValuesLent lent
  pub count_is : count ≡ length (values_lent lent)
