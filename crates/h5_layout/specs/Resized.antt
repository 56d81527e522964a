-- An array in chunks that was given other sizes where it stands (File Format Specification 3.0, sections III.A.1 and IV.A.2.b).
use Rattle.std.specs.Prelude.{◌≡◌, ℕ, ◌*◌, Option, Some, None, List, length}
use Rattle.h5_model.specs.Edits.Applied.{with_sizes}
use Rattle.h5_model.specs.Format.Described.{Described}
use Rattle.h5_space.specs.Space.{Space}
use Rattle.h5_header.specs.Listed.{Listed}
use Rattle.h5_layout.specs.ArrayEdits.{IsArrayMoved, described_in}
use Rattle.h5_layout.specs.Data.{dataset_told}
use Rattle.h5_layout.specs.Kept.{smaller_sizes}
use Rattle.h5_layout.specs.Trimmed.{AreOutside, IsTrimmed}
use Rattle.h5_layout.specs.declared.trimmed.Outside.{Outside}

-- what an array stores outside the cells that it has with its sizes and with these, where that was looked at; or it stores nothing there
abbrev pub IsLookedAt : List ℕ → Described → List ℕ → Option Outside → Type 0
IsLookedAt image a sizes None = IsTrimmed image a (smaller_sizes a.sizes sizes)
IsLookedAt image a sizes (Some outside) = AreOutside image a (smaller_sizes a.sizes sizes) outside

-- how many calls of `give` it may need to take that away
abbrev pub calls_outside : Option Outside → ℕ
calls_outside None = 0
calls_outside (Some outside) = 16 * length outside.lost.offsets

-- The array has these sizes, and its cells stay by their index; the others are the fill. It stores nothing outside its sizes.
pub record IsArrayResized (old new : Space) (m m' : Listed) (sizes : List ℕ) : Type 0 where
  pub moved : IsArrayMoved old new m m'
  pub told : described_in new.bytes m' ≡ record (described_in old.bytes m) { sizes = sizes }
  pub dataset : dataset_told new.bytes (described_in new.bytes m') ≡ with_sizes sizes (dataset_told old.bytes (described_in old.bytes m))
  pub trimmed : IsTrimmed new.bytes (described_in new.bytes m') sizes
