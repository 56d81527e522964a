-- The open views of a session listed by the arrays of which they select cells (selections: HDF5 dataspace reference, H5Sselect_hyperslab).
use Rattle.std.specs.Prelude.{◌≡◌, ℕ, ◌≤◌, ◌==◌, List, [], ◌∷◌, map}
use Rattle.std.specs.List.{filter}
use Rattle.h5_file.specs.declared.by_array.ArrayView.{ArrayView}
use Rattle.h5_file.specs.declared.views.KeptView.{KeptView}

-- the numbers of the views of an array, as they are held
abbrev pub numbers_on : ℕ → List KeptView → List ℕ
numbers_on object views = map (λ (v : KeptView). v.number) (filter (λ (v : KeptView). v.object == object) views)

-- the numbers that are listed under it
abbrev pub listed_under : ℕ → List ArrayView → List ℕ
listed_under object listed = map (λ (v : ArrayView). v.number) (filter (λ (v : ArrayView). v.object == object) listed)

-- the numbers of the arrays, the first from `low` on, do not fall
abbrev pub DoNotFall : ℕ → List ArrayView → Type 0
DoNotFall low [] = Unit {0}
DoNotFall low (v ∷ vs) = (low ≤ v.object) × DoNotFall v.object vs

-- just the views that are held are listed: by the numbers of their arrays, and under each array as they are held
pub record AreByArray (listed : List ArrayView) (views : List KeptView) : Type 0 where
  pub ordered : DoNotFall 0 listed
  pub each : (object : ℕ) → listed_under object listed ≡ numbers_on object views
