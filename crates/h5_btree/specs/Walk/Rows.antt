-- What the rows of a tree are, from one of its rows down (File Format Specification 3.0, section III.A.1).
use Rattle.std.specs.Prelude.{◌≡◌, ◌≢◌, ℕ, ◌++◌, ◌∷◌, ◌⊎◌, List, []}
use Rattle.std.specs.List.{AllByRecursion}
use Rattle.h5_model.specs.Format.Rows.{Reading, AreRows, first_or_undefined, next_row, leaves, nodes}
use Rattle.h5_model.specs.Faults.TreeFaults.{last_or_undefined}
use Rattle.h5_btree.specs.Walk.Forms.{TreeForm}
use Rattle.h5_btree.specs.Walk.Below.{reading_in, IsStanding, AreBelow}

-- a node of a row does not name its neighbours
abbrev pub IsMisnamed : Reading → List ℕ → ℕ → Type 0
IsMisnamed V row at = (before : List ℕ) × (after : List ℕ) × (row ≡ before ++ at ∷ after)
    × (((V at).left ≢ last_or_undefined before) ⊎ ((V at).right ≢ first_or_undefined after))

-- the nodes of a row, of this level, and what stands below them
pub record IsLevel (image : List ℕ) (form : TreeForm) (level : ℕ) (row : List ℕ) : Type 0 where
  pub here : AllByRecursion (IsStanding image form level) row
  pub below : AreBelow image form level (next_row (reading_in image form) row)

-- the rows from a root of this level down, and what stands below them
pub record AreAllRows (image : List ℕ) (form : TreeForm) (root level : ℕ) (all below : List ℕ) : Type 0 where
  pub rows : AreRows (reading_in image form) level (root ∷ [])
  pub owns : all ≡ nodes (reading_in image form) level (root ∷ [])
  pub leads : below ≡ leaves (reading_in image form) level (root ∷ [])
