-- The rows of a tree in the plain layout from some level up, where the level of the root is at most 64.
use Rattle.std.specs.Prelude.{ℕ, ◌-◌, ◌*◌, List}
use Rattle.h5_model.specs.Format.Nodes.{Kind}
use Rattle.h5_btree.specs.declared.write.child.Child.{Child}
use Rattle.h5_btree.specs.Writing.Written.{rows_bytes, level_over}

-- the rows from this level up, over these children
unfoldable pub rows_from : {K : Type 0} → Kind → (K → List ℕ) → K → ℕ → ℕ → List (Child K) → List ℕ
rows_from kind bytes first level at children = rows_bytes kind bytes first (64 - level) level at children

-- how many levels the root lies above this one
unfoldable pub levels_from : ℕ → ℕ → ℕ → ℕ
levels_from k level n = level_over (64 - level) (2 * k) n
