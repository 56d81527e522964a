-- The keys of all nodes of level 0 are those of their leaves.
use Rattle.std.proofs.Common.{ℕ, zero, suc, List}
use Rattle.std.specs.List.{AllByRecursion}
use Rattle.h5_model.specs.Format.Rows.{next_row, row_below}
use Rattle.h5_btree.specs.Walk.Forms.{TreeForm, IsKeyed}
use Rattle.h5_btree.specs.Walk.Below.{reading_in}
use Rattle.h5_btree.specs.Walk.Keyed.{AreKeyedBelow}
use Rattle.h5_btree.proofs.OrderLaws.BetweenLaws.{each_down, each_up}

pub keyed_row : (image : List ℕ) (form : TreeForm) (level : ℕ) (row : List ℕ) → AllByRecursion (λ at. AreKeyedBelow image form level (reading_in image form at)) row
    → AllByRecursion (λ at. IsKeyed form (reading_in image form at)) (row_below (reading_in image form) level row)
keyed_row image form zero row all = all
keyed_row image form (suc level) row all =
    keyed_row image form level (next_row (reading_in image form) row)
    (each_up (λ at. AreKeyedBelow image form level (reading_in image form at)) (λ n. (reading_in image form n).children) row all)

-- and where they are, those below each node of a row are
pub row_keyed : (image : List ℕ) (form : TreeForm) (level : ℕ) (row : List ℕ) → AllByRecursion (λ at. IsKeyed form (reading_in image form at)) (row_below (reading_in image form) level row)
    → AllByRecursion (λ at. AreKeyedBelow image form level (reading_in image form at)) row
row_keyed image form zero row all = all
row_keyed image form (suc level) row all =
    each_down (λ at. AreKeyedBelow image form level (reading_in image form at)) (λ n. (reading_in image form n).children) row
    (row_keyed image form level (next_row (reading_in image form) row) all)
