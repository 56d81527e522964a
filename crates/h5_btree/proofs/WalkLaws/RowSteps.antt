-- From one row of a tree to the next.
use Rattle.std.proofs.Common.{◌≡◌, ℕ, suc, ◌-◌, ◌≤◌, List, [], ◌∷◌, ◌++◌, ap, ◌∙◌, append_assoc, arith}
use Rattle.std.specs.List.{AllByRecursion}
use Rattle.h5_bytes.specs.Bytes.{undefined_address}
use Rattle.h5_model.specs.Format.Rows.{IsRow, AreRows, next_row, row_below, leaves, nodes}
use Rattle.h5_model.specs.Faults.TreeFaults.{SiblingBreach}
use Rattle.h5_laws.proofs.Rows.{row_after}
use Rattle.h5_btree.specs.Walk.Forms.{TreeForm, kind_of}
use Rattle.h5_btree.specs.Walk.Below.{reading_in, IsStanding, IsInner}
use Rattle.h5_btree.specs.Walk.Rows.{IsLevel, IsMisnamed}

-- how far the rows are listed: this row, of this height, is next
pub record AreListed (image : List ℕ) (form : TreeForm) (root level height : ℕ) (done row : List ℕ) : Type 0 where
  pub read : IsLevel image form height row
  pub high : height ≤ level
  pub owns : done ++ nodes (reading_in image form) height row ≡ nodes (reading_in image form) level (root ∷ [])
  pub leads : leaves (reading_in image form) height row ≡ leaves (reading_in image form) level (root ∷ [])
  pub rows : AreRows (reading_in image form) height row → AreRows (reading_in image form) level (root ∷ [])
  pub depth : row_below (reading_in image form) (level - height) (root ∷ []) ≡ row

pub stand_all : (image : List ℕ) (form : TreeForm) (level : ℕ) (row : List ℕ) → AllByRecursion (IsInner image form level) row → AllByRecursion (IsStanding image form level) row
stand_all image form level [] all = tt
stand_all image form level (x ∷ xs) all = (all.0.stands, stand_all image form level xs all.1)

module _ (image : List ℕ) (form : TreeForm) (root level : ℕ) where
  -- a row that is listed, and the one below it
  pub listed_next : (height : ℕ) (done row : List ℕ) → AreListed image form root level (suc height) done row → IsRow (reading_in image form) (suc height) undefined_address row
      → AreListed image form root level height (done ++ row) (next_row (reading_in image form) row)
  listed_next height done row listed is =
      let V = reading_in image form in
      let high = listed.high in
      let one : level - height ≡ suc (level - suc height) = omega arith in
      record {
        read = record { here = stand_all image form height (next_row V row) listed.read.below.0; below = listed.read.below.1 };
        high = omega arith;
        owns = append_assoc done row (nodes V height (next_row V row)) ∙ listed.owns;
        leads = listed.leads;
        rows = λ are. listed.rows (is, are);
        depth = ap (λ (d : ℕ). row_below V d (root ∷ [])) one ∙ row_after V (level - suc height) (root ∷ []) ∙ ap (next_row V) listed.depth;
      }

  -- a node that does not name its neighbours
  pub sibling_breach : (height : ℕ) (done row : List ℕ) (at : ℕ) → IsStanding image form level root → AreListed image form root level height done row
      → IsMisnamed (reading_in image form) row at → SiblingBreach image (kind_of image form) root at
  sibling_breach height done row at stands listed (before, after, is, wrong) =
      let high = listed.high in
      let top = stands.high in
      (level - height, before, after, omega arith, listed.depth ∙ is, wrong)
