use Rattle.std.proofs.Common.{◌≡◌, ℕ, take, drop}
use Rattle.std.specs.List.{AllByRecursion}
use Rattle.h5_bytes.specs.Bytes.{undefined_address}
use Rattle.h5_model.specs.Format.Rows.{IsRow}
use Rattle.h5_model.specs.Faults.TreeFaults.{last_or_undefined}
use Rattle.h5_btree.specs.Walk.Below.{reading_in, IsStanding}
use Rattle.h5_btree.proofs.walk.rows.check_siblings.Given as goal

abbrev pub invariant-loop-k : goal.invariant-loop-k
invariant-loop-k g l = record {
  before : l.left ≡ last_or_undefined (take l.k l.row);
  rows : (level : ℕ) → AllByRecursion (IsStanding l.image.bytes (g.T.Trees.form l.over) level) l.row → IsRow (reading_in l.image.bytes (g.T.Trees.form l.over)) level l.left (drop l.k l.row)
      → IsRow (reading_in l.image.bytes (g.T.Trees.form l.over)) level undefined_address l.row;
}
