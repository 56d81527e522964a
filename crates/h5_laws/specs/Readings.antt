-- How many trees bytes may be read as (File Format Specification 3.0, section IV.A).
use Rattle.std.specs.Prelude.{◌≡◌, ℕ, List}
use Rattle.std.specs.Ordering.{nat_cmp}
use Rattle.std.specs.FinMap.{FinMap}
use Rattle.h5_model.specs.Format.Reads.{Reads}
use Rattle.h5_model.specs.Tree.Objects.{Tree}
use Rattle.h5_model.specs.Tree.Renumbered.{DifferInNumbers}

-- with the headers of its objects given by number, an image reads as one tree at most
abbrev pub ReadsOnce : Type 0
ReadsOnce = (image : List ℕ) (table : FinMap nat_cmp ℕ) (tree tree' : Tree) → Reads image table tree → Reads image table tree' → tree ≡ tree'

-- with the headers given by two tables, the trees differ in the numbers of their objects alone
abbrev pub ReadsAlike : Type 0
ReadsAlike = (image : List ℕ) (table table' : FinMap nat_cmp ℕ) (tree tree' : Tree) → Reads image table tree → Reads image table' tree'
    → DifferInNumbers tree tree'
