-- The keys of the nodes of level 0 below a node are those of their leaves (File Format Specification 3.0, section III.A.1).
use Rattle.std.specs.Prelude.{ℕ, zero, suc, List}
use Rattle.std.specs.List.{AllByRecursion}
use Rattle.h5_model.specs.Format.Rows.{Node}
use Rattle.h5_btree.specs.Walk.Forms.{TreeForm, IsKeyed}
use Rattle.h5_btree.specs.Walk.Below.{reading_in}

abbrev pub AreKeyedBelow : List ℕ → TreeForm → ℕ → Node → Type 0
AreKeyedBelow image form zero node = IsKeyed form node
AreKeyedBelow image form (suc level) node = AllByRecursion (λ at. AreKeyedBelow image form level (reading_in image form at)) node.children
