-- The order of a group's names and keys (File Format Specification 3.0, sections III.A.1 and III.B).
use Rattle.std.specs.Prelude.{◌≡◌, ℕ, List, ◌∷◌, ◌++◌, map}
use Rattle.std.specs.List.{AllByRecursion, Contains}
use Rattle.h5_model.specs.Format.Addresses.{SymbolTable}
use Rattle.h5_model.specs.Format.Superblock.{leaf_k}
use Rattle.h5_model.specs.Format.Heap.{segment_of}
use Rattle.h5_model.specs.Format.Nodes.{node_at}
use Rattle.h5_model.specs.Format.Symbols.{symbols_at, link_of}
use Rattle.h5_model.specs.Format.Links.{Ascend, IsOrdered}
use Rattle.h5_model.specs.Faults.TreeFaults.{all_entries, NameBreach, KeyBreach}
use Rattle.h5_model.specs.declared.open_fault.Cause.{Cause}
use Rattle.h5_model.specs.declared.open_fault.Cause.TheVariants.{NameOrder, KeyOrder}
use Rattle.h5_group.specs.Nodes.Trees.{kind_in}

-- The names in these symbol nodes ascend, and stand between the keys of each of these nodes.
pub record AreNamesOrdered (image segment nodes symbol_nodes : List ℕ) : Type 0 where
  pub ascending : Ascend (map (link_of segment) (all_entries image symbol_nodes))
  pub ordered : AllByRecursion (λ at. IsOrdered (node_at image (kind_in image)) (symbols_at image (leaf_k image)) segment (node_at image (kind_in image) at)) nodes

-- the names in the symbol nodes before this one ascend
abbrev pub AscendsBefore : List ℕ → List ℕ → List ℕ → ℕ → Type 0
AscendsBefore image segment symbol_nodes at = (before : List ℕ) × (after : List ℕ) × (symbol_nodes ≡ before ++ at ∷ after)
    × Ascend (map (link_of segment) (all_entries image before))

-- a name in the symbol node at the address is out of order, and none in those before it is; or all names ascend, and a key or a name
-- below the node at the address is out of order
abbrev pub IsOrderRefused : List ℕ → SymbolTable → List ℕ → List ℕ → Cause → ℕ → Type 0
IsOrderRefused image table nodes symbol_nodes NameOrder address = Contains symbol_nodes address
    × AscendsBefore image (segment_of image table.heap) symbol_nodes address × NameBreach image table.tree table.heap address
IsOrderRefused image table nodes symbol_nodes KeyOrder address = Contains nodes address
    × Ascend (map (link_of (segment_of image table.heap)) (all_entries image symbol_nodes)) × KeyBreach image table.heap address
IsOrderRefused image table nodes symbol_nodes _ address = ⊥
