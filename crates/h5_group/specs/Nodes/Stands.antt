-- Symbol nodes where they stand in an image, and the keys of nodes (File Format Specification 3.0, sections III.A.1 and III.B).
use Rattle.std.specs.Prelude.{ℕ, ◌+◌, ◌*◌, ◌≤◌, List, length, map}
use Rattle.h5_model.specs.Format.Superblock.{leaf_k}
use Rattle.h5_model.specs.Format.Nodes.{node_at}
use Rattle.h5_model.specs.Format.Symbols.{Entry, IsSymbolNode, symbol_bytes, symbols_at}
use Rattle.h5_model.specs.Format.Links.{offset_in}
use Rattle.h5_group.specs.Nodes.Trees.{kind_in}

-- a symbol node stands in the image at this address
pub record IsSymbolsAt (image : List ℕ) (at : ℕ) : Type 0 where
  pub formed : IsSymbolNode (leaf_k image) (symbol_bytes image (leaf_k image) at)
  pub inside : at + (8 + 80 * leaf_k image) ≤ length image

-- the entries of the symbol node at this address
abbrev pub entries_at : List ℕ → ℕ → List Entry
entries_at image at = symbols_at image (leaf_k image) at

-- the offsets in the keys of the node at this address
abbrev pub keys_at : List ℕ → ℕ → List ℕ
keys_at image at = map offset_in (node_at image (kind_in image) at).keys
