-- The bytes of a B-tree node, version 1 (File Format Specification 3.0, section III.A.1): a head of 24 bytes, then key 0, child 0,
-- key 1, .., the last key. A tree's kind gives the length of a key.
use Rattle.std.specs.Prelude.{◌≡◌, ℕ, ◌+◌, ◌*◌, ◌≤◌, List, [], ◌∷◌, map}
use Rattle.std.specs.List.{AllByRecursion}
use Rattle.h5_bytes.specs.Bytes.{number_at, byte_at, part}
use Rattle.h5_bytes.specs.Blocks.{block}
use Rattle.h5_bytes.specs.declared.Block.{Block}
use Rattle.h5_bytes.specs.Tables.{table}
use Rattle.h5_model.specs.Format.Limits.{highest_level}
use Rattle.h5_model.specs.Format.Rows.{Node, Reading, blank, only, AreRows, leaves, nodes}

abbrev pub node_signature : List ℕ
node_signature = 84 ∷ 82 ∷ 69 ∷ 69 ∷ []

-- what the trees of one kind have in common: the type byte, the length of a key, and K
pub record Kind : Type 0 where
  pub type_byte : ℕ
  pub key_length : ℕ
  pub k : ℕ

-- a group's tree, whose keys are offsets of names in a heap
abbrev pub group_kind : ℕ → Kind
group_kind k = record { type_byte = 0; key_length = 8; k = k }

-- a tree of chunks of this rank: a key has a size, a filter mask, and an offset for each dimension and for the element
abbrev pub chunk_kind : ℕ → ℕ → Kind
chunk_kind k rank = record { type_byte = 1; key_length = 8 + 8 * (rank + 1); k = k }

-- room for 2K children and one more key
abbrev pub node_length : Kind → ℕ
node_length kind = 24 + kind.key_length + 2 * kind.k * (kind.key_length + 8)

abbrev pub node_block : Kind → ℕ → Block
node_block kind at = block at (node_length kind)

abbrev pub node_bytes : List ℕ → Kind → ℕ → List ℕ
node_bytes image kind at = part at (node_length kind) image

-- how many children there are
abbrev pub entries_in : List ℕ → ℕ
entries_in bytes = number_at bytes 6 2

-- where key i begins; child i stands behind it
abbrev pub key_place : Kind → ℕ → ℕ
key_place kind i = 24 + i * (kind.key_length + 8)

abbrev pub key_in : Kind → List ℕ → ℕ → List ℕ
key_in kind bytes i = part (key_place kind i) kind.key_length bytes

abbrev pub child_in : Kind → List ℕ → ℕ → ℕ
child_in kind bytes i = number_at bytes (key_place kind i + kind.key_length) 8

-- what a node's bytes say
unfoldable pub node_of : Kind → List ℕ → Node
node_of kind bytes = record {
  level = byte_at bytes 5;
  left = number_at bytes 8 8;
  right = number_at bytes 16 8;
  keys = table (key_in kind bytes) (entries_in bytes + 1);
  children = table (child_in kind bytes) (entries_in bytes);
}

-- the form of a node's bytes
pub record IsNode (kind : Kind) (bytes : List ℕ) : Type 0 where
  pub signed : part 0 4 bytes ≡ node_signature
  pub type_byte : byte_at bytes 4 ≡ kind.type_byte
  pub roomy : entries_in bytes ≤ 2 * kind.k

-- what is read at an address, where a node of this kind stands there
abbrev pub node_at : List ℕ → Kind → ℕ → Node
node_at image kind at = node_of kind (node_bytes image kind at)

-- the reading of a tree that owns these nodes
abbrev pub reading_of : List ℕ → Kind → List ℕ → Reading
reading_of image kind owned = only blank (node_at image kind) owned

-- The tree of this kind at this root has this level, owns these nodes, and has these children at the bottom, in order. Only a root
-- at level 0 has no children.
pub record HasTree (image : List ℕ) (kind : Kind) (root level : ℕ) (owned children : List ℕ) : Type 0 where
  pub low : level ≤ highest_level
  pub formed : AllByRecursion (λ at. IsNode kind (node_bytes image kind at)) owned
  pub filled : 1 ≤ level → AllByRecursion (λ at. 1 ≤ entries_in (node_bytes image kind at)) owned
  pub rows : AreRows (reading_of image kind owned) level (root ∷ [])
  pub owns : owned ≡ nodes (reading_of image kind owned) level (root ∷ [])
  pub all : children ≡ leaves (reading_of image kind owned) level (root ∷ [])

abbrev pub tree_blocks : Kind → List ℕ → List Block
tree_blocks kind owned = map (node_block kind) owned
