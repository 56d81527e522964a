-- Why a block of a tree is refused (File Format Specification 3.0, sections III.A.1 and III.B).
use Rattle.std.specs.Prelude.{◌≡◌, ℕ, ◌+◌, ◌<◌, ◌≤◌, ◌⊎◌, List, length, slice_index_or}
use Rattle.h5_bytes.specs.declared.Block.{Block}
use Rattle.h5_model.specs.Format.Rows.{Node}
use Rattle.h5_model.specs.declared.open_fault.Cause.{Cause}
use Rattle.h5_model.specs.declared.open_fault.Cause.TheVariants.{Truncated, Overlap, NodeForm, ChunkKey, NoMemory}
use Rattle.h5_space.specs.Claimed.{Shares}
use Rattle.h5_btree.specs.Walk.Forms.{TreeForm, LeafBreach, IsKeyedAt, leaf_block}

-- it passes the end, or shares a byte with what was claimed; or it breaks a rule of its form, and does not pass the end
abbrev pub IsRefusedFor : Type 0 → ℕ → List Block → Block → Cause → Type 0
IsRefusedFor Broken end held b Truncated = end < b.at + b.len
IsRefusedFor Broken end held b Overlap = Shares held b.at b.len
IsRefusedFor Broken end held b NodeForm = (b.at + b.len ≤ end) × Broken
IsRefusedFor Broken end held b NoMemory = Unit {0}
IsRefusedFor Broken end held b _ = ⊥

-- leaf i of the node at an address is refused: its block is; or the node's key i is none that a leaf may have
abbrev pub IsLeafRefused : List ℕ → TreeForm → List Block → ℕ → Node → ℕ → Cause → ℕ → Type 0
IsLeafRefused image form held at node i cause address =
    ((address ≡ slice_index_or node.children i 0)
    × IsRefusedFor (LeafBreach image form (slice_index_or node.children i 0)) (length image) held (leaf_block image form (slice_index_or node.children i 0)) cause)
    ⊎ ((cause ≡ ChunkKey) × (address ≡ at) × (IsKeyedAt form node i → ⊥))
