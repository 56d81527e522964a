-- Which rules the bytes of a B-tree node break, and where a node may stand (File Format Specification 3.0, section III.A.1).
use Rattle.std.specs.Prelude.{◌≡◌, ◌≢◌, ℕ, ◌+◌, ◌*◌, ◌<◌, ◌≤◌, ◌⊎◌, List, length}
use Rattle.h5_bytes.specs.Bytes.{byte_at, part}
use Rattle.h5_model.specs.Format.Limits.{highest_level}
use Rattle.h5_model.specs.Format.Rows.{Node}
use Rattle.h5_model.specs.Format.Nodes.{Kind, node_signature, entries_in, node_bytes, node_length}
use Rattle.h5_btree.specs.declared.read.NodeFault.{NodeFault}
use Rattle.h5_btree.specs.declared.read.NodeFault.TheVariants.{NodeForm, Truncated}

-- another signature, another type, or more children than there is room for
abbrev pub BreaksForm : Kind → List ℕ → Type 0
BreaksForm kind bytes =
    (part 0 4 bytes ≢ node_signature) ⊎ ((byte_at bytes 4 ≢ kind.type_byte) ⊎ (2 * kind.k < entries_in bytes))

-- at most level 15, and without children at level 0 alone
abbrev pub MayBeRoot : Node → Type 0
MayBeRoot node = (node.level ≤ highest_level) × (1 ≤ node.level → 1 ≤ length node.children)

-- of this level, with a child
abbrev pub MayStandAt : ℕ → Node → Type 0
MayStandAt level node = (node.level ≡ level) × (1 ≤ length node.children)

-- why there is no node of this kind at this address of the image
abbrev pub IsRefusedAt : List ℕ → Kind → ℕ → NodeFault → Type 0
IsRefusedAt image kind at Truncated = length image < at + node_length kind
IsRefusedAt image kind at NodeForm = (at + node_length kind ≤ length image) × BreaksForm kind (node_bytes image kind at)
