-- The data of an array in a walk: a block of cells, or chunks with the nodes of their tree (File Format Specification 3.0, sections
-- III.A.1 and IV.A.2.i).
use Rattle.std.specs.Prelude.{ℕ, Some, List, length}
use Rattle.h5_bytes.specs.declared.Block.{Block}
use Rattle.h5_model.specs.Format.Fixed.{Fixed}
use Rattle.h5_model.specs.Format.Layout.{Layout, InBlock, InChunks}
use Rattle.h5_model.specs.declared.open_fault.Cause.{Cause}
use Rattle.h5_header.specs.Progress.{ClaimBreach}
use Rattle.h5_chunks.specs.Told.{addresses_told, chunk_nodes_told}
use Rattle.h5_chunks.specs.Walk.Followed.{FollowsTree, IsTreeFault}
use Rattle.h5_chunks.specs.Walk.Forms.{OfChunks}
use Rattle.h5_layout.specs.Data.{chunk_shape}

-- the tree of the chunks was followed; other data have no fields
abbrev pub FollowsData : List ℕ → List Block → List Block → Fixed → Layout → Type 0
FollowsData image old now t (InChunks sizes (Some root)) =
    FollowsTree image (OfChunks (chunk_shape t sizes)) old now root (chunk_nodes_told image (chunk_shape t sizes) root)
    (addresses_told image (chunk_shape t sizes) root)
FollowsData image old now t _ = Unit {0}

-- the block cannot be claimed, or the tree of the chunks is refused
abbrev pub IsDataFault : List ℕ → List Block → Fixed → Layout → Cause → ℕ → Type 0
IsDataFault image old t (InBlock (Some b)) cause address = ClaimBreach (length image) old b cause address
IsDataFault image old t (InChunks sizes (Some root)) cause address =
    IsTreeFault image (OfChunks (chunk_shape t sizes)) old root cause address
IsDataFault image old t _ cause address = ⊥
