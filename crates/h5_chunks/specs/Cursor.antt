-- Where a chunk was found in a tree, from where the next one is sought (File Format Specification 3.0, section III.A.1).
use Rattle.std.specs.Prelude.{ℕ, List, Option, IfSome, MatchOption}
use Rattle.std.specs.List.{Contains}
use Rattle.h5_model.specs.Format.Nodes.{node_at}
use Rattle.h5_model.specs.Format.Reached.{Shape, shape_kind}
use Rattle.h5_btree.specs.Walk.Forms.{OfChunks}
use Rattle.h5_btree.specs.Walk.Stands.{bottom_at}
use Rattle.h5_btree.specs.declared.way.Step.{Step}
use Rattle.h5_chunks.specs.Way.{IsChunkThere}

-- where the cursor is at a child, that is one of a node of level 0 in the tree at this root
abbrev pub IsCursor : List ℕ → Shape → ℕ → Option Step → Type 0
IsCursor image shape root cursor = IfSome cursor (λ step. Contains (bottom_at image (OfChunks shape) root) step.node)

-- it is at the chunk at these offsets, which stands at this address
abbrev pub IsCursorAt : List ℕ → Shape → Option Step → List ℕ → ℕ → Type 0
IsCursorAt image shape cursor offsets at =
    MatchOption cursor ⊥ (λ step. IsChunkThere offsets (node_at image (shape_kind image shape) step.node) step.place at)
