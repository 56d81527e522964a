-- The order of chunks and keys (File Format Specification 3.0, section III.A.1).
use Rattle.std.specs.Prelude.{ℕ, ◌⊎◌, List, length, T}
use Rattle.std.specs.Ordering.{nat_cmp}
use Rattle.std.specs.Cmp.Lexicographic.{slice_cmp}
use Rattle.std.specs.FinMap.{is_sorted}
use Rattle.std.specs.List.{AllByRecursion, Contains}
use Rattle.h5_model.specs.Format.Nodes.{node_at}
use Rattle.h5_model.specs.Format.Chunks.{IsChunkOrdered}
use Rattle.h5_model.specs.Format.Reached.{Shape, shape_kind}
use Rattle.h5_model.specs.Faults.TreeFaults.{ChunksDescend}
use Rattle.h5_model.specs.declared.open_fault.Cause.{Cause}
use Rattle.h5_model.specs.declared.open_fault.Cause.TheVariants.{KeyOrder}
use Rattle.h5_chunks.specs.Told.{listed_told}

-- The chunks that are told ascend, and stand between the keys of each of these nodes.
pub record AreChunksOrdered (image : List ℕ) (shape : Shape) (root : ℕ) (nodes : List ℕ) : Type 0 where
  pub ascending : T (is_sorted (slice_cmp nat_cmp) (listed_told image shape root))
  pub ordered : AllByRecursion (λ at. IsChunkOrdered (node_at image (shape_kind image shape)) (length shape.sizes)
      (node_at image (shape_kind image shape) at)) nodes

-- a chunk below the node at the address, which is one of these, is not between its keys, or one in it does not ascend
abbrev pub IsChunkOrderRefused : List ℕ → Shape → ℕ → List ℕ → Cause → ℕ → Type 0
IsChunkOrderRefused image shape root nodes KeyOrder address =
    (Contains nodes address × (IsChunkOrdered (node_at image (shape_kind image shape)) (length shape.sizes)
    (node_at image (shape_kind image shape) address) → ⊥))
    ⊎ ChunksDescend image shape root address
IsChunkOrderRefused image shape root nodes _ address = ⊥
