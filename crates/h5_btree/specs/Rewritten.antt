-- A node that was written where it stands (File Format Specification 3.0, section III.A.1).
use Rattle.std.specs.Prelude.{◌≡◌, ℕ, [], ◌∷◌}
use Rattle.h5_model.specs.Format.Rows.{Node}
use Rattle.h5_model.specs.Format.Nodes.{Kind, IsNode, node_at, node_block, node_bytes}
use Rattle.h5_space.specs.Space.{Space}
use Rattle.h5_space.specs.Moves.{Moves, Spends}

-- the node at this address says this now; no byte outside of it has changed, no block was taken or given, and no room was used
pub record IsRewritten (old new : Space) (kind : Kind) (at : ℕ) (node : Node) : Type 0 where
  pub says : node_at new.bytes kind at ≡ node
  pub form : IsNode kind (node_bytes new.bytes kind at)
  pub moves : Moves old new (node_block kind at ∷ []) (node_block kind at ∷ [])
  pub spends : Spends old new 0 0
