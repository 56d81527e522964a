-- Trees of chunks whose upper nodes were made by splits, and are at least half full (File Format Specification 3.0, section III.A.1).
use Rattle.std.specs.Prelude.{ℕ, zero, suc, ◌-◌, ◌*◌, ◌^◌, ◌≤◌, Bool, List, ⊤, length, nat_le, if◌then◌else◌}
use Rattle.std.specs.List.{AllByRecursion}
use Rattle.h5_model.specs.Format.Limits.{most_bytes}
use Rattle.h5_model.specs.Format.Nodes.{node_at}
use Rattle.h5_model.specs.Format.Reached.{Shape, level_at, shape_kind}
use Rattle.h5_model.specs.Format.Rows.{Reading}

-- how many children a node of this level has at least, where those from level `low` up have K
abbrev pub least_children : ℕ → ℕ → ℕ → ℕ
least_children k low level = if nat_le low level then k else 1

-- each node below this one, which is of this level, has as many
abbrev pub IsBushyBelow : Reading → ℕ → ℕ → ℕ → ℕ → Type 0
IsBushyBelow V k low zero node = ⊤
IsBushyBelow V k low (suc level) node =
    AllByRecursion (λ child. (least_children k low level ≤ length (V child).children) × IsBushyBelow V k low level child) (V node).children

-- the same below the root of a tree of chunks
abbrev pub IsBushy : List ℕ → Shape → ℕ → ℕ → Type 0
IsBushy image shape root low =
    IsBushyBelow (node_at image (shape_kind image shape)) (shape_kind image shape).k low (level_at image (shape_kind image shape) root) root

-- A tree of nodes of this K whose root is at this level never gets too deep: a full root at level 15, above nodes with K children at least
-- down to this level, has 2K · K^(15 - level) chunks below it, and these are as many as an image has bytes.
abbrev pub is_low_level : ℕ → ℕ → Bool
is_low_level k level = nat_le most_bytes (2 * k ^ (16 - level))
