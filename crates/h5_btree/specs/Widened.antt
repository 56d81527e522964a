-- The end keys of the nodes on a way, moved so that they let in what is sought (File Format Specification 3.0, section III.A.1).
use Rattle.std.specs.Prelude.{◌≡◌, ℕ, ◌+◌, ◌-◌, ◌==◌, ◌&&◌, not, Bool, List, [], ◌∷◌, ⊤, length, map, slice_index_or, slice_set, if◌then◌else◌}
use Rattle.h5_bytes.specs.declared.Block.{Block}
use Rattle.h5_model.specs.Format.Rows.{Node, Reading}
use Rattle.h5_model.specs.Format.Nodes.{Kind, node_at, node_block}
use Rattle.h5_space.specs.Space.{Space}
use Rattle.h5_space.specs.Moves.{Moves, Spends}
use Rattle.h5_btree.specs.declared.way.Step.{Step}
use Rattle.h5_btree.specs.declared.widening.End.{End}

-- Which end keys of a node on a way do not let in what stands behind these keys, where the way goes on at that end: the first key, where it
-- does not stand behind it, if that one may give way at all; and the last one, where it does.
abbrev pub end_at : Reading → (List ℕ → Bool) → Bool → Step → End
end_at V behind may_first step = record {
  first = may_first && ((step.place == 0) && not (behind (slice_index_or (V step.node).keys 0 [])));
  last = (step.place + 1 == length (V step.node).children) && behind (slice_index_or (V step.node).keys (length (V step.node).children) []);
}

-- the same for each node on a way, from level 0 up; the first keys of so many of the lowest nodes stay
abbrev pub ends_along : Reading → (List ℕ → Bool) → ℕ → List Step → List End
ends_along V behind stay [] = []
ends_along V behind stay (step ∷ way) = end_at V behind (stay == 0) step ∷ ends_along V behind (stay - 1) way

-- a node whose first key is this low one, and whose last key is this high one, where these ends say so
abbrev pub widened_node : End → List ℕ → List ℕ → Node → Node
widened_node end low high node = record node {
  keys = let keys = if end.first then slice_set node.keys 0 low else node.keys in
      if end.last then slice_set keys (length node.children) high else keys;
}

-- each node on a way is so, and all above the last of these ends say what they said
abbrev pub AreWidened : List ℕ → List ℕ → Kind → List Step → List End → List ℕ → List ℕ → Type 0
AreWidened old new kind [] ends low high = ⊤
AreWidened old new kind (step ∷ way) [] low high = (node_at new kind step.node ≡ node_at old kind step.node) × AreWidened old new kind way [] low high
AreWidened old new kind (step ∷ way) (end ∷ ends) low high =
    (node_at new kind step.node ≡ widened_node end low high (node_at old kind step.node)) × AreWidened old new kind way ends low high

-- the blocks of the nodes on a way
abbrev pub way_blocks : Kind → List Step → List Block
way_blocks kind way = map (λ (step : Step). node_block kind step.node) way

-- The nodes on a way are so. No byte outside of them has changed, no block was taken or given, and no room was used.
pub record IsWidened (old new : Space) (kind : Kind) (way : List Step) (ends : List End) (low high : List ℕ) : Type 0 where
  pub keys : AreWidened old.bytes new.bytes kind way ends low high
  pub moves : Moves old new (way_blocks kind way) (way_blocks kind way)
  pub spends : Spends old new 0 0
