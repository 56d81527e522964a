-- A tree that has no room for a link of a name: the way that was found tells it.
use Rattle.std.proofs.Common.{◌≡◌, ◌↔◌, ℕ, zero, suc, ◌+◌, ◌*◌, ◌<◌, Bool, true, IsTrue, List, [], ◌∷◌, length, sym, slice_index, ap, ◌∙◌, subst, arith}
use Rattle.std.proofs.lemmas.List.{length-append}
use Rattle.h5_bytes.specs.declared.Block.{Block}
use Rattle.h5_model.specs.Format.Limits.{highest_level}
use Rattle.h5_model.specs.Format.Addresses.{SymbolTable}
use Rattle.h5_model.specs.Format.Superblock.{leaf_k}
use Rattle.h5_model.specs.Format.Nodes.{Kind, node_at}
use Rattle.h5_model.specs.Format.Rows.{Reading}
use Rattle.h5_model.specs.Format.Symbols.{Target}
use Rattle.h5_model.proofs.OneTree.{level_is}
use Rattle.h5_space.specs.Space.{Space}
use Rattle.h5_btree.specs.Descent.{IsWayTo}
use Rattle.h5_btree.specs.Insertion.{IsFullWay}
use Rattle.h5_btree.specs.declared.way.Step.{Step}
use Rattle.h5_group.specs.Edited.{IsGroupIn, entries_below}
use Rattle.h5_group.specs.LinkEdits.{IsFullFor}
use Rattle.h5_group.specs.Nodes.Trees.{kind_in}
use Rattle.h5_group.specs.Ways.{IsWayOf, behind_in}
use Rattle.h5_group.proofs.PutWays.{way_unique}
use Rattle.h5_group.proofs.Ways.{way_of}

module _ (V : Reading) (behind : List ℕ → Bool) where
  -- a root with a way down has children
  root_child : (level at : ℕ) (way : List Step) → IsWayTo V behind level at way → (i : ℕ) × (i < length (V at).children)
  root_child zero at way to = (to.0, (to.1).child)
  root_child (suc level) at way to = (to.0, (to.2).child)

  -- and the way has a step for each level
  way_length : (level at : ℕ) (way : List Step) → IsWayTo V behind level at way → length way ≡ level + 1
  way_length zero at way to = ap length to.2
  way_length (suc level) at way to =
      let below = way_length level (slice_index (V at).children to.0) to.1 to.3 in
      omega (arith, below, ap length to.4, length-append to.1 (record { node = at; place = to.0 } ∷ []))

-- an empty tree has room
pub empty_roomy : (image : List ℕ) (table : SymbolTable) (name : List ℕ) → (node_at image (kind_in image) table.tree).children ≡ [] → IsFullFor image table name → ⊥
empty_roomy image table name none f =
    let child = root_child (node_at image (kind_in image)) (behind_in image table name) highest_level table.tree (f.step ∷ f.above) f.sought in
    omega (arith, child.1, ap length none)

module _ (s : Space) (table : SymbolTable) (name : List ℕ) (links : List (List ℕ × Target)) (spare : List ℕ) (blocks : List Block) (g : IsGroupIn s table links spare blocks) (way : List Step) (w : IsWayOf s table name way) where
  abbrev kind : Kind
  kind = kind_in s.bytes

  abbrev V : Reading
  V = node_at s.bytes kind

  -- a way on which all is full, down from level 15, has no room
  pub full_of : (step : Step) (above : List Step) → way ≡ step ∷ above → length way ≡ 16 → IsFullWay s.bytes kind way → length (entries_below s table step) ≡ 2 * leaf_k s.bytes
      → IsFullFor s.bytes table name
  full_of step above is long nodes entries =
      let steps = way_length V (behind_in s.bytes table name) w.level table.tree way w.sought in
      let top : w.level ≡ highest_level = omega (arith, steps, long) in
      record {
        step = step;
        above = above;
        high = level_is s.bytes kind table.tree w.level w.owned w.symbol_nodes w.ends.tree ∙ top;
        sought = subst (λ (l : ℕ). IsWayTo V (behind_in s.bytes table name) l table.tree (step ∷ above)) top
            (subst (IsWayTo V (behind_in s.bytes table name) w.level table.tree) is w.sought);
        nodes = subst (IsFullWay s.bytes kind) is nodes;
        entries = entries;
      }

  -- and where there is none, it is the way that is full
  module _ (f : IsFullFor s.bytes table name) where
    same_way : way ≡ f.step ∷ f.above
    same_way = way_unique s table links spare blocks g name way (f.step ∷ f.above) w
        (way_of s table links spare blocks g name (f.step ∷ f.above)
        (subst (λ (l : ℕ). IsWayTo V (behind_in s.bytes table name) l table.tree (f.step ∷ f.above)) (sym f.high) f.sought))

    pub deep_long : length way ≡ 16
    deep_long = ap length same_way ∙ way_length V (behind_in s.bytes table name) highest_level table.tree (f.step ∷ f.above) f.sought

    pub deep_nodes : IsFullWay s.bytes kind way
    deep_nodes = subst (IsFullWay s.bytes kind) (sym same_way) f.nodes

  module _ (full : Bool) (tells : (step : Step) (above : List Step) → way ≡ step ∷ above → IsTrue full ↔ (length (entries_below s table step) ≡ 2 * leaf_k s.bytes)) where
    pub deep_end : IsFullFor s.bytes table name → full ≡ true
    deep_end f = (tells f.step f.above (same_way f)).1 f.entries

    -- and the other way
    pub deep_of : length way ≡ 16 → IsFullWay s.bytes kind way → full ≡ true → IsFullFor s.bytes table name
    deep_of long nodes all =
        let e = w.ends in
        full_of e.step e.above e.way_is long nodes ((tells e.step e.above e.way_is).0 all)
