-- A link put into a group and taken out of it, where the group stands (File Format Specification 3.0, sections III.A.1, III.B and III.D).
use Rattle.std.specs.Prelude.{◌≡◌, ℕ, ◌+◌, ◌*◌, ◌≤◌, false, List, ◌∷◌, ⊤, length, slice_index}
use Rattle.h5_model.specs.Format.Limits.{highest_level}
use Rattle.h5_model.specs.Edits.Refusal.{has_zero}
use Rattle.h5_model.specs.Format.Addresses.{SymbolTable}
use Rattle.h5_model.specs.Format.Heap.{segment_block}
use Rattle.h5_model.specs.Format.Nodes.{node_at}
use Rattle.h5_model.specs.Format.Sizes.{group_node, symbol_node}
use Rattle.h5_model.specs.Format.Superblock.{AreK, leaf_k, internal_k, superblock_length}
use Rattle.h5_model.specs.Format.Symbols.{symbols_at}
use Rattle.h5_space.specs.Space.{Space}
use Rattle.h5_space.specs.Whole.{IsApart}
use Rattle.h5_heap.specs.Writing.Links.{Leads, ToArray, ToGroup, ToText}
use Rattle.h5_heap.specs.declared.write.link.ObjectPlace.{ObjectPlace}
use Rattle.h5_heap.specs.declared.write.link.ObjectPlace.TheVariants as place
use Rattle.h5_snod.specs.declared.write.NewTarget.{NewTarget}
use Rattle.h5_snod.specs.declared.write.NewTarget.TheVariants as target
use Rattle.h5_btree.specs.Descent.{IsWayTo}
use Rattle.h5_btree.specs.Insertion.{IsFullWay}
use Rattle.h5_btree.specs.declared.way.Step.{Step}
use Rattle.h5_group.specs.Edited.{superblock_block}
use Rattle.h5_group.specs.Links.{IsGroupRead}
use Rattle.h5_group.specs.Nodes.Trees.{kind_in}
use Rattle.h5_group.specs.Told.{blocks_told}
use Rattle.h5_group.specs.Ways.{behind_in}

-- The tree has no room for a link of this name: the root is at level 15, each node on the way to the name has as many children as there is
-- room for, and the symbol node at its end as many entries.
pub record IsFullFor (image : List ℕ) (table : SymbolTable) (name : List ℕ) : Type 0 where
  pub step : Step
  pub above : List Step
  pub high : (node_at image (kind_in image) table.tree).level ≡ highest_level
  pub sought : IsWayTo (node_at image (kind_in image)) (behind_in image table name) highest_level table.tree (step ∷ above)
  pub nodes : IsFullWay image (kind_in image) (step ∷ above)
  pub entries : length (symbols_at image (leaf_k image) (slice_index (node_at image (kind_in image) step.node).children step.place)) ≡ 2 * leaf_k image

-- where a link leads that is to be put in: the text of a soft link has no zero byte
abbrev pub IsPlainLead : Leads → Type 0
IsPlainLead (ToText text) = has_zero text ≡ false
IsPlainLead (ToArray header) = ⊤
IsPlainLead (ToGroup header tree heap) = ⊤

-- where the entry of a link to an object leads
abbrev pub place_target : ObjectPlace → NewTarget
place_target (place.Group header tree heap) = target.Group header tree heap
place_target (place.Array header) = target.Dataset header

-- how many bytes more a link may take, whose name and text occupy so many
abbrev pub link_room : List ℕ → SymbolTable → ℕ → ℕ
link_room image table occupied =
    17 * group_node (internal_k image) + symbol_node (leaf_k image) + 2 * (segment_block image table.heap).len + occupied + 16

-- the group was read, and its blocks share no byte with each other, with the superblock or with a free block
pub record IsGroupApart (s : Space) (table : SymbolTable) : Type 0 where
  pub read : IsGroupRead s.bytes table
  pub apart : IsApart (superblock_block s.bytes ∷ blocks_told s.bytes table) s.free (length s.bytes)
  pub long : superblock_length s.bytes ≤ length s.bytes
  pub k : AreK (leaf_k s.bytes) (internal_k s.bytes)
