-- A group beside which a block was taken: its blocks keep their bytes, so it has the links and the room that it had.
use Rattle.std.proofs.Common.{◌≡◌, ℕ, ◌+◌, ◌≤◌, List, [], ◌∷◌, length, sym, ap, subst, arith}
use Rattle.h5_bytes.specs.Blocks.{block, IsKept, Inside, Keeps}
use Rattle.h5_bytes.specs.declared.Block.{Block}
use Rattle.h5_bytes.proofs.BlockLaws.{all_right, all_so, cover-append}
use Rattle.h5_model.specs.Format.Addresses.{SymbolTable}
use Rattle.h5_model.specs.Format.Heap.{heap_blocks, heap_header, segment_size}
use Rattle.h5_model.specs.Format.Sizes.{group_node, symbol_node}
use Rattle.h5_model.specs.Format.Superblock.{AreK, leaf_k, internal_k, k_values, superblock_length}
use Rattle.h5_model.proofs.Frames.{heap-same}
use Rattle.h5_model.proofs.KLaws.{same_internal, same_leaf, same_length}
use Rattle.h5_space.specs.Moves.{Moves}
use Rattle.h5_space.specs.Space.{Space}
use Rattle.h5_space.specs.Whole.{IsApart}
use Rattle.h5_space.proofs.MovesLaws.{moves_apart, moves_kept}
use Rattle.h5_group.specs.Edited.{superblock_block}
use Rattle.h5_group.specs.LinkEdits.{IsFullFor, IsGroupApart, link_room}
use Rattle.h5_group.specs.Links.{HasNone}
use Rattle.h5_group.specs.Nodes.Trees.{group_nodes_blocks}
use Rattle.h5_group.specs.Exact.{HasExactKeys}
use Rattle.h5_group.specs.Told.{blocks_told, links_told, nodes_told, symbol_nodes_told}
use Rattle.h5_group.proofs.RoomKept.{full_same, none_same}
use Rattle.h5_group.proofs.ExactTrees.{exact-same}
use Rattle.h5_group.proofs.ToldLaws.{blocks_told-same, links_told-same, told-same}
use Rattle.h5_open.proofs.SuperblockKept.{same_k}

module _ (old new : Space) (taken : List Block) (t : SymbolTable) (group : IsGroupApart old t) (moves : Moves old new [] taken) where
  kept : Keeps old.bytes new.bytes (superblock_block old.bytes ∷ blocks_told old.bytes t)
  kept = moves_kept old new [] taken (superblock_block old.bytes ∷ blocks_told old.bytes t) moves group.apart (omega (arith, group.long), (group.read).inside)

  pub k_beside : k_values new.bytes ≡ k_values old.bytes
  k_beside = same_k old.bytes new.bytes kept.0

  leaf_beside : leaf_k new.bytes ≡ leaf_k old.bytes
  leaf_beside = same_leaf new.bytes old.bytes k_beside

  internal_beside : internal_k new.bytes ≡ internal_k old.bytes
  internal_beside = same_internal new.bytes old.bytes k_beside

  length_beside : superblock_length new.bytes ≡ superblock_length old.bytes
  length_beside = same_length new.bytes old.bytes k_beside

  pub blocks_beside : blocks_told new.bytes t ≡ blocks_told old.bytes t
  blocks_beside = blocks_told-same old.bytes new.bytes leaf_beside internal_beside t (group.read).linked kept.1

  -- its links are what they were
  pub links_beside : links_told new.bytes t ≡ links_told old.bytes t
  links_beside = links_told-same old.bytes new.bytes leaf_beside internal_beside t (group.read).linked kept.1

  pub exact_beside : HasExactKeys old.bytes t → HasExactKeys new.bytes t
  exact_beside was = exact-same old.bytes new.bytes leaf_beside internal_beside t (group.read).linked kept.1 was

  inside_new : Inside (length new.bytes) (blocks_told old.bytes t)
  inside_new = all_so (λ (b : Block). b.at + b.len ≤ length old.bytes) (λ (b : Block). b.at + b.len ≤ length new.bytes) (blocks_told old.bytes t)
      (λ b low. omega (arith, low, moves.grown)) (group.read).inside

  apart_new : IsApart (superblock_block old.bytes ∷ blocks_told old.bytes t) new.free (length new.bytes)
  apart_new p =
      let both = moves_apart old new [] taken (superblock_block old.bytes ∷ blocks_told old.bytes t) moves group.apart p in
      omega (arith, both, cover-append p taken (superblock_block old.bytes ∷ blocks_told old.bytes t))

  -- it stands as it stood
  pub group_beside : IsGroupApart new t
  group_beside = record {
    read = record {
      linked = told-same old.bytes new.bytes leaf_beside internal_beside t (group.read).linked kept.1;
      inside = subst (Inside (length new.bytes)) (sym blocks_beside) inside_new;
      few = let same = internal_beside in omega (arith, same, (group.read).few);
    };
    apart = subst (λ (n : ℕ). IsApart (block 0 n ∷ blocks_told new.bytes t) new.free (length new.bytes)) (sym length_beside)
        (subst (λ (bs : List Block). IsApart (superblock_block old.bytes ∷ bs) new.free (length new.bytes)) (sym blocks_beside) apart_new);
    long = omega (arith, length_beside, group.long, moves.grown);
    k = subst (λ (k : ℕ). AreK k (internal_k new.bytes)) (sym leaf_beside) (subst (AreK (leaf_k old.bytes)) (sym internal_beside) group.k);
  }

  -- a name that none of its links has
  pub none_beside : (name : List ℕ) → HasNone old.bytes t name → HasNone new.bytes t name
  none_beside name none = none_same old.bytes new.bytes leaf_beside internal_beside t group.read kept.1 name none

  -- and the room for it
  pub full_beside : (name : List ℕ) → IsFullFor new.bytes t name → IsFullFor old.bytes t name
  full_beside name full = full_same old.bytes new.bytes leaf_beside internal_beside t group.read kept.1 name full

  pub room_beside : (occupied : ℕ) → link_room new.bytes t occupied ≡ link_room old.bytes t occupied
  room_beside occupied =
      let heap : Keeps old.bytes new.bytes (heap_blocks old.bytes t.heap)
      = all_right (IsKept old.bytes new.bytes) (group_nodes_blocks old.bytes (nodes_told old.bytes t) (symbol_nodes_told old.bytes t)) (heap_blocks old.bytes t.heap) kept.1 in
      let header : heap_header new.bytes t.heap ≡ heap_header old.bytes t.heap = (heap-same old.bytes new.bytes t.heap heap).0 in
      let node = ap group_node internal_beside in
      let leaf = ap symbol_node leaf_beside in
      let segment = ap segment_size header in
      omega (arith, node, leaf, segment)
