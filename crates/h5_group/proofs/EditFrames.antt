-- An edit of some of a group's blocks leaves its other blocks, and what the superblock says.
use Rattle.std.proofs.Common.{◌≡◌, ap, ℕ, ◌≤◌, List, ◌∷◌, ◌++◌, length, arith}
use Rattle.h5_bytes.specs.Blocks.{block, cover, Inside, Keeps}
use Rattle.h5_bytes.specs.declared.Block.{Block}
use Rattle.h5_bytes.proofs.BlockLaws.{cover-append}
use Rattle.h5_model.specs.Format.Addresses.{SymbolTable}
use Rattle.h5_model.specs.Format.Superblock.{leaf_k, internal_k, k_values, superblock_length}
use Rattle.h5_model.specs.Format.Symbols.{Target}
use Rattle.h5_model.proofs.KLaws.{k_values_stay, same_internal, same_leaf, same_length}
use Rattle.h5_space.specs.Moves.{Moves}
use Rattle.h5_space.specs.Space.{Space}
use Rattle.h5_space.specs.Whole.{IsApart}
use Rattle.h5_space.proofs.MovesLaws.{moves_apart, moves_beside, moves_kept, moves_same}
use Rattle.h5_group.specs.Edited.{IsGroupIn, superblock_block}

-- Of the group's blocks these, a, were moved to b; the rest stays.
module _ (s t : Space) (table : SymbolTable) (links : List (List ℕ × Target)) (spare : List ℕ) (blocks : List Block)
    (group : IsGroupIn s table links spare blocks) (a b rest : List Block) (moves : Moves s t a b)
    (parted : (p : ℕ) → cover p blocks ≡ cover p (a ++ rest)) (within : Inside (length s.bytes) rest) where
  abbrev more : List Block
  more = superblock_block s.bytes ∷ rest

  apart_before : IsApart (a ++ more) s.free (length s.bytes)
  apart_before p = omega (arith, group.apart p, parted p, cover-append p a more, cover-append p a rest)

  keeps : Keeps s.bytes t.bytes more
  keeps = moves_kept s t a b more moves apart_before (omega (arith, group.long), within)

  -- the other blocks have their bytes still
  pub rest_kept : Keeps s.bytes t.bytes rest
  rest_kept = keeps.1

  pub k_kept : k_values t.bytes ≡ k_values s.bytes
  k_kept = k_values_stay s.bytes t.bytes (superblock_length s.bytes) (omega arith) keeps.0

  pub leaf_kept : leaf_k t.bytes ≡ leaf_k s.bytes
  leaf_kept = same_leaf t.bytes s.bytes k_kept

  pub internal_kept : internal_k t.bytes ≡ internal_k s.bytes
  internal_kept = same_internal t.bytes s.bytes k_kept

  superblock_kept : superblock_block t.bytes ≡ superblock_block s.bytes
  superblock_kept = ap (block 0) (same_length t.bytes s.bytes k_kept)

  -- all of them, as they are then
  pub group_apart : (blocks' : List Block) → ((p : ℕ) → cover p blocks' ≡ cover p (b ++ rest)) → IsApart (superblock_block t.bytes ∷ blocks') t.free (length t.bytes)
  group_apart blocks' joined p =
      let all = moves_apart s t a b more moves apart_before p in
      let first = ap (λ (x : Block). cover p (x ∷ blocks')) superblock_kept in
      omega (arith, all, first, joined p, cover-append p b more, cover-append p b rest)

  pub group_moves : (blocks' : List Block) → ((p : ℕ) → cover p blocks' ≡ cover p (b ++ rest)) → Moves s t blocks blocks'
  group_moves blocks' joined = moves_same s t (a ++ rest) (b ++ rest) blocks blocks' parted joined (moves_beside s t a b rest moves)

  pub still_long : superblock_length t.bytes ≤ length t.bytes
  still_long = let same = same_length t.bytes s.bytes k_kept in omega (arith, same, group.long, moves.grown)
