-- What an edit leaves of the superblock: where it moves other blocks alone, all of it; where it writes the end of file address, all else.
use Rattle.std.proofs.Common.{◌≡◌, ℕ, ◌+◌, ◌≤◌, true, false, Bool, List, [], ◌∷◌, ◌++◌, length, sym, ap, ◌∙◌, subst, arith}
use Rattle.h5_bytes.specs.Bytes.{number_at, part}
use Rattle.h5_bytes.specs.Blocks.{block, holds, Keeps}
use Rattle.h5_bytes.specs.declared.Block.{Block}
use Rattle.h5_bytes.proofs.BlockLaws.{holds_join}
use Rattle.h5_bytes.proofs.FieldLaws.{number_at-same}
use Rattle.h5_model.specs.Format.Superblock.{chunk_field, end_field, end_of_file, has_chunk_k, k_values, length_with, superblock_length}
use Rattle.h5_model.proofs.KLaws.{k_values_stay, same_end_field, same_length, same_version}
use Rattle.h5_space.specs.Moves.{Moves}
use Rattle.h5_space.specs.Space.{Space}
use Rattle.h5_space.specs.Whole.{IsApart}
use Rattle.h5_space.proofs.MovesLaws.{moves_apart, moves_kept}

-- ---- the end of file address in the superblock

split_with : (has : Bool) (p : ℕ) → holds p 0 (length_with has) ≡ holds p (40 + chunk_field has) 8 + (holds p 0 (40 + chunk_field has) + holds p (48 + chunk_field has) 48)
split_with true p = omega (arith, holds_join p 0 44 56, holds_join p 44 8 48)
split_with false p = omega (arith, holds_join p 0 40 56, holds_join p 40 8 48)

-- the superblock is this field, with what stands before it and behind it
pub end_split : (image : List ℕ) (p : ℕ) → holds p 0 (superblock_length image)
    ≡ holds p (end_field image).at 8 + (holds p 0 (end_field image).at + holds p (48 + chunk_field (has_chunk_k image)) 48)
end_split image p = split_with (has_chunk_k image) p

pub end_inside : (image : List ℕ) (p : ℕ) → holds p (end_field image).at 8 ≤ holds p 0 (superblock_length image)
end_inside image p = omega (arith, end_split image p)

-- a number among first bytes that stay
pub front_number : (old new : List ℕ) (n place size : ℕ) → part 0 n new ≡ part 0 n old → place + size ≤ n → number_at new place size ≡ number_at old place size
front_number old new n place size same low = let none : 0 + place ≡ place = omega arith in rw none at (number_at-same old new 0 n place size same low)

-- ---- other blocks are moved

abbrev pub superblock_in : List ℕ → Block
superblock_in image = block 0 (superblock_length image)

module _ (old new : List ℕ) (same : part 0 (superblock_length old) new ≡ part 0 (superblock_length old) old) where
  pub same_k : k_values new ≡ k_values old
  same_k = k_values_stay old new (superblock_length old) (omega arith) same

  pub same_end : end_of_file new ≡ end_of_file old
  same_end = ap (λ has. number_at new (40 + chunk_field has) 8) (same_version new old same_k)
      ∙ front_number old new (superblock_length old) (end_field old).at 8 same (omega arith)

module _ (old new : Space) (before after : List Block) (moves : Moves old new before after) (long : superblock_length old.bytes ≤ length old.bytes)
    (apart : IsApart (before ++ (superblock_in old.bytes ∷ [])) old.free (length old.bytes)) where
  stays : Keeps old.bytes new.bytes (superblock_in old.bytes ∷ [])
  stays = moves_kept old new before after (superblock_in old.bytes ∷ []) moves apart (omega (arith, long), tt)

  pub k_left : k_values new.bytes ≡ k_values old.bytes
  k_left = same_k old.bytes new.bytes stays.0

  pub field_left : end_field new.bytes ≡ end_field old.bytes
  field_left = same_end_field new.bytes old.bytes k_left

  pub end_left : end_of_file new.bytes ≡ end_of_file old.bytes
  end_left = same_end old.bytes new.bytes stays.0

  pub long_left : superblock_length new.bytes ≤ length new.bytes
  long_left = omega (arith, same_length new.bytes old.bytes k_left, long, moves.grown)

  -- and it stands apart from the blocks that there are now
  pub apart_left : IsApart (after ++ (superblock_in new.bytes ∷ [])) new.free (length new.bytes)
  apart_left = subst (λ n. IsApart (after ++ (block 0 n ∷ [])) new.free (length new.bytes)) (sym (same_length new.bytes old.bytes k_left))
      (moves_apart old new before after (superblock_in old.bytes ∷ []) moves apart)
