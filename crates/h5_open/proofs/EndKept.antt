-- An edit of the blocks of objects leaves the superblock as it was.
use Rattle.std.proofs.Common.{◌≡◌, ℕ, ◌≤◌, List, [], ◌∷◌, ◌++◌, length, sym, ◌∙◌, arith, Option}
use Rattle.std.specs.BTreeMap.{BTreeMap}
use Rattle.std.specs.List.{flat_map}
use Rattle.h5_bytes.specs.Blocks.{cover}
use Rattle.h5_bytes.specs.declared.Block.{Block}
use Rattle.h5_bytes.proofs.BlockLaws.{cover-append}
use Rattle.h5_model.specs.Format.Superblock.{end_of_file, end_field, k_values, superblock_length}
use Rattle.h5_space.specs.Moves.{Moves}
use Rattle.h5_space.specs.Space.{Space}
use Rattle.h5_space.specs.Whole.{IsApart}
use Rattle.h5_open.specs.declared.opened.object.OpenedObject.{OpenedObject}
use Rattle.h5_open.specs.Opened.Kept.{IsOpened}
use Rattle.h5_open.specs.Opened.Objects.{object_blocks, objects_of}
use Rattle.h5_open.proofs.OpenedLaws.Sounds.{superblock_whole}
use Rattle.h5_open.proofs.SuperblockKept.{end_left, field_left, k_left, long_left, superblock_in}

module _ (old : Space) (slots : List (Option OpenedObject)) (numbers : BTreeMap ℕ ℕ) (opened : IsOpened old slots numbers) (new : Space) (before after : List Block)
    (moves : Moves old new before after) (among : (q : ℕ) → cover q before ≤ cover q (flat_map (object_blocks old.bytes) (objects_of slots))) where
  apart : IsApart (before ++ (superblock_in old.bytes ∷ [])) old.free (length old.bytes)
  apart q = omega (arith, opened.apart q, among q, cover-append q before (superblock_in old.bytes ∷ []))

  pub k_kept : k_values new.bytes ≡ k_values old.bytes
  k_kept = k_left old new before after moves (superblock_whole old slots numbers opened) apart

  pub field_kept : end_field new.bytes ≡ end_field old.bytes
  field_kept = field_left old new before after moves (superblock_whole old slots numbers opened) apart

  pub end_kept : length new.bytes ≡ length old.bytes → end_of_file new.bytes ≡ length new.bytes
  end_kept same = end_left old new before after moves (superblock_whole old slots numbers opened) apart ∙ opened.reads.1.holds.whole ∙ sym same

  pub superblock_kept : superblock_length new.bytes ≤ length new.bytes
  superblock_kept = long_left old new before after moves (superblock_whole old slots numbers opened) apart
