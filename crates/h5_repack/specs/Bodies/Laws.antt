-- What is shown of the headers of arrays in the plain layout: they read as their arrays, and have the length that
-- is counted for them.
-- And what is meant by an image that reads as a tree and has no gap.
use Rattle.std.specs.Prelude.{◌≡◌, ℕ, ◌+◌, ◌^◌, ◌<◌, ◌≤◌, if◌then◌else◌, Option, Some, None, List, ◌∷◌, ◌++◌, length}
use Rattle.std.specs.Ordering.{nat_cmp}
use Rattle.std.specs.FinMap.{FinMap}
use Rattle.h5_bytes.specs.Blocks.{block, CoverOnce, Run}
use Rattle.h5_bytes.specs.declared.Block.{Block}
use Rattle.h5_bytes.specs.Bytes.{part}
use Rattle.h5_model.specs.Format.Limits.{most_bytes}
use Rattle.h5_model.specs.Format.Messages.{prefix_at, reference_count, most_messages}
use Rattle.h5_model.specs.Format.Plain.{header_bytes}
use Rattle.h5_model.specs.Format.Reads.{Placed, ReadsAs, HasObject, all_blocks}
use Rattle.h5_model.specs.Format.Sizes.{header_size}
use Rattle.h5_model.specs.Format.Superblock.{chunk_k, k_values, highest_k}
use Rattle.h5_model.specs.Tree.Objects.{Tree, Object, Array, Dataset}
use Rattle.h5_repack.specs.Bodies.Bodies.{others_of, array_messages}
use Rattle.h5_repack.specs.Bodies.Headers.{AreStoredFor, IsLowStorage, is_stored, data_of}
use Rattle.h5_repack.specs.Bodies.Sound.{IsPlainObject, IsPlainArray}
use Rattle.h5_model.specs.declared.k_values.KValues.{KValues}

-- the image reads as the tree, has these K values, and has no gap
pub record IsPlainReading (image : List ℕ) (k : KValues) (table : FinMap nat_cmp ℕ) (tree : Tree) : Type 0 where
  pub placed : List Placed
  pub reads : ReadsAs image table tree placed
  pub covered : CoverOnce (length image) (all_blocks image placed)
  pub k_is : k_values image ≡ k

-- ---- arrays

-- the header of an array to which so many links lead, with the address of its data
abbrev pub counted_header : ℕ → Object → Dataset → Option ℕ → List ℕ
counted_header count p d address = header_bytes count (array_messages d address (length (others_of p)) ++ others_of p)

-- Such a header, with the data or the chunks that are stored, reads as the array, and has that count. The other blocks are those of the
-- data, without gaps.
abbrev pub ArrayReads : Type 0
ArrayReads = (image : List ℕ) (table : FinMap nat_cmp ℕ) (at place count k : ℕ) (p : Object) (d : Dataset) (stored : List (List ℕ)) → IsPlainObject p → p.content ≡ Array d
    → IsPlainArray d (length (others_of p)) → AreStoredFor stored d → 3 + length (others_of p) ≤ most_messages → count < 2 ^ 32 → header_size p < most_bytes
    → chunk_k image ≡ k → 1 ≤ k → k ≤ highest_k → IsLowStorage k (length stored) d.storage
    → place + length (data_of k stored d place) < 2 ^ 63
    → part at (header_size p) image ≡ counted_header count p d (if is_stored stored d.storage then Some place else None)
    → part place (length (data_of k stored d place)) image ≡ data_of k stored d place
    → (blocks : List Block) × HasObject image table at p (block at (header_size p) ∷ blocks) × (reference_count (prefix_at image at) ≡ count)
    × Run place blocks (place + length (data_of k stored d place))

-- it has the length that is counted for it
abbrev pub ArrayLength : Type 0
ArrayLength = (count : ℕ) (address : Option ℕ) (p : Object) (d : Dataset) → IsPlainObject p → p.content ≡ Array d → IsPlainArray d (length (others_of p))
    → length (counted_header count p d address) ≡ header_size p
