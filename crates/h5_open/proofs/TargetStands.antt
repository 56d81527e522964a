-- The header of an array still stands where the links of a group were changed.
use Rattle.std.proofs.Common.{◌≡◌, ℕ, ◌+◌, ◌≤◌, List, [], ◌∷◌, ◌++◌, length, sym, ap, subst, arith, Option, Some}
use Rattle.std.specs.Prelude.{slice_get}
use Rattle.std.specs.BTreeMap.{BTreeMap}
use Rattle.std.specs.List.{flat_map}
use Rattle.h5_bytes.specs.Blocks.{block, cover, Keeps}
use Rattle.h5_bytes.specs.declared.Block.{Block}
use Rattle.h5_bytes.proofs.BlockLaws.{cover-append}
use Rattle.h5_model.specs.Format.Addresses.{SymbolTable}
use Rattle.h5_model.specs.Format.Messages.{prefix_at, reference_count}
use Rattle.h5_model.specs.Format.Superblock.{end_field, superblock_length}
use Rattle.h5_model.proofs.KLaws.{same_length}
use Rattle.h5_space.specs.Moves.{Moves}
use Rattle.h5_space.specs.Space.{Space}
use Rattle.h5_space.specs.Whole.{IsApart}
use Rattle.h5_space.proofs.MovesLaws.{moves_apart, moves_kept}
use Rattle.h5_header.specs.Listed.{messages_in}
use Rattle.h5_header.specs.Standing.{IsStanding}
use Rattle.h5_header.proofs.BlockPuts.{count_kept, standing_kept}
use Rattle.h5_header.proofs.KeptLaws.{listed-same}
use Rattle.h5_group.specs.Told.{blocks_told}
use Rattle.h5_open.specs.declared.opened.object.OpenedObject.{OpenedObject}
use Rattle.h5_open.specs.declared.opened.object.OpenedContent.TheVariants as content
use Rattle.h5_open.specs.Opened.Kept.{IsOpened}
use Rattle.h5_open.specs.Opened.Objects.{content_blocks, header_of, object_blocks, objects_of}
use Rattle.h5_open.proofs.EndKept.{k_kept}
use Rattle.h5_open.proofs.HardLinkAdded.{kinds_differ}
use Rattle.h5_open.proofs.HeaderInPlace.{header_standing}
use Rattle.h5_open.proofs.SuperblockKept.{field_left, long_left, superblock_in}
use Rattle.h5_open.proofs.TargetCounted.{two_cover}
use Rattle.h5_open.proofs.TouchedBlocks.{group_blocks}

module _ (old : Space) (slots : List (Option OpenedObject)) (numbers : BTreeMap ℕ ℕ) (opened : IsOpened old slots numbers) (parent : ℕ) (p : OpenedObject) (t : SymbolTable)
    (at : slice_get slots parent ≡ Some (Some p)) (kind : p.content ≡ content.Group t) (mid : Space) (moves : Moves old mid (blocks_told old.bytes t) (blocks_told mid.bytes t))
    (number : ℕ) (o : OpenedObject) (stands : slice_get slots number ≡ Some (Some o)) (array : o.content ≡ content.Array) where
  was : IsStanding old.bytes o.messages
  was = header_standing old slots numbers opened number o stands

  among : (q : ℕ) → cover q (blocks_told old.bytes t) + cover q o.messages.blocks ≤ cover q (flat_map (object_blocks old.bytes) (objects_of slots))
  among q =
      let same = ap (cover q) (group_blocks old.bytes p t kind) in
      omega (
        arith,
        two_cover old.bytes q slots parent number p o at stands (kinds_differ slots parent number p o t at stands kind array),
        same,
        cover-append q p.messages.blocks (blocks_told old.bytes t),
        cover-append q o.messages.blocks (content_blocks old.bytes (messages_in old.bytes o.messages.list) o.content),
      )

  stays : Keeps old.bytes mid.bytes o.messages.blocks
  stays = moves_kept old mid (blocks_told old.bytes t) (blocks_told mid.bytes t) o.messages.blocks moves
      (λ q. omega (arith, opened.apart q, among q, cover-append q (blocks_told old.bytes t) o.messages.blocks)) was.inside

  pub still_standing : IsStanding mid.bytes o.messages
  still_standing = standing_kept old.bytes mid.bytes o.messages moves.grown was stays

  -- it has the same messages
  pub still_listed : messages_in mid.bytes o.messages.list ≡ messages_in old.bytes o.messages.list
  still_listed = listed-same old.bytes mid.bytes o.messages was.has was.within stays

  -- and it counts as many links
  pub still_counted : reference_count (prefix_at mid.bytes (header_of o)) ≡ reference_count (prefix_at old.bytes (header_of o))
  still_counted = count_kept old.bytes mid.bytes o.messages was stays

  -- ---- the superblock stands apart from it

  same_size : superblock_length mid.bytes ≡ superblock_length old.bytes
  same_size = same_length mid.bytes old.bytes (k_kept old slots numbers opened mid (blocks_told old.bytes t) (blocks_told mid.bytes t) moves (λ q. omega (arith, among q)))

  apart : IsApart (o.messages.blocks ++ superblock_in mid.bytes ∷ []) mid.free (length mid.bytes)
  apart = subst (λ (n : ℕ). IsApart (o.messages.blocks ++ block 0 n ∷ []) mid.free (length mid.bytes)) (sym same_size) (λ q.
      let others : List Block = o.messages.blocks ++ superblock_in old.bytes ∷ [] in
      let before : IsApart (blocks_told old.bytes t ++ others) old.free (length old.bytes)
      = λ r. omega (arith, opened.apart r, among r, cover-append r (blocks_told old.bytes t) others, cover-append r o.messages.blocks (superblock_in old.bytes ∷ [])) in
      omega (arith, moves_apart old mid (blocks_told old.bytes t) (blocks_told mid.bytes t) others moves before q, cover-append q (blocks_told mid.bytes t) others))

  long : superblock_length mid.bytes ≤ length mid.bytes
  long = let whole = opened.reads.1.holds.superblock.whole in omega (arith, same_size, whole, moves.grown)

  -- where the header is written then, the superblock stays
  module _ (set : Space) (marked : Moves mid set o.messages.blocks o.messages.blocks) where
    pub marked_field : end_field set.bytes ≡ end_field mid.bytes
    marked_field = field_left mid set o.messages.blocks o.messages.blocks marked long apart

    pub marked_long : superblock_length set.bytes ≤ length set.bytes
    marked_long = long_left mid set o.messages.blocks o.messages.blocks marked long apart
