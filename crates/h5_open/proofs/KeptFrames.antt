-- What is kept of an object while a file is edited in place: where the bytes of its blocks stay, it stands in the image as before.
use Rattle.std.proofs.Common.{◌≡◌, ℕ, ◌≤◌, List, [], ◌∷◌, ◌++◌, length, sym, ap, ◌∙◌, subst, arith}
use Rattle.h5_bytes.specs.Blocks.{Keeps, Inside, IsKept}
use Rattle.h5_bytes.specs.declared.Block.{Block}
use Rattle.h5_bytes.proofs.BlockLaws.{all_left, all_right}
use Rattle.h5_model.specs.Format.Messages.{Message}
use Rattle.h5_model.specs.Format.Superblock.{k_values}
use Rattle.h5_model.proofs.KLaws.{same_chunk, same_internal, same_leaf}
use Rattle.h5_header.specs.Listed.{messages_in, IsWithin}
use Rattle.h5_header.proofs.KeptLaws.{listed-same, header-same}
use Rattle.h5_header.specs.declared.message.Message.{Message as Placed}
use Rattle.h5_group.specs.Told.{blocks_told}
use Rattle.h5_layout.specs.Told.{array_told, layout_told, type_told}
use Rattle.h5_group.proofs.ExactTrees.{exact-same}
use Rattle.h5_group.proofs.ToldLaws.{blocks_told-same, told-same}
use Rattle.h5_open.specs.declared.opened.object.OpenedObject.{OpenedObject}
use Rattle.h5_open.specs.declared.opened.object.OpenedContent.{OpenedContent}
use Rattle.h5_open.specs.declared.opened.object.OpenedContent.TheVariants as content
use Rattle.h5_open.specs.Opened.Kept.{IsObjectKept, IsContentKept, IsContentTidy}
use Rattle.h5_open.specs.Opened.Objects.{content_blocks, object_blocks}
use Rattle.h5_open.proofs.DataLaws.{data_blocks-same, data_read-same}
use Rattle.h5_open.proofs.TrimmedKept.{trimmed-same}

module _ (old new : List ℕ) (k : k_values new ≡ k_values old) (grown : length old ≤ length new) where
  inside_still : (blocks : List Block) → Inside (length old) blocks → Inside (length new) blocks
  inside_still [] inside = tt
  inside_still (b ∷ bs) inside = (omega (arith, inside.0, grown), inside_still bs inside.1)

  within_still : (list : List Placed) → IsWithin (length old) list → IsWithin (length new) list
  within_still [] within = tt
  within_still (m ∷ list) within = (omega (arith, within.0, grown), within_still list within.1)

  module _ (o : OpenedObject) (is : IsObjectKept old o) (kept : Keeps old new (object_blocks old o)) where
    abbrev ms : List Message
    ms = messages_in old o.messages.list

    header_kept : Keeps old new o.messages.blocks
    header_kept = all_left (IsKept old new) o.messages.blocks (content_blocks old ms o.content) kept

    content_kept : Keeps old new (content_blocks old ms o.content)
    content_kept = all_right (IsKept old new) o.messages.blocks (content_blocks old ms o.content) kept

    pub kept_messages : messages_in new o.messages.list ≡ ms
    kept_messages = listed-same old new o.messages is.header.has is.header.within header_kept

    blocks_of : (c : OpenedContent) → IsContentKept old ms c → Keeps old new (content_blocks old ms c) → content_blocks new ms c ≡ content_blocks old ms c
    blocks_of (content.Group table) held keeps = blocks_told-same old new (same_leaf new old k) (same_internal new old k) table held.2.linked keeps
    blocks_of content.Array held keeps = data_blocks-same old new grown (same_chunk new old k) (type_told ms) (layout_told ms) held.1 keeps

    pub kept_blocks : object_blocks new o ≡ object_blocks old o
    kept_blocks = ap (λ (bs : List Block). o.messages.blocks ++ bs)
        (ap (λ (l : List Message). content_blocks new l o.content) kept_messages ∙ blocks_of o.content is.content content_kept)

    content_of : (c : OpenedContent) → IsContentKept old ms c → Keeps old new (content_blocks old ms c) → IsContentKept new ms c
    content_of (content.Group table) held keeps =
        let same = blocks_told-same old new (same_leaf new old k) (same_internal new old k) table held.2.linked keeps in (
          held.0,
          held.1,
          record {
            linked = told-same old new (same_leaf new old k) (same_internal new old k) table held.2.linked keeps;
            inside = subst (Inside (length new)) (sym same) (inside_still (blocks_told old table) held.2.inside);
            few = rw (same_internal new old k) held.2.few;
          },
        )
    content_of content.Array held keeps = (held.0, data_read-same old new grown (same_chunk new old k) (type_told ms) (layout_told ms) held.1 keeps)

    tidy_of : (c : OpenedContent) → IsContentKept old ms c → Keeps old new (content_blocks old ms c) → IsContentTidy old ms c → IsContentTidy new ms c
    tidy_of (content.Group table) held keeps was = exact-same old new (same_leaf new old k) (same_internal new old k) table held.2.linked keeps was
    tidy_of content.Array held keeps was = λ chunked. trimmed-same old new grown (same_chunk new old k) (array_told ms) held.1 keeps (array_told ms).sizes (was chunked)

    pub kept-same : IsObjectKept new o
    kept-same = record {
      header = record {
        has = header-same old new o.messages is.header.has is.header.within header_kept;
        inside = inside_still o.messages.blocks is.header.inside;
        within = within_still o.messages.list is.header.within;
        names = rw kept_messages is.header.names;
        attributes = rw kept_messages is.header.attributes;
      };
      known = is.known;
      content = rw kept_messages (content_of o.content is.content content_kept);
      tidy = λ known. rw kept_messages (tidy_of o.content is.content content_kept (is.tidy known));
    }
