-- An array of an opened image whose header stands with the messages that it had, and whose data keep their bytes: it is what it was.
use Rattle.std.proofs.Common.{◌≡◌, ℕ, ◌≤◌, List, ◌++◌, length, sym, ap, ◌∙◌, subst}
use Rattle.std.specs.Ordering.{nat_cmp}
use Rattle.std.specs.FinMap.{FinMap}
use Rattle.h5_bytes.specs.Blocks.{Inside, Keeps}
use Rattle.h5_bytes.specs.declared.Block.{Block}
use Rattle.h5_model.specs.Format.Superblock.{k_values}
use Rattle.h5_model.specs.Format.Messages.{Message}
use Rattle.h5_model.specs.Tree.Objects.{Content, Array}
use Rattle.h5_model.proofs.KLaws.{same_chunk}
use Rattle.h5_header.specs.Listed.{messages_in}
use Rattle.h5_header.specs.Standing.{IsStanding}
use Rattle.h5_layout.specs.Data.{data_blocks, dataset_told}
use Rattle.h5_layout.specs.Told.{array_told, layout_told, type_told}
use Rattle.h5_open.specs.declared.opened.object.OpenedObject.{OpenedObject}
use Rattle.h5_open.specs.declared.opened.object.OpenedContent.{OpenedContent}
use Rattle.h5_open.specs.declared.opened.object.OpenedContent.TheVariants as content
use Rattle.h5_open.specs.Opened.Headers.{object_with}
use Rattle.h5_open.specs.Opened.Kept.{IsContentKept, IsObjectKept, IsContentTidy}
use Rattle.h5_open.specs.Opened.Objects.{content_blocks, content_in, object_blocks, object_in}
use Rattle.h5_open.proofs.DataLaws.{data_blocks-same, data_inside, data_read-same, dataset_told-same}
use Rattle.h5_open.proofs.TrimmedKept.{trimmed-same}

-- the blocks of its data
abbrev pub data_of : List ℕ → OpenedObject → List Block
data_of image o = data_blocks image (type_told (messages_in image o.messages.list)) (layout_told (messages_in image o.messages.list))

module _ (old : List ℕ) (o : OpenedObject) (kept : IsObjectKept old o) (array : o.content ≡ content.Array) where
  abbrev ms : List Message
  ms = messages_in old o.messages.list

  kept_array : IsContentKept old ms content.Array
  kept_array = subst (IsContentKept old ms) array kept.content

  pub array_parts : object_blocks old o ≡ o.messages.blocks ++ data_of old o
  array_parts = ap (λ (c : OpenedContent). o.messages.blocks ++ content_blocks old ms c) array

  pub array_data : Inside (length old) (data_of old o)
  array_data = data_inside old (type_told ms) (layout_told ms) kept_array.1

  module _ (new : List ℕ) (k : k_values new ≡ k_values old) (grown : length old ≤ length new) (standing : IsStanding new o.messages) (list_stays : messages_in new o.messages.list ≡ messages_in old o.messages.list)
      (data_stay : Keeps old new (data_of old o)) where
    abbrev ms' : List Message
    ms' = messages_in new o.messages.list

    content_now : IsContentKept new ms' o.content
    content_now = subst (IsContentKept new ms') (sym array) (subst (λ (l : List Message). IsContentKept new l content.Array) (sym list_stays)
        (kept_array.0, data_read-same old new grown (same_chunk new old k) (type_told ms) (layout_told ms) kept_array.1 data_stay))

    tidy_now : IsContentTidy old ms o.content → IsContentTidy new ms' o.content
    tidy_now was =
        let before : IsContentTidy old ms content.Array = subst (IsContentTidy old ms) array was in
        subst (IsContentTidy new ms') (sym array) (subst (λ (l : List Message). IsContentTidy new l content.Array) (sym list_stays)
        (λ chunked. trimmed-same old new grown (same_chunk new old k) (array_told ms) kept_array.1 data_stay (array_told ms).sizes (before chunked)))

    pub array_kept : IsObjectKept new o
    array_kept = record {
      header = record {
        has = standing.has;
        inside = standing.inside;
        within = standing.within;
        names = rw list_stays kept.header.names;
        attributes = rw list_stays kept.header.attributes;
      };
      known = kept.known;
      content = content_now;
      tidy = λ known. tidy_now (kept.tidy known);
    }

    pub array_blocks : object_blocks new o ≡ object_blocks old o
    array_blocks =
        ap (λ (c : OpenedContent). o.messages.blocks ++ content_blocks new ms' c) array
        ∙ ap (λ (l : List Message). o.messages.blocks ++ content_blocks new l content.Array) list_stays
        ∙ ap (λ (bs : List Block). o.messages.blocks ++ bs) (data_blocks-same old new grown (same_chunk new old k) (type_told ms) (layout_told ms) kept_array.1 data_stay)
        ∙ sym array_parts

    pub array_same : (table : FinMap nat_cmp ℕ) → object_in new table o ≡ object_in old table o
    array_same table =
        let content_is : content_in new table ms' o.content ≡ content_in old table ms o.content
        = ap (content_in new table ms') array
        ∙ ap (λ (l : List Message). Array (dataset_told new (array_told l))) list_stays
        ∙ ap Array (dataset_told-same old new grown (same_chunk new old k) (array_told ms) kept_array.1 data_stay)
        ∙ sym (ap (content_in old table ms) array) in
        ap (λ (c : Content). object_with c ms') content_is ∙ ap (object_with (content_in old table ms o.content)) list_stays
