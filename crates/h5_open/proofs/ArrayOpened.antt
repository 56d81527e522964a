-- An opened image in which data of an array were written where they stand: what is kept of its objects is kept still.
use Rattle.std.proofs.Common.{◌≡◌, ℕ, ◌+◌, ◌≤◌, List, [], ◌∷◌, ◌++◌, length, refl, sym, ap, ◌∙◌, subst, arith, Option, Some, None}
use Rattle.std.specs.Prelude.{option_and_then, option_map, slice_get}
use Rattle.std.specs.Option.{option_flatten}
use Rattle.std.specs.Ordering.{nat_cmp}
use Rattle.std.specs.BTreeMap.{BTreeMap}
use Rattle.std.specs.FinMap.{FinMap}
use Rattle.std.proofs.lemmas.Option.{same_Some}
use Rattle.h5_bytes.specs.Blocks.{block, cover, Inside, Keeps}
use Rattle.h5_bytes.specs.declared.Block.{Block}
use Rattle.h5_bytes.proofs.BlockLaws.{cover-append, holds-le}
use Rattle.h5_model.specs.Edits.Applied.{with_dataset}
use Rattle.h5_model.specs.Format.Messages.{Message, reference_count}
use Rattle.h5_model.specs.Format.Superblock.{superblock_length}
use Rattle.h5_model.specs.Tree.Objects.{Tree, Object, Array, Dataset, dataset_in, dataset_of, with_object}
use Rattle.h5_space.specs.Space.{Space}
use Rattle.h5_space.specs.Moves.{Moves}
use Rattle.h5_space.proofs.MovesLaws.{moves_kept}
use Rattle.h5_header.specs.Listed.{messages_in, IsWithin}
use Rattle.h5_header.proofs.KeptLaws.{listed-same, header-same}
use Rattle.h5_layout.specs.Data.{AreDataRead, data_blocks, dataset_told}
use Rattle.h5_layout.specs.Told.{array_told, layout_told, type_told}
use Rattle.h5_open.specs.declared.opened.object.OpenedObject.{OpenedObject}
use Rattle.h5_open.specs.declared.opened.object.OpenedContent.{OpenedContent}
use Rattle.h5_open.specs.declared.opened.object.OpenedContent.TheVariants as content
use Rattle.h5_open.specs.Opened.Kept.{AreChunksTrimmed, IsContentKept, IsContentTidy, IsObjectKept, IsOpened}
use Rattle.h5_open.specs.Opened.Objects.{content_blocks, content_in, object_blocks, object_in, table_of, tree_of}
use Rattle.h5_open.specs.Opened.Sound.{IsObjectOf}
use Rattle.h5_open.specs.Opened.State.{opened_state}
use Rattle.h5_open.specs.ChangedInPlace.{IsChangedInPlace}
use Rattle.h5_open.specs.Opened.Headers.{object_with}
use Rattle.h5_open.specs.SlotsInPlace.{IsOneRemade}
use Rattle.h5_model.proofs.Frames.{prefix-same}
use Rattle.h5_open.proofs.OneRemade.{one_changed, one_cover, one_opened, one_tree, written_remade}
use Rattle.h5_open.proofs.OpenedLaws.Entries.{get_tree}
use Rattle.h5_open.proofs.OpenedLaws.Sounds.{object_of}

-- ---- the array

-- what is kept of an array tells the dataset
pub array_kept : (image : List ℕ) (table : FinMap nat_cmp ℕ) (ms : List Message) (c : OpenedContent) (d : Dataset) → dataset_in (content_in image table ms c) ≡ Some d
    → (c ≡ content.Array) × (d ≡ dataset_told image (array_told ms))
array_kept image table ms (content.Group t) d is = absurd (let never : None ≡ Some d = is in cc)
array_kept image table ms content.Array d is = (refl, sym (same_Some _ d is))

-- the slot of a number of the tree
pub slot_there : (image : List ℕ) (slots : List (Option OpenedObject)) (number : ℕ) (d : Dataset) → dataset_of (tree_of image slots) number ≡ Some d
    → (p : OpenedObject) × (slice_get slots number ≡ Some (Some p))
slot_there image slots number d is = go (slice_get slots number) refl (sym (ap (option_and_then (λ (o : Object). dataset_in o.content)) (get_tree image slots number)) ∙ is) where
  go : (slot : Option (Option OpenedObject)) → slice_get slots number ≡ slot
      → option_and_then (λ (o : Object). dataset_in o.content) (option_map (object_in image (table_of slots)) (option_flatten slot)) ≡ Some d
      → (p : OpenedObject) × (slice_get slots number ≡ Some (Some p))
  go None at there = absurd (let never : None ≡ Some d = there in cc)
  go (Some None) at there = absurd (let never : None ≡ Some d = there in cc)
  go (Some (Some p)) at there = (p, at)

module _ (old : Space) (slots : List (Option OpenedObject)) (numbers : BTreeMap ℕ ℕ) (opened : IsOpened old slots numbers) (number : ℕ) (p : OpenedObject) (at : slice_get slots number ≡ Some (Some p)) where
  abbrev table : FinMap nat_cmp ℕ
  table = table_of slots

  abbrev tree : Tree
  tree = tree_of old.bytes slots

  abbrev pub ms : List Message
  ms = messages_in old.bytes p.messages.list

  abbrev pub of : IsObjectOf (opened_state old slots) number p
  of = object_of old slots numbers opened number p at

  pub header_within : IsWithin (length old.bytes) p.messages.list
  header_within = of.kept.header.within

  -- what is kept of an array of the tree
  pub kept_array : (d : Dataset) → dataset_of tree number ≡ Some d → (p.content ≡ content.Array) × (d ≡ dataset_told old.bytes (array_told ms))
  kept_array d is = array_kept old.bytes table ms p.content d (ap (option_and_then (λ (o : Object). dataset_in o.content)) (sym of.there) ∙ is)

  module _ (is_array : p.content ≡ content.Array) where
    pub array_content : IsContentKept old.bytes ms content.Array
    array_content = subst (IsContentKept old.bytes ms) is_array of.kept.content

    abbrev pub its_blocks : List Block
    its_blocks = data_blocks old.bytes (type_told ms) (layout_told ms)

    -- the blocks of the array
    parts : (q : ℕ) → cover q (object_blocks old.bytes p) ≡ cover q p.messages.blocks + cover q its_blocks
    parts q =
        let content = ap (λ (c : OpenedContent). cover q (content_blocks old.bytes ms c)) is_array in
        omega (arith, content, cover-append q p.messages.blocks (content_blocks old.bytes ms p.content))

    -- share no byte with each other and with the superblock
    pub data_once : (q : ℕ) → cover q (block 0 (superblock_length old.bytes) ∷ its_blocks) ≤ 1
    data_once q = omega (arith, opened.apart q, one_cover q (object_blocks old.bytes) slots number p at, parts q, holds-le q 0 (length old.bytes))

    module _ (new : Space) (moves : Moves old new its_blocks its_blocks) (long : length new.bytes ≡ length old.bytes) where
      pub header_kept : Keeps old.bytes new.bytes p.messages.blocks
      header_kept = moves_kept old new its_blocks its_blocks p.messages.blocks moves
          (λ q. omega (arith, opened.apart q, one_cover q (object_blocks old.bytes) slots number p at, parts q, cover-append q its_blocks p.messages.blocks)) of.kept.header.inside

      pub same_messages : messages_in new.bytes p.messages.list ≡ ms
      same_messages = listed-same old.bytes new.bytes p.messages of.kept.header.has of.kept.header.within header_kept

      -- ---- the data

      module _ (read_now : AreDataRead new.bytes (type_told ms) (layout_told ms)) (blocks_now : data_blocks new.bytes (type_told ms) (layout_told ms) ≡ its_blocks)
          (trimmed_now : AreChunksTrimmed old.bytes (array_told ms) → AreChunksTrimmed new.bytes (array_told ms))
          (change : Dataset → Dataset) (told_now : dataset_told new.bytes (array_told ms) ≡ change (dataset_told old.bytes (array_told ms))) where
        array_still : IsObjectKept new.bytes p
        array_still = record {
          header = record {
            has = header-same old.bytes new.bytes p.messages of.kept.header.has of.kept.header.within header_kept;
            inside = subst (λ (n : ℕ). Inside n p.messages.blocks) (sym long) of.kept.header.inside;
            within = subst (λ (n : ℕ). IsWithin n p.messages.list) (sym long) of.kept.header.within;
            names = rw same_messages of.kept.header.names;
            attributes = rw same_messages of.kept.header.attributes;
          };
          known = of.kept.known;
          content = rw (same_messages, is_array) (array_content.0, read_now);
          tidy = λ known. subst (IsContentTidy new.bytes (messages_in new.bytes p.messages.list)) (sym is_array)
              (subst (λ (l : List Message). AreChunksTrimmed new.bytes (array_told l)) (sym same_messages)
              (trimmed_now (subst (IsContentTidy old.bytes ms) is_array (of.kept.tidy known))));
        }

        remade : IsOneRemade old new slots slots number p p
        remade = written_remade old new slots numbers opened number p at its_blocks (λ q. omega (arith, parts q)) moves long array_still (rw is_array tt)
            (ap reference_count (prefix-same old.bytes new.bytes p.messages.header ms p.messages.blocks of.kept.header.has header_kept))
            (rw (same_messages, is_array) (ap (λ (bs : List Block). p.messages.blocks ++ bs) blocks_now))

        -- the image is one that was opened
        pub still_opened : IsOpened new slots numbers
        still_opened = one_opened old new slots slots numbers opened number p p remade

        pub array_changed : IsChangedInPlace (opened_state old slots) (opened_state new slots) (with_object tree number (with_dataset change)) (length slots) (number ∷ []) 0
        array_changed = subst (λ (t : Tree). IsChangedInPlace (opened_state old slots) (opened_state new slots) t (length slots) (number ∷ []) 0)
            (one_tree old new slots slots numbers opened number p p remade (with_dataset change)
            (rw (same_messages, is_array) (ap (λ (d : Dataset). object_with (Array d) ms) told_now)))
            (one_changed old new slots slots numbers opened number p p remade 0 (omega (arith, long)))
