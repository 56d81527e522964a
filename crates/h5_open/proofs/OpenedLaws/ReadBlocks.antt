-- The blocks of a reading are those that what is kept of its objects tells.
use Rattle.std.proofs.Common.{◌≡◌, ℕ, ◌+◌, List, [], ◌∷◌, ◌++◌, map, refl, sym, ap, ap₂, ◌∙◌, subst, arith, Option, Some, None, drop}
use Rattle.std.specs.Prelude.{option_map}
use Rattle.std.specs.List.{AllByRecursion, AllZip, filter, flat_map}
use Rattle.std.specs.Ordering.{nat_cmp}
use Rattle.std.specs.FinMap.{FinMap, entries}
use Rattle.h5_bytes.specs.Blocks.{block}
use Rattle.h5_bytes.specs.declared.Block.{Block}
use Rattle.h5_model.specs.Format.Addresses.{SymbolTable}
use Rattle.h5_model.specs.Format.Messages.{Message}
use Rattle.h5_model.specs.Format.Reads.{Placed, IsPlaced, IsSame, HasAttributes, HasContent, HasDataset, HasGroup, HasObject, ReadsAs, all_blocks, is_kept, kept_of}
use Rattle.h5_model.specs.Format.Superblock.{superblock_length}
use Rattle.h5_model.specs.Format.Symbols.{Target}
use Rattle.h5_model.specs.Format.Described.{Described}
use Rattle.h5_model.specs.Tree.Objects.{Tree, Content, Group, Array, Dataset, Object}
use Rattle.h5_model.proofs.OneReading.{one_group, one_messages, where_of, first_or}
use Rattle.h5_model.proofs.DescribedLaws.{in_header}
use Rattle.h5_laws.proofs.InPlace.OneBlocks.{one_blocks}
use Rattle.h5_header.specs.Listed.{messages_in}
use Rattle.h5_group.specs.Told.{links_told, blocks_told}
use Rattle.h5_layout.specs.Data.{data_blocks}
use Rattle.h5_layout.specs.Told.{array_told, layout_told, type_told}
use Rattle.h5_layout.proofs.ToldLaws.{told}
use Rattle.h5_open.specs.declared.opened.object.OpenedObject.{OpenedObject}
use Rattle.h5_open.specs.declared.opened.object.OpenedContent.{OpenedContent}
use Rattle.h5_open.specs.declared.opened.object.OpenedContent.TheVariants as content
use Rattle.h5_open.specs.Opened.Kept.{IsObjectKept, IsContentKept}
use Rattle.h5_open.specs.Opened.Objects.{header_of, objects_of, numbered_objects, content_blocks, object_blocks, opened_blocks, table_of}
use Rattle.h5_open.proofs.DataLaws.{told_blocks}
use Rattle.h5_open.proofs.OpenedLaws.Entries.{table_entries}

-- ---- contents

pub dataset_blocks : (image : List ℕ) (ms : List Message) (d : Dataset) (blocks : List Block) → HasDataset image ms d blocks → blocks ≡ data_blocks image (type_told ms) (layout_told ms)
dataset_blocks image ms d blocks has =
    let same : array_told ms ≡ in_header image ms d blocks has = told ms (in_header image ms d blocks has) has.array in
    told_blocks image d.fixed has.layout has.chunks blocks has.stored ∙ ap (λ (a : Described). data_blocks image a.fixed a.layout) (sym same)

-- a group with the links that its table tells
pub group_kept : (image : List ℕ) (ms : List Message) (found : List (List ℕ × Target)) (blocks : List Block) (t : SymbolTable) → HasGroup image ms found blocks
    → IsContentKept image ms (content.Group t) → HasGroup image ms (links_told image t) (blocks_told image t)
group_kept image ms found blocks t has (kinds, chosen, read) = record { known = has.known; once = has.once; symbol_table = t; chosen = chosen; linked = read.linked }

module _ (image : List ℕ) (table : FinMap nat_cmp ℕ) where
  content_kept : (ms : List Message) (c : Content) (blocks : List Block) (o : OpenedContent) → HasContent image table ms c blocks → IsContentKept image ms o
      → HasContent image table ms c (content_blocks image ms o)
  content_kept ms (Group links) blocks (content.Group t) (found, has, same) kept =
      let there = group_kept image ms found blocks t has kept in
      (links_told image t, there, subst (AllZip (IsSame table) (entries links)) (one_group image ms found (links_told image t) blocks (blocks_told image t) has there) same)
  content_kept ms (Group links) blocks content.Array (found, has, same) (list, read) = absurd (omega (arith, has.once, (list.kinds).no_table))
  content_kept ms (Array d) blocks (content.Group t) has (kinds, chosen, read) = absurd (omega (arith, has.array.one_space, (kinds.alone).0))
  content_kept ms (Array d) blocks content.Array has (list, read) = subst (HasDataset image ms d) (dataset_blocks image ms d blocks has) has

  -- ---- objects

  pub blocks_kept : (p : OpenedObject) (o : Object) (blocks : List Block) → IsObjectKept image p → HasObject image table p.messages.header o blocks → object_blocks image p ≡ blocks
  blocks_kept p o blocks kept has =
      let list = messages_in image p.messages.list in
      let ms : has.messages ≡ list = one_messages image p.messages.header has.messages list has.header_blocks p.messages.blocks has.listed (kept.header).has in
      one_blocks image table p.messages.header o o (object_blocks image p) blocks
      (record {
        messages = list;
        header_blocks = p.messages.blocks;
        listed = (kept.header).has;
        content_blocks = content_blocks image list p.content;
        content = content_kept list o.content has.content_blocks p.content (subst (λ (l : List Message). HasContent image table l o.content has.content_blocks) ms has.content) kept.content;
        attributes = subst (λ (l : List Message). HasAttributes l o.attributes) ms has.attributes;
        kept = has.kept ∙ ap (λ (l : List Message). map kept_of (filter is_kept l)) ms;
        laid = refl;
      })
      has

  each_blocks : (n : ℕ) (slots : List (Option OpenedObject)) (placed : List Placed) → numbered_objects n (map (option_map header_of) slots) ≡ map where_of placed
      → AllByRecursion (IsObjectKept image) (objects_of slots) → AllByRecursion (IsPlaced image table) placed
      → flat_map (object_blocks image) (objects_of slots) ≡ flat_map (λ (x : Placed). x.blocks) placed
  each_blocks n [] [] keys kept each = refl
  each_blocks n [] (x ∷ placed) keys kept each = cc
  each_blocks n (None ∷ slots) placed keys kept each = each_blocks (n + 1) slots placed keys kept each
  each_blocks n (Some p ∷ slots) [] keys kept each = cc
  each_blocks n (Some p ∷ slots) (x ∷ placed) keys kept each =
      let header : p.messages.header ≡ x.header = ap (λ (ks : List (ℕ × ℕ)). (first_or ks).1) keys in
      let rest : numbered_objects (n + 1) (map (option_map header_of) slots) ≡ map where_of placed = ap (λ (ks : List (ℕ × ℕ)). drop 1 ks) keys in
      let here : HasObject image table p.messages.header x.object x.blocks = subst (λ (h : ℕ). HasObject image table h x.object x.blocks) (sym header) each.0 in
      ap₂ (λ (bs cs : List Block). bs ++ cs) (blocks_kept p x.object x.blocks kept.0 here) (each_blocks (n + 1) slots placed rest kept.1 each.1)

-- ---- the image

pub opened_all : (image : List ℕ) (slots : List (Option OpenedObject)) (tree : Tree) (placed : List Placed) → AllByRecursion (IsObjectKept image) (objects_of slots)
    → ReadsAs image (table_of slots) tree placed → opened_blocks image (objects_of slots) ≡ all_blocks image placed
opened_all image slots tree placed kept reads =
    ap (λ (bs : List Block). block 0 (superblock_length image) ∷ bs)
    (each_blocks image (table_of slots) 0 slots placed (sym (table_entries slots) ∙ reads.holds.numbered) kept reads.holds.each)
