-- Objects whose headers stand where a table says are those of the tree as which the image reads with that table.
use Rattle.std.proofs.Common.{◌≡◌, ℕ, ◌+◌, List, [], ◌∷◌, map, refl, sym, ap, ap₂, ◌∙◌, subst, arith, Option, Some, None, drop}
use Rattle.std.specs.Prelude.{option_map}
use Rattle.std.specs.List.{AllByRecursion, AllZip, filter}
use Rattle.std.specs.Ordering.{nat_cmp}
use Rattle.std.specs.FinMap.{FinMap, get, entries, same_entries_map}
use Rattle.h5_bytes.specs.declared.Block.{Block}
use Rattle.h5_model.specs.Format.Addresses.{SymbolTable}
use Rattle.h5_model.specs.Format.Messages.{Message}
use Rattle.h5_model.specs.Format.Superblock.{leaf_k, internal_k}
use Rattle.h5_model.specs.Format.Symbols.{Target, Header, Text}
use Rattle.h5_model.specs.Format.Links.{HasLinks}
use Rattle.h5_model.specs.Tree.Objects.{Tree, Object, Content, Group, Array, Dataset, Link, Links, ToObject, Soft}
use Rattle.h5_model.specs.Format.Reads.{IsSame, HasDataset, HasContent, HasAttributes, HasObject, Placed, IsPlaced, Reads, is_kept, kept_of}
use Rattle.h5_model.specs.Format.Described.{described_dataset}
use Rattle.h5_model.proofs.OneReading.{some_same, one_messages, one_links, one_attributes, where_of, first_or}
use Rattle.h5_model.proofs.DescribedLaws.{in_header, dataset_in-in_header}
use Rattle.h5_header.specs.Listed.{messages_in}
use Rattle.h5_attr.specs.Attributes.{attributes_of}
use Rattle.h5_layout.specs.Data.{dataset_told}
use Rattle.h5_layout.specs.Told.{array_told}
use Rattle.h5_layout.proofs.ToldLaws.{told}
use Rattle.h5_group.specs.Told.{links_told, blocks_told}
use Rattle.h5_open.specs.declared.opened.object.OpenedObject.{OpenedObject}
use Rattle.h5_open.specs.declared.opened.object.OpenedContent.{OpenedContent}
use Rattle.h5_open.specs.declared.opened.object.OpenedContent.TheVariants as content
use Rattle.h5_open.specs.Opened.Kept.{IsObjectKept, IsContentKept}
use Rattle.h5_open.specs.Opened.Objects.{header_of, objects_of, numbered_objects, link_to, links_by, content_in, object_in, table_of, tree_of}
use Rattle.h5_open.proofs.DataLaws.{told_chunks}
use Rattle.h5_open.proofs.OpenedLaws.Entries.{table_entries, tree_entries, group_entries}
use Rattle.h5_open.proofs.OpenedLaws.HeaderNumbers.{number_is}

-- ---- contents

dataset_is : (image : List ℕ) (ms : List Message) (d : Dataset) (blocks : List Block) → HasDataset image ms d blocks → dataset_told image (array_told ms) ≡ d
dataset_is image ms d blocks has =
    let same : array_told ms ≡ in_header image ms d blocks has = told ms (in_header image ms d blocks has) has.array in
    ap (dataset_told image) same
    ∙ ap (described_dataset image (in_header image ms d blocks has)) (sym (told_chunks image d.fixed has.layout has.chunks blocks has.stored))
    ∙ dataset_in-in_header image ms d blocks has

module _ (image : List ℕ) (table : FinMap nat_cmp ℕ) (own : (a b h : ℕ) → get table a ≡ Some h → get table b ≡ Some h → a ≡ b) where
  -- a link of the tree is the file's link, by the number of the header
  link_is : (l : List ℕ × Link) (f : List ℕ × Target) → IsSame table l f → l ≡ (f.0, link_to table f.1)
  link_is (name, ToObject number) (name', Header header) is =
      ap₂ (λ (x : List ℕ) (n : ℕ). (x, ToObject n)) is.0 (sym (number_is table own number header is.1))
  link_is (name, ToObject number) (name', Text text) is = absurd is
  link_is (name, Soft text) (name', Header header) is = absurd is
  link_is (name, Soft text) (name', Text text') is = ap₂ (λ (x y : List ℕ). (x, Soft y)) is.0 is.1

  links_are : (ls : List (List ℕ × Link)) (found : List (List ℕ × Target)) → AllZip (IsSame table) ls found
      → ls ≡ map (λ (l : List ℕ × Target). (l.0, link_to table l.1)) found
  links_are [] [] same = refl
  links_are [] (f ∷ found) same = absurd same
  links_are (l ∷ ls) [] same = absurd same
  links_are (l ∷ ls) (f ∷ found) same = ap₂ (λ (x : List ℕ × Link) (xs : List (List ℕ × Link)). x ∷ xs) (link_is l f same.0) (links_are ls found same.1)

  content_is : (ms : List Message) (c : Content) (blocks : List Block) (o : OpenedContent) → HasContent image table ms c blocks → IsContentKept image ms o
      → content_in image table ms o ≡ c
  content_is ms (Group links) blocks (content.Group t) (found, has, same) (kinds, chosen, read) =
      let chosen_is : has.symbol_table ≡ t = some_same _ _ _ has.chosen chosen in
      let linked : HasLinks image (leaf_k image) (internal_k image) t.tree t.heap found blocks
      = subst (λ (s : SymbolTable). HasLinks image (leaf_k image) (internal_k image) s.tree s.heap found blocks) chosen_is has.linked in
      let one : found ≡ links_told image t
      = one_links image (leaf_k image) (internal_k image) t.tree t.heap found (links_told image t) blocks (blocks_told image t) linked read.linked in
      let listed : entries links ≡ entries (links_by table (links_told image t)) =
      links_are (entries links) found same
      ∙ ap (λ (ls : List (List ℕ × Target)). map (λ (l : List ℕ × Target). (l.0, link_to table l.1)) ls) one
      ∙ sym (group_entries image table t read) in
      ap (λ (ls : Links). Group ls) (sym (same_entries_map links (links_by table (links_told image t)) listed))
  content_is ms (Group links) blocks content.Array (found, has, same) (list, read) = absurd (omega (arith, has.once, (list.kinds).no_table))
  content_is ms (Array d) blocks (content.Group t) has (kinds, chosen, read) = absurd (omega (arith, has.array.one_space, (kinds.alone).0))
  content_is ms (Array d) blocks content.Array has (list, read) = ap (λ (x : Dataset). Array x) (dataset_is image ms d blocks has)

  -- ---- objects

  pub object_is : (p : OpenedObject) (o : Object) (blocks : List Block) → IsObjectKept image p → HasObject image table p.messages.header o blocks → object_in image table p ≡ o
  object_is p o blocks kept has =
      let ms : has.messages ≡ messages_in image p.messages.list
      = one_messages image p.messages.header has.messages (messages_in image p.messages.list) has.header_blocks p.messages.blocks has.listed (kept.header).has in
      let content_there : HasContent image table (messages_in image p.messages.list) o.content has.content_blocks
      = subst (λ (l : List Message). HasContent image table l o.content has.content_blocks) ms has.content in
      let attributes_there : HasAttributes (messages_in image p.messages.list) o.attributes = subst (λ (l : List Message). HasAttributes l o.attributes) ms has.attributes in
      let content : content_in image table (messages_in image p.messages.list) p.content ≡ o.content
      = content_is (messages_in image p.messages.list) o.content has.content_blocks p.content content_there kept.content in
      let attributes : attributes_of (messages_in image p.messages.list) ≡ o.attributes
      = one_attributes (messages_in image p.messages.list) (attributes_of (messages_in image p.messages.list)) o.attributes (kept.header).attributes attributes_there in
      let kept_there : map kept_of (filter is_kept (messages_in image p.messages.list)) ≡ o.kept
      = sym (has.kept ∙ ap (λ (l : List Message). map kept_of (filter is_kept l)) ms) in
      λ i. record { content = content i; attributes = attributes i; kept = kept_there i }

abbrev what_of : Placed → ℕ × Object
what_of x = (x.number, x.object)

objects_are : (image : List ℕ) (table : FinMap nat_cmp ℕ) → ((a b h : ℕ) → get table a ≡ Some h → get table b ≡ Some h → a ≡ b) → (n : ℕ) (slots : List (Option OpenedObject))
    (placed : List Placed) → numbered_objects n (map (option_map header_of) slots) ≡ map where_of placed → AllByRecursion (IsObjectKept image) (objects_of slots)
    → AllByRecursion (IsPlaced image table) placed → numbered_objects n (map (option_map (object_in image table)) slots) ≡ map what_of placed
objects_are image table own n [] [] keys kept each = refl
objects_are image table own n [] (x ∷ placed) keys kept each = cc
objects_are image table own n (None ∷ slots) placed keys kept each = objects_are image table own (n + 1) slots placed keys kept each
objects_are image table own n (Some p ∷ slots) [] keys kept each = cc
objects_are image table own n (Some p ∷ slots) (x ∷ placed) keys kept each =
    let number : n ≡ x.number = ap (λ (ks : List (ℕ × ℕ)). (first_or ks).0) keys in
    let header : p.messages.header ≡ x.header = ap (λ (ks : List (ℕ × ℕ)). (first_or ks).1) keys in
    let rest : numbered_objects (n + 1) (map (option_map header_of) slots) ≡ map where_of placed = ap (λ (ks : List (ℕ × ℕ)). drop 1 ks) keys in
    let here : HasObject image table p.messages.header x.object x.blocks
    = subst (λ (h : ℕ). HasObject image table h x.object x.blocks) (sym header) each.0 in
    let object : object_in image table p ≡ x.object = object_is image table own p x.object x.blocks kept.0 here in
    ap₂ (λ (o : ℕ × Object) (os : List (ℕ × Object)). o ∷ os) (ap₂ (λ (k : ℕ) (o : Object). (k, o)) number object)
    (objects_are image table own (n + 1) slots placed rest kept.1 each.1)

-- where the image reads as a tree whose objects have these headers, it reads as the tree that the objects tell
pub same_tree : (image : List ℕ) (slots : List (Option OpenedObject)) (tree : Tree) → AllByRecursion (IsObjectKept image) (objects_of slots) → Reads image (table_of slots) tree
    → tree_of image slots ≡ tree
same_tree image slots tree kept reads =
    same_entries_map (tree_of image slots) tree
    (tree_entries image slots
    ∙ objects_are image (table_of slots) reads.1.holds.own 0 slots reads.0 (sym (table_entries slots) ∙ reads.1.holds.numbered) kept reads.1.holds.each
    ∙ sym reads.1.holds.objects)
