-- As many fields name a header as links lead there.
use Rattle.std.proofs.Common.{◌≡◌, ℕ, ◌+◌, List, [], ◌∷◌, refl, sym, ap, ◌∙◌, subst, arith, Option, None}
use Rattle.std.specs.Prelude.{◌==◌, if◌then◌else◌}
use Rattle.std.specs.Option.{option_map_or}
use Rattle.std.specs.Ordering.{nat_cmp}
use Rattle.std.specs.FinMap.{FinMap}
use Rattle.std.specs.List.{AllByRecursion, flat_map, find}
use Rattle.h5_model.specs.Format.Addresses.{SymbolTable, symbol_table_of}
use Rattle.h5_model.specs.Format.Heap.{segment_of}
use Rattle.h5_model.specs.Format.MessageTypes.{symbol_table_kind}
use Rattle.h5_model.specs.Format.Messages.{Message}
use Rattle.h5_model.specs.Format.Reads.{IsPlaced}
use Rattle.h5_model.specs.Format.Symbols.{Target, Header, Text}
use Rattle.h5_model.specs.Format.Superblock.{root_header}
use Rattle.h5_model.specs.Faults.TreeFaults.{all_entries}
use Rattle.h5_model.proofs.OneReading.{one_messages}
use Rattle.h5_header.specs.Listed.{messages_in}
use Rattle.h5_group.specs.Told.{links_told, blocks_told, symbol_nodes_told}
use Rattle.h5_group.proofs.ToldLaws.{symbol_nodes_are_told}
use Rattle.h5_open.specs.declared.opened.object.OpenedObject.{OpenedObject}
use Rattle.h5_open.specs.declared.opened.object.OpenedContent.{OpenedContent}
use Rattle.h5_open.specs.declared.opened.object.OpenedContent.TheVariants as content
use Rattle.h5_open.specs.Opened.Kept.{IsContentKept, IsObjectKept}
use Rattle.h5_open.specs.Opened.Objects.{content_links}
use Rattle.h5_open.specs.Placed.Whole.{placed_from}
use Rattle.h5_laws.proofs.Counts.{counted}
use Rattle.h5_laws.proofs.Datasets.{find_none, said_first}
use Rattle.h5_laws.proofs.LinkFields as fields
use Rattle.h5_laws.proofs.LinkFields.{aimed, aimed_entries, nodes_count, node_links, table_links, placed_links}
use Rattle.h5_laws.proofs.Pigeonhole.{linking, linking-append}
use Rattle.h5_open.specs.Counted.Links.{leading_links, object_links, all_links}
use Rattle.h5_open.proofs.CountedLaws.CountLaws.{leading-append}

leading_aimed : (h : ℕ) (ls : List (List ℕ × Target)) → leading_links h ls ≡ aimed h ls
leading_aimed h [] = refl
leading_aimed h ((name, Header a) ∷ ls) = ap (λ (n : ℕ). (if a == h then 1 else 0) + n) (leading_aimed h ls)
leading_aimed h ((name, Text t) ∷ ls) = omega (arith, leading_aimed h ls)

module _ (image : List ℕ) (h : ℕ) where
  -- those of a group
  group_count : (ms : List Message) (t : SymbolTable) → IsContentKept image ms (content.Group t) → linking h (fields.object_links image ms) ≡ leading_links h (links_told image t)
  group_count ms t kept =
      let first = said_first symbol_table_of symbol_table_kind ms t kept.1 in
      let nodes = symbol_nodes_told image t in
      let links : fields.object_links image ms ≡ flat_map (node_links image) nodes
      = table_links image ms first.0 t (links_told image t) (blocks_told image t) first.1 first.2 kept.2.linked ∙ ap (flat_map (node_links image)) (symbol_nodes_are_told image t (links_told image t) (blocks_told image t) kept.2.linked) in
      ap (linking h) links ∙ nodes_count image h nodes ∙ sym (aimed_entries (segment_of image t.heap) h (all_entries image nodes)) ∙ sym (leading_aimed h (links_told image t))

  -- those of an object
  content_count : (ms : List Message) (c : OpenedContent) → IsContentKept image ms c → linking h (fields.object_links image ms) ≡ leading_links h (content_links image c)
  content_count ms (content.Group t) kept = group_count ms t kept
  content_count ms content.Array kept =
      let none : find (λ (m : Message). m.kind == symbol_table_kind) ms ≡ None
      = find_none symbol_table_kind ms (λ m at is. absurd (omega (arith, counted symbol_table_kind ms m at is, kept.0.kinds.no_table))) in
      ap (λ (o : Option Message). linking h (option_map_or (λ (x : Message). option_map_or (λ (t : SymbolTable). fields.tree_links image t.tree) (symbol_table_of x.body) []) o [])) none

  -- those of several objects
  objects_count : (table : FinMap nat_cmp ℕ) (n : ℕ) (objects : List OpenedObject) (each : AllByRecursion (IsPlaced image table) (placed_from image table n objects))
      → AllByRecursion (IsObjectKept image) objects → linking h (placed_links image table (placed_from image table n objects) each) ≡ leading_links h (object_links image objects)
  objects_count table n [] each kept = refl
  objects_count table n (o ∷ objects) each kept =
      let ms = messages_in image o.messages.list in
      let same : ms ≡ each.0.messages = one_messages image o.messages.header ms each.0.messages o.messages.blocks each.0.header_blocks kept.0.header.has each.0.listed in
      let a : linking h (fields.object_links image each.0.messages) ≡ leading_links h (content_links image o.content)
      = subst (λ (x : List Message). linking h (fields.object_links image x) ≡ leading_links h (content_links image o.content)) same (content_count ms o.content kept.0.content) in
      let b = linking-append h (fields.object_links image each.0.messages) (placed_links image table (placed_from image table (n + 1) objects) each.1) in
      let c = leading-append h (content_links image o.content) (object_links image objects) in
      let d = objects_count table (n + 1) objects each.1 kept.1 in
      omega (arith, a, b, c, d)

  -- all of them
  pub fields_count : (table : FinMap nat_cmp ℕ) (objects : List OpenedObject) (each : AllByRecursion (IsPlaced image table) (placed_from image table 0 objects))
      → AllByRecursion (IsObjectKept image) objects → linking h (fields.all_links image table (placed_from image table 0 objects) each) ≡ leading_links h (all_links image objects)
  fields_count table objects each kept = ap (λ (n : ℕ). (if root_header image == h then 1 else 0) + n) (objects_count table 0 objects each kept)
