-- The tagged blocks of an object are its blocks.
use Rattle.std.proofs.Common.{◌≡◌, ◌⊎◌, inl, inr, ℕ, ◌+◌, ◌*◌, List, [], ◌++◌, length, sym, ap, ap₂, ◌∙◌, Option, Some, None, true, false, append-nil}
use Rattle.std.proofs.lemmas.List.{map-append}
use Rattle.std.specs.Prelude.{◌==◌}
use Rattle.std.specs.Option.{option_map_or}
use Rattle.std.specs.Ordering.{nat_cmp}
use Rattle.std.specs.FinMap.{FinMap, values}
use Rattle.std.specs.List.{find}
use Rattle.h5_bytes.specs.Blocks.{block}
use Rattle.h5_bytes.specs.declared.Block.{Block}
use Rattle.h5_model.specs.Format.Addresses.{SymbolTable, symbol_table_of}
use Rattle.h5_model.specs.Format.MessageTypes.{data_layout_kind, symbol_table_kind}
use Rattle.h5_model.specs.Format.Messages.{Message}
use Rattle.h5_model.specs.Format.Nodes.{chunk_kind}
use Rattle.h5_model.specs.Format.Symbols.{Target}
use Rattle.h5_model.specs.Format.Fixed.{Fixed}
use Rattle.h5_model.specs.Tree.Places.{cells}
use Rattle.h5_model.specs.Format.Layout.{Layout, InMessage, InBlock, InChunks, layout_of}
use Rattle.h5_model.specs.Format.Chunks.{Chunks}
use Rattle.h5_model.specs.Format.Superblock.{chunk_k}
use Rattle.h5_model.specs.Tree.Objects.{Object, Dataset}
use Rattle.h5_model.specs.Format.Reads.{HasObject, HasGroup, HasDataset, HasData}
use Rattle.h5_model.specs.Format.Reached.{type_among, layout_among}
use Rattle.h5_laws.proofs.Objects.{one_of_two, of_group_kind, of_dataset_kind}
use Rattle.h5_laws.proofs.Datasets.{find_none, said_first, layout_there}
use Rattle.h5_laws.proofs.Tags.{Tagged, blocks_in, tagged, tagged_header, tagged_table, tagged_layout, tagged_group, tagged_data, header-blocks, group-blocks, tree-blocks}

-- ---- what the tags are, by what the messages say

pub table_tags : (image : List ℕ) (ms : List Message) (m : Message) (s : SymbolTable) → find (λ x. x.kind == symbol_table_kind) ms ≡ Some m → symbol_table_of m.body ≡ Some s
    → tagged_table image ms ≡ tagged_group image m.at s
table_tags image ms m s found says =
    ap (λ (o : Option Message). option_map_or (λ (x : Message). option_map_or (tagged_group image x.at) (symbol_table_of x.body) []) o []) found
    ∙ ap (λ (o : Option SymbolTable). option_map_or (tagged_group image m.at) o []) says

pub no_table_tags : (image : List ℕ) (ms : List Message) → find (λ x. x.kind == symbol_table_kind) ms ≡ None → tagged_table image ms ≡ []
no_table_tags image ms none =
    ap (λ (o : Option Message). option_map_or (λ (x : Message). option_map_or (tagged_group image x.at) (symbol_table_of x.body) []) o []) none

pub layout_tags : (image : List ℕ) (ms : List Message) (m : Message) (t : Fixed) (layout : Layout) → find (λ x. x.kind == data_layout_kind) ms ≡ Some m → type_among ms ≡ Some t
    → layout_among ms ≡ Some layout → tagged_layout image ms ≡ tagged_data image m.at t layout
layout_tags image ms m t layout found type says =
    ap (λ (o : Option Message). option_map_or (λ (x : Message). option_map_or (λ (f : Fixed). option_map_or (tagged_data image x.at f) (layout_among ms) []) (type_among ms) []) o []) found
    ∙ ap (λ (o : Option Fixed). option_map_or (λ (f : Fixed). option_map_or (tagged_data image m.at f) (layout_among ms) []) o []) type
    ∙ ap (λ (o : Option Layout). option_map_or (tagged_data image m.at t) o []) says

pub no_layout_tags : (image : List ℕ) (ms : List Message) → find (λ x. x.kind == data_layout_kind) ms ≡ None → tagged_layout image ms ≡ []
no_layout_tags image ms none =
    ap (λ (o : Option Message). option_map_or (λ (x : Message). option_map_or (λ (f : Fixed). option_map_or (tagged_data image x.at f) (layout_among ms) []) (type_among ms) []) o []) none

-- ---- the blocks of what they name

data-blocks : (image : List ℕ) (t : Fixed) (layout : Layout) (chunks : Chunks) (blocks : List Block) → HasData image t layout chunks blocks → (place : ℕ)
    → blocks_in (tagged_data image place t layout) ≡ blocks
data-blocks image t (InMessage bytes) chunks blocks has place = sym has.1
data-blocks image t (InBlock None) chunks blocks has place = sym has.1
data-blocks image t (InBlock (Some b)) chunks blocks has place = sym has.1
data-blocks image t (InChunks sizes None) chunks blocks has place = sym has.1
data-blocks image t (InChunks sizes (Some root)) chunks blocks has place =
    tree-blocks image (chunk_kind (chunk_k image) (length sizes)) root has.level has.owned (values chunks) has.tree (place + 3) (λ at. block at (cells sizes * t.size)) ∙ sym has.laid

content-blocks : (image : List ℕ) (ms : List Message) (blocks : List Block)
    → ((found : List (List ℕ × Target)) × HasGroup image ms found blocks) ⊎ ((d : Dataset) × HasDataset image ms d blocks)
    → blocks_in (tagged_table image ms ++ tagged_layout image ms) ≡ blocks
content-blocks image ms blocks (inl (found, has)) =
    let first = said_first symbol_table_of symbol_table_kind ms has.symbol_table has.chosen in
    let layout : find (λ x. x.kind == data_layout_kind) ms ≡ None
    = find_none data_layout_kind ms (λ m at is. let never : false ≡ true = of_group_kind ms m data_layout_kind has.known at is in absurd (cc)) in
    ap₂ (λ (a b : List Tagged). blocks_in (a ++ b)) (table_tags image ms first.0 has.symbol_table first.1 first.2) (no_layout_tags image ms layout)
    ∙ ap blocks_in (append-nil (tagged_group image first.0.at has.symbol_table))
    ∙ group-blocks image has.symbol_table found blocks first.0.at has.linked
content-blocks image ms blocks (inr (d, has)) =
    let table : find (λ x. x.kind == symbol_table_kind) ms ≡ None
    = find_none symbol_table_kind ms (λ m at is. let never : false ≡ true = of_dataset_kind ms m symbol_table_kind has.known at is in absurd (cc)) in
    let first = said_first (layout_of d.sizes d.fixed.size) 8 ms has.layout has.array.laid_out in
    ap₂ (λ (a b : List Tagged). blocks_in (a ++ b)) (no_table_tags image ms table)
    (layout_tags image ms first.0 d.fixed has.layout first.1 has.array.type (layout_there image ms d blocks has))
    ∙ data-blocks image d.fixed has.layout has.chunks blocks has.stored first.0.at

pub object-blocks : (image : List ℕ) (table : FinMap nat_cmp ℕ) (header : ℕ) (object : Object) (blocks : List Block) (has : HasObject image table header object blocks)
    → blocks_in (tagged image header has.messages) ≡ blocks
object-blocks image table header object blocks has =
    map-append (λ (x : Tagged). x.1) (tagged_header image header has.messages) (tagged_table image has.messages ++ tagged_layout image has.messages)
    ∙ ap₂ (λ (a b : List Block). a ++ b) (header-blocks image header has.messages ∙ sym has.listed.laid)
    (content-blocks image has.messages has.content_blocks (one_of_two image table has.messages object.content has.content_blocks has.content))
    ∙ sym has.laid
