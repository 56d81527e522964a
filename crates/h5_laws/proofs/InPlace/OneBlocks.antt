-- An image with a table places its objects in one way: the blocks of a reading are determined too.
use Rattle.std.proofs.Common.{◌≡◌, ℕ, ◌+◌, ◌*◌, List, [], ◌∷◌, ◌++◌, map, refl, sym, ◌∙◌, ap, ap₂, subst, arith, drop, length, Some, None}
use Rattle.std.specs.List.{AllByRecursion}
use Rattle.std.specs.Ordering.{nat_cmp}
use Rattle.std.specs.FinMap.{FinMap, get, values}
use Rattle.h5_bytes.specs.Blocks.{block}
use Rattle.h5_bytes.specs.declared.Block.{Block}
use Rattle.h5_model.specs.Format.Messages.{Message, continuations, prefix_at, first_size}
use Rattle.h5_model.specs.Format.Addresses.{SymbolTable}
use Rattle.h5_model.specs.Format.Heap.{heap_blocks}
use Rattle.h5_model.specs.Format.Nodes.{group_kind, chunk_kind, tree_blocks}
use Rattle.h5_model.specs.Format.Symbols.{Target, symbol_block}
use Rattle.h5_model.specs.Format.Links.{HasLinks}
use Rattle.h5_model.specs.Format.Fixed.{Fixed}
use Rattle.h5_model.specs.Tree.Places.{cells}
use Rattle.h5_model.specs.Format.Layout.{Layout, InMessage, InBlock, InChunks}
use Rattle.h5_model.specs.Format.Chunks.{Chunks, HasChunks}
use Rattle.h5_model.specs.Tree.Objects.{Tree, Object, Content, Group, Array, Dataset}
use Rattle.h5_model.specs.Format.Superblock.{leaf_k, internal_k, chunk_k}
use Rattle.h5_model.specs.Format.Reads.{HasData, HasGroup, HasDataset, HasContent, HasObject, Placed, IsPlaced, ReadsAs}
use Rattle.h5_model.specs.Format.Described.{Described}
use Rattle.h5_model.proofs.DescribedLaws.{one_array, in_header}
use Rattle.h5_model.proofs.OneTree.{one_owned, one_children}
use Rattle.h5_model.proofs.OneReading.{no_table, some_same, one_messages, one_chunks, one_object, where_of, first_or}

one_links_blocks : (image : List ℕ) (leaf k root heap : ℕ) (l m : List (List ℕ × Target)) (bs cs : List Block)
    → HasLinks image leaf k root heap l bs → HasLinks image leaf k root heap m cs → bs ≡ cs
one_links_blocks image leaf k root heap l m bs cs h g =
    let owned = one_owned image (group_kind k) root h.level g.level h.owned g.owned h.symbol_nodes g.symbol_nodes h.tree g.tree in
    let symbols = one_children image (group_kind k) root h.level g.level h.owned g.owned h.symbol_nodes g.symbol_nodes h.tree g.tree in
    h.laid ∙ ap₂ (λ (ns ss : List ℕ). (tree_blocks (group_kind k) ns ++ map (symbol_block leaf) ss) ++ heap_blocks image heap) owned symbols ∙ sym g.laid

one_chunks_blocks : (image : List ℕ) (k : ℕ) (sizes : List ℕ) (bytes root : ℕ) (c d : Chunks) (bs cs : List Block)
    → HasChunks image k sizes bytes root c bs → HasChunks image k sizes bytes root d cs → bs ≡ cs
one_chunks_blocks image k sizes bytes root c d bs cs h g =
    let owned = one_owned image (chunk_kind k (length sizes)) root h.level g.level h.owned g.owned _ _ h.tree g.tree in
    let chunks = one_chunks image k sizes bytes root c d bs cs h g in
    h.laid ∙ ap₂ (λ (ns : List ℕ) (x : Chunks). tree_blocks (chunk_kind k (length sizes)) ns ++ map (λ at. block at bytes) (values x)) owned chunks ∙ sym g.laid

one_data_blocks : (image : List ℕ) (t : Fixed) (layout : Layout) (c d : Chunks) (bs cs : List Block) → HasData image t layout c bs → HasData image t layout d cs → bs ≡ cs
one_data_blocks image t (InMessage data_bytes) c d bs cs h g = h.1 ∙ sym g.1
one_data_blocks image t (InBlock None) c d bs cs h g = h.1 ∙ sym g.1
one_data_blocks image t (InBlock (Some b)) c d bs cs h g = h.1 ∙ sym g.1
one_data_blocks image t (InChunks sizes None) c d bs cs h g = h.1 ∙ sym g.1
one_data_blocks image t (InChunks sizes (Some root)) c d bs cs h g = one_chunks_blocks image (chunk_k image) sizes (cells sizes * t.size) root c d bs cs h g

one_group_blocks : (image : List ℕ) (messages : List Message) (l m : List (List ℕ × Target)) (bs cs : List Block)
    → HasGroup image messages l bs → HasGroup image messages m cs → bs ≡ cs
one_group_blocks image messages l m bs cs has has' =
    let chosen : has.symbol_table ≡ has'.symbol_table = some_same _ _ _ has.chosen has'.chosen in
    let right : HasLinks image (leaf_k image) (internal_k image) (has.symbol_table).tree (has.symbol_table).heap m cs
    = subst (λ (s : SymbolTable). HasLinks image (leaf_k image) (internal_k image) s.tree s.heap m cs) (sym chosen) has'.linked in
    one_links_blocks image (leaf_k image) (internal_k image) (has.symbol_table).tree (has.symbol_table).heap l m bs cs has.linked right

one_dataset_blocks : (image : List ℕ) (messages : List Message) (d e : Dataset) (bs cs : List Block) → HasDataset image messages d bs → HasDataset image messages e cs → bs ≡ cs
one_dataset_blocks image messages d e bs cs h g =
    let same = one_array messages (in_header image messages d bs h) (in_header image messages e cs g) h.array g.array in
    let stored : HasData image e.fixed g.layout h.chunks bs = subst (λ (a : Described). HasData image a.fixed a.layout h.chunks bs) same h.stored in
    one_data_blocks image e.fixed g.layout h.chunks g.chunks bs cs stored g.stored

one_content_blocks : (image : List ℕ) (table : FinMap nat_cmp ℕ) (messages : List Message) (a b : Content) (bs cs : List Block)
    → HasContent image table messages a bs → HasContent image table messages b cs → bs ≡ cs
one_content_blocks image table messages (Group l) (Group m) bs cs has has' = one_group_blocks image messages has.0 has'.0 bs cs has.1 has'.1
one_content_blocks image table messages (Group l) (Array d) bs cs has has' = absurd (omega (arith, has.1.once, no_table messages has'.known))
one_content_blocks image table messages (Array d) (Group l) bs cs has has' = absurd (omega (arith, has'.1.once, no_table messages has.known))
one_content_blocks image table messages (Array d) (Array e) bs cs has has' = one_dataset_blocks image messages d e bs cs has has'

-- an object's blocks are determined by its header's address
pub one_blocks : (image : List ℕ) (table : FinMap nat_cmp ℕ) (header : ℕ) (a b : Object) (bs cs : List Block)
    → HasObject image table header a bs → HasObject image table header b cs → bs ≡ cs
one_blocks image table header a b bs cs has has' =
    let messages : has.messages ≡ has'.messages = one_messages image header has.messages has'.messages has.header_blocks has'.header_blocks has.listed has'.listed in
    let heads : has.header_blocks ≡ has'.header_blocks
    = has.listed.laid ∙ ap (λ (ms : List Message). block header (16 + first_size (prefix_at image header)) ∷ continuations ms) messages ∙ sym has'.listed.laid in
    let there : HasContent image table has.messages b.content has'.content_blocks
    = subst (λ (ms : List Message). HasContent image table ms b.content has'.content_blocks) (sym messages) has'.content in
    let contents = one_content_blocks image table has.messages a.content b.content has.content_blocks has'.content_blocks has.content there in
    has.laid ∙ ap₂ (λ (xs ys : List Block). xs ++ ys) heads contents ∙ sym has'.laid

module _ (image : List ℕ) (table : FinMap nat_cmp ℕ) (own : (a b h : ℕ) → get table a ≡ Some h → get table b ≡ Some h → a ≡ b) where
  same_placed : (x y : Placed) → x.number ≡ y.number → x.header ≡ y.header → IsPlaced image table x → IsPlaced image table y → x ≡ y
  same_placed x y number header there there' =
      let right : HasObject image table x.header y.object y.blocks = subst (λ (h : ℕ). HasObject image table h y.object y.blocks) (sym header) there' in
      let object : x.object ≡ y.object = one_object image table x.header x.object y.object x.blocks y.blocks own there right in
      let blocks : x.blocks ≡ y.blocks = one_blocks image table x.header x.object y.object x.blocks y.blocks there right in
      λ i. record { number = number i; header = header i; object = object i; blocks = blocks i }

  pub one_placed : (xs ys : List Placed) → map where_of xs ≡ map where_of ys → AllByRecursion (IsPlaced image table) xs → AllByRecursion (IsPlaced image table) ys → xs ≡ ys
  one_placed [] [] keys all all' = refl
  one_placed [] (y ∷ ys) keys all all' = cc
  one_placed (x ∷ xs) [] keys all all' = cc
  one_placed (x ∷ xs) (y ∷ ys) keys all all' =
      let number : x.number ≡ y.number = ap (λ (ks : List (ℕ × ℕ)). (first_or ks).0) keys in
      let header : x.header ≡ y.header = ap (λ (ks : List (ℕ × ℕ)). (first_or ks).1) keys in
      let rest : map where_of xs ≡ map where_of ys = ap (λ (ks : List (ℕ × ℕ)). drop 1 ks) keys in
      ap₂ (λ (p : Placed) (ps : List Placed). p ∷ ps) (same_placed x y number header all.0 all'.0) (one_placed xs ys rest all.1 all'.1)

-- the objects of a reading stand in one way
pub one_placing : (image : List ℕ) (table : FinMap nat_cmp ℕ) (t s : Tree) (xs ys : List Placed) → ReadsAs image table t xs → ReadsAs image table s ys → xs ≡ ys
one_placing image table t s xs ys reads reads' = one_placed image table reads.holds.own xs ys (sym reads.holds.numbered ∙ reads'.holds.numbered) reads.holds.each reads'.holds.each
