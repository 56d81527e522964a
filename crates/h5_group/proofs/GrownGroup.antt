-- A group whose tree and symbol nodes were written, where its heap stays: its links are those that stand in them then, and one more of them
-- where an entry has come in (File Format Specification 3.0, sections III.A.1, III.B and III.D).
use Rattle.std.proofs.Common.{◌≡◌, ℕ, ◌^◌, ◌<◌, IsTrue, List, [], ◌∷◌, ◌++◌, map, length, refl, sym, ap, ◌∙◌, subst, arith}
use Rattle.std.proofs.lemmas.List.{append_assoc, map-append}
use Rattle.std.specs.List.{AllByRecursion, flat_map}
use Rattle.h5_bytes.specs.Blocks.{block, cover, Inside, Keeps}
use Rattle.h5_bytes.specs.Texts.{text_at}
use Rattle.h5_bytes.specs.declared.Block.{Block}
use Rattle.h5_model.specs.Format.Addresses.{SymbolTable}
use Rattle.h5_model.specs.Format.Superblock.{leaf_k, internal_k}
use Rattle.h5_model.specs.Format.Heap.{HasNames, KeyNames, heap_blocks, heap_header, segment_of, segment_place, segment_size}
use Rattle.h5_model.specs.Format.Links.{AreLinks, Before, HasLinks, IsOrdered, Symbols, key_offsets, names_in}
use Rattle.h5_model.specs.Format.Nodes.{HasTree, reading_of}
use Rattle.h5_model.specs.Format.Rows.{Reading}
use Rattle.h5_model.specs.Format.Symbols.{Entry, IsEntry, IsSymbolNode, Target, link_of, symbol_bytes, symbols_of, texts_of}
use Rattle.h5_model.specs.Tree.Paths.{is_name}
use Rattle.h5_model.proofs.Frames.{heap-same}
use Rattle.h5_laws.specs.KeyEdits.{IsPut}
use Rattle.h5_space.specs.Moves.{Moves}
use Rattle.h5_space.specs.Space.{Space}
use Rattle.h5_btree.proofs.KeyedNames.{AreAscending, ascending_put}
use Rattle.h5_group.specs.Edited.{HasGroupMoved, IsGroupIn, IsLinkPut, offsets_of}
use Rattle.h5_group.specs.Nodes.Trees.{group_nodes_blocks, kind_in}
use Rattle.h5_group.proofs.EditFrames.{group_apart, group_moves, internal_kept, k_kept, leaf_kept, rest_kept, still_long}
use Rattle.h5_group.proofs.LinkLists.{all_put, ascend_names, link_names, names_ascend, names_of_links}
use Rattle.h5_group.proofs.MovedNames.{entry_named, names_of}
use Rattle.h5_group.proofs.Ways.{heap_inside}

-- other keys, which name what they may
pub keys_named : (segment : List ℕ) (free : List Block) (names texts keys keys' loose : List ℕ) → HasNames segment free names texts keys loose
    → AllByRecursion (KeyNames (names ++ texts) loose) keys' → HasNames segment free names texts keys' loose
keys_named segment free names texts keys keys' loose has keyed =
    record { empty = has.empty; aligned = has.aligned; apart = has.apart; within = has.within; keyed = keyed }

module _ (s t : Space) (table : SymbolTable) (links : List (List ℕ × Target)) (spare : List ℕ) (blocks : List Block)
    (group : IsGroupIn s table links spare blocks) (own' nodes' : List ℕ)
    (moves : Moves s t (group_nodes_blocks s.bytes (group.linked).owned (group.linked).symbol_nodes) (group_nodes_blocks s.bytes own' nodes')) where
  abbrev own : List ℕ
  own = (group.linked).owned

  abbrev listed : List ℕ
  listed = (group.linked).symbol_nodes

  abbrev a : List Block
  a = group_nodes_blocks s.bytes own listed

  abbrev b : List Block
  b = group_nodes_blocks s.bytes own' nodes'

  abbrev heap : List Block
  heap = heap_blocks s.bytes table.heap

  abbrev pub grown_blocks : List Block
  grown_blocks = group_nodes_blocks s.bytes own' nodes' ++ heap_blocks s.bytes table.heap

  pub parted : (p : ℕ) → cover p blocks ≡ cover p (a ++ heap)
  parted p = ap (cover p) (group.linked).laid

  pub within : Inside (length s.bytes) heap
  within = heap_inside s table links spare blocks group

  pub heap_kept : Keeps s.bytes t.bytes heap
  heap_kept = rest_kept s t table links spare blocks group a b heap moves parted within

  pub leaf_same : leaf_k t.bytes ≡ leaf_k s.bytes
  leaf_same = leaf_kept s t table links spare blocks group a b heap moves parted within

  pub internal_same : internal_k t.bytes ≡ internal_k s.bytes
  internal_same = internal_kept s t table links spare blocks group a b heap moves parted within

  pub header_same : heap_header t.bytes table.heap ≡ heap_header s.bytes table.heap
  header_same = (heap-same s.bytes t.bytes table.heap heap_kept).0

  pub segment_same : segment_of t.bytes table.heap ≡ segment_of s.bytes table.heap
  segment_same = (heap-same s.bytes t.bytes table.heap heap_kept).1

  heap_blocks_same : heap_blocks t.bytes table.heap ≡ heap
  heap_blocks_same = ap (λ (h : List ℕ). block table.heap 32 ∷ block (segment_place h) (segment_size h) ∷ []) header_same

  abbrev l : ℕ
  l = leaf_k s.bytes

  abbrev segment : List ℕ
  segment = segment_of s.bytes table.heap

  abbrev pub old_rows : Reading
  old_rows = reading_of s.bytes (kind_in s.bytes) (group.linked).owned

  abbrev pub new_rows : Reading
  new_rows = reading_of t.bytes (kind_in s.bytes) own'

  abbrev pub old_symbols : Symbols
  old_symbols = symbols_of s.bytes (leaf_k s.bytes) (group.linked).symbol_nodes

  abbrev pub new_symbols : Symbols
  new_symbols = symbols_of t.bytes (leaf_k s.bytes) nodes'

  module _ (height : ℕ) (tree : HasTree t.bytes (kind_in s.bytes) table.tree height own' nodes')
      (formed : AllByRecursion (λ at. IsSymbolNode (leaf_k s.bytes) (symbol_bytes t.bytes (leaf_k s.bytes) at)) nodes') (short : length t.bytes < 2 ^ 63) where
    -- these links, with these loose texts
    abbrev HasLoose : List ℕ → List ℕ → List (List ℕ × Target) → List ℕ → Type 0
    HasLoose header bytes links' loose = (are : AreLinks new_rows new_symbols header bytes own' nodes' links') × (are.loose ≡ loose)

    abbrev HasAll : ℕ → ℕ → List (List ℕ × Target) → List ℕ → Type 0
    HasAll some_leaf some_k links' loose = (has : HasLinks t.bytes some_leaf some_k table.tree table.heap links' grown_blocks) × (has.listed.loose ≡ loose)

    -- THE GROUP STANDS where its links do, over other rows and the heap of before
    pub group_grown : (links' : List (List ℕ × Target)) (spare' more' : List ℕ)
        → (are : AreLinks new_rows new_symbols (heap_header s.bytes table.heap) segment own' nodes' links') → are.loose ≡ spare' ++ more'
        → HasGroupMoved s t table blocks links' spare'
    group_grown links' spare' more' are loose_is =
        let loose = spare' ++ more' in
        let here : HasLoose (heap_header s.bytes table.heap) segment links' loose = (are, loose_is) in
        let there : HasLoose (heap_header t.bytes table.heap) (segment_of t.bytes table.heap) links' loose
        = subst (λ (h : List ℕ). HasLoose h (segment_of t.bytes table.heap) links' loose) (sym header_same)
        (subst (λ (g : List ℕ). HasLoose (heap_header s.bytes table.heap) g links' loose) (sym segment_same) here) in
        let all : HasAll l (internal_k s.bytes) links' loose = (
          record {
            level = height;
            owned = own';
            symbol_nodes = nodes';
            tree = tree;
            formed = formed;
            listed = there.0;
            laid = ap (λ (h : List Block). b ++ h) (sym heap_blocks_same);
          },
          there.1,
        ) in
        let has : HasAll (leaf_k t.bytes) (internal_k t.bytes) links' loose
        = subst (λ (k : ℕ). HasAll (leaf_k t.bytes) k links' loose) (sym internal_same) (subst (λ (k : ℕ). HasAll k (internal_k s.bytes) links' loose) (sym leaf_same) all) in
        record {
          blocks = grown_blocks;
          group = record {
            linked = has.0;
            more = more';
            spared = has.1;
            apart = group_apart s t table links spare blocks group a b heap moves parted within grown_blocks (λ p. refl);
            long = still_long s t table links spare blocks group a b heap moves parted within;
            leaf_some = let is = leaf_same in omega (arith, is, group.leaf_some);
            leaf_few = let is = leaf_same in omega (arith, is, group.leaf_few);
            some = let is = internal_same in omega (arith, is, group.some);
            few = let is = internal_same in omega (arith, is, group.few);
            short = short;
          };
          moves = group_moves s t table links spare blocks group a b heap moves parted within grown_blocks (λ p. refl);
          k = k_kept s t table links spare blocks group a b heap moves parted within;
        }

    abbrev IsNamed : List ℕ × Target → Type 0
    IsNamed x = IsTrue (is_name x.0)

    -- AN ENTRY COMES IN, whose texts were spare, at its place in the order
    pub entry_grown : (e : Entry) (spare' : List ℕ) → spare ≡ offsets_of e ++ spare' → (front back : List Entry)
        → flat_map old_symbols listed ≡ front ++ back → flat_map new_symbols nodes' ≡ front ++ e ∷ back
        → IsEntry e → IsTrue (is_name (text_at segment e.name))
        → IsPut Before (text_at segment e.name) (names_in old_symbols segment listed) (names_in new_symbols segment nodes')
        → AllByRecursion (λ at. IsOrdered new_rows new_symbols segment (new_rows at)) own'
        → AllByRecursion (KeyNames (names_of (flat_map old_symbols listed) ++ texts_of (flat_map old_symbols listed)) (group.linked).listed.loose) (key_offsets new_rows own')
        → (links' : List (List ℕ × Target)) × IsLinkPut (link_of segment e) links links' × HasGroupMoved s t table blocks links' spare'
    entry_grown e spare' spare_is front back old new known named put ordered keyed =
        let with_it = map (link_of segment) (front ++ e ∷ back) in
        let without_it = map (link_of segment) (front ++ back) in
        let with_is : with_it ≡ map (link_of segment) front ++ link_of segment e ∷ map (link_of segment) back = map-append (link_of segment) front (e ∷ back) in
        let without_is : without_it ≡ map (link_of segment) front ++ map (link_of segment) back = map-append (link_of segment) front back in
        let links_are : links ≡ without_it = (group.linked).listed.all ∙ ap (map (link_of segment)) old in
        let more = group.more in
        let loose_is : (group.linked).listed.loose ≡ offsets_of e ++ (spare' ++ more)
        = group.spared ∙ ap (λ (o : List ℕ). o ++ more) spare_is ∙ append_assoc (offsets_of e) spare' more in
        let keys = key_offsets new_rows own' in
        let free = (group.linked).listed.free in
        let spans : HasNames segment free (names_of (front ++ back)) (texts_of (front ++ back)) keys (offsets_of e ++ (spare' ++ more))
        = subst (λ (es : List Entry). HasNames segment free (names_of es) (texts_of es) keys (offsets_of e ++ (spare' ++ more))) old
        (subst (HasNames segment free (names_of (flat_map old_symbols listed)) (texts_of (flat_map old_symbols listed)) keys) loose_is
        (keys_named segment free (names_of (flat_map old_symbols listed)) (texts_of (flat_map old_symbols listed)) (key_offsets old_rows own) keys (group.linked).listed.loose
        (group.linked).listed.spans keyed)) in
        let name : Entry → List ℕ = λ (o : Entry). text_at segment o.name in
        let rising : AreAscending (names_in old_symbols segment listed)
        = subst AreAscending (ap link_names (group.linked).listed.all ∙ names_of_links segment (flat_map old_symbols listed)) (ascend_names links (group.linked).listed.ascending) in
        let risen : AreAscending (map name (front ++ e ∷ back))
        = subst AreAscending (ap (map name) new)
        (ascending_put (text_at segment e.name) (names_in old_symbols segment listed) (names_in new_symbols segment nodes') rising put) in
        let are : AreLinks new_rows new_symbols (heap_header s.bytes table.heap) segment own' nodes' with_it = record {
          cached = subst (AllByRecursion IsEntry) (sym new) (all_put IsEntry front e back (subst (AllByRecursion IsEntry) old (group.linked).listed.cached) known);
          all = ap (map (link_of segment)) (sym new);
          ascending = names_ascend with_it (subst AreAscending (sym (names_of_links segment (front ++ e ∷ back))) risen);
          named = subst (AllByRecursion IsNamed) (sym with_is)
              (all_put IsNamed (map (link_of segment) front) (link_of segment e) (map (link_of segment) back)
              (subst (AllByRecursion IsNamed) without_is (subst (AllByRecursion IsNamed) links_are (group.linked).listed.named)) named);
          ordered = ordered;
          free = free;
          loose = spare' ++ more;
          heap_form = (group.linked).listed.heap_form;
          spans = subst (λ (es : List Entry). HasNames segment free (names_of es) (texts_of es) keys (spare' ++ more)) (sym new)
              (entry_named segment free e front back keys (spare' ++ more) spans);
        } in
        let is_put : IsLinkPut (link_of segment e) links with_it
        = record { front = map (link_of segment) front; back = map (link_of segment) back; before = links_are ∙ without_is; after = with_is } in
        (with_it, is_put, group_grown with_it spare' more are refl)
