-- Where a group's links stand in the plain layout, the group has them (File Format Specification 3.0, sections III.A.1, III.B and
-- III.D).
use Rattle.std.proofs.Common.{◌≡◌, ℕ, suc, ◌+◌, ◌-◌, ◌*◌, ◌^◌, ◌<◌, ◌≤◌, ◌⊎◌, inl, inr, List, [], ◌∷◌, ◌++◌, length, refl, sym, ap, ◌∙◌, subst, arith}
use Rattle.std.specs.Prelude.{map, IsTrue}
use Rattle.std.specs.List.{AllByRecursion, flat_map, Contains}
use Rattle.std.proofs.lemmas.List.Elements.{All-contains_itself, recursion_from_All}
use Rattle.h5_bytes.specs.Bytes.{part}
use Rattle.h5_bytes.specs.Numbers.{word}
use Rattle.h5_bytes.specs.Blocks.{holds, cover, Run, Inside}
use Rattle.h5_bytes.specs.declared.Block.{Block}
use Rattle.h5_bytes.proofs.BlockLaws.{all_append, all_left, all_right, all_so, cover-append, cover-run, run_rises}
use Rattle.h5_model.specs.Format.Heap.{HasNames, heap_header, heap_blocks}
use Rattle.h5_model.specs.Format.Limits.{most_bytes}
use Rattle.h5_model.specs.Format.Links.{Symbols, AreLinks, key_offsets}
use Rattle.h5_model.specs.Format.Nodes.{group_kind, reading_of, tree_blocks}
use Rattle.h5_model.specs.Tree.Paths.{is_name}
use Rattle.h5_model.specs.Format.PlainLength.{nodes_over}
use Rattle.h5_model.specs.Format.Rows.{Reading}
use Rattle.h5_model.specs.Format.Sizes.{group_node, symbol_node}
use Rattle.h5_model.specs.Format.Symbols.{Entry, Target, IsEntry, symbols_of, symbol_block, texts_of}
use Rattle.h5_model.specs.Format.Symbols as symbols
use Rattle.h5_btree.specs.declared.write.child.Child.{Child}
use Rattle.h5_btree.specs.Writing.Written.{tree_bytes, root_level}
use Rattle.h5_btree.specs.Writing.Laws.{HasPlainNodes}
use Rattle.h5_btree.proofs.WriteLaws.Pieces.{all_apart}
use Rattle.h5_btree.proofs.WriteLaws.RowReads.{part_split}
use Rattle.h5_btree.proofs.WriteLaws.TreeLaws.{tree_reads}
use Rattle.h5_heap.specs.Writing.Links.{Leads, ToGroup, ToArray, ToText, target_link}
use Rattle.h5_heap.specs.Writing.Written.{written_entry, written_entries, placed_links, written_segment, heap_bytes}
use Rattle.h5_heap.specs.Writing.Laws.{IsEntryLow, IsPlainHeap}
use Rattle.h5_heap.proofs.WriteLaws.Lengths.{length-heap_bytes}
use Rattle.h5_heap.proofs.WriteLaws.HeapReads.{heap_reads, entries_low}
use Rattle.h5_btree.proofs.KeyedKeys.{all_mapped, all_unmapped}
use Rattle.h5_group.specs.Writing.Written.{last_name_offset, children_of, heap_place, symbols_place, symbol_nodes, links_bytes, links_length}
use Rattle.h5_group.specs.Writing.Laws.{ArePlainLinks, IsPlainGroup, LinksRead}
use Rattle.h5_group.proofs.WriteLaws.SymbolNodes.{Placed}
use Rattle.h5_group.proofs.WriteLaws.Runs.{IsRun, joined, runs_joined, runs_pieces}
use Rattle.h5_group.proofs.WriteLaws.SymbolPlaces.{AreThere, Says, addresses, nodes_bytes, one_more, are_there, nodes_run, all_formed, all_said, said_alone, all_entries}
use Rattle.h5_group.proofs.WriteLaws.NameTrees.{lasts_fit, lasts_of, names_ordered, offsets_named}
use Rattle.h5_group.proofs.WriteLaws.Order.{Rises, ordered, are_named, rises_all}
use Rattle.h5_group.proofs.WriteLaws.Lengths.{the_runs, the_children, runs_counted, level_low, tree_long, links_length_is}

-- ---- blocks

run_append : (a b c : ℕ) (xs ys : List Block) → Run a xs b → Run b ys c → Run a (xs ++ ys) c
run_append a b c [] ys first second = subst (λ n. Run n ys c) (sym first) second
run_append a b c (x ∷ xs) ys first second = (first.0, run_append (a + x.len) b c xs ys first.1 second)

run_inside : (from to : ℕ) (bs : List Block) → Run from bs to → Inside to bs
run_inside from to [] run = tt
run_inside from to (b ∷ bs) run = (omega (arith, run.0, run_rises (from + b.len) to bs run.1), run_inside (from + b.len) to bs run.1)

-- three lists of blocks that follow each other, in another order
module _ (at len : ℕ) (xs ys zs : List Block) (run : Run at (xs ++ (ys ++ zs)) (at + len)) where
  moved_covers : (p : ℕ) → cover p ((xs ++ zs) ++ ys) ≡ holds p at len
  moved_covers p =
      let size : at + len - at ≡ len = omega arith in
      let whole : cover p (xs ++ (ys ++ zs)) ≡ holds p at len = cover-run p at (at + len) (xs ++ (ys ++ zs)) run ∙ ap (λ n. holds p at n) size in
      omega (arith, whole, cover-append p xs (ys ++ zs), cover-append p ys zs, cover-append p (xs ++ zs) ys, cover-append p xs zs)

  moved_inside : Inside (at + len) ((xs ++ zs) ++ ys)
  moved_inside =
      let end : (b : Block) → Type 0 = λ b. b.at + b.len ≤ at + len in
      let whole = run_inside at (at + len) (xs ++ (ys ++ zs)) run in
      let behind = all_right end xs (ys ++ zs) whole in
      all_append end (xs ++ zs) ys (all_append end xs zs (all_left end xs (ys ++ zs) whole) (all_right end ys zs behind)) (all_left end ys zs behind)

-- ---- the last names of runs

name_of : (l : Placed) → (written_entry l).name ≡ l.0
name_of (at, (name, ToGroup header tree heap)) = refl
name_of (at, (name, ToArray header)) = refl
name_of (at, (name, ToText text)) = refl

last_holds : (P : ℕ → Type 0) (before : ℕ) (run : List Placed) → 1 ≤ length run → AllByRecursion (λ (l : Placed). P l.0) run → P (last_name_offset before run)
last_holds P before [] some all = absurd (omega arith)
last_holds P before (l ∷ []) some all = all.0
last_holds P before (l ∷ m ∷ run) some all = last_holds P l.0 (m ∷ run) (omega arith) all.1

lasts_hold : (P : ℕ → Type 0) (leaf at : ℕ) (runs : List (List Placed)) → AllByRecursion (IsRun leaf) runs
    → AllByRecursion (AllByRecursion (λ (l : Placed). P l.0)) runs → AllByRecursion P (map (λ (c : Child ℕ). c.key) (children_of leaf at runs))
lasts_hold P leaf at [] pieces all = tt
lasts_hold P leaf at (run ∷ runs) pieces all =
    (last_holds P 0 run (pieces.0).0 all.0, lasts_hold P leaf (at + symbol_node leaf) runs pieces.1 all.1)

-- nodes before an end have addresses of eight bytes
children_low : (leaf at : ℕ) (runs : List (List Placed)) → at + length runs * symbol_node leaf < 2 ^ 64
    → AllByRecursion (λ n. n < 2 ^ 64) (addresses (children_of leaf at runs))
children_low leaf at [] low = tt
children_low leaf at (run ∷ runs) low =
    let split : at + symbol_node leaf + length runs * symbol_node leaf ≡ at + suc (length runs) * symbol_node leaf = omega (arith, one_more (length runs) (symbol_node leaf)) in
    (omega (arith, low), children_low leaf (at + symbol_node leaf) runs (subst (λ n. n < 2 ^ 64) (sym split) low))

-- ---- what lies where

record AreBounds (at tree segment nodes : ℕ) : Type 0 where
  tree_end : at + tree < 2 ^ 63
  heap_end : at + tree + (32 + segment) < 2 ^ 32
  segment_low : segment < 2 ^ 32
  nodes_end : at + tree + (32 + segment) + nodes < 2 ^ 64

bounds : (at tree segment nodes : ℕ) → at + (tree + 32 + segment + nodes) ≤ most_bytes → AreBounds at tree segment nodes
bounds at tree segment nodes low = record { tree_end = omega arith; heap_end = omega arith; segment_low = omega arith; nodes_end = omega arith }

heap_shift : (a s : ℕ) → a + (32 + s) ≡ a + 32 + s
heap_shift a s = omega arith

far : (n : ℕ) → n ≤ most_bytes → n < 2 ^ 64
far n low = omega arith

whole_shift : (at t s n : ℕ) → at + t + 32 + s + n ≡ at + (t + 32 + s + n)
whole_shift at t s n = omega arith

module _ (image : List ℕ) (leaf internal at : ℕ) (links : List (List ℕ × Leads)) (plain : ArePlainLinks leaf internal links)
    (low : at + links_length leaf internal links ≤ most_bytes) where
  abbrev runs : List (List Placed)
  runs = the_runs leaf internal at links

  abbrev children : List (Child ℕ)
  children = the_children leaf internal at links

  abbrev tree : List ℕ
  tree = tree_bytes (group_kind internal) word 0 at children

  abbrev heap_at : ℕ
  heap_at = heap_place leaf internal at links

  abbrev nodes_at : ℕ
  nodes_at = symbols_place leaf internal at links

  abbrev tree_size : ℕ
  tree_size = nodes_over 64 (2 * internal) (symbol_nodes leaf links) * group_node internal

  abbrev segment : List ℕ
  segment = written_segment links

  limits : AreBounds at tree_size (length segment) (symbol_nodes leaf links * symbol_node leaf)
  limits = bounds at tree_size (length segment) (symbol_nodes leaf links * symbol_node leaf) low

  pieces : AllByRecursion (IsRun leaf) runs
  pieces = runs_pieces leaf (plain.k).leaf_low (placed_links links)

  in_runs : (P : Placed → Type 0) → AllByRecursion P (placed_links links) → AllByRecursion (AllByRecursion P) runs
  in_runs P all = all_apart P runs (subst (AllByRecursion P) (sym (runs_joined leaf (placed_links links))) all)

  low_entries : AllByRecursion IsEntryLow (written_entries links)
  low_entries = entries_low links plain.spelled limits.segment_low

  low_placed : AllByRecursion (λ l. IsEntryLow (written_entry l)) (placed_links links)
  low_placed = all_unmapped IsEntryLow written_entry (placed_links links) low_entries

  low_offsets : AllByRecursion (λ (l : Placed). l.0 < 2 ^ 64) (placed_links links)
  low_offsets = all_so (λ l. IsEntryLow (written_entry l)) (λ (l : Placed). l.0 < 2 ^ 64) (placed_links links)
      (λ l is. subst (λ n. n < 2 ^ 64) (name_of l) is.0) low_placed

  -- behind the symbol nodes all ends
  nodes_end : nodes_at + length runs * symbol_node leaf ≡ at + links_length leaf internal links
  nodes_end = ap (λ n. nodes_at + n * symbol_node leaf) (runs_counted leaf internal at links plain.k plain.low)
      ∙ whole_shift at tree_size (length segment) (symbol_nodes leaf links * symbol_node leaf)

  low_places : AllByRecursion (λ n. n < 2 ^ 64) (addresses children)
  low_places = children_low leaf nodes_at runs (subst (λ n. n < 2 ^ 64) (sym nodes_end) (far (at + links_length leaf internal links) low))

  low_lasts : AllByRecursion (λ n. n < 2 ^ 64) (lasts_of children)
  low_lasts = lasts_hold (λ n. n < 2 ^ 64) leaf nodes_at runs pieces (in_runs (λ (l : Placed). l.0 < 2 ^ 64) low_offsets)

  tree_size_is : length tree ≡ tree_size
  tree_size_is = tree_long leaf internal at links plain.k plain.low

  heap_place_is : at + length tree ≡ heap_at
  heap_place_is = ap (λ n. at + n) tree_size_is

  heap_size_is : length (heap_bytes heap_at links) ≡ 32 + length segment
  heap_size_is = length-heap_bytes heap_at links

  heap_end_is : heap_at + length (heap_bytes heap_at links) ≡ nodes_at
  heap_end_is = ap (λ n. heap_at + n) heap_size_is ∙ heap_shift heap_at (length segment)

  module _ (there : part at (links_length leaf internal links) image ≡ links_bytes leaf internal at links) where
    abbrev heap_and_nodes : List ℕ
    heap_and_nodes = heap_bytes heap_at links ++ nodes_bytes leaf runs

    parts_there : part at (length (tree ++ heap_and_nodes)) image ≡ tree ++ heap_and_nodes
    unfolding links_bytes
    parts_there = ap (λ n. part at n image) (links_length_is leaf internal at links plain) ∙ there

    tree_there : (part at (length tree) image ≡ tree) × (part (at + length tree) (length heap_and_nodes) image ≡ heap_and_nodes)
    tree_there = part_split at tree heap_and_nodes image parts_there

    heap_there : (part heap_at (length (heap_bytes heap_at links)) image ≡ heap_bytes heap_at links)
        × (part (heap_at + length (heap_bytes heap_at links)) (length (nodes_bytes leaf runs)) image ≡ nodes_bytes leaf runs)
    heap_there = part_split heap_at (heap_bytes heap_at links) (nodes_bytes leaf runs) image
        (ap (λ n. part n (length heap_and_nodes) image) (sym heap_place_is) ∙ tree_there.1)

    nodes_there : AreThere image leaf nodes_at runs
    nodes_there = are_there leaf image nodes_at runs pieces (ap (λ n. part n (length (nodes_bytes leaf runs)) image) (sym heap_end_is) ∙ heap_there.1)

    -- ---- the tree and the heap

    pub plain_tree : HasPlainNodes image (group_kind internal) word 0 at children
    plain_tree = tree_reads ℕ image (group_kind internal) word 0 at children (plain.k).internal_low (plain.k).internal_high refl (lasts_fit internal children) low_places
        (level_low leaf internal at links plain.k plain.low) (subst (λ n. at + n < 2 ^ 63) (sym tree_size_is) limits.tree_end) tree_there.0

    plain_heap : IsPlainHeap image heap_at links
    plain_heap = heap_reads image heap_at links plain.spelled (subst (λ n. heap_at + n < 2 ^ 32) (sym heap_size_is) limits.heap_end) heap_there.0

    -- ---- the symbol nodes

    abbrev nodes : List ℕ
    nodes = addresses children

    abbrev S : Symbols
    S = symbols_of image leaf nodes

    abbrev V : Reading
    V = reading_of image (group_kind internal) plain_tree.owned

    said : Says S leaf nodes_at runs
    said = said_alone leaf image nodes_at runs
        (all_said leaf (plain.k).leaf_high image nodes_at runs pieces (in_runs (λ l. IsEntryLow (written_entry l)) low_placed) nodes_there)

    entries_are : flat_map S nodes ≡ written_entries links
    entries_are = all_entries leaf S nodes_at runs said ∙ ap (λ ls. map written_entry ls) (runs_joined leaf (placed_links links))

    rises : Rises segment 0 (joined runs)
    rises = subst (Rises segment 0) (sym (runs_joined leaf (placed_links links)))
        (rises_all segment 8 links plain_heap.empty (are_named segment 8 links plain_heap.named) plain.ascending plain.named)

    -- ---- the keys

    abbrev names : List ℕ
    names = map (λ (e : Entry). e.name) (written_entries links)

    placed_names : AllByRecursion (λ (l : Placed). Contains names l.0) (placed_links links)
    placed_names = all_so (λ l. Contains names (written_entry l).name) (λ (l : Placed). Contains names l.0) (placed_links links) (λ l is. subst (Contains names) (name_of l) is)
        (all_unmapped (λ (e : Entry). Contains names e.name) written_entry (placed_links links)
        (all_unmapped (Contains names) (λ (e : Entry). e.name) (written_entries links) (recursion_from_All (Contains names) names (All-contains_itself names))))

    last_names : AllByRecursion (Contains names) (lasts_of children)
    last_names = lasts_hold (Contains names) leaf nodes_at runs pieces (in_runs (λ (l : Placed). Contains names l.0) placed_names)

    keys_named : AllByRecursion (λ key. (key ≡ 0) ⊎ Contains names key) (key_offsets V plain_tree.owned)
    keys_named = offsets_named image internal at children low_lasts plain_tree (λ key. (key ≡ 0) ⊎ Contains names key) (inl refl)
        (all_so (Contains names) (λ key. (key ≡ 0) ⊎ Contains names key) (lasts_of children) (λ key is. inr is) last_names)

    -- ---- the links

    listed_in : AreLinks V S (heap_header image heap_at) segment plain_tree.owned nodes (map target_link links)
    listed_in = record {
      cached = subst (AllByRecursion IsEntry) (sym entries_are) (all_so IsEntryLow IsEntry (written_entries links) (λ e is. is.2) low_entries);
      all = sym (ap (λ es. map (symbols.link_of segment) es) entries_are ∙ plain_heap.named);
      ascending = plain.ascending;
      named = all_mapped (λ (l : List ℕ × Target). IsTrue (is_name l.0)) target_link links plain.named;
      ordered = names_ordered image internal at children low_lasts plain_tree S segment (ordered segment leaf S 0 nodes_at runs pieces said rises);
      free = plain_heap.free;
      loose = [];
      heap_form = plain_heap.heap_form;
      spans = subst (λ (es : List Entry). HasNames segment plain_heap.free (map (λ (e : Entry). e.name) es) (texts_of es) (key_offsets V plain_tree.owned) [])
          (sym entries_are) (plain_heap.spans (key_offsets V plain_tree.owned) keys_named);
    }

    abbrev tree_part : List Block
    tree_part = tree_blocks (group_kind internal) plain_tree.owned

    abbrev nodes_part : List Block
    nodes_part = map (symbol_block leaf) nodes

    heap_run : Run heap_at (heap_blocks image heap_at) nodes_at
    heap_run = subst (λ bs. Run heap_at bs nodes_at) (sym plain_heap.blocks) (refl, (refl, refl))

    pub whole_run : Run at (tree_part ++ (heap_blocks image heap_at ++ nodes_part)) (at + links_length leaf internal links)
    whole_run = run_append at heap_at (at + links_length leaf internal links) tree_part (heap_blocks image heap_at ++ nodes_part)
        (subst (Run at tree_part) heap_place_is plain_tree.run)
        (run_append heap_at nodes_at (at + links_length leaf internal links) (heap_blocks image heap_at) nodes_part heap_run
        (subst (Run nodes_at nodes_part) nodes_end (nodes_run leaf nodes_at runs)))

    group_reads : IsPlainGroup image leaf internal at links
    group_reads = record {
      blocks = (tree_part ++ nodes_part) ++ heap_blocks image heap_at;
      linked = record {
        level = root_level internal (length children);
        owned = plain_tree.owned;
        symbol_nodes = nodes;
        tree = plain_tree.tree;
        formed = all_formed leaf (plain.k).leaf_high image nodes_at runs pieces nodes_there;
        listed = subst (λ s. AreLinks V S (heap_header image heap_at) s plain_tree.owned nodes (map target_link links)) (sym plain_heap.segment) listed_in;
        laid = refl;
      };
      covered = moved_covers at (links_length leaf internal links) tree_part (heap_blocks image heap_at) nodes_part whole_run;
      within = moved_inside at (links_length leaf internal links) tree_part (heap_blocks image heap_at) nodes_part whole_run;
    }

pub links_read : LinksRead
links_read image leaf internal at links plain low there = group_reads image leaf internal at links plain low there
