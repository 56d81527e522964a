-- Symbol nodes and heaps of a group that is read keep their rules.
use Rattle.std.proofs.Common.{◌≡◌, inl, inr, ℕ, suc, ◌≤◌, List, [], ◌∷◌, ◌++◌, map, length, take, drop, sym, ap, ◌∙◌, subst, arith, Some, true, false, append_assoc, length-append}
use Rattle.std.proofs.lemmas.List.{map-append}
use Rattle.std.specs.Prelude.{IsTrue, is_some, not}
use Rattle.std.specs.Ordering.{nat_cmp}
use Rattle.std.specs.Cmp.Lexicographic.{nat_list_cmp_total}
use Rattle.std.specs.FinMap.{FinMap, get, entries}
use Rattle.std.specs.List.{flat_map}
use Rattle.std.proofs.lemmas.List.Concat.{flat_map-append}
use Rattle.h5_bytes.specs.Texts.{text_at}
use Rattle.h5_bytes.specs.declared.Block.{Block}
use Rattle.h5_model.specs.Format.Limits.{most_names}
use Rattle.h5_model.specs.Format.Heap.{heap_header, segment_of, IsHeap, HasNames}
use Rattle.h5_model.specs.Format.Rows.{Node, blank, nodes}
use Rattle.h5_model.specs.Format.Nodes.{group_kind, node_at, reading_of}
use Rattle.h5_model.specs.Format.Symbols.{Entry, IsEntry, IsSymbolNode, Target, symbols_at, symbols_in, symbols_of, symbol_bytes, link_of, texts_of}
use Rattle.h5_model.specs.Format.Links.{HasLinks, Before, Ascend, offset_in, key_offsets}
use Rattle.h5_model.specs.Tree.Paths.{is_name}
use Rattle.h5_model.specs.Format.Superblock.{leaf_k, internal_k}
use Rattle.h5_model.specs.Tree.Objects.{Tree}
use Rattle.h5_model.specs.Format.Reads.{Placed, IsSame, Holds}
use Rattle.h5_model.specs.Format.Reached.{entry_in}
use Rattle.h5_model.specs.Faults.TreeFaults.{SymbolBreach, NameBreach, HeapNameBreach, BadNameBreach, HasSymbolNodes, all_entries, all_key_offsets}
use Rattle.h5_model.proofs.RowLaws.{only_here}
use Rattle.h5_model.proofs.OneTree.{one_children, level_is, owned_is}
use Rattle.h5_laws.proofs.Lists.{In, in_all, all_in, in_map, in_contains}
use Rattle.h5_laws.proofs.Maps.{get_of_entry, tied_left}
use Rattle.h5_laws.proofs.Entries.{flat-same, own_entries, links_are, entry_listed, link_listed}
use Rattle.h5_laws.proofs.Ascending.{ascends, around}
use Rattle.h5_laws.proofs.FreeLists.{one_free}
use Rattle.h5_laws.proofs.Located.{KnownGroup}
use Rattle.h5_laws.proofs.Objects.{name_leads}

module _ (image : List ℕ) (root heap : ℕ) (found : List (List ℕ × Target)) (blocks : List Block)
    (has : HasLinks image (leaf_k image) (internal_k image) root heap found blocks) where
  abbrev segment : List ℕ
  segment = segment_of image heap

  abbrev all : List Entry
  all = all_entries image has.symbol_nodes

  -- ---- symbol nodes

  formed : (at : ℕ) → In at has.symbol_nodes → IsSymbolNode (leaf_k image) (symbol_bytes image (leaf_k image) at)
  formed at there = in_all (λ n. IsSymbolNode (leaf_k image) (symbol_bytes image (leaf_k image) n)) at has.symbol_nodes has.formed there

  cached : (e : Entry) → In e all → e.cache ≤ 2
  cached e at = in_all IsEntry e (flat_map (symbols_of image (leaf_k image) has.symbol_nodes) has.symbol_nodes) has.listed.cached
      (subst (In e) (own_entries image has.symbol_nodes) at)

  pub symbol_excluded : (at : ℕ) → In at has.symbol_nodes → SymbolBreach image at → ⊥
  symbol_excluded at there (inl signature) = signature (formed at there).signed
  symbol_excluded at there (inr (inl version)) = version (formed at there).version
  symbol_excluded at there (inr (inr (inl many))) = absurd (omega (arith, many, (formed at there).roomy))
  symbol_excluded at there (inr (inr (inr (i, low, large)))) =
      let member = entry_listed image root heap found blocks has at i there low in
      absurd (omega (arith, large, cached (entry_in image at i) member))

  one_nodes : (xs : List ℕ) → HasSymbolNodes image root xs → xs ≡ has.symbol_nodes
  one_nodes xs (level, owned, tree) =
      one_children image (group_kind (internal_k image)) root level has.level owned has.owned xs has.symbol_nodes tree has.tree

  -- ---- names

  rise : (P R : List Entry) (x y : Entry) → all ≡ P ++ y ∷ R → In x P → Before (text_at segment x.name) (text_at segment y.name)
  rise P R x y split at =
      let links : found ≡ map (link_of segment) P ++ link_of segment y ∷ map (link_of segment) R
      = links_are image root heap found blocks has ∙ ap (map (link_of segment)) split ∙ map-append (link_of segment) P (y ∷ R) in
      ascends (link_of segment x) (link_of segment y) (map (link_of segment) P) (map (link_of segment) R) (subst Ascend links has.listed.ascending)
      (in_map (link_of segment) x P at)

  pub name_excluded : (at : ℕ) → NameBreach image root heap at → ⊥
  name_excluded at (before, after, nodes_are, (i, x, y, low, is, contained, falls)) =
      let here = symbols_at image (leaf_k image) at in
      let ahead = all_entries image before in
      let behind = all_entries image after in
      let tail = drop (suc i) here in
      let whole : all ≡ ahead ++ (here ++ behind)
      = ap (all_entries image) (sym (one_nodes (before ++ at ∷ after) nodes_are)) ∙ flat_map-append (symbols_at image (leaf_k image)) before (at ∷ after) in
      let inner : here ≡ take i here ++ y ∷ tail = around here i y low is in
      let split : all ≡ (ahead ++ take i here) ++ y ∷ (tail ++ behind)
      = whole ∙ ap (λ (es : List Entry). ahead ++ (es ++ behind)) inner
      ∙ ap (λ (es : List Entry). ahead ++ es) (append_assoc (take i here) (y ∷ tail) behind)
      ∙ sym (append_assoc ahead (take i here) (y ∷ (tail ++ behind))) in
      falls (rise (ahead ++ take i here) (tail ++ behind) x y split (in_contains x (ahead ++ take i here) contained))

  pub bad_name_excluded : BadNameBreach image root heap → ⊥
  bad_name_excluded (xs, e, nodes_are, contained, bad) =
      let listed : In e all = subst (λ (ns : List ℕ). In e (all_entries image ns)) (one_nodes xs nodes_are) (in_contains e (all_entries image xs) contained) in
      let good : IsTrue (is_name (text_at segment e.name))
      = in_all (λ (l : List ℕ × Target). IsTrue (is_name l.0)) (link_of segment e) found has.listed.named (link_listed image root heap found blocks has e listed) in
      let never : false ≡ true = sym (ap not good) ∙ bad in
      absurd (cc)

  -- ---- the heap

  pub heap_excluded : ((free : List Block) → IsHeap (heap_header image heap) segment free → ⊥) → ⊥
  heap_excluded none = none has.listed.free has.listed.heap_form

  keys_are : key_offsets (reading_of image (group_kind (internal_k image)) has.owned) has.owned ≡ all_key_offsets image root
  keys_are =
      let kind = group_kind (internal_k image) in
      let V = node_at image kind in
      let same : key_offsets V has.owned ≡ key_offsets (reading_of image kind has.owned) has.owned
      = flat-same (λ at. map offset_in (V at).keys) (λ at. map offset_in (reading_of image kind has.owned at).keys) has.owned
      (all_in (λ at. map offset_in (V at).keys ≡ map offset_in (reading_of image kind has.owned at).keys) has.owned
      (λ at there. ap (λ (n : Node). map offset_in n.keys) (in_all (λ n. V n ≡ reading_of image kind has.owned n) at has.owned (only_here blank V has.owned) there))) in
      sym same ∙ ap (key_offsets V) (owned_is image kind root has.level has.owned has.symbol_nodes has.tree)
      ∙ ap (λ (n : ℕ). key_offsets V (nodes V n (root ∷ []))) (sym (level_is image kind root has.level has.owned has.symbol_nodes has.tree))

  pub heap_name_excluded : HeapNameBreach image root heap → ⊥
  heap_name_excluded (xs, nodes_are, free, is, none) =
      let sn : has.symbol_nodes ≡ xs = sym (one_nodes xs nodes_are) in
      let es : flat_map (symbols_of image (leaf_k image) has.symbol_nodes) has.symbol_nodes ≡ all_entries image xs
      = sym (own_entries image has.symbol_nodes) ∙ ap (all_entries image) sn in
      let free_is : has.listed.free ≡ free = one_free (heap_header image heap) segment has.listed.free free has.listed.heap_form is in
      let a = subst (λ (ks : List ℕ). HasNames segment has.listed.free
      (map (λ (e : Entry). e.name) (flat_map (symbols_of image (leaf_k image) has.symbol_nodes) has.symbol_nodes))
      (texts_of (flat_map (symbols_of image (leaf_k image) has.symbol_nodes) has.symbol_nodes)) ks has.listed.loose) keys_are has.listed.spans in
      let b = subst (λ (l : List Entry). HasNames segment has.listed.free (map (λ (e : Entry). e.name) l) (texts_of l) (all_key_offsets image root) has.listed.loose) es a in
      let c = subst (λ (f : List Block). HasNames segment f (map (λ (e : Entry). e.name) (all_entries image xs)) (texts_of (all_entries image xs)) (all_key_offsets image root) has.listed.loose) free_is b in
      none has.listed.loose c

-- ---- depth

module _ (image : List ℕ) (table : FinMap nat_cmp ℕ) (tree : Tree) (placed : List Placed) (reads : Holds image table tree placed) where
  pub deep_excluded : (depth root heap at : ℕ) (g : KnownGroup image table tree placed depth root heap) → In at g.linked.symbol_nodes
      → most_names ≤ depth → 1 ≤ symbols_in (symbol_bytes image (leaf_k image) at) → ⊥
  deep_excluded depth root heap at g there deep some =
      let entry = entry_listed image root heap g.found g.k.has.content_blocks g.linked at 0 there (omega (arith, some)) in
      let listed = link_listed image root heap g.found g.k.has.content_blocks g.linked (entry_in image at 0) entry in
      let tied = tied_left (IsSame table) (entries g.links) g.found (link_of (segment_of image heap) (entry_in image at 0)) g.same listed in
      let linked : get g.links tied.0.0 ≡ Some tied.0.1 = get_of_entry nat_list_cmp_total g.links tied.0.0 tied.0.1 tied.1 in
      let leads = name_leads image table tree placed reads depth root heap g tied.0.0 tied.0.1 linked in
      let short : length (g.k.path ++ tied.0.0 ∷ []) ≤ most_names = reads.shallow (g.k.path ++ tied.0.0 ∷ []) (ap is_some leads) in
      absurd (omega (arith, deep, short, length-append g.k.path (tied.0.0 ∷ []), g.k.long))
