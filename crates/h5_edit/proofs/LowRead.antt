-- The tree of every group that was read, and of the chunks of every array, has at most 16 levels, and needs no more where it is written
-- anew (File Format Specification 3.0, sections III.A.1 and III.B).
use Rattle.std.proofs.Common.{◌≡◌, ℕ, ◌+◌, ◌*◌, ◌≤◌, not, List, [], ◌∷◌, length, refl, sym, ap, ◌∙◌, subst, inl, inr, arith, Some, None}
use Rattle.std.proofs.lemmas.List.{length-map}
use Rattle.std.proofs.lemmas.List.Filters.{length-filter_both}
use Rattle.std.proofs.lemmas.List.FromFn.{length-map-range_with_len}
use Rattle.std.proofs.lemmas.Slice.Zip.{AllZip-long}
use Rattle.std.specs.Prelude.{T}
use Rattle.std.specs.List.{AllByRecursion, flat_map}
use Rattle.std.specs.Ordering.{nat_cmp}
use Rattle.std.specs.Cmp.Lexicographic.{slice_cmp}
use Rattle.std.specs.FinMap.{empty, entries, entries-from_sorted, entries_sorted, from_sorted, get, is_sorted, len, len-entries, retain_keys, same_entries_map, values}
use Rattle.std.specs.FinMap.Entries.{is_sorted-where_key, where_key}
use Rattle.h5_bytes.specs.Bytes.{part}
use Rattle.h5_bytes.specs.declared.Block.{Block}
use Rattle.h5_model.specs.Format.Limits.{highest_level}
use Rattle.h5_layout.specs.HeldChunks.{held_chunks}
use Rattle.h5_model.specs.Format.Chunks.{Chunks}
use Rattle.h5_model.specs.Format.Fixed.{Fixed}
use Rattle.h5_model.specs.Format.Layout.{Layout, InMessage, InBlock, InChunks}
use Rattle.h5_model.specs.Format.Links.{HasLinks}
use Rattle.h5_model.specs.Format.Nodes.{chunk_kind, group_kind}
use Rattle.h5_model.specs.Format.PlainLength.{rows_of}
use Rattle.h5_model.specs.Format.Reads.{HasData, IsSame}
use Rattle.h5_model.specs.Format.Superblock.{chunk_k, k_values}
use Rattle.h5_model.specs.Format.Symbols.{Target, IsSymbolNode, entries_of, entry_of, link_of, symbol_bytes, symbols_at, symbols_in, symbols_of}
use Rattle.h5_model.specs.Tree.Objects.{Object, Array, Dataset, Storage, Compact, Contiguous, Chunked}
use Rattle.h5_model.specs.Tree.Places.{is_inside}
use Rattle.h5_model.proofs.MapSteps.{entries-empty, retain_by_name}
use Rattle.h5_btree.specs.Writing.Written.{root_level}
use Rattle.h5_btree.proofs.WriteLaws.Counts.{level_one, root_level_is}
use Rattle.h5_laws.proofs.Maps.{true_of}
use Rattle.h5_laws.proofs.Objects.{content_cases}
use Rattle.h5_query.specs.Opened.Sound.{IsSound}
use Rattle.h5_query.specs.Opened.State.{FileState}
use Rattle.h5_repack.specs.Bodies.Headers.{IsLowStorage}
use Rattle.h5_repack.specs.Image.Plain.{AreLow, IsLowContent}
use Rattle.h5_repack.specs.Image.Written.{StoredIn}
use Rattle.h5_edit.specs.Repacked.{AreStoredAt}
use Rattle.h5_edit.proofs.FitLaws.OpenedTrees.{IsRead, object_read}
use Rattle.h5_edit.proofs.Levels.{flat_few, only_few, rows_fit, level_read}
use Rattle.h5_edit.proofs.StoredLaws.{dataset_is}

-- ---- links that were read

module _ (image : List ℕ) (leaf k root heap : ℕ) (links : List (List ℕ × Target)) (blocks : List Block) (some : 1 ≤ leaf)
    (has : HasLinks image leaf k root heap links blocks) where
  symbols_few : (bytes : List ℕ) → IsSymbolNode leaf bytes → length (entries_of bytes) ≤ 2 * leaf
  symbols_few bytes is =
      let all : length (entries_of bytes) ≡ symbols_in bytes = length-map-range_with_len (λ i. entry_of (part (8 + 40 * i) 40 bytes)) 0 (symbols_in bytes) in
      let few : symbols_in bytes ≤ 2 * leaf = is.roomy in
      omega (arith, all, few)

  all_few : (ns : List ℕ) → AllByRecursion (λ at. IsSymbolNode leaf (symbol_bytes image leaf at)) ns → AllByRecursion (λ at. length (symbols_at image leaf at) ≤ 2 * leaf) ns
  all_few [] all = tt
  all_few (n ∷ ns) all = (symbols_few (symbol_bytes image leaf n) all.0, all_few ns all.1)

  -- no more than the symbol nodes have room for
  links_few : length links ≤ length has.symbol_nodes * (2 * leaf)
  links_few =
      let S = symbols_of image leaf has.symbol_nodes in
      let few = flat_few S (2 * leaf) (only_few (symbols_at image leaf) (2 * leaf) has.symbol_nodes (all_few has.symbol_nodes has.formed)) has.symbol_nodes in
      let count : length links ≡ length (flat_map S has.symbol_nodes) = ap length (has.listed).all ∙ length-map (flat_map S has.symbol_nodes) (link_of _) in
      omega (arith, few, count)

  pub links_low : 1 ≤ k → root_level k (rows_of (2 * leaf) (length links)) ≤ highest_level
  links_low some_k =
      let level = level_read image (group_kind k) root has.level has.owned has.symbol_nodes some_k has.tree (rows_of (2 * leaf) (length links)) (rows_fit (2 * leaf) (length links) (length has.symbol_nodes) (omega arith) links_few) in
      let low = (has.tree).low in
      omega (arith, level, low)

-- ---- chunks that were read

-- no more chunks hold a cell of an extent than are stored
pub held_few : (sizes : List ℕ) (chunks : Chunks) → length (held_chunks sizes chunks) ≤ length (entries chunks)
held_few sizes chunks =
    let by = slice_cmp nat_cmp in
    let sorted : T (is_sorted by (entries chunks)) = entries_sorted chunks in
    let again : chunks ≡ from_sorted (entries chunks) = same_entries_map chunks (from_sorted (entries chunks)) (sym (entries-from_sorted by (entries chunks) sorted)) in
    let kept : entries (retain_keys chunks (is_inside sizes)) ≡ where_key by (is_inside sizes) (entries chunks)
    = ap (λ (m : Chunks). entries (retain_keys m (is_inside sizes))) again
    ∙ ap entries (retain_by_name (entries chunks) (is_inside sizes) (true_of _ sorted))
    ∙ entries-from_sorted by (where_key by (is_inside sizes) (entries chunks)) (is_sorted-where_key by (is_inside sizes) (entries chunks) sorted) in
    let passing = length-filter_both (λ (e : List ℕ × ℕ). is_inside sizes e.0) (λ (e : List ℕ × ℕ). not (is_inside sizes e.0)) (λ e. refl) (entries chunks) in
    omega (arith, ap length kept, length-map (entries (retain_keys chunks (is_inside sizes))) (λ (e : List ℕ × ℕ). e.0), passing)

module _ (image : List ℕ) (some : 1 ≤ chunk_k image) (n : ℕ) where
  -- no chunk needs a tree of one node
  none_low : (chunks : Chunks) → chunks ≡ empty → n ≤ length (entries chunks) → root_level (chunk_k image) n ≤ highest_level
  none_low chunks none few =
      let zero_of : length (entries chunks) ≡ 0 = ap (λ (m : Chunks). length (entries m)) none ∙ ap length (entries-empty {X = ℕ} (slice_cmp nat_cmp)) in
      omega (arith, few, zero_of, root_level_is (chunk_k image) n, level_one 64 (2 * chunk_k image) n)

  -- as many chunks as are stored, or fewer, need no higher tree than theirs
  pub stored_low : (t : Fixed) (l : Layout) (chunks : Chunks) (blocks : List Block) → HasData image t l chunks blocks → n ≤ length (entries chunks)
      → root_level (chunk_k image) n ≤ highest_level
  stored_low t (InMessage bytes) chunks blocks has few = none_low chunks has.0 few
  stored_low t (InBlock None) chunks blocks has few = none_low chunks has.0 few
  stored_low t (InBlock (Some b)) chunks blocks has few = none_low chunks has.0 few
  stored_low t (InChunks sizes None) chunks blocks has few = none_low chunks has.0 few
  stored_low t (InChunks sizes (Some root)) chunks blocks has few =
      let many : length (values chunks) ≡ length (entries chunks) = length-map (entries chunks) (λ (e : List ℕ × ℕ). e.1) in
      let level = level_read image (chunk_kind (chunk_k image) (length sizes)) root has.level has.owned (values chunks) some has.tree n (omega (arith, few, many)) in
      let low = (has.tree).low in
      omega (arith, level, low)

-- ---- all objects

module _ (f : FileState) (sound : IsSound f) (stored : StoredIn) (are : (number : ℕ) → AreStoredAt f number (stored number)) where
  -- chunks that are stored of an array
  storage_low : (number : ℕ) (o : Object) (d : Dataset) → get f.tree number ≡ Some o → o.content ≡ Array d → (s : Storage) → d.storage ≡ s
      → IsLowStorage (chunk_k f.image) (length (stored number)) s
  storage_low number o d there is Compact of = tt
  storage_low number o d there is (Contiguous held) of = tt
  storage_low number o d there is (Chunked chunk) of =
      let (header, chunks, listed, has, offsets) = are number d (dataset_is f.tree number o (Array d) there is) chunk of in
      let stands = subst (λ (those : Chunks). HasData f.image has.dataset.fixed has.array.layout those has.data_blocks) has.chunks_are has.array.stored in
      stored_low f.image sound.reads.holds.superblock.chunk_low (length (stored number)) has.dataset.fixed has.array.layout chunks has.data_blocks stands
      (omega (arith, held_few d.sizes chunks, ap length offsets))

  content_low : (number : ℕ) (o : Object) (there : get f.tree number ≡ Some o) → IsRead f sound number o there
      → IsLowContent (k_values f.image) (length (stored number)) o.content
  content_low number o there r =
      elim (content_cases f.image f.table r.has.messages o.content r.has.content_blocks r.has.content) [
        | inl (links, e, found, group, zip) ↦
            let superblock = sound.reads.holds.superblock in
            let low = links_low f.image _ _ _ _ found r.has.content_blocks superblock.leaf_low group.linked superblock.internal_low in
            let count : length found ≡ len links = AllZip-long (IsSame f.table) (entries links) found zip ∙ sym (len-entries links) in
            subst (IsLowContent (k_values f.image) (length (stored number))) (sym e)
            (subst (λ (n : ℕ). root_level (k_values f.image).internal (rows_of (2 * (k_values f.image).leaf) n) ≤ highest_level) count low)
        | inr (d, e, array) ↦
            subst (IsLowContent (k_values f.image) (length (stored number))) (sym e) (storage_low number o d there e d.storage refl)
      ]

  -- where these chunks are stored
  pub read_low : AreLow (k_values f.image) stored f.tree
  read_low number o there = content_low number o there (object_read f sound number o there)
