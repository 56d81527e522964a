-- Where the data of a chunked array stand, the image has its chunks, with its cells, in blocks without gaps (File Format Specification
-- 3.0, sections III.A.1 and IV.A.2.i).
use Rattle.std.proofs.Common.{◌≡◌, ℕ, suc, ◌+◌, ◌*◌, ◌^◌, ◌<◌, ◌≤◌, inl, inr, List, [], ◌∷◌, ◌++◌, length, length-append, map, refl, sym, ap, ◌∙◌, subst, arith, Some, None}
use Rattle.std.specs.Cmp.Lexicographic.{nat_list_cmp_total}
use Rattle.std.specs.FinMap.{entries, get, get-entries, values, nat_cmp-IsAntisymmetric, slice_cmp-IsAntisymmetric}
use Rattle.std.specs.List.{AllByRecursion, AllZip, Contains, flat_map}
use Rattle.h5_bytes.specs.Bytes.{part}
use Rattle.h5_bytes.specs.Blocks.{Run, block}
use Rattle.h5_bytes.specs.declared.Block.{Block}
use Rattle.h5_bytes.proofs.BlockLaws.{all_so}
use Rattle.h5_model.specs.Format.Limits.{highest_level}
use Rattle.h5_model.specs.Format.Superblock.{highest_k}
use Rattle.h5_model.specs.Format.Chunks.{Chunks, HasChunks, IsOffset}
use Rattle.h5_model.specs.Format.Nodes.{Kind, chunk_kind, node_length, tree_blocks}
use Rattle.h5_model.specs.Format.PlainLength.{nodes_over}
use Rattle.h5_model.specs.Tree.Grid.{corner_of}
use Rattle.h5_model.specs.Tree.Objects.{Dataset}
use Rattle.h5_laws.proofs.Lists.{In, in_all, in_contains}
use Rattle.h5_laws.proofs.Maps.{found_entry, get_of_entry}
use Rattle.h5_btree.specs.Writing.Laws.{HasPlainNodes}
use Rattle.h5_btree.specs.Writing.Written.{places_of, root_level}
use Rattle.h5_btree.specs.declared.write.child.Child.{Child}
use Rattle.h5_btree.proofs.WriteLaws.RowReads.{part_split}
use Rattle.h5_btree.proofs.WriteLaws.TreeLaws.{tree_reads}
use Rattle.h5_chunks.specs.Keys.{OffsetKey, chunk_key}
use Rattle.h5_repack.specs.Bodies.Chunks.{chunk_children, chunk_data, chunk_length, chunk_nodes, chunked_data, chunks_place}
use Rattle.h5_layout.specs.HeldChunks.{AreStoredChunks, IsHeldChunk}
use Rattle.h5_repack.proofs.ChunkLaws.ChunkCells.{AreCellsStored}
use Rattle.h5_repack.proofs.ChunkLaws.ChunkLengths.{AreRanked, key_fits, keys_fit, length-children, length-chunk, length-chunks, length-nodes, node_long}
use Rattle.h5_repack.proofs.ChunkLaws.ChunkOrder.{IsGridOf, key_of}
use Rattle.h5_repack.proofs.ChunkLaws.ChunkTree.{chunk_map, chunk_pairs, chunks_stand, entries_of, values_of}

-- ---- runs of blocks

run_append : (a b c : ℕ) (xs ys : List Block) → Run a xs b → Run b ys c → Run a (xs ++ ys) c
run_append a b c [] ys first second = subst (λ n. Run n ys c) (sym first) second
run_append a b c (x ∷ xs) ys first second = (first.0, run_append (a + x.len) b c xs ys first.1 second)

module _ (chunk : List ℕ) (size : ℕ) where
  one_behind : (at n : ℕ) → at + suc n * size ≡ at + size + n * size
  one_behind at n = omega arith

  chunks_run : (at : ℕ) (stored : List (List ℕ))
      → Run at (map (λ n. block n size) (places_of (chunk_children size chunk at stored))) (at + length stored * size)
  chunks_run at [] = omega arith
  chunks_run at (offsets ∷ others) = (
    refl,
    subst (λ to. Run (at + size) (map (λ n. block n size) (places_of (chunk_children size chunk (at + size) others))) to)
        (sym (one_behind at (length others))) (chunks_run (at + size) others),
  )

  places_low : (at most : ℕ) (stored : List (List ℕ)) → at + length stored * size ≤ most → 1 ≤ size
      → AllByRecursion (λ n. n < most) (places_of (chunk_children size chunk at stored))
  places_low at most [] room some = tt
  places_low at most (offsets ∷ others) room some =
      let more : at + size + length others * size ≤ most = omega (arith, room, one_behind at (length others)) in
      (omega (arith, more, some), places_low (at + size) most others more some)

  in_pairs : (at : ℕ) (stored : List (List ℕ)) (offsets : List ℕ) → In offsets stored → (n : ℕ) × In (offsets, n) (chunk_pairs size at stored)
  in_pairs at [] offsets is = absurd is
  in_pairs at (first ∷ others) offsets (inl e) = (at, inl (ap (λ (o : List ℕ). (o, at)) e))
  in_pairs at (first ∷ others) offsets (inr is) = let found = in_pairs (at + size) others offsets is in (found.0, inr found.1)

-- ---- the chunks where they stand

module _ (image : List ℕ) (d : Dataset) (chunk : List ℕ) where
  abbrev size : ℕ
  size = chunk_length d chunk

  each_there : (at : ℕ) (stored : List (List ℕ)) → part at (length (flat_map (chunk_data d chunk) stored)) image ≡ flat_map (chunk_data d chunk) stored
      → AllByRecursion (λ (p : List ℕ × ℕ). part p.1 size image ≡ chunk_data d chunk p.0) (chunk_pairs size at stored)
  each_there at [] there = tt
  each_there at (offsets ∷ others) there =
      let both = part_split at (chunk_data d chunk offsets) (flat_map (chunk_data d chunk) others) image there in
      let long = length-chunk chunk d offsets in (
        ap (λ n. part at n image) (sym long) ∙ both.0,
        each_there (at + size) others (ap (λ n. part (at + n) (length (flat_map (chunk_data d chunk) others)) image) (sym long) ∙ both.1),
      )

  pub ranked_of : (grid : IsGridOf chunk) (stored : List (List ℕ)) → AllByRecursion (AllZip IsOffset chunk) stored → AreRanked chunk stored
  ranked_of grid stored held = all_so (AllZip IsOffset chunk) (λ (o : List ℕ). length o ≡ length chunk) stored (λ o is. (key_of chunk grid size o is).long) held

  -- in a tree of nodes of this K
  module _ (k : ℕ) (some_k : 1 ≤ k) (few_k : k ≤ highest_k) (grid : IsGridOf chunk) (some : 1 ≤ size) (small : size < 2 ^ 32) (at : ℕ) (first : List ℕ)
      (others : List (List ℕ)) (are : AreStoredChunks d chunk (first ∷ others)) (low_tree : root_level k (length (first ∷ others)) ≤ highest_level)
      (room : at + length (chunked_data k d chunk (first ∷ others) at) < 2 ^ 63)
      (there : part at (length (chunked_data k d chunk (first ∷ others) at)) image ≡ chunked_data k d chunk (first ∷ others) at) where
    abbrev stored : List (List ℕ)
    stored = first ∷ others

    abbrev kind : Kind
    kind = chunk_kind k (length chunk)

    abbrev place : ℕ
    place = chunks_place k chunk (length stored) at

    abbrev children : List (Child OffsetKey)
    children = chunk_children size chunk place stored

    abbrev nodes_part : List ℕ
    nodes_part = chunk_nodes k size chunk first stored at

    abbrev chunks_part : List ℕ
    chunks_part = flat_map (chunk_data d chunk) stored

    held : AllByRecursion (AllZip IsOffset chunk) stored
    held = all_so (IsHeldChunk d.sizes chunk) (AllZip IsOffset chunk) stored (λ o is. is.aligned) are.held

    ranked : AreRanked chunk stored
    ranked = ranked_of grid stored held

    nodes_long : length nodes_part ≡ nodes_over 64 (2 * k) (length stored) * node_length kind
    nodes_long = length-nodes k some_k chunk size first stored at ranked.0 ranked ∙ ap (λ n. nodes_over 64 (2 * k) (length stored) * n) (sym (node_long k (length chunk)))

    place_is : at + length nodes_part ≡ place
    place_is = ap (λ n. at + n) nodes_long

    chunks_long : length chunks_part ≡ length stored * size
    chunks_long = length-chunks chunk d stored

    end_is : place + length stored * size ≡ at + length (chunked_data k d chunk stored at)
    end_is = let whole = length-append nodes_part chunks_part in omega (arith, whole, chunks_long, place_is)

    both : (part at (length nodes_part) image ≡ nodes_part) × (part (at + length nodes_part) (length chunks_part) image ≡ chunks_part)
    both = part_split at nodes_part chunks_part image there

    pub plain : HasPlainNodes image kind chunk_key (record { bytes = size; offsets = first }) at children
    plain = tree_reads OffsetKey image kind chunk_key (record { bytes = size; offsets = first }) at children some_k few_k
        (key_fits k some_k chunk size first ranked.0) (keys_fit k some_k chunk size place stored ranked)
        (all_so (λ n. n < 2 ^ 63) (λ n. n < 2 ^ 64) (places_of children) (λ n low. omega (arith, low)) (places_low chunk size place (2 ^ 63) stored (omega (arith, end_is, room)) some))
        (subst (λ n. root_level k n ≤ highest_level) (sym (length-children chunk size place stored)) low_tree)
        (let whole = length-append nodes_part chunks_part in omega (arith, whole, room)) both.0

    abbrev pub chunks : Chunks
    chunks = chunk_map size place stored

    abbrev pub blocks : List Block
    blocks = tree_blocks kind plain.owned ++ map (λ n. block n size) (values chunks)

    -- the chunks
    pub stored_stand : HasChunks image k chunk size at chunks blocks
    stored_stand = chunks_stand chunk grid size some k image at place first others small plain are.rising held

    -- in blocks without gaps
    pub stored_run : Run at blocks (at + length (chunked_data k d chunk stored at))
    stored_run =
        let nodes_run : Run at (tree_blocks kind plain.owned) place = subst (Run at (tree_blocks kind plain.owned)) place_is plain.run in
        let run : Run place (map (λ n. block n size) (values chunks)) (at + length (chunked_data k d chunk stored at))
        = subst (λ (ns : List ℕ). Run place (map (λ n. block n size) ns) (at + length (chunked_data k d chunk stored at)))
        (sym (values_of chunk grid size some place first others are.rising))
        (subst (Run place (map (λ n. block n size) (places_of children))) end_is (chunks_run chunk size place stored)) in
        run_append at place (at + length (chunked_data k d chunk stored at)) (tree_blocks kind plain.owned) (map (λ n. block n size) (values chunks)) nodes_run run

    -- with the array's cells
    entries_are : entries chunks ≡ chunk_pairs size place stored
    entries_are = entries_of size place first others are.rising

    all_there : AllByRecursion (λ (p : List ℕ × ℕ). part p.1 size image ≡ chunk_data d chunk p.0) (chunk_pairs size place stored)
    all_there = each_there place stored (ap (λ n. part n (length chunks_part) image) (sym place_is) ∙ both.1)

    found_there : (offsets : List ℕ) (n : ℕ) → get chunks offsets ≡ Some n → part n size image ≡ chunk_data d chunk offsets
    found_there offsets n found =
        let entry : In (offsets, n) (entries chunks)
        = found_entry (slice_cmp-IsAntisymmetric nat_cmp-IsAntisymmetric) (entries chunks) offsets n (sym (get-entries chunks offsets) ∙ found) in
        in_all (λ (p : List ℕ × ℕ). part p.1 size image ≡ chunk_data d chunk p.0) (offsets, n) (chunk_pairs size place stored) all_there
        (subst (In (offsets, n)) entries_are entry)

    absent : (offsets : List ℕ) → get chunks offsets ≡ None → Contains stored offsets → ⊥
    absent offsets none contained =
        let pair = in_pairs chunk size place stored offsets (in_contains offsets stored contained) in
        let found : get chunks offsets ≡ Some pair.0
        = get_of_entry nat_list_cmp_total chunks offsets pair.0 (subst (In (offsets, pair.0)) (sym entries_are) pair.1) in
        absurd (let never : None ≡ Some pair.0 = sym none ∙ found in cc)

    pub stored_cells : AreCellsStored image d chunk chunks
    stored_cells = record {
      there = found_there;
      unset = λ index inside none. are.unset index inside (absent (corner_of chunk index) none);
    }
