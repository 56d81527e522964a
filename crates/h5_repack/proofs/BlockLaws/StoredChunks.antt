-- The stored chunks of an array to be written: how many bytes they have with their tree, and that the tree is appended (File Format
-- Specification 3.0, sections III.A.1 and IV.A.2.i).
use Rattle.std.proofs.Common.{◌≡◌, ℕ, ◌+◌, ◌-◌, ◌*◌, ◌^◌, ◌<◌, ◌≤◌, ℤ, List, [], ◌∷◌, ◌++◌, length, length-append, map, drop, get_or, refl, sym, ap, ◌∙◌, subst, arith, append_assoc, Some}
use Rattle.std.proofs.lemmas.List.{length-map, map-append, drop_more, drop_all, drop-map}
use Rattle.std.proofs.lemmas.Nat.{mul-le}
use Rattle.std.proofs.lemmas.Option.{slice_get-get_or}
use Rattle.std.specs.Prelude.{slice_get}
use Rattle.std.specs.List.{AllByRecursion, flat_map}
use Rattle.h5_model.specs.Format.Fixed.{Fixed}
use Rattle.h5_model.specs.Format.Limits.{most_chunk_bytes, highest_level}
use Rattle.h5_model.specs.Format.Superblock.{highest_k}
use Rattle.h5_model.specs.Format.Nodes.{Kind, chunk_kind, node_length}
use Rattle.h5_model.specs.Format.PlainLength.{nodes_over}
use Rattle.h5_model.specs.Tree.Places.{cells}
use Rattle.h5_model.proofs.PlainValues.{length-cells_bytes}
use Rattle.h5_btree.specs.declared.write.child.Child.{Child}
use Rattle.h5_btree.specs.Writing.Written.{AllFit, FitsKind, root_level, tree_bytes}
use Rattle.h5_btree.proofs.WriteLaws.TreeLaws.{tree_length}
use Rattle.h5_chunks.specs.Keys.{OffsetKey, chunk_key}
use Rattle.h5_chunks.specs.declared.write.ChunkKey.{ChunkKey}
use Rattle.h5_layout.specs.HeldChunks.{HeldCells}
use Rattle.h5_repack.specs.Bodies.Chunks.{chunk_children, chunk_nodes, chunks_place, key_after}
use Rattle.h5_repack.specs.Blocks.StoredChunks.{IsLastKey, chunks_written, key_bytes, with_key_bytes, part_bytes, part_length, parts_bytes, parts_written}
use Rattle.h5_repack.specs.Blocks.Written.{AreWhole, part_offsets}
use Rattle.h5_repack.proofs.ChunkLaws.ChunkLengths.{AreRanked, key_fits, keys_fit, length-children, length-nodes, node_long}
use Rattle.h5_repack.proofs.ChunkLaws.KeyTrees.{tree_kept}

-- ---- products

-- the nodes of a tree of at most 32 dimensions
pub nodes_low : (nodes long : ℕ) (kind : Kind) → kind.k ≤ highest_k → kind.key_length ≤ 272 → nodes < 2 ^ 33 → long ≡ node_length kind → nodes * long ≤ 2 ^ 58
nodes_low nodes long kind k key few is =
    let children : 2 * kind.k * (kind.key_length + 8) ≤ 2 ^ 16 * 280 = mul-le (2 * kind.k) (kind.key_length + 8) (2 ^ 16) 280 (omega (arith, k)) (omega (arith, key)) in
    let own : long ≤ 2 ^ 25 = omega (arith, is, children, key) in
    let low : nodes * long ≤ 2 ^ 33 * 2 ^ 25 = mul-le nodes long (2 ^ 33) (2 ^ 25) (omega (arith, few)) own in
    omega (arith, low)

pub chunks_low : (count size : ℕ) → count < 2 ^ 32 → size ≤ most_chunk_bytes → count * size ≤ 2 ^ 62
chunks_low count size few small = let low : count * size ≤ 2 ^ 32 * most_chunk_bytes = mul-le count size (2 ^ 32) most_chunk_bytes (omega (arith, few)) small in omega (arith, low)

-- each chunk has a byte
pub chunks_high : (count size : ℕ) → 1 ≤ size → count ≤ count * size
chunks_high count size some = let low : count * 1 ≤ count * size = mul-le count 1 count size (omega arith) some in omega (arith, low)

-- ---- chunks that are handed over

abbrev pub AreRankedParts : HeldCells → Type 0
AreRankedParts h = AllByRecursion (λ (part : List ℕ × List ℤ). length part.0 ≡ length h.chunk) h.parts

as_many : (h : HeldCells) → length (part_offsets h) ≡ length h.parts
as_many h = length-map h.parts (λ (part : List ℕ × List ℤ). part.0)

ranked_offsets : (chunk : List ℕ) (parts : List (List ℕ × List ℤ)) → AllByRecursion (λ (part : List ℕ × List ℤ). length part.0 ≡ length chunk) parts
    → AreRanked chunk (map (λ part. part.0) parts)
ranked_offsets chunk [] all = tt
ranked_offsets chunk (part ∷ parts) all = (all.0, ranked_offsets chunk parts all.1)

-- ---- lengths

length-parts : (t : Fixed) (n : ℕ) (parts : List (List ℕ × List ℤ)) → AllByRecursion (λ (part : List ℕ × List ℤ). length part.1 ≡ n) parts
    → length (flat_map (part_bytes t) parts) ≡ length parts * (n * t.size)
length-parts t n [] all = omega arith
length-parts t n (part ∷ parts) all =
    let own : length (part_bytes t part) ≡ n * t.size = length-cells_bytes t part.1 ∙ ap (λ m. m * t.size) all.0 in
    omega (arith, own, length-append (part_bytes t part) (flat_map (part_bytes t) parts), length-parts t n parts all.1)

module _ (h : HeldCells) (whole : AreWhole h) where
  -- in a tree of nodes of this K
  module _ (ranked : AreRankedParts h) (k : ℕ) (some_k : 1 ≤ k) (count size : ℕ) (count_is : count ≡ length h.parts) (some : 1 ≤ count) (size_is : size ≡ part_length h) where
    -- nodes and chunks
    pub chunks_long : (kind : Kind) (nodes : ℕ) → kind ≡ chunk_kind k (length h.chunk) → nodes ≡ nodes_over 64 (2 * kind.k) count * node_length kind
        → (place : ℕ) → length (chunks_written k h place) ≡ nodes + count * size
    chunks_long kind nodes kind_is nodes_are place = by_offsets (part_offsets h) (as_many h ∙ sym count_is) (ranked_offsets h.chunk h.parts ranked) where
      by_offsets : (all : List (List ℕ)) → length all ≡ count → AreRanked h.chunk all → length (parts_written k h all place) ≡ nodes + count * size
      by_offsets [] long fit = absurd (omega (arith, some, long))
      by_offsets (first ∷ others) long fit =
          let tree : length (chunk_nodes k (part_length h) h.chunk first (first ∷ others) place) ≡ nodes
          = length-nodes k some_k h.chunk (part_length h) first (first ∷ others) place fit.0 fit
          ∙ (λ i. nodes_over 64 (2 * (sym kind_is i).k) (long i) * (sym (node_long k (length h.chunk)) ∙ ap (λ (x : Kind). node_length x) (sym kind_is)) i) ∙ sym nodes_are in
          let parts : length (parts_bytes h) ≡ count * size = length-parts h.fixed (cells h.chunk) h.parts whole ∙ (λ i. sym count_is i * sym size_is i) in
          length-append (chunk_nodes k (part_length h) h.chunk first (first ∷ others) place) (parts_bytes h) ∙ (λ i. tree i + parts i)

    -- more chunks than an image has bytes
    pub chunks_many : 1 ≤ size → (place : ℕ) → count ≤ length (chunks_written k h place)
    chunks_many high place =
        omega (
          arith,
          chunks_long (chunk_kind k (length h.chunk)) (nodes_over 64 (2 * k) count * node_length (chunk_kind k (length h.chunk))) refl refl place,
          chunks_high count size high,
        )

-- ---- keys behind chunks

abbrev no_part : List ℕ × List ℤ
no_part = ([], [])

module _ (h : HeldCells) (k : ℕ) where
  offsets_next : k < length h.parts → drop k (part_offsets h) ≡ (get_or h.parts k no_part).0 ∷ drop (k + 1) (part_offsets h)
  offsets_next low =
      drop-map (λ (part : List ℕ × List ℤ). part.0) k h.parts ∙ ap (map (λ (part : List ℕ × List ℤ). part.0)) (drop_more h.parts k no_part low)
      ∙ ap (λ (all : List (List ℕ)). (get_or h.parts k no_part).0 ∷ all) (sym (drop-map (λ (part : List ℕ × List ℤ). part.0) (k + 1) h.parts))

-- that of the next
pub next_key : (h : HeldCells) (k : ℕ) (key : List ℕ) → k + 1 < length h.parts
    → ((part : List ℕ × List ℤ) → slice_get h.parts (k + 1) ≡ Some part → key ≡ chunk_key (record { bytes = part_length h; offsets = part.0 }))
    → (own : List ℕ) → key ≡ chunk_key (key_after (part_length h) h.chunk own (drop (k + 1) (part_offsets h)))
next_key h k key low is own =
    is (get_or h.parts (k + 1) no_part) (slice_get-get_or h.parts (k + 1) no_part low)
    ∙ sym (ap (λ (all : List (List ℕ)). chunk_key (key_after (part_length h) h.chunk own all)) (offsets_next h (k + 1) low))

-- or the last
pub last_key : (h : HeldCells) (k : ℕ) (key : List ℕ) → k < length h.parts → length h.parts ≤ k + 1 → IsLastKey h key
    → (part : List ℕ × List ℤ) → slice_get h.parts k ≡ Some part → key ≡ chunk_key (key_after (part_length h) h.chunk part.0 (drop (k + 1) (part_offsets h)))
last_key h k key low high is part here =
    let none : drop (k + 1) (part_offsets h) ≡ [] = drop_all (k + 1) (part_offsets h) (omega (arith, high, as_many h)) in
    let last : length h.parts - 1 ≡ k = omega (arith, low, high) in
    is part (ap (slice_get h.parts) last ∙ here) ∙ sym (ap (λ (all : List (List ℕ)). chunk_key (key_after (part_length h) h.chunk part.0 all)) none)

-- ---- one chunk more

pub place_step : (at place k long size : ℕ) → long ≡ size → place ≡ at + k * size → place + long ≡ at + (k + 1) * size
place_step at place k long size is so_far = omega (arith, is, so_far)

pub child_step : (h : HeldCells) (k place size : ℕ) (children new : List (Child ChunkKey)) (key : ChunkKey) → k < length h.parts → size ≡ part_length h
    → new ≡ children ++ record { at = place; key = key } ∷ []
    → ((part : List ℕ × List ℤ) → slice_get h.parts k ≡ Some part → key.bytes.now ≡ chunk_key (key_after (part_length h) h.chunk part.0 (drop (k + 1) (part_offsets h))))
    → map (with_key_bytes key_bytes) new ++ map (with_key_bytes chunk_key) (chunk_children (part_length h) h.chunk (place + size) (drop (k + 1) (part_offsets h)))
    ≡ map (with_key_bytes key_bytes) children ++ map (with_key_bytes chunk_key) (chunk_children (part_length h) h.chunk place (drop k (part_offsets h)))
child_step h k place size children new key low size_is pushed key_is =
    let part : List ℕ × List ℤ = get_or h.parts k no_part in
    let rest : List (Child (List ℕ)) = map (with_key_bytes chunk_key) (chunk_children (part_length h) h.chunk (place + part_length h) (drop (k + 1) (part_offsets h))) in
    let own = key_is part (slice_get-get_or h.parts k no_part low) in
    let next : map (with_key_bytes chunk_key) (chunk_children (part_length h) h.chunk place (drop k (part_offsets h)))
    ≡ record { at = place; key = key.bytes.now } ∷ rest
    = ap (λ (all : List (List ℕ)). map (with_key_bytes chunk_key) (chunk_children (part_length h) h.chunk place all)) (offsets_next h k low)
    ∙ (λ i. record { at = place; key = sym own i } ∷ rest) in
    (λ i. map (with_key_bytes key_bytes) (pushed i) ++ map (with_key_bytes chunk_key) (chunk_children (part_length h) h.chunk (place + size_is i) (drop (k + 1) (part_offsets h))))
    ∙ ap (λ (cs : List (Child (List ℕ))). cs ++ rest) (map-append (with_key_bytes key_bytes) children (record { at = place; key = key } ∷ []))
    ∙ append_assoc (map (with_key_bytes key_bytes) children) (record { at = place; key = key.bytes.now } ∷ []) rest
    ∙ ap (λ (cs : List (Child (List ℕ))). map (with_key_bytes key_bytes) children ++ cs) (sym next)

pub part_step : (h : HeldCells) (k : ℕ) (out new : List ℕ) → k < length h.parts
    → ((part : List ℕ × List ℤ) → slice_get h.parts k ≡ Some part → new ≡ out ++ part_bytes h.fixed part)
    → new ++ flat_map (part_bytes h.fixed) (drop (k + 1) h.parts) ≡ out ++ flat_map (part_bytes h.fixed) (drop k h.parts)
part_step h k out new low pushed =
    let part : List ℕ × List ℤ = get_or h.parts k no_part in
    let rest : List ℕ = flat_map (part_bytes h.fixed) (drop (k + 1) h.parts) in
    ap (λ bytes. bytes ++ rest) (pushed part (slice_get-get_or h.parts k no_part low)) ∙ append_assoc out (part_bytes h.fixed part) rest
    ∙ sym (ap (λ (all : List (List ℕ × List ℤ)). out ++ flat_map (part_bytes h.fixed) all) (drop_more h.parts k no_part low))

-- ---- the tree

module _ {K : Type 0} (kind : Kind) (bytes : K → List ℕ) where
  fit_from : (cs : List (Child K)) → AllFit kind (λ (key : List ℕ). key) (map (with_key_bytes bytes) cs) → AllFit kind bytes cs
  fit_from [] all = tt
  fit_from (c ∷ cs) all = (all.0, fit_from cs all.1)

  fit_to : (cs : List (Child K)) → AllFit kind bytes cs → AllFit kind (λ (key : List ℕ). key) (map (with_key_bytes bytes) cs)
  fit_to [] all = tt
  fit_to (c ∷ cs) all = (all.0, fit_to cs all.1)

module _ (k : ℕ) (some_k : 1 ≤ k) (h : HeldCells) (ranked : AreRankedParts h) (some : 1 ≤ length h.parts) (kind : Kind) (kind_is : kind ≡ chunk_kind k (length h.chunk)) where
  abbrev size : ℕ
  size = part_length h

  fits : (offsets : List ℕ) (key : List ℕ) → length offsets ≡ length h.chunk → key ≡ chunk_key (record { bytes = size; offsets = offsets }) → length key ≡ kind.key_length
  fits offsets key long is = ap length is ∙ key_fits k some_k h.chunk size offsets long ∙ ap (λ (x : Kind). x.key_length) (sym kind_is)

  module _ (first : ChunkKey) (first_is : (part : List ℕ × List ℤ) → slice_get h.parts 0 ≡ Some part → first.bytes.now ≡ chunk_key (record { bytes = size; offsets = part.0 })) where
    by_parts : (parts : List (List ℕ × List ℤ)) → AllByRecursion (λ (part : List ℕ × List ℤ). length part.0 ≡ length h.chunk) parts → 1 ≤ length parts
        → ((part : List ℕ × List ℤ) → slice_get parts 0 ≡ Some part → first.bytes.now ≡ chunk_key (record { bytes = size; offsets = part.0 })) → FitsKind kind key_bytes first
    by_parts [] all high is = absurd (omega (arith, high))
    by_parts (part ∷ parts) all high is = fits part.0 first.bytes.now all.0 (is part refl)

    pub first_fits : FitsKind kind key_bytes first
    first_fits = by_parts h.parts ranked some first_is

    module _ (begin : ℕ) (children : List (Child ChunkKey))
        (are : map (with_key_bytes key_bytes) children ≡ map (with_key_bytes chunk_key) (chunk_children size h.chunk begin (part_offsets h))) where
      abbrev own : List (Child OffsetKey)
      own = chunk_children size h.chunk begin (part_offsets h)

      pub as_many_children : length children ≡ length h.parts
      as_many_children =
          sym (length-map children (with_key_bytes key_bytes)) ∙ ap length are ∙ length-map own (with_key_bytes chunk_key) ∙ length-children h.chunk size begin (part_offsets h) ∙ as_many h

      pub all_fit : AllFit kind key_bytes children
      all_fit =
          subst (λ (x : Kind). AllFit x key_bytes children) (sym kind_is)
          (fit_from (chunk_kind k (length h.chunk)) key_bytes children
          (subst (λ (cs : List (Child (List ℕ))). AllFit (chunk_kind k (length h.chunk)) (λ (key : List ℕ). key) cs) (sym are)
          (fit_to (chunk_kind k (length h.chunk)) chunk_key own (keys_fit k some_k h.chunk size begin (part_offsets h) (ranked_offsets h.chunk h.parts ranked)))))

      pub level_low : root_level k (length h.parts) ≤ highest_level → root_level kind.k (length children) ≤ highest_level
      level_low low =
          subst (λ (x : Kind). root_level x.k (length children) ≤ highest_level) (sym kind_is) (subst (λ n. root_level k n ≤ highest_level) (sym as_many_children) low)

      module _ (place nodes : ℕ) (nodes_are : nodes ≡ nodes_over 64 (2 * kind.k) (length h.parts) * node_length kind) where
        pub tree_long : length (tree_bytes kind key_bytes first place children) ≡ nodes
        tree_long =
            tree_length ChunkKey kind key_bytes first place children (subst (λ (x : Kind). 1 ≤ x.k) (sym kind_is) some_k) first_fits all_fit
            ∙ ap (λ n. nodes_over 64 (2 * kind.k) n * node_length kind) as_many_children ∙ sym nodes_are

        -- the tree of the definition
        pub tree_is : begin ≡ place + nodes → (head : List ℕ) (others : List (List ℕ)) → part_offsets h ≡ head ∷ others
            → tree_bytes kind key_bytes first place children ≡ chunk_nodes k size h.chunk head (head ∷ others) place
        tree_is begin_is head others e =
            let n : length h.parts ≡ length (head ∷ others) = sym (as_many h) ∙ ap length e in
            let there : begin ≡ chunks_place k h.chunk (length (head ∷ others)) place
            = begin_is ∙ ap (λ n. place + n) (nodes_are ∙ (λ i. nodes_over 64 (2 * (kind_is i).k) (n i) * node_length (kind_is i))) in
            let first_key : first.bytes.now ≡ chunk_key (record { bytes = size; offsets = head }) = head_key h.parts e first_is in
            sym (tree_kept (λ (key : List ℕ). key) key_bytes kind first place children)
            ∙ (λ i. tree_bytes (kind_is i) (λ (key : List ℕ). key) (first_key i) place (are i))
            ∙ (λ i. tree_bytes (chunk_kind k (length h.chunk)) (λ (key : List ℕ). key) (chunk_key (record { bytes = size; offsets = head })) place (map (with_key_bytes chunk_key) (chunk_children size h.chunk (there i) (e i))))
            ∙ tree_kept (λ (key : List ℕ). key) chunk_key (chunk_kind k (length h.chunk)) (record { bytes = size; offsets = head }) place
            (chunk_children size h.chunk (chunks_place k h.chunk (length (head ∷ others)) place) (head ∷ others)) where
              head_key : (parts : List (List ℕ × List ℤ)) → map (λ part. part.0) parts ≡ head ∷ others
                  → ((part : List ℕ × List ℤ) → slice_get parts 0 ≡ Some part → first.bytes.now ≡ chunk_key (record { bytes = size; offsets = part.0 }))
                  → first.bytes.now ≡ chunk_key (record { bytes = size; offsets = head })
              head_key [] none is = absurd (omega (arith, ap length none))
              head_key (part ∷ parts) same is =
                  is part refl ∙ ap (λ (all : List (List ℕ)). chunk_key (record { bytes = size; offsets = get_or all 0 [] })) same

-- the tree, and then the chunks
pub chunks_pushed : (k : ℕ) (h : HeldCells) (place : ℕ) (first second third : List ℕ) → 1 ≤ length h.parts
    → ((head : List ℕ) (others : List (List ℕ)) → part_offsets h ≡ head ∷ others → second ≡ first ++ chunk_nodes k (part_length h) h.chunk head (head ∷ others) place)
    → third ≡ second ++ parts_bytes h → third ≡ first ++ chunks_written k h place
chunks_pushed k h place first second third some tree parts = by_offsets (part_offsets h) refl (as_many h) where
  by_offsets : (all : List (List ℕ)) → part_offsets h ≡ all → length all ≡ length h.parts → third ≡ first ++ parts_written k h all place
  by_offsets [] e long = absurd (omega (arith, some, long))
  by_offsets (head ∷ others) e long =
      parts ∙ ap (λ bytes. bytes ++ parts_bytes h) (tree head others e) ∙ append_assoc first (chunk_nodes k (part_length h) h.chunk head (head ∷ others) place) (parts_bytes h)
