-- How many bytes the data of a chunked array have in the plain layout: its nodes, and as many bytes for each stored chunk (File Format
-- Specification 3.0, sections III.A.1 and IV.A.2.i).
use Rattle.std.proofs.Common.{◌≡◌, ℕ, suc, ◌+◌, ◌*◌, ◌≤◌, List, [], ◌∷◌, length, length-append, refl, ap, ◌∙◌, arith}
use Rattle.std.specs.List.{AllByRecursion, flat_map}
use Rattle.h5_model.specs.Format.Nodes.{Kind, chunk_kind, node_length}
use Rattle.h5_model.specs.Format.PlainLength.{nodes_over}
use Rattle.h5_model.specs.Format.Sizes.{chunk_node}
use Rattle.h5_model.specs.Tree.Objects.{Dataset}
use Rattle.h5_model.specs.Tree.Places.{cells}
use Rattle.h5_model.proofs.PlainValues.{length-cells_bytes}
use Rattle.h5_btree.specs.declared.write.child.Child.{Child}
use Rattle.h5_btree.specs.Writing.Written.{AllFit, FitsKind}
use Rattle.h5_btree.proofs.WriteLaws.TreeLaws.{tree_length}
pub use Rattle.h5_chunks.proofs.BehindLaws.{length-index_from}
use Rattle.h5_chunks.specs.Keys.{OffsetKey, chunk_key, index_from}
use Rattle.h5_layout.specs.HeldChunks.{chunk_values}
use Rattle.h5_repack.specs.Bodies.Chunks.{chunk_children, chunk_data, chunk_length, chunk_nodes, chunked_data, chunks_place, key_after}
use Rattle.h5_layout.proofs.KeyBack.{length-key}
use Rattle.std.proofs.lemmas.List.FromFn.{length-map-range_with_len}
use Rattle.h5_model.specs.Edits.Applied.{cell_or_fill}
use Rattle.h5_model.specs.Tree.Places.{index_of}

-- a node of a tree of chunks
pub node_long : (k rank : ℕ) → node_length (chunk_kind k rank) ≡ chunk_node k rank
node_long k rank = omega arith

-- an offset for each size
abbrev pub AreRanked : List ℕ → List (List ℕ) → Type 0
AreRanked chunk stored = AllByRecursion (λ (offsets : List ℕ). length offsets ≡ length chunk) stored

module _ (chunk : List ℕ) where
  pub length-children : (size at : ℕ) (stored : List (List ℕ)) → length (chunk_children size chunk at stored) ≡ length stored
  length-children size at [] = refl
  length-children size at (offsets ∷ others) = ap suc (length-children size (at + size) others)

  module _ (d : Dataset) where
    pub length-chunk : (offsets : List ℕ) → length (chunk_data d chunk offsets) ≡ chunk_length d chunk
    length-chunk offsets =
        length-cells_bytes d.fixed (chunk_values d chunk offsets)
        ∙ ap (λ n. n * (d.fixed).size) (length-map-range_with_len (λ place. cell_or_fill d (index_from offsets (index_of chunk place))) 0 (cells chunk))

    one_more : (n size : ℕ) → size + n * size ≡ suc n * size
    one_more n size = omega arith

    pub length-chunks : (stored : List (List ℕ)) → length (flat_map (chunk_data d chunk) stored) ≡ length stored * chunk_length d chunk
    length-chunks [] = omega arith
    length-chunks (offsets ∷ others) =
        length-append (chunk_data d chunk offsets) (flat_map (chunk_data d chunk) others)
        ∙ (λ i. length-chunk offsets i + length-chunks others i) ∙ one_more (length others) (chunk_length d chunk)

-- in nodes of this K
module _ (k : ℕ) (some_k : 1 ≤ k) (chunk : List ℕ) where
  abbrev kind : Kind
  kind = chunk_kind k (length chunk)

  pub key_fits : (size : ℕ) (offsets : List ℕ) → length offsets ≡ length chunk → FitsKind kind chunk_key (record { bytes = size; offsets = offsets })
  key_fits size offsets ranked = length-key size offsets ∙ ap (λ n. 8 + 8 * (n + 1)) ranked

  after_fits : (size : ℕ) (offsets : List ℕ) (others : List (List ℕ)) → length offsets ≡ length chunk → AreRanked chunk others
      → FitsKind kind chunk_key (key_after size chunk offsets others)
  after_fits size offsets [] ranked all = key_fits 0 (index_from offsets chunk) (length-index_from offsets chunk ranked)
  after_fits size offsets (next ∷ others) ranked all = key_fits size next all.0

  pub keys_fit : (size at : ℕ) (stored : List (List ℕ)) → AreRanked chunk stored → AllFit kind chunk_key (chunk_children size chunk at stored)
  keys_fit size at [] all = tt
  keys_fit size at (offsets ∷ others) all = (after_fits size offsets others all.0 all.1, keys_fit size (at + size) others all.1)

  pub length-nodes : (size : ℕ) (first : List ℕ) (stored : List (List ℕ)) (at : ℕ) → length first ≡ length chunk → AreRanked chunk stored
      → length (chunk_nodes k size chunk first stored at) ≡ nodes_over 64 (2 * k) (length stored) * chunk_node k (length chunk)
  length-nodes size first stored at ranked all =
      let place : ℕ = chunks_place k chunk (length stored) at in
      let children : List (Child OffsetKey) = chunk_children size chunk place stored in
      tree_length OffsetKey kind chunk_key (record { bytes = size; offsets = first }) at children some_k
      (key_fits size first ranked) (keys_fit size place stored all)
      ∙ (λ i. nodes_over 64 (2 * k) (length-children chunk size place stored i) * node_long k (length chunk) i)

  -- nodes and chunks
  pub length-chunked : (d : Dataset) (first : List ℕ) (others : List (List ℕ)) (at : ℕ) → AreRanked chunk (first ∷ others)
      → length (chunked_data k d chunk (first ∷ others) at)
      ≡ nodes_over 64 (2 * k) (length (first ∷ others)) * chunk_node k (length chunk) + length (first ∷ others) * (cells chunk * (d.fixed).size)
  length-chunked d first others at all =
      length-append (chunk_nodes k (chunk_length d chunk) chunk first (first ∷ others) at) (flat_map (chunk_data d chunk) (first ∷ others))
      ∙ (λ i. length-nodes (chunk_length d chunk) first (first ∷ others) at all.0 all i + length-chunks chunk d (first ∷ others) i)
