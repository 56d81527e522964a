-- The keys and chunks of a dataset that is read keep their rules.
use Rattle.std.proofs.Common.{◌≡◌, inl, inr, ℕ, suc, ◌+◌, ◌<◌, List, [], ◌∷◌, ◌++◌, map, length, take, drop, refl, sym, ap, ◌∙◌, subst, arith, append_assoc, true}
use Rattle.std.specs.Prelude.{T}
use Rattle.std.specs.Ordering.{nat_cmp, is_lt}
use Rattle.std.specs.declared.cmp.Ordering.{Ordering}
use Rattle.std.specs.Cmp.Lexicographic.{slice_cmp}
use Rattle.std.specs.FinMap.{entries, values, entries_sorted, is_sorted}
use Rattle.std.specs.FinMap.Entries.{below_all}
use Rattle.std.specs.List.{range_with_len}
use Rattle.std.proofs.lemmas.List.Concat.{flat_map-append}
use Rattle.std.proofs.lemmas.List.FromFn.{take-map-range_with_len, length-map-range_with_len}
use Rattle.h5_bytes.specs.declared.Block.{Block}
use Rattle.h5_model.specs.Format.Rows.{Node, row_below}
use Rattle.h5_model.specs.Format.Nodes.{Kind, node_at, node_of, node_bytes, reading_of, entries_in, key_in, child_in}
use Rattle.h5_model.specs.Format.Chunks.{Chunks, HasChunks, HasChunkKeys, IsChunkKey, IsChunkOrdered, chunks_in, chunks_at}
use Rattle.h5_model.specs.Format.Superblock.{chunk_k}
use Rattle.h5_model.specs.Format.Reached.{Shape, shape_kind, level_at}
use Rattle.h5_model.specs.Faults.TreeFaults.{ChunkOrderBreach, ChunkKeyBreach, ChunksDescend}
use Rattle.h5_model.proofs.RowLaws.{row_below-same, Agree}
use Rattle.h5_model.proofs.ReachLaws.{Entry, halves, below_entry}
use Rattle.h5_model.proofs.OneTree.{level_is, owned_is}
use Rattle.h5_laws.proofs.Lists.{In, in_all, all_in, in_table, in_contains}
use Rattle.h5_laws.proofs.Maps.{to_entry}
use Rattle.h5_laws.proofs.Trees.{row_owned}
use Rattle.h5_laws.proofs.Entries.{flat-same}
use Rattle.h5_laws.proofs.Ascending.{around}
use Rattle.h5_laws.proofs.ChunkLadders.{chunk_order_there}
use Rattle.h5_laws.proofs.Subtrees.{read_same, all_agree}

-- ---- sorted entries

sorted_before : {K X : Type 0} (R : K → K → Ordering) (P Q : List (K × X)) (x y : K × X) → T (is_sorted R (P ++ y ∷ Q)) → In x P → is_lt (R x.0 y.0) ≡ true
sorted_before R [] Q x y sorted at = absurd at
sorted_before {K = K} {X = X} R (p ∷ P) Q x y sorted (inl e) =
    let split = halves (below_all R p.0 (P ++ y ∷ Q)) (is_sorted R (P ++ y ∷ Q)) sorted in
    let later : Entry (P ++ y ∷ Q) y.0 y.1 = to_entry (P ++ y ∷ Q) y.0 y.1 (stands P) in
    subst (λ (z : K × X). is_lt (R z.0 y.0) ≡ true) e (below_entry R p.0 y.0 y.1 (P ++ y ∷ Q) split.0 later) where
      stands : (zs : List (K × X)) → In y (zs ++ y ∷ Q)
      stands [] = inl refl
      stands (z ∷ zs) = inr (stands zs)
sorted_before R (p ∷ P) Q x y sorted (inr at) =
    sorted_before R P Q x y (halves (below_all R p.0 (P ++ y ∷ Q)) (is_sorted R (P ++ y ∷ Q)) sorted).1 at

-- ---- the keys of a node

keys_taken : (image : List ℕ) (kind : Kind) (at i : ℕ) → i < entries_in (node_bytes image kind at)
    → In (key_in kind (node_bytes image kind at) i) (take (length (node_at image kind at).children) (node_at image kind at).keys)
unfolding node_of
keys_taken image kind at i low =
    let n = entries_in (node_bytes image kind at) in
    let f = key_in kind (node_bytes image kind at) in
    let len : length (map (child_in kind (node_bytes image kind at)) (range_with_len 0 n)) ≡ n = length-map-range_with_len (child_in kind (node_bytes image kind at)) 0 n in
    let taken : take n (map f (range_with_len 0 (n + 1))) ≡ map f (range_with_len 0 n) = take-map-range_with_len f 0 (n + 1) n (omega arith) in
    subst (λ (m : ℕ). In (f i) (take m (map f (range_with_len 0 (n + 1))))) (sym len) (subst (In (f i)) (sym taken) (in_table f n i low))

-- ---- a tree of chunks

module _ (image : List ℕ) (shape : Shape) (root : ℕ) (chunks : Chunks) (blocks : List Block)
    (has : HasChunks image (chunk_k image) shape.sizes shape.bytes root chunks blocks) where
  abbrev V : ℕ → Node
  V = node_at image (shape_kind image shape)

  abbrev W : ℕ → Node
  W = reading_of image (shape_kind image shape) has.owned

  abbrev rank : ℕ
  rank = length shape.sizes

  -- the rows of the tree, however they are read
  top_agrees : (d l : ℕ) → d + l ≡ has.level → Agree V W (row_below V d (root ∷ []))
  top_agrees d l e =
      all_agree image (shape_kind image shape) root has.level has.owned (values chunks) has.tree (row_below V d (root ∷ []))
      (λ x at. row_owned image (shape_kind image shape) root has.level has.owned (values chunks) has.tree d l x e at)

  bottom_row : row_below W has.level (root ∷ []) ≡ row_below V has.level (root ∷ [])
  bottom_row = row_below-same V W has.level (root ∷ [])
      (all_agree image (shape_kind image shape) root has.level has.owned (values chunks) has.tree _
      (λ x at. subst (In x) (sym (owned_is image (shape_kind image shape) root has.level has.owned (values chunks) has.tree)) at))

  chunks_row : (row : List ℕ) → Agree V W row → chunks_at W rank row ≡ chunks_at V rank row
  chunks_row row agree =
      flat-same (λ at. chunks_in rank (W at)) (λ at. chunks_in rank (V at)) row
      (all_in (λ n. chunks_in rank (W n) ≡ chunks_in rank (V n)) row (λ n at. ap (chunks_in rank) (in_all (λ m. W m ≡ V m) n row agree at)))

  -- all chunks, in order
  listed_all : entries chunks ≡ chunks_at V rank (row_below V has.level (root ∷ []))
  listed_all = has.listed.listed ∙ ap (chunks_at W rank) bottom_row ∙ chunks_row (row_below V has.level (root ∷ [])) (top_agrees has.level 0 (omega arith))

  descend_excluded : (at : ℕ) → ChunksDescend image shape root at → ⊥
  descend_excluded at (before, after, row, (i, x, y, low, is, contained, falls)) =
      let here = chunks_in rank (V at) in
      let ahead = chunks_at V rank before in
      let behind = chunks_at V rank after in
      let tail = drop (suc i) here in
      let level : level_at image (shape_kind image shape) root ≡ has.level = level_is image (shape_kind image shape) root has.level has.owned (values chunks) has.tree in
      let bottom : row_below V has.level (root ∷ []) ≡ before ++ at ∷ after = subst (λ (n : ℕ). row_below V n (root ∷ []) ≡ before ++ at ∷ after) level row in
      let whole : entries chunks ≡ ahead ++ (here ++ behind)
      = listed_all ∙ ap (chunks_at V rank) bottom ∙ flat_map-append (λ n. chunks_in rank (V n)) before (at ∷ after) in
      let inner : here ≡ take i here ++ y ∷ tail = around here i y low is in
      let split : entries chunks ≡ (ahead ++ take i here) ++ y ∷ (tail ++ behind)
      = whole ∙ ap (λ (es : List (List ℕ × ℕ)). ahead ++ (es ++ behind)) inner
      ∙ ap (λ (es : List (List ℕ × ℕ)). ahead ++ es) (append_assoc (take i here) (y ∷ tail) behind)
      ∙ sym (append_assoc ahead (take i here) (y ∷ (tail ++ behind))) in
      let sorted : T (is_sorted (slice_cmp nat_cmp) ((ahead ++ take i here) ++ y ∷ (tail ++ behind)))
      = subst (λ (es : List (List ℕ × ℕ)). T (is_sorted (slice_cmp nat_cmp) es)) split (entries_sorted chunks) in
      falls (sorted_before (slice_cmp nat_cmp) (ahead ++ take i here) (tail ++ behind) x y sorted (in_contains x (ahead ++ take i here) contained))

  module _ (d l at : ℕ) (e : d + l ≡ has.level) (there : In at (row_below V d (root ∷ []))) where
    is_owned : In at has.owned
    is_owned = row_owned image (shape_kind image shape) root has.level has.owned (values chunks) has.tree d l at e there

    same_node : W at ≡ V at
    same_node = read_same image (shape_kind image shape) root has.level has.owned (values chunks) has.tree at is_owned

    pub chunk_key_excluded : ChunkKeyBreach image shape l at → ⊥
    chunk_key_excluded (bottom, (i, low, wrong)) =
        let last : d ≡ has.level = omega (arith, e, bottom) in
        let in_bottom : In at (row_below W has.level (root ∷ [])) = subst (In at) (sym bottom_row) (subst (λ (n : ℕ). In at (row_below V n (root ∷ []))) last there) in
        let keys : HasChunkKeys shape.sizes shape.bytes (W at)
        = in_all (λ n. HasChunkKeys shape.sizes shape.bytes (W n)) at (row_below W has.level (root ∷ [])) has.listed.keyed in_bottom in
        let here : HasChunkKeys shape.sizes shape.bytes (V at) = subst (HasChunkKeys shape.sizes shape.bytes) same_node keys in
        wrong (in_all (IsChunkKey shape.sizes shape.bytes) (key_in (shape_kind image shape) (node_bytes image (shape_kind image shape) at) i)
        (take (length (V at).children) (V at).keys) here (keys_taken image (shape_kind image shape) at i low))

    pub chunk_order_excluded : ChunkOrderBreach image shape root l at → ⊥
    chunk_order_excluded (inr (bottom, descend)) = descend_excluded at descend
    chunk_order_excluded (inl wrong) =
        wrong (in_all (λ n. IsChunkOrdered V rank (V n)) at has.owned
        (chunk_order_there image (shape_kind image shape) root has.level has.owned (values chunks) has.tree rank has.listed.ordered) is_owned)
