-- A chunk more in a list of chunks that ascend, and in the map that the list is: and what is then told of a tree in order.
use Rattle.std.proofs.Common.{◌≡◌, ℕ, zero, suc, ◌≤◌, List, [], ◌∷◌, ◌++◌, length, refl, sym, ap, ◌∙◌, subst, arith}
use Rattle.std.specs.Prelude.{T}
use Rattle.std.specs.Ordering.{nat_cmp, ordering_reverse, ordering_then}
use Rattle.std.specs.declared.cmp.Ordering.{Ordering}
use Rattle.std.specs.declared.cmp.Ordering.TheVariants.{Less, Greater}
use Rattle.std.specs.Cmp.Lexicographic.{slice_cmp, nat_list_cmp_total}
use Rattle.std.specs.FinMap.{entries, entries-from_sorted, entries-insert, entries_sorted, insert as with_chunk, is_sorted, put, same_entries_map}
use Rattle.std.specs.List.{AllByRecursion}
use Rattle.std.proofs.lemmas.Bool.Decides.{nat_tests}
use Rattle.h5_bytes.specs.Blocks.{Inside}
use Rattle.h5_bytes.proofs.BlockLaws.{all_so}
use Rattle.h5_model.specs.Format.Chunks.{Chunks}
use Rattle.h5_model.specs.Format.Links.{Before}
use Rattle.h5_model.specs.Format.Nodes.{HasTree}
use Rattle.h5_model.specs.Format.Reached.{Shape, shape_kind}
use Rattle.h5_model.specs.Format.Superblock.{chunk_k, highest_k}
use Rattle.h5_model.proofs.TextOrder.{is_less}
use Rattle.h5_laws.specs.KeyEdits.{IsPut}
use Rattle.h5_btree.specs.Walk.Forms.{OfChunks}
use Rattle.h5_btree.specs.Walk.Trees.{nodes_blocks}
use Rattle.h5_chunks.specs.Order.{AreChunksOrdered}
use Rattle.h5_chunks.specs.Read.{AreChunksRead}
use Rattle.h5_chunks.specs.Told.{chunks_told, listed_told}
use Rattle.h5_chunks.proofs.KeyedTold.{IsOrderedTree, ordered_nodes, ordered_tree}
use Rattle.h5_chunks.proofs.Stored.{chunks_read}
use Rattle.h5_chunks.proofs.ToldLaws.{entries_told}

-- ---- the order of offsets, with those for the element behind them or without

least : (n : ℕ) (r : Ordering) → r ≡ Less → ordering_then (nat_cmp 0 n) r ≡ Less
least zero r is = is
least (suc n) r is = let low : nat_cmp 0 (suc n) ≡ Less = grind (arith, nat_tests) in rw low refl

most : (n : ℕ) (r : Ordering) → r ≡ Greater → ordering_then (nat_cmp n 0) r ≡ Greater
most zero r is = is
most (suc n) r is = let high : nat_cmp (suc n) 0 ≡ Greater = grind (arith, nat_tests) in rw high refl

none_less : (bs : List ℕ) → slice_cmp nat_cmp [] (bs ++ 0 ∷ []) ≡ Less
none_less [] = refl
none_less (b ∷ bs) = refl

more_greater : (bs : List ℕ) → slice_cmp nat_cmp (bs ++ 0 ∷ []) [] ≡ Greater
more_greater [] = refl
more_greater (b ∷ bs) = refl

pub numbers_order : (a b : List ℕ) → slice_cmp nat_cmp (a ++ 0 ∷ []) (b ++ 0 ∷ []) ≡ slice_cmp nat_cmp a b
numbers_order [] [] = refl
numbers_order [] (y ∷ b) = least y (slice_cmp nat_cmp [] (b ++ 0 ∷ [])) (none_less b)
numbers_order (x ∷ a) [] = most x (slice_cmp nat_cmp (a ++ 0 ∷ []) []) (more_greater a)
numbers_order (x ∷ a) (y ∷ b) = ap (ordering_then (nat_cmp x y)) (numbers_order a b)

-- one chunk is before another, by all numbers
abbrev pub IsChunkBefore : List ℕ × ℕ → List ℕ × ℕ → Type 0
IsChunkBefore y z = Before (y.0 ++ 0 ∷ []) (z.0 ++ 0 ∷ [])

before_less : (y z : List ℕ × ℕ) → IsChunkBefore y z → slice_cmp nat_cmp y.0 z.0 ≡ Less
before_less y z is = sym (numbers_order y.0 z.0) ∙ is_less (slice_cmp nat_cmp (y.0 ++ 0 ∷ []) (z.0 ++ 0 ∷ [])) is

-- ---- at its place

module _ (k : List ℕ) (v : ℕ) where
  put_place : (front back : List (List ℕ × ℕ)) → AllByRecursion (λ (y : List ℕ × ℕ). slice_cmp nat_cmp y.0 k ≡ Less) front
      → AllByRecursion (λ (y : List ℕ × ℕ). slice_cmp nat_cmp k y.0 ≡ Less) back → put (slice_cmp nat_cmp) k v (front ++ back) ≡ front ++ (k, v) ∷ back
  put_place [] [] above below = refl
  put_place [] (e ∷ back) above below = rw below.0 refl
  put_place (e ∷ front) back above below =
      let past : slice_cmp nat_cmp k e.0 ≡ Greater = nat_list_cmp_total.antisymm k e.0 ∙ ap ordering_reverse above.0 in
      rw past (ap (λ (es : List (List ℕ × ℕ)). e ∷ es) (put_place front back above.1 below))

  pub put_entries : (chunks : Chunks) (list : List (List ℕ × ℕ)) → IsPut IsChunkBefore (k, v) (entries chunks) list → entries (with_chunk chunks k v) ≡ list
  put_entries chunks list p =
      entries-insert nat_list_cmp_total chunks k v ∙ ap (put (slice_cmp nat_cmp) k v) p.before
      ∙ put_place p.front p.back
      (all_so (λ y. IsChunkBefore y (k, v)) (λ (y : List ℕ × ℕ). slice_cmp nat_cmp y.0 k ≡ Less) p.front (λ y is. before_less y (k, v) is) p.above)
      (all_so (IsChunkBefore (k, v)) (λ (y : List ℕ × ℕ). slice_cmp nat_cmp k y.0 ≡ Less) p.back (λ y is. before_less (k, v) y is) p.below)
      ∙ sym p.after

-- ---- a tree with a chunk more

module _ (old new : List ℕ) (shape : Shape) (root : ℕ) (k : chunk_k new ≡ chunk_k old) (read : AreChunksRead old shape root) (level : ℕ) (owned list : List ℕ)
    (has : HasTree new (shape_kind new shape) root level owned list) (ordered : IsOrderedTree (shape_kind new shape) new shape root level owned list has) (offsets : List ℕ) (at : ℕ)
    (more : IsPut IsChunkBefore (offsets, at) (listed_told old shape root) (listed_told new shape root)) where
  abbrev chunks : Chunks
  chunks = with_chunk (chunks_told old shape root) offsets at

  all_there : entries chunks ≡ listed_told new shape root
  all_there =
      put_entries offsets at (chunks_told old shape root) (listed_told new shape root)
      (subst (λ (es : List (List ℕ × ℕ)). IsPut IsChunkBefore (offsets, at) es (listed_told new shape root))
      (sym (entries_told old shape root (chunks_told old shape root) _ read.stored)) more)

  ascending : T (is_sorted (slice_cmp nat_cmp) (listed_told new shape root))
  ascending = subst (λ (es : List (List ℕ × ℕ)). T (is_sorted (slice_cmp nat_cmp) es)) all_there (entries_sorted chunks)

  -- THE CHUNKS THAT ARE TOLD are those of before, with this one
  pub told_with : chunks_told new shape root ≡ with_chunk (chunks_told old shape root) offsets at
  told_with = same_entries_map (chunks_told new shape root) chunks (entries-from_sorted (slice_cmp nat_cmp) (listed_told new shape root) ascending ∙ sym all_there)

  pub read_with : Inside (length new) (nodes_blocks new (OfChunks shape) owned list) → AreChunksRead new shape root
  read_with inside =
      let order : AreChunksOrdered new shape root owned = record { ascending = ascending; ordered = ordered_nodes new shape root level owned list has ordered } in
      chunks_read new shape root owned list (ordered_tree new shape root level owned list has ordered) order
      (subst (λ n. 1 ≤ n) (sym k) read.k_some) (subst (λ n. n ≤ highest_k) (sym k) read.k_few) inside
