-- In a tree of chunks that is in order keys rise, since a chunk stands below each child.
use Rattle.std.proofs.Common.{◌≡◌, ℕ, zero, suc, ◌+◌, ◌≤◌, List, [], ◌∷◌, length, map, inl, inr, refl, sym, ap, subst, arith}
use Rattle.std.specs.List.{AllByRecursion, flat_map}
use Rattle.std.proofs.lemmas.List.{length-append}
use Rattle.h5_bytes.specs.Bytes.{undefined_address}
use Rattle.h5_model.specs.Format.Rows.{Reading, row_below}
use Rattle.h5_model.specs.Format.Nodes.{HasTree, node_at, node_bytes}
use Rattle.h5_model.specs.Format.Chunks.{IsChunkOrdered, chunks_in}
use Rattle.h5_model.specs.Format.Reached.{Shape, shape_kind}
use Rattle.h5_model.proofs.OneTree.{owned_is}
use Rattle.h5_laws.specs.Ladders.{IsLadder, IsOrderedBy, all_of, items_under, lists_below}
use Rattle.h5_laws.specs.ChunkLadders.{chunk_lists, chunk_sides, rising_chunk_sides}
use Rattle.h5_laws.proofs.ChunkLadders.{chunk_keys_rise, chunks_ladder}
use Rattle.h5_laws.proofs.Ladders.{ladder_long}
use Rattle.h5_laws.proofs.LadderTrees.{ladder_ordered}
use Rattle.h5_laws.proofs.Lists.{In}
use Rattle.h5_laws.proofs.Rows.{row_is, row_level, row_of, rows_below}
use Rattle.h5_laws.proofs.Subtrees.{child_below}
use Rattle.h5_laws.proofs.Trees.{row_filled, tree_rows}
use Rattle.h5_btree.proofs.NodeLaws.{length-children}
use Rattle.h5_chunks.proofs.ChunkNodes.{chunks_all, length-chunks}
use Rattle.h5_chunks.proofs.NodeKeys.{one_more_key}

some_flat : {X : Type 0} (f : ℕ → List X) (ns : List ℕ) → 1 ≤ length ns → ((n : ℕ) → In n ns → 1 ≤ length (f n)) → 1 ≤ length (flat_map f ns)
some_flat f [] some each = absurd (omega (arith, some))
some_flat f (n ∷ ns) some each = let first = each n (inl refl) in omega (arith, first, length-append (f n) (flat_map f ns))

each_one : {X : Type 0} (xs : List X) → AllByRecursion (λ (ys : List X). 1 ≤ length ys) (map (λ x. x ∷ []) xs)
each_one [] = tt
each_one (x ∷ xs) = (omega arith, each_one xs)

each_mapped : {X : Type 0} (f : ℕ → List X) (ns : List ℕ) → ((n : ℕ) → In n ns → 1 ≤ length (f n)) → AllByRecursion (λ (ys : List X). 1 ≤ length ys) (map f ns)
each_mapped f [] each = tt
each_mapped f (n ∷ ns) each = (each n (inl refl), each_mapped f ns (λ m at. each m (inr at)))

module _ (image : List ℕ) (shape : Shape) (root level : ℕ) (owned addresses : List ℕ) (has : HasTree image (shape_kind image shape) root level owned addresses) where
  abbrev V : Reading
  V = node_at image (shape_kind image shape)

  abbrev rank : ℕ
  rank = length shape.sizes

  pub some_children : (d l at : ℕ) → d + l ≡ level → 1 ≤ level → In at (row_below V d (root ∷ [])) → 1 ≤ length (V at).children
  some_children d l at e high there =
      let filled = row_filled image (shape_kind image shape) root level owned addresses has d l at e there high in
      omega (arith, filled, length-children (shape_kind image shape) (node_bytes image (shape_kind image shape) at) (V at) refl)

  pub some_under : (l d at : ℕ) → d + l ≡ level → 1 ≤ level → In at (row_below V d (root ∷ [])) → 1 ≤ length (items_under V (chunk_lists rank) l at)
  some_under zero d at e high there =
      let all : length (all_of (chunk_lists rank (V at))) ≡ length (chunks_in rank (V at)) = ap (λ (cs : List (List ℕ × ℕ)). length cs) (chunks_all rank (V at)) in
      omega (arith, all, length-chunks rank (V at) (one_more_key image shape at (V at) refl), some_children d 0 at e high there)
  some_under (suc l) d at e high there =
      some_flat (items_under V (chunk_lists rank) l) (V at).children (some_children d (suc l) at e high there)
      (λ c child. some_under l (suc d) c (omega (arith, e)) high (child_below V d at c (root ∷ []) there child))

  some_each : (l d at : ℕ) → d + l ≡ level → In at (row_below V d (root ∷ [])) → AllByRecursion (λ (xs : List (List ℕ × ℕ)). 1 ≤ length xs) (lists_below V (chunk_lists rank) l (V at))
  some_each zero d at e there = each_one (chunks_in rank (V at))
  some_each (suc l) d at e there =
      each_mapped (items_under V (chunk_lists rank) l) (V at).children
      (λ c child. some_under l (suc d) c (omega (arith, e)) (omega (arith, e)) (child_below V d at c (root ∷ []) there child))

  pub keys_rise : (at : ℕ) → In at owned → IsChunkOrdered V rank (V at) → IsOrderedBy (rising_chunk_sides rank) V (chunk_lists rank) (V at)
  keys_rise at there ordered =
      let long = one_more_key image shape at (V at) refl in
      let place = row_of V level at (root ∷ []) (subst (In at) (owned_is image (shape_kind image shape) root level owned addresses has) there) in
      let rows = tree_rows image (shape_kind image shape) root level owned addresses has in
      let here : (V at).level ≡ place.1
      = row_level V place.1 undefined_address at (row_below V place.0 (root ∷ []))
      (row_is V place.1 (row_below V place.0 (root ∷ [])) (rows_below V place.0 place.1 level (root ∷ []) place.2 rows)) place.3 in
      let lists = lists_below V (chunk_lists rank) (V at).level (V at) in
      let some = subst (λ (l : ℕ). AllByRecursion (λ (xs : List (List ℕ × ℕ)). 1 ≤ length xs) (lists_below V (chunk_lists rank) l (V at))) (sym here)
      (some_each place.1 place.0 at place.2 place.3) in
      let ladder : IsLadder (chunk_sides rank) (V at).keys lists = (chunks_ladder V rank (V at) long).0 ordered in
      let rising = chunk_keys_rise rank (V at).keys lists some ladder in
      ladder_ordered V (chunk_lists rank) (rising_chunk_sides rank) (V at)
      (omega (arith, long, ladder_long (chunk_sides rank) (V at).keys lists ladder)) rising
