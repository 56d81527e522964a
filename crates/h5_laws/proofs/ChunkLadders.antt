-- A node of a tree of chunks is ordered by definition exactly where its keys and the chunks below its children form a ladder.
use Rattle.std.proofs.Common.{◌≡◌, ℕ, zero, suc, ◌+◌, ◌<◌, ◌≤◌, List, [], ◌∷◌, ◌++◌, length, map, take, drop, get_or, refl, sym, ap, ◌∙◌, subst, arith}
use Rattle.std.specs.Prelude.{◌↔◌, IsTrue, slice_index_or, true, false}
use Rattle.std.specs.Ordering.{nat_cmp, is_lt}
use Rattle.std.specs.declared.cmp.Ordering.{Ordering}
use Rattle.std.specs.declared.cmp.Ordering.TheVariants.{Less, Equal, Greater}
use Rattle.std.specs.Cmp.Lexicographic.{slice_cmp, nat_list_cmp_total}
use Rattle.std.proofs.lemmas.Cmp.{alike_right}
use Rattle.std.specs.List.{AllByRecursion, flat_map, zip}
use Rattle.std.proofs.lemmas.List.{length-map, get_or-map}
use Rattle.h5_model.specs.Format.Rows.{Node, Reading, row_below}
use Rattle.h5_model.specs.Format.Nodes.{Kind, HasTree, node_at, reading_of}
use Rattle.h5_model.specs.Format.Chunks.{IsChunkBetween, IsChunkOrdered, all_offsets_in, chunks_at, chunks_below, chunks_in, offsets_in}
use Rattle.h5_model.specs.Format.Links.{Before, NotAfter}
use Rattle.h5_model.proofs.TextOrder.{not_after_itself, not_after_trans, before_back, before_le, is_less}
use Rattle.h5_laws.specs.Ladders.{IsLadder, IsOrderedBy, all_of, items_under, lists_below, IsOrderly}
use Rattle.h5_laws.specs.ChunkLadders.{chunk_sides, chunk_lists, rising_chunk_sides}
use Rattle.h5_laws.proofs.Ladders.{risen}
use Rattle.h5_laws.proofs.LadderTrees.{items_below, ordered_ladder, ladder_ordered, ordered_there}
use Rattle.h5_laws.proofs.Lists.{all_in, in_all}

-- one item each
one_each : {X : Type 0} (xs : List X) → all_of (map (λ x. x ∷ []) xs) ≡ xs
one_each [] = refl
one_each {X = X} (x ∷ xs) = ap (λ (ys : List X). x ∷ ys) (one_each xs)

one_at : {X : Type 0} (xs : List X) (i : ℕ) → get_or (map (λ x. x ∷ []) xs) i [] ≡ take 1 (drop i xs)
one_at [] zero = refl
one_at [] (suc i) = refl
one_at (x ∷ xs) zero = refl
one_at (x ∷ xs) (suc i) = one_at xs i

pub zip_long : {X Y : Type 0} (xs : List X) (ys : List Y) → length xs ≡ length ys + 1 → length (zip xs ys) ≡ length ys
zip_long [] ys long = absurd (omega (arith, long))
zip_long (x ∷ xs) [] long = refl
zip_long (x ∷ xs) (y ∷ ys) long = ap suc (zip_long xs ys (omega (arith, long)))

-- what is before another is before what that is not after
pub before_after : (a b c : List ℕ) → Before a b → NotAfter b c → Before a c
before_after a b c before not_after = by_order (slice_cmp nat_cmp b c) refl where
  by_order : (r : Ordering) → slice_cmp nat_cmp b c ≡ r → Before a c
  by_order Less is = ap is_lt (nat_list_cmp_total.trans a b c (is_less (slice_cmp nat_cmp a b) before) is)
  by_order Equal is = subst (λ (r : Ordering). IsTrue (is_lt r)) (alike_right nat_list_cmp_total b c a is) before
  by_order Greater is = absurd (let never : false ≡ true = rw is at not_after in cc)

module _ (V : Reading) (rank : ℕ) where
  chunks-row : (row : List ℕ) → flat_map (λ n. all_of (chunk_lists rank (V n))) row ≡ chunks_at V rank row
  chunks-row [] = refl
  chunks-row (n ∷ row) = rw (one_each (chunks_in rank (V n)), chunks-row row) refl

  -- the chunks below a node are those of the nodes of level 0 below it
  pub chunks_under : (level at : ℕ) → items_under V (chunk_lists rank) level at ≡ chunks_at V rank (row_below V level (at ∷ []))
  chunks_under level at = items_below V (chunk_lists rank) level at ∙ chunks-row (row_below V level (at ∷ []))

  -- ---- what stands below child i of a node of level l

  abbrev pub below_of : ℕ → Node → ℕ → List (List ℕ × ℕ)
  below_of zero node i = take 1 (drop i (chunks_in rank node))
  below_of (suc l) node i = chunks_at V rank (row_below V l (slice_index_or node.children i 0 ∷ []))

  below_chunks : (node : Node) (l i : ℕ) → node.level ≡ l → chunks_below V rank node i ≡ below_of l node i
  below_chunks node zero i e = ap (λ (n : ℕ). chunks_below V rank (record node { level = n }) i) e
  below_chunks node (suc l) i e = ap (λ (n : ℕ). chunks_below V rank (record node { level = n }) i) e

  child_chunks : (level : ℕ) (node : Node) (i : ℕ) → i < length node.children → get_or (lists_below V (chunk_lists rank) level node) i [] ≡ below_of level node i
  child_chunks zero node i low = one_at (chunks_in rank node) i
  child_chunks (suc level) node i low =
      get_or-map (items_under V (chunk_lists rank) level) node.children i 0 [] low ∙ chunks_under level (get_or node.children i 0)

  module _ (node : Node) where
    pub chunk_list_is : (i : ℕ) → i < length node.children → get_or (lists_below V (chunk_lists rank) node.level node) i [] ≡ chunks_below V rank node i
    chunk_list_is i low = child_chunks node.level node i low ∙ sym (below_chunks node node.level i refl)

    -- the definition of the format, and the order of keys and lists
    pub by_chunks : IsChunkOrdered V rank node → IsOrderedBy (chunk_sides rank) V (chunk_lists rank) node
    by_chunks ordered = record {
      between = λ i low. subst (AllByRecursion (IsChunkBetween rank node i)) (sym (chunk_list_is i low)) (ordered i low);
      rising = λ i low. tt;
    }

    pub chunks_by : IsOrderedBy (chunk_sides rank) V (chunk_lists rank) node → IsChunkOrdered V rank node
    chunks_by ordered = λ i low. subst (AllByRecursion (IsChunkBetween rank node i)) (chunk_list_is i low) (ordered.between i low)

    module _ (long : length node.keys ≡ length node.children + 1) where
      chunks_long : length (lists_below V (chunk_lists rank) node.level node) ≡ length node.children
      chunks_long = by_level node.level where
        by_level : (level : ℕ) → length (lists_below V (chunk_lists rank) level node) ≡ length node.children
        by_level zero =
            length-map (chunks_in rank node) (λ chunk. chunk ∷ [])
            ∙ zip_long (map (offsets_in rank) node.keys) node.children (omega (arith, long, length-map node.keys (offsets_in rank)))
        by_level (suc level) = length-map node.children (items_under V (chunk_lists rank) level)

      -- and the ladder
      pub chunks_ladder : IsChunkOrdered V rank node ↔ IsLadder (chunk_sides rank) node.keys (lists_below V (chunk_lists rank) node.level node)
      chunks_ladder = (
        λ ordered. ordered_ladder V (chunk_lists rank) (chunk_sides rank) node chunks_long long (by_chunks ordered),
        λ ladder. chunks_by (ladder_ordered V (chunk_lists rank) (chunk_sides rank) node chunks_long ladder),
      )

-- ---- keys that rise

pub chunk_order : (rank : ℕ) → IsOrderly (rising_chunk_sides rank)
chunk_order rank = record {
  itself = λ k. not_after_itself (all_offsets_in rank k);
  rises = λ k l m. not_after_trans (all_offsets_in rank k) (all_offsets_in rank l) (all_offsets_in rank m);
  right = λ k l chunk. not_after_trans (all_offsets_in rank k) (all_offsets_in rank l) (chunk.0 ++ 0 ∷ []);
  left = λ chunk k l. before_after (chunk.0 ++ 0 ∷ []) (all_offsets_in rank k) (all_offsets_in rank l);
  apart = λ k chunk right left. before_back (chunk.0 ++ 0 ∷ []) (all_offsets_in rank k) left right;
}

-- where a chunk stands between any two keys of a ladder, no key is above the next
pub chunk_keys_rise : (rank : ℕ) (keys : List (List ℕ)) (lists : List (List (List ℕ × ℕ))) → AllByRecursion (λ (xs : List (List ℕ × ℕ)). 1 ≤ length xs) lists
    → IsLadder (chunk_sides rank) keys lists → IsLadder (rising_chunk_sides rank) keys lists
chunk_keys_rise rank keys lists some is =
    risen (chunk_sides rank) (λ key next. NotAfter (all_offsets_in rank key) (all_offsets_in rank next))
    (λ k l chunk right left. not_after_trans (all_offsets_in rank k) (chunk.0 ++ 0 ∷ []) (all_offsets_in rank l) right
    (before_le (chunk.0 ++ 0 ∷ []) (all_offsets_in rank l) left)) keys lists some is

-- ---- a tree of chunks by its own nodes, and as it stands

pub chunk_order_there : (image : List ℕ) (kind : Kind) (root level : ℕ) (owned children : List ℕ) → HasTree image kind root level owned children → (rank : ℕ)
    → AllByRecursion (λ at. IsChunkOrdered (reading_of image kind owned) rank (reading_of image kind owned at)) owned
    → AllByRecursion (λ at. IsChunkOrdered (node_at image kind) rank (node_at image kind at)) owned
chunk_order_there image kind root level owned children has rank ordered =
    let V = node_at image kind in
    let W = reading_of image kind owned in
    all_in (λ at. IsChunkOrdered V rank (V at)) owned (λ at there.
    chunks_by V rank (V at)
    (ordered_there image kind root level owned children has (chunk_lists rank) (chunk_lists rank) (λ n row. refl) at there (chunk_sides rank)
    (by_chunks W rank (W at) (in_all (λ n. IsChunkOrdered W rank (W n)) at owned ordered there))))
