-- The chunks of a tree that hold a cell of an extent are those of its nodes of level 0.
use Rattle.std.proofs.Common.{◌≡◌, ℕ, ◌+◌, ◌<◌, ◌≤◌, List, [], ◌∷◌, ◌++◌, length, map, get_or, Bool, true, false, cond, refl, sym, ap, ◌∙◌, subst, arith}
use Rattle.std.specs.Prelude.{T}
use Rattle.std.specs.Ordering.{nat_cmp}
use Rattle.std.specs.Cmp.Lexicographic.{slice_cmp}
use Rattle.std.specs.FinMap.{entries, entries-from_sorted, entries_sorted, is_sorted, retain_keys, values}
use Rattle.std.specs.FinMap.Entries.{is_sorted-where_key, where_key}
use Rattle.std.proofs.lemmas.List.{map-append}
use Rattle.std.specs.List.{AllByRecursion, filter}
use Rattle.h5_bytes.specs.Blocks.{Inside, block}
use Rattle.h5_bytes.specs.declared.Block.{Block}
use Rattle.h5_bytes.proofs.BlockLaws.{all_append, all_right}
use Rattle.h5_model.specs.Format.Chunks.{offsets_in}
use Rattle.h5_model.specs.Tree.Places.{is_inside}
use Rattle.h5_model.specs.Format.Rows.{Reading, next_row, row_below}
use Rattle.h5_model.specs.Format.Nodes.{node_at, tree_blocks}
use Rattle.h5_model.specs.Format.Reached.{Shape, shape_kind}
use Rattle.h5_model.proofs.MapSteps.{retain_by_name}
use Rattle.h5_laws.proofs.Lists.{In, all_in, in_all, in_flat, in_map}
use Rattle.h5_laws.proofs.Maps.{true_of}
use Rattle.h5_laws.proofs.Subtrees.{index_in}
use Rattle.h5_btree.specs.Walk.Below.{IsStanding}
use Rattle.h5_btree.specs.Walk.Forms.{IsKeyed, OfChunks}
use Rattle.h5_btree.specs.Walk.Stands.{IsNodeAt, IsTreeAt, bottom_at}
use Rattle.h5_btree.proofs.WalkLaws.Descended.{root_there}
use Rattle.h5_chunks.specs.Held.{IsBottomNode, place_entry}
use Rattle.h5_chunks.specs.declared.held.ChunkPlace.{ChunkPlace}
use Rattle.h5_chunks.specs.Read.{AreChunksRead}
use Rattle.h5_chunks.specs.Told.{chunks_told, listed_told}
use Rattle.h5_chunks.proofs.ChunkFound.{entries_are, nodes_inside, stored_there, top}
use Rattle.h5_chunks.proofs.ChunkRows.{row_addresses}
use Rattle.h5_chunks.proofs.Readable.{stored_tree}
use Rattle.h5_chunks.proofs.ToldLaws.{entries_told}

module _ (image : List ℕ) (shape : Shape) (root : ℕ) (read : AreChunksRead image shape root) where
  abbrev V : Reading
  V = node_at image (shape_kind image shape)

  abbrev bottom : List ℕ
  bottom = bottom_at image (OfChunks shape) root

  -- a tree stands there
  pub tree_there : IsTreeAt image (OfChunks shape) root
  tree_there = record {
    level = (read.stored).level;
    nodes = (read.stored).owned;
    leaves = values (chunks_told image shape root);
    has = stored_there image shape root read;
    inside = nodes_inside image shape root read;
  }

  pub image_long : 26 ≤ length image
  image_long = omega (arith, (root_there image (OfChunks shape) root tree_there).inside)

  -- its chunks lie in the image
  chunk_there : (at : ℕ) → In at (values (chunks_told image shape root)) → at + shape.bytes ≤ length image
  chunk_there at there =
      let chunks = chunks_told image shape root in
      let InImage : Block → Type 0 = λ b. b.at + b.len ≤ length image in
      let all : Inside (length image) (tree_blocks (shape_kind image shape) (read.stored).owned ++ map (λ (a : ℕ). block a shape.bytes) (values chunks))
      = subst (Inside (length image)) (read.stored).laid read.inside in
      in_all InImage (block at shape.bytes) (map (λ (a : ℕ). block a shape.bytes) (values chunks))
      (all_right InImage (tree_blocks (shape_kind image shape) (read.stored).owned) (map (λ (a : ℕ). block a shape.bytes) (values chunks)) all)
      (in_map (λ (a : ℕ). block a shape.bytes) at (values chunks) there)

  pub rows_are : bottom ≡ row_below V (read.stored).level (root ∷ [])
  rows_are = ap (λ (l : ℕ). row_below V l (root ∷ [])) (top image shape root read)

  values_are : values (chunks_told image shape root) ≡ next_row V bottom
  values_are =
      ap (map (λ (c : List ℕ × ℕ). c.1)) (entries_are image shape root read) ∙ row_addresses image shape (row_below V (read.stored).level (root ∷ []))
      ∙ ap (next_row V) (sym rows_are)

  -- a node of level 0 of the tree
  pub bottom_node : (at : ℕ) → In at bottom → IsNodeAt image (OfChunks shape) at → IsBottomNode image shape at
  bottom_node at here stands =
      let tree = stored_tree image shape root (chunks_told image shape root) _ read.stored in
      record {
        there = stands;
        keyed = in_all (λ n. IsKeyed (OfChunks shape) (V n)) at (row_below V (read.stored).level (root ∷ [])) tree.keyed (subst (In at) rows_are here);
        inside = all_in (λ (n : ℕ). n + shape.bytes ≤ length image) (V at).children (λ n child.
            chunk_there n (subst (In n) (sym values_are) (in_flat (λ a. (V a).children) at n bottom here child)));
      }

  -- so it is of each of the row
  pub row_node : (row : List ℕ) (k : ℕ) → k < length row → row ≡ bottom_at image (OfChunks shape) root → AllByRecursion (IsStanding image (OfChunks shape) 0) row
      → IsBottomNode image shape (get_or row k 0)
  row_node row k low is stand =
      let at : ℕ = get_or row k 0 in
      let here : In at row = index_in row k 0 low in
      let stands : IsStanding image (OfChunks shape) 0 at = in_all (IsStanding image (OfChunks shape) 0) at row stand here in
      bottom_node at (subst (In at) is here) (record { formed = stands.formed; inside = stands.there })

  -- those that hold a cell of the extent
  pub held_entries : (test : List ℕ → Bool) → entries (retain_keys (chunks_told image shape root) test) ≡ where_key (slice_cmp nat_cmp) test (listed_told image shape root)
  held_entries test =
      let listed = listed_told image shape root in
      let chunks = chunks_told image shape root in
      let sorted : T (is_sorted (slice_cmp nat_cmp) listed)
      = subst (λ (es : List (List ℕ × ℕ)). T (is_sorted (slice_cmp nat_cmp) es)) (entries_told image shape root chunks _ read.stored) (entries_sorted chunks) in
      ap entries (retain_by_name listed test (true_of _ sorted))
      ∙ entries-from_sorted (slice_cmp nat_cmp) (where_key (slice_cmp nat_cmp) test listed) (is_sorted-where_key (slice_cmp nat_cmp) test listed sorted)

-- ---- one chunk more

module _ (sizes : List ℕ) where
  abbrev pub is_held_place : ChunkPlace → Bool
  is_held_place p = is_inside sizes (offsets_in (length sizes) p.key.now)

  module _ (rank : ℕ) (same : length sizes ≡ rank) (place : ChunkPlace) where
    abbrev Entry : Type 0
    Entry = List ℕ × ℕ

    one_entry : (b : Bool) → map (place_entry rank) (cond b (place ∷ []) []) ≡ cond b (place_entry rank place ∷ []) []
    one_entry true = refl
    one_entry false = refl

    pub entries_more : (old : List ChunkPlace) → map (place_entry rank) (old ++ filter is_held_place (place ∷ []))
        ≡ map (place_entry rank) old ++ filter (λ (e : Entry). is_inside sizes e.0) (place_entry rank place ∷ [])
    entries_more old =
        map-append (place_entry rank) old (filter is_held_place (place ∷ []))
        ∙ ap (λ (es : List Entry). map (place_entry rank) old ++ es) (one_entry (is_held_place place)
        ∙ ap (λ n. cond (is_inside sizes (offsets_in n place.key.now)) (place_entry rank place ∷ []) []) same)

  module _ (P : ChunkPlace → Type 0) (old : List ChunkPlace) (place : ChunkPlace) where
    pub places_more : AllByRecursion P old → P place → AllByRecursion P (old ++ filter is_held_place (place ∷ []))
    places_more all here = all_append P old (filter is_held_place (place ∷ [])) all (by_test (is_held_place place)) where
      by_test : (b : Bool) → AllByRecursion P (cond b (place ∷ []) [])
      by_test true = (here, tt)
      by_test false = tt
