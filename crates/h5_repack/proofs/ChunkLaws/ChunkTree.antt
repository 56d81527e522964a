-- The tree of the stored chunks in the plain layout is a tree of the definition, with these chunks (File Format Specification 3.0,
-- section III.A.1).
use Rattle.std.proofs.Common.{◌≡◌, ℕ, zero, suc, ◌+◌, ◌^◌, ◌<◌, ◌≤◌, inl, inr, List, [], ◌∷◌, ◌++◌, length, map, take, get_or, Some, refl, sym, ap, ◌∙◌, subst, arith}
use Rattle.std.proofs.lemmas.List.{map-append}
use Rattle.std.specs.Prelude.{slice_index_or, T}
use Rattle.std.specs.Ordering.{nat_cmp}
use Rattle.std.specs.Cmp.Lexicographic.{slice_cmp}
use Rattle.std.specs.FinMap.{entries, values, from_sorted, entries-from_sorted, is_sorted}
use Rattle.std.specs.List.{AllByRecursion, AllZip, flat_map, zip}
use Rattle.h5_bytes.specs.Blocks.{block}
use Rattle.h5_bytes.specs.Bytes.{undefined_address}
use Rattle.h5_bytes.proofs.BlockLaws.{all_append, all_so}
use Rattle.h5_model.specs.Format.Rows.{IsRow, AreRows, Reading, blank, next_row, nodes, row_below}
use Rattle.h5_model.specs.Format.Nodes.{HasTree, Kind, chunk_kind, node_at, node_bytes, reading_of, tree_blocks}
use Rattle.h5_model.specs.Format.Chunks.{Chunks, HasChunks, HasChunkKeys, IsChunkKey, IsChunkOrdered, IsOffset, chunks_at, offsets_in}
use Rattle.h5_model.proofs.RowLaws.{only_here}
use Rattle.h5_laws.specs.ChunkLadders.{chunk_lists, rising_chunk_sides}
use Rattle.h5_laws.specs.Ladders.{Bottom, IsOrderedBy, IsOrderly, Sides, lists_below}
use Rattle.h5_laws.proofs.ChunkLadders.{chunk_order, chunks_by, zip_long}
use Rattle.h5_laws.proofs.Lists.{In, in_all, all_in, in_right}
use Rattle.h5_laws.proofs.Rows.{row_level}
use Rattle.h5_btree.proofs.NodeLaws.{length-children, length-keys}
use Rattle.h5_btree.specs.Rising.{RiseFrom}
use Rattle.h5_btree.specs.Writing.Laws.{HasPlainNodes, lists_beside}
use Rattle.h5_btree.specs.Writing.Written.{places_of, root_level}
use Rattle.h5_btree.specs.declared.write.child.Child.{Child}
use Rattle.h5_chunks.specs.Between.{offsets_of}
use Rattle.h5_model.specs.Format.Links.{Before}
use Rattle.h5_chunks.specs.Keys.{OffsetKey, chunk_key}
use Rattle.h5_chunks.proofs.Ascending.{rise_sorted}
use Rattle.h5_repack.specs.Bodies.Chunks.{chunk_children}
use Rattle.h5_layout.specs.HeldChunks.{AreRising}
use Rattle.h5_layout.proofs.KeyBack.{key_back}
use Rattle.h5_repack.proofs.ChunkLaws.ChunkOrder.{IsGridOf, chunk_ladder, key_of, key_pairs, keys_follow, left_of_next, offsets_are, right_of_key}

-- ---- pairs, one list each

single_at : {X : Type 0} (P : X → Type 0) (xs : List X) → ((i : ℕ) → i < length xs → AllByRecursion P (slice_index_or (map (λ x. x ∷ []) xs) i [])) → AllByRecursion P xs
single_at P [] each = tt
single_at P (x ∷ xs) each = ((each 0 (omega arith)).0, single_at P xs (λ i low. each (suc i) (omega (arith, low))))

zip_seconds : {X Y : Type 0} (xs : List X) (ys : List Y) → length xs ≡ length ys + 1 → map (λ (z : X × Y). z.1) (zip xs ys) ≡ ys
zip_seconds [] ys long = absurd (omega (arith, long))
zip_seconds (x ∷ xs) [] long = refl
zip_seconds {Y = Y} (x ∷ xs) (y ∷ ys) long = ap (λ (zs : List Y). y ∷ zs) (zip_seconds xs ys (omega (arith, long)))

zip_firsts : {X Y : Type 0} (P : X → Type 0) (xs : List X) (ys : List Y) → length xs ≡ length ys + 1 → AllByRecursion (λ (z : X × Y). P z.0) (zip xs ys) → AllByRecursion P (take (length ys) xs)
zip_firsts P [] ys long all = absurd (omega (arith, long))
zip_firsts P (x ∷ xs) [] long all = tt
zip_firsts P (x ∷ xs) (y ∷ ys) long all = (all.0, zip_firsts P xs ys (omega (arith, long)) all.1)

zip_mapped : {X Y Z : Type 0} (f : X → Z) (xs : List X) (ys : List Y) → zip (map f xs) ys ≡ map (λ (z : X × Y). (f z.0, z.1)) (zip xs ys)
zip_mapped f [] ys = refl
zip_mapped f (x ∷ xs) [] = refl
zip_mapped {Y = Y} {Z = Z} f (x ∷ xs) (y ∷ ys) = ap (λ (zs : List (Z × Y)). (f x, y) ∷ zs) (zip_mapped f xs ys)

abbrev rest_of : List ℕ → List ℕ
rest_of [] = []
rest_of (n ∷ ns) = ns

-- pairs that are among others, with the same second parts, none of which is twice, are those
same_pairs : {X : Type 0} (all : List (X × ℕ)) → ((a b : X × ℕ) → In a all → In b all → a.1 ≡ b.1 → a ≡ b) → (xs ps : List (X × ℕ))
    → map (λ (p : X × ℕ). p.1) xs ≡ map (λ (p : X × ℕ). p.1) ps → AllByRecursion (λ p. In p all) xs → AllByRecursion (λ p. In p all) ps → xs ≡ ps
same_pairs all own [] [] same among among' = refl
same_pairs all own [] (p ∷ ps) same among among' = absurd (let long = ap length same in omega (arith, long))
same_pairs all own (x ∷ xs) [] same among among' = absurd (let long = ap length same in omega (arith, long))
same_pairs {X = X} all own (x ∷ xs) (p ∷ ps) same among among' =
    let first : x.1 ≡ p.1 = ap (λ (ns : List ℕ). get_or ns 0 0) same in
    let rest : map (λ (p : X × ℕ). p.1) xs ≡ map (λ (p : X × ℕ). p.1) ps = ap rest_of same in
    (λ i. own x p among.0 among'.0 first i ∷ same_pairs all own xs ps rest among.1 among'.1 i)

-- ---- rows

bottom_row : (V : Reading) (level : ℕ) (row : List ℕ) → AreRows V level row → IsRow V 0 undefined_address (row_below V level row)
bottom_row V zero row are = are
bottom_row V (suc level) row are = bottom_row V level (next_row V row) are.1

in_bottom : (V : Reading) (level : ℕ) (row : List ℕ) (n : ℕ) → In n (row_below V level row) → In n (nodes V level row)
in_bottom V zero row n at = at
in_bottom V (suc level) row n at = in_right n row (nodes V level (next_row V row)) (in_bottom V level (next_row V row) n at)

-- ---- the chunks

-- stored chunks of so many bytes one behind another, the first at this place
abbrev pub chunk_pairs : ℕ → ℕ → List (List ℕ) → List (List ℕ × ℕ)
chunk_pairs size at [] = []
chunk_pairs size at (offsets ∷ others) = (offsets, at) ∷ chunk_pairs size (at + size) others

rise_pairs : (size at : ℕ) (last : List ℕ) (others : List (List ℕ)) → AreRising (last ∷ others) → RiseFrom offsets_of Before (Some last) (chunk_pairs size at others)
rise_pairs size at last [] rising = tt
rise_pairs size at last (next ∷ others) rising = (rising.0, rise_pairs size (at + size) next others rising.1)

pub pairs_sorted : (size at : ℕ) (first : List ℕ) (others : List (List ℕ)) → AreRising (first ∷ others) → T (is_sorted (slice_cmp nat_cmp) (chunk_pairs size at (first ∷ others)))
pairs_sorted size at first others rising = rise_sorted (chunk_pairs size at (first ∷ others)) (tt, rise_pairs size (at + size) first others rising)

-- the stored chunks as a map from offsets to addresses
abbrev pub chunk_map : ℕ → ℕ → List (List ℕ) → Chunks
chunk_map size at stored = from_sorted (chunk_pairs size at stored)

pub entries_of : (size at : ℕ) (first : List ℕ) (others : List (List ℕ)) → AreRising (first ∷ others)
    → entries (chunk_map size at (first ∷ others)) ≡ chunk_pairs size at (first ∷ others)
entries_of size at first others rising = entries-from_sorted (slice_cmp nat_cmp) (chunk_pairs size at (first ∷ others)) (pairs_sorted size at first others rising)

module _ (chunk : List ℕ) (grid : IsGridOf chunk) (size : ℕ) (some : 1 ≤ size) where
  pairs_from : (at : ℕ) (stored : List (List ℕ)) (p : List ℕ × ℕ) → In p (key_pairs chunk grid size at stored) → at ≤ p.1
  pairs_from at [] p is = absurd is
  pairs_from at (offsets ∷ others) p (inl e) = let same : at ≡ p.1 = ap (λ (q : List ℕ × ℕ). q.1) e in omega (arith, same)
  pairs_from at (offsets ∷ others) p (inr is) = omega (arith, pairs_from (at + size) others p is)

  own_pair : (at : ℕ) (stored : List (List ℕ)) (a b : List ℕ × ℕ) → In a (key_pairs chunk grid size at stored) → In b (key_pairs chunk grid size at stored) → a.1 ≡ b.1 → a ≡ b
  own_pair at [] a b is is' same = absurd is
  own_pair at (offsets ∷ others) a b (inl e) (inl f) same = sym e ∙ f
  own_pair at (offsets ∷ others) a b (inl e) (inr is') same =
      let here : at ≡ a.1 = ap (λ (q : List ℕ × ℕ). q.1) e in absurd (omega (arith, here, same, some, pairs_from (at + size) others b is'))
  own_pair at (offsets ∷ others) a b (inr is) (inl f) same =
      let here : at ≡ b.1 = ap (λ (q : List ℕ × ℕ). q.1) f in absurd (omega (arith, here, same, some, pairs_from (at + size) others a is))
  own_pair at (offsets ∷ others) a b (inr is) (inr is') same = own_pair (at + size) others a b is is' same

  all_themselves : {X : Type 0} (xs : List X) → AllByRecursion (λ x. In x xs) xs
  all_themselves xs = all_in (λ x. In x xs) xs (λ x is. is)

  pair_places : (at : ℕ) (stored : List (List ℕ)) → map (λ (p : List ℕ × ℕ). p.1) (key_pairs chunk grid size at stored) ≡ places_of (chunk_children size chunk at stored)
  pair_places at [] = refl
  pair_places at (offsets ∷ others) = ap (λ (ns : List ℕ). at ∷ ns) (pair_places (at + size) others)

  chunk_places : (at : ℕ) (stored : List (List ℕ)) → map (λ (p : List ℕ × ℕ). p.1) (chunk_pairs size at stored) ≡ places_of (chunk_children size chunk at stored)
  chunk_places at [] = refl
  chunk_places at (offsets ∷ others) = ap (λ (ns : List ℕ). at ∷ ns) (chunk_places (at + size) others)

  pub values_of : (at : ℕ) (first : List ℕ) (others : List (List ℕ)) → AreRising (first ∷ others)
      → values (chunk_map size at (first ∷ others)) ≡ places_of (chunk_children size chunk at (first ∷ others))
  values_of at first others rising = ap (map (λ (p : List ℕ × ℕ). p.1)) (entries_of size at first others rising) ∙ chunk_places at (first ∷ others)

  -- the offsets of keys are those of the chunks
  abbrev decoded : List ℕ × ℕ → List ℕ × ℕ
  decoded p = (offsets_in (length chunk) p.0, p.1)

  pairs_decoded : (at : ℕ) (stored : List (List ℕ)) → AllByRecursion (AllZip IsOffset chunk) stored → map decoded (key_pairs chunk grid size at stored) ≡ chunk_pairs size at stored
  pairs_decoded at [] held = refl
  pairs_decoded at (offsets ∷ others) held =
      (λ i. (offsets_are chunk grid size size offsets (key_of chunk grid size offsets held.0) i, at) ∷ pairs_decoded (at + size) others held.1 i)

  pairs_keyed : size < 2 ^ 32 → (at : ℕ) (stored : List (List ℕ)) → AllByRecursion (AllZip IsOffset chunk) stored
      → AllByRecursion (λ (p : List ℕ × ℕ). IsChunkKey chunk size p.0) (key_pairs chunk grid size at stored)
  pairs_keyed low at [] held = tt
  pairs_keyed low at (offsets ∷ others) held =
      let own = key_of chunk grid size offsets held.0 in
      (key_back size offsets own.words chunk own.long low held.0, pairs_keyed low (at + size) others held.1)

  module _ (k : ℕ) (image : List ℕ) (at place : ℕ) (first : List ℕ) (others : List (List ℕ)) (low : size < 2 ^ 32)
      (plain : HasPlainNodes image (chunk_kind k (length chunk)) chunk_key (record { bytes = size; offsets = first }) at (chunk_children size chunk place (first ∷ others)))
      (rising : AreRising (first ∷ others)) (held : AllByRecursion (AllZip IsOffset chunk) (first ∷ others)) where
    abbrev rank : ℕ
    rank = length chunk

    abbrev kind : Kind
    kind = chunk_kind k rank

    abbrev children : List (Child OffsetKey)
    children = chunk_children size chunk place (first ∷ others)

    abbrev V : Reading
    V = reading_of image kind plain.owned

    abbrev level : ℕ
    level = root_level k (length children)

    abbrev bottom : List ℕ
    bottom = row_below V level (at ∷ [])

    abbrev pairs : List (List ℕ × ℕ)
    pairs = key_pairs chunk grid size place (first ∷ others)

    -- ---- keys and children of the tree's nodes

    abbrev Among : List ℕ × ℕ → Type 0
    Among p = In p pairs

    abbrev pair_sides : Sides (List ℕ) (List ℕ × ℕ)
    pair_sides = record {
      Right = λ key p. (rising_chunk_sides rank).Right key (decoded p) × Among p;
      Left = λ p key. (rising_chunk_sides rank).Left (decoded p) key;
      Rise = (rising_chunk_sides rank).Rise;
    }

    pair_order : IsOrderly pair_sides
    pair_order = record {
      itself = (chunk_order rank).itself;
      rises = (chunk_order rank).rises;
      right = λ k l p rise is. ((chunk_order rank).right k l (decoded p) rise is.0, is.1);
      left = λ p k l. (chunk_order rank).left (decoded p) k l;
      apart = λ k p right left. (chunk_order rank).apart k (decoded p) right.0 left;
    }

    abbrev pair_lists : Bottom (List ℕ × ℕ)
    pair_lists node = map (λ p. p ∷ []) (zip node.keys node.children)

    pairs_beside : (keys : List (List ℕ)) (places : List ℕ) → length keys ≡ length places + 1
        → map (λ p. p ∷ []) (zip keys places) ≡ lists_beside (λ key n. (key, n) ∷ []) keys places
    pairs_beside [] places long = absurd (omega (arith, long))
    pairs_beside (key ∷ keys) [] long = refl
    pairs_beside (key ∷ keys) (n ∷ places) long =
        ap (λ (lists : List (List (List ℕ × ℕ))). ((key, n) ∷ []) ∷ lists) (pairs_beside keys places (omega (arith, long)))

    chunks_beside : (keys : List (List ℕ)) (places : List ℕ) → length keys ≡ length places + 1
        → map (λ chunk. chunk ∷ []) (zip (map (offsets_in rank) keys) places) ≡ lists_beside (λ key n. (offsets_in rank key, n) ∷ []) keys places
    chunks_beside [] places long = absurd (omega (arith, long))
    chunks_beside (key ∷ keys) [] long = refl
    chunks_beside (key ∷ keys) (n ∷ places) long =
        ap (λ (lists : List (List (List ℕ × ℕ))). ((offsets_in rank key, n) ∷ []) ∷ lists) (chunks_beside keys places (omega (arith, long)))

    pairs_ordered : AllByRecursion (λ n. IsOrderedBy pair_sides V pair_lists (V n)) plain.owned
    pairs_ordered = plain.ordered pair_sides (λ key n. (key, n) ∷ []) pair_lists pair_order (λ node long. pairs_beside node.keys node.children long)
        (chunk_ladder chunk grid size pair_sides (λ key n. (key, n)) Among
        (λ offsets n is among. (right_of_key chunk grid size offsets is, among))
        (λ offsets next n bytes is is_next before. (left_of_next chunk grid size offsets next bytes is is_next before, keys_follow chunk grid size offsets next bytes is is_next before))
        first others place rising held (all_themselves pairs))

    chunks_ordered : AllByRecursion (λ n. IsOrderedBy (rising_chunk_sides rank) V (chunk_lists rank) (V n)) plain.owned
    chunks_ordered = plain.ordered (rising_chunk_sides rank) (λ key n. (offsets_in rank key, n) ∷ []) (chunk_lists rank) (chunk_order rank)
        (λ node long. chunks_beside node.keys node.children long)
        (chunk_ladder chunk grid size (rising_chunk_sides rank) (λ key n. (offsets_in rank key, n)) Among
        (λ offsets n is among. right_of_key chunk grid size offsets is)
        (λ offsets next n bytes is is_next before. (left_of_next chunk grid size offsets next bytes is is_next before, keys_follow chunk grid size offsets next bytes is is_next before))
        first others place rising held (all_themselves pairs))

    own_chunks_ordered : AllByRecursion (λ n. IsChunkOrdered V rank (V n)) plain.owned
    own_chunks_ordered = all_so (λ n. IsOrderedBy (rising_chunk_sides rank) V (chunk_lists rank) (V n)) (λ n. IsChunkOrdered V rank (V n)) plain.owned
        (λ n is. chunks_by V rank (V n) (record { between = is.between; rising = λ i few. tt })) chunks_ordered

    -- ---- the bottom row

    owned_of : (n : ℕ) → In n bottom → In n plain.owned
    owned_of n is = subst (In n) (sym (plain.tree).owns) (in_bottom V level (at ∷ []) n is)

    level_of : (n : ℕ) → In n bottom → (V n).level ≡ 0
    level_of n is = row_level V 0 undefined_address n bottom (bottom_row V level (at ∷ []) (plain.tree).rows) is

    long_of : (n : ℕ) → In n bottom → length (V n).keys ≡ length (V n).children + 1
    long_of n is =
        let same : node_at image kind n ≡ V n = in_all (λ a. node_at image kind a ≡ V a) n plain.owned (only_here blank (node_at image kind) plain.owned) (owned_of n is) in
        omega (arith, length-children kind (node_bytes image kind n) (V n) same, length-keys kind (node_bytes image kind n) (V n) same)

    among_of : (n : ℕ) → In n bottom → AllByRecursion Among (zip (V n).keys (V n).children)
    among_of n is =
        let ordered = in_all (λ a. IsOrderedBy pair_sides V pair_lists (V a)) n plain.owned pairs_ordered (owned_of n is) in
        single_at Among (zip (V n).keys (V n).children) (λ i few.
        let few_children : i < length (V n).children = omega (arith, few, zip_long (V n).keys (V n).children (long_of n is)) in
        all_so (λ p. pair_sides.Right (slice_index_or (V n).keys i []) p × pair_sides.Left p (slice_index_or (V n).keys (i + 1) [])) Among
        (slice_index_or (pair_lists (V n)) i []) (λ p sides. (sides.0).1)
        (subst (λ l. AllByRecursion (λ p. pair_sides.Right (slice_index_or (V n).keys i []) p × pair_sides.Left p (slice_index_or (V n).keys (i + 1) []))
        (slice_index_or (lists_below V pair_lists l (V n)) i [])) (level_of n is) (ordered.between i few_children)))

    -- all pairs of a row
    abbrev row_pairs : List ℕ → List (List ℕ × ℕ)
    row_pairs row = flat_map (λ n. zip (V n).keys (V n).children) row

    rows_among : (row : List ℕ) → AllByRecursion (λ n. In n bottom) row → AllByRecursion Among (row_pairs row)
    rows_among [] all = tt
    rows_among (n ∷ row) all = all_append Among (zip (V n).keys (V n).children) (row_pairs row) (among_of n all.0) (rows_among row all.1)

    row_places : (row : List ℕ) → AllByRecursion (λ n. In n bottom) row → map (λ (p : List ℕ × ℕ). p.1) (row_pairs row) ≡ next_row V row
    row_places [] all = refl
    row_places (n ∷ row) all =
        map-append (λ (p : List ℕ × ℕ). p.1) (zip (V n).keys (V n).children) (row_pairs row)
        ∙ (λ i. zip_seconds (V n).keys (V n).children (long_of n all.0) i ++ row_places row all.1 i)

    row_decoded : (row : List ℕ) → chunks_at V rank row ≡ map decoded (row_pairs row)
    row_decoded [] = refl
    row_decoded (n ∷ row) =
        (λ i. zip_mapped (offsets_in rank) (V n).keys (V n).children i ++ row_decoded row i)
        ∙ sym (map-append decoded (zip (V n).keys (V n).children) (row_pairs row))

    bottom_pairs : row_pairs bottom ≡ pairs
    bottom_pairs = same_pairs pairs (own_pair place (first ∷ others)) (row_pairs bottom) pairs
        (row_places bottom (all_themselves bottom) ∙ sym (plain.tree).all ∙ sym (pair_places place (first ∷ others)))
        (rows_among bottom (all_themselves bottom)) (all_themselves pairs)

    chunks_are : chunks_at V rank bottom ≡ chunk_pairs size place (first ∷ others)
    chunks_are = row_decoded bottom ∙ ap (map decoded) bottom_pairs ∙ pairs_decoded place (first ∷ others) held

    keyed : AllByRecursion (λ n. HasChunkKeys chunk size (V n)) bottom
    keyed = all_in (λ n. HasChunkKeys chunk size (V n)) bottom (λ n is.
        zip_firsts (IsChunkKey chunk size) (V n).keys (V n).children (long_of n is)
        (all_so Among (λ (p : List ℕ × ℕ). IsChunkKey chunk size p.0) (zip (V n).keys (V n).children)
        (λ p among. in_all (λ (q : List ℕ × ℕ). IsChunkKey chunk size q.0) p pairs (pairs_keyed low place (first ∷ others) held) among) (among_of n is)))

    -- ---- the tree

    pub chunks_stand : HasChunks image k chunk size at (chunk_map size place (first ∷ others))
        (tree_blocks kind plain.owned ++ map (λ n. block n size) (values (chunk_map size place (first ∷ others))))
    chunks_stand = record {
      level = level;
      owned = plain.owned;
      tree = subst (λ places. HasTree image kind at level plain.owned places) (sym (values_of place first others rising)) plain.tree;
      listed = record {
        listed = entries_of size place first others rising ∙ sym chunks_are;
        keyed = keyed;
        ordered = own_chunks_ordered;
      };
      laid = refl;
    }
