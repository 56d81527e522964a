-- The chunks below a node that have a cell outside an extent, child by child.
use Rattle.std.proofs.Common.{◌≡◌, ℕ, zero, suc, ◌+◌, ◌<◌, ◌≤◌, List, [], ◌∷◌, ◌++◌, Bool, inl, length, map, take, get_or, slice_get, Some, true, false, cond, not, append-nil, append_assoc, refl, sym, ap, ◌∙◌, subst, arith}
use Rattle.std.proofs.lemmas.List.{length-map, map-append, take_all, take_more, get_or-map}
use Rattle.std.proofs.lemmas.List.Elements.{filter-append}
use Rattle.std.proofs.lemmas.Grind.{flat_map-append}
use Rattle.std.proofs.lemmas.Option.{get_or_from_slice_get}
use Rattle.std.specs.FinMap.{values}
use Rattle.std.specs.List.{AllByRecursion, filter, zip}
use Rattle.h5_bytes.specs.Bytes.{undefined_address}
use Rattle.h5_model.specs.Format.Chunks.{IsChunkOrdered, chunks_at, chunks_in, offsets_in}
use Rattle.h5_model.specs.Format.Nodes.{HasTree, Kind, node_at}
use Rattle.h5_model.specs.Format.Reached.{Shape, level_at, shape_kind}
use Rattle.h5_model.specs.Format.Rows.{Node, Reading, row_below}
use Rattle.h5_model.specs.Tree.Places.{is_inside}
use Rattle.h5_laws.specs.ChunkLadders.{chunk_lists, chunk_sides}
use Rattle.h5_laws.specs.Ladders.{LieBetween, all_of, items_under, lists_below}
use Rattle.h5_laws.proofs.ChunkLadders.{by_chunks, chunk_order_there, chunks_under}
use Rattle.h5_laws.proofs.LadderTrees.{all_lists}
use Rattle.h5_laws.proofs.Lists.{In, all_in, from_flat, in_all}
use Rattle.h5_laws.proofs.Rows.{row_is, row_level, rows_below}
use Rattle.h5_laws.proofs.Subtrees.{child_below}
use Rattle.h5_laws.proofs.Trees.{row_owned, tree_rows}
use Rattle.h5_btree.specs.Walk.Below.{reading_in}
use Rattle.h5_btree.specs.Walk.Forms.{OfChunks}
use Rattle.h5_btree.specs.Walk.Stands.{IsNodeAt}
use Rattle.h5_btree.proofs.WalkLaws.StandLaws.{each_node}
use Rattle.h5_chunks.specs.Between.{IsChunkHeld}
use Rattle.h5_chunks.specs.Beyond.{IsChunkNode, IsChunkTree, chunks_from}
use Rattle.h5_chunks.specs.Lists.{ChunkOffsets, offsets_across, offsets_of_edge, offsets_of_outer, offsets_outside, reaches_beyond, with_more}
use Rattle.h5_chunks.specs.Read.{AreChunksRead}
use Rattle.h5_chunks.specs.Told.{chunks_told, listed_told}
use Rattle.h5_chunks.proofs.ChunkFound.{nodes_inside, stored_there, top}
use Rattle.h5_chunks.proofs.HeldLaws.{bottom_node, held_entries, rows_are}
use Rattle.h5_chunks.proofs.ReachLaws.{offsets_long, reaches_not}

-- ---- lists of chunks

pub none_more : (v : ChunkOffsets) → v ≡ with_more v []
none_more v = ap (λ (os : List (List ℕ)). record v { offsets = os }) (sym (append-nil v.offsets))

pub more_again : (v : ChunkOffsets) (xs ys : List (List ℕ)) → with_more (with_more v xs) ys ≡ with_more v (xs ++ ys)
more_again v xs ys = ap (λ (os : List (List ℕ)). record v { offsets = os }) (append_assoc v.offsets xs ys)

-- a list that has more, and then more
pub then_more : (first last now : ChunkOffsets) (xs ys : List (List ℕ)) → last ≡ with_more first xs → now ≡ with_more last ys → now ≡ with_more first (xs ++ ys)
then_more first last now xs ys one two = two ∙ ap (λ (v : ChunkOffsets). with_more v ys) one ∙ more_again first xs ys

module _ (sizes chunk : List ℕ) where
  abbrev inside_of_entry : List ℕ × ℕ → Bool
  inside_of_entry e = is_inside sizes e.0

  abbrev outside_of_entry : List ℕ × ℕ → Bool
  outside_of_entry e = not (is_inside sizes e.0)

  pub edge_append : (xs ys : List (List ℕ × ℕ)) → offsets_of_edge sizes chunk (xs ++ ys) ≡ offsets_of_edge sizes chunk xs ++ offsets_of_edge sizes chunk ys
  edge_append xs ys =
      ap (λ (es : List (List ℕ × ℕ)). filter (reaches_beyond sizes chunk) (map (λ (e : List ℕ × ℕ). e.0) es)) (filter-append inside_of_entry xs ys)
      ∙ ap (filter (reaches_beyond sizes chunk)) (map-append (λ (e : List ℕ × ℕ). e.0) (filter inside_of_entry xs) (filter inside_of_entry ys))
      ∙ filter-append (reaches_beyond sizes chunk) (map (λ (e : List ℕ × ℕ). e.0) (filter inside_of_entry xs)) (map (λ (e : List ℕ × ℕ). e.0) (filter inside_of_entry ys))

  one_edge : (offsets : List ℕ) (at : ℕ)
      → offsets_of_edge sizes chunk ((offsets, at) ∷ []) ≡ filter (reaches_beyond sizes chunk) (filter (is_inside sizes) (offsets ∷ []))
  one_edge offsets at = ap (filter (reaches_beyond sizes chunk)) (by_test (is_inside sizes offsets)) where
    by_test : (b : Bool) → map (λ (e : List ℕ × ℕ). e.0) (cond b ((offsets, at) ∷ []) []) ≡ cond b (offsets ∷ []) []
    by_test true = refl
    by_test false = refl

  -- one chunk more of a node
  pub edge_more : (chunks : List (List ℕ × ℕ)) (i : ℕ) (offsets : List ℕ) (at : ℕ) → i < length chunks → get_or chunks i ([], 0) ≡ (offsets, at)
      → offsets_of_edge sizes chunk (take (i + 1) chunks)
      ≡ offsets_of_edge sizes chunk (take i chunks) ++ filter (reaches_beyond sizes chunk) (filter (is_inside sizes) (offsets ∷ []))
  edge_more chunks i offsets at low is =
      ap (offsets_of_edge sizes chunk) (take_more chunks i ([], 0) low ∙ ap (λ (e : List ℕ × ℕ). take i chunks ++ e ∷ []) is)
      ∙ edge_append (take i chunks) ((offsets, at) ∷ [])
      ∙ ap (λ (os : List (List ℕ)). offsets_of_edge sizes chunk (take i chunks) ++ os) (one_edge offsets at)

  -- chunks that reach past the extent nowhere are none of those
  pub record AreNone (chunks : List (List ℕ × ℕ)) : Type 0 where
    pub outside : offsets_of_outer sizes chunks ≡ []
    pub across : offsets_of_edge sizes chunk chunks ≡ []

  abbrev IsWithin : List ℕ × ℕ → Type 0
  IsWithin e = (is_inside sizes e.0 ≡ true) × (reaches_beyond sizes chunk e.0 ≡ false)

  none_of : (chunks : List (List ℕ × ℕ)) → AllByRecursion IsWithin chunks → AreNone chunks
  none_of [] all = record { outside = refl; across = refl }
  none_of (e ∷ es) all =
      let rest = none_of es all.1 in
      record {
        outside = ap (λ b. map (λ (x : List ℕ × ℕ). x.0) (cond (not b) (e ∷ filter outside_of_entry es) (filter outside_of_entry es))) all.0.0 ∙ rest.outside;
        across = ap (λ b. filter (reaches_beyond sizes chunk) (map (λ (x : List ℕ × ℕ). x.0) (cond b (e ∷ filter inside_of_entry es) (filter inside_of_entry es)))) all.0.0
            ∙ ap (λ b. cond b (e.0 ∷ offsets_of_edge sizes chunk es) (offsets_of_edge sizes chunk es)) all.0.1 ∙ rest.across;
      }

  -- so it is of those between two keys between which no chunk reaches past it
  pub none_between : (low high : List ℕ) → length sizes ≡ length chunk → ((d : ℕ) → d < length chunk → 1 ≤ get_or chunk d 0)
      → ((offsets : List ℕ) → length offsets ≡ length chunk → IsChunkHeld (length chunk) low high offsets → reaches_beyond sizes chunk offsets ≡ false)
      → (chunks : List (List ℕ × ℕ)) → AllByRecursion (λ (e : List ℕ × ℕ). length e.0 ≡ length chunk) chunks
      → LieBetween (chunk_sides (length chunk)) low high chunks → AreNone chunks
  none_between low high same some none chunks long between = none_of chunks (all_within chunks long between) where
    all_within : (es : List (List ℕ × ℕ)) → AllByRecursion (λ (e : List ℕ × ℕ). length e.0 ≡ length chunk) es
        → LieBetween (chunk_sides (length chunk)) low high es → AllByRecursion IsWithin es
    all_within [] long between = tt
    all_within (e ∷ es) long between =
        let none_here : reaches_beyond sizes chunk e.0 ≡ false = none e.0 long.0 between.0 in
        ((reaches_not sizes chunk e.0 same long.0 some none_here, none_here), all_within es long.1 between.1)

-- ---- below a node

-- each chunk of a node has so many offsets
zip_long : (rank : ℕ) (keys : List (List ℕ)) (children : List ℕ) → AllByRecursion (λ (e : List ℕ × ℕ). length e.0 ≡ rank) (zip (map (offsets_in rank) keys) children)
zip_long rank [] [] = tt
zip_long rank [] (c ∷ cs) = tt
zip_long rank (k ∷ ks) [] = tt
zip_long rank (k ∷ ks) (c ∷ cs) = (offsets_long rank k, zip_long rank ks cs)

module _ (V : Reading) (rank : ℕ) where
  pub chunks_long : (level at : ℕ) → AllByRecursion (λ (e : List ℕ × ℕ). length e.0 ≡ rank) (items_under V (chunk_lists rank) level at)
  chunks_long level at =
      let row : List ℕ = row_below V level (at ∷ []) in
      subst (AllByRecursion (λ (e : List ℕ × ℕ). length e.0 ≡ rank)) (sym (chunks_under V rank level at))
      (all_in (λ (e : List ℕ × ℕ). length e.0 ≡ rank) (chunks_at V rank row) (λ e there.
      let by = from_flat (λ n. chunks_in rank (V n)) e row there in
      in_all (λ (x : List ℕ × ℕ). length x.0 ≡ rank) e (chunks_in rank (V by.0)) (zip_long rank (V by.0).keys (V by.0).children) by.2))

  -- what stands below a node above level 0, with one child more
  abbrev pub below_first : ℕ → Node → ℕ → List (List ℕ × ℕ)
  below_first level node i = all_of (take i (lists_below V (chunk_lists rank) (suc level) node))

  module _ (level : ℕ) (node : Node) (i child : ℕ) (low : i < length node.children) (is : get_or node.children i 0 ≡ child) where
    pub list_here : get_or (lists_below V (chunk_lists rank) (suc level) node) i [] ≡ items_under V (chunk_lists rank) level child
    list_here = get_or-map (items_under V (chunk_lists rank) level) node.children i 0 [] low ∙ ap (items_under V (chunk_lists rank) level) is

    pub one_child_more : below_first level node (i + 1) ≡ below_first level node i ++ items_under V (chunk_lists rank) level child
    one_child_more =
        let lists = lists_below V (chunk_lists rank) (suc level) node in
        let count : length lists ≡ length node.children = length-map node.children (items_under V (chunk_lists rank) level) in
        ap (λ (ls : List (List (List ℕ × ℕ))). all_of ls) (take_more lists i [] (omega (arith, low, count)))
        ∙ flat_map-append (λ (xs : List (List ℕ × ℕ)). xs) (take i lists) (get_or lists i [] ∷ [])
        ∙ ap (λ (es : List (List ℕ × ℕ)). below_first level node i ++ es) (append-nil (get_or lists i []) ∙ list_here)

  -- and all of them
  pub all_children : (level at : ℕ) (node : Node) → node ≡ V at → (i : ℕ) → length node.children ≤ i
      → below_first level node i ≡ items_under V (chunk_lists rank) (suc level) at
  all_children level at node is i end =
      let count : length (lists_below V (chunk_lists rank) (suc level) node) ≡ length node.children = length-map node.children (items_under V (chunk_lists rank) level) in
      ap (λ (ls : List (List (List ℕ × ℕ))). all_of ls) (take_all i (lists_below V (chunk_lists rank) (suc level) node) (omega (arith, count, end)))
      ∙ ap (λ (n : Node). all_of (lists_below V (chunk_lists rank) (suc level) n)) is ∙ all_lists V (chunk_lists rank) (suc level) at

-- ---- a node whose chunks are between its keys

module _ (image : List ℕ) (shape : Shape) (level at : ℕ) (stands : IsChunkNode image shape (suc level) at) where
  abbrev rank : ℕ
  rank = length shape.sizes

  abbrev V : Reading
  V = reading_in image (OfChunks shape)

  pub node_stands : IsNodeAt image (OfChunks shape) at
  node_stands = record { formed = (stands.stands).formed; inside = (stands.stands).there }

  module _ (node : Node) (is : node ≡ V at) (i : ℕ) (under : i < length node.children) where
    pub child_between : (low high : List ℕ) → slice_get node.keys i ≡ Some low → slice_get node.keys (i + 1) ≡ Some high
        → LieBetween (chunk_sides rank) low high (items_under V (chunk_lists rank) level (get_or node.children i 0))
    child_between low high low_is high_is =
        let own : i < length (V at).children = subst (λ (n : Node). i < length n.children) is under in
        let between : LieBetween (chunk_sides rank) (get_or (V at).keys i []) (get_or (V at).keys (i + 1) [])
        (get_or (lists_below V (chunk_lists rank) (V at).level (V at)) i []) = (stands.ordered).between i own in
        let exact : LieBetween (chunk_sides rank) (get_or (V at).keys i []) (get_or (V at).keys (i + 1) [])
        (items_under V (chunk_lists rank) level (get_or (V at).children i 0))
        = subst (LieBetween (chunk_sides rank) (get_or (V at).keys i []) (get_or (V at).keys (i + 1) []))
        (ap (λ (l : ℕ). get_or (lists_below V (chunk_lists rank) l (V at)) i []) (stands.stands).high
        ∙ list_here V rank level (V at) i (get_or (V at).children i 0) own refl) between in
        let here : LieBetween (chunk_sides rank) (get_or node.keys i []) (get_or node.keys (i + 1) []) (items_under V (chunk_lists rank) level (get_or node.children i 0))
        = subst (λ (n : Node). LieBetween (chunk_sides rank) (get_or n.keys i []) (get_or n.keys (i + 1) [])
        (items_under V (chunk_lists rank) level (get_or n.children i 0))) (sym is) exact in
        subst (λ (k : List ℕ). LieBetween (chunk_sides rank) k high (items_under V (chunk_lists rank) level (get_or node.children i 0)))
        (get_or_from_slice_get node.keys i low [] low_is)
        (subst (λ (k : List ℕ). LieBetween (chunk_sides rank) (get_or node.keys i []) k (items_under V (chunk_lists rank) level (get_or node.children i 0)))
        (get_or_from_slice_get node.keys (i + 1) high [] high_is) here)

-- ---- a tree of chunks that was read

module _ (image : List ℕ) (shape : Shape) (root : ℕ) (read : AreChunksRead image shape root) where
  abbrev kind : Kind
  kind = shape_kind image shape

  abbrev own : Reading
  own = node_at image kind

  abbrev height : ℕ
  height = (read.stored).level

  abbrev owned : List ℕ
  owned = (read.stored).owned

  abbrev leaves : List ℕ
  leaves = values (chunks_told image shape root)

  abbrev has : HasTree image kind root height owned leaves
  has = stored_there image shape root read

  -- each of its nodes, so many levels below the root
  module _ (d level at : ℕ) (levels : d + level ≡ height) (there : In at (row_below own d (root ∷ []))) where
    is_owned : In at owned
    is_owned = row_owned image kind root height owned leaves has d level at levels there

    node_there : IsNodeAt image (OfChunks shape) at
    node_there = in_all (IsNodeAt image (OfChunks shape)) at owned (each_node image (OfChunks shape) owned has.formed (nodes_inside image shape root read)) is_owned

    level_is : (own at).level ≡ level
    level_is =
        row_level own level undefined_address at (row_below own d (root ∷ []))
        (row_is own level (row_below own d (root ∷ [])) (rows_below own d level height (root ∷ []) levels (tree_rows image kind root height owned leaves has))) there

    chunk_node : IsChunkNode image shape level at
    chunk_node =
        let rank : ℕ = length shape.sizes in
        let ordered : AllByRecursion (λ n. IsChunkOrdered own rank (own n)) owned
        = chunk_order_there image kind root height owned leaves has rank (read.stored).listed.ordered in
        record {
          stands = record { formed = node_there.formed; high = level_is; there = node_there.inside };
          ordered = by_chunks own rank (own at) (in_all (λ n. IsChunkOrdered own rank (own n)) at owned ordered is_owned);
        }

  pub chunk_tree : (level d at : ℕ) → d + level ≡ height → In at (row_below own d (root ∷ [])) → IsChunkTree image shape level at
  chunk_tree zero d at levels there =
      let last : d ≡ height = omega (arith, levels) in
      bottom_node image shape root read at
      (subst (In at) (sym (rows_are image shape root read)) (subst (λ (n : ℕ). In at (row_below own n (root ∷ []))) last there))
      (node_there d 0 at levels there)
  chunk_tree (suc level) d at levels there = (
    chunk_node d (suc level) at levels there,
    all_in (IsChunkTree image shape level) (own at).children (λ child below.
        chunk_tree level (suc d) child (omega (arith, levels)) (child_below own d at child (root ∷ []) there below)),
  )

  -- the whole of it
  pub whole_tree : IsChunkTree image shape (level_at image kind root) root
  whole_tree =
      subst (λ (l : ℕ). IsChunkTree image shape l root) (sym (top image shape root read)) (chunk_tree height 0 root (omega arith) (inl refl))

  pub listed_from : listed_told image shape root ≡ chunks_from image shape (level_at image kind root) root
  listed_from = sym (chunks_under own (length shape.sizes) (level_at image kind root) root)

  -- those with a cell outside are those of its chunks
  pub outside_from : (sizes : List ℕ)
      → offsets_outside sizes (chunks_told image shape root) ≡ offsets_of_outer sizes (chunks_from image shape (level_at image kind root) root)
  outside_from sizes =
      ap (map (λ (e : List ℕ × ℕ). e.0)) (held_entries image shape root read (λ offsets. not (is_inside sizes offsets))) ∙ ap (offsets_of_outer sizes) listed_from

  pub across_from : (sizes : List ℕ)
      → offsets_across sizes shape.sizes (chunks_told image shape root) ≡ offsets_of_edge sizes shape.sizes (chunks_from image shape (level_at image kind root) root)
  across_from sizes =
      ap (λ (es : List (List ℕ × ℕ)). filter (reaches_beyond sizes shape.sizes) (map (λ (e : List ℕ × ℕ). e.0) es)) (held_entries image shape root read (is_inside sizes))
      ∙ ap (offsets_of_edge sizes shape.sizes) listed_from
