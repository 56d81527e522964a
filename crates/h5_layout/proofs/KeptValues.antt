-- The cells of a chunk that is handed on are those of the array once it has its new sizes (File Format Specification 3.0, sections III.A.1
-- and IV.A.2.i).
use Rattle.std.proofs.Common.{◌≡◌, ℕ, ◌⊎◌, ◌+◌, ◌-◌, ◌*◌, ◌/◌, ◌%◌, ◌<◌, ◌≤◌, ℤ, List, [], ◌∷◌, length, map, Bool, true, false, cond, Option, Some, None, inl, inr, refl, sym, ap, ap₂, ◌∙◌, subst, arith}
use Rattle.std.specs.Prelude.{◌&&◌, ◌==◌, nat_lt, min, slice_index_or}
use Rattle.std.specs.Ordering.{nat_cmp}
use Rattle.std.specs.Cmp.Lexicographic.{slice_cmp, nat_list_cmp_total}
use Rattle.std.specs.declared.cmp.Ordering.TheVariants.{Equal}
use Rattle.std.specs.FinMap.{entries, get, get-retain_keys, nat_cmp-IsAntisymmetric, retain_keys, slice_cmp-IsAntisymmetric}
use Rattle.std.specs.List.{AllByRecursion, AllZip, range_with_len}
use Rattle.std.proofs.lemmas.Bool.{cases_lt}
use Rattle.std.proofs.lemmas.Bool.Decides.{nat_tests}
use Rattle.std.proofs.lemmas.List.FromFn.{get_or-map-range_with_len}
use Rattle.std.proofs.lemmas.Nat.{div-add-mod', div-mul-add, mod-mul-add}
use Rattle.h5_bytes.specs.Bytes.{part}
use Rattle.h5_bytes.specs.Tables.{table}
use Rattle.h5_model.specs.Edits.Applied.{cell_or_fill, with_sizes}
use Rattle.h5_model.specs.Format.Cells.{cell_of, value_in, value_in_chunk}
use Rattle.h5_model.specs.Format.Chunks.{Chunks, IsOffset, offsets_in}
use Rattle.h5_model.specs.Format.Layout.{Layout, InChunks}
use Rattle.h5_model.specs.Format.Described.{Described}
use Rattle.h5_model.specs.Tree.Grid.{corner_of, inner_of}
use Rattle.h5_model.specs.Tree.Objects.{Dataset}
use Rattle.h5_model.specs.Tree.Places.{IsInside, cells, index_of, is_inside, place_of}
use Rattle.h5_model.proofs.PlaceLaws.{index-place, inside-index, inside_of, place-index, place_below}
use Rattle.h5_laws.proofs.Lists.{In, in_all, in_map}
use Rattle.h5_laws.proofs.Maps.{get_of_entry}
use Rattle.h5_chunks.specs.Held.{IsChunkPlace, place_entry}
use Rattle.h5_chunks.specs.Keys.{index_from}
use Rattle.h5_chunks.specs.declared.held.ChunkPlace.{ChunkPlace}
use Rattle.h5_layout.specs.Data.{chunk_shape, dataset_told, stored_chunks}
use Rattle.h5_layout.specs.HeldChunks.{chunk_values, held_cells}
use Rattle.h5_layout.specs.Kept.{KeptChunks, chunks_below_root, corner_value, kept_cells, chunks_kept, kept_values, slices_kept, smaller_sizes}
use Rattle.h5_layout.specs.Stored.{IsArray, has_room}
use Rattle.h5_layout.proofs.CellLaws.{map_ranges}

-- ---- which cells are kept

pub below_offset : (i o c k : ℕ) → i < c → nat_lt i (min c (k - o)) ≡ nat_lt (o + i) k
below_offset i o c k low = by_cases (cases_lt (o + i) k) where
  by_cases : (o + i < k) ⊎ (k ≤ o + i) → nat_lt i (min c (k - o)) ≡ nat_lt (o + i) k
  by_cases (inl under) = (let in_both : nat_lt i (min c (k - o)) ≡ true = grind (arith, nat_tests, under, low) in let too : nat_lt (o + i) k ≡ true = grind (arith, nat_tests, under) in in_both ∙ sym too)
  by_cases (inr over) = (let in_none : nat_lt i (min c (k - o)) ≡ false = grind (arith, nat_tests, over) in let too : nat_lt (o + i) k ≡ false = grind (arith, nat_tests, over) in in_none ∙ sym too)

-- those that are inside the kept sizes
slices_inside : (kept chunk offsets inner : List ℕ) → length kept ≡ length chunk → AllZip IsOffset chunk offsets → IsInside chunk inner
    → is_inside (slices_kept kept chunk offsets) inner ≡ is_inside kept (index_from offsets inner)
slices_inside [] [] [] [] same aligned h = refl
slices_inside [] [] [] (i ∷ is) same aligned h = absurd h
slices_inside [] [] (o ∷ os) inner same aligned h = absurd aligned
slices_inside [] (c ∷ cs) offsets inner same aligned h = absurd (omega (arith, same))
slices_inside (k ∷ ks) [] offsets inner same aligned h = absurd (omega (arith, same))
slices_inside (k ∷ ks) (c ∷ cs) [] inner same aligned h = absurd aligned
slices_inside (k ∷ ks) (c ∷ cs) (o ∷ os) [] same aligned h = absurd h
slices_inside (k ∷ ks) (c ∷ cs) (o ∷ os) (i ∷ is) same aligned h =
    ap₂ (λ a b. a && b) (below_offset i o c k h.0) (slices_inside ks cs os is (omega (arith, same)) aligned.1 h.1)

below_both : (i d n : ℕ) → nat_lt i (min d n) ≡ (nat_lt i d && nat_lt i n)
below_both i d n = by_cases (cases_lt i d) (cases_lt i n) where
  by_cases : (i < d) ⊎ (d ≤ i) → (i < n) ⊎ (n ≤ i) → nat_lt i (min d n) ≡ (nat_lt i d && nat_lt i n)
  by_cases (inl a) (inl b) = (let x : nat_lt i d ≡ true = grind (arith, nat_tests, a) in let y : nat_lt i n ≡ true = grind (arith, nat_tests, b) in let z : nat_lt i (min d n) ≡ true = grind (arith, nat_tests, a, b) in z ∙ sym (ap₂ (λ p q. p && q) x y))
  by_cases (inl a) (inr b) = (let x : nat_lt i d ≡ true = grind (arith, nat_tests, a) in let y : nat_lt i n ≡ false = grind (arith, nat_tests, b) in let z : nat_lt i (min d n) ≡ false = grind (arith, nat_tests, b) in z ∙ sym (ap₂ (λ p q. p && q) x y))
  by_cases (inr a) b = (let x : nat_lt i d ≡ false = grind (arith, nat_tests, a) in let z : nat_lt i (min d n) ≡ false = grind (arith, nat_tests, a) in z ∙ sym (ap (λ p. p && nat_lt i n) x))

four : (a b c d : Bool) → ((a && b) && (c && d)) ≡ ((a && c) && (b && d))
four true true c d = refl
four true false true d = refl
four true false false d = refl
four false b c d = refl

-- inside both
pub smaller_inside : (old new index : List ℕ) → length old ≡ length new → is_inside (smaller_sizes old new) index ≡ (is_inside old index && is_inside new index)
smaller_inside [] [] [] same = refl
smaller_inside [] [] (i ∷ is) same = refl
smaller_inside [] (n ∷ ns) index same = absurd (omega (arith, same))
smaller_inside (d ∷ ds) [] index same = absurd (omega (arith, same))
smaller_inside (d ∷ ds) (n ∷ ns) [] same = refl
smaller_inside (d ∷ ds) (n ∷ ns) (i ∷ is) same =
    ap₂ (λ a b. a && b) (below_both i d n) (smaller_inside ds ns is (omega (arith, same)))
    ∙ four (nat_lt i d) (nat_lt i n) (is_inside ds is) (is_inside ns is)

-- ---- a cell of a chunk at aligned offsets

multiple_of : (o c i : ℕ) → IsOffset c o → i < c → (o + i ≡ o / c * c + i) × (o / c * c ≡ o)
multiple_of o c i is low =
    let whole : o / c * c + o % c ≡ o = div-add-mod' o c in
    (omega (arith, whole, is.multiple), omega (arith, whole, is.multiple))

pub corner_back : (chunk offsets inner : List ℕ) → AllZip IsOffset chunk offsets → IsInside chunk inner → corner_of chunk (index_from offsets inner) ≡ offsets
corner_back [] [] inner aligned h = refl
corner_back [] (o ∷ os) inner aligned h = absurd aligned
corner_back (c ∷ cs) [] inner aligned h = absurd aligned
corner_back (c ∷ cs) (o ∷ os) [] aligned h = absurd h
corner_back (c ∷ cs) (o ∷ os) (i ∷ is) aligned h =
    let own = multiple_of o c i aligned.0 h.0 in
    let here : (o + i) / c * c ≡ o = ap (λ n. n / c * c) own.0 ∙ ap (λ n. n * c) (div-mul-add (o / c) c i h.0) ∙ own.1 in
    ap₂ (λ (n : ℕ) (ns : List ℕ). n ∷ ns) here (corner_back cs os is aligned.1 h.1)

inner_back : (chunk offsets inner : List ℕ) → AllZip IsOffset chunk offsets → IsInside chunk inner → inner_of chunk (index_from offsets inner) ≡ inner
inner_back [] [] [] aligned h = refl
inner_back [] [] (i ∷ is) aligned h = absurd h
inner_back [] (o ∷ os) inner aligned h = absurd aligned
inner_back (c ∷ cs) [] inner aligned h = absurd aligned
inner_back (c ∷ cs) (o ∷ os) [] aligned h = absurd h
inner_back (c ∷ cs) (o ∷ os) (i ∷ is) aligned h =
    let own = multiple_of o c i aligned.0 h.0 in
    let here : (o + i) % c ≡ i = ap (λ n. n % c) own.0 ∙ mod-mul-add (o / c) c i h.0 in
    ap₂ (λ (n : ℕ) (ns : List ℕ). n ∷ ns) here (inner_back cs os is aligned.1 h.1)

-- ---- a cell of the array once it has its new sizes

resized_cell : (sizes : List ℕ) (d : Dataset) (index : List ℕ) → cell_or_fill (with_sizes sizes d) index ≡ cond (is_inside sizes index) (cell_or_fill d index) d.fill
resized_cell sizes d index = by_test (is_inside sizes index) refl where
  cell : ℤ
  cell = slice_index_or (map (λ place. cell_or_fill d (index_of sizes place)) (range_with_len 0 (cells sizes))) (place_of sizes index) d.fill

  by_test : (b : Bool) → is_inside sizes index ≡ b → cond b cell d.fill ≡ cond b (cell_or_fill d index) d.fill
  by_test false _ = refl
  by_test true is =
      let inside : IsInside sizes index = inside_of sizes index is in
      get_or-map-range_with_len (λ n. cell_or_fill d (index_of sizes n)) 0 (cells sizes) (place_of sizes index) (place_of sizes index) d.fill (place_below sizes index inside) (omega arith)
      ∙ ap (cell_or_fill d) (index-place sizes index inside)

module _ (image : List ℕ) (a : Described) (chunk : List ℕ) (root : Option ℕ) (laid : a.layout ≡ InChunks chunk root) where
  abbrev stored : Chunks
  stored = stored_chunks image a.fixed a.layout

  abbrev size : ℕ
  size = cells chunk * (a.fixed).size

  -- a cell of the array by its chunk
  pub told_cell : (index : List ℕ) → is_inside a.sizes index ≡ true
      → cell_or_fill (dataset_told image a) index ≡ value_in_chunk image a.fixed a.fill size (place_of chunk (inner_of chunk index)) (get stored (corner_of chunk index))
  told_cell index within =
      let inside : IsInside a.sizes index = inside_of a.sizes index within in
      let place : ℕ = place_of a.sizes index in
      ap (λ b. cond b (slice_index_or (dataset_told image a).cells place a.fill) a.fill) within
      ∙ get_or-map-range_with_len (λ n. cell_of image a.fixed a.fill a.sizes a.layout stored (index_of a.sizes n)) 0 (cells a.sizes) place place a.fill
      (place_below a.sizes index inside) (omega arith)
      ∙ ap (cell_of image a.fixed a.fill a.sizes a.layout stored) (index-place a.sizes index inside)
      ∙ ap (λ (l : Layout). cell_of image a.fixed a.fill a.sizes l stored index) laid

  module _ (sizes : List ℕ) (rank : length a.sizes ≡ length sizes) (ranks : length (smaller_sizes a.sizes sizes) ≡ length chunk) (offsets : List ℕ) (aligned : AllZip IsOffset chunk offsets)
      (at : ℕ) (found : get stored offsets ≡ Some at) where
    abbrev bytes : List ℕ
    bytes = part at size image

    abbrev kept : List ℕ
    kept = smaller_sizes a.sizes sizes

    -- one cell
    value_kept : (place : ℕ) → place < cells chunk
        → corner_value a.fixed a.fill chunk (slices_kept kept chunk offsets) bytes place
        ≡ cell_or_fill (with_sizes sizes (dataset_told image a)) (index_from offsets (index_of chunk place))
    value_kept place low =
        ap (λ b. cond b (value_in a.fixed bytes place) a.fill)
        (slices_inside kept chunk offsets inner ranks aligned inside ∙ smaller_inside a.sizes sizes index rank)
        ∙ by_tests (is_inside a.sizes index) (is_inside sizes index) refl ∙ sym (resized_cell sizes (dataset_told image a) index) where
          inner : List ℕ
          inner = index_of chunk place

          inside : IsInside chunk inner
          inside = inside-index chunk place low

          index : List ℕ
          index = index_from offsets inner

          here : is_inside a.sizes index ≡ true → value_in a.fixed bytes place ≡ cell_or_fill (dataset_told image a) index
          here within =
              let looked : get stored (corner_of chunk index) ≡ Some at = ap (get stored) (corner_back chunk offsets inner aligned inside) ∙ found in
              let where_it_is : place_of chunk (inner_of chunk index) ≡ place = ap (place_of chunk) (inner_back chunk offsets inner aligned inside) ∙ place-index chunk place low in
              sym (told_cell index within ∙ ap₂ (value_in_chunk image a.fixed a.fill size) where_it_is looked)

          by_tests : (x y : Bool) → is_inside a.sizes index ≡ x → cond (x && y) (value_in a.fixed bytes place) a.fill ≡ cond y (cell_or_fill (dataset_told image a) index) a.fill
          by_tests true true within = here within
          by_tests true false _ = refl
          by_tests false false _ = refl
          by_tests false true outside = sym (ap (λ b. cond b (slice_index_or (dataset_told image a).cells (place_of a.sizes index) a.fill) a.fill) outside)

    pub values_kept : table (corner_value a.fixed a.fill chunk (slices_kept kept chunk offsets) bytes) (cells chunk)
        ≡ chunk_values (with_sizes sizes (dataset_told image a)) chunk offsets
    values_kept = map_ranges (corner_value a.fixed a.fill chunk (slices_kept kept chunk offsets) bytes)
        (λ place. cell_or_fill (with_sizes sizes (dataset_told image a)) (index_from offsets (index_of chunk place))) 0 0 (cells chunk)
        (λ j low. let same : 0 + j ≡ j = omega arith in value_kept (0 + j) (omega (arith, low)))

  -- ---- all chunks that hold a cell of the extent

  module _ (sizes : List ℕ) (rank : length a.sizes ≡ length sizes) (ranks : length (smaller_sizes a.sizes sizes) ≡ length chunk) (places : List ChunkPlace)
      (held : map (place_entry (length chunk)) places ≡ entries (retain_keys stored (is_inside sizes)))
      (each : AllByRecursion (IsChunkPlace image (chunk_shape a.fixed chunk)) places) where
    abbrev Entry : Type 0
    Entry = List ℕ × ℕ

    abbrev k : KeptChunks
    k = chunks_kept image a chunk sizes

    abbrev Part : Type 0
    Part = List ℕ × List ℤ

    abbrev handed : List ℕ → Part
    handed offsets = (offsets, chunk_values (with_sizes sizes (dataset_told image a)) chunk offsets)

    -- no other offsets are equal to these
    alike : (offsets other : List ℕ) → slice_cmp nat_cmp offsets other ≡ Equal → is_inside sizes other ≡ is_inside sizes offsets
    alike offsets other equal = ap (is_inside sizes) (sym (slice_cmp-IsAntisymmetric nat_cmp-IsAntisymmetric offsets other equal))

    stored_there : (p : ChunkPlace) → In p places → get stored (offsets_in (length chunk) p.key.now) ≡ Some p.at
    stored_there p there =
        let offsets : List ℕ = offsets_in (length chunk) p.key.now in
        let entry : In (offsets, p.at) (entries (retain_keys stored (is_inside sizes))) = subst (In (offsets, p.at)) held (in_map (place_entry (length chunk)) p places there) in
        by_test (is_inside sizes offsets) (get stored offsets) p.at
        (sym (get-retain_keys stored (is_inside sizes) offsets (alike offsets)) ∙ get_of_entry nat_list_cmp_total (retain_keys stored (is_inside sizes)) offsets p.at entry) where
          by_test : (b : Bool) (found : Option ℕ) (n : ℕ) → cond b found None ≡ Some n → found ≡ Some n
          by_test true found n h = h
          by_test false found n h = absurd (cc)

    stored_kept : (p : ChunkPlace) → In p places
        → kept_values k p ≡ chunk_values (with_sizes sizes (dataset_told image a)) chunk (offsets_in (length chunk) p.key.now)
    stored_kept p there =
        let is = in_all (IsChunkPlace image (chunk_shape a.fixed chunk)) p places each there in
        values_kept sizes rank ranks (offsets_in (length chunk) p.key.now) is.keyed.aligned p.at (stored_there p there)

    same_parts : (ps : List ChunkPlace)
        → ((p : ChunkPlace) → In p ps → kept_values k p ≡ chunk_values (with_sizes sizes (dataset_told image a)) chunk (offsets_in (length chunk) p.key.now))
        → (kept_cells k ps).parts ≡ map handed (map (λ (e : Entry). e.0) (map (place_entry (length chunk)) ps))
    same_parts [] each = refl
    same_parts (p ∷ ps) each =
        ap₂ (λ (x : Part) (xs : List Part). x ∷ xs) (ap (λ (vs : List ℤ). (offsets_in (length chunk) p.key.now, vs)) (each p (inl refl)))
        (same_parts ps (λ q there. each q (inr there)))

    pub kept_is_held : kept_cells k places ≡ held_cells image a chunk sizes
    kept_is_held =
        let parts : (kept_cells k places).parts ≡ (held_cells image a chunk sizes).parts
        = same_parts places stored_kept ∙ ap (λ (es : List Entry). map handed (map (λ (e : Entry). e.0) es)) held in
        λ i. record { fixed = a.fixed; chunk = chunk; parts = parts i }

-- ---- an array in chunks

pub layout_parts : (c d : List ℕ) (r s : Option ℕ) → InChunks c r ≡ InChunks d s → (c ≡ d) × (r ≡ s)
layout_parts c d r s same = (cc, cc)

pub stored_below : (image : List ℕ) (a : Described) (chunk : List ℕ) (root : Option ℕ) → InChunks chunk root ≡ a.layout
    → chunks_below_root image (chunk_shape a.fixed chunk) root ≡ stored_chunks image a.fixed a.layout
stored_below image a chunk root is = by_root root ∙ ap (stored_chunks image a.fixed) is where
  by_root : (r : Option ℕ) → chunks_below_root image (chunk_shape a.fixed chunk) r ≡ stored_chunks image a.fixed (InChunks chunk r)
  by_root None = refl
  by_root (Some r) = refl

-- as many chunk sizes as sizes
pub chunk_rank : (a : Described) (chunk : List ℕ) (root : Option ℕ) → a.layout ≡ InChunks chunk root → IsArray a → length chunk ≡ length a.sizes
chunk_rank a chunk root laid sound =
    let room : (length chunk == length a.sizes) ≡ true = subst (λ (l : Layout). has_room a.sizes (a.fixed).size l ≡ true) laid sound.room in
    grind (arith, nat_tests, room)
