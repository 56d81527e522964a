-- The cells of an array are read back from its chunks in the plain layout (File Format Specification 3.0, sections III.A.1 and
-- IV.A.2.i).
use Rattle.std.proofs.Common.{◌≡◌, ℕ, ◌*◌, ◌%◌, ◌<◌, ◌≤◌, ℤ, List, [], ◌∷◌, length, get_or, refl, sym, ap, ◌∙◌, arith, false, Option, Some, None}
use Rattle.std.proofs.lemmas.Bool.{or_parts}
use Rattle.std.proofs.lemmas.Bool.Decides.{nat_tests}
use Rattle.std.proofs.lemmas.List.FromFn.{fill_by_all, length-map-range_with_len, get_or-map-range_with_len}
use Rattle.std.proofs.lemmas.Nat.{div-add-mod'}
use Rattle.std.specs.Prelude.{◌==◌}
use Rattle.std.specs.FinMap.{get}
use Rattle.std.specs.List.{list_any, range_with_len}
use Rattle.h5_bytes.specs.Bytes.{part}
use Rattle.h5_model.specs.Edits.Applied.{cell_or_fill}
use Rattle.h5_model.specs.Format.Cells.{cells_of, value_in, value_in_chunk}
use Rattle.h5_model.specs.Format.Chunks.{Chunks}
use Rattle.h5_model.specs.Format.Layout.{InChunks}
use Rattle.h5_model.specs.Scripts.Reading.{cell_at}
use Rattle.h5_model.specs.Tree.Grid.{corner_of, inner_of}
use Rattle.h5_model.specs.Tree.Objects.{Dataset}
use Rattle.h5_model.specs.Tree.Places.{cells, index_of, place_of, IsInside}
use Rattle.h5_model.specs.Tree.Sound.{AreOf, IsDataset}
use Rattle.h5_model.proofs.PlaceLaws.{place-index, inside-index, place_below, index-place, is_inside_from}
use Rattle.h5_model.proofs.PlainValues.{value_at-cells_bytes}
use Rattle.h5_model.proofs.EditLaws.{AreOf-cell}
use Rattle.h5_model.proofs.StoredValues.{AreOf-map}
use Rattle.h5_chunks.specs.Keys.{index_from}
use Rattle.h5_layout.specs.HeldChunks.{chunk_values}
use Rattle.h5_repack.specs.Bodies.Chunks.{chunk_data}

-- ---- an index is that of its chunk, and that inside it

pub index_joined : (chunk index : List ℕ) → length index ≡ length chunk → index_from (corner_of chunk index) (inner_of chunk index) ≡ index
index_joined [] [] same = refl
index_joined [] (i ∷ is) same = absurd (omega (arith, same))
index_joined (c ∷ cs) [] same = absurd (omega (arith, same))
index_joined (c ∷ cs) (i ∷ is) same =
    (λ k. div-add-mod' i c k ∷ index_joined cs is (omega (arith, same)) k)

-- the index inside is inside the chunk
pub inner_in_chunk : (chunk index : List ℕ) → length index ≡ length chunk → list_any (λ n. n == 0) chunk ≡ false → IsInside chunk (inner_of chunk index)
inner_in_chunk [] [] same some = tt
inner_in_chunk [] (i ∷ is) same some = absurd (omega (arith, same))
inner_in_chunk (c ∷ cs) [] same some = absurd (omega (arith, same))
inner_in_chunk (c ∷ cs) (i ∷ is) same some =
    let own : (c == 0) ≡ false = (or_parts (c == 0) (list_any (λ n. n == 0) cs) some).0 in
    let any : 0 < c = grind (arith, nat_tests) in
    let low : i % c < c = omega (arith, any) in
    (low, inner_in_chunk cs is (omega (arith, same)) (or_parts (c == 0) (list_any (λ n. n == 0) cs) some).1)

-- ---- the value of a cell

pub long_index : (sizes index : List ℕ) → IsInside sizes index → length index ≡ length sizes
long_index [] [] h = refl
long_index [] (i ∷ is) h = absurd h
long_index (d ∷ ds) [] h = absurd h
long_index (d ∷ ds) (i ∷ is) h = omega (arith, long_index ds is h.1)

cell_inside : (d : Dataset) (index : List ℕ) → IsInside d.sizes index → cell_or_fill d index ≡ cell_at d index
cell_inside d index inside = rw (is_inside_from d.sizes index inside) refl

-- ---- a chunk

module _ (d : Dataset) (chunk : List ℕ) (sound : IsDataset d) (some : list_any (λ n. n == 0) chunk ≡ false) (same : length chunk ≡ length d.sizes)
    (size : 1 ≤ (d.fixed).size) where
  module _ (offsets : List ℕ) where
    abbrev value : ℕ → ℤ
    value place = cell_or_fill d (index_from offsets (index_of chunk place))

    pub of_type : AreOf d.fixed (chunk_values d chunk offsets)
    of_type = AreOf-map d.fixed value (λ place. AreOf-cell d sound (index_from offsets (index_of chunk place))) (range_with_len 0 (cells chunk))

    pub length-values : length (chunk_values d chunk offsets) ≡ cells chunk
    length-values = length-map-range_with_len value 0 (cells chunk)

    value_there : (place : ℕ) → place < cells chunk → value_in d.fixed (chunk_data d chunk offsets) place ≡ value place
    value_there place low =
        value_at-cells_bytes d.fixed (chunk_values d chunk offsets) place d.fill size of_type (omega (arith, low, length-values))
        ∙ get_or-map-range_with_len value 0 (cells chunk) place place d.fill low (omega arith)

  module _ (index : List ℕ) (inside : IsInside d.sizes index) where
    abbrev corner : List ℕ
    corner = corner_of chunk index

    abbrev inner : List ℕ
    inner = inner_of chunk index

    long : length index ≡ length chunk
    long = long_index d.sizes index inside ∙ sym same

    inner_inside : IsInside chunk inner
    inner_inside = inner_in_chunk chunk index long some

    -- the cell is read from its chunk
    pub cell_there : value_in d.fixed (chunk_data d chunk corner) (place_of chunk inner) ≡ cell_at d index
    cell_there =
        value_there corner (place_of chunk inner) (place_below chunk inner inner_inside)
        ∙ ap (λ (is : List ℕ). cell_or_fill d (index_from corner is)) (index-place chunk inner inner_inside)
        ∙ ap (cell_or_fill d) (index_joined chunk index long) ∙ cell_inside d index inside

    -- in an image where the chunk stands, if it is stored, and in which it reads the fill, if not
    module _ (image : List ℕ) (chunks : Chunks)
        (there : (at : ℕ) → get chunks corner ≡ Some at → part at (cells chunk * (d.fixed).size) image ≡ chunk_data d chunk corner)
        (unset : get chunks corner ≡ None → cell_at d index ≡ d.fill) where
      abbrev read : Option ℕ → ℤ
      read found = value_in_chunk image d.fixed d.fill (cells chunk * (d.fixed).size) (place_of chunk inner) found

      pub cell_read : cell_at d index ≡ read (get chunks corner)
      cell_read = by_found (get chunks corner) refl where
        by_found : (found : Option ℕ) → get chunks corner ≡ found → cell_at d index ≡ read found
        by_found None is = unset is
        by_found (Some at) is = sym (ap (λ bytes. value_in d.fixed bytes (place_of chunk inner)) (there at is) ∙ cell_there)

-- ---- all cells

-- The stored chunks have the array's cells, and each cell in no stored chunk is the fill.
pub record AreCellsStored (image : List ℕ) (d : Dataset) (chunk : List ℕ) (chunks : Chunks) : Type 0 where
  pub there : (offsets : List ℕ) (at : ℕ) → get chunks offsets ≡ Some at → part at (cells chunk * (d.fixed).size) image ≡ chunk_data d chunk offsets
  pub unset : (index : List ℕ) → IsInside d.sizes index → get chunks (corner_of chunk index) ≡ None → cell_at d index ≡ d.fill

pub chunks_cells : (image : List ℕ) (d : Dataset) (chunk : List ℕ) (root : Option ℕ) (chunks : Chunks) → IsDataset d → list_any (λ n. n == 0) chunk ≡ false → length chunk ≡ length d.sizes
    → 1 ≤ (d.fixed).size → AreCellsStored image d chunk chunks → d.cells ≡ cells_of image d.fixed d.fill d.sizes (InChunks chunk root) chunks
chunks_cells image d chunk root chunks sound some same size are =
    fill_by_all (λ place. value_in_chunk image d.fixed d.fill (cells chunk * (d.fixed).size) (place_of chunk (inner_of chunk (index_of d.sizes place))) (get chunks (corner_of chunk (index_of d.sizes place))))
    d.cells (cells d.sizes) d.fill sound.counted (λ place low.
    let index : List ℕ = index_of d.sizes place in
    let inside : IsInside d.sizes index = inside-index d.sizes place low in
    let here : get_or d.cells place d.fill ≡ cell_at d index = ap (λ k. get_or d.cells k d.fill) (sym (place-index d.sizes place low)) in
    here ∙ cell_read d chunk sound some same size index inside image chunks (λ at is. are.there (corner_of chunk index) at is) (are.unset index inside))
