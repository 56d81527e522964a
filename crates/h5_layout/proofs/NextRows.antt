-- The row of a chunk behind the one that was found last, where the next chunk has it.
use Rattle.std.proofs.Common.{◌≡◌, ℕ, IfSome, None, Option, Some, ◌+◌, ◌-◌, ◌*◌, ◌%◌, ◌^◌, ◌<◌, ◌≤◌, List, [], ◌∷◌, length, get_or, min, set, sym, ap, ◌∙◌, subst, arith}
use Rattle.std.specs.Prelude.{option_map}
use Rattle.std.proofs.Math.Nat.{mul-le-mul_right}
use Rattle.std.proofs.lemmas.List.{length-set}
use Rattle.h5_model.specs.Tree.Grid.{corner_of}
use Rattle.h5_model.specs.Tree.Places.{cells, index_of}
use Rattle.h5_model.proofs.PlaceLaws.{positive}
use Rattle.h5_shape.proofs.GridBoxes.{length-index_of}
use Rattle.h5_shape.specs.InBox.{IsCorner}
use Rattle.h5_layout.specs.ChunkCells.{AreBeside, Grid, IsGrid, left_in_row, place_in_chunk}
use Rattle.h5_layout.specs.FoundChunks.{IsFirstCell, IsNumberBeside, corner_beside}
use Rattle.h5_layout.specs.GridKept.{HasNext, IsRowOf, next_cells}
use Rattle.h5_layout.specs.declared.index.FoundRow.{FoundRow}
use Rattle.h5_layout.proofs.BesideLaws.{last-is, last_of, last_rows, left_beside, row_on}
use Rattle.h5_layout.proofs.FoundBeside.{beside_few, beside_next, corner_is}
use Rattle.h5_layout.proofs.GridLaws.{row_room}
use Rattle.h5_layout.proofs.IndexRows.{index_last, index_on, row_inside}
use Rattle.h5_layout.proofs.NextLaws.{length-first, next_corner, next_inner, next_left}

-- no size is above the number of cells
last_small : (sizes : List ℕ) → 0 < length sizes → 0 < cells sizes → get_or sizes (length sizes - 1) 0 ≤ cells sizes
last_small [] long some = absurd (omega arith)
last_small (d ∷ ds) long some =
    let rows : (q : ℕ) × (cells (d ∷ ds) ≡ q * last_of (d ∷ ds)) = last_rows d ds in
    let l : ℕ = last_of (d ∷ ds) in
    let turned : l * rows.0 ≡ rows.0 * l = omega arith in
    let more : 0 < rows.0 = positive 0 l rows.0 (omega (arith, some, rows.1, turned)) in
    let one : 1 * l ≤ rows.0 * l = mul-le-mul_right l more in
    omega (arith, last-is (d ∷ ds) long, rows.1, one)

module _ (g : Grid) (grid : IsGrid g) (row : FoundRow) (of : IsRowOf g row) (below : row.start + row.cells < cells g.sizes)
    (has : HasNext g.sizes g.shape.sizes row) where
  -- where the row behind begins
  abbrev place : ℕ
  place = row.start + row.cells

  abbrev last : ℕ
  last = length g.sizes - 1

  abbrev first : List ℕ
  first = corner_of g.shape.sizes (index_of g.sizes row.start)

  abbrev size : ℕ
  size = get_or g.shape.sizes last 0

  low : row.start < cells g.sizes
  low = omega (arith, below)

  wide : 0 < size
  wide = grid.sizes.some last (omega (arith, grid.rank, has.rank))

  long : length first ≡ length g.sizes
  long = length-first g.sizes g.shape.sizes row.start grid.rank

  some : 0 < cells g.sizes
  some = omega (arith, below)

  begin : row.corner.place < cells g.sizes
  begin = of.first.inside some

  column : row.corner.column ≡ row.corner.place % last_of g.sizes
  column = of.first.column ∙ index_last g.sizes row.corner.place has.rank begin

  in_row : row.corner.place % last_of g.sizes + size < last_of g.sizes
  in_row = omega (arith, column, has.more, last-is g.sizes has.rank)

  end : row.corner.place + size < cells g.sizes
  end = row_inside g.sizes row.corner.place size has.rank begin in_row

  number : get_or first last 0 ≡ row.corner.column
  number = sym (ap (λ (xs : List ℕ). get_or xs last 0) of.corner) ∙ sym of.first.column

  more : get_or first last 0 + size < get_or g.sizes last 0
  more = omega (arith, number, has.more)

  beside_first : set first last (get_or first last 0 + size) ≡ corner_beside g.shape.sizes first 1
  beside_first =
      let here : length first - 1 ≡ last = omega (arith, long) in
      let sum : get_or first last 0 + size ≡ get_or first last 0 + 1 * size = omega arith in
      ap (set first last) sum ∙ ap (λ (n : ℕ). set first n (get_or first n 0 + 1 * get_or g.shape.sizes n 0)) (sym here)

  pub step_corner : index_of g.sizes (row.corner.place + size) ≡ corner_of g.shape.sizes (index_of g.sizes place)
  step_corner =
      index_on g.sizes row.corner.place size has.rank begin in_row
      ∙ ap (λ (xs : List ℕ). set xs last (get_or xs last 0 + size)) of.corner
      ∙ beside_first
      ∙ sym (next_corner g.sizes g.shape.sizes row.start row.cells grid.rank has.rank wide low (of.all has.rank) more)

  pub step_first : IsFirstCell g.sizes g.shape.sizes (record { place = row.corner.place + size; column = row.corner.column + size })
  step_first = record {
    inside = λ _. end;
    is = subst (IsCorner g.shape.sizes) (sym step_corner)
        (corner_is g.shape.sizes (index_of g.sizes place) grid.sizes.some (length-index_of g.sizes place ∙ sym grid.rank));
    column = omega (arith, column, (row_on row.corner.place size (last_of g.sizes) in_row).1, index_last g.sizes (row.corner.place + size) has.rank end);
  }

  on : place_in_chunk g place + size ≡ row.inner + row.cells
  on =
      omega (arith, of.inner, next_inner g.sizes g.shape.sizes row.start row.cells grid.rank has.rank wide low (of.all has.rank) more)

  pub step_inner : row.inner + row.cells - size ≡ place_in_chunk g place
  step_inner = omega (arith, on)

  pub step_back : size ≤ row.inner + row.cells
  step_back = omega (arith, on)

  pub step_room : row.inner + row.cells < 2 ^ 64
  step_room = omega (arith, row_room g row.start row.cells row.inner grid of.beside has.some of.inner, grid.small)

  pub step_small : row.corner.place + size < 2 ^ 64
  step_small = omega (arith, end, grid.few)

  pub step_column : row.corner.column + size < 2 ^ 64
  step_column = omega (arith, has.more, last_small g.sizes has.rank some, grid.few)

  pub step_left : (n : ℕ) → n ≡ next_cells g.sizes g.shape.sizes row → n ≡ left_in_row g.sizes g.shape.sizes place
  step_left n is =
      is ∙ ap (λ (m : ℕ). min size (get_or g.sizes last 0 - (m + size))) (sym number)
      ∙ sym (next_left g.sizes g.shape.sizes row.start row.cells grid.rank has.rank wide low (of.all has.rank) more)

  pub step_beside : (n : ℕ) → n ≡ left_in_row g.sizes g.shape.sizes place → AreBeside g.sizes g.shape.sizes place n
  step_beside n is = left_beside g.sizes g.shape.sizes place grid.rank grid.sizes.some below has.rank n is

  -- the number of the chunk, among those that were found beside one another
  first_long : (chunks_first : List ℕ) (n : ℕ) → index_of g.sizes row.corner.place ≡ corner_beside g.shape.sizes chunks_first n → length chunks_first ≡ last + 1
  first_long ff n same =
      let end : ℕ = length ff - 1 in
      omega (arith, ap length same, length-index_of g.sizes row.corner.place, has.rank, length-set ff end (get_or ff end 0 + n * get_or g.shape.sizes end 0))

  pub step_count : (from : List ℕ) (chunks : Option ℕ) → IsNumberBeside g.shape.sizes from (index_of g.sizes row.corner.place) chunks → IfSome chunks (λ n. n + 1 < 2 ^ 64)
  step_count from None is = tt
  step_count from (Some n) is =
      let few = beside_few g.shape.sizes from n last (first_long from n is) wide in
      omega (arith, few, of.first.column, ap (λ (xs : List ℕ). get_or xs last 0) is, step_column, wide)

  pub step_number : (from : List ℕ) (chunks : Option ℕ) → IsNumberBeside g.shape.sizes from (index_of g.sizes row.corner.place) chunks
      → IsNumberBeside g.shape.sizes from (index_of g.sizes (row.corner.place + size)) (option_map (λ n. n + 1) chunks)
  step_number from None is = tt
  step_number from (Some n) is =
      step_corner
      ∙ next_corner g.sizes g.shape.sizes row.start row.cells grid.rank has.rank wide low (of.all has.rank) more
      ∙ ap (λ (xs : List ℕ). corner_beside g.shape.sizes xs 1) (sym of.corner ∙ is)
      ∙ beside_next g.shape.sizes from n (omega (arith, first_long from n is))
