-- Cells that stand one behind another in a row of a chunk, from one of them on.
use Rattle.std.proofs.Common.{◌≡◌, ℕ, ◌+◌, ◌-◌, ◌^◌, ◌<◌, ◌≤◌, IfSome, List, length, sym, ap, ◌∙◌, arith}
use Rattle.std.specs.FinMap.{get}
use Rattle.h5_model.specs.Tree.Grid.{corner_of, inner_of}
use Rattle.h5_model.specs.Tree.Places.{cells, index_of, place_of}
use Rattle.h5_chunks.specs.Told.{chunks_told}
use Rattle.h5_layout.specs.ChunkCells.{AreBeside, Grid, IsGrid, chunk_of, place_in_chunk}
use Rattle.h5_layout.specs.GridKept.{IsChunkRow, IsFoundIn, IsGridKept, IsRowOf, no_row, no_chunk_found}
use Rattle.h5_layout.specs.declared.beside.RowCursor.{RowCursor}
use Rattle.h5_layout.specs.declared.index.FoundRow.{FoundRow}
use Rattle.h5_layout.proofs.FoundBeside.{none_beside}
use Rattle.h5_layout.proofs.GridLaws.{found_inside, row_room}

module _ (g : Grid) (row : FoundRow) (is : IsRowOf g row) (place : ℕ) (since : row.start ≤ place) (until : place < row.start + row.cells) where
  abbrev on : ℕ
  on = place - row.start

  there : (j : ℕ) → place + j ≡ row.start + (on + j)
  there j = omega arith

  here : place ≡ row.start + on
  here = omega arith

  low : on < row.cells
  low = omega arith

  corner : corner_of g.shape.sizes (index_of g.sizes place) ≡ corner_of g.shape.sizes (index_of g.sizes row.start)
  corner = ap (λ (p : ℕ). corner_of g.shape.sizes (index_of g.sizes p)) here ∙ is.beside.corner on low

  inner : place_of g.shape.sizes (inner_of g.shape.sizes (index_of g.sizes place)) ≡ place_of g.shape.sizes (inner_of g.shape.sizes (index_of g.sizes row.start)) + on
  inner = ap (λ (p : ℕ). place_of g.shape.sizes (inner_of g.shape.sizes (index_of g.sizes p))) here ∙ is.beside.inner on low

  left_beside : AreBeside g.sizes g.shape.sizes place (row.cells - on)
  left_beside = record {
    corner = λ j few. ap (λ (p : ℕ). corner_of g.shape.sizes (index_of g.sizes p)) (there j) ∙ is.beside.corner (on + j) (omega (arith, few)) ∙ sym corner;
    inner = λ j few.
        let moved = ap (λ (p : ℕ). place_of g.shape.sizes (inner_of g.shape.sizes (index_of g.sizes p))) (there j) ∙ is.beside.inner (on + j) (omega (arith, few)) in
        omega (arith, moved, inner);
  }

  left_inner : row.inner + on ≡ place_in_chunk g place
  left_inner = omega (arith, is.inner, inner)

  left_at : row.at ≡ chunk_of g place
  left_at = is.at ∙ ap (get (chunks_told g.image g.shape g.root)) (sym corner)

  module _ (grid : IsGrid g) where
    left_room : (row.inner + on) + (row.cells - on) ≤ cells g.shape.sizes
    left_room = row_room g place (row.cells - on) (row.inner + on) grid left_beside (omega (arith, low)) left_inner

    left_inside : IfSome row.at (λ at. at + g.shape.bytes ≤ length g.image)
    left_inside = found_inside g.image g.shape g.root grid.stored (corner_of g.shape.sizes (index_of g.sizes place)) row.at left_at

    pub left_row : IsChunkRow g place (record { at = row.at; place = row.inner + on; cells = row.cells - on })
    left_row = record {
      some = omega (arith, low);
      beside = left_beside;
      inner = left_inner;
      room = left_room;
      at = left_at;
      inside = left_inside;
    }

  pub left_low : IsGrid g → row.inner + on < 2 ^ 64
  left_low grid = omega (arith, left_room grid, grid.small)

-- once the row of a place was found
pub row_found : (g : Grid) (cursor : RowCursor) (row : FoundRow) (place : ℕ) → IsFoundIn g cursor row → row.start ≤ place → place < row.start + row.cells → IsRowOf g row
row_found g cursor row place found since until = found.row (omega (arith, since, until))

-- before anything was found
pub kept_new : (image sizes chunk : List ℕ) (bytes root : ℕ)
    → IsGrid (record { image = image; sizes = sizes; shape = record { sizes = chunk; bytes = bytes }; root = root })
    → IsGridKept image (record { sizes = sizes; shape = record { sizes = chunk; bytes = bytes }; root = root; cursor = no_chunk_found; row = no_row })
kept_new image sizes chunk bytes root grid = record {
  grid = grid;
  cursor = tt;
  beside = none_beside (chunks_told image (record { sizes = chunk; bytes = bytes }) root) sizes chunk grid.rank grid.sizes.some;
  row = λ some. absurd (omega (arith, some));
  number = tt;
}
