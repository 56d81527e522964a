-- The cells of an array by where they stand: nowhere, one behind another, or in chunks (File Format Specification 3.0, section
-- IV.A.2.i).
use Rattle.std.specs.Prelude.{◌≡◌, ℕ, ◌*◌, ◌≤◌, ℤ, length}
use Rattle.h5_bytes.specs.Tables.{table}
use Rattle.h5_model.specs.Format.Cells.{value_in}
use Rattle.h5_model.specs.Format.Fixed.{Fixed}
use Rattle.h5_model.specs.Tree.Places.{cells}
use Rattle.h5_layout.specs.ChunkCells.{value_in_grid}
use Rattle.h5_layout.specs.Pieces.{CellsLeft}
use Rattle.h5_layout.specs.declared.cells.CellData.{CellData}
use Rattle.h5_layout.specs.declared.cells.CellData.TheVariants.{Filled, InLine, InChunks}

-- the value of the cell at a place
abbrev pub value_of_cell : Fixed → ℤ → CellData → ℕ → ℤ
value_of_cell t fill Filled place = fill
value_of_cell t fill (InLine bytes) place = value_in t bytes.now place
value_of_cell t fill (InChunks grid) place = value_in_grid t fill grid place

-- there are so many cells
abbrev pub HasCellRoom : Fixed → ℕ → CellData → Type 0
HasCellRoom t n Filled = Unit {0}
HasCellRoom t n (InLine bytes) = n * t.size ≤ length bytes.now
HasCellRoom t n (InChunks grid) = (cells grid.sizes ≡ n) × (grid.shape.bytes ≡ cells grid.shape.sizes * t.size)

-- all of them, in row-major order
abbrev pub all_cells : Fixed → ℤ → ℕ → CellData → CellsLeft
all_cells t fill n held = record { fixed = t; fill = fill; values = table (value_of_cell t fill held) n }
