-- Cells that are to come, by the runs of their places (HDF5 dataspace reference, H5Sselect_hyperslab).
use Rattle.std.specs.Prelude.{◌≡◌, ℕ, ◌+◌, ◌*◌, ◌<◌, ◌≤◌, Option, Some, None, List, [], ◌++◌, map, length, slice_index, slice_index_or}
use Rattle.std.specs.List.{AllByRecursion, range_with_len}
use Rattle.h5_shape.specs.declared.runs.CellRun.{CellRun}
use Rattle.h5_shape.specs.Runs.{places_in}
use Rattle.h5_model.specs.Format.Cells.{value_in}
use Rattle.h5_model.specs.Format.Fixed.{Fixed}
use Rattle.h5_model.specs.Scripts.Answers.{stored_values}
use Rattle.h5_layout.specs.declared.pieces.Piece.{Piece}
use Rattle.h5_layout.specs.declared.pieces.Piece.TheVariants.{Bytes, Fill}
use Rattle.h5_layout.specs.Pieces.{CellsLeft, IsPiece, piece_values}

-- the runs that follow, if any do
abbrev pub runs_behind : Option (List CellRun) → List CellRun
runs_behind None = []
runs_behind (Some runs) = runs

-- the places of a run, and of those that follow
abbrev pub places_left : CellRun → Option (List CellRun) → List ℕ
places_left run runs = range_with_len run.place run.length ++ places_in (runs_behind runs)

-- the cells at these places
abbrev pub cells_left : CellsLeft → List ℕ → CellsLeft
cells_left all places = record {
  fixed = all.fixed;
  fill = all.fill;
  values = map (λ place. slice_index_or all.values place all.fill) places;
}

-- all places are below so many; of the runs that follow none is empty
pub record AreRunsBelow (n : ℕ) (run : CellRun) (runs : Option (List CellRun)) : Type 0 where
  pub first : run.place + run.length ≤ n
  pub others : AllByRecursion (λ (r : CellRun). (0 < r.length) × (r.place + r.length ≤ n)) (runs_behind runs)

-- the piece has so many cells from this place on, at least one and at most so many
pub record IsPieceAt (all : CellsLeft) (place most : ℕ) (piece : Piece) (n : ℕ) : Type 0 where
  pub some : 0 < n
  pub few : n ≤ most
  pub whole : IsPiece all.fixed piece
  pub values : piece_values all.fixed all.fill piece ≡ (cells_left all (range_with_len place n)).values

-- these are the bytes of so many cells from a place on, which stand one behind the other in others
abbrev pub AreCellBytes : Fixed → List ℕ → ℕ → ℕ → List ℕ → Type 0
AreCellBytes t bytes place n cells =
    (length cells ≡ n * t.size) × (stored_values t cells ≡ map (value_in t bytes) (range_with_len place n))

-- the piece has them
abbrev pub IsWholePiece : Fixed → List ℕ → ℕ → ℕ → Piece → Type 0
IsWholePiece t bytes place n (Bytes cells) = AreCellBytes t bytes place n cells.now
IsWholePiece t bytes place n (Fill cells) = ⊥

-- what stands in a piece are bytes
abbrev pub HasBytes : Piece → Type 0
HasBytes (Bytes cells) = (i : ℕ) → slice_index cells.now i < 256
HasBytes (Fill cells) = Unit {0}
