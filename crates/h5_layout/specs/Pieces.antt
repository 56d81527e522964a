-- The selected cells of an array in pieces, as they stand in the image (HDF5 dataspace reference, H5Sselect_hyperslab; File Format
-- Specification 3.0, section IV.A.2.i).
use Rattle.std.specs.Prelude.{◌≡◌, ℕ, ◌*◌, ◌<◌, ℤ, Option, Some, None, List, [], ◌++◌, length, replicate}
use Rattle.h5_model.specs.Format.Fixed.{Fixed}
use Rattle.h5_model.specs.Scripts.Answers.{stored_values}
use Rattle.h5_layout.specs.declared.pieces.Piece.{Piece}
use Rattle.h5_layout.specs.declared.pieces.Piece.TheVariants.{Bytes, Fill}

-- the values of cells that are to come, of this type, where cells that are not stored read the fill
pub record CellsLeft : Type 0 where
  pub fixed : Fixed
  pub fill : ℤ
  pub values : List ℤ

-- the values of a piece: of the cells that stand in its bytes, or the fill for each of so many
abbrev pub piece_values : Fixed → ℤ → Piece → List ℤ
piece_values t fill (Bytes bytes) = stored_values t bytes.now
piece_values t fill (Fill cells) = replicate cells fill

-- whole cells, and at least one
abbrev pub IsPiece : Fixed → Piece → Type 0
IsPiece t (Bytes bytes) = (n : ℕ) × (0 < n) × (length bytes.now ≡ n * t.size)
IsPiece t (Fill cells) = 0 < cells

-- the piece has the first of these values, and the others are left
pub record IsPieceTaken (before : CellsLeft) (piece : Piece) (after : CellsLeft) : Type 0 where
  pub fixed : after.fixed ≡ before.fixed
  pub fill : after.fill ≡ before.fill
  pub some : IsPiece before.fixed piece
  pub values : before.values ≡ piece_values before.fixed before.fill piece ++ after.values

-- a step gives the next piece, or nothing where no value is left
abbrev pub GivesPiece : CellsLeft → Option Piece → CellsLeft → Type 0
GivesPiece before None after = (before.values ≡ []) × (after ≡ before)
GivesPiece before (Some piece) after = IsPieceTaken before piece after
