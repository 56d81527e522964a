-- Two keys between which a chunk lies (File Format Specification 3.0, section III.A.1).
use Rattle.std.specs.Prelude.{ℕ, List}
use Rattle.h5_laws.specs.Ladders.{Sides}
use Rattle.h5_laws.specs.ChunkLadders.{chunk_sides}

-- a chunk of so many dimensions at these offsets, wherever its bytes are, is at or above one key and below the other
abbrev pub IsChunkHeld : ℕ → List ℕ → List ℕ → List ℕ → Type 0
IsChunkHeld rank low high offsets =
    let sides : Sides (List ℕ) (List ℕ × ℕ) = chunk_sides rank in
    sides.Right low (offsets, 0) × sides.Left (offsets, 0) high

-- the offsets of a chunk
abbrev pub offsets_of : List ℕ × ℕ → List ℕ
offsets_of chunk = chunk.0
