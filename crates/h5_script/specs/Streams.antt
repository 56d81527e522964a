-- What one read does to the bytes of a reader.
use Rattle.std.specs.Prelude.{◌≡◌, ℕ, ◌≤◌, Option, List, length, take}
use Rattle.std.specs.Io.KnownBytes.{Consumes, IsAtEnd}

-- so many bytes at the front of the piece were read, none only at the end
pub record IsRead (input left : Option (List ℕ)) (piece : List ℕ) (count : ℕ) : Type 0 where
  pub within : count ≤ length piece
  pub read : Consumes input left (take count piece)
  pub ended : count ≡ 0 → IsAtEnd left
