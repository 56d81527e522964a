-- The header of an object that is to be made, by the bytes that it will have (File Format Specification 3.0, section IV.A.1.a).
use Rattle.std.specs.Prelude.{◌≡◌, ℕ, List, [], ◌∷◌, length}
use Rattle.h5_bytes.specs.Bytes.{part}
use Rattle.h5_bytes.specs.Blocks.{block}
use Rattle.h5_model.specs.Format.Messages.{Message, HasMessages}

-- wherever these bytes stand at this address, there is a header with these messages, in one block
abbrev pub IsHeaderBytes : List ℕ → ℕ → List Message → Type 0
IsHeaderBytes bytes at ms = (image : List ℕ) → part at (length bytes) image ≡ bytes → HasMessages image at ms (block at (length bytes) ∷ [])
