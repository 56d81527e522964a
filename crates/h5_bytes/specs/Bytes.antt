-- Bytes of an image, which is the list of its bytes: parts of it, and the numbers that stand in them. All numbers are
-- little-endian (File Format Specification 3.0, section I.B).
use Rattle.std.specs.Prelude.{ℕ, ◌+◌, ◌-◌, ◌^◌, List, ◌++◌, length, take, drop, slice_index, Option, Some, None, if◌then◌else◌, nat_le}
use Rattle.byteorder.specs.Endian.{little_from}
pub use Rattle.byteorder.specs.Endian.{little_bytes}

-- the byte at a place
abbrev pub byte_at : List ℕ → ℕ → ℕ
byte_at bytes at = slice_index bytes at

-- the len bytes from place at
unfoldable pub part : ℕ → ℕ → List ℕ → List ℕ
part at len bytes = take len (drop at bytes)

-- the bytes with those from place at replaced; there are as many as before
unfoldable pub with_part : ℕ → List ℕ → List ℕ → List ℕ
with_part at new bytes = take (length bytes) (take at bytes ++ (new ++ drop (at + length new) bytes))

-- the number in the size bytes from place at, the lowest byte first
unfoldable pub number_at : List ℕ → ℕ → ℕ → ℕ
number_at bytes at size = little_from at size bytes

-- the same, or None where the field passes the end
abbrev pub field : List ℕ → ℕ → ℕ → Option ℕ
field bytes at size = if nat_le (at + size) (length bytes) then Some (number_at bytes at size) else None

-- the bytes with the number x in the size bytes from place at
abbrev pub with_field : List ℕ → ℕ → ℕ → ℕ → List ℕ
with_field bytes at size x = with_part at (little_bytes size x) bytes

-- the undefined address: eight bytes of ones
abbrev pub undefined_address : ℕ
undefined_address = 2 ^ 64 - 1
