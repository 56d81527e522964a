-- Numbers as little-endian bytes, and zeros.
use Rattle.std.specs.Prelude.{ℕ, List, replicate}
use Rattle.h5_bytes.specs.Bytes.{little_bytes}

abbrev pub zeros : ℕ → List ℕ
zeros n = replicate n 0

-- a number in two, four and eight bytes
abbrev pub short : ℕ → List ℕ
short n = little_bytes 2 n

abbrev pub middle : ℕ → List ℕ
middle n = little_bytes 4 n

abbrev pub word : ℕ → List ℕ
word n = little_bytes 8 n
