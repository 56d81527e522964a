-- The bytes of a symbol node's entries (File Format Specification 3.0, section III.C): those too that an entry's cached addresses
-- have, of which a link does not speak.
use Rattle.std.specs.Prelude.{ℕ, ◌+◌, ◌*◌, List}
use Rattle.h5_bytes.specs.Bytes.{part}
use Rattle.h5_bytes.specs.Tables.{table}
use Rattle.h5_model.specs.Format.Symbols.{symbols_in}

-- the bytes of entry k
abbrev pub raw_at : List ℕ → ℕ → List ℕ
raw_at bytes k = part (8 + 40 * k) 40 bytes

-- of each entry, in order
abbrev pub raw_entries : List ℕ → List (List ℕ)
raw_entries bytes = table (raw_at bytes) (symbols_in bytes)
