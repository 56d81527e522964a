-- Rules that the bytes of a symbol node break (File Format Specification 3.0, sections III.B and III.C).
use Rattle.std.specs.Prelude.{◌≢◌, ℕ, ◌+◌, ◌*◌, ◌<◌, ◌⊎◌, List}
use Rattle.h5_bytes.specs.Bytes.{byte_at, part}
use Rattle.h5_model.specs.Format.Symbols.{entry_of, symbol_signature, symbols_in}

-- the cache type of entry i
abbrev pub cache_at : List ℕ → ℕ → ℕ
cache_at bytes i = (entry_of (part (8 + 40 * i) 40 bytes)).cache

-- another signature, another version, more entries than there is room for, or an entry of another cache type than the three
abbrev pub BreaksSymbolNodeForm : ℕ → List ℕ → Type 0
BreaksSymbolNodeForm leaf bytes =
    (part 0 4 bytes ≢ symbol_signature) ⊎ ((byte_at bytes 4 ≢ 1)
    ⊎ ((2 * leaf < symbols_in bytes) ⊎ ((i : ℕ) × (i < symbols_in bytes) × (2 < cache_at bytes i))))
