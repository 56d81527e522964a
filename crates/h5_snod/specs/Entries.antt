-- What a symbol table entry says of a link (File Format Specification 3.0, section III.C).
use Rattle.std.specs.Prelude.{◌==◌, if◌then◌else◌}
use Rattle.h5_model.specs.Format.Symbols.{Entry}
use Rattle.h5_snod.specs.declared.entry.SymbolEntry.{SymbolEntry}
use Rattle.h5_snod.specs.declared.entry.SymbolTarget.{SymbolTarget}
use Rattle.h5_snod.specs.declared.entry.SymbolTarget.TheVariants.{Header, Text}

-- what an entry of cache type 2 names is a text, what others name is a header
abbrev pub target_from : Entry → SymbolTarget
target_from e = if e.cache == 2 then Text e.text else Header e.header

abbrev pub symbol_from : Entry → SymbolEntry
symbol_from e = record { name = e.name; target = target_from e }
