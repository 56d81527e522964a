-- Symbol nodes as they are written (File Format Specification 3.0, sections III.B and III.C).
use Rattle.std.specs.Prelude.{ℕ, ◌^◌, ◌<◌, List, ◌∷◌, ◌++◌, length}
use Rattle.std.specs.List.{flat_map}
use Rattle.h5_bytes.specs.Bytes.{number_at, undefined_address}
use Rattle.h5_model.specs.Format.Symbols.{Entry, symbol_signature}
use Rattle.h5_bytes.specs.Numbers.{short, middle, word, zeros}
use Rattle.h5_model.specs.Format.Plain.{with_zeros}
use Rattle.h5_snod.specs.declared.write.NewSymbol.{NewSymbol}
use Rattle.h5_snod.specs.declared.write.NewTarget.{NewTarget}
use Rattle.h5_snod.specs.declared.write.NewTarget.TheVariants.{Dataset, Group, Text}

-- the address of the object header, or the undefined one
abbrev pub header_to : NewTarget → ℕ
header_to (Dataset header) = header
header_to (Group header tree heap) = header
header_to (Text offset) = undefined_address

-- the cache type: nothing, a group's tree and heap, or a soft link's text
abbrev pub cache_to : NewTarget → ℕ
cache_to (Dataset header) = 0
cache_to (Group header tree heap) = 1
cache_to (Text offset) = 2

-- the scratch of 16 bytes
abbrev pub scratch_to : NewTarget → List ℕ
scratch_to (Dataset header) = zeros 16
scratch_to (Group header tree heap) = word tree ++ word heap
scratch_to (Text offset) = middle offset ++ zeros 12

-- the entry's bytes, and what they are read as
abbrev pub new_bytes : NewSymbol → List ℕ
new_bytes s = word s.name ++ (word (header_to s.target) ++ (middle (cache_to s.target) ++ (zeros 4 ++ scratch_to s.target)))

abbrev pub entry_from : NewSymbol → Entry
entry_from s = record {
  name = s.name;
  header = header_to s.target;
  cache = cache_to s.target;
  text = number_at (scratch_to s.target) 0 4;
}

-- an entry's numbers fit their fields
pub record IsSmall (s : NewSymbol) : Type 0 where
  pub name : s.name < 2 ^ 64
  pub header : header_to s.target < 2 ^ 64

-- signature, version 1 and how many entries there are
abbrev pub head_bytes : ℕ → List ℕ
head_bytes count = symbol_signature ++ (1 ∷ 0 ∷ short count)

-- the same, the entries, and zeros, so many bytes in all
abbrev pub symbol_node_bytes : List NewSymbol → ℕ → List ℕ
symbol_node_bytes symbols n = with_zeros (head_bytes (length symbols) ++ flat_map new_bytes symbols) n
