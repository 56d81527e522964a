-- Symbol nodes (File Format Specification 3.0, section III.B) and their symbol table entries (section III.C).
use Rattle.std.specs.Prelude.{◌≡◌, ℕ, ◌+◌, ◌*◌, ◌≤◌, ◌==◌, if◌then◌else◌, List, [], ◌∷◌}
use Rattle.h5_bytes.specs.Bytes.{number_at, byte_at, part}
use Rattle.h5_bytes.specs.Texts.{text_at}
use Rattle.h5_bytes.specs.Blocks.{block}
use Rattle.h5_bytes.specs.declared.Block.{Block}
use Rattle.h5_bytes.specs.Tables.{table}
use Rattle.h5_model.specs.Format.Rows.{only}

abbrev pub symbol_signature : List ℕ
symbol_signature = 83 ∷ 78 ∷ 79 ∷ 68 ∷ []

-- a symbol table entry: the offset of its name, its object's header, its cache type, and the offset in its scratch
pub record Entry : Type 0 where
  pub name : ℕ
  pub header : ℕ
  pub cache : ℕ
  pub text : ℕ

-- what the 40 bytes of an entry say
unfoldable pub entry_of : List ℕ → Entry
entry_of bytes = record {
  name = number_at bytes 0 8;
  header = number_at bytes 8 8;
  cache = number_at bytes 16 4;
  text = number_at bytes 24 4;
}

-- room for twice leaf K entries behind a head of 8 bytes
abbrev pub symbol_block : ℕ → ℕ → Block
symbol_block leaf at = block at (8 + 80 * leaf)

abbrev pub symbol_bytes : List ℕ → ℕ → ℕ → List ℕ
symbol_bytes image leaf at = part at (8 + 80 * leaf) image

abbrev pub symbols_in : List ℕ → ℕ
symbols_in bytes = number_at bytes 6 2

-- the entries of a symbol node's bytes, in order
abbrev pub entries_of : List ℕ → List Entry
entries_of bytes = table (λ i. entry_of (part (8 + 40 * i) 40 bytes)) (symbols_in bytes)

-- the entries at an address, where a symbol node stands there; and the reading of these symbol nodes alone
abbrev pub symbols_at : List ℕ → ℕ → ℕ → List Entry
symbols_at image leaf at = entries_of (symbol_bytes image leaf at)

abbrev pub symbols_of : List ℕ → ℕ → List ℕ → ℕ → List Entry
symbols_of image leaf owned = only [] (symbols_at image leaf) owned

pub record IsSymbolNode (leaf : ℕ) (bytes : List ℕ) : Type 0 where
  pub signed : part 0 4 bytes ≡ symbol_signature
  pub version : byte_at bytes 4 ≡ 1
  pub roomy : symbols_in bytes ≤ 2 * leaf

-- the entry's cache type is one of the three
abbrev pub IsEntry : Entry → Type 0
IsEntry e = e.cache ≤ 2

-- where a link leads, as the file has it: to the header at an address, or to a soft link's text
pub data Target : Type 0 where
  Header : ℕ → Target
  Text : List ℕ → Target

-- what an entry of cache type 2 names is a text, what others name is a header
abbrev pub target_of : List ℕ → Entry → Target
target_of segment e = if e.cache == 2 then Text (text_at segment e.text) else Header e.header

-- a name and where it leads; texts stand in the heap's segment
abbrev pub link_of : List ℕ → Entry → List ℕ × Target
link_of segment e = (text_at segment e.name, target_of segment e)

-- the offsets of the soft links' texts
abbrev pub texts_of : List Entry → List ℕ
texts_of [] = []
texts_of (e ∷ es) = if e.cache == 2 then e.text ∷ texts_of es else texts_of es
