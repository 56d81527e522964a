-- Objects by their headers' addresses (File Format Specification 3.0, section IV.A.1).
use Rattle.std.specs.Prelude.{ℕ, Option, List}
use Rattle.std.specs.Ordering.{nat_cmp}
use Rattle.std.specs.FinMap.{FinMap, from_entries}
use Rattle.h5_model.specs.Format.Reads.{Reads}
use Rattle.h5_model.specs.Tree.Objects.{Tree}
use Rattle.h5_open.specs.Opened.Objects.{numbered_objects}

-- object n has its header at the n-th of these addresses; where there is none, no object has the number
abbrev pub table_with : List (Option ℕ) → FinMap nat_cmp ℕ
table_with headers = from_entries (numbered_objects 0 headers)

-- the image reads as some tree whose objects have their headers there
abbrev pub IsReadAt : List ℕ → List (Option ℕ) → Type 0
IsReadAt image headers = (tree : Tree) × Reads image (table_with headers) tree
