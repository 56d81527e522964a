-- Why opening is refused, and which images are not (File Format Specification 3.0, sections II.A, III and IV.A).
use Rattle.std.specs.Prelude.{ℕ, List}
use Rattle.std.specs.Ordering.{nat_cmp}
use Rattle.std.specs.FinMap.{FinMap}
use Rattle.h5_model.specs.Format.Reads.{Reads}
use Rattle.h5_model.specs.Tree.Objects.{Tree}
use Rattle.h5_model.specs.declared.open_fault.Cause.{Cause}
use Rattle.h5_group.specs.Nodes.Walk.{IsFault}

-- memory was short, or the cause holds at the address, of a block that is reached
abbrev pub IsOpenRefusedAt : List ℕ → Cause → ℕ → Type 0
IsOpenRefusedAt image cause address = IsFault image cause address

-- the image reads as some tree, with the headers of its objects wherever they stand
abbrev pub ReadsSome : List ℕ → Type 0
ReadsSome image = (table : FinMap nat_cmp ℕ) × (tree : Tree) × Reads image table tree
