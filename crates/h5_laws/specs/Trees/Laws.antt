-- Which trees are sound: those of images, and those that accepted edits give.
use Rattle.std.specs.Prelude.{◌≡◌, ℕ, None, List}
use Rattle.std.specs.Ordering.{nat_cmp}
use Rattle.std.specs.FinMap.{FinMap, get}
use Rattle.h5_model.specs.Edits.Applied.{with_edit}
use Rattle.h5_model.specs.Format.Reads.{Reads}
use Rattle.h5_model.specs.Edits.Refusal.{refusal_of}
use Rattle.h5_model.specs.Tree.Objects.{Tree}
use Rattle.h5_model.specs.declared.edits.Edit.{Edit}
use Rattle.h5_laws.specs.Trees.Sound.{IsSoundTree}

abbrev pub ReadsSound : Type 0
ReadsSound = (image : List ℕ) (table : FinMap nat_cmp ℕ) (tree : Tree) → Reads image table tree → IsSoundTree tree

-- a new object takes a number that no object has
abbrev pub SoundApplied : Type 0
SoundApplied = (tree : Tree) (number next : ℕ) (edit : Edit) → IsSoundTree tree → get tree number ≡ None → refusal_of tree next edit ≡ None
    → IsSoundTree (with_edit tree edit number)
