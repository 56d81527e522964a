-- What is shown of plain images: they read as their trees, their blocks hold each byte once, and their length is the plain length.
use Rattle.std.specs.Prelude.{◌≡◌, ℕ, ◌≤◌, List, length}
use Rattle.h5_model.specs.Format.Limits.{most_bytes}
use Rattle.h5_model.specs.Format.PlainLength.{plain_length}
use Rattle.h5_model.specs.Tree.Objects.{Tree, Object}
use Rattle.h5_repack.specs.Bodies.Laws.{IsPlainReading}
use Rattle.h5_repack.specs.Image.Plain.{IsPlainTree}
use Rattle.h5_repack.specs.Image.Written.{IsOrder, StoredIn, counts_of, image_end, plain_image, table_of}
use Rattle.h5_model.specs.declared.k_values.KValues.{KValues}

abbrev pub ImageReads : Type 0
ImageReads = (k : KValues) (stored : StoredIn) (tree : Tree) (order : List (ℕ × Object)) → IsPlainTree k stored tree
    → IsOrder tree order → image_end k (counts_of stored) order ≤ most_bytes
    → IsPlainReading (plain_image k stored tree order) k (table_of k (counts_of stored) order) tree

-- whatever chunks are stored
abbrev pub ImageLength : Type 0
ImageLength = (k : KValues) (counts : ℕ → ℕ) (tree : Tree) (order : List (ℕ × Object)) → IsOrder tree order
    → image_end k counts order ≡ plain_length k counts tree

abbrev pub ImageEnds : Type 0
ImageEnds = (k : KValues) (stored : StoredIn) (tree : Tree) (order : List (ℕ × Object)) → IsPlainTree k stored tree
    → IsOrder tree order → length (plain_image k stored tree order) ≡ image_end k (counts_of stored) order
