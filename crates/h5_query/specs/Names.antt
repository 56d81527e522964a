-- The parts of a text between its slashes, which are the names of a path.
use Rattle.std.specs.Prelude.{ℕ, ◌==◌, Option, Some, None, List, []}
use Rattle.std.specs.List.{slice_split}
use Rattle.std.specs.Borrow.{Bor}

-- the parts of a text between its slashes
abbrev pub parts : List ℕ → List (List ℕ)
parts text = slice_split (λ c. c == 47) text

-- those of the text that is left, where there is one
abbrev pub parts_left : Option (Bor (List ℕ)) → List (List ℕ)
parts_left None = []
parts_left (Some text) = parts text.now
