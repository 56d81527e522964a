-- The lines that `ls` prints of one link.
use Rattle.std.specs.Prelude.{ℕ, List, [], ◌++◌}
use Rattle.std.specs.Option.{option_map_or}
use Rattle.h5_model.specs.Scripts.Text.{joined_path, link_line, lines_below}
use Rattle.h5_model.specs.Tree.Objects.{Tree, Link, object_of}

-- the line of a link of the group at the path, and the lines of what it leads to, at most so many names deep
abbrev pub lines_of_link : Tree → ℕ → List ℕ → (List ℕ × Link) → List ℕ
lines_of_link tree depth path e = link_line tree (joined_path path e.0) e.1
    ++ option_map_or (λ n. lines_below tree depth (joined_path path e.0) n) (object_of e.1) []
