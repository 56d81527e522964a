-- How many links lead to a header (File Format Specification 3.0, section IV.A.1.a).
use Rattle.std.specs.Prelude.{ℕ, ◌+◌, ◌==◌, if◌then◌else◌, Bool, false, List, [], ◌∷◌}
use Rattle.std.specs.List.{flat_map}
use Rattle.h5_model.specs.Format.Superblock.{root_header}
use Rattle.h5_model.specs.Format.Symbols.{Target, Header, Text}
use Rattle.h5_open.specs.declared.opened.object.OpenedObject.{OpenedObject}
use Rattle.h5_open.specs.Opened.Objects.{content_links}

-- a hard link to the header
abbrev pub leads : ℕ → Target → Bool
leads header (Header h) = h == header
leads header (Text text) = false

-- how many of these links lead to the header
abbrev pub leading_links : ℕ → List (List ℕ × Target) → ℕ
leading_links header [] = 0
leading_links header (l ∷ ls) = (if leads header l.1 then 1 else 0) + leading_links header ls

-- what the superblock names, as a link that has no name
abbrev pub root_link : List ℕ → List ℕ × Target
root_link image = ([], Header (root_header image))

-- the links of these objects
abbrev pub object_links : List ℕ → List OpenedObject → List (List ℕ × Target)
object_links image objects = flat_map (λ (o : OpenedObject). content_links image o.content) objects

-- all links of the image
abbrev pub all_links : List ℕ → List OpenedObject → List (List ℕ × Target)
all_links image objects = root_link image ∷ object_links image objects
