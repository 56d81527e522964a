-- Texts: numbers, types, sizes, names and the lines of `ls` and `dump`. Texts are bytes, a line with its line feed.
use Rattle.std.specs.Prelude.{ℕ, zero, suc, ◌+◌, ◌*◌, ◌/◌, ◌%◌, ◌==◌, ◌&&◌, Bool, not, nat_le, nat_lt, if◌then◌else◌, ℤ, Option, Some, None, List, [], ◌∷◌, ◌++◌, length, drop, take, codes}
use Rattle.std.specs.Fmt.{decimal, signed_decimal}
use Rattle.std.specs.List.{flat_map, join_by, zip}
use Rattle.std.specs.FinMap.{get, entries}
use Rattle.std.specs.Option.{option_map_or}
use Rattle.h5_model.specs.Format.Limits.{most_names}
use Rattle.h5_model.specs.Format.Fixed.{Fixed}
use Rattle.h5_model.specs.Tree.Objects.{Tree, Link, ToObject, Soft, Object, Content, Group, Array, Dataset, Storage, Compact, Contiguous, Chunked, Attribute, links_of, object_of}

-- a hexadecimal digit, lower-case
abbrev pub hex_digit : ℕ → ℕ
hex_digit n = if nat_lt n 10 then 48 + n else 87 + n

-- printable as it stands: from `!` to `~`, and not the backslash
abbrev pub is_plain : ℕ → Bool
is_plain b = nat_le 33 b && nat_le b 126 && not (b == 92)

abbrev pub escaped_byte : ℕ → List ℕ
escaped_byte b = if is_plain b then b ∷ [] else 92 ∷ 120 ∷ hex_digit (b / 16) ∷ hex_digit (b % 16) ∷ []

-- a name or a text, other bytes written `\x` and two digits
abbrev pub escaped_text : List ℕ → List ℕ
escaped_text bytes = flat_map escaped_byte bytes

-- `i16le`, and `u8` without an order
abbrev pub type_text : Fixed → List ℕ
type_text t = (if t.signed then codes "i" else codes "u") ++ decimal (8 * t.size)
    ++ (if t.size == 1 then [] else (if t.big then codes "be" else codes "le"))

abbrev pub sizes_text : List ℕ → List ℕ
sizes_text sizes = codes "{" ++ join_by decimal (codes ", ") sizes ++ codes "}"

-- a size, with its maximum where that differs
abbrev pub size_text : (ℕ × Option ℕ) → List ℕ
size_text (d, None) = decimal d ++ codes "/inf"
size_text (d, Some m) = if m == d then decimal d else decimal d ++ codes "/" ++ decimal m

-- every dataset has one maximum for each size
abbrev pub extent_text : Dataset → List ℕ
extent_text d = codes "{" ++ join_by size_text (codes ", ") (zip d.sizes d.maxima) ++ codes "}"

-- what stands behind a path in a list
abbrev pub content_text : Content → List ℕ
content_text (Group links) = codes "group"
content_text (Array d) = codes "dataset " ++ type_text d.fixed ++ codes " " ++ extent_text d

-- the path, a space and the text, and the line's end
abbrev pub line_of : List ℕ → List ℕ → List ℕ
line_of path text = path ++ codes " " ++ text ++ codes "\n"

abbrev pub joined_path : List ℕ → List ℕ → List ℕ
joined_path path name = path ++ codes "/" ++ escaped_text name

-- the line of a link
abbrev pub link_line : Tree → List ℕ → Link → List ℕ
link_line tree path (ToObject number) = option_map_or (λ (o : Object). line_of path (content_text o.content)) (get tree number) []
link_line tree path (Soft text) = line_of path (codes "soft " ++ escaped_text text)

-- the lines of a group's links, each group followed by what it holds, at most so many names deep
unfoldable pub lines_below : Tree → ℕ → List ℕ → ℕ → List ℕ
lines_below tree zero path number = []
lines_below tree (suc depth) path number = option_map_or
    (λ links. flat_map (λ e. link_line tree (joined_path path e.0) e.1
    ++ option_map_or (λ n. lines_below tree depth (joined_path path e.0) n) (object_of e.1) []) (entries links))
    (links_of tree number) []

-- what `ls` prints
abbrev pub list_text : Tree → List ℕ
list_text tree = codes "/ group\n" ++ lines_below tree most_names [] 0

-- how the cells are stored, and the fill
abbrev pub storage_text : Storage → List ℕ
storage_text Compact = codes "compact"
storage_text (Contiguous stored) = codes "contiguous"
storage_text (Chunked sizes) = codes "chunked " ++ sizes_text sizes

abbrev pub values_text : List ℤ → List ℕ
values_text values = flat_map (λ v. codes " " ++ signed_decimal v) values

abbrev pub attribute_line : (List ℕ × Attribute) → List ℕ
attribute_line (name, a) =
    codes "@" ++ escaped_text name ++ codes " " ++ type_text a.fixed ++ codes " " ++ sizes_text a.sizes ++ values_text a.values ++ codes "\n"

-- the last size; an array without dimensions has one cell in a row
abbrev pub row_length : List ℕ → ℕ
row_length [] = 1
row_length (d ∷ []) = d
row_length (d ∷ ds) = row_length ds

-- so many rows of n values each
abbrev pub rows_text : ℕ → ℕ → List ℤ → List ℕ
rows_text zero n values = []
rows_text (suc rows) n values = join_by signed_decimal (codes " ") (take n values) ++ codes "\n" ++ rows_text rows n (drop n values)

abbrev pub dataset_text : Dataset → List ℕ
dataset_text d = codes " " ++ storage_text d.storage ++ codes " fill " ++ signed_decimal d.fill

abbrev pub detail_text : Content → List ℕ
detail_text (Group links) = []
detail_text (Array d) = dataset_text d

abbrev pub cells_text : Content → List ℕ
cells_text (Group links) = []
cells_text (Array d) = rows_text (length d.cells / row_length d.sizes) (row_length d.sizes) d.cells

-- what `dump` prints of an object
abbrev pub dump_text : List ℕ → Object → List ℕ
dump_text path o = path ++ codes " " ++ content_text o.content ++ detail_text o.content ++ codes "\n"
    ++ flat_map attribute_line (entries o.attributes) ++ cells_text o.content
