-- The messages that a header has in the plain layout (File Format Specification 3.0, section IV.A.2).
use Rattle.std.specs.Prelude.{ℕ, ◌+◌, ◌*◌, ◌||◌, Bool, not, nat_lt, if◌then◌else◌, ℤ, Option, List, [], ◌∷◌, ◌++◌, map, length, unwrap_or}
use Rattle.std.specs.FinMap.{entries}
use Rattle.h5_bytes.specs.Texts.{pad8}
use Rattle.h5_model.specs.Format.Messages.{most_messages}
use Rattle.h5_model.specs.Tree.Places.{cells}
use Rattle.h5_model.specs.Edits.Refusal.{is_chunked}
use Rattle.h5_model.specs.Format.Bodies.{padded_body, dataspace_bytes, bounded_bytes, datatype_bytes, fill_bytes, compact_bytes, contiguous_bytes, chunked_bytes, attribute_bytes}
use Rattle.h5_model.specs.Format.Fixed.{Fixed}
use Rattle.h5_model.specs.Format.MessageTypes.{dataspace_kind, datatype_kind, fill_value_kind, data_layout_kind, attribute_kind}
use Rattle.h5_model.specs.Format.Plain.{cells_bytes}
use Rattle.h5_model.specs.Format.Sizes.{attribute_size}
use Rattle.h5_model.specs.Tree.Objects.{Object, Dataset, Storage, Compact, Contiguous, Chunked, Attribute, Kept, are_sizes}

-- ---- what every object may have: its kept messages, and then its attributes by their names

abbrev pub kept_message : Kept → ℕ × List ℕ
kept_message k = (k.kind, k.body)

-- an attribute's body of version 1, raised to a multiple of 8
abbrev pub attribute_body : List ℕ → Attribute → List ℕ
attribute_body name a = attribute_bytes name a.fixed a.sizes a.values (pad8 (attribute_size (length name) a.sizes (a.fixed).size))

-- it, or the body that is kept
abbrev pub attribute_message : (List ℕ × Attribute) → ℕ × List ℕ
attribute_message (name, a) = (attribute_kind, unwrap_or a.body (attribute_body name a))

abbrev pub others_of : Object → List (ℕ × List ℕ)
others_of o = map kept_message o.kept ++ map attribute_message (entries o.attributes)

-- ---- arrays

-- maxima are written where the cells are in chunks, or where one differs from its size
abbrev pub space_body : Bool → List ℕ → List (Option ℕ) → List ℕ
space_body chunked sizes maxima = if chunked || not (are_sizes sizes maxima) then bounded_bytes sizes maxima else dataspace_bytes sizes

abbrev pub type_message : Fixed → ℕ × List ℕ
type_message t = (datatype_kind, padded_body (datatype_bytes t))

-- a fill that was set; space for chunks is made when they are stored, for other cells with the array
abbrev pub fill_message : Bool → Fixed → ℤ → ℕ × List ℕ
fill_message chunked t fill = (fill_value_kind, padded_body (fill_bytes (if chunked then 3 else 1) t fill))

-- the fill is left out where a header with so many other messages would have too many
abbrev pub fill_messages : Bool → Fixed → ℤ → ℕ → List (ℕ × List ℕ)
fill_messages chunked t fill others = if nat_lt most_messages (4 + others) then [] else fill_message chunked t fill ∷ []

-- how so many cells of this type are stored: these are their bytes; or they are in one block at this address, or nowhere; or in chunks
-- of these sizes, with their tree at this address, or none
abbrev pub layout_body : Storage → Fixed → ℕ → List ℕ → Option ℕ → List ℕ
layout_body Compact t count bytes address = compact_bytes bytes
layout_body (Contiguous stored) t count bytes address = contiguous_bytes address (count * t.size)
layout_body (Chunked chunk) t count bytes address = chunked_bytes chunk address t.size

-- the messages of an array of this type, sizes, maxima and fill with this layout, whether its cells are in chunks
abbrev pub messages_of : Fixed → List ℕ → List (Option ℕ) → ℤ → Bool → List ℕ → ℕ → List (ℕ × List ℕ)
messages_of t sizes maxima fill chunked layout others =
    (dataspace_kind, space_body chunked sizes maxima) ∷ type_message t ∷ (fill_messages chunked t fill others ++ (data_layout_kind, padded_body layout) ∷ [])

-- the layout of an array whose data or whose tree stand at this address
abbrev pub array_layout : Dataset → Option ℕ → List ℕ
array_layout d address = layout_body d.storage d.fixed (cells d.sizes) (cells_bytes d.fixed d.cells) address

abbrev pub array_messages : Dataset → Option ℕ → ℕ → List (ℕ × List ℕ)
array_messages d address others =
    messages_of d.fixed d.sizes d.maxima d.fill (is_chunked d.storage) (array_layout d address) others
