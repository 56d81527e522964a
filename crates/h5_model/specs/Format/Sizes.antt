-- How many bytes structures have as they are written (File Format Specification 3.0, sections III.A.1, III.B, III.D, IV.A.1.a and
-- IV.A.2).
use Rattle.std.specs.Prelude.{ℕ, ◌+◌, ◌*◌, Bool, true, not, nat_lt, if◌then◌else◌, Option, List, length, sum_by}
use Rattle.std.specs.FinMap.{entries, len}
use Rattle.std.specs.Option.{option_map_or}
use Rattle.h5_bytes.specs.Texts.{pad8}
use Rattle.h5_model.specs.Format.Messages.{most_messages}
use Rattle.h5_model.specs.Tree.Places.{cells}
use Rattle.h5_model.specs.Tree.Objects.{Object, Content, Group, Array, Storage, Compact, Contiguous, Chunked, Attribute, Kept, are_sizes}

-- ---- nodes and heaps

-- a node of a group's tree, and of a chunk tree
abbrev pub group_node : ℕ → ℕ
group_node k = 32 + 32 * k

abbrev pub chunk_node : ℕ → ℕ → ℕ
chunk_node k rank = 24 + 16 * k + (2 * k + 1) * (16 + 8 * rank)

abbrev pub symbol_node : ℕ → ℕ
symbol_node k = 8 + 80 * k

-- what a name or a text occupies in a heap, its zero byte with it
abbrev pub text_span : List ℕ → ℕ
text_span text = pad8 (length text + 1)

-- ---- messages

-- a dataspace body of so many dimensions, without maxima
abbrev pub dataspace_length : ℕ → ℕ
dataspace_length rank = 8 + 8 * rank

-- an attribute's body, version 1, of a name of so many bytes: its parts padded, and the data
abbrev pub attribute_size : ℕ → List ℕ → ℕ → ℕ
attribute_size name sizes size = 8 + pad8 (name + 1) + pad8 12 + pad8 (dataspace_length (length sizes)) + cells sizes * size

-- a message with a body of so many bytes
abbrev pub message_size : ℕ → ℕ
message_size body = 8 + pad8 body

-- the body is the one that is kept, or of version 1
abbrev pub attribute_message_size : (List ℕ × Attribute) → ℕ
attribute_message_size (name, a) = message_size (option_map_or length a.body (attribute_size (length name) a.sizes (a.fixed).size))

abbrev pub kept_message_size : Kept → ℕ
kept_message_size k = message_size (length k.body)

-- maxima are written where the store is chunked or one differs from its size
abbrev pub writes_maxima : List ℕ → List (Option ℕ) → Storage → Bool
writes_maxima sizes maxima (Chunked chunk) = true
writes_maxima sizes maxima _ = not (are_sizes sizes maxima)

abbrev pub extent_size : List ℕ → List (Option ℕ) → Storage → ℕ
extent_size sizes maxima storage =
    dataspace_length (length sizes) + (if writes_maxima sizes maxima storage then 8 * length sizes else 0)

-- a layout body, of elements of so many bytes
abbrev pub layout_size : List ℕ → Storage → ℕ → ℕ
layout_size sizes Compact size = 4 + cells sizes * size
layout_size sizes (Contiguous stored) size = 18
layout_size sizes (Chunked chunk) size = 11 + 4 * (length chunk + 1)

-- ---- headers

-- Dataspace, datatype, fill and layout. The fill is left out where a header with so many other messages would have too many.
abbrev pub array_messages_size : ℕ → List ℕ → List (Option ℕ) → Storage → ℕ → ℕ
array_messages_size others sizes maxima storage size =
    message_size (extent_size sizes maxima storage) + message_size 12 + (if nat_lt most_messages (4 + others) then 0 else message_size (8 + size))
    + message_size (layout_size sizes storage size)

-- the messages of the content: a Symbol Table, or those of an array
abbrev pub content_messages : ℕ → Content → ℕ
content_messages others (Group links) = message_size 16
content_messages others (Array d) = array_messages_size others d.sizes d.maxima d.storage (d.fixed).size

-- an object's header, its prefix with it
abbrev pub header_size : Object → ℕ
header_size o =
    16 + content_messages (len o.attributes + length o.kept) o.content + sum_by attribute_message_size (entries o.attributes)
    + sum_by kept_message_size o.kept
