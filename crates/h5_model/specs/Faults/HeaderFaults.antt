-- Rules that an object header breaks (File Format Specification 3.0, sections IV.A.1.a and IV.A.2).
use Rattle.std.specs.Prelude.{◌≡◌, ◌≢◌, ℕ, ◌+◌, ◌*◌, ◌%◌, ◌<◌, ◌==◌, ◌||◌, ◌⊎◌, Bool, IsTrue, not, bit_and, Option, Some, None, List, [], ◌∷◌, map, length}
use Rattle.std.specs.Ordering.{nat_cmp, eq_by_cmp}
use Rattle.std.specs.Cmp.Lexicographic.{slice_cmp}
use Rattle.std.specs.List.{list_any, filter, filter_map, Contains, IsDistinct}
use Rattle.h5_bytes.specs.Bytes.{byte_at}
use Rattle.h5_model.specs.Format.Limits.{most_cells, most_chunk_bytes}
use Rattle.h5_model.specs.Format.MessageTypes.{nil_kind, dataspace_kind, link_info_kind, datatype_kind, old_fill_value_kind, fill_value_kind, link_kind, external_files_kind, data_layout_kind, group_info_kind, filter_pipeline_kind, attribute_kind, comment_kind, old_modification_time_kind, continuation_kind, symbol_table_kind, modification_time_kind}
use Rattle.h5_model.specs.Format.Messages.{Message, prefix_at, total_in, count_of}
use Rattle.h5_model.specs.Format.Addresses.{symbol_table_of}
use Rattle.h5_model.specs.Format.Fixed.{Fixed}
use Rattle.h5_model.specs.Tree.Places.{cells, extent_cells}
use Rattle.h5_model.specs.Format.Extent.{Extent, extent_of}
use Rattle.h5_model.specs.Format.Datatype.{fixed_of}
use Rattle.h5_model.specs.Format.Fill.{fill_value, old_fill_value}
use Rattle.h5_model.specs.Format.Layout.{InChunks, layout_of}
use Rattle.h5_model.specs.Format.AttributeBody.{attribute_of}
use Rattle.h5_model.specs.Tree.Objects.{Attribute}
use Rattle.h5_model.specs.Format.Reads.{is_attribute_message}
use Rattle.h5_model.specs.Format.Reached.{Met, MessageAt, AllMessages, kind_at, size_at, extent_among, type_among, layout_among}
use Rattle.h5_model.specs.declared.open_fault.Cause.{Cause}
use Rattle.h5_model.specs.declared.open_fault.Cause.TheVariants.{HeaderVersion, MessageSize, MessageCount, SharedMessage, UnknownMessage, Filtered, ExternalFiles, NewStyleGroup, MissingMessage, DuplicateMessage, DataspaceForm, DatatypeForm, FillForm, LayoutForm, AttributeForm, HeapForm, TooLarge}

-- message types that are known, those refused by name among them
abbrev pub is_known : ℕ → Bool
is_known kind = list_any (λ k. k == kind) (nil_kind ∷ dataspace_kind ∷ link_info_kind ∷ datatype_kind ∷ old_fill_value_kind ∷ fill_value_kind
    ∷ link_kind ∷ external_files_kind ∷ data_layout_kind ∷ group_info_kind ∷ filter_pipeline_kind ∷ attribute_kind ∷ comment_kind
    ∷ old_modification_time_kind ∷ continuation_kind ∷ symbol_table_kind ∷ modification_time_kind ∷ [])

-- Link Info, Link and Group Info
abbrev pub is_new_style : ℕ → Bool
is_new_style kind = (kind == link_info_kind || kind == link_kind) || kind == group_info_kind

-- some message of the header is of a type that passes
abbrev pub SomeMessage : List ℕ → ℕ → (ℕ → Bool) → Type 0
SomeMessage image header test = (at : ℕ) × MessageAt image header at × IsTrue (test (kind_at image at))

-- a head that passes the end of its block, a size that is no multiple of 8 or passes it, a Continuation without its two numbers
abbrev pub IsMisfit : List ℕ → ℕ → ℕ → Type 0
IsMisfit image at end = (at ≢ end) × ((end < at + 8) ⊎ ((size_at image at % 8 ≢ 0) ⊎ ((end < at + 8 + size_at image at)
    ⊎ ((kind_at image at ≡ continuation_kind) × (size_at image at < 16)))))

-- a type stands more than once
abbrev pub stands_twice : List Message → ℕ → Bool
stands_twice ms kind = not (count_of kind ms == 0 || count_of kind ms == 1)

abbrev pub stands : List Message → ℕ → Bool
stands ms kind = not (count_of kind ms == 0)

-- two attributes have one name
abbrev pub HasNameTwice : List Message → Type 0
HasNameTwice ms =
    IsDistinct (eq_by_cmp (slice_cmp nat_cmp)) (map (λ a. a.0) (filter_map (λ (m : Message). attribute_of m.body) (filter is_attribute_message ms))) → ⊥

-- the body of some message of this type fails
abbrev pub SomeBody : ℕ → List Message → (List ℕ → Type 0) → Type 0
SomeBody kind ms Fails = (m : Message) × Contains ms m × (m.kind ≡ kind) × Fails m.body

-- a fill value is not one of the dataset's type
abbrev pub IsBadFill : List Message → Fixed → Type 0
IsBadFill ms t = SomeBody old_fill_value_kind ms (λ body. old_fill_value t body ≡ None) ⊎ SomeBody fill_value_kind ms (λ body. fill_value t body ≡ None)

-- an extent of too many cells, or a chunk of too many bytes
abbrev pub IsLarge : List Message → Type 0
IsLarge ms =
    SomeBody dataspace_kind ms (λ body. (e : Extent) × (extent_of body ≡ Some e) × (most_cells < extent_cells e.sizes))
    ⊎ (SomeBody attribute_kind ms (λ body. (a : List ℕ × Attribute) × (attribute_of body ≡ Some a) × (most_cells < extent_cells (a.1).sizes))
    ⊎ ((t : Fixed) × (sizes : List ℕ) × (root : Option ℕ) × (type_among ms ≡ Some t)
    × (layout_among ms ≡ Some (InChunks sizes root)) × (most_chunk_bytes < cells sizes * t.size)))

-- a rule on all messages of a header
abbrev pub ListBreach : List ℕ → ℕ → List Message → Cause → Type 0
ListBreach image header ms MessageCount = total_in (prefix_at image header) ≢ length ms
ListBreach image header ms MissingMessage = (count_of symbol_table_kind ms ≡ 0)
    × ((count_of dataspace_kind ms ≡ 0) ⊎ ((count_of datatype_kind ms ≡ 0) ⊎ (count_of data_layout_kind ms ≡ 0)))
ListBreach image header ms DuplicateMessage =
    IsTrue (list_any (stands_twice ms) (dataspace_kind ∷ datatype_kind ∷ old_fill_value_kind ∷ fill_value_kind ∷ data_layout_kind ∷ symbol_table_kind ∷ []))
    ⊎ ((IsTrue (stands ms symbol_table_kind) × IsTrue (list_any (stands ms)
    (dataspace_kind ∷ datatype_kind ∷ old_fill_value_kind ∷ fill_value_kind ∷ data_layout_kind ∷ []))) ⊎ HasNameTwice ms)
ListBreach image header ms DataspaceForm = SomeBody dataspace_kind ms (λ body. extent_of body ≡ None)
ListBreach image header ms DatatypeForm = SomeBody datatype_kind ms (λ body. fixed_of body ≡ None)
ListBreach image header ms FillForm = (t : Fixed) × (type_among ms ≡ Some t) × IsBadFill ms t
ListBreach image header ms LayoutForm = (e : Extent) × (t : Fixed) × (extent_among ms ≡ Some e) × (type_among ms ≡ Some t)
    × SomeBody data_layout_kind ms (λ body. layout_of e.sizes t.size body ≡ None)
ListBreach image header ms AttributeForm = SomeBody attribute_kind ms (λ body. attribute_of body ≡ None)
ListBreach image header ms HeapForm = SomeBody symbol_table_kind ms (λ body. symbol_table_of body ≡ None)
ListBreach image header ms TooLarge = IsLarge ms
ListBreach image header ms _ = ⊥

abbrev pub HeaderBreach : List ℕ → ℕ → Cause → Type 0
HeaderBreach image header HeaderVersion = byte_at (prefix_at image header) 0 ≢ 1
HeaderBreach image header MessageSize = (at : ℕ) × (end : ℕ) × Met image header at end × IsMisfit image at end
HeaderBreach image header SharedMessage = (at : ℕ) × MessageAt image header at × (bit_and (byte_at image (at + 4)) 2 ≢ 0)
HeaderBreach image header UnknownMessage = SomeMessage image header (λ kind. not (is_known kind))
HeaderBreach image header Filtered = SomeMessage image header (λ kind. kind == filter_pipeline_kind)
HeaderBreach image header ExternalFiles = SomeMessage image header (λ kind. kind == external_files_kind)
HeaderBreach image header NewStyleGroup = SomeMessage image header is_new_style
HeaderBreach image header cause = (ms : List Message) × AllMessages image header ms × ListBreach image header ms cause
