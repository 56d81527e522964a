-- When an edit is refused: the lowest rule that holds. Beside these rules stand the image's and memory's (ImageAnswers).
use Rattle.std.specs.Prelude.{ℕ, ◌*◌, ◌==◌, ◌&&◌, ◌||◌, Bool, true, false, not, nat_lt, nat_le, if◌then◌else◌, Option, Some, None, List, [], ◌∷◌, length, is_some, is_none}
use Rattle.std.specs.FinMap.{get, contains_key}
use Rattle.std.specs.List.{list_any, list_all}
use Rattle.std.specs.Option.{option_map_or, option_and_then}
use Rattle.h5_bytes.specs.Bytes.{undefined_address}
use Rattle.h5_model.specs.Format.Messages.{most_body_bytes}
use Rattle.h5_model.specs.Format.Limits.{most_cells, most_chunk_bytes, most_dimensions, most_hard_links, most_names, most_name_bytes, most_numbers}
use Rattle.h5_model.specs.Format.Fixed.{fits}
use Rattle.h5_model.specs.Format.Layout.{most_compact_bytes}
use Rattle.h5_model.specs.Tree.Places.{cells, extent_cells}
use Rattle.h5_model.specs.Views.Selection.{Slab, axes_of, has_rank, has_no_stride, overlaps, is_within, selected_cells}
use Rattle.h5_model.specs.Tree.Objects.{Tree, Soft, Dataset, Storage, Chunked, Object, hard_links, are_sizes}
use Rattle.h5_model.specs.Format.Sizes.{attribute_size}
use Rattle.h5_model.specs.Tree.Paths.{names_of, last_of, Located, Here, Missing, NoParent, NoGroup, location_of, object_at, dataset_at, links_at}
use Rattle.h5_model.specs.declared.dataset.Store.{Store}
use Rattle.h5_model.specs.declared.dataset.Store.TheVariants as store
use Rattle.h5_model.specs.declared.edits.Edit.{Edit}
use Rattle.h5_model.specs.declared.edits.Edit.TheVariants.{CreateGroup, CreateDataset, HardLink, SoftLink, Unlink, SetAttr, RemoveAttr, Write, Resize}
use Rattle.h5_model.specs.declared.edit_fault.EditFault.{EditFault}
use Rattle.h5_model.specs.declared.edit_fault.EditFault.TheVariants as fault

-- ---- paths

-- the path of the link that an edit makes
abbrev pub new_path : Edit → List (List ℕ)
new_path (CreateGroup path) = path ∷ []
new_path (CreateDataset path spec) = path ∷ []
new_path (HardLink target path) = path ∷ []
new_path (SoftLink text path) = path ∷ []
new_path _ = []

-- the path at which something has to stand
abbrev pub old_path : Edit → List (List ℕ)
old_path (HardLink target path) = target ∷ []
old_path (Unlink path) = path ∷ []
old_path (SetAttr path attr) = path ∷ []
old_path (RemoveAttr path name) = path ∷ []
old_path (Write path hyper values) = path ∷ []
old_path (Resize path dims) = path ∷ []
old_path _ = []

abbrev pub some_path : (List ℕ → Bool) → Edit → Bool
some_path test edit = list_any test (old_path edit) || list_any test (new_path edit)

abbrev pub has_zero : List ℕ → Bool
has_zero text = list_any (λ b. b == 0) text

-- empty, or with a zero byte
abbrev pub is_no_text : List ℕ → Bool
is_no_text text = length text == 0 || has_zero text

abbrev pub bad_text : Edit → Bool
bad_text (SoftLink text path) = is_no_text text
bad_text _ = false

abbrev pub is_deep : List ℕ → Bool
is_deep path = option_map_or (λ names. nat_lt most_names (length names)) (names_of path) false

abbrev pub is_root : List ℕ → Bool
is_root path = option_map_or (λ names. length names == 0) (names_of path) false

abbrev pub unlinks_root : Edit → Bool
unlinks_root (Unlink path) = is_root path
unlinks_root _ = false

abbrev pub has_no_parent : Located → Bool
has_no_parent NoParent = true
has_no_parent _ = false

abbrev pub has_no_group : Located → Bool
has_no_group NoGroup = true
has_no_group _ = false

abbrev pub is_missing : Located → Bool
is_missing Missing = true
is_missing _ = false

abbrev pub is_here : Located → Bool
is_here (Here link) = true
is_here _ = false

abbrev pub is_soft : Located → Bool
is_soft (Here (Soft text)) = true
is_soft _ = false

-- an edit that needs an object where a soft link may stand
abbrev pub needs_object : Edit → Bool
needs_object (HardLink target path) = true
needs_object (SetAttr path attr) = true
needs_object (RemoveAttr path name) = true
needs_object _ = false

abbrev pub not_found : Tree → Edit → Bool
not_found tree edit = list_any (λ p. is_missing (location_of tree p) || (needs_object edit && is_soft (location_of tree p))) (old_path edit)

abbrev pub last_is_long : List (List ℕ) → Bool
last_is_long names = nat_lt most_name_bytes (length (last_of names))

-- the new name, the attribute's name, or the soft link's text is too long
abbrev pub is_long : Edit → Bool
is_long (SoftLink text path) = nat_lt most_name_bytes (length text) || option_map_or last_is_long (names_of path) false
is_long (SetAttr path attr) = nat_lt most_name_bytes (length attr.name)
is_long edit = list_any (λ p. option_map_or last_is_long (names_of p) false) (new_path edit)

-- ---- objects

-- the dataset's own path, of an edit that needs a dataset
abbrev pub dataset_path : Edit → List (List ℕ)
dataset_path (Write path hyper values) = path ∷ []
dataset_path (Resize path dims) = path ∷ []
dataset_path _ = []

abbrev pub not_a_dataset : Tree → Edit → Bool
not_a_dataset tree edit = list_any (λ p. is_here (location_of tree p) && is_none (dataset_at tree p)) (dataset_path edit)

abbrev pub links_group : Tree → Edit → Bool
links_group tree (HardLink target path) = is_some (links_at tree target)
links_group tree _ = false

-- ---- a new dataset or attribute

-- one maximum for each size: none below it, and none that is the mark of an unlimited one
abbrev pub is_maximum : ℕ → Option ℕ → Bool
is_maximum d None = true
is_maximum d (Some m) = nat_le d m && not (m == undefined_address)

abbrev pub are_maxima : List ℕ → List (Option ℕ) → Bool
are_maxima [] [] = true
are_maxima [] (m ∷ ms) = false
are_maxima (d ∷ ds) [] = false
are_maxima (d ∷ ds) (m ∷ ms) = is_maximum d m && are_maxima ds ms

-- a chunk size for each dimension: not 0, and not above a maximum other than 0
abbrev pub is_chunk_size : ℕ → Option ℕ → Bool
is_chunk_size c None = nat_lt 0 c
is_chunk_size c (Some m) = nat_lt 0 c && (m == 0 || nat_le c m)

abbrev pub are_chunk_sizes : List ℕ → List (Option ℕ) → Bool
are_chunk_sizes [] [] = true
are_chunk_sizes [] (m ∷ ms) = false
are_chunk_sizes (c ∷ cs) [] = false
are_chunk_sizes (c ∷ cs) (m ∷ ms) = is_chunk_size c m && are_chunk_sizes cs ms

abbrev pub is_store : Store (List ℕ) → List ℕ → List (Option ℕ) → Bool
is_store store.Compact sizes maxima = are_sizes sizes maxima
is_store store.Contiguous sizes maxima = are_sizes sizes maxima
is_store (store.Chunked chunk) sizes maxima = nat_lt 0 (length sizes) && are_chunk_sizes chunk maxima

abbrev pub is_bad_spec : Edit → Bool
is_bad_spec (CreateDataset path s) = nat_lt most_dimensions (length s.dims) || not (are_maxima s.dims s.maxima && is_store s.store s.dims s.maxima)
is_bad_spec (SetAttr path attr) = nat_lt most_dimensions (length attr.dims) || is_no_text attr.name
is_bad_spec _ = false

-- ---- selections and sizes

abbrev pub is_other_rank : Tree → Edit → Bool
is_other_rank tree (Write path hyper values) = option_map_or (λ (d : Dataset). not (has_rank (length d.sizes) hyper)) (dataset_at tree path) false
is_other_rank tree (Resize path dims) = option_map_or (λ (d : Dataset). not (length dims == length d.sizes)) (dataset_at tree path) false
is_other_rank tree _ = false

abbrev pub some_axis : (Slab → Bool) → Edit → Bool
some_axis test (Write path hyper values) = test (axes_of hyper)
some_axis test _ = false

abbrev pub is_outside : Tree → Edit → Bool
is_outside tree (Write path hyper values) = option_map_or (λ (d : Dataset). not (is_within d.sizes (axes_of hyper))) (dataset_at tree path) false
is_outside tree _ = false

abbrev pub is_chunked : Storage → Bool
is_chunked (Chunked sizes) = true
is_chunked _ = false

abbrev pub not_chunked : Tree → Edit → Bool
not_chunked tree (Resize path dims) = option_map_or (λ (d : Dataset). not (is_chunked d.storage)) (dataset_at tree path) false
not_chunked tree _ = false

-- a size is above its maximum
abbrev pub some_above : List ℕ → List (Option ℕ) → Bool
some_above [] maxima = false
some_above (d ∷ ds) [] = false
some_above (d ∷ ds) (m ∷ ms) = option_map_or (λ n. nat_lt n d) m false || some_above ds ms

abbrev pub is_above : Tree → Edit → Bool
is_above tree (Resize path dims) = option_map_or (λ (d : Dataset). some_above dims d.maxima) (dataset_at tree path) false
is_above tree _ = false

-- ---- limits

abbrev pub chunk_is_large : Store (List ℕ) → ℕ → Bool
chunk_is_large (store.Chunked chunk) size = nat_lt most_chunk_bytes (cells chunk * size)
chunk_is_large _ size = false

abbrev pub has_large_chunk : Edit → Bool
has_large_chunk (CreateDataset path s) = chunk_is_large s.store (s.fixed).size
has_large_chunk _ = false

abbrev pub compact_is_large : Store (List ℕ) → ℕ → Bool
compact_is_large store.Compact bytes = nat_lt most_compact_bytes bytes
compact_is_large _ bytes = false

abbrev pub has_large_data : Edit → Bool
has_large_data (CreateDataset path s) = compact_is_large s.store (cells s.dims * (s.fixed).size)
has_large_data _ = false

abbrev pub has_many_cells : Edit → Bool
has_many_cells (CreateDataset path s) = nat_lt most_cells (extent_cells s.dims)
has_many_cells (SetAttr path attr) = nat_lt most_cells (extent_cells attr.dims)
has_many_cells (Resize path dims) = nat_lt most_cells (extent_cells dims)
has_many_cells _ = false

-- Not one value for each cell. Where the rules before this one don't hold, the product of an edit's axes is the number of its selected
-- cells (proved as `length-selection`).
abbrev pub has_other_count : Edit → Bool
has_other_count (SetAttr path attr) = not (length attr.values == cells attr.dims)
has_other_count (Write path hyper values) = not (length values == selected_cells (axes_of hyper))
has_other_count _ = false

abbrev pub some_value_outside : Tree → Edit → Bool
some_value_outside tree (CreateDataset path s) = not (fits s.fixed s.fill)
some_value_outside tree (SetAttr path attr) = not (list_all (fits attr.fixed) attr.values)
some_value_outside tree (Write path hyper values) = option_map_or (λ (d : Dataset). not (list_all (fits d.fixed) values)) (dataset_at tree path) false
some_value_outside tree _ = false

abbrev pub has_large_body : Edit → Bool
has_large_body (SetAttr path attr) = nat_lt most_body_bytes (attribute_size (length attr.name) attr.dims (attr.fixed).size)
has_large_body _ = false

abbrev pub has_no_attribute : Tree → Edit → Bool
has_no_attribute tree (RemoveAttr path name) =
    option_map_or (λ (o : Object). not (contains_key o.attributes name)) (option_and_then (get tree) (object_at tree path)) false
has_no_attribute tree _ = false

abbrev pub has_many_links : Tree → Edit → Bool
has_many_links tree (HardLink target path) = option_map_or (λ number. nat_le most_hard_links (hard_links tree number)) (object_at tree target) false
has_many_links tree _ = false

-- the next object's number is past the last
abbrev pub has_many_objects : ℕ → Edit → Bool
has_many_objects next (CreateGroup path) = nat_le most_numbers next
has_many_objects next (CreateDataset path spec) = nat_le most_numbers next
has_many_objects next _ = false

-- ---- the table

-- the rules in their order, and whether each holds
abbrev pub rules_of : Tree → ℕ → Edit → List (EditFault × Bool)
rules_of tree next edit =
    (fault.BadPath, some_path (λ p. is_none (names_of p)) edit || bad_text edit)
    ∷ (fault.PathTooDeep, some_path is_deep edit)
    ∷ (fault.IsRoot, list_any is_root (new_path edit) || unlinks_root edit)
    ∷ (fault.NoSuchParent, some_path (λ p. has_no_parent (location_of tree p)) edit)
    ∷ (fault.NotAGroup, some_path (λ p. has_no_group (location_of tree p)) edit)
    ∷ (fault.NotFound, not_found tree edit)
    ∷ (fault.AlreadyThere, list_any (λ p. is_here (location_of tree p)) (new_path edit))
    ∷ (fault.NameTooLong, is_long edit)
    ∷ (fault.NotADataset, not_a_dataset tree edit)
    ∷ (fault.GroupLink, links_group tree edit)
    ∷ (fault.BadSpec, is_bad_spec edit)
    ∷ (fault.RankMismatch, is_other_rank tree edit)
    ∷ (fault.StrideZero, some_axis (list_any has_no_stride) edit)
    ∷ (fault.BlocksOverlap, some_axis (list_any overlaps) edit)
    ∷ (fault.OutOfExtent, is_outside tree edit)
    ∷ (fault.NotChunked, not_chunked tree edit)
    ∷ (fault.AboveMaximum, is_above tree edit)
    ∷ (fault.ChunkTooLarge, has_large_chunk edit)
    ∷ (fault.CompactTooLarge, has_large_data edit)
    ∷ (fault.TooManyCells, has_many_cells edit)
    ∷ (fault.ValueCount, has_other_count edit)
    ∷ (fault.ValueRange, some_value_outside tree edit)
    ∷ (fault.AttributeTooLarge, has_large_body edit)
    ∷ (fault.NoSuchAttribute, has_no_attribute tree edit)
    ∷ (fault.TooManyLinks, has_many_links tree edit)
    ∷ (fault.TooManyObjects, has_many_objects next edit)
    ∷ []

-- the first rule that holds
abbrev pub first_holding : List (EditFault × Bool) → Option EditFault
first_holding [] = None
first_holding (rule ∷ rules) = if rule.1 then Some rule.0 else first_holding rules

-- why the edit is refused, if it is; the object numbers below next were given out
unfoldable pub refusal_of : Tree → ℕ → Edit → Option EditFault
refusal_of tree next edit = first_holding (rules_of tree next edit)
