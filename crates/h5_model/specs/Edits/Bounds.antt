-- How many bytes at most an edit in place adds to the image, by its tree and by what the image says of the edit.
use Rattle.std.specs.Prelude.{ℕ, ◌+◌, ◌*◌, ◌==◌, ◌&&◌, not, nat_lt, if◌then◌else◌, List, [], map, filter, length}
use Rattle.std.specs.Option.{option_map_or}
use Rattle.h5_bytes.specs.Texts.{pad8}
use Rattle.h5_model.specs.Tree.Places.{cells}
use Rattle.h5_model.specs.Tree.Grid.{boxes_of, first_of_box, some_in_box}
use Rattle.h5_model.specs.Views.Selection.{Slab, axes_of, selection_of}
use Rattle.h5_model.specs.Tree.Objects.{Tree, Dataset, Storage, Compact, Contiguous, Chunked}
use Rattle.h5_model.specs.Tree.Paths.{names_of, last_of, dataset_at}
use Rattle.h5_model.specs.Edits.Applied.{new_storage}
use Rattle.h5_model.specs.Edits.Facts.{Facts}
use Rattle.h5_model.specs.Format.Sizes.{group_node, chunk_node, symbol_node, text_span, attribute_size, array_messages_size}
use Rattle.h5_model.specs.Format.Superblock.{chunk_k_of}
use Rattle.h5_model.specs.Views.Shown.{is_touched}
use Rattle.h5_model.specs.declared.attribute.AttrSpec.{AttrSpec}
use Rattle.h5_model.specs.declared.dataset.Spec.{Spec}
use Rattle.h5_model.specs.declared.dataset.Store.{Store}
use Rattle.h5_model.specs.declared.dataset.Store.TheVariants as store
use Rattle.h5_model.specs.declared.edits.Edit.{Edit}
use Rattle.h5_model.specs.declared.edits.Edit.TheVariants.{CreateGroup, CreateDataset, HardLink, SoftLink, Unlink, SetAttr, RemoveAttr, Write, Resize}

-- what the last name of a path occupies
abbrev pub name_span : List ℕ → ℕ
name_span path = option_map_or (λ names. text_span (last_of names)) (names_of path) 0

-- a link whose name and text occupy so many bytes
abbrev pub link_bound : Facts → ℕ → ℕ
link_bound f occupied = 17 * group_node (f.k).internal + symbol_node (f.k).leaf + 2 * f.heap + occupied + 16

-- the header of a new dataset with its prefix, and its data
abbrev pub new_header : Spec → ℕ
new_header s = 16 + array_messages_size 0 s.dims s.maxima (new_storage s.dims s.store) (s.fixed).size

abbrev pub contiguous_data : Spec → ℕ
contiguous_data s = of_store s.store where
  of_store : Store (List ℕ) → ℕ
  of_store store.Contiguous = cells s.dims * (s.fixed).size
  of_store _ = 0

-- the chunks that hold a written cell and are not stored, by their offsets, in ascending order
abbrev pub new_chunks : Facts → Edit → Dataset → List (List ℕ)
new_chunks f edit d = of_storage d.storage where
  of_storage : Storage → List (List ℕ)
  of_storage (Chunked box) =
      map (first_of_box box)
      (filter (λ at. some_in_box box (is_touched edit d.sizes) at && not (f.is_stored (first_of_box box at))) (boxes_of d.sizes box))
  of_storage _ = []

-- m new chunks
abbrev pub chunks_bound : ℕ → ℕ → ℕ → ℕ → ℕ
chunks_bound k rank bytes m = if m == 0 then 0 else m * (bytes + 17 * chunk_node k rank) + chunk_node k rank

abbrev pub write_bound : Facts → Edit → Slab → Dataset → ℕ
write_bound f edit slab d = of_storage d.storage where
  of_storage : Storage → ℕ
  of_storage Compact = 0
  of_storage (Contiguous stored) = if not stored && nat_lt 0 (length (selection_of d.sizes slab)) then cells d.sizes * (d.fixed).size else 0
  of_storage (Chunked chunk) = chunks_bound (chunk_k_of f.k) (length d.sizes) (cells chunk * (d.fixed).size) (length (new_chunks f edit d))

-- an attribute's body, raised to a multiple of 8
abbrev pub attribute_bound : AttrSpec → ℕ
attribute_bound a = pad8 (attribute_size (length a.name) a.dims (a.fixed).size) + 32

unfoldable pub bound_of : Facts → Tree → Edit → ℕ
bound_of f tree (CreateGroup path) = link_bound f (name_span path) + group_node (f.k).internal + 160
bound_of f tree (CreateDataset path s) = link_bound f (name_span path) + new_header s + contiguous_data s
bound_of f tree (HardLink target path) = link_bound f (name_span path)
bound_of f tree (SoftLink text path) = link_bound f (name_span path + text_span text)
bound_of f tree (Unlink path) = 0
bound_of f tree (SetAttr path attr) = attribute_bound attr
bound_of f tree (RemoveAttr path name) = 0
bound_of f tree (Write path hyper values) = option_map_or (write_bound f (Write path hyper values) (axes_of hyper)) (dataset_at tree path) 0
bound_of f tree (Resize path dims) = if f.has_maxima then 0 else 40 + 16 * length dims
