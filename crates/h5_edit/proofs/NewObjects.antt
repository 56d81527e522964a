-- New groups and arrays as they are added to an opened image: how many bytes they have, and what has to hold before (File Format
-- Specification 3.0, sections III.A.1, III.D and IV.A).
use Rattle.std.proofs.Common.{◌≡◌, ℕ, ◌+◌, ◌*◌, ◌<◌, Bool, true, false, List, [], ◌++◌, length, replicate, take, drop, Option, None, refl, sym, ap, ap₂, ◌∙◌, subst, arith, length-append}
use Rattle.std.specs.Prelude.{nat_lt, if◌then◌else◌}
use Rattle.std.specs.List.{AllZip}
use Rattle.std.specs.FinMap.{empty}
use Rattle.std.proofs.lemmas.Bool.Decides.{nat_tests}
use Rattle.std.proofs.lemmas.List.{take-append-drop}
use Rattle.h5_model.specs.Format.Limits.{most_numbers}
use Rattle.h5_model.specs.Edits.Applied.{new_dataset, new_object}
use Rattle.h5_model.specs.Edits.Bounds.{contiguous_data, new_header}
use Rattle.h5_model.specs.Edits.Refusal.{refusal_of}
use Rattle.h5_model.specs.Format.Fixed.{IsFixed}
use Rattle.h5_model.specs.Format.Layout.{Layout, InMessage, InBlock, InChunks}
use Rattle.h5_model.specs.Format.Plain.{cells_bytes}
use Rattle.h5_model.specs.Format.PlainLength.{data_bytes}
use Rattle.h5_model.specs.Format.Described.{Described}
use Rattle.h5_model.specs.Tree.Objects.{Tree, Array}
use Rattle.h5_model.specs.Tree.Places.{cells}
use Rattle.h5_model.specs.declared.dataset.Spec.{Spec}
use Rattle.h5_model.specs.declared.dataset.Store.{Store}
use Rattle.h5_model.specs.declared.dataset.Store.TheVariants as store
use Rattle.h5_model.specs.declared.edits.Edit.TheVariants.{CreateGroup, CreateDataset}
use Rattle.h5_model.proofs.RefusalLaws.{has_number}
use Rattle.h5_model.proofs.SizeLaws.{header_size-new_dataset}
use Rattle.h5_query.specs.ContentBytesType.{ContentBytes}
use Rattle.h5_query.specs.ContentBytesType.TheVariants as bytes
use Rattle.h5_query.specs.ObjectAdded.{stored_content, object_bytes}
use Rattle.h5_query.specs.ObjectBytesType.{ObjectBytes}
use Rattle.h5_repack.specs.Blocks.ArrayHeader.{cells_written, has_data, header_written}
use Rattle.h5_repack.specs.Blocks.Others.{OthersBytes}
use Rattle.h5_repack.specs.Blocks.Written.{AreOthers}
use Rattle.h5_repack.specs.Bodies.Sound.{IsBound}
use Rattle.h5_repack.specs.Layout.{IsArrayObject, StoredObject}
use Rattle.h5_repack.specs.Objects.Objects.{IsNewArray}
use Rattle.h5_repack.specs.declared.blocks.cells.Cells.TheVariants.{Filled}
use Rattle.h5_repack.proofs.Sizes.{array_bytes, array_header_size}
use Rattle.h5_edit.specs.Changed.Cells.{new_count}
use Rattle.h5_edit.proofs.FitLaws.NewArrays.{IsSoundSpec, plain_new_object}
use Rattle.h5_edit.proofs.FitLaws.PlainObjects.{no_others}

-- ---- the cells of a new array

-- what is written of them behind the header: none of it is a chunk, so that it doesn't tell chunk K
abbrev pub filled_data : Described → List ℕ
filled_data a = if has_data a Filled then cells_written Filled a else []

-- those in a block of their own are that
pub new_data : (a : Described) → cells_bytes a.fixed (replicate (new_count a) a.fill) ≡ filled_data a
new_data a = by_layout a.layout where
  in_block : (stored : Bool) → nat_lt 0 (cells a.sizes) ≡ stored → cells_bytes a.fixed (replicate (cells a.sizes) a.fill)
      ≡ (if stored then cells_bytes a.fixed (replicate (cells a.sizes) a.fill) else [])
  in_block true some = refl
  in_block false none =
      let empty : cells a.sizes ≡ 0 = grind (arith, nat_tests, none) in
      ap (λ (n : ℕ). cells_bytes a.fixed (replicate n a.fill)) empty

  by_layout : (l : Layout) → cells_bytes a.fixed (replicate (new_count (record a { layout = l })) a.fill) ≡ filled_data (record a { layout = l })
  by_layout (InMessage bytes) = refl
  by_layout (InBlock b) = in_block (nat_lt 0 (cells a.sizes)) refl
  by_layout (InChunks chunk root) = refl

-- ---- how many bytes it has

-- no chunk of it is stored, whatever chunk K is
data_counted : (k : ℕ) (spec : Spec) → data_bytes k 0 (new_dataset spec) ≡ contiguous_data spec
data_counted k spec = by_store spec.store where
  by_stored : (stored : Bool) → nat_lt 0 (cells spec.dims) ≡ stored → (if stored then cells spec.dims * (spec.fixed).size else 0) ≡ cells spec.dims * (spec.fixed).size
  by_stored true some = refl
  by_stored false none =
      let empty : cells spec.dims ≡ 0 = grind (arith, nat_tests, none) in
      let zero : cells spec.dims * (spec.fixed).size ≡ 0 * (spec.fixed).size = ap (λ (n : ℕ). n * (spec.fixed).size) empty in
      omega (arith, zero)

  by_store : (s : Store (List ℕ)) → data_bytes k 0 (new_dataset (record spec { store = s })) ≡ contiguous_data (record spec { store = s })
  by_store store.Compact = refl
  by_store store.Contiguous = by_stored (nat_lt 0 (cells spec.dims)) refl
  by_store (store.Chunked chunk) = refl

-- the object, no chunk of which is stored
abbrev pub new_stored : Spec → StoredObject
new_stored spec = record { object = new_object (Array (new_dataset spec)); chunks = [] }

module _ (spec : Spec) (is : IsSoundSpec spec) (fixed : IsFixed spec.fixed) (bounds : AllZip IsBound spec.dims spec.maxima) (array : Described)
    (new : IsNewArray array Filled (new_dataset spec)) (others : OthersBytes) (none : AreOthers [] others) where
  -- it can be written
  abbrev pub new_held : IsArrayObject array Filled others (new_stored spec)
  new_held = record {
    dataset = new_dataset spec;
    content = refl;
    array_is = new;
    chunks_are = refl;
    others_are = subst (λ ms. AreOthers ms others) (sym (no_others (Array (new_dataset spec)))) none;
    plain = plain_new_object spec is fixed bounds;
  }

  -- its header and its data, wherever they stand
  pub new_header_length : (count : ℕ) (address : Option ℕ) → length (header_written count array Filled others address) ≡ new_header spec
  new_header_length count address = array_header_size array Filled others (new_stored spec) new_held count address ∙ header_size-new_dataset spec

  pub new_data_length : length (filled_data array) ≡ contiguous_data spec
  new_data_length = array_bytes array Filled others (new_stored spec) new_held 1 (omega arith) 0 ∙ data_counted 1 spec

  -- the cells in a block of their own
  pub new_cells_length : length (cells_bytes spec.fixed (replicate (new_count array) spec.fill)) ≡ contiguous_data spec
  new_cells_length =
      ap₂ (λ t v. length (cells_bytes t (replicate (new_count array) v))) (sym new.fixed_is) (sym new.fill_is) ∙ ap length (new_data array) ∙ new_data_length

  -- and in all
  pub new_object_length : (b : ObjectBytes) (address : Option ℕ) → b.header.now ≡ header_written 1 array Filled others address
      → b.content ≡ bytes.Cells spec.fixed spec.fill (new_count array) → length (object_bytes b) ≡ new_header spec + contiguous_data spec
  new_object_length b address header content =
      length-append b.header.now (stored_content b.content)
      ∙ ap₂ (λ m n. m + n) (ap length header ∙ new_header_length 1 address) (ap (λ (c : ContentBytes). length (stored_content c)) content ∙ new_cells_length)

-- ---- a group

-- its bytes, cut behind the header
pub group_length : (b : ObjectBytes) (all : List ℕ) → b.header.now ≡ take 40 all → stored_content b.content ≡ drop 40 all → length (object_bytes b) ≡ length all
group_length b all header content = ap₂ (λ (x y : List ℕ). length (x ++ y)) header content ∙ ap length (take-append-drop 40 all)

-- ---- a number is left for it

pub group_few : (tree : Tree) (next : ℕ) (path : List ℕ) → refusal_of tree next (CreateGroup path) ≡ None → next < most_numbers
group_few tree next path accepted = let left = has_number tree next (CreateGroup path) accepted in grind (arith, nat_tests, left)

pub array_few : (tree : Tree) (next : ℕ) (path : List ℕ) (spec : Spec) → refusal_of tree next (CreateDataset path spec) ≡ None → next < most_numbers
array_few tree next path spec accepted = let left = has_number tree next (CreateDataset path spec) accepted in grind (arith, nat_tests, left)
