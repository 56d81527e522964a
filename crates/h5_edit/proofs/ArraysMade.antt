-- A new array made in place, by the bytes that were written of it (File Format Specification 3.0, sections III.A.1, IV.A and IV.A.2).
use Rattle.std.proofs.Common.{◌≡◌, inl, ℕ, ◌+◌, ◌*◌, ◌<◌, ◌≤◌, ◌^◌, ◌-◌, Bool, true, false, List, [], ◌++◌, length, Option, Some, None, refl, sym, ap, ◌∙◌, subst, arith}
use Rattle.std.specs.Prelude.{MatchResult, Result, if◌then◌else◌}
use Rattle.std.specs.List.{AllZip}
use Rattle.h5_btree.specs.declared.insertion.InsertFault.{InsertFault}
use Rattle.h5_laws.specs.Trees.Sound.{IsSoundTree}
use Rattle.h5_model.specs.Edits.Applied.{new_dataset, new_object}
use Rattle.h5_model.specs.Edits.Bounds.{contiguous_data, new_header}
use Rattle.h5_model.specs.Format.Fixed.{IsFixed}
use Rattle.h5_model.specs.Format.Described.{Described}
use Rattle.h5_model.specs.Format.Limits.{most_bytes}
use Rattle.h5_model.specs.Tree.Objects.{Object, Array}
use Rattle.h5_model.specs.Tree.Places.{cells}
use Rattle.h5_model.specs.declared.dataset.Spec.{Spec}
use Rattle.h5_model.specs.declared.edits.Edit.TheVariants.{CreateDataset}
use Rattle.h5_model.proofs.EditLaws.{length-are_maxima}
use Rattle.h5_query.specs.ContentBytesType.TheVariants as bytes
use Rattle.h5_query.specs.ObjectAdded.{IsToBeMade, object_bytes, place_in, tree_with}
use Rattle.h5_query.specs.ObjectBytesType.{ObjectBytes}
use Rattle.h5_query.specs.Opened.Sound.{IsSound}
use Rattle.h5_query.specs.Opened.State.{FileState}
use Rattle.h5_repack.specs.Blocks.ArrayHeader.{FitsLayout, IsArrayToWrite, IsLength, address_written, has_data, header_written}
use Rattle.h5_repack.specs.Blocks.Others.{OthersBytes}
use Rattle.h5_repack.specs.Blocks.Written.{AreOthers, HasRoom}
use Rattle.h5_repack.specs.Bodies.Sound.{IsBound, IsPlainArray}
use Rattle.h5_repack.specs.Objects.Objects.{IsNewArray}
use Rattle.h5_repack.specs.declared.blocks.cells.Cells.{Cells}
use Rattle.h5_repack.specs.declared.blocks.cells.Cells.TheVariants.{Filled}
use Rattle.h5_repack.proofs.Sizes.{array_bounded, array_fits, array_writable}
use Rattle.h5_edit.specs.Answers.{added_answer}
use Rattle.h5_edit.specs.Carried.{IsRefused}
use Rattle.h5_edit.specs.Changed.Cells.{new_count}
use Rattle.h5_edit.specs.Edited.{IsEdited}
use Rattle.h5_edit.specs.Refusals.Allowed.{IsPlaceAllowed}
use Rattle.h5_edit.specs.declared.rules.place.NewPlace.{NewPlace}
use Rattle.h5_edit.proofs.ArrayToMake.{array_to_make}
use Rattle.h5_edit.proofs.FitLaws.NewArrays.{IsSoundSpec, accepted_spec, plain_new_array}
use Rattle.h5_edit.proofs.LinkFacts.{array_edit}
use Rattle.h5_edit.proofs.NewObjects.{filled_data, new_data_length, new_header_length, new_held, new_object_length, new_stored}
use Rattle.h5_edit.proofs.ObjectsMade.{IsObjectAdded, object_asked, object_made}

-- where the cells stand, if they stand anywhere
pub address_low : (array : Described) (place : ℕ) (address : Option ℕ) → address ≡ address_written array Filled place → place ≤ most_bytes → (at : ℕ) → address ≡ Some at → at < 2 ^ 64 - 1
address_low array place address is low at here = by_test (has_data array Filled) (sym is ∙ here) where
  by_test : (b : Bool) → (if b then Some place else None) ≡ Some at → at < 2 ^ 64 - 1
  by_test true same = let one : place ≡ at = cc in omega (arith, one, low)
  by_test false same = absurd (cc)

module _ (f : FileState) {path : List ℕ} {spec : Spec} {place : NewPlace} (placed : IsPlaceAllowed f.tree f.next path (CreateDataset path spec) place) (fixed : IsFixed spec.fixed)
    (bounds : AllZip IsBound spec.dims spec.maxima) where
  formed : IsSoundSpec spec
  formed = accepted_spec f.tree f.next path spec placed.allowed

  pub array_plain : (others : ℕ) × IsPlainArray (new_dataset spec) others
  array_plain = (0, plain_new_array spec formed 0 fixed bounds (omega arith))

  -- it can be written
  module _ (array : Described) (new : IsNewArray array Filled (new_dataset spec)) (others : OthersBytes) (none : AreOthers [] others) where
    pub array_same : length array.maxima ≡ length array.sizes
    array_same = length-are_maxima array.sizes array.maxima (array_bounded array Filled others (new_stored spec) (new_held spec formed fixed bounds array new others none))

    pub array_room : FitsLayout (cells array.sizes * (array.fixed).size) array.layout
    array_room = array_fits array Filled others (new_stored spec) (new_held spec formed fixed bounds array new others none)

    pub array_ready : IsArrayToWrite array Filled
    array_ready = array_writable array Filled others (new_stored spec) (new_held spec formed fixed bounds array new others none)

    -- how many bytes its header and its cells have
    module _ (header : ℕ) (rest : Option ℕ) (exact : (c : Cells) (n : ℕ) (address : Option ℕ) → HasRoom c (cells array.sizes * (array.fixed).size)
        → header ≡ length (header_written n array c others address)) (measured : (at : ℕ) → IsLength rest (length (filled_data array))) where
      pub header_is : header ≡ new_header spec
      header_is = exact Filled 1 None tt ∙ new_header_length spec formed fixed bounds array new others none 1 None

      pub data_is : IsLength rest (contiguous_data spec)
      data_is = subst (IsLength rest) (new_data_length spec formed fixed bounds array new others none) (measured 0)

      pub array_counted : header + contiguous_data spec ≡ new_header spec + contiguous_data spec
      array_counted = ap (λ n. n + contiguous_data spec) header_is

      -- where it stands, and its bytes
      module _ (sound : IsSound f) (b : ObjectBytes) (at count : ℕ) (address : Option ℕ) (before out : List ℕ)
          (stands : (long : ℕ) → IsLength rest long → (at ≡ place_in f (header + long)) × (at + (header + long) ≤ most_bytes)) (address_is : address ≡ address_written array Filled (at + header))
          (empty : before ≡ []) (written : out ≡ before ++ header_written 1 array Filled others address) (head : b.header.now ≡ out) (counted : count ≡ new_count array)
          (content : b.content ≡ bytes.Cells spec.fixed spec.fill count) where
        own_header : b.header.now ≡ header_written 1 array Filled others address
        own_header = head ∙ written ∙ ap (λ (xs : List ℕ). xs ++ header_written 1 array Filled others address) empty

        own_content : b.content ≡ bytes.Cells spec.fixed spec.fill (new_count array)
        own_content = content ∙ ap (bytes.Cells spec.fixed spec.fill) counted

        whole : length (object_bytes b) ≡ new_header spec + contiguous_data spec
        whole = new_object_length spec formed fixed bounds array new others none b address own_header own_content

        behind : header ≡ length b.header.now
        behind = exact Filled 1 address tt ∙ sym (ap length own_header)

        made : IsToBeMade f b (new_object (Array (new_dataset spec)))
        made =
            let there = stands (contiguous_data spec) data_is in
            array_to_make f b at spec array others formed fixed bounds new none
            (own_header ∙ ap (header_written 1 array Filled others) (address_is ∙ ap (λ n. address_written array Filled (at + n)) behind)) own_content
            (there.0 ∙ ap (place_in f) (array_counted ∙ sym whole)) (subst (λ n. at + n ≤ most_bytes) (array_counted ∙ sym whole) there.1)

        pub array_good : (o : Object) × IsToBeMade f b o × IsSoundTree (tree_with f.tree place.parent place.name.now f.next o)
        array_good = object_asked f sound placed (inl refl) (new_object (Array (new_dataset spec))) (new_header spec + contiguous_data spec) refl (λ table n. array_edit f table n placed) b whole made

        pub array_added : (number : ℕ) → number ≡ f.next → (now : FileState) (r : Result (Unit {0}) InsertFault) → IsObjectAdded f place b now r
            → MatchResult (added_answer r number) (IsEdited f (CreateDataset path spec) now) (λ e. IsRefused f (CreateDataset path spec) e × (now ≡ f))
        array_added number next now r added = object_made f sound placed (inl refl) (new_object (Array (new_dataset spec))) (new_header spec + contiguous_data spec) refl
            (λ table n. array_edit f table n placed) b whole made number next now r added
