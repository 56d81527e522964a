-- What a view of an array keeps once an edit of it was followed.
use Rattle.std.proofs.Common.{◌≡◌, ℕ, zero, suc, ◌+◌, ◌*◌, ◌<◌, ◌≤◌, ◌&&◌, Bool, true, false, cond, List, length, ℤ, Option, Some, None, refl, sym, ap, ◌∙◌, subst, arith}
use Rattle.std.proofs.lemmas.List.{length-map}
use Rattle.std.specs.Option.{option_and_then}
use Rattle.std.proofs.lemmas.Bool.{and_parts}
use Rattle.std.proofs.lemmas.Option.{same_Some}
use Rattle.h5_model.specs.Edits.Applied.{cell_or_fill, with_sizes, with_selection, written_storage}
use Rattle.h5_model.specs.Edits.Refusal.{is_chunked, refusal_of}
use Rattle.h5_model.specs.Format.Fixed.{Fixed, bytes_of}
use Rattle.h5_model.specs.Format.Limits.{most_cells}
use Rattle.h5_model.specs.Tree.Objects.{Tree, Dataset, dataset_of, Storage, Compact, Contiguous, Chunked}
use Rattle.h5_model.specs.Tree.Paths.{dataset_at}
use Rattle.h5_model.specs.Tree.Places.{cells}
use Rattle.h5_model.specs.Tree.Sound.{IsDataset}
use Rattle.h5_model.specs.Views.Selection.{Slab, Within, axes_of, is_one_run, is_within, selected_cells, selection_of}
use Rattle.h5_model.specs.Views.Shown.{box_of, is_in_line, is_lent, is_touched, met_boxes, met_of}
use Rattle.h5_model.specs.Tree.Grid.{corner_of, first_of_box}
use Rattle.h5_model.specs.declared.hyperslab.Hyper.{Hyper}
use Rattle.h5_model.specs.declared.edits.Edit.{Edit}
use Rattle.h5_model.specs.declared.edits.Edit.TheVariants.{CreateGroup, CreateDataset, HardLink, SoftLink, Unlink, SetAttr, RemoveAttr, Write, Resize}
use Rattle.h5_model.proofs.PlaceLaws.{place_below, inside_of}
use Rattle.h5_model.proofs.Members.{In, in_contains}
use Rattle.h5_shape.specs.MetFirsts.{met_firsts}
use Rattle.h5_shape.specs.PartCells.{selected_index}
use Rattle.h5_shape.proofs.MetLaws.{none_met}
use Rattle.h5_file.specs.OpenViews.{IsKeptAfter, IsKeptOf, IsMetPatched, patches_in}
use Rattle.h5_file.specs.Patched.{AreKeptCells, ArePatched, KeptState, kept_cell}
use Rattle.h5_file.specs.Touched.{HasBoxes, IsTouching, IsTouchOf, met_with, sizes_before}
use Rattle.h5_file.specs.declared.touched.Touched.{Touched}
use Rattle.h5_file.specs.declared.touched.Touched.TheVariants.{Written, Lost}
use Rattle.h5_file.proofs.AcceptedEdits.{resize_chunked, resize_rank, write_allowed}
use Rattle.h5_file.proofs.EditedArrays.{change_of, changed_array, untouched_cell}
use Rattle.h5_file.proofs.FollowLaws.{length-box}
use Rattle.h5_file.proofs.Refreshed.{kept_refreshed, touched_inside}

-- ---- the type stays

pub type_kept : (edit : Edit) (d : Dataset) → (change_of edit d).fixed ≡ d.fixed
type_kept (CreateGroup path) d = refl
type_kept (CreateDataset path spec) d = refl
type_kept (HardLink target path) d = refl
type_kept (SoftLink text path) d = refl
type_kept (Unlink path) d = refl
type_kept (SetAttr path attr) d = refl
type_kept (RemoveAttr path name) d = refl
type_kept (Write path hyper values) d = refl
type_kept (Resize path dims) d = refl

-- ---- an accepted write or resize of an array

pub record IsChange (edit : Edit) (old new : Dataset) (touched : Touched) : Type 0 where
  pub is : new ≡ change_of edit old
  pub ranked : length new.sizes ≡ length old.sizes
  pub chunked : is_chunked new.storage ≡ is_chunked old.storage
  pub boxed : box_of new ≡ box_of old
  pub touch : IsTouchOf new touched
  pub few : cells new.sizes ≤ most_cells → cells (sizes_before new touched) ≤ most_cells
  pub met : (slab : Slab) → met_with new touched slab ≡ met_firsts old.sizes (box_of old) (is_touched edit old.sizes) slab
  pub stays : (slab : Slab) → is_lent old slab ≡ true → is_lent new slab ≡ true

box_sizes : (d : Dataset) → is_chunked d.storage ≡ false → box_of d ≡ d.sizes
box_sizes d = by_storage d.storage where
  by_storage : (s : Storage) → is_chunked s ≡ false → box_of (record d { storage = s }) ≡ d.sizes
  by_storage Compact differs = refl
  by_storage (Contiguous stored) differs = refl
  by_storage (Chunked chunk) differs = absurd (let never : true ≡ false = differs in cc)

-- a write leaves its cells where they stand
in_line_stays : (places : List ℕ) (s : Storage) → is_in_line s ≡ true → is_in_line (written_storage places s) ≡ true
in_line_stays places Compact is = refl
in_line_stays places (Contiguous true) is = refl
in_line_stays places (Contiguous false) is = absurd (let never : false ≡ true = is in cc)
in_line_stays places (Chunked chunk) is = absurd (let never : false ≡ true = is in cc)

write_lent : (slab' slab : Slab) (values : List ℤ) (d : Dataset) → is_lent d slab ≡ true → is_lent (with_selection slab' values d) slab ≡ true
write_lent slab' slab values d is =
    let stored : is_in_line d.storage ≡ true = (and_parts (is_in_line d.storage) _ is).0 in
    let rest : (is_within d.sizes slab && is_one_run d.sizes slab) ≡ true = sym (ap (λ b. b && (is_within d.sizes slab && is_one_run d.sizes slab)) stored) ∙ is in
    rw (in_line_stays (selection_of d.sizes slab') d.storage stored) rest

write_boxed : (slab : Slab) (values : List ℤ) (d : Dataset) → box_of (with_selection slab values d) ≡ box_of d
write_boxed slab values d = by_storage d.storage where
  by_storage : (s : Storage) → box_of (record (with_selection slab values d) { storage = written_storage (selection_of d.sizes slab) s }) ≡ box_of (record d { storage = s })
  by_storage Compact = refl
  by_storage (Contiguous stored) = refl
  by_storage (Chunked chunk) = refl

write_chunked : (places : List ℕ) (s : Storage) → is_chunked (written_storage places s) ≡ is_chunked s
write_chunked places Compact = refl
write_chunked places (Contiguous stored) = refl
write_chunked places (Chunked chunk) = refl

module _ (tree : Tree) (next : ℕ) (path : List ℕ) (old : Dataset) (found : dataset_at tree path ≡ Some old) where
  write_change : (hyper : Hyper) (values : List ℤ) → refusal_of tree next (Write path hyper values) ≡ None
      → IsChange (Write path hyper values) old (with_selection (axes_of hyper) values old) (Written (axes_of hyper))
  write_change hyper values allowed =
      let w = write_allowed tree next path hyper values allowed in
      let same : w.array ≡ old = same_Some _ _ (sym w.found ∙ found) in
      record {
        is = refl;
        ranked = refl;
        chunked = write_chunked (selection_of old.sizes (axes_of hyper)) old.storage;
        boxed = write_boxed (axes_of hyper) values old;
        touch = (w.ranked ∙ ap (λ (d : Dataset). length d.sizes) same, subst (λ (d : Dataset). Within d.sizes (axes_of hyper)) same w.within);
        few = λ few. few;
        met = λ slab. ap (λ box. met_firsts old.sizes box (is_touched (Write path hyper values) old.sizes) slab) (write_boxed (axes_of hyper) values old);
        stays = λ slab lent. write_lent (axes_of hyper) slab values old lent;
      }

  resize_change : (dims : List ℕ) → refusal_of tree next (Resize path dims) ≡ None → cells old.sizes ≤ most_cells
      → IsChange (Resize path dims) old (with_sizes dims old) (Lost old.sizes dims)
  resize_change dims allowed few =
      let rank = resize_rank tree next path dims allowed old found in
      let same = by_storage old.storage (resize_chunked tree next path dims allowed old found) in
      record {
        is = refl;
        ranked = rank;
        chunked = refl;
        boxed = same.0;
        touch = (sym rank, refl);
        few = λ _. few;
        met = λ slab. ap (λ box. met_firsts old.sizes box (is_touched (Resize path dims) old.sizes) slab) same.0;
        stays = λ slab lent. absurd (let never : false ≡ true = sym same.1 ∙ (and_parts (is_in_line old.storage) _ lent).0 in cc);
      } where
        by_storage : (s : Storage) → is_chunked s ≡ true → (box_of (record (with_sizes dims old) { storage = s }) ≡ box_of (record old { storage = s })) × (is_in_line s ≡ false)
        by_storage Compact differs = absurd (let never : false ≡ true = differs in cc)
        by_storage (Contiguous stored) differs = absurd (let never : false ≡ true = differs in cc)
        by_storage (Chunked chunk) holds = (refl, refl)

pub change_at : (tree : Tree) (next : ℕ) (edit : Edit) (touched : Touched) → IsTouching tree edit touched → refusal_of tree next edit ≡ None
    → (number : ℕ) → changed_array tree edit ≡ Some number → (old : Dataset) → dataset_of tree number ≡ Some old → IsChange edit old (change_of edit old) touched
change_at tree next (Write path hyper values) (Written slab) is allowed number at old there =
    subst (λ (s : Slab). IsChange (Write path hyper values) old (with_selection (axes_of hyper) values old) (Written s)) (sym is)
    (write_change tree next path old (ap (option_and_then (dataset_of tree)) at ∙ there) hyper values allowed)
change_at tree next (Write path hyper values) (Lost sizes kept) is allowed number at old there = absurd is
change_at tree next (Resize path dims) (Written slab) is allowed number at old there = absurd is
change_at tree next (Resize path dims) (Lost sizes kept) is allowed number at old there =
    let found : dataset_at tree path ≡ Some old = ap (option_and_then (dataset_of tree)) at ∙ there in
    let same : is.2 ≡ old = same_Some _ _ (sym is.3 ∙ found) in
    let before : sizes ≡ old.sizes = is.4 ∙ ap (λ (d : Dataset). d.sizes) same in
    subst (λ (X : Type 0). X) (λ i. IsChange (Resize path dims) old (with_sizes dims old) (Lost (sym before i) (sym is.0 i)))
    (resize_change tree next path old found dims allowed (subst (λ (ds : List ℕ). cells ds ≤ most_cells) before is.1))
change_at tree next (CreateGroup path) touched is allowed number at old there = absurd is
change_at tree next (CreateDataset path spec) touched is allowed number at old there = absurd is
change_at tree next (HardLink target path) touched is allowed number at old there = absurd is
change_at tree next (SoftLink text path) touched is allowed number at old there = absurd is
change_at tree next (Unlink path) touched is allowed number at old there = absurd is
change_at tree next (SetAttr path attr) touched is allowed number at old there = absurd is
change_at tree next (RemoveAttr path name) touched is allowed number at old there = absurd is

-- ---- what is kept

module _ (edit : Edit) (old new : Dataset) (touched : Touched) (is : IsChange edit old new touched) (sound : IsDataset new) (boxes : HasBoxes new) (slab : Slab)
    (axes : length slab ≡ length old.sizes) where
  type_is : new.fixed ≡ old.fixed
  type_is = ap (λ (d : Dataset). d.fixed) is.is ∙ type_kept edit old

  box_rank : length (box_of old) ≡ length old.sizes
  box_rank = ap length (sym is.boxed) ∙ length-box new sound ∙ is.ranked

  -- where boxes have differs cells, the array has none
  no_cells : cells (box_of old) ≡ 0 → cells old.sizes ≡ 0
  no_cells none = by_test (is_chunked old.storage) refl where
    by_test : (b : Bool) → is_chunked old.storage ≡ b → cells old.sizes ≡ 0
    by_test true holds = let some : 0 < cells (box_of new) = boxes (is.chunked ∙ holds) in let same : cells (box_of new) ≡ cells (box_of old) = ap cells is.boxed in absurd (omega (arith, some, same, none))
    by_test false differs = sym (ap cells (box_sizes old differs)) ∙ none

  cells_followed : (b a : KeptState) (k : ℕ) → AreKeptCells old slab b.bytes → IsMetPatched new touched slab b k a → AreKeptCells new slab a.bytes
  cells_followed b a k kept met = by_size (cells (box_of old)) refl where
    patched : ArePatched new slab (met_firsts old.sizes (box_of old) (is_touched edit old.sizes) slab) (box_of old) b.bytes a.bytes
    patched = subst (λ (X : Type 0). X) (λ i. ArePatched new slab (is.met slab i) (is.boxed i) b.bytes a.bytes) met.bytes

    by_size : (n : ℕ) → cells (box_of old) ≡ n → AreKeptCells new slab a.bytes
    by_size (suc n) some = kept_refreshed edit old new slab (box_of old) b.bytes a.bytes is.is type_is box_rank axes (omega (arith, some)) kept patched
    by_size zero none = record {
      long = patched.long ∙ kept.long ∙ ap (λ (t : Fixed). selected_cells slab * t.size) (sym type_is);
      each = λ at inside.
          let index = selected_index slab at in
          let nothing = none_met old.sizes (box_of old) (is_touched edit old.sizes) slab none in
          let same : cell_or_fill old index ≡ cell_or_fill new index = sym (ap (λ (d : Dataset). cell_or_fill d index) is.is ∙ untouched_cell edit old index (untouched index (no_cells none))) in
          patched.outside at inside (λ there. let member = in_contains _ _ there in absurd (subst (In (corner_of (box_of old) index)) nothing member))
          ∙ ap (λ (t : Fixed). kept_cell slab t.size b.bytes at) type_is ∙ kept.each at inside
          ∙ (λ i. bytes_of (sym type_is i) (same i));
    } where
      untouched : (index : List ℕ) → cells old.sizes ≡ 0 → is_touched edit old.sizes index ≡ false
      untouched index empty = by_test (is_touched edit old.sizes index) refl where
        by_test : (b : Bool) → is_touched edit old.sizes index ≡ b → b ≡ false
        by_test false differs = refl
        by_test true holds =
            let below = place_below old.sizes index (inside_of old.sizes index (touched_inside edit old.sizes index holds)) in absurd (omega (arith, below, empty))

  pub kept_followed : (k : ℕ) (before after : Option KeptState) → IsKeptOf old slab before → IsKeptAfter new touched slab before k after → IsKeptOf new slab after
  kept_followed k None None kept then = is.stays slab kept
  kept_followed k None (Some a) kept then = absurd (let never : Some a ≡ None = then.1 in cc)
  kept_followed k (Some b) None kept then = then.1
  kept_followed k (Some b) (Some a) kept then = (then.0, cells_followed b a k kept.1 then.1)

  abbrev met_count : ℕ
  met_count = cond (is_lent new slab) 0 (met_of old edit slab)

  pub count_followed : (k : ℕ) (before after : Option KeptState) → IsKeptOf old slab before → IsKeptAfter new touched slab before k after → k ≡ met_count
  count_followed k None after kept then = then.0 ∙ sym (ap (λ b. cond b 0 (met_of old edit slab)) (is.stays slab kept))
  count_followed k (Some b) None kept then = then.0 ∙ sym (ap (λ b. cond b 0 (met_of old edit slab)) then.1)
  count_followed k (Some b) (Some a) kept then =
      then.1.counted ∙ ap length (is.met slab) ∙ length-map (met_boxes old.sizes (box_of old) (is_touched edit old.sizes) slab) (first_of_box (box_of old))
      ∙ sym (ap (λ b. cond b 0 (met_of old edit slab)) then.0)

  pub patches_followed : (k : ℕ) (before after : Option KeptState) → IsKeptOf old slab before → IsKeptAfter new touched slab before k after
      → patches_in after ≡ option_and_then (λ times. cond (is_lent new slab) None (Some (times + met_count))) (patches_in before)
  patches_followed k None after kept then = ap patches_in then.1
  patches_followed k (Some b) None kept then = sym (ap (λ c. cond c None (Some (b.patches + met_count))) then.1)
  patches_followed k (Some b) (Some a) kept then =
      ap (λ n. Some n) (then.1.patches ∙ ap (λ n. b.patches + n) (count_followed k (Some b) (Some a) kept then))
      ∙ sym (ap (λ c. cond c None (Some (b.patches + met_count))) then.0)
