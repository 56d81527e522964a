-- What a writer counts is what a reader finds.
use Rattle.std.proofs.Common.{◌≡◌, ℕ, ◌+◌, ◌*◌, ◌≤◌, Bool, true, false, cond, nat_le, Option, Some, None, List, length, refl, arith}
use Rattle.h5_model.specs.Tree.Places.{cells}
use Rattle.h5_model.specs.Tree.Objects.{Array, Compact, Contiguous, Chunked}
use Rattle.h5_model.specs.Format.Layout.{Layout, compact_layout, contiguous_layout, chunked_layout}
use Rattle.h5_bytes.specs.Bytes.{number_at, byte_at}
use Rattle.std.proofs.lemmas.Bool.Decides.{nat_tests}
use Rattle.std.proofs.lemmas.Bool.{and_parts}
use Rattle.h5_model.specs.Format.AttributeBody as body
use Rattle.h5_model.specs.Format.Sizes.{attribute_size, dataspace_length, header_size, layout_size}
use Rattle.h5_model.specs.Edits.Bounds.{new_header}
use Rattle.h5_model.specs.Edits.Applied.{new_object, new_dataset}
use Rattle.h5_model.specs.declared.dataset.Spec.{Spec}
use Rattle.h5_model.proofs.MapSteps.{known}

-- the data of an attribute body of version 1 whose parts have the lengths that are written end where the body does
pub attribute_size-data_place : (bytes : List ℕ) (name : ℕ) (sizes : List ℕ) (size : ℕ)
    → byte_at bytes 0 ≡ 1 → body.name_size bytes ≡ name + 1 → body.datatype_size bytes ≡ 12 → body.dataspace_size bytes ≡ dataspace_length (length sizes)
    → body.data_place bytes + cells sizes * size ≡ attribute_size name sizes size
attribute_size-data_place bytes name sizes size v n t s = rw (v, n, t, s) refl

-- the header of a new dataset has as many bytes as the bound counts
pub header_size-new_dataset : (s : Spec) → header_size (new_object (Array (new_dataset s))) ≡ new_header s
header_size-new_dataset s = simp known (omega arith)

-- ---- a layout body that is read has at least the bytes that are written

taken : {X : Type 0} (b : Bool) (o : Option X) (x : X) → cond b o None ≡ Some x → b ≡ true
taken true o x h = refl
taken false o x h = absurd (cc)

pub length-compact_layout : (sizes : List ℕ) (size : ℕ) (bytes : List ℕ) (layout : Layout) → compact_layout (cells sizes * size) bytes ≡ Some layout
    → layout_size sizes Compact size ≤ length bytes
length-compact_layout sizes size bytes layout h =
    let all = and_parts _ _ (taken _ _ layout h) in
    let there : nat_le (4 + number_at bytes 2 2) (length bytes) ≡ true = (and_parts _ _ all.0).1 in
    let room : nat_le (cells sizes * size) (number_at bytes 2 2) ≡ true = all.1 in
    within (cells sizes * size) (number_at bytes 2 2) (length bytes) there room where
      within : (need held bytes : ℕ) → nat_le (4 + held) bytes ≡ true → nat_le need held ≡ true → 4 + need ≤ bytes
      within need held bytes there room = grind (arith, nat_tests)

pub length-contiguous_layout : (sizes : List ℕ) (size : ℕ) (stored : Bool) (bytes : List ℕ) (layout : Layout) → contiguous_layout (cells sizes * size) bytes ≡ Some layout
    → layout_size sizes (Contiguous stored) size ≤ length bytes
length-contiguous_layout sizes size stored bytes layout h =
    let there : nat_le 18 (length bytes) ≡ true = taken _ _ layout h in grind (arith, nat_tests)

pub length-chunked_layout : (sizes chunk : List ℕ) (size : ℕ) (bytes : List ℕ) (layout : Layout) → length chunk ≡ length sizes
    → chunked_layout (length sizes) size bytes ≡ Some layout → layout_size sizes (Chunked chunk) size ≤ length bytes
length-chunked_layout sizes chunk size bytes layout same h =
    let there : nat_le (11 + 4 * (length sizes + 1)) (length bytes) ≡ true = (and_parts _ _ (and_parts _ _ (and_parts _ _ (and_parts _ _ (taken _ _ layout h)).0).0).0).0 in
    within (length sizes) (length chunk) (length bytes) same there where
      within : (rank chunks bytes : ℕ) → chunks ≡ rank → nat_le (11 + 4 * (rank + 1)) bytes ≡ true → 11 + 4 * (chunks + 1) ≤ bytes
      within rank chunks bytes same there = grind (arith, nat_tests)
