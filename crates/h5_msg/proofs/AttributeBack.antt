-- An attribute that was written reads as its name, type, sizes and values.
use Rattle.std.proofs.Common.{◌≡◌, ℕ, zero, suc, ◌+◌, ◌-◌, ◌*◌, ◌<◌, ◌≤◌, List, [], ◌∷◌, ◌++◌, length, length-append, append_assoc, map, replicate, take, drop, refl, sym, ap, ◌∙◌, arith, true, false, ℤ, Some, None}
use Rattle.std.proofs.lemmas.Bool.{or_parts}
use Rattle.std.proofs.lemmas.Bool.Decides.{nat_tests}
use Rattle.std.proofs.lemmas.List.{drop-drop, length-replicate, take_all}
use Rattle.std.proofs.Math.Seq.{take-append_seam, drop-append_seam}
use Rattle.std.specs.Prelude.{◌==◌, nat_le, nat_lt, slice_range}
use Rattle.std.specs.List.{list_all, list_any, range_with_len}
use Rattle.byteorder.specs.Numbers.{little_number-reads_back}
use Rattle.h5_bytes.specs.Bytes.{number_at, little_bytes}
use Rattle.h5_bytes.specs.Texts.{pad8, until_zero}
use Rattle.h5_model.specs.Format.Fixed.{Fixed, IsFixed, fits, value_at}
use Rattle.h5_model.specs.Format.Limits.{most_dimensions}
use Rattle.h5_model.specs.Tree.Places.{cells}
use Rattle.h5_model.specs.Format.Extent.{Extent, extent_of}
use Rattle.h5_model.specs.Format.Datatype.{fixed_of}
use Rattle.h5_model.specs.Format.Sizes.{attribute_size}
use Rattle.h5_model.specs.Format.AttributeBody.{attribute_of, is_attribute, name_in, name_size, datatype_size, dataspace_size, datatype_place, dataspace_place, data_place, kept_body, values_at}
use Rattle.h5_model.specs.Format.Plain.{with_zeros, cells_bytes, padded_text}
use Rattle.h5_model.specs.Format.Bodies.{datatype_bytes, dataspace_bytes, attribute_head, attribute_front, attribute_bytes, stored_attribute_bytes}
use Rattle.h5_model.proofs.PlainValues.{length-cells_bytes, size-low}
use Rattle.h5_msg.proofs.WordLaws.{words_long}
use Rattle.h5_msg.proofs.DatatypeLaws.{fixed_of-written}
use Rattle.h5_msg.proofs.DataspaceLaws.{Small, plain_alone, plain_back}
use Rattle.h5_model.proofs.StoredValues.{fits_value_at}
use Rattle.h5_msg.proofs.AttributeLaws.{length-values}
use Rattle.h5_msg.proofs.ValueBytes.{AreBytes, stored_back}
use Rattle.h5_msg.proofs.CellLaws.{values_back}

-- ---- over any body

found : (body name : List ℕ) (t : Fixed) (extent : Extent) (values : List ℤ) → is_attribute body ≡ true
    → fixed_of (slice_range body (datatype_place body) (datatype_place body + datatype_size body)) ≡ Some t
    → extent_of (slice_range body (dataspace_place body) (dataspace_place body + dataspace_size body)) ≡ Some extent
    → nat_le (data_place body + cells extent.sizes * t.size) (length body) ≡ true → name_in body ≡ name
    → values_at t body (data_place body) (cells extent.sizes) ≡ values
    → attribute_of body ≡ Some (name, record { fixed = t; sizes = extent.sizes; values = values; body = kept_body body })
unfolding attribute_of
found body name t extent values form type_is extent_is room name_is values_are = rw (form, type_is, extent_is, room, name_is, values_are) refl

-- what stands behind a part
behind : (a n : ℕ) (bytes x y : List ℕ) → drop a bytes ≡ x ++ y → length x ≡ n → drop (a + n) bytes ≡ y
behind a n bytes x y start long = sym (drop-drop n a bytes) ∙ ap (drop n) start ∙ ap (λ (k : ℕ). drop k (x ++ y)) (sym long) ∙ drop-append_seam x y

-- a part by its place and length
part_of : (a n : ℕ) (bytes x : List ℕ) → drop a bytes ≡ x → slice_range bytes a (a + n) ≡ take n x
part_of a n bytes x start = let long : a + n - a ≡ n = omega arith in (λ i. take (long i) (start i))

-- a name with a zero behind it ends there
named : (name : List ℕ) (m : ℕ) (rest : List ℕ) → 1 ≤ m → list_any (λ b. b == 0) name ≡ false → until_zero (take (length name + 1) ((name ++ replicate m 0) ++ rest)) ≡ name
named [] zero rest some text = absurd (omega arith)
named [] (suc m) rest some text = refl
named (b ∷ bs) m rest some text =
    let own : (b == 0) ≡ false = (or_parts (b == 0) (list_any (λ b. b == 0) bs) text).0 in
    let next : length (b ∷ bs) + 1 ≡ suc (length bs + 1) = omega arith in
    rw (next, own) (ap (λ (xs : List ℕ). b ∷ xs) (named bs m rest some (or_parts (b == 0) (list_any (λ b. b == 0) bs) text).1))

-- ---- the body that is written

module _ (name sizes : List ℕ) (t : Fixed) (values : List ℤ) (rest : List ℕ) (some : 1 ≤ length name) (short : length name < 65535) (text : list_any (λ b. b == 0) name ≡ false)
    (rank : length sizes ≤ most_dimensions) (small : Small sizes) (sound : IsFixed t) (all : list_all (fits t) values ≡ true) (count : length values ≡ cells sizes) where
  abbrev body : List ℕ
  body = attribute_head (length name) (length sizes) ++ (padded_text name ++ (with_zeros (datatype_bytes t) 16 ++ (dataspace_bytes sizes ++ (cells_bytes t values ++ rest))))

  abbrev from_cells : List ℕ
  from_cells = cells_bytes t values ++ rest

  abbrev from_dataspace : List ℕ
  from_dataspace = dataspace_bytes sizes ++ from_cells

  abbrev from_datatype : List ℕ
  from_datatype = with_zeros (datatype_bytes t) 16 ++ from_dataspace

  abbrev name_room : ℕ
  name_room = pad8 (length name + 1)

  name_length : name_size body ≡ length name + 1
  unfolding number_at
  name_length = little_number-reads_back 2 (length name + 1) (12 ∷ 0 ∷ (little_bytes 2 (8 + 8 * length sizes) ++ (padded_text name ++ from_datatype))) (omega arith)

  type_length : datatype_size body ≡ 12
  unfolding number_at
  type_length = refl

  extent_length : dataspace_size body ≡ 8 + 8 * length sizes
  unfolding number_at
  extent_length = little_number-reads_back 2 (8 + 8 * length sizes) (padded_text name ++ from_datatype) (omega arith)

  long_name : length (padded_text name) ≡ name_room
  long_name = length-append name (replicate (name_room - length name) 0) ∙ omega (arith, length-replicate {A = ℕ} (name_room - length name) 0)

  long_extent : length (dataspace_bytes sizes) ≡ 8 + 8 * length sizes
  long_extent = omega (arith, words_long sizes)

  type_at : datatype_place body ≡ 8 + name_room
  type_at i = 8 + pad8 (name_length i)

  extent_at : dataspace_place body ≡ 8 + name_room + 16
  extent_at i = type_at i + pad8 (type_length i)

  cells_at : data_place body ≡ 8 + name_room + 16 + (8 + 8 * length sizes)
  cells_at = (λ i. extent_at i + pad8 (extent_length i)) ∙ omega arith

  -- what stands at each place
  type_part : drop (8 + name_room) body ≡ from_datatype
  type_part = behind 8 name_room body (padded_text name) from_datatype refl long_name

  extent_part : drop (8 + name_room + 16) body ≡ from_dataspace
  extent_part = behind (8 + name_room) 16 body (with_zeros (datatype_bytes t) 16) from_dataspace type_part refl

  cells_part : drop (8 + name_room + 16 + (8 + 8 * length sizes)) body ≡ from_cells
  cells_part = behind (8 + name_room + 16) (8 + 8 * length sizes) body (dataspace_bytes sizes) from_cells extent_part long_extent

  name_is : name_in body ≡ name
  name_is =
      let behind_name : 1 ≤ name_room - length name = omega arith in
      (λ i. until_zero (slice_range body 8 (8 + name_length i)))
      ∙ ap until_zero (part_of 8 (length name + 1) body (padded_text name ++ from_datatype) refl)
      ∙ named name (name_room - length name) from_datatype behind_name text

  type_is : fixed_of (slice_range body (datatype_place body) (datatype_place body + datatype_size body)) ≡ Some t
  type_is =
      (λ i. fixed_of (slice_range body (type_at i) (type_at i + type_length i)))
      ∙ ap fixed_of (part_of (8 + name_room) 12 body from_datatype type_part)
      ∙ fixed_of-written t 12 sound

  extent_is : extent_of (slice_range body (dataspace_place body) (dataspace_place body + dataspace_size body)) ≡ Some (record { sizes = sizes; maxima = map (λ (x : ℕ). Some x) sizes })
  extent_is =
      (λ i. extent_of (slice_range body (extent_at i) (extent_at i + extent_length i)))
      ∙ ap extent_of (part_of (8 + name_room + 16) (8 + 8 * length sizes) body from_dataspace extent_part
      ∙ ap (λ (n : ℕ). take n from_dataspace) (sym long_extent) ∙ take-append_seam (dataspace_bytes sizes) from_cells)
      ∙ plain_back sizes (8 + 8 * length sizes) (dataspace_bytes sizes) rank small (sym (plain_alone sizes (8 + 8 * length sizes) refl))

  long_body : length body ≡ 8 + name_room + 16 + (8 + 8 * length sizes) + length values * t.size + length rest
  long_body =
      let cells_long = length-append (cells_bytes t values) rest in
      let extent_long = length-append (dataspace_bytes sizes) from_cells in
      let name_long = length-append (padded_text name) from_datatype in
      omega (arith, cells_long, extent_long, name_long, long_name, long_extent, length-cells_bytes t values)

  form : is_attribute body ≡ true
  form =
      let eight : nat_le 8 (length body) ≡ true = grind (arith, nat_tests, long_body) in
      let whole : nat_le (data_place body) (length body) ≡ true = grind (arith, nat_tests, long_body, cells_at) in
      let named_some : nat_le 1 (length (name_in body)) ≡ true = ap (λ (xs : List ℕ). nat_le 1 (length xs)) name_is ∙ grind (arith, nat_tests) in
      let ended : nat_lt (length (name_in body)) (name_size body) ≡ true = (λ i. nat_lt (length (name_is i)) (name_length i)) ∙ grind (arith, nat_tests) in
      rw (eight, whole, named_some, ended) refl

  room : nat_le (data_place body + cells sizes * t.size) (length body) ≡ true
  room =
      let product : length values * t.size ≡ cells sizes * t.size = ap (λ (n : ℕ). n * t.size) count in
      grind (arith, nat_tests, long_body, cells_at, product)

  values_are : values_at t body (data_place body) (cells sizes) ≡ values
  values_are =
      (λ i. values_at t body (cells_at i) (sym count i))
      ∙ values_back t values body rest (8 + name_room + 16 + (8 + 8 * length sizes)) (size-low t sound) all cells_part

  pub attribute_reads : attribute_of body ≡ Some (name, record { fixed = t; sizes = sizes; values = values; body = None })
  attribute_reads = found body name t (record { sizes = sizes; maxima = map (λ (x : ℕ). Some x) sizes }) values form type_is extent_is room name_is values_are

-- what stands before the values, and behind it
joined : (name sizes rest : List ℕ) (t : Fixed) → attribute_front name t sizes ++ rest
    ≡ attribute_head (length name) (length sizes) ++ (padded_text name ++ (with_zeros (datatype_bytes t) 16 ++ (dataspace_bytes sizes ++ rest)))
joined name sizes rest t =
    let head : List ℕ = attribute_head (length name) (length sizes) in
    let type : List ℕ = with_zeros (datatype_bytes t) 16 in
    append_assoc head (padded_text name ++ (type ++ dataspace_bytes sizes)) rest
    ∙ ap (λ xs. head ++ xs) (append_assoc (padded_text name) (type ++ dataspace_bytes sizes) rest)
    ∙ ap (λ xs. head ++ (padded_text name ++ xs)) (append_assoc type (dataspace_bytes sizes) rest)

pub attribute_back : (name sizes : List ℕ) (t : Fixed) (values : List ℤ) (n : ℕ) (bytes : List ℕ) → 1 ≤ length name → length name < 65535 → list_any (λ b. b == 0) name ≡ false
    → length sizes ≤ most_dimensions → Small sizes → IsFixed t → list_all (fits t) values ≡ true → length values ≡ cells sizes
    → bytes ≡ attribute_bytes name t sizes values n → attribute_of bytes ≡ Some (name, record { fixed = t; sizes = sizes; values = values; body = None })
attribute_back name sizes t values n bytes some short text rank small sound all count same =
    ap attribute_of (same ∙ joined name sizes (cells_bytes t values ++ replicate (n - attribute_size (length name) sizes t.size) 0) t) ∙ attribute_reads name sizes t values (replicate (n - attribute_size (length name) sizes t.size) 0) some short text rank small sound all count

-- ---- values whose bytes are there

all_fit : (t : Fixed) (f : ℕ → ℤ) → ((k : ℕ) → fits t (f k) ≡ true) → (xs : List ℕ) → list_all (fits t) (map f xs) ≡ true
all_fit t f each [] = refl
all_fit t f each (x ∷ xs) = rw (each x, all_fit t f each xs) refl

pub stored_attribute_back : (name sizes : List ℕ) (t : Fixed) (stored : List ℕ) (n : ℕ) (bytes : List ℕ) → 1 ≤ length name → length name < 65535
    → list_any (λ b. b == 0) name ≡ false → length sizes ≤ most_dimensions → Small sizes → IsFixed t → AreBytes stored → length stored ≡ cells sizes * t.size
    → bytes ≡ stored_attribute_bytes name t sizes stored n
    → attribute_of bytes ≡ Some (name, record { fixed = t; sizes = sizes; values = values_at t stored 0 (cells sizes); body = None })
stored_attribute_back name sizes t stored n bytes some short text rank small sound low long same =
    let values : List ℤ = values_at t stored 0 (cells sizes) in
    let are : cells_bytes t values ≡ stored
    = stored_back t stored 0 sound low (cells sizes) (omega (arith, long)) ∙ take_all (cells sizes * t.size) stored (omega (arith, long)) in
    attribute_back name sizes t values n bytes some short text rank small sound
    (all_fit t (λ k. value_at t stored (0 + k * t.size)) (λ k. fits_value_at t stored (0 + k * t.size) sound low) (range_with_len 0 (cells sizes)))
    (length-values t stored 0 (cells sizes)) (same ∙ ap (λ xs. stored_attribute_bytes name t sizes xs n) (sym are))
