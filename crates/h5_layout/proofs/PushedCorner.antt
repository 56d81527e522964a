-- What is appended of a chunk of which the first slices are kept, from one dimension to the next.
use Rattle.std.proofs.Common.{◌≡◌, ℕ, ◌+◌, ◌-◌, ◌*◌, ◌/◌, ◌<◌, ◌≤◌, ℤ, List, ◌∷◌, ◌++◌, length, take, drop, get_or, replicate, sym, ap, ap₂, ◌∙◌, subst, arith}
use Rattle.std.proofs.lemmas.List.{length-take, length-drop}
use Rattle.std.proofs.lemmas.Nat.{div-mul-add}
use Rattle.std.proofs.lemmas.Slice.{first_rest}
use Rattle.std.proofs.Math.Nat.{mul-le-mul_right}
use Rattle.std.specs.List.{AllByRecursion}
use Rattle.h5_bytes.specs.Tables.{table}
use Rattle.h5_model.specs.Format.Fixed.{Fixed, IsFixed}
use Rattle.h5_model.specs.Format.Limits.{most_chunk_bytes}
use Rattle.h5_model.specs.Format.Plain.{cells_bytes}
use Rattle.h5_model.specs.Tree.Places.{cells}
use Rattle.h5_model.proofs.PlainValues.{size-low}
use Rattle.h5_msg.proofs.ValueBytes.{AreBytes}
use Rattle.h5_layout.specs.Kept.{corner_value, corner_values}
use Rattle.h5_layout.specs.Spans.{IsKeptSpan, span_sizes, span_slices}
use Rattle.h5_layout.specs.declared.corner.Span.{Span}
use Rattle.h5_layout.proofs.CornerLaws.{corner_end, corner_row, corner_step}

abbrev pub no_span : Span
no_span = record { size = 0; kept = 0 }

-- the first dimension, and the others
pub spans_split : (spans : List Span) → 1 ≤ length spans → spans ≡ get_or spans 0 no_span ∷ take (length spans - 1) (drop 1 spans)
spans_split spans some = first_rest spans no_span some

-- how many bytes a slice has
pub slice_is : (long c m z : ℕ) → 1 ≤ c → long ≡ c * m * z → long / c ≡ m * z
slice_is long c m z some is =
    let turned : c * m * z ≡ m * z * c + 0 = omega arith in
    ap (λ n. n / c) (is ∙ turned) ∙ div-mul-add (m * z) c 0 some

-- how many cells are left
pub left_is : (long c s m z : ℕ) → 1 ≤ z → s ≤ c → long ≡ c * m * z → (long - s * (m * z)) / z ≡ (c - s) * m
left_is long c s m z some within is =
    let back : s + (c - s) ≡ c = omega arith in
    let all : long ≡ (s + (c - s)) * m * z = is ∙ ap (λ n. n * m * z) (sym back) in
    let parts : (s + (c - s)) * m * z ≡ s * (m * z) + (c - s) * m * z = omega arith in
    let rest : long - s * (m * z) ≡ (c - s) * m * z + 0 = omega (arith, all, parts) in
    ap (λ n. n / z) rest ∙ div-mul-add ((c - s) * m) z 0 some

module _ (t : Fixed) (fill : ℤ) (spans : List Span) (bytes : List ℕ) (sound : IsFixed t) (some : 1 ≤ length spans) (all : AllByRecursion IsKeptSpan spans)
    (long : length bytes ≡ cells (span_sizes spans) * t.size) where
  abbrev first : Span
  first = get_or spans 0 no_span

  abbrev pub inner : List Span
  inner = take (length spans - 1) (drop 1 spans)

  abbrev c : ℕ
  c = first.size

  abbrev s : ℕ
  s = first.kept

  abbrev m : ℕ
  m = cells (span_sizes inner)

  abbrev slice : ℕ
  slice = length bytes / c

  split : spans ≡ first ∷ inner
  split = spans_split spans some

  both : AllByRecursion IsKeptSpan (first ∷ inner)
  both = subst (AllByRecursion IsKeptSpan) split all

  pub inner_kept : AllByRecursion IsKeptSpan inner
  inner_kept = both.1

  pub first_some : 1 ≤ c
  first_some = (both.0).some

  within : s ≤ c
  within = (both.0).within

  long_split : length bytes ≡ c * m * t.size
  long_split = long ∙ ap (λ (xs : List Span). cells (span_sizes xs) * t.size) split

  pub slice_here : slice ≡ m * t.size
  slice_here = slice_is (length bytes) c m t.size first_some long_split

  pub kept_room : s * slice ≤ length bytes
  kept_room =
      let same : s * slice ≡ s * (m * t.size) = ap (λ n. s * n) slice_here in
      let turned : c * m * t.size ≡ c * (m * t.size) = omega arith in
      let few : s * (m * t.size) ≤ c * (m * t.size) = mul-le-mul_right (m * t.size) within in
      omega (arith, same, turned, few, long_split)

  pub slice_room : (i : ℕ) → i < s → (i + 1) * slice ≤ length bytes
  slice_room i low =
      let few : (i + 1) * slice ≤ s * slice = mul-le-mul_right slice (omega (arith, low)) in
      omega (arith, few, kept_room)

  pub slice_wide : (i : ℕ) → (i + 1) * slice - i * slice ≡ m * t.size
  slice_wide i =
      let more : (i + 1) * slice ≡ i * slice + slice = omega arith in
      omega (arith, more, slice_here)

  pub length-slice : (i : ℕ) → i < s → length (take ((i + 1) * slice - i * slice) (drop (i * slice) bytes)) ≡ m * t.size
  length-slice i low =
      let more : (i + 1) * slice ≡ i * slice + slice = omega arith in
      length-take ((i + 1) * slice - i * slice) (drop (i * slice) bytes)
      ∙ omega (arith, length-drop (i * slice) bytes, slice_wide i, slice_room i low, more, slice_here)

  pub slice_small : length bytes ≤ most_chunk_bytes → (i : ℕ) → i < s → length (take ((i + 1) * slice - i * slice) (drop (i * slice) bytes)) ≤ most_chunk_bytes
  slice_small small i low =
      let more : (i + 1) * slice ≡ i * slice + slice = omega arith in
      omega (arith, length-slice i low, slice_room i low, slice_here, more, small)

  left_here : (z : ℕ) → z ≡ t.size → (length bytes - s * slice) / z ≡ (c - s) * m
  left_here z is =
      ap₂ (λ a b. (length bytes - s * a) / b) slice_here is ∙ left_is (length bytes) c s m t.size (size-low t sound) within long_split

  -- they are whole cells
  pub left_bytes : (z : ℕ) → z ≡ t.size → length bytes - s * slice ≡ (length bytes - s * slice) / z * z
  left_bytes z is =
      let back : s + (c - s) ≡ c = omega (arith, within) in
      let split_long : length bytes ≡ (s + (c - s)) * m * t.size = long_split ∙ ap (λ n. n * m * t.size) (sym back) in
      let parts : (s + (c - s)) * m * t.size ≡ s * (m * t.size) + (c - s) * m * t.size = omega arith in
      let here : s * slice ≡ s * (m * t.size) = ap (λ n. s * n) slice_here in
      let rest : length bytes - s * slice ≡ (c - s) * m * t.size = omega (arith, split_long, parts, here) in
      rest ∙ ap₂ (λ a b. a * b) (sym (left_here z is)) (sym is)

  abbrev value : ℕ → ℤ
  value = corner_value t fill (span_sizes spans) (span_slices spans) bytes

  abbrev whole : List ℕ
  whole = cells_bytes t (corner_values t fill (span_sizes spans) (span_slices spans) bytes)

  whole_split : cells_bytes t (corner_values t fill (c ∷ span_sizes inner) (s ∷ span_slices inner) bytes) ≡ whole
  whole_split = ap (λ (xs : List Span). cells_bytes t (corner_values t fill (span_sizes xs) (span_slices xs) bytes)) (sym split)

  -- the values are those of the first dimension and the others
  value_split : (n : ℕ) → cells_bytes t (table (corner_value t fill (c ∷ span_sizes inner) (s ∷ span_slices inner) bytes) n) ≡ cells_bytes t (table value n)
  value_split n = ap (λ (xs : List Span). cells_bytes t (table (corner_value t fill (span_sizes xs) (span_slices xs) bytes) n)) (sym split)

  -- in one run
  pub pushed_row : (z : ℕ) → z ≡ t.size → AreBytes bytes → span_slices inner ≡ span_sizes inner
      → take (s * slice) bytes ++ cells_bytes t (replicate ((length bytes - s * slice) / z) fill) ≡ whole
  pushed_row z is low same =
      ap₂ (λ a b. take (s * a) bytes ++ cells_bytes t (replicate b fill)) slice_here (left_here z is)
      ∙ sym (corner_row t fill bytes c s (span_sizes inner) sound low within long_split)
      ∙ ap (λ (ss : List ℕ). cells_bytes t (corner_values t fill (c ∷ span_sizes inner) (s ∷ ss) bytes)) (sym same) ∙ whole_split

  -- one slice more
  pub pushed_slice : (i : ℕ) → i < s
      → cells_bytes t (table value (i * m)) ++ cells_bytes t (corner_values t fill (span_sizes inner) (span_slices inner) (take ((i + 1) * slice - i * slice) (drop (i * slice) bytes)))
      ≡ cells_bytes t (table value ((i + 1) * m))
  pushed_slice i low =
      let room : (i + 1) * (m * t.size) ≤ length bytes = subst (λ n. (i + 1) * n ≤ length bytes) slice_here (slice_room i low) in
      (λ j. sym (value_split (i * m)) j ++ cells_bytes t (corner_values t fill (span_sizes inner) (span_slices inner) (take (slice_wide i j) (drop (i * slice_here j) bytes))))
      ∙ sym (corner_step t fill bytes c s (span_sizes inner) (span_slices inner) i low room) ∙ value_split ((i + 1) * m)

  -- all slices
  pub pushed_all : (z n : ℕ) → z ≡ t.size → n ≡ s
      → cells_bytes t (table value (n * m)) ++ cells_bytes t (replicate ((length bytes - s * slice) / z) fill) ≡ whole
  pushed_all z n is done =
      (λ j. cells_bytes t (table value (done j * m)) ++ cells_bytes t (replicate (left_here z is j) fill))
      ∙ ap (λ (xs : List ℕ). xs ++ cells_bytes t (replicate ((c - s) * m) fill)) (sym (value_split (s * m)))
      ∙ sym (corner_end t fill bytes c s (span_sizes inner) (span_slices inner) within) ∙ whole_split
