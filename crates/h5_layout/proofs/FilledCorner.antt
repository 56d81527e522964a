-- What stands in a chunk of which the cells that are not kept are filled in place, from one dimension to the next.
use Rattle.std.proofs.Common.{◌≡◌, ℕ, ◌+◌, ◌-◌, ◌*◌, ◌/◌, ◌<◌, ◌≤◌, ℤ, List, ◌++◌, length, take, drop, get_or, replicate, refl, sym, ap, ◌∙◌, subst, arith, rules}
use Rattle.std.proofs.lemmas.List.{length-drop, length-replicate, length-take, places, same_lists}
use Rattle.std.proofs.lemmas.List.FromFn.{length-map-range_with_len}
use Rattle.std.proofs.Math.Nat.{mul-le-mul_right}
use Rattle.std.specs.List.{AllByRecursion}
use borrow.Rule.Slice.PartMut.{put_mid}
use Rattle.h5_bytes.specs.Tables.{table}
use Rattle.h5_model.specs.Format.Fixed.{Fixed, IsFixed}
use Rattle.h5_model.specs.Format.Plain.{cells_bytes}
use Rattle.h5_model.specs.Tree.Places.{cells}
use Rattle.h5_model.proofs.PlainValues.{length-cells_bytes}
use Rattle.h5_msg.proofs.ValueBytes.{AreBytes}
use Rattle.h5_layout.specs.Kept.{corner_value, corner_values}
use Rattle.h5_layout.specs.Spans.{IsKeptSpan, span_sizes, span_slices}
use Rattle.h5_layout.specs.declared.corner.Span.{Span}
use Rattle.h5_layout.proofs.PushedCorner.{inner, kept_room, left_bytes, no_span, pushed_all, pushed_row, pushed_slice, slice_here, slice_room, slice_wide}

-- ---- a part of some bytes, written where it stands

-- the part behind those in front
part_behind : (front rest : List ℕ) (at n : ℕ) → length front ≡ at → take n (drop at (front ++ rest)) ≡ take n rest
part_behind front rest at n is = same_lists _ _ (search (rules, places)) (λ i d l. grind (arith, places))

put_behind : (front rest new : List ℕ) (at n : ℕ) → length front ≡ at → length new ≡ n → n ≤ length rest
    → put_mid at n (front ++ rest) new ≡ (front ++ new) ++ drop n rest
put_behind front rest new at n is long room = same_lists _ _ (search (rules, places)) (λ i d l. grind (arith, places))

-- all of them
put_last : (front rest new : List ℕ) (at n : ℕ) → length front ≡ at → n ≡ length rest → length new ≡ n → put_mid at n (front ++ rest) new ≡ front ++ new
put_last front rest new at n is all long = same_lists _ _ (search (rules, places)) (λ i d l. grind (arith, places))

take_and_drop : (bytes : List ℕ) (at : ℕ) → at ≤ length bytes → take at bytes ++ drop at bytes ≡ bytes
take_and_drop bytes at low = same_lists _ _ (search (rules, places)) (λ i d l. grind (arith, places))

drop_more : (bytes : List ℕ) (at n to : ℕ) → at + n ≡ to → drop n (drop at bytes) ≡ drop to bytes
drop_more bytes at n to is = same_lists _ _ (search (rules, places)) (λ i d l. grind (arith, places))

-- ---- the slices of the first dimension

module _ (t : Fixed) (fill : ℤ) (spans : List Span) (bytes : List ℕ) (sound : IsFixed t) (some : 1 ≤ length spans) (all : AllByRecursion IsKeptSpan spans)
    (long : length bytes ≡ cells (span_sizes spans) * t.size) where
  abbrev others : List Span
  others = inner t fill spans bytes sound some all long

  abbrev c : ℕ
  c = (get_or spans 0 no_span).size

  abbrev s : ℕ
  s = (get_or spans 0 no_span).kept

  abbrev m : ℕ
  m = cells (span_sizes others)

  abbrev slice : ℕ
  slice = length bytes / c

  -- the first so many of them
  abbrev pub front : ℕ → List ℕ
  front i = cells_bytes t (table (corner_value t fill (span_sizes spans) (span_slices spans) bytes) (i * m))

  abbrev whole : List ℕ
  whole = cells_bytes t (corner_values t fill (span_sizes spans) (span_slices spans) bytes)

  length-front : (i : ℕ) → length (front i) ≡ i * slice
  length-front i =
      let value = corner_value t fill (span_sizes spans) (span_slices spans) bytes in
      length-cells_bytes t (table value (i * m)) ∙ ap (λ n. n * t.size) (length-map-range_with_len value 0 (i * m))
      ∙ (let turned : i * m * t.size ≡ i * (m * t.size) = omega arith in turned) ∙ ap (λ n. i * n) (sym (slice_here t fill spans bytes sound some all long))

  -- where none is filled yet, a slice stands as it did
  pub slice_still : (i : ℕ) (now : List ℕ) → now ≡ front i ++ drop (i * slice) bytes
      → take ((i + 1) * slice - i * slice) (drop (i * slice) now) ≡ take ((i + 1) * slice - i * slice) (drop (i * slice) bytes)
  slice_still i now is =
      ap (λ (xs : List ℕ). take ((i + 1) * slice - i * slice) (drop (i * slice) xs)) is
      ∙ part_behind (front i) (drop (i * slice) bytes) (i * slice) ((i + 1) * slice - i * slice) (length-front i)

  pub length-now : (i : ℕ) (now : List ℕ) → i ≤ s → now ≡ front i ++ drop (i * slice) bytes → length now ≡ length bytes
  length-now i now low is =
      let few : i * slice ≤ s * slice = mul-le-mul_right slice low in
      let room = kept_room t fill spans bytes sound some all long in
      ap length is ∙ grind (arith, places, length-front i, few, room)

  -- one slice more
  pub slice_filled : (i : ℕ) (now new part : List ℕ) → i < s → now ≡ front i ++ drop (i * slice) bytes
      → part ≡ cells_bytes t (corner_values t fill (span_sizes others) (span_slices others) (take ((i + 1) * slice - i * slice) (drop (i * slice) now)))
      → new ≡ put_mid (i * slice) ((i + 1) * slice - i * slice) now part
      → new ≡ front (i + 1) ++ drop ((i + 1) * slice) bytes
  slice_filled i now new part low is filled put =
      let values = corner_value t fill (span_sizes others) (span_slices others) (take ((i + 1) * slice - i * slice) (drop (i * slice) now)) in
      let wide : length part ≡ (i + 1) * slice - i * slice
      = ap length filled ∙ length-cells_bytes t (table values m) ∙ ap (λ k. k * t.size) (length-map-range_with_len values 0 m)
      ∙ sym (slice_wide t fill spans bytes sound some all long i) in
      let n = (i + 1) * slice - i * slice in
      let room = slice_room t fill spans bytes sound some all long i low in
      let more : (i + 1) * slice ≡ i * slice + slice = omega arith in
      let behind : i * slice + n ≡ (i + 1) * slice = omega (arith, more) in
      let left : n ≤ length (drop (i * slice) bytes) = omega (arith, length-drop (i * slice) bytes, room, more) in
      let here : part ≡ cells_bytes t (corner_values t fill (span_sizes others) (span_slices others) (take n (drop (i * slice) bytes)))
      = filled ∙ ap (λ (xs : List ℕ). cells_bytes t (corner_values t fill (span_sizes others) (span_slices others) xs)) (slice_still i now is) in
      put ∙ ap (λ (xs : List ℕ). put_mid (i * slice) n xs part) is ∙ put_behind (front i) (drop (i * slice) bytes) part (i * slice) n (length-front i) wide left
      ∙ (λ j. (front i ++ here j) ++ drop_more bytes (i * slice) n ((i + 1) * slice) behind j)
      ∙ ap (λ (xs : List ℕ). xs ++ drop ((i + 1) * slice) bytes) (pushed_slice t fill spans bytes sound some all long i low)

  -- ---- the cells that are left

  -- they fill the bytes behind
  pub left_fits : (z : ℕ) → z ≡ t.size → length bytes - s * slice ≡ (length bytes - s * slice) / z * z
  left_fits z is = left_bytes t fill spans bytes sound some all long z is

  pub tail_room : (now : List ℕ) (z : ℕ) → z ≡ t.size → length now ≡ length bytes
      → length (take (length now - s * slice) (drop (s * slice) now)) ≡ (length bytes - s * slice) / z * t.size
  tail_room now z is wide =
      let fits : length bytes - s * slice ≡ (length bytes - s * slice) / z * t.size = left_fits z is ∙ ap (λ k. (length bytes - s * slice) / z * k) is in
      length-take (length now - s * slice) (drop (s * slice) now) ∙ omega (arith, length-drop (s * slice) now, wide, fits)

  length-fill : (n : ℕ) → length (cells_bytes t (replicate n fill)) ≡ n * t.size
  length-fill n = length-cells_bytes t (replicate n fill) ∙ ap (λ k. k * t.size) (length-replicate n fill)

  module _ (z : ℕ) (is : z ≡ t.size) where
    abbrev filling : List ℕ
    filling = cells_bytes t (replicate ((length bytes - s * slice) / z) fill)

    filling_long : length filling ≡ length bytes - s * slice
    filling_long = length-fill ((length bytes - s * slice) / z) ∙ ap (λ k. (length bytes - s * slice) / z * k) (sym is) ∙ sym (left_fits z is)

    pub row_filled : (new : List ℕ) → AreBytes bytes → span_slices others ≡ span_sizes others
        → new ≡ put_mid (s * slice) (length bytes - s * slice) bytes filling → new ≡ whole
    row_filled new low same put =
        let room = kept_room t fill spans bytes sound some all long in
        let at : length (take (s * slice) bytes) ≡ s * slice = grind (arith, places, room) in
        put ∙ ap (λ (xs : List ℕ). put_mid (s * slice) (length bytes - s * slice) xs filling) (sym (take_and_drop bytes (s * slice) room))
        ∙ put_last (take (s * slice) bytes) (drop (s * slice) bytes) filling (s * slice) (length bytes - s * slice) at (sym (length-drop (s * slice) bytes)) filling_long
        ∙ pushed_row t fill spans bytes sound some all long z is low same

    pub all_filled : (i : ℕ) (now new : List ℕ) → i ≡ s → now ≡ front i ++ drop (i * slice) bytes
        → new ≡ put_mid (s * slice) (length now - s * slice) now filling → new ≡ whole
    all_filled i now new done so put =
        let same : now ≡ front s ++ drop (s * slice) bytes = subst (λ k. now ≡ front k ++ drop (k * slice) bytes) done so in
        let wide : length now ≡ length bytes = length-now s now (omega arith) same in
        put ∙ (λ j. put_mid (s * slice) (wide j - s * slice) (same j) filling)
        ∙ put_last (front s) (drop (s * slice) bytes) filling (s * slice) (length bytes - s * slice) (length-front s) (sym (length-drop (s * slice) bytes)) filling_long
        ∙ pushed_all t fill spans bytes sound some all long z s is refl
