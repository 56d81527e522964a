-- The bytes of a chunk of which the first slices of each dimension are kept, slice by slice.
use Rattle.std.proofs.Common.{◌≡◌, ℕ, suc, ◌+◌, ◌-◌, ◌*◌, ◌/◌, ◌%◌, ◌<◌, ◌≤◌, ℤ, List, [], ◌∷◌, ◌++◌, length, map, take, drop, get_or, replicate, true, false, cond, sym, ap, ap₂, ◌∙◌, arith}
use Rattle.std.specs.Prelude.{◌&&◌, nat_lt}
use Rattle.std.specs.List.{range_with_len}
use Rattle.std.proofs.lemmas.Bool.Decides.{nat_tests}
use Rattle.std.proofs.lemmas.Grind.{flat_map-append}
use Rattle.std.proofs.lemmas.List.{get_or-take, get_or-drop, map-append, take_all}
use Rattle.std.proofs.lemmas.Nat.{div-add-mod', div-mul-add, div_below, mod-mul-add}
use Rattle.std.proofs.Math.Nat.{mul-le-mul_right}
use Rattle.h5_bytes.specs.Tables.{table}
use Rattle.h5_model.specs.Format.Cells.{value_in}
use Rattle.h5_model.specs.Format.Fixed.{Fixed, IsFixed, bytes_of, value_at}
use Rattle.h5_model.specs.Format.Plain.{cells_bytes}
use Rattle.h5_model.specs.Tree.Places.{cells, index_of, is_inside}
use Rattle.h5_model.proofs.PlaceLaws.{inside-index, is_inside_from, positive}
use Rattle.h5_model.proofs.ValueLaws.{value_at-moved}
use Rattle.h5_model.proofs.SelectionLaws.{range-append}
use Rattle.h5_msg.proofs.ValueBytes.{AreBytes, stored_back}
use Rattle.h5_layout.specs.Kept.{corner_value, corner_values}
use Rattle.h5_layout.specs.Spans.{span_sizes, span_slices}
use Rattle.h5_layout.specs.declared.corner.Span.{Span}
use Rattle.h5_layout.proofs.CellLaws.{map_ranges, replicate_range}

-- ---- values, and their bytes

-- the values of the first so many places, and of some more
pub table_add : (f : ℕ → ℤ) (n k : ℕ) → table f (n + k) ≡ table f n ++ map f (range_with_len n k)
table_add f n k =
    let here : 0 + n ≡ n = omega arith in
    ap (map f) (range-append 0 n k ∙ ap (λ (m : ℕ). range_with_len 0 n ++ range_with_len m k) here)
    ∙ map-append f (range_with_len 0 n) (range_with_len n k)

pub cells_add : (t : Fixed) (xs ys : List ℤ) → cells_bytes t (xs ++ ys) ≡ cells_bytes t xs ++ cells_bytes t ys
cells_add t xs ys = flat_map-append (bytes_of t) xs ys

-- what is read from bytes, written again
pub bytes_again : (t : Fixed) (bytes : List ℕ) (n : ℕ) → IsFixed t → AreBytes bytes → n * t.size ≤ length bytes
    → cells_bytes t (table (value_in t bytes) n) ≡ take (n * t.size) bytes
bytes_again t bytes n sound low room =
    ap (cells_bytes t) (map_ranges (value_in t bytes) (λ k. value_at t bytes (0 + k * t.size)) 0 0 n (λ j _.
    let same : (0 + j) * t.size ≡ 0 + (0 + j) * t.size = omega arith in
    ap (value_at t bytes) same))
    ∙ stored_back t bytes 0 sound low n (omega (arith, room))

-- ---- the slices of the first dimension

module _ (t : Fixed) (fill : ℤ) (bytes : List ℕ) (c s : ℕ) (cs ss : List ℕ) where
  abbrev m : ℕ
  m = cells cs

  abbrev pub value_here : ℕ → ℤ
  value_here = corner_value t fill (c ∷ cs) (s ∷ ss) bytes

  -- the j-th cell of slice i
  at_slice : (i j : ℕ) → j < m → value_here (i * m + j) ≡ cond (nat_lt i s && is_inside ss (index_of cs j)) (value_in t bytes (i * m + j)) fill
  at_slice i j low =
      let row : (i * m + j) / m ≡ i = div-mul-add i m j low in
      let column : (i * m + j) % m ≡ j = mod-mul-add i m j low in
      ap₂ (λ (a b : ℕ). cond (nat_lt a s && is_inside ss (index_of cs b)) (value_in t bytes (i * m + j)) fill) row column

  -- a slice that is kept has its cells in its part of the bytes
  pub kept_slice : (i : ℕ) → i < s → (i + 1) * (m * t.size) ≤ length bytes
      → map value_here (range_with_len (i * m) m) ≡ corner_values t fill cs ss (take (m * t.size) (drop (i * (m * t.size)) bytes))
  kept_slice i low room =
      let held : List ℕ = take (m * t.size) (drop (i * (m * t.size)) bytes) in
      let inside : nat_lt i s ≡ true = grind (arith, nat_tests, low) in
      map_ranges value_here (corner_value t fill cs ss held) (i * m) 0 m (λ j under.
      let here : 0 + j ≡ j = omega arith in
      let moved : value_in t held j ≡ value_in t bytes (i * m + j) = value_at-moved t bytes held ((i * m + j) * t.size) (j * t.size) (λ k below.
      let next : suc j * t.size ≤ m * t.size = mul-le-mul_right t.size under in
      let wide : suc j * t.size ≡ j * t.size + t.size = omega arith in
      let within : j * t.size + k < m * t.size = omega (arith, next, wide, below) in
      let place : i * (m * t.size) + (j * t.size + k) ≡ (i * m + j) * t.size + k = omega arith in
      get_or-take (m * t.size) (drop (i * (m * t.size)) bytes) (j * t.size + k) 0 within
      ∙ get_or-drop (i * (m * t.size)) bytes (j * t.size + k) 0 ∙ ap (λ n. get_or bytes n 0) place) in
      at_slice i j under ∙ ap (λ b. cond (b && is_inside ss (index_of cs j)) (value_in t bytes (i * m + j)) fill) inside
      ∙ ap (λ v. cond (is_inside ss (index_of cs j)) v fill) (sym moved)
      ∙ ap (corner_value t fill cs ss held) (sym here))

  -- so one slice more
  pub corner_step : (i : ℕ) → i < s → (i + 1) * (m * t.size) ≤ length bytes
      → cells_bytes t (table value_here ((i + 1) * m))
      ≡ cells_bytes t (table value_here (i * m)) ++ cells_bytes t (corner_values t fill cs ss (take (m * t.size) (drop (i * (m * t.size)) bytes)))
  corner_step i low room =
      let more : (i + 1) * m ≡ i * m + m = omega arith in
      ap (λ n. cells_bytes t (table value_here n)) more ∙ ap (cells_bytes t) (table_add value_here (i * m) m)
      ∙ cells_add t (table value_here (i * m)) (map value_here (range_with_len (i * m) m))
      ∙ ap (λ vs. cells_bytes t (table value_here (i * m)) ++ cells_bytes t vs) (kept_slice i low room)

  -- the other slices are the fill
  pub left_slices : map value_here (range_with_len (s * m) ((c - s) * m)) ≡ replicate ((c - s) * m) fill
  left_slices = sym (replicate_range fill value_here (s * m) ((c - s) * m) (λ j low.
      let some : 0 < m = positive j (c - s) m low in
      let column : j % m < m = omega arith in
      let back : j / m * m + j % m ≡ j = div-add-mod' j m in
      let spread : (s + j / m) * m ≡ s * m + j / m * m = omega arith in
      let split : s * m + j ≡ (s + j / m) * m + j % m = omega (arith, back, spread) in
      let outside : nat_lt (s + j / m) s ≡ false = grind (arith, nat_tests) in
      sym (ap value_here split ∙ at_slice (s + j / m) (j % m) column
      ∙ ap (λ b. cond (b && is_inside ss (index_of cs (j % m))) (value_in t bytes ((s + j / m) * m + j % m)) fill) outside)))

  pub corner_end : s ≤ c → cells_bytes t (corner_values t fill (c ∷ cs) (s ∷ ss) bytes)
      ≡ cells_bytes t (table value_here (s * m)) ++ cells_bytes t (replicate ((c - s) * m) fill)
  corner_end within =
      let back : s + (c - s) ≡ c = omega arith in
      let all : c * m ≡ s * m + (c - s) * m = ap (λ n. n * m) (sym back) ∙ omega arith in
      ap (λ n. cells_bytes t (table value_here n)) all ∙ ap (cells_bytes t) (table_add value_here (s * m) ((c - s) * m))
      ∙ cells_add t (table value_here (s * m)) (map value_here (range_with_len (s * m) ((c - s) * m)))
      ∙ ap (λ vs. cells_bytes t (table value_here (s * m)) ++ cells_bytes t vs) left_slices

-- where all other dimensions are kept whole, the slices that are kept stand one behind another
module _ (t : Fixed) (fill : ℤ) (bytes : List ℕ) (c s : ℕ) (cs : List ℕ) where
  whole_slices : table (value_here t fill bytes c s cs cs) (s * cells cs) ≡ table (value_in t bytes) (s * cells cs)
  whole_slices = map_ranges (value_here t fill bytes c s cs cs) (value_in t bytes) 0 0 (s * cells cs) (λ j low.
      let m : ℕ = cells cs in
      let here : 0 + j ≡ j = omega arith in
      let some : 0 < m = positive j s m low in
      let row : nat_lt (j / m) s ≡ true = (let below : j / m < s = div_below j m s some low in grind (arith, nat_tests, below)) in
      let inside : is_inside cs (index_of cs (j % m)) ≡ true = is_inside_from cs (index_of cs (j % m)) (inside-index cs (j % m) (omega arith)) in
      ap (value_here t fill bytes c s cs cs) here
      ∙ ap₂ (λ a b. cond (a && b) (value_in t bytes j) fill) row inside ∙ ap (value_in t bytes) (sym here))

  pub corner_row : IsFixed t → AreBytes bytes → s ≤ c → length bytes ≡ c * cells cs * t.size
      → cells_bytes t (corner_values t fill (c ∷ cs) (s ∷ cs) bytes) ≡ take (s * (cells cs * t.size)) bytes ++ cells_bytes t (replicate ((c - s) * cells cs) fill)
  corner_row sound low within long =
      let same : s * cells cs * t.size ≡ s * (cells cs * t.size) = omega arith in
      let fits : s * cells cs * t.size ≤ c * cells cs * t.size = mul-le-mul_right t.size (mul-le-mul_right (cells cs) within) in
      corner_end t fill bytes c s cs cs within
      ∙ ap (λ vs. cells_bytes t vs ++ cells_bytes t (replicate ((c - s) * cells cs) fill)) whole_slices
      ∙ ap (λ (xs : List ℕ). xs ++ cells_bytes t (replicate ((c - s) * cells cs) fill))
      (bytes_again t bytes (s * cells cs) sound low (omega (arith, long, fits)) ∙ ap (λ n. take n bytes) same)

-- a chunk of which all cells are kept is its bytes
pub corner_whole : (t : Fixed) (fill : ℤ) (bytes chunk : List ℕ) → IsFixed t → AreBytes bytes → length bytes ≡ cells chunk * t.size
    → cells_bytes t (corner_values t fill chunk chunk bytes) ≡ bytes
corner_whole t fill bytes chunk sound low long =
    ap (cells_bytes t) (map_ranges (corner_value t fill chunk chunk bytes) (value_in t bytes) 0 0 (cells chunk) (λ j under.
    let here : 0 + j ≡ j = omega arith in
    let inside : is_inside chunk (index_of chunk j) ≡ true = is_inside_from chunk (index_of chunk j) (inside-index chunk j under) in
    ap (corner_value t fill chunk chunk bytes) here ∙ ap (λ b. cond b (value_in t bytes j) fill) inside ∙ ap (value_in t bytes) (sym here)))
    ∙ bytes_again t bytes (cells chunk) sound low (omega (arith, long)) ∙ ap (λ n. take n bytes) (sym long) ∙ take_all (length bytes) bytes (omega arith)

-- so is one with no dimension
pub corner_bare : (t : Fixed) (fill : ℤ) (bytes : List ℕ) (spans : List Span) → length spans ≡ 0 → IsFixed t → AreBytes bytes → length bytes ≡ cells (span_sizes spans) * t.size
    → cells_bytes t (corner_values t fill (span_sizes spans) (span_slices spans) bytes) ≡ bytes
corner_bare t fill bytes [] none sound low long = corner_whole t fill bytes [] sound low long
corner_bare t fill bytes (s ∷ spans) none sound low long = absurd (omega (arith, none))
