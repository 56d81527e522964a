-- Selected cells by their numbers, and in rows of groups.
use Rattle.std.proofs.Common.{◌≡◌, ℕ, zero, suc, ◌+◌, ◌-◌, ◌*◌, ◌/◌, ◌%◌, ◌<◌, ◌≤◌, List, [], ◌∷◌, ◌++◌, length, get_or, take, drop, map, refl, sym, ap, ◌∙◌, arith, true, false}
use Rattle.std.proofs.Math.Nat.{mul-le-mul_left, mul-le-mul_right}
use Rattle.std.proofs.lemmas.Bool.{and_parts, or_parts}
use Rattle.std.proofs.lemmas.Bool.Decides.{nat_tests}
use Rattle.std.proofs.lemmas.Grind.{flat_map-append}
use Rattle.std.proofs.lemmas.List.{map-append}
use Rattle.std.proofs.lemmas.Nat.{div-mul-add, mod-mul-add, mul-add-lt, mul-lt, div-add-mod', div_below, mod_below}
use Rattle.std.specs.List.{list_any, range_with_len}
use Rattle.h5_model.specs.Format.Limits.{most_cells}
use Rattle.h5_model.specs.Tree.Places.{cells, index_of}
use Rattle.h5_model.specs.declared.Axis.{Axis}
use Rattle.h5_model.specs.Views.Selection.{Slab, selection_of, fits_along, fits_all, has_no_cell, overlaps, selects_none}
use Rattle.h5_model.proofs.PlaceLaws.{place-index, inside-index, positive}
use Rattle.h5_model.proofs.SelectionLaws.{range-append}
use Rattle.h5_shape.specs.declared.rows.CellRows.{CellRows}
use Rattle.h5_shape.specs.SpacedPlaces.{spaced_places, selected_from, first_place}
use Rattle.h5_shape.specs.PartCells.{selection_shape}
use Rattle.h5_shape.specs.Rows.{IsRowed, cells_at, cells_in, groups_from, repeated_place, row_cells, selected_place}
use Rattle.h5_shape.proofs.AlongLaws.{quotient-low}
use Rattle.h5_shape.proofs.AxisLaws.{axis_cells, tail_is}
use Rattle.h5_shape.proofs.PositionLaws.{get_or-selected_from, length-selected_from}
use Rattle.h5_shape.proofs.SelectedPlaces.{selection-from}

-- ---- numbers by their digits

digits : (n m b : ℕ) → 0 < m → 0 < b → (n / (b * m) ≡ n / m / b) × (n % (b * m) ≡ n / m % b * m + n % m)
digits n m b some more =
    let k = n / m in
    let low : n % m < m = mod_below n m some in
    let digit : k % b < b = mod_below k b more in
    let whole : (k / b * b + k % b) * m + n % m ≡ n = ap (λ (x : ℕ). x * m + n % m) (div-add-mod' k b) ∙ div-add-mod' n m in
    let inner : k % b * m + n % m < b * m = omega (arith, mul-add-lt (k % b) m (n % m) b digit low) in
    let same : k / b * (b * m) + (k % b * m + n % m) ≡ n = omega (arith, whole) in
    (rw same at (div-mul-add (k / b) (b * m) (k % b * m + n % m) inner), rw same at (mod-mul-add (k / b) (b * m) (k % b * m + n % m) inner))

-- ---- numbers in rows

in-row : (r : CellRows) (i j : ℕ) → i ≤ r.more → j < r.length → i * r.length + j < row_cells r
in-row r i j within small = omega (arith, mul-add-lt i r.length j (r.more + 1) (omega arith) small)

pub row-some : (r : CellRows) → 0 < r.length → 0 < row_cells r
row-some r long = omega (arith, in-row r 0 0 (omega arith) long)

in-rows : (r : CellRows) (q x : ℕ) → q < r.count → x < row_cells r → q * row_cells r + x < cells_in r
in-rows r q x low within = omega (arith, mul-add-lt q (row_cells r) x r.count low within)

-- the same rows of other numbers, whose cells stand so far behind
pub rowed_moved : (f g : ℕ → ℕ) (c : ℕ) (r : CellRows) → ((n : ℕ) → n < cells_in r → g n ≡ c + f n) → IsRowed f r → IsRowed g r
rowed_moved f g c r same h = record {
  long = h.long;
  rows = h.rows;
  stand = λ q i j low within small.
      let first : q * row_cells r < cells_in r = omega (arith, in-rows r q 0 low (row-some r h.long)) in
      same (q * row_cells r + (i * r.length + j)) (in-rows r q (i * r.length + j) low (in-row r i j within small))
      ∙ ap (λ (n : ℕ). c + n) (h.stand q i j low within small)
      ∙ omega (arith, same (q * row_cells r) first);
}

-- ---- rows repeated_place

repeated-low : (f : ℕ → ℕ) (total step n : ℕ) → n < total → repeated_place f total step n ≡ f n
repeated-low f total step n low =
    let parts = quotient-low total n low in
    ap (λ (x : ℕ). f x + n / total * step) parts.1 ∙ ap (λ (x : ℕ). f n + x * step) parts.0 ∙ omega arith

pub rowed_once : (f : ℕ → ℕ) (r : CellRows) (step : ℕ) → IsRowed f r → IsRowed (repeated_place f (cells_in r) step) r
rowed_once f r step h = rowed_moved f (repeated_place f (cells_in r) step) 0 r (λ n low. repeated-low f (cells_in r) step n low ∙ omega arith) h

at_row : (r : CellRows) (q x : ℕ) → x < row_cells r → 0 < r.count
    → ((q * row_cells r + x) / cells_in r ≡ q / r.count) × ((q * row_cells r + x) % cells_in r ≡ q % r.count * row_cells r + x)
at_row r q x low some =
    let w = row_cells r in
    let n = q * w + x in
    let by = digits n w r.count (omega (arith, low)) some in
    let row : n / w ≡ q = div-mul-add q w x low in
    let rest : n % w ≡ x = mod-mul-add q w x low in
    (by.0 ∙ ap (λ (k : ℕ). k / r.count) row, by.1 ∙ ap (λ (k : ℕ). k % r.count * w + n % w) row ∙ ap (λ (y : ℕ). q % r.count * w + y) rest)

-- more rows
pub rowed_more : (f : ℕ → ℕ) (r : CellRows) (count step : ℕ) → 0 < count → IsRowed f r
    → IsRowed (repeated_place f (cells_in r) step) (record { length = r.length; step = r.step; more = r.more; count = r.count * count })
rowed_more f r count step some h = record {
  long = h.long;
  rows = omega (arith, mul-add-lt 0 r.count 0 count some h.rows);
  stand = λ q i j low within small.
      let w = row_cells r in
      let t = cells_in r in
      let x = i * r.length + j in
      let here = at_row r q x (in-row r i j within small) h.rows in
      let start = at_row r q 0 (row-some r h.long) h.rows in
      let zero_add : q * w + 0 ≡ q * w = omega arith in
      let first : q % r.count * w + 0 ≡ q % r.count * w = omega arith in
      let quotient : q * w / t ≡ q / r.count = rw zero_add at start.0 in
      let remainder : q * w % t ≡ q % r.count * w = rw (zero_add, first) at start.1 in
      ap (λ (n : ℕ). f n + (q * w + x) / t * step) here.1
      ∙ ap (λ (k : ℕ). f (q % r.count * w + x) + k * step) here.0
      ∙ ap (λ (n : ℕ). n + q / r.count * step) (h.stand (q % r.count) i j (mod_below q r.count h.rows) within small)
      ∙ ap (λ (n : ℕ). (f n + (i * r.step + j)) + q / r.count * step) (sym remainder)
      ∙ ap (λ (k : ℕ). (f (q * w % t) + (i * r.step + j)) + k * step) (sym quotient)
      ∙ omega arith;
}

one_row : (r : CellRows) → r.count ≡ 1 → r.more ≡ 0 → cells_in r ≡ r.length
one_row r one none = rw (one, none) (omega arith)

-- the one group gets longer
pub rowed_longer : (f : ℕ → ℕ) (r : CellRows) (count step : ℕ) → 0 < count → r.count ≡ 1 → r.more ≡ 0 → step ≡ r.length → IsRowed f r
    → IsRowed (repeated_place f (cells_in r) step) (record { length = r.length * count; step = r.step; more = r.more; count = r.count })
rowed_longer f r count step some one none next h = record {
  long = omega (arith, mul-add-lt 0 r.length 0 count some h.long);
  rows = h.rows;
  stand = λ q i j low within small.
      let no_row : q ≡ 0 = omega (arith, low, one) in
      let no_group : i ≡ 0 = omega (arith, within, none) in
      rw (no_row, no_group) (
      let t = cells_in r in
      let l = r.length in
      let all : t ≡ l = one_row r one none in
      let rest : j % l < l = mod_below j l h.long in
      let begin : 0 * row_cells r ≡ 0 = omega arith in
      let at : f (j % l) ≡ f 0 + j % l = ap f (omega arith) ∙ h.stand 0 0 (j % l) h.rows (omega arith) rest ∙ ap (λ (n : ℕ). f n + (0 * r.step + j % l)) begin ∙ omega arith in
      let whole : j / l * l + j % l ≡ j = div-add-mod' j l in
      let main : f (j % t) + j / t * step ≡ f 0 + j =
      ap (λ (n : ℕ). f (j % n) + j / n * step) all ∙ ap (λ (n : ℕ). n + j / l * step) at ∙ ap (λ (s : ℕ). (f 0 + j % l) + j / l * s) next ∙ omega (arith, whole) in
      let from : repeated_place f t step 0 ≡ f 0 = repeated-low f t step 0 (omega (arith, all, h.long)) in
      let number : 0 * row_cells (record r { length = l * count }) + (0 * (l * count) + j) ≡ j = omega arith in
      let first : 0 * row_cells (record r { length = l * count }) ≡ 0 = omega arith in
      ap (repeated_place f t step) number ∙ main ∙ omega arith ∙ ap (λ (n : ℕ). n + (0 * r.step + j)) (sym from) ∙ ap (λ (n : ℕ). repeated_place f t step n + (0 * r.step + j)) (sym first)
      );
}

-- the one group becomes the first of a row
pub rowed_wider : (f : ℕ → ℕ) (r : CellRows) (count step : ℕ) → 0 < count → r.count ≡ 1 → r.more ≡ 0 → IsRowed f r
    → IsRowed (repeated_place f (cells_in r) step) (record { length = r.length; step = step; more = count - 1; count = r.count })
rowed_wider f r count step some one none h = record {
  long = h.long;
  rows = h.rows;
  stand = λ q i j low within small.
      let no_row : q ≡ 0 = omega (arith, low, one) in
      rw no_row (
      let t = cells_in r in
      let l = r.length in
      let all : t ≡ l = one_row r one none in
      let n = i * l + j in
      let group : n / l ≡ i = div-mul-add i l j small in
      let rest : n % l ≡ j = mod-mul-add i l j small in
      let begin : 0 * row_cells r ≡ 0 = omega arith in
      let at : f j ≡ f 0 + j = ap f (omega arith) ∙ h.stand 0 0 j h.rows (omega arith) small ∙ ap (λ (n : ℕ). f n + (0 * r.step + j)) begin ∙ omega arith in
      let main : f (n % t) + n / t * step ≡ (f 0 + j) + i * step =
      ap (λ (m : ℕ). f (n % m) + n / m * step) all ∙ ap (λ (m : ℕ). f m + n / l * step) rest ∙ ap (λ (m : ℕ). f j + m * step) group ∙ ap (λ (m : ℕ). m + i * step) at in
      let from : repeated_place f t step 0 ≡ f 0 = repeated-low f t step 0 (omega (arith, all, h.long)) in
      let wider : CellRows = record { length = l; step = step; more = count - 1; count = r.count } in
      let number : 0 * row_cells wider + (i * l + j) ≡ n = omega arith in
      let first : 0 * row_cells wider ≡ 0 = omega arith in
      ap (repeated_place f t step) number ∙ main ∙ omega arith ∙ ap (λ (x : ℕ). x + (i * step + j)) (sym from) ∙ ap (λ (x : ℕ). repeated_place f t step x + (i * step + j)) (sym first)
      );
}

-- ---- one axis around others

-- the place of a number, where the cells of the other axes are repeated_place for each cell of a block, and the blocks then
pub around_blocks : (d : ℕ) (ds : List ℕ) (a : Axis) (rest : Slab) (n : ℕ) → 0 < cells (selection_shape rest) → 0 < a.block
    → selected_place (d ∷ ds) (a ∷ rest) n
    ≡ a.start * cells ds + repeated_place (repeated_place (selected_place ds rest) (cells (selection_shape rest)) (cells ds)) (cells (selection_shape rest) * a.block) (a.stride * cells ds) n
around_blocks d ds a rest n some more =
    let m = cells (selection_shape rest) in
    let c = cells ds in
    let f = selected_place ds rest in
    let k = n / m in
    let low : n % m < m = mod_below n m some in
    let turned : a.block * m ≡ m * a.block = omega arith in
    let by : (n / (m * a.block) ≡ k / a.block) × (n % (m * a.block) ≡ k % a.block * m + n % m) = rw turned at (digits n m a.block some more) in
    let block : n % (m * a.block) / m ≡ k % a.block = ap (λ (x : ℕ). x / m) by.1 ∙ div-mul-add (k % a.block) m (n % m) low in
    let cell : n % (m * a.block) % m ≡ n % m = ap (λ (x : ℕ). x % m) by.1 ∙ mod-mul-add (k % a.block) m (n % m) low in
    sym (
    ap (λ (x : ℕ). a.start * c + ((f x + n % (m * a.block) / m * c) + n / (m * a.block) * (a.stride * c))) cell
    ∙ ap (λ (x : ℕ). a.start * c + ((f (n % m) + x * c) + n / (m * a.block) * (a.stride * c))) block
    ∙ ap (λ (x : ℕ). a.start * c + ((f (n % m) + k % a.block * c) + x * (a.stride * c))) by.0
    ∙ omega arith
    )

-- the same of one block
pub around_block : (d : ℕ) (ds : List ℕ) (a : Axis) (rest : Slab) (n : ℕ) → 0 < cells (selection_shape rest) → n < cells (selection_shape rest) * a.block
    → selected_place (d ∷ ds) (a ∷ rest) n ≡ a.start * cells ds + repeated_place (selected_place ds rest) (cells (selection_shape rest)) (cells ds) n
around_block d ds a rest n some below =
    let m = cells (selection_shape rest) in
    let more : 0 < a.block = around_some m a.block n below in
    around_blocks d ds a rest n some more
    ∙ ap (λ (x : ℕ). a.start * cells ds + x) (repeated-low (repeated_place (selected_place ds rest) m (cells ds)) (m * a.block) (a.stride * cells ds) n below) where
      around_some : (m b n : ℕ) → n < m * b → 0 < b
      around_some m zero n below = absurd (omega (arith, below))
      around_some m (suc b) n below = omega arith

-- cells in rows, with one axis more
pub rowed_blocks : (sizes : List ℕ) (a : Axis) (rest : Slab) (c t u : ℕ) (r : CellRows) → 1 ≤ length sizes → c ≡ cells (take (length sizes - 1) (drop 1 sizes))
    → t ≡ cells (selection_shape rest) → u ≡ t * a.block → 0 < cells (selection_shape rest) → 0 < a.block
    → IsRowed (repeated_place (repeated_place (selected_place (take (length sizes - 1) (drop 1 sizes)) rest) t c) u (a.stride * c)) r → IsRowed (selected_place sizes (a ∷ rest)) r
rowed_blocks [] a rest c t u r long below all more some block h = absurd (omega arith)
rowed_blocks (d ∷ ds) a rest c t u r long below all more some block h =
    let f = selected_place ds rest in
    let m = cells (selection_shape rest) in
    let under : c ≡ cells ds = rw (tail_is d ds) at below in
    let here : IsRowed (repeated_place (repeated_place f t c) u (a.stride * c)) r = rw (tail_is d ds) at h in
    let blocks : u ≡ m * a.block = more ∙ ap (λ (x : ℕ). x * a.block) all in
    rowed_moved (repeated_place (repeated_place f t c) u (a.stride * c)) (selected_place (d ∷ ds) (a ∷ rest)) (a.start * cells ds) r
    (λ n low. around_blocks d ds a rest n some block
    ∙ ap (λ (x : ℕ). a.start * cells ds + repeated_place (repeated_place f m (cells ds)) x (a.stride * cells ds) n) (sym blocks)
    ∙ ap (λ (x : ℕ). a.start * cells ds + repeated_place (repeated_place f x (cells ds)) u (a.stride * cells ds) n) (sym all)
    ∙ ap (λ (x : ℕ). a.start * cells ds + repeated_place (repeated_place f t x) u (a.stride * x) n) (sym under)) here

-- the same where the axis has one block
pub rowed_block : (sizes : List ℕ) (a : Axis) (rest : Slab) (c t : ℕ) (r : CellRows) → 1 ≤ length sizes → c ≡ cells (take (length sizes - 1) (drop 1 sizes))
    → t ≡ cells (selection_shape rest) → cells_in r ≡ t * a.block → 0 < cells (selection_shape rest)
    → IsRowed (repeated_place (selected_place (take (length sizes - 1) (drop 1 sizes)) rest) t c) r → IsRowed (selected_place sizes (a ∷ rest)) r
rowed_block [] a rest c t r long below all more some h = absurd (omega arith)
rowed_block (d ∷ ds) a rest c t r long below all more some h =
    let f = selected_place ds rest in
    let m = cells (selection_shape rest) in
    let under : c ≡ cells ds = rw (tail_is d ds) at below in
    let here : IsRowed (repeated_place f t c) r = rw (tail_is d ds) at h in
    let blocks : cells_in r ≡ m * a.block = more ∙ ap (λ (x : ℕ). x * a.block) all in
    rowed_moved (repeated_place f t c) (selected_place (d ∷ ds) (a ∷ rest)) (a.start * cells ds) r
    (λ n low. around_block d ds a rest n some (omega (arith, low, blocks))
    ∙ ap (λ (x : ℕ). a.start * cells ds + repeated_place f x (cells ds) n) (sym all)
    ∙ ap (λ (x : ℕ). a.start * cells ds + repeated_place f t x n) (sym under)) here

-- ---- a step along one axis

-- an axis of a selection of some cell has one, and so have the others
pub some_block : (a : Axis) (rest : Slab) → selects_none (a ∷ rest) ≡ false → (0 < a.count) × (0 < a.block)
some_block a rest some =
    let parts : (has_no_cell a ≡ false) × (selects_none rest ≡ false) = or_parts (has_no_cell a) (selects_none rest) some in
    let count : 0 < a.count = grind (arith, nat_tests, parts.0) in
    let block : 0 < a.block = grind (arith, nat_tests, parts.0) in
    (count, block)

pub some_rest : (a : Axis) (rest : Slab) → selects_none (a ∷ rest) ≡ false → selects_none rest ≡ false
some_rest a rest some = (or_parts (has_no_cell a) (selects_none rest) some).1

pub shape_some : (slab : Slab) → selects_none slab ≡ false → 0 < cells (selection_shape slab)
shape_some [] some = omega arith
shape_some (a ∷ rest) some =
    let axis = some_block a rest some in
    omega (arith, mul-lt 0 0 (a.count * a.block) (cells (selection_shape rest)) (omega (arith, mul-lt 0 0 a.count a.block axis.0 axis.1)) (shape_some rest (some_rest a rest some)))

index_below : (a : Axis) (d t : ℕ) → fits_along d a ≡ true → t < a.count * a.block → a.start + t / a.block * a.stride + t % a.block < d
index_below a d t fits low =
    let room : a.start + (a.count - 1) * a.stride + a.block ≤ d = grind (arith, nat_tests) in
    let block : 0 < a.block = positive t a.count a.block low in
    let here : t / a.block < a.count = div_below t a.block a.count block low in
    let steps : t / a.block * a.stride ≤ (a.count - 1) * a.stride = mul-le-mul_right a.stride (omega (arith, here)) in
    omega (arith, room, steps, mod_below t a.block block)

-- what an axis selects, and the places of it, within the cells of the array
pub record HasRoom (sizes : List ℕ) (a : Axis) (c place : ℕ) : Type 0 where
  pub some : 0 < a.count * a.block
  pub few : a.count * a.block ≤ most_cells
  pub low : (t : ℕ) → t < a.count * a.block → a.start + t / a.block * a.stride + t % a.block < most_cells
  pub at : (t : ℕ) → t < a.count * a.block → (a.start + t / a.block * a.stride + t % a.block) * c + place < cells sizes

pub room_along : (sizes : List ℕ) (a : Axis) (rest : Slab) (c place : ℕ) → 1 ≤ length sizes → fits_all sizes (a ∷ rest) ≡ true → selects_none (a ∷ rest) ≡ false
    → list_any overlaps (a ∷ rest) ≡ false → cells sizes ≤ most_cells → c ≡ cells (take (length sizes - 1) (drop 1 sizes)) → place < c → HasRoom sizes a c place
room_along [] a rest c place long fits some apart small below low = absurd (omega arith)
room_along (d ∷ ds) a rest c place long fits some apart small below low =
    let under : c ≡ cells ds = rw (tail_is d ds) at below in
    let split : (fits_along d a ≡ true) × (fits_all ds rest ≡ true) = and_parts (fits_along d a) (fits_all ds rest) fits in
    let blocks : (overlaps a ≡ false) × (list_any overlaps rest ≡ false) = or_parts (overlaps a) (list_any overlaps rest) apart in
    let axis = some_block a rest some in
    let wide : d * 1 ≤ d * cells ds = mul-le-mul_left d (omega (arith, low, under)) in
    let few : a.count * a.block ≤ d = axis_cells a d split.0 blocks.0 axis.0 in
    record {
      some = omega (arith, mul-lt 0 0 a.count a.block axis.0 axis.1);
      few = omega (arith, few, wide, small);
      low = λ t inside. omega (arith, index_below a d t split.0 inside, wide, small);
      at = λ t inside. rw under (omega (arith, mul-add-lt (a.start + t / a.block * a.stride + t % a.block) (cells ds) place d (index_below a d t split.0 inside) (omega (arith, low, under))));
    }

-- one axis more, from the place and the number in the others
pub place_step : (sizes : List ℕ) (a : Axis) (rest : Slab) (c place around number : ℕ) → 1 ≤ length sizes → c ≡ cells (take (length sizes - 1) (drop 1 sizes))
    → 0 < cells (selection_shape rest) → 0 < a.count * a.block
    → place ≡ selected_place (take (length sizes - 1) (drop 1 sizes)) rest (number % cells (selection_shape rest)) → around ≡ number / cells (selection_shape rest)
    → (let t = around % (a.count * a.block) in (a.start + t / a.block * a.stride + t % a.block) * c + place)
    ≡ selected_place sizes (a ∷ rest) (number % cells (selection_shape (a ∷ rest)))
place_step [] a rest c place around number long below some more is on = absurd (omega arith)
place_step (d ∷ ds) a rest c place around number long below some more is on =
    let m = cells (selection_shape rest) in
    let k = a.count * a.block in
    let f = selected_place ds rest in
    let under : c ≡ cells ds = rw (tail_is d ds) at below in
    let here : place ≡ f (number % m) = rw (tail_is d ds) at is in
    let by = digits number m k some more in
    let n = number % (k * m) in
    let low : number % m < m = mod_below number m some in
    let axis : n / m ≡ around % k = ap (λ (x : ℕ). x / m) by.1 ∙ div-mul-add (number / m % k) m (number % m) low ∙ ap (λ (x : ℕ). x % k) (sym on) in
    let cell : n % m ≡ number % m = ap (λ (x : ℕ). x % m) by.1 ∙ mod-mul-add (number / m % k) m (number % m) low in
    let index = λ (t : ℕ). a.start + t / a.block * a.stride + t % a.block in
    ap (λ (x : ℕ). index (around % k) * x + place) under
    ∙ ap (λ (x : ℕ). index (around % k) * cells ds + x) here
    ∙ ap (λ (x : ℕ). index (around % k) * cells ds + f x) (sym cell)
    ∙ ap (λ (x : ℕ). index x * cells ds + f (n % m)) (sym axis)

pub around_step : (a : Axis) (rest : Slab) (around number : ℕ) → 0 < cells (selection_shape rest) → 0 < a.count * a.block → around ≡ number / cells (selection_shape rest)
    → around / (a.count * a.block) ≡ number / cells (selection_shape (a ∷ rest))
around_step a rest around number some more on =
    ap (λ (x : ℕ). x / (a.count * a.block)) on ∙ sym ((digits number (cells (selection_shape rest)) (a.count * a.block) some more).0)

-- ---- the cells of rows

map_spaced : (f : ℕ → ℕ) (b p n : ℕ) → ((j : ℕ) → j < n → f (b + j) ≡ p + j) → map f (range_with_len b n) ≡ spaced_places n 1 p
map_spaced f b p zero same = refl
map_spaced f b p (suc n) same =
    let here : f b ≡ p = ap f (omega arith) ∙ same 0 (omega arith) ∙ omega arith in
    let rest : map f (range_with_len (b + 1) n) ≡ spaced_places n 1 (p + 1) = map_spaced f (b + 1) (p + 1) n (λ j low. ap f (omega arith) ∙ same (j + 1) (omega arith) ∙ omega arith) in
    rw (here, rest) refl

row_lists : (f : ℕ → ℕ) (r : CellRows) (q : ℕ) → IsRowed f r → q < r.count → (k i : ℕ) → i + k ≡ r.more + 1
    → cells_at r.length (spaced_places k r.step (f (q * row_cells r) + i * r.step)) ≡ map f (range_with_len (q * row_cells r + i * r.length) (k * r.length))
row_lists f r q h low zero i all = let none : zero * r.length ≡ 0 = omega arith in rw none refl
row_lists f r q h low (suc k) i all =
    let p = f (q * row_cells r) + i * r.step in
    let b = q * row_cells r + i * r.length in
    let grown : suc k * r.length ≡ r.length + k * r.length = omega arith in
    let group : map f (range_with_len b r.length) ≡ spaced_places r.length 1 p = map_spaced f b p r.length (λ j small. ap f (omega arith) ∙ h.stand q i j low (omega arith) small ∙ omega arith) in
    let next : p + r.step ≡ f (q * row_cells r) + suc i * r.step = omega arith in
    let behind : b + r.length ≡ q * row_cells r + suc i * r.length = omega arith in
    let rest : cells_at r.length (spaced_places k r.step (p + r.step)) ≡ map f (range_with_len (b + r.length) (k * r.length)) =
    ap (λ (x : ℕ). cells_at r.length (spaced_places k r.step x)) next ∙ row_lists f r q h low k (suc i) (omega arith) ∙ ap (λ (x : ℕ). map f (range_with_len x (k * r.length))) (sym behind) in
    ap (λ (xs : List ℕ). xs ++ cells_at r.length (spaced_places k r.step (p + r.step))) (sym group)
    ∙ ap (λ (xs : List ℕ). map f (range_with_len b r.length) ++ xs) rest
    ∙ sym (map-append f (range_with_len b r.length) (range_with_len (b + r.length) (k * r.length)))
    ∙ ap (map f) (sym (range-append b r.length (k * r.length)))
    ∙ ap (λ (n : ℕ). map f (range_with_len b n)) (sym grown)

rows_list : (f : ℕ → ℕ) (r : CellRows) → IsRowed f r → (n q : ℕ) → q + n ≡ r.count
    → cells_at r.length (groups_from f r n (q * row_cells r)) ≡ map f (range_with_len (q * row_cells r) (n * row_cells r))
rows_list f r h zero q all = let none : zero * row_cells r ≡ 0 = omega arith in rw none refl
rows_list f r h (suc n) q all =
    let w = row_cells r in
    let grown : suc n * w ≡ w + n * w = omega arith in
    let start : f (q * w) + 0 * r.step ≡ f (q * w) = omega arith in
    let begin : q * w + 0 * r.length ≡ q * w = omega arith in
    let row : cells_at r.length (spaced_places (r.more + 1) r.step (f (q * w))) ≡ map f (range_with_len (q * w) w) =
    ap (λ (x : ℕ). cells_at r.length (spaced_places (r.more + 1) r.step x)) (sym start) ∙ row_lists f r q h (omega arith) (r.more + 1) 0 (omega arith) ∙ ap (λ (x : ℕ). map f (range_with_len x w)) begin in
    let next : q * w + w ≡ suc q * w = omega arith in
    let rest : cells_at r.length (groups_from f r n (q * w + w)) ≡ map f (range_with_len (q * w + w) (n * w)) =
    ap (λ (x : ℕ). cells_at r.length (groups_from f r n x)) next ∙ rows_list f r h n (suc q) (omega arith) ∙ ap (λ (x : ℕ). map f (range_with_len x (n * w))) (sym next) in
    flat_map-append (spaced_places r.length 1) (spaced_places (r.more + 1) r.step (f (q * w))) (groups_from f r n (q * w + w))
    ∙ ap (λ (xs : List ℕ). xs ++ cells_at r.length (groups_from f r n (q * w + w))) row
    ∙ ap (λ (xs : List ℕ). map f (range_with_len (q * w) w) ++ xs) rest
    ∙ sym (map-append f (range_with_len (q * w) w) (range_with_len (q * w + w) (n * w)))
    ∙ ap (map f) (sym (range-append (q * w) w (n * w)))
    ∙ ap (λ (x : ℕ). map f (range_with_len (q * w) x)) (sym grown)

-- all selected cells, by their numbers
map_numbers : (f : ℕ → ℕ) (xs : List ℕ) (b : ℕ) → ((i : ℕ) → i < length xs → f (b + i) ≡ get_or xs i 0) → map f (range_with_len b (length xs)) ≡ xs
map_numbers f [] b same = refl
map_numbers f (x ∷ xs) b same =
    let here : f b ≡ x = ap f (omega arith) ∙ same 0 (omega arith) in
    let rest : map f (range_with_len (b + 1) (length xs)) ≡ xs = map_numbers f xs (b + 1) (λ i low. ap f (omega arith) ∙ same (suc i) (omega arith)) in
    rw (here, rest) refl

pub selection-numbers : (sizes : List ℕ) (slab : Slab) → length sizes ≡ length slab → fits_all sizes slab ≡ true → list_any overlaps slab ≡ false
    → selection_of sizes slab ≡ map (selected_place sizes slab) (range_with_len 0 (cells (selection_shape slab)))
selection-numbers sizes slab rank fits apart =
    let shape = selection_shape slab in
    let o = first_place sizes slab in
    let xs = selected_from sizes slab (0 + o) in
    let long : length xs ≡ cells shape = length-selected_from sizes slab rank (0 + o) in
    let zero_add : 0 + o ≡ o = omega arith in
    let each : (i : ℕ) → i < length xs → selected_place sizes slab (0 + i) ≡ get_or xs i 0 = λ i low.
    let inside = inside-index shape i (omega (arith, low, long)) in
    let same : 0 + i ≡ i = omega arith in
    ap (selected_place sizes slab) same
    ∙ sym (ap (λ (n : ℕ). get_or xs n 0) (sym (place-index shape i (omega (arith, low, long)))) ∙ get_or-selected_from sizes slab (index_of shape i) 0 rank inside ∙ omega arith) in
    selection-from sizes slab rank fits apart ∙ ap (selected_from sizes slab) (sym zero_add) ∙ sym (map_numbers (selected_place sizes slab) xs 0 each)
    ∙ ap (λ (n : ℕ). map (selected_place sizes slab) (range_with_len 0 n)) long

-- the cells of all rows are the selected cells
pub selection-rows : (sizes : List ℕ) (slab : Slab) (r : CellRows) → length sizes ≡ length slab → fits_all sizes slab ≡ true → list_any overlaps slab ≡ false
    → IsRowed (selected_place sizes slab) r → cells_in r ≡ cells (selection_shape slab)
    → cells_at r.length (groups_from (selected_place sizes slab) r r.count 0) ≡ selection_of sizes slab
selection-rows sizes slab r rank fits apart h all =
    let f = selected_place sizes slab in
    let none : 0 * row_cells r ≡ 0 = omega arith in
    ap (λ (x : ℕ). cells_at r.length (groups_from f r r.count x)) (sym none) ∙ rows_list f r h r.count 0 (omega arith)
    ∙ ap (λ (x : ℕ). map f (range_with_len x (cells_in r))) none ∙ ap (λ (x : ℕ). map f (range_with_len 0 x)) all
    ∙ sym (selection-numbers sizes slab rank fits apart)

-- the first group, and all that follow it
pub begins_rows : (f : ℕ → ℕ) (r : CellRows) (place next : ℕ) → 0 < r.count → place ≡ f 0 → next ≡ row_cells r
    → place ∷ (spaced_places r.more r.step (place + r.step) ++ groups_from f r (r.count - 1) next) ≡ groups_from f r r.count 0
begins_rows f r place next some first on =
    let n = r.count - 1 in
    let whole : suc n ≡ r.count = omega arith in
    let grown : suc r.more ≡ r.more + 1 = omega arith in
    let at : next ≡ 0 + row_cells r = omega (arith, on) in
    ap (λ (p : ℕ). p ∷ (spaced_places r.more r.step (p + r.step) ++ groups_from f r n next)) first
    ∙ ap (λ (x : ℕ). spaced_places (suc r.more) r.step (f 0) ++ groups_from f r n x) at
    ∙ ap (λ (x : ℕ). spaced_places x r.step (f 0) ++ groups_from f r n (0 + row_cells r)) grown
    ∙ ap (λ (x : ℕ). groups_from f r x 0) whole

-- no row has more cells than all rows
pub row-small : (f : ℕ → ℕ) (r : CellRows) → IsRowed f r → row_cells r ≤ cells_in r
row-small f r h = let once : 1 * row_cells r ≤ r.count * row_cells r = mul-le-mul_right (row_cells r) h.rows in omega (arith, once)
