-- The chunk of a place, and the place in it, one dimension after another from the last to the first.
use Rattle.std.proofs.Common.{◌≡◌, ℕ, zero, suc, ◌+◌, ◌-◌, ◌*◌, ◌/◌, ◌%◌, ◌<◌, ◌≤◌, ◌==◌, if◌then◌else◌, List, [], ◌∷◌, refl, sym, ap, ap₂, ◌∙◌, arith, length, get_or, drop, set}
use Rattle.std.proofs.lemmas.Nat.{div-add-mod', div-mul-add, mod-mul-add, mul-add-lt}
use Rattle.std.proofs.lemmas.List.{drop_more, drop-set, length-drop}
use Rattle.std.proofs.Math.Nat.{mod-eq_of_lt, mul-le-mul_right, div-div-eq-div-mul}
use Rattle.h5_model.specs.Format.Limits.{most_cells, most_chunk_bytes}
use Rattle.h5_model.specs.Tree.Grid.{corner_of, inner_of}
use Rattle.h5_model.specs.Tree.Places.{cells, extent_cells, place_of, index_of, IsInside}
use Rattle.h5_model.proofs.PlaceLaws.{inside-index, positive, place_below}
use Rattle.h5_shape.proofs.GridBoxes.{length-index_of}
use Rattle.h5_layout.proofs.CornerInside.{corner_inside}

-- ---- products

some_head : (d : ℕ) (ds : List ℕ) → 0 < cells (d ∷ ds) → 0 < d
some_head zero ds some = absurd (omega arith)
some_head (suc d) ds some = omega arith

some_tail : (d : ℕ) (ds : List ℕ) → 0 < cells (d ∷ ds) → 0 < cells ds
some_tail d ds some = positive 0 d (cells ds) some

pub some_drop : (k : ℕ) (ds : List ℕ) → 0 < cells ds → 0 < cells (drop k ds)
some_drop zero ds some = some
some_drop (suc k) [] some = some
some_drop (suc k) (d ∷ ds) some = some_drop k ds (some_tail d ds some)

pub some_size : (k : ℕ) (ds : List ℕ) → k < length ds → 0 < cells ds → 0 < get_or ds k 0
some_size k [] low some = absurd (omega arith)
some_size zero (d ∷ ds) low some = some_head d ds some
some_size (suc k) (d ∷ ds) low some = some_size k ds (omega arith) (some_tail d ds some)

-- leaving dimensions out leaves no more cells
pub cells_drop : (k : ℕ) (ds : List ℕ) → 0 < cells ds → cells (drop k ds) ≤ cells ds
cells_drop zero ds some = omega arith
cells_drop (suc k) [] some = omega arith
cells_drop (suc k) (d ∷ ds) some =
    let rest : cells (drop k ds) ≤ cells ds = cells_drop k ds (some_tail d ds some) in
    let one : 1 * cells ds ≤ d * cells ds = mul-le-mul_right (cells ds) (some_head d ds some) in
    omega (arith, rest, one)

pub some_cells : (ds : List ℕ) → ((k : ℕ) → k < length ds → 1 ≤ get_or ds k 0) → 0 < cells ds
some_cells [] each = omega arith
some_cells (d ∷ ds) each =
    let here : 1 ≤ d = each 0 (omega arith) in
    let rest : 0 < cells ds = some_cells ds (λ k low. each (suc k) (omega arith)) in
    let one : 1 * cells ds ≤ d * cells ds = mul-le-mul_right (cells ds) here in
    omega (arith, one)

-- the dimensions from one on have its size times the cells of those behind it
pub product_from : (k : ℕ) (ds : List ℕ) → k < length ds → cells (drop k ds) ≡ get_or ds k 0 * cells (drop (k + 1) ds)
product_from k ds low = ap cells (drop_more ds k 0 low)

-- the same, with sizes of 0 left out
pub positive_from : (k : ℕ) (ds : List ℕ) → k < length ds
    → extent_cells (drop k ds) ≡ (if get_or ds k 0 == 0 then 1 else get_or ds k 0) * extent_cells (drop (k + 1) ds)
positive_from k ds low = ap extent_cells (drop_more ds k 0 low)

-- ---- one dimension more

-- the index of a place, its first number by what is left of the place
index_first : (s : ℕ) (ds : List ℕ) (p : ℕ) → 0 < s → 0 < cells ds
    → index_of (s ∷ ds) (p % cells (s ∷ ds)) ≡ p / cells ds % s ∷ index_of ds (p % cells ds)
index_first s ds p some more =
    let m : ℕ = cells ds in
    let a : ℕ = p / m in
    let column : p % m < m = omega arith in
    let row : a % s < s = omega arith in
    let place : a * m + p % m ≡ p = div-add-mod' p m in
    let rows : a / s * s + a % s ≡ a = div-add-mod' a s in
    let spread : (a / s * s + a % s) * m ≡ a * m = ap (λ n. n * m) rows in
    let parts : (a / s * s + a % s) * m ≡ a / s * (s * m) + a % s * m = omega arith in
    let whole : p ≡ a / s * (s * m) + (a % s * m + p % m) = omega (arith, place, spread, parts) in
    let below : a % s * m + p % m < m * s = mul-add-lt (a % s) m (p % m) s row column in
    let turned : m * s ≡ s * m = omega arith in
    let rest : p % (s * m) ≡ a % s * m + p % m = ap (λ n. n % (s * m)) whole ∙ mod-mul-add (a / s) (s * m) (a % s * m + p % m) (omega (arith, below, turned)) in
    let first : p % (s * m) / m ≡ a % s = ap (λ n. n / m) rest ∙ div-mul-add (a % s) m (p % m) column in
    let others : p % (s * m) % m ≡ p % m = ap (λ n. n % m) rest ∙ mod-mul-add (a % s) m (p % m) column in
    rw (first, others) refl

-- an index in a box is inside the box
pub inner_inside : (chunk index : List ℕ) → length index ≡ length chunk → 0 < cells chunk → IsInside chunk (inner_of chunk index)
inner_inside [] index same some = tt
inner_inside (c ∷ cs) [] same some = absurd (omega arith)
inner_inside (c ∷ cs) (i ∷ is) same some =
    let here : 0 < c = some_head c cs some in
    let low : i % c < c = omega arith in
    (low, inner_inside cs is (omega arith) (some_tail c cs some))

-- ---- the dimensions from the k-th on

module _ (sizes chunk : List ℕ) (place : ℕ) where
  abbrev pub index_from : ℕ → List ℕ
  index_from k = index_of (drop k sizes) (place % cells (drop k sizes))

  abbrev pub corner_from : ℕ → List ℕ
  corner_from k = corner_of (drop k chunk) (index_from k)

  abbrev pub inner_from : ℕ → ℕ
  inner_from k = place_of (drop k chunk) (inner_of (drop k chunk) (index_from k))

  -- the place of the chunk's first cell
  abbrev pub first_from : ℕ → ℕ
  first_from k = place_of (drop k sizes) (corner_from k)

  -- the number of an index in dimension k
  abbrev pub number_in : ℕ → ℕ
  number_in k = place / cells (drop (k + 1) sizes) % get_or sizes k 0

module _ (sizes chunk : List ℕ) (place : ℕ) (same : length chunk ≡ length sizes) (some : 0 < cells sizes) (more : 0 < cells chunk) where
  module _ (k : ℕ) (low : k < length sizes) where
    pub sizes_more : drop k sizes ≡ get_or sizes k 0 ∷ drop (k + 1) sizes
    sizes_more = drop_more sizes k 0 low

    pub chunk_more : drop k chunk ≡ get_or chunk k 0 ∷ drop (k + 1) chunk
    chunk_more = drop_more chunk k 0 (omega arith)

    pub index_more : index_from sizes chunk place k ≡ number_in sizes chunk place k ∷ index_from sizes chunk place (k + 1)
    index_more = ap (λ ds. index_of ds (place % cells ds)) sizes_more
        ∙ index_first (get_or sizes k 0) (drop (k + 1) sizes) place (some_size k sizes low some) (some_drop (k + 1) sizes some)

    pub corner_more : corner_from sizes chunk place k ≡ number_in sizes chunk place k / get_or chunk k 0 * get_or chunk k 0 ∷ corner_from sizes chunk place (k + 1)
    corner_more = ap₂ corner_of chunk_more index_more

    pub inner_more : inner_from sizes chunk place k ≡ number_in sizes chunk place k % get_or chunk k 0 * cells (drop (k + 1) chunk) + inner_from sizes chunk place (k + 1)
    inner_more = ap₂ (λ cs is. place_of cs (inner_of cs is)) chunk_more index_more

    pub first_more : first_from sizes chunk place k
        ≡ number_in sizes chunk place k / get_or chunk k 0 * get_or chunk k 0 * cells (drop (k + 1) sizes) + first_from sizes chunk place (k + 1)
    first_more = ap₂ place_of sizes_more corner_more

    pub step_more : cells (drop (k + 1) sizes) * get_or sizes k 0 ≡ cells (drop k sizes)
    step_more =
        let turned : cells (drop (k + 1) sizes) * get_or sizes k 0 ≡ get_or sizes k 0 * cells (drop (k + 1) sizes) = omega arith in
        turned ∙ sym (ap cells sizes_more)

    pub rest_more : place / cells (drop (k + 1) sizes) / get_or sizes k 0 ≡ place / cells (drop k sizes)
    rest_more =
        let turned : cells (drop (k + 1) sizes) * get_or sizes k 0 ≡ get_or sizes k 0 * cells (drop (k + 1) sizes) = omega arith in
        div-div-eq-div-mul place (cells (drop (k + 1) sizes)) (get_or sizes k 0) ∙ ap (λ n. place / n) (turned ∙ sym (ap cells sizes_more))

    pub stride_more : cells (drop (k + 1) chunk) * get_or chunk k 0 ≡ cells (drop k chunk)
    stride_more =
        let turned : cells (drop (k + 1) chunk) * get_or chunk k 0 ≡ get_or chunk k 0 * cells (drop (k + 1) chunk) = omega arith in
        turned ∙ sym (ap cells chunk_more)

  pub inner_low : (k : ℕ) → inner_from sizes chunk place k < cells (drop k chunk)
  inner_low k =
      let long : length (index_from sizes chunk place k) ≡ length (drop k chunk) = length-index_of (drop k sizes) (place % cells (drop k sizes)) ∙ omega (arith, length-drop k sizes, length-drop k chunk) in
      place_below (drop k chunk) (inner_of (drop k chunk) (index_from sizes chunk place k)) (inner_inside (drop k chunk) (index_from sizes chunk place k) long (some_drop k chunk more))

  pub first_low : (k : ℕ) → first_from sizes chunk place k < cells (drop k sizes)
  first_low k =
      let more : 0 < cells (drop k sizes) = some_drop k sizes some in
      let low : place % cells (drop k sizes) < cells (drop k sizes) = omega (arith, more) in
      place_below (drop k sizes) (corner_from sizes chunk place k)
      (corner_inside (drop k sizes) (drop k chunk) (index_from sizes chunk place k) (omega (arith, same, length-drop k sizes, length-drop k chunk))
      (inside-index (drop k sizes) (place % cells (drop k sizes)) low))

  pub all_from : place < cells sizes → index_from sizes chunk place 0 ≡ index_of sizes place
  all_from below = ap (index_of sizes) (mod-eq_of_lt below)

-- ---- a step from dimension j to the one before it

module _ (sizes chunk : List ℕ) (place : ℕ) (same : length chunk ≡ length sizes) (some : 0 < cells sizes) (more : 0 < cells chunk)
    (j : ℕ) (up : 0 < j) (within : j ≤ length sizes) (rest : ℕ) (rest-is : rest ≡ place / cells (drop j sizes)) where
  abbrev k : ℕ
  k = j - 1

  abbrev box : ℕ
  box = get_or chunk k 0

  abbrev number : ℕ
  number = rest % get_or sizes k 0

  back : j ≡ k + 1
  back = omega arith

  low : k < length sizes
  low = omega arith

  rest_here : rest ≡ place / cells (drop (k + 1) sizes)
  rest_here = rest-is ∙ ap (λ n. place / cells (drop n sizes)) back

  product_here : (ds : List ℕ) (product : ℕ) → product ≡ cells (drop j ds) → product ≡ cells (drop (k + 1) ds)
  product_here ds product is = is ∙ ap (λ n. cells (drop n ds)) back

  number-is : number ≡ number_in sizes chunk place k
  number-is = ap (λ n. n % get_or sizes k 0) rest_here

  pub next_rest : rest / get_or sizes k 0 ≡ place / cells (drop k sizes)
  next_rest = ap (λ n. n / get_or sizes k 0) rest_here ∙ rest_more sizes chunk place same some more k low

  -- the place in the chunk
  module _ (stride inner : ℕ) (stride-is : stride ≡ cells (drop j chunk)) (inner-is : inner ≡ inner_from sizes chunk place j) where
    inner_here : inner ≡ inner_from sizes chunk place (k + 1)
    inner_here = inner-is ∙ ap (inner_from sizes chunk place) back

    pub next_stride : stride * box ≡ cells (drop k chunk)
    next_stride = ap (λ n. n * box) (product_here chunk stride stride-is) ∙ stride_more sizes chunk place same some more k low

    pub next_inner : inner + number % box * stride ≡ inner_from sizes chunk place k
    next_inner =
        let product : number % box * stride ≡ number_in sizes chunk place k % box * cells (drop (k + 1) chunk) = ap₂ (λ n s. n % box * s) number-is (product_here chunk stride stride-is) in
        omega (arith, product, inner_here, inner_more sizes chunk place same some more k low)

    module _ (small : cells chunk ≤ most_chunk_bytes) where
      pub stride_small : stride * box ≤ most_chunk_bytes
      stride_small = omega (arith, next_stride, cells_drop k chunk more)

      pub inner_small : inner + number % box * stride ≤ most_chunk_bytes
      inner_small = omega (arith, next_inner, inner_low sizes chunk place same some more k, cells_drop k chunk more)

  -- the place of the chunk's first cell
  module _ (step first : ℕ) (step-is : step ≡ cells (drop j sizes)) (first-is : first ≡ first_from sizes chunk place j) where
    first_here : first ≡ first_from sizes chunk place (k + 1)
    first_here = first-is ∙ ap (first_from sizes chunk place) back

    pub next_step : step * get_or sizes k 0 ≡ cells (drop k sizes)
    next_step = ap (λ n. n * get_or sizes k 0) (product_here sizes step step-is) ∙ step_more sizes chunk place same some more k low

    pub next_first : first + (number - number % box) * step ≡ first_from sizes chunk place k
    next_first =
        let corner : number - number % box ≡ number / box * box = omega (arith, div-add-mod' number box) in
        let product : (number - number % box) * step ≡ number / box * box * step = ap (λ n. n * step) corner in
        let moved : number / box * box * step ≡ number_in sizes chunk place k / box * box * cells (drop (k + 1) sizes)
        = ap₂ (λ n s. n / box * box * s) number-is (product_here sizes step step-is) in
        omega (arith, product, moved, first_here, first_more sizes chunk place same some more k low)

    module _ (few : cells sizes ≤ most_cells) where
      pub step_few : step * get_or sizes k 0 ≤ most_cells
      step_few = omega (arith, next_step, cells_drop k sizes some)

      pub first_few : first + (number - number % box) * step ≤ most_cells
      first_few = omega (arith, next_first, first_low sizes chunk place same some more k, cells_drop k sizes some)

-- ---- the index alone

module _ (sizes : List ℕ) (place : ℕ) (some : 0 < cells sizes) (j : ℕ) (up : 0 < j) (within : j ≤ length sizes) (rest : ℕ) (index : List ℕ) (room : length index ≡ length sizes)
    (rest-is : rest ≡ place / cells (drop j sizes)) (index-is : drop j index ≡ index_from sizes sizes place j) where
  pub written_rest : rest / get_or sizes (j - 1) 0 ≡ place / cells (drop (j - 1) sizes)
  written_rest = next_rest sizes sizes place refl some some j up within rest rest-is

  pub written_index : drop (j - 1) (set index (j - 1) (rest % get_or sizes (j - 1) 0)) ≡ index_from sizes sizes place (j - 1)
  written_index =
      let back : j ≡ j - 1 + 1 = omega (arith, up) in
      let low : j - 1 < length sizes = omega (arith, up, within) in
      let others : drop (j - 1 + 1) index ≡ index_from sizes sizes place (j - 1 + 1)
      = ap (λ (n : ℕ). drop n index) (sym back) ∙ index-is ∙ ap (index_from sizes sizes place) back in
      let here : rest % get_or sizes (j - 1) 0 ≡ number_in sizes sizes place (j - 1)
      = ap (λ (n : ℕ). n % get_or sizes (j - 1) 0) (rest-is ∙ ap (λ (n : ℕ). place / cells (drop n sizes)) back) in
      drop-set index (j - 1) (rest % get_or sizes (j - 1) 0) (omega (arith, low, room)) ∙ ap₂ (λ (n : ℕ) (ns : List ℕ). n ∷ ns) here others
      ∙ sym (index_more sizes sizes place refl some some (j - 1) low)
