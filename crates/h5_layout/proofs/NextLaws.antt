-- The cells behind a row that ends with its chunk: they stand in the next chunk, from the first of its row on.
use Rattle.std.proofs.Common.{◌≡◌, ℕ, suc, ◌+◌, ◌-◌, ◌*◌, ◌/◌, ◌%◌, ◌<◌, List, [], ◌∷◌, min, sym, ap, ◌∙◌, arith, length, get_or, set}
use Rattle.std.proofs.lemmas.Nat.{div-add-mod', div-mul-add, mod-mul-add}
use Rattle.std.proofs.Math.Nat.{mod-eq_of_lt}
use Rattle.h5_model.specs.Tree.Grid.{corner_of, inner_of}
use Rattle.h5_model.specs.Tree.Places.{cells, place_of, index_of}
use Rattle.h5_model.proofs.PlaceLaws.{positive}
use Rattle.h5_shape.proofs.GridBoxes.{length-index_of}
use Rattle.h5_shape.proofs.MetTests.{length-corner}
use Rattle.h5_layout.specs.ChunkCells.{left_in_row}
use Rattle.h5_layout.specs.FoundChunks.{corner_beside}
use Rattle.h5_layout.proofs.BesideLaws.{by_one, last-is, last_of, last_rows, row_ends, row_on, same_column, some_last}

-- ---- the next chunk

-- a chunk beside another one has the same numbers in all dimensions but the last
beside_more : (c x : ℕ) (cs xs : List ℕ) (n : ℕ) → 0 < length xs → corner_beside (c ∷ cs) (x ∷ xs) n ≡ x ∷ corner_beside cs xs n
beside_more c x cs xs n some =
    let last : length (x ∷ xs) - 1 ≡ suc (length xs - 1) = omega (arith, some) in
    ap (λ (k : ℕ). set (x ∷ xs) k (get_or (x ∷ xs) k 0 + n * get_or (c ∷ cs) k 0)) last

-- the cell j places on is the first of its row in the next chunk
IsNext : List ℕ → List ℕ → ℕ → ℕ → Type 0
IsNext sizes chunk p j =
    (corner_of chunk (index_of sizes (p + j)) ≡ corner_beside chunk (corner_of chunk (index_of sizes p)) 1)
    × (place_of chunk (inner_of chunk (index_of sizes (p + j))) + last_of chunk ≡ place_of chunk (inner_of chunk (index_of sizes p)) + j)

-- the first number behind a box
next_box : (p j c : ℕ) → 0 < c → p % c + j ≡ c → ((p + j) / c ≡ p / c + 1) × ((p + j) % c ≡ 0)
next_box p j c some full =
    let split : (p / c + 1) * c ≡ p / c * c + c = omega arith in
    let whole : p + j ≡ (p / c + 1) * c + 0 = omega (arith, div-add-mod' p c, full, split) in
    (ap (λ n. n / c) whole ∙ div-mul-add (p / c + 1) c 0 some, ap (λ n. n % c) whole ∙ mod-mul-add (p / c + 1) c 0 some)

next : (sizes chunk : List ℕ) (p j : ℕ) → length chunk ≡ length sizes → 0 < length sizes → p < cells sizes
    → p % last_of sizes + j < last_of sizes → 0 < last_of chunk → p % last_of sizes % last_of chunk + j ≡ last_of chunk → IsNext sizes chunk p j
unfolding IsNext
next [] chunk p j same some below row wide full = absurd (omega arith)
next (d ∷ ds) [] p j same some below row wide full = absurd (omega arith)
next (d ∷ []) (c ∷ k ∷ cs) p j same some below row wide full = absurd (omega arith)
next (d ∷ e ∷ ds) (c ∷ []) p j same some below row wide full = absurd (omega arith)
next (d ∷ []) (c ∷ []) p j same some below row wide full =
    let low : p < d = omega arith in
    let here : p % d ≡ p = mod-eq_of_lt low in
    let end : p % c + j ≡ c = rw here at full in
    let s : ((p + j) / c ≡ p / c + 1) × ((p + j) % c ≡ 0) = next_box p j c wide end in
    let spread : (p / c + 1) * c ≡ p / c * c + 1 * c = omega arith in
    (rw (by_one (p + j), by_one p, s.0) (ap (λ (n : ℕ). n ∷ []) spread), rw (by_one (p + j), by_one p, s.1) (omega (arith, end)))
next (d ∷ e ∷ ds) (c ∷ k ∷ cs) p j same some below row wide full =
    let m : ℕ = cells (e ∷ ds) in
    let l : ℕ = last_of (e ∷ ds) in
    let rows : (q : ℕ) × (m ≡ q * l) = last_rows e ds in
    let more : 0 < m = positive p d m below in
    let some_l : 0 < l = omega (arith, row) in
    let column : p % m % l ≡ p % l = rw rows.1 (same_column p rows.0 l (omega (arith, rows.1)) some_l) in
    let low : p % m < m = omega arith in
    let row' : p % m % l + j < l = omega (arith, column, row) in
    let full' : p % m % l % last_of (k ∷ cs) + j ≡ last_of (k ∷ cs) = rw column full in
    let first : p % m < rows.0 * l = omega (arith, rows.1) in
    let ends : p % m + j < m = omega (arith, row_ends (p % m) rows.0 l j first row', rows.1) in
    let s : ((p + j) / m ≡ p / m) × ((p + j) % m ≡ p % m + j) = row_on p j m ends in
    let rest : IsNext (e ∷ ds) (k ∷ cs) (p % m) j = next (e ∷ ds) (k ∷ cs) (p % m) j (omega arith) (omega arith) low row' wide full' in
    let beside = beside_more c (p / m / c * c) (k ∷ cs) (corner_of (k ∷ cs) (index_of (e ∷ ds) (p % m))) 1 (omega arith) in
    (rw (s.0, s.1, rest.0) (sym beside), rw (s.0, s.1) (omega (arith, rest.1)))

-- ---- the last number of the first index of a chunk

corner_last : (sizes chunk : List ℕ) (p : ℕ) → length chunk ≡ length sizes → 0 < length sizes → p < cells sizes
    → last_of (corner_of chunk (index_of sizes p)) ≡ p % last_of sizes / last_of chunk * last_of chunk
corner_last [] chunk p same some below = absurd (omega arith)
corner_last (d ∷ ds) [] p same some below = absurd (omega arith)
corner_last (d ∷ []) (c ∷ k ∷ cs) p same some below = absurd (omega arith)
corner_last (d ∷ e ∷ ds) (c ∷ []) p same some below = absurd (omega arith)
corner_last (d ∷ []) (c ∷ []) p same some below =
    let low : p < d = omega arith in
    let here : p % d ≡ p = mod-eq_of_lt low in
    ap (λ n. n / c * c) (by_one p ∙ sym here)
corner_last (d ∷ e ∷ ds) (c ∷ k ∷ cs) p same some below =
    let m : ℕ = cells (e ∷ ds) in
    let l : ℕ = last_of (e ∷ ds) in
    let rows : (q : ℕ) × (m ≡ q * l) = last_rows e ds in
    let more : 0 < m = positive p d m below in
    let low : p % m < m = omega arith in
    let some_l : 0 < l = some_last (e ∷ ds) (p % m) (omega arith) low in
    let column : p % m % l ≡ p % l = rw rows.1 (same_column p rows.0 l (omega (arith, rows.1)) some_l) in
    corner_last (e ∷ ds) (k ∷ cs) (p % m) (omega arith) (omega arith) low ∙ ap (λ n. n / last_of (k ∷ cs) * last_of (k ∷ cs)) column

-- ---- behind all the cells that are left in a row of a chunk

-- the first index of a chunk has a number for each dimension
pub length-first : (sizes chunk : List ℕ) (p : ℕ) → length chunk ≡ length sizes → length (corner_of chunk (index_of sizes p)) ≡ length sizes
length-first sizes chunk p same = length-corner chunk (index_of sizes p) (length-index_of sizes p ∙ sym same) ∙ same

-- its last number
pub corner_column : (sizes chunk : List ℕ) (p : ℕ) → length chunk ≡ length sizes → 0 < length sizes → p < cells sizes
    → get_or (corner_of chunk (index_of sizes p)) (length sizes - 1) 0
    ≡ p % get_or sizes (length sizes - 1) 0 / get_or chunk (length sizes - 1) 0 * get_or chunk (length sizes - 1) 0
corner_column sizes chunk p same some below =
    let long = length-first sizes chunk p same in
    let row-is : get_or sizes (length sizes - 1) 0 ≡ last_of sizes = last-is sizes some in
    let box-is : get_or chunk (length sizes - 1) 0 ≡ last_of chunk = ap (λ m. get_or chunk (m - 1) 0) (sym same) ∙ last-is chunk (omega (arith, same, some)) in
    ap (λ m. get_or (corner_of chunk (index_of sizes p)) (m - 1) 0) (sym long)
    ∙ last-is (corner_of chunk (index_of sizes p)) (omega (arith, long, some))
    ∙ corner_last sizes chunk p same some below
    ∙ sym (λ i. p % row-is i / box-is i * box-is i)

module _ (sizes chunk : List ℕ) (p n : ℕ) (same : length chunk ≡ length sizes) (some : 0 < length sizes) (wide : 0 < get_or chunk (length sizes - 1) 0)
    (below : p < cells sizes) (all : n ≡ left_in_row sizes chunk p)
    (more : get_or (corner_of chunk (index_of sizes p)) (length sizes - 1) 0 + get_or chunk (length sizes - 1) 0 < get_or sizes (length sizes - 1) 0) where
  abbrev d : ℕ
  d = get_or sizes (length sizes - 1) 0

  abbrev k : ℕ
  k = get_or chunk (length sizes - 1) 0

  row-is : d ≡ last_of sizes
  row-is = last-is sizes some

  box-is : k ≡ last_of chunk
  box-is = ap (λ m. get_or chunk (m - 1) 0) (sym same) ∙ last-is chunk (omega (arith, same, some))

  first-is : get_or (corner_of chunk (index_of sizes p)) (length sizes - 1) 0 ≡ p % d / k * k
  first-is = corner_column sizes chunk p same some below

  full : p % d % k + n ≡ k
  full =
      let column : p % d % k < k = omega (arith, wide) in
      omega (arith, first-is, more, all, div-add-mod' (p % d) k)

  inside : p % d + n < d
  inside = omega (arith, first-is, more, full, div-add-mod' (p % d) k)

  is : IsNext sizes chunk p n
  is = next sizes chunk p n same some below (rw row-is at inside) (omega (arith, wide, box-is)) (rw (row-is, box-is) at full)

  pub next_corner : corner_of chunk (index_of sizes (p + n)) ≡ corner_beside chunk (corner_of chunk (index_of sizes p)) 1
  unfolding IsNext
  next_corner = is.0

  pub next_inner : place_of chunk (inner_of chunk (index_of sizes (p + n))) + k ≡ place_of chunk (inner_of chunk (index_of sizes p)) + n
  unfolding IsNext
  next_inner = omega (arith, is.1, box-is)

  pub next_left : left_in_row sizes chunk (p + n) ≡ min k (d - (get_or (corner_of chunk (index_of sizes p)) (length sizes - 1) 0 + k))
  next_left =
      let on : ((p + n) / d ≡ p / d) × ((p + n) % d ≡ p % d + n) = row_on p n d inside in
      let start = next_box (p % d) n k wide full in
      let number : (p + n) % d % k ≡ 0 = ap (λ m. m % k) on.1 ∙ start.1 in
      omega (arith, on.1, number, first-is, full, div-add-mod' (p % d) k)
