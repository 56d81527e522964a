-- Cells beside one another in a row of a chunk: one chunk has them, one behind another.
use Rattle.std.proofs.Common.{◌≡◌, ℕ, suc, ◌+◌, ◌-◌, ◌*◌, ◌/◌, ◌%◌, ◌<◌, ◌≤◌, List, [], ◌∷◌, refl, sym, ap, ◌∙◌, arith, length, get_or, Bool, false}
use Rattle.std.specs.Prelude.{◌==◌}
use Rattle.std.proofs.lemmas.Bool.Decides.{nat_tests}
use Rattle.std.proofs.lemmas.Nat.{div-add-mod', div-mul-add, mod-mul-add, div_below}
use Rattle.std.proofs.Math.Nat.{mod-eq_of_lt, mul-le-mul_right}
use Rattle.h5_model.specs.Tree.Grid.{corner_of, inner_of}
use Rattle.h5_model.specs.Tree.Places.{cells, place_of, index_of}
use Rattle.h5_model.proofs.PlaceLaws.{positive}
use Rattle.h5_layout.specs.ChunkCells.{AreBeside, left_in_row}

-- ---- the last size

abbrev pub last_of : List ℕ → ℕ
last_of [] = 0
last_of (d ∷ []) = d
last_of (d ∷ e ∷ ds) = last_of (e ∷ ds)

pub last-is : (sizes : List ℕ) → 0 < length sizes → get_or sizes (length sizes - 1) 0 ≡ last_of sizes
last-is [] some = absurd (omega arith)
last-is (d ∷ []) some = refl
last-is (d ∷ e ∷ ds) some =
    let next : length (d ∷ e ∷ ds) - 1 ≡ suc (length (e ∷ ds) - 1) = omega arith in
    ap (λ n. get_or (d ∷ e ∷ ds) n 0) next ∙ last-is (e ∷ ds) (omega arith)

-- the cells are rows of the last size
pub last_rows : (d : ℕ) (ds : List ℕ) → (q : ℕ) × (cells (d ∷ ds) ≡ q * last_of (d ∷ ds))
last_rows d [] = (1, omega arith)
last_rows d (e ∷ ds) =
    let rest : (q : ℕ) × (cells (e ∷ ds) ≡ q * last_of (e ∷ ds)) = last_rows e ds in
    let all : d * cells (e ∷ ds) ≡ d * (rest.0 * last_of (e ∷ ds)) = ap (λ n. d * n) rest.1 in
    (d * rest.0, omega (arith, all))

pub some_last : (sizes : List ℕ) (place : ℕ) → 0 < length sizes → place < cells sizes → 0 < last_of sizes
some_last [] place some below = absurd (omega arith)
some_last (d ∷ ds) place some below =
    let rows : (q : ℕ) × (cells (d ∷ ds) ≡ q * last_of (d ∷ ds)) = last_rows d ds in
    positive place rows.0 (last_of (d ∷ ds)) (omega (arith, rows.1))

-- ---- places in one row

-- a few places on, in the same row
pub row_on : (x j m : ℕ) → x % m + j < m → ((x + j) / m ≡ x / m) × ((x + j) % m ≡ x % m + j)
row_on x j m low =
    let whole : x + j ≡ x / m * m + (x % m + j) = omega (arith, div-add-mod' x m) in
    (ap (λ n. n / m) whole ∙ div-mul-add (x / m) m (x % m + j) low, ap (λ n. n % m) whole ∙ mod-mul-add (x / m) m (x % m + j) low)

-- it ends where the rows end, or before
pub row_ends : (x q l j : ℕ) → x < q * l → x % l + j < l → x + j < q * l
row_ends x q l j low inside =
    let row : x / l < q = div_below x l q (omega arith) low in
    let rows : (x / l + 1) * l ≤ q * l = mul-le-mul_right l (omega arith) in
    let split : (x / l + 1) * l ≡ x / l * l + l = omega arith in
    omega (arith, div-add-mod' x l)

-- a place in a row of rows has the same column
pub same_column : (p q l : ℕ) → 0 < q * l → 0 < l → p % (q * l) % l ≡ p % l
same_column p q l some more =
    let low : p % (q * l) % l < l = omega arith in
    let whole : p / (q * l) * (q * l) + p % (q * l) ≡ p = div-add-mod' p (q * l) in
    let rest : p % (q * l) / l * l + p % (q * l) % l ≡ p % (q * l) = div-add-mod' (p % (q * l)) l in
    let rows : p / (q * l) * (q * l) ≡ p / (q * l) * q * l = omega arith in
    let sum : (p / (q * l) * q + p % (q * l) / l) * l ≡ p / (q * l) * q * l + p % (q * l) / l * l = omega arith in
    let all : p ≡ (p / (q * l) * q + p % (q * l) / l) * l + p % (q * l) % l = omega (arith, whole, rest, rows, sum) in
    let column : p % l ≡ p % (q * l) % l = ap (λ n. n % l) all ∙ mod-mul-add (p / (q * l) * q + p % (q * l) / l) l (p % (q * l) % l) low in
    omega (arith, column)

pub by_one : (n : ℕ) → n / 1 ≡ n
by_one n = omega (arith, div-add-mod' n 1)

-- ---- their chunk

-- the cell j places on is in the same chunk, j places on
IsOn : List ℕ → List ℕ → ℕ → ℕ → Type 0
IsOn sizes chunk p j =
    (corner_of chunk (index_of sizes (p + j)) ≡ corner_of chunk (index_of sizes p))
    × (place_of chunk (inner_of chunk (index_of sizes (p + j))) ≡ place_of chunk (inner_of chunk (index_of sizes p)) + j)

on : (sizes chunk : List ℕ) (p j : ℕ) → length chunk ≡ length sizes → 0 < length sizes → p < cells sizes
    → p % last_of sizes + j < last_of sizes → p % last_of sizes % last_of chunk + j < last_of chunk → IsOn sizes chunk p j
unfolding IsOn
on [] chunk p j same some below row box = absurd (omega arith)
on (d ∷ ds) [] p j same some below row box = absurd (omega arith)
on (d ∷ []) (c ∷ k ∷ cs) p j same some below row box = absurd (omega arith)
on (d ∷ e ∷ ds) (c ∷ []) p j same some below row box = absurd (omega arith)
on (d ∷ []) (c ∷ []) p j same some below row box =
    let low : p < d = omega arith in
    let here : p % d ≡ p = mod-eq_of_lt low in
    let inside : p % c + j < c = rw here at box in
    let s : ((p + j) / c ≡ p / c) × ((p + j) % c ≡ p % c + j) = row_on p j c inside in
    (rw (by_one (p + j), by_one p, s.0) refl, rw (by_one (p + j), by_one p, s.1) (omega arith))
on (d ∷ e ∷ ds) (c ∷ k ∷ cs) p j same some below row box =
    let m : ℕ = cells (e ∷ ds) in
    let l : ℕ = last_of (e ∷ ds) in
    let rows : (q : ℕ) × (m ≡ q * l) = last_rows e ds in
    let more : 0 < m = positive p d m below in
    let some_l : 0 < l = omega (arith, row) in
    let column : p % m % l ≡ p % l = rw rows.1 (same_column p rows.0 l (omega (arith, rows.1)) some_l) in
    let low : p % m < m = omega arith in
    let row' : p % m % l + j < l = omega (arith, column, row) in
    let box' : p % m % l % last_of (k ∷ cs) + j < last_of (k ∷ cs) = rw column box in
    let first : p % m < rows.0 * l = omega (arith, rows.1) in
    let ends : p % m + j < m = omega (arith, row_ends (p % m) rows.0 l j first row', rows.1) in
    let s : ((p + j) / m ≡ p / m) × ((p + j) % m ≡ p % m + j) = row_on p j m ends in
    let rest : IsOn (e ∷ ds) (k ∷ cs) (p % m) j = on (e ∷ ds) (k ∷ cs) (p % m) j (omega arith) (omega arith) low row' box' in
    (rw (s.0, s.1, rest.0) refl, rw (s.0, s.1, rest.1) (omega arith))

-- ---- what is left of a row

pub beside_row : (sizes chunk : List ℕ) (p n : ℕ) → length chunk ≡ length sizes → 0 < length sizes → p < cells sizes
    → p % last_of sizes + n ≤ last_of sizes → p % last_of sizes % last_of chunk + n ≤ last_of chunk → AreBeside sizes chunk p n
unfolding IsOn
beside_row sizes chunk p n same some below row box = record {
  corner = λ j low. (on sizes chunk p j same some below (omega arith) (omega arith)).0;
  inner = λ j low. (on sizes chunk p j same some below (omega arith) (omega arith)).1;
}

pub fewer_beside : (sizes chunk : List ℕ) (p n k : ℕ) → k ≤ n → AreBeside sizes chunk p n → AreBeside sizes chunk p k
fewer_beside sizes chunk p n k few h = record { corner = λ j low. h.corner j (omega arith); inner = λ j low. h.inner j (omega arith) }

pub beside_one : (sizes chunk : List ℕ) (p : ℕ) → AreBeside sizes chunk p 1
beside_one sizes chunk p = record {
  corner = λ j low. let here : p + j ≡ p = omega arith in ap (λ n. corner_of chunk (index_of sizes n)) here;
  inner = λ j low.
      let here : p + j ≡ p = omega arith in
      let none : j ≡ 0 = omega arith in
      ap (λ n. place_of chunk (inner_of chunk (index_of sizes n))) here ∙ rw none (omega arith);
}

-- a list that is not empty
pub not_empty : (n : ℕ) (empty : Bool) → empty ≡ (n == 0) → empty ≡ false → 0 < n
not_empty n empty is has = grind (arith, nat_tests)

-- ---- how many cells are left in a row of a chunk, where there are dimensions

module _ (sizes chunk : List ℕ) (place : ℕ) (rank : length chunk ≡ length sizes) (each : (d : ℕ) → d < length chunk → 1 ≤ get_or chunk d 0) (below : place < cells sizes)
    (some : 0 < length sizes) where
  abbrev d : ℕ
  d = get_or sizes (length sizes - 1) 0

  abbrev k : ℕ
  k = get_or chunk (length sizes - 1) 0

  last : d ≡ last_of sizes
  last = last-is sizes some

  low : 0 < d
  low = omega (arith, last, some_last sizes place some below)

  box : 1 ≤ k
  box = each (length sizes - 1) (omega (arith, rank, some))

  pub some_left : 0 < left_in_row sizes chunk place
  some_left =
      let size = low in
      let wide = box in
      let column : place % d < d = omega arith in
      let inner : place % d % k < k = omega arith in
      omega arith

  pub left_beside : (n : ℕ) → n ≡ left_in_row sizes chunk place → AreBeside sizes chunk place n
  left_beside n all =
      let size = low in
      let wide = box in
      let end : k ≡ last_of chunk = ap (λ n. get_or chunk (n - 1) 0) (sym rank) ∙ last-is chunk (omega (arith, rank, some)) in
      let column : place % d < d = omega arith in
      let inner : place % d % k < k = omega arith in
      let row : place % d + n ≤ d = omega arith in
      let rest : place % d % k + n ≤ k = omega arith in
      beside_row sizes chunk place n rank some below (rw last at row) (rw (last, end) at rest)
