-- The first index of a chunk that holds a cell of an extent: it is inside, and an offset of a whole chunk.
use Rattle.std.proofs.Common.{◌≡◌, ℕ, suc, ◌+◌, ◌*◌, ◌/◌, ◌%◌, ◌^◌, ◌<◌, ◌≤◌, List, [], ◌∷◌, length, get_or, replicate, sym, ap, ◌∙◌, subst, arith, false, cond}
use Rattle.std.specs.Prelude.{◌==◌}
use Rattle.std.proofs.lemmas.Bool.Decides.{nat_tests}
use Rattle.std.proofs.lemmas.Nat.{div-add-mod', mod-mul-add}
use Rattle.std.proofs.Math.Nat.{mul-le-mul_left, mul-le-mul_right}
use Rattle.std.specs.List.{AllZip}
use Rattle.h5_model.specs.Format.Chunks.{IsOffset}
use Rattle.h5_model.specs.Format.Limits.{most_cells}
use Rattle.h5_model.specs.Tree.Grid.{corner_of}
use Rattle.h5_model.specs.Tree.Places.{IsInside, extent_cells}

-- it begins in it
pub corner_inside : (sizes chunk index : List ℕ) → length chunk ≡ length sizes → IsInside sizes index → IsInside sizes (corner_of chunk index)
corner_inside [] [] [] same h = tt
corner_inside [] (c ∷ cs) index same h = absurd (omega (arith, same))
corner_inside [] [] (i ∷ is) same h = absurd h
corner_inside (d ∷ ds) [] index same h = absurd (omega (arith, same))
corner_inside (d ∷ ds) (c ∷ cs) [] same h = absurd h
corner_inside (d ∷ ds) (c ∷ cs) (i ∷ is) same h =
    let whole : i / c * c + i % c ≡ i = div-add-mod' i c in
    let low : i < d = h.0 in
    (omega (arith, whole, low), corner_inside ds cs is (omega (arith, same)) h.1)

-- ---- no size of an array with cells is large

some_cells : (sizes index : List ℕ) → IsInside sizes index → 1 ≤ extent_cells sizes
some_cells [] [] h = omega arith
some_cells [] (i ∷ is) h = absurd h
some_cells (d ∷ ds) [] h = absurd h
some_cells (d ∷ ds) (i ∷ is) h =
    let test : (d == 0) ≡ false = grind (arith, nat_tests, h.0) in
    let below : 1 ≤ extent_cells ds = some_cells ds is h.1 in
    let less : 1 * extent_cells ds ≤ d * extent_cells ds = mul-le-mul_right (extent_cells ds) (omega (arith, h.0)) in
    subst (λ b. 1 ≤ cond b 1 d * extent_cells ds) (sym test) (omega (arith, below, less))

-- the first size, and what is left of the product
split_cells : (d : ℕ) (ds : List ℕ) (i : ℕ) (is : List ℕ) → i < d → IsInside ds is → extent_cells (d ∷ ds) ≤ most_cells → (d ≤ most_cells) × (extent_cells ds ≤ most_cells)
split_cells d ds i is low inside small =
    let test : (d == 0) ≡ false = grind (arith, nat_tests, low) in
    let product : d * extent_cells ds ≤ most_cells = subst (λ b. cond b 1 d * extent_cells ds ≤ most_cells) test small in
    let below : 1 ≤ extent_cells ds = some_cells ds is inside in
    let first : d * 1 ≤ d * extent_cells ds = mul-le-mul_left d below in
    let rest : 1 * extent_cells ds ≤ d * extent_cells ds = mul-le-mul_right (extent_cells ds) (omega (arith, low)) in
    (omega (arith, product, first), omega (arith, product, rest))

-- so it is inside the largest numbers
pub inside_words : (sizes index : List ℕ) → IsInside sizes index → extent_cells sizes ≤ most_cells → IsInside (replicate (length sizes) (2 ^ 64)) index
inside_words [] [] h small = tt
inside_words [] (i ∷ is) h small = absurd h
inside_words (d ∷ ds) [] h small = absurd h
inside_words (d ∷ ds) (i ∷ is) h small =
    let low : i < d = h.0 in
    let split = split_cells d ds i is h.0 h.1 small in
    (omega (arith, low, split.0), inside_words ds is h.1 split.1)

-- ---- its offsets

pub corner_whole : (sizes chunk index : List ℕ) → length chunk ≡ length sizes → ((d : ℕ) → d < length chunk → 1 ≤ get_or chunk d 0) → IsInside sizes index
    → extent_cells sizes ≤ most_cells → AllZip IsOffset chunk (corner_of chunk index)
corner_whole [] [] index same some h small = tt
corner_whole [] (c ∷ cs) index same some h small = absurd (omega (arith, same))
corner_whole (d ∷ ds) [] index same some h small = absurd (omega (arith, same))
corner_whole (d ∷ ds) (c ∷ cs) [] same some h small = absurd h
corner_whole (d ∷ ds) (c ∷ cs) (i ∷ is) same some h small =
    let low : i < d = h.0 in
    let split = split_cells d ds i is h.0 h.1 small in
    let whole : i / c * c + i % c ≡ i = div-add-mod' i c in
    let size : 1 ≤ c = some 0 (omega arith) in
    let none : i / c * c + 0 ≡ i / c * c = omega arith in
    let multiple : (i / c * c) % c ≡ 0 = ap (λ n. n % c) (sym none) ∙ mod-mul-add (i / c) c 0 (omega (arith, size)) in (
      record { multiple = multiple; small = omega (arith, low, split.0, whole) },
      corner_whole ds cs is (omega (arith, same)) (λ k under. some (suc k) (omega (arith, under))) h.1 split.1,
    )
