-- The sizes of chunks are small: each is at most as many bytes as a chunk has (File Format Specification 3.0, section IV.A.2.i).
use Rattle.std.proofs.Common.{◌≡◌, ℕ, zero, suc, ◌*◌, ◌^◌, ◌<◌, ◌≤◌, List, [], ◌∷◌, get_or, arith, false}
use Rattle.std.proofs.lemmas.Bool.{or_parts}
use Rattle.std.proofs.lemmas.Bool.Decides.{nat_tests}
use Rattle.std.proofs.Math.Nat.{mul-le-mul}
use Rattle.std.specs.Prelude.{◌==◌}
use Rattle.std.specs.List.{list_any}
use Rattle.h5_model.specs.Format.Fixed.{Fixed}
use Rattle.h5_model.specs.Tree.Places.{cells}
use Rattle.h5_repack.specs.Bodies.Sound.{ArePlainChunks}

-- a chunk without an empty dimension has a cell
pub some_cell : (chunk : List ℕ) → list_any (λ n. n == 0) chunk ≡ false → 1 ≤ cells chunk
some_cell [] some = omega arith
some_cell (c ∷ cs) some =
    let own : (c == 0) ≡ false = (or_parts (c == 0) (list_any (λ n. n == 0) cs) some).0 in
    let one : 1 ≤ c = grind (arith, nat_tests) in
    mul-le-mul one (some_cell cs (or_parts (c == 0) (list_any (λ n. n == 0) cs) some).1)

-- no size is above the number of cells
pub size_below : (chunk : List ℕ) (k : ℕ) → list_any (λ n. n == 0) chunk ≡ false → get_or chunk k 0 ≤ cells chunk
size_below [] k some = omega arith
size_below (c ∷ cs) zero some =
    let rest = some_cell cs (or_parts (c == 0) (list_any (λ n. n == 0) cs) some).1 in
    let own : c ≤ c = omega arith in
    let all : c * 1 ≤ c * cells cs = mul-le-mul own rest in
    omega (arith, all)
size_below (c ∷ cs) (suc k) some =
    let own : (c == 0) ≡ false = (or_parts (c == 0) (list_any (λ n. n == 0) cs) some).0 in
    let one : 1 ≤ c = grind (arith, nat_tests) in
    let low = size_below cs k (or_parts (c == 0) (list_any (λ n. n == 0) cs) some).1 in
    let same : cells cs ≤ cells cs = omega arith in
    let all : 1 * cells cs ≤ c * cells cs = mul-le-mul one same in
    omega (arith, all, low)

pub chunk_sizes_low : (t : Fixed) (chunk : List ℕ) → 1 ≤ t.size → ArePlainChunks t chunk → (k : ℕ) → get_or chunk k 0 < 2 ^ 32
chunk_sizes_low t chunk some plain k =
    let low = size_below chunk k plain.some in
    let same : cells chunk ≤ cells chunk = omega arith in
    let bytes : cells chunk * 1 ≤ cells chunk * t.size = mul-le-mul same some in
    omega (arith, low, bytes, plain.small)
