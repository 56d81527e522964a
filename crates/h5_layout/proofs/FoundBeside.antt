-- Chunks that stand beside one another along the last dimension, and were found.
use Rattle.std.proofs.Common.{◌≡◌, ℕ, IfSome, Option, suc, ◌+◌, ◌-◌, ◌*◌, ◌/◌, ◌%◌, ◌<◌, ◌≤◌, List, [], ◌∷◌, length, get_or, set, replicate, Some, zero, refl, sym, ap, ◌∙◌, subst, arith}
use Rattle.std.specs.FinMap.{get}
use Rattle.std.proofs.Math.Nat.{mul-le-mul_left}
use Rattle.std.proofs.lemmas.List.{get_or-set_same, length-set, set-get_or, set-set}
use Rattle.std.proofs.lemmas.Nat.{div-mul-add, le-div}
use Rattle.h5_model.specs.Format.Chunks.{Chunks}
use Rattle.h5_model.specs.Tree.Grid.{corner_of}
use Rattle.h5_model.specs.Tree.Places.{cells, index_of, place_of}
use Rattle.h5_model.proofs.PlaceLaws.{place-index}
use Rattle.h5_shape.proofs.GridBoxes.{length-index_of}
use Rattle.h5_shape.specs.InBox.{IsCorner}
use Rattle.h5_layout.specs.FoundChunks.{AreChunksBeside, IsFirstCell, corner_beside, address_kept, only_chunk}
use Rattle.h5_layout.specs.declared.beside.ChunkCorner.{ChunkCorner}
use Rattle.h5_layout.specs.declared.beside.FoundChunks.{FoundChunks}
use Rattle.h5_layout.proofs.BesideLaws.{last_of, some_last}
use Rattle.h5_layout.proofs.IndexRows.{index_last, index_on, index_zero, row_inside}

-- ---- the first index of a chunk

-- it has a number for each dimension
pub corner_long : (chunk corner : List ℕ) → IsCorner chunk corner → length corner ≡ length chunk
corner_long [] [] is = refl
corner_long [] (i ∷ is) never = absurd never
corner_long (c ∷ cs) [] never = absurd never
corner_long (c ∷ cs) (i ∷ is) h = ap suc (corner_long cs is h.1)

-- each is a multiple of the chunk's size
pub corner_multiple : (chunk corner : List ℕ) (d : ℕ) → IsCorner chunk corner → d < length corner
    → (0 < get_or chunk d 0) × (get_or corner d 0 / get_or chunk d 0 * get_or chunk d 0 ≡ get_or corner d 0)
corner_multiple [] [] d is low = absurd (omega arith)
corner_multiple [] (i ∷ is) d never low = absurd never
corner_multiple (c ∷ cs) [] d never low = absurd never
corner_multiple (c ∷ cs) (i ∷ is) zero h low = h.0
corner_multiple (c ∷ cs) (i ∷ is) (suc d) h low = corner_multiple cs is d h.1 (omega (arith, low))

-- the first chunk of all
pub corner_zeros : (chunk : List ℕ) → ((d : ℕ) → d < length chunk → 1 ≤ get_or chunk d 0) → IsCorner chunk (replicate (length chunk) 0)
corner_zeros [] some = tt
corner_zeros (c ∷ cs) some =
    let here : 0 < c = some 0 (omega arith) in
    let none : 0 / c * c ≡ 0 = omega (arith, here) in
    ((here, none), corner_zeros cs (λ d low. some (suc d) (omega (arith, low))))

-- that of each index
pub corner_is : (chunk index : List ℕ) → ((d : ℕ) → d < length chunk → 1 ≤ get_or chunk d 0) → length index ≡ length chunk → IsCorner chunk (corner_of chunk index)
corner_is [] index some long = tt
corner_is (c ∷ cs) [] some long = absurd (omega (arith, long))
corner_is (c ∷ cs) (i ∷ is) some long =
    let here : 0 < c = some 0 (omega arith) in
    let none : i / c * c + 0 ≡ i / c * c = omega arith in
    let back : i / c * c / c ≡ i / c = ap (λ n. n / c) (sym none) ∙ div-mul-add (i / c) c 0 here in
    ((here, ap (λ n. n * c) back), corner_is cs is (λ d low. some (suc d) (omega (arith, low))) (omega (arith, long)))

-- ---- how many chunks behind another one

-- multiples of one number
steps : (i j c : ℕ) → 0 < c → i / c * c ≡ i → j / c * c ≡ j → i ≤ j → i + (j - i) / c * c ≡ j
steps i j c some first last up =
    let a : ℕ = i / c in
    let b : ℕ = j / c in
    let rows : a ≤ b = le-div a j c some (omega (arith, first, up)) in
    let sum : b ≡ a + (b - a) = omega (arith, rows) in
    let split : b * c ≡ (a + (b - a)) * c = ap (λ n. n * c) sum in
    let spread : (a + (b - a)) * c ≡ a * c + (b - a) * c = omega arith in
    let apart : j - i ≡ (b - a) * c + 0 = omega (arith, first, last, split, spread) in
    let number : (j - i) / c ≡ b - a = ap (λ n. n / c) apart ∙ div-mul-add (b - a) c 0 some in
    ap (λ n. i + n * c) number ∙ omega (arith, first, last, split, spread)

-- a chunk that begins some columns on in the same row of the array
pub number_beside : (sizes chunk : List ℕ) (first corner : ChunkCorner) → length chunk ≡ length sizes → 0 < length sizes → 0 < cells sizes
    → IsFirstCell sizes chunk first → IsFirstCell sizes chunk corner → first.place ≤ corner.place → first.column ≤ corner.column
    → corner.place - first.place ≡ corner.column - first.column
    → index_of sizes corner.place ≡ corner_beside chunk (index_of sizes first.place) ((corner.column - first.column) / get_or chunk (length sizes - 1) 0)
number_beside sizes chunk first corner rank some more from to up columns_up same =
    let last : ℕ = length sizes - 1 in
    let p : ℕ = first.place in
    let d : ℕ = corner.column - first.column in
    let c : ℕ = get_or chunk last 0 in
    let is : List ℕ = index_of sizes p in
    let low : p < cells sizes = from.inside more in
    let there : corner.place ≡ p + d = omega (arith, up, same) in
    let end : p + d < cells sizes = omega (arith, there, to.inside more) in
    let column : first.column ≡ p % last_of sizes = from.column ∙ index_last sizes p some low in
    let other : corner.column ≡ (p + d) % last_of sizes = to.column ∙ ap (λ (q : ℕ). get_or (index_of sizes q) last 0) there ∙ index_last sizes (p + d) some end in
    let wide : 0 < last_of sizes = some_last sizes p some low in
    let inside : (p + d) % last_of sizes < last_of sizes = omega (arith, wide) in
    let row : p % last_of sizes + d < last_of sizes = omega (arith, column, other, inside, columns_up) in
    let long : length is ≡ length sizes = length-index_of sizes p in
    let as_long : length (index_of sizes corner.place) ≡ length sizes = length-index_of sizes corner.place in
    let here : length is - 1 ≡ last = omega (arith, long) in
    let begin = corner_multiple chunk is last from.is (omega (arith, long, some)) in
    let finish = corner_multiple chunk (index_of sizes corner.place) last to.is (omega (arith, as_long, some)) in
    let first_rows : first.column / c * c ≡ first.column = ap (λ (n : ℕ). n / c * c) from.column ∙ begin.1 ∙ sym from.column in
    let last_rows : corner.column / c * c ≡ corner.column = ap (λ (n : ℕ). n / c * c) to.column ∙ finish.1 ∙ sym to.column in
    let sum : first.column + d / c * c ≡ corner.column = steps first.column corner.column c begin.0 first_rows last_rows columns_up in
    let step : get_or is last 0 + d ≡ get_or is last 0 + d / c * c = omega (arith, sum, columns_up, from.column) in
    ap (index_of sizes) there
    ∙ index_on sizes p d some low row
    ∙ ap (set is last) step
    ∙ ap (λ (n : ℕ). set is n (get_or is n 0 + d / c * get_or chunk n 0)) (sym here)

-- a chunk that stands behind another begins as many places on as columns
pub beside_apart : (sizes chunk : List ℕ) (first corner : ChunkCorner) (k : ℕ) → 0 < length sizes → 0 < cells sizes → IsFirstCell sizes chunk first
    → IsFirstCell sizes chunk corner → index_of sizes corner.place ≡ corner_beside chunk (index_of sizes first.place) k
    → (d : ℕ) × (corner.place ≡ first.place + d) × (corner.column ≡ first.column + d)
beside_apart sizes chunk first corner k some more from to beside =
    let last : ℕ = length sizes - 1 in
    let p : ℕ = first.place in
    let d : ℕ = k * get_or chunk last 0 in
    let is : List ℕ = index_of sizes p in
    let low : p < cells sizes = from.inside more in
    let there : corner.place < cells sizes = to.inside more in
    let long : length is ≡ length sizes = length-index_of sizes p in
    let here : length is - 1 ≡ last = ap (λ n. n - 1) long in
    let on : index_of sizes corner.place ≡ set is last (get_or is last 0 + d)
    = beside ∙ ap (λ (n : ℕ). set is n (get_or is n 0 + k * get_or chunk n 0)) here in
    let column : corner.column ≡ first.column + d
    = to.column
    ∙ ap (λ (index : List ℕ). get_or index last 0) on
    ∙ get_or-set_same is last (get_or is last 0 + d) 0 (omega (arith, long, some))
    ∙ ap (λ n. n + d) (sym from.column) in
    let wide : 0 < last_of sizes = some_last sizes p some low in
    let before : first.column ≡ p % last_of sizes = from.column ∙ index_last sizes p some low in
    let after : corner.column ≡ corner.place % last_of sizes = to.column ∙ index_last sizes corner.place some there in
    let inside : corner.place % last_of sizes < last_of sizes = omega (arith, wide) in
    let row : p % last_of sizes + d < last_of sizes = omega (arith, column, before, after, inside) in
    let same : index_of sizes corner.place ≡ index_of sizes (p + d) = on ∙ sym (index_on sizes p d some low row) in (
      d,
      sym (place-index sizes corner.place there) ∙ ap (place_of sizes) same ∙ place-index sizes (p + d) (row_inside sizes p d some low row),
      column,
    )

-- none behind itself
pub beside_itself : (chunk corner : List ℕ) → corner_beside chunk corner 0 ≡ corner
beside_itself chunk corner =
    let last : ℕ = length corner - 1 in
    let same : get_or corner last 0 + 0 * get_or chunk last 0 ≡ get_or corner last 0 = omega arith in
    ap (set corner last) same ∙ set-get_or corner last 0

-- the chunk behind that one
pub beside_next : (chunk first : List ℕ) (k : ℕ) → 0 < length first → corner_beside chunk (corner_beside chunk first k) 1 ≡ corner_beside chunk first (k + 1)
beside_next chunk first k some =
    let last : ℕ = length first - 1 in
    let c : ℕ = get_or chunk last 0 in
    let w : ℕ = get_or first last 0 + k * c in
    let xs : List ℕ = set first last w in
    let here : length xs - 1 ≡ last = ap (λ n. n - 1) (length-set first last w) in
    let more : w + 1 * c ≡ get_or first last 0 + (k + 1) * c = omega arith in
    ap (λ n. set xs n (get_or xs n 0 + 1 * get_or chunk n 0)) here
    ∙ ap (λ n. set xs last (n + 1 * c)) (get_or-set_same first last w 0 (omega (arith, some)))
    ∙ set-set first last w (w + 1 * c)
    ∙ ap (set first last) more

-- no more chunks than its last number says
pub beside_few : (chunk first : List ℕ) (k last : ℕ) → length first ≡ last + 1 → 0 < get_or chunk last 0 → k ≤ get_or (corner_beside chunk first k) last 0
beside_few chunk first k last long some =
    let here : length first - 1 ≡ last = omega (arith, long) in
    let w : ℕ = get_or first last 0 + k * get_or chunk last 0 in
    let is : get_or (corner_beside chunk first k) last 0 ≡ w
    = ap (λ n. get_or (set first n (get_or first n 0 + k * get_or chunk n 0)) last 0) here ∙ get_or-set_same first last w 0 (omega (arith, long)) in
    let wide : k * 1 ≤ k * get_or chunk last 0 = mul-le-mul_left k some in
    omega (arith, is, wide)

-- ---- what is kept of them

-- an address that is kept with others
pub kept_with : (P : ℕ → ℕ → Type 0) (at : List ℕ) (k kept : ℕ) → ((j : ℕ) → IfSome (address_kept (get_or at j 0)) (P j)) → IfSome (address_kept kept) (P k)
    → (j : ℕ) → IfSome (address_kept (get_or (set at k kept) j 0)) (P j)
kept_with P [] k kept are is j = tt
kept_with P (x ∷ xs) zero kept are is zero = is
kept_with P (x ∷ xs) zero kept are is (suc j) = are (suc j)
kept_with P (x ∷ xs) (suc k) kept are is zero = are zero
kept_with P (x ∷ xs) (suc k) kept are is (suc j) = kept_with (λ i. P (suc i)) xs k kept (λ i. are (suc i)) is j

-- no address
none_kept : (P : ℕ → ℕ → Type 0) (n j : ℕ) → IfSome (address_kept (get_or (replicate n 0) j 0)) (P j)
none_kept P zero j = tt
none_kept P (suc n) zero = tt
none_kept P (suc n) (suc j) = none_kept (λ i. P (suc i)) n j

-- no number but one
zeros : (n j x : ℕ) → get_or (replicate n x) j x ≡ x
zeros zero j x = refl
zeros (suc n) zero x = refl
zeros (suc n) (suc j) x = zeros n j x

-- none
pub none_beside : (chunks : Chunks) (sizes chunk : List ℕ) → length chunk ≡ length sizes → ((d : ℕ) → d < length chunk → 1 ≤ get_or chunk d 0)
    → AreChunksBeside chunks sizes chunk (record { first = record { place = 0; column = 0 }; at = replicate 64 0 })
none_beside chunks sizes chunk rank some = record {
  first = record {
    inside = λ more. omega (arith, more);
    is = subst (IsCorner chunk) (ap (λ (n : ℕ). replicate n 0) rank ∙ sym (index_zero sizes)) (corner_zeros chunk some);
    column = sym (ap (λ (is : List ℕ). get_or is (length sizes - 1) 0) (index_zero sizes) ∙ zeros (length sizes) (length sizes - 1) 0);
  };
  at = none_kept (λ k at. get chunks (corner_beside chunk (index_of sizes 0) k) ≡ Some at) 64;
}

-- one more
pub more_beside : (chunks : Chunks) (sizes chunk : List ℕ) (found : FoundChunks) (k kept at : ℕ) → AreChunksBeside chunks sizes chunk found → address_kept kept ≡ Some at
    → get chunks (corner_beside chunk (index_of sizes found.first.place) k) ≡ Some at → AreChunksBeside chunks sizes chunk (record found { at = set found.at k kept })
more_beside chunks sizes chunk found k kept at are is there =
    let P : ℕ → ℕ → Type 0 = λ k a. get chunks (corner_beside chunk (index_of sizes found.first.place) k) ≡ Some a in
    record { first = are.first; at = kept_with P found.at k kept are.at (subst (λ (o : Option ℕ). IfSome o (P k)) (sym is) there) }

-- one alone
pub one_beside : (chunks : Chunks) (sizes chunk : List ℕ) (corner : ChunkCorner) (kept at : ℕ) → IsFirstCell sizes chunk corner → address_kept kept ≡ Some at
    → get chunks (index_of sizes corner.place) ≡ Some at → AreChunksBeside chunks sizes chunk (only_chunk corner kept)
one_beside chunks sizes chunk corner kept at first is found =
    let P : ℕ → ℕ → Type 0 = λ k a. get chunks (corner_beside chunk (index_of sizes corner.place) k) ≡ Some a in
    record {
      first = first;
      at = kept_with P (replicate 64 0) 0 kept (none_kept P 64)
          (subst (λ (o : Option ℕ). IfSome o (P 0)) (sym is) (ap (get chunks) (beside_itself chunk (index_of sizes corner.place)) ∙ found));
    }
