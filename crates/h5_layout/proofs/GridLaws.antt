-- A chunk that is stored lies in the image.
use Rattle.std.proofs.Common.{◌≡◌, ℕ, suc, ◌+◌, ◌-◌, ◌*◌, ◌<◌, ◌≤◌, List, [], ◌∷◌, false, ◌++◌, length, map, Option, Some, None, IfSome, refl, sym, ◌∙◌, subst, arith, get_or, take, drop}
use Rattle.std.specs.Prelude.{◌==◌}
use Rattle.std.specs.List.{list_any}
use Rattle.std.proofs.lemmas.Bool.Decides.{nat_tests}
use Rattle.std.specs.FinMap.{entries, get, get-entries, nat_cmp-IsAntisymmetric, slice_cmp-IsAntisymmetric, values}
use Rattle.std.proofs.Math.Nat.{mul-le-mul_right}
use Rattle.std.proofs.lemmas.Slice.{first_rest}
use Rattle.h5_bytes.specs.Bytes.{part}
use Rattle.h5_bytes.specs.Blocks.{Inside, block}
use Rattle.h5_bytes.specs.declared.Block.{Block}
use Rattle.h5_bytes.proofs.BlockLaws.{all_right}
use Rattle.h5_model.specs.Format.Chunks.{Chunks}
use Rattle.h5_model.specs.Format.Nodes.{chunk_kind, tree_blocks}
use Rattle.h5_model.specs.Format.Reached.{Shape}
use Rattle.h5_model.specs.Format.Superblock.{chunk_k}
use Rattle.h5_model.specs.Tree.Grid.{inner_of}
use Rattle.h5_model.specs.Tree.Places.{cells, index_of}
use Rattle.h5_model.proofs.PlaceLaws.{place_below}
use Rattle.h5_layout.specs.ChunkCells.{AreBeside, Grid, IsGrid, place_in_chunk}
use Rattle.h5_layout.specs.GridKept.{GridKept}
use Rattle.h5_layout.proofs.LocateLaws.{inner_inside, some_cells}
use Rattle.h5_laws.proofs.Lists.{In, in_all, in_map}
use Rattle.h5_laws.proofs.Maps.{found_entry}
use Rattle.h5_shape.proofs.GridBoxes.{length-index_of}
use Rattle.h5_chunks.specs.Read.{AreChunksRead}
use Rattle.h5_chunks.specs.Shapes.{AreChunkSizes}
use Rattle.h5_chunks.specs.Told.{chunks_told}

pub chunk_inside : (image : List ℕ) (shape : Shape) (root : ℕ) → AreChunksRead image shape root → (offsets : List ℕ) (at : ℕ)
    → get (chunks_told image shape root) offsets ≡ Some at → at + shape.bytes ≤ length image
chunk_inside image shape root read offsets at found =
    let chunks : Chunks = chunks_told image shape root in
    let entry : In (offsets, at) (entries chunks)
    = found_entry (slice_cmp-IsAntisymmetric nat_cmp-IsAntisymmetric) (entries chunks) offsets at (sym (get-entries chunks offsets) ∙ found) in
    let value : In at (values chunks) = in_map (λ (e : List ℕ × ℕ). e.1) (offsets, at) (entries chunks) entry in
    let there : In (block at shape.bytes) (map (λ (a : ℕ). block a shape.bytes) (values chunks)) = in_map (λ (a : ℕ). block a shape.bytes) at (values chunks) value in
    let inside : Inside (length image) (tree_blocks (chunk_kind (chunk_k image) (length shape.sizes)) read.stored.owned ++ map (λ (a : ℕ). block a shape.bytes) (values chunks))
    = subst (Inside (length image)) read.stored.laid read.inside in
    in_all (λ (b : Block). b.at + b.len ≤ length image) (block at shape.bytes) (map (λ (a : ℕ). block a shape.bytes) (values chunks))
    (all_right (λ (b : Block). b.at + b.len ≤ length image) (tree_blocks (chunk_kind (chunk_k image) (length shape.sizes)) read.stored.owned)
    (map (λ (a : ℕ). block a shape.bytes) (values chunks)) inside) there

-- so does one that is found
pub found_inside : (image : List ℕ) (shape : Shape) (root : ℕ) → AreChunksRead image shape root → (offsets : List ℕ) (found : Option ℕ)
    → found ≡ get (chunks_told image shape root) offsets → IfSome found (λ at. at + shape.bytes ≤ length image)
found_inside image shape root read offsets None is = tt
found_inside image shape root read offsets (Some at) is = chunk_inside image shape root read offsets at (sym is)

-- ---- chunk sizes

pub sizes_behind : (d : ℕ) (ds : List ℕ) → AreChunkSizes (d ∷ ds) → AreChunkSizes ds
sizes_behind d ds h = record { few = omega (arith, h.few); some = λ k low. h.some (suc k) (omega arith) }

-- fewer dimensions, fewer bytes
pub bytes_behind : (d : ℕ) (ds : List ℕ) (size most : ℕ) → AreChunkSizes (d ∷ ds) → cells (d ∷ ds) * size ≤ most → cells ds * size ≤ most
bytes_behind d ds size most h small =
    let one : 1 * (cells ds * size) ≤ d * (cells ds * size) = mul-le-mul_right (cells ds * size) (h.some 0 (omega arith)) in
    let turned : d * (cells ds * size) ≡ cells (d ∷ ds) * size = omega arith in
    omega (arith, one, turned)

-- no size is 0
pub none_zero : (chunk : List ℕ) → ((d : ℕ) → d < length chunk → 1 ≤ get_or chunk d 0) → list_any (λ n. n == 0) chunk ≡ false
none_zero [] some = refl
none_zero (c ∷ cs) some =
    let here : 1 ≤ c = some 0 (omega arith) in
    let rest : list_any (λ n. n == 0) cs ≡ false = none_zero cs (λ d low. some (suc d) (omega (arith, low))) in
    grind (arith, nat_tests, here, rest)

-- nor of the chunks of an array
pub none_zero_kept : (g kept : GridKept) → g ≡ kept → AreChunkSizes kept.shape.sizes → list_any (λ n. n == 0) g.shape.sizes ≡ false
none_zero_kept g kept is sizes =
    none_zero g.shape.sizes (subst (λ (k : GridKept). (d : ℕ) → d < length k.shape.sizes → 1 ≤ get_or k.shape.sizes d 0) (sym is) sizes.some)

-- ---- slices

pub slice_part : (at n : ℕ) (bytes : List ℕ) → take (at + n - at) (drop at bytes) ≡ part at n bytes
unfolding part
slice_part at n bytes = let few : at + n - at ≡ n = omega arith in rw few refl

pub same_shape : (s : Shape) (sizes : List ℕ) (bytes : ℕ) → s.sizes ≡ sizes → s.bytes ≡ bytes → s ≡ record { sizes = sizes; bytes = bytes }
same_shape s sizes bytes p q = λ i. record { sizes = p i; bytes = q i }

-- the first of a slice, and the others
pub front_rest : (xs : List ℕ) → 1 ≤ length xs → xs ≡ get_or xs 0 0 ∷ take (length xs - 1) (drop 1 xs)
front_rest xs some = first_rest xs 0 some

-- ---- the cells of a row have room in their chunk

pub row_room : (g : Grid) (place n at : ℕ) → IsGrid g → AreBeside g.sizes g.shape.sizes place n → 0 < n → at ≡ place_in_chunk g place
    → at + n ≤ cells g.shape.sizes
row_room g place n at grid beside some here =
    let more : 0 < cells g.shape.sizes = some_cells g.shape.sizes grid.sizes.some in
    let last : ℕ = place + (n - 1) in
    let low : place_in_chunk g last < cells g.shape.sizes
    = place_below g.shape.sizes (inner_of g.shape.sizes (index_of g.sizes last))
    (inner_inside g.shape.sizes (index_of g.sizes last) (length-index_of g.sizes last ∙ sym grid.rank) more) in
    omega (arith, beside.inner (n - 1) (omega arith), low, here)
