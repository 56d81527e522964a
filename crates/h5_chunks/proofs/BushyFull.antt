-- No image has room for so many chunks that a tree with half full upper nodes gets too deep (File Format Specification 3.0, section
-- III.A.1).
use Rattle.std.proofs.Common.{◌≡◌, ℕ, zero, suc, ◌+◌, ◌-◌, ◌*◌, ◌^◌, ◌<◌, ◌≤◌, ◌⊎◌, ◌∙◌, Bool, true, List, [], ◌∷◌, length, map, inl, inr, ap, subst, arith, append-nil}
use Rattle.std.proofs.Math.Nat.{mul-le-mul_left, mul_assoc, pow-succ', pow-zero}
use Rattle.std.proofs.lemmas.Bool.{cases_lt}
use Rattle.std.proofs.lemmas.Bool.Decides.{nat_tests}
use Rattle.std.proofs.lemmas.List.{length-map}
use Rattle.std.specs.List.{AllByRecursion}
use Rattle.h5_bytes.specs.Blocks.{Inside, block, cover, holds}
use Rattle.h5_bytes.specs.declared.Block.{Block}
use Rattle.h5_bytes.proofs.BlockLaws.{all_right, cover-append, holds-le, holds_in}
use Rattle.h5_model.specs.Format.Limits.{most_bytes}
use Rattle.h5_model.specs.Format.Rows.{Reading, leaves}
use Rattle.h5_model.specs.Format.Nodes.{node_at, tree_blocks}
use Rattle.h5_model.specs.Format.Reached.{Shape, shape_kind}
use Rattle.h5_model.specs.Format.Superblock.{chunk_k, superblock_length}
use Rattle.h5_space.specs.Space.{Space}
use Rattle.h5_btree.specs.Descent.{IsWayTo}
use Rattle.h5_btree.specs.declared.way.Step.{Step}
use Rattle.h5_chunks.specs.Bushy.{IsBushy, IsBushyBelow, is_low_level}
use Rattle.h5_chunks.specs.Edited.{AreChunksApart, CanBeStored, IsFullAt}
use Rattle.h5_chunks.specs.Told.{addresses_told, chunk_nodes_told}
use Rattle.h5_chunks.specs.Way.{chunk_behind}
use Rattle.h5_chunks.proofs.BushyNodes.{bushy_leaves, least_leaves, least_power}

-- ---- blocks that share no byte are no more than there are bytes

-- the sum over the numbers below an end
abbrev sum_below : (ℕ → ℕ) → ℕ → ℕ
sum_below f zero = 0
sum_below f (suc n) = sum_below f n + f n

sum_high : (f : ℕ → ℕ) (n p : ℕ) → p < n → f p ≤ sum_below f n
sum_high f zero p low = absurd (omega (arith, low))
sum_high f (suc n) p low =
    let cases : (p < n) ⊎ (p ≡ n) = grind (arith, low) in
    elim cases [
      | inl before ↦ let rest = sum_high f n p before in omega (arith, rest)
      | inr last ↦ let same : f p ≡ f n = ap f last in omega (arith, same)
    ]

sum_few : (f : ℕ → ℕ) (n : ℕ) → ((p : ℕ) → f p ≤ 1) → sum_below f n ≤ n
sum_few f zero few = omega arith
sum_few f (suc n) few = let rest = sum_few f n few in let here = few n in omega (arith, rest, here)

sum_both : (f g : ℕ → ℕ) (n : ℕ) → sum_below (λ p. f p + g p) n ≡ sum_below f n + sum_below g n
sum_both f g zero = omega arith
sum_both f g (suc n) = omega (arith, sum_both f g n)

blocks_counted : (n : ℕ) (bs : List Block) → AllByRecursion (λ (b : Block). (b.at < n) × (1 ≤ b.len)) bs → length bs ≤ sum_below (λ p. cover p bs) n
blocks_counted n [] all = omega arith
blocks_counted n (b ∷ bs) all =
    let rest = blocks_counted n bs all.1 in
    let both = sum_both (λ p. holds p b.at b.len) (λ p. cover p bs) n in
    let one = sum_high (λ p. holds p b.at b.len) n b.at all.0.0 in
    let some = all.0.1 in
    let here = holds_in b.at b.at b.len (omega arith) (omega (arith, some)) in
    omega (arith, rest, both, one, here)

pub blocks_few : (n : ℕ) (bs : List Block) → AllByRecursion (λ (b : Block). (b.at < n) × (1 ≤ b.len)) bs → ((p : ℕ) → cover p bs ≤ 1) → length bs ≤ n
blocks_few n bs all apart =
    let counted = blocks_counted n bs all in
    let few = sum_few (λ p. cover p bs) n apart in
    omega (arith, counted, few)

-- ---- chunks

starts : (end bytes : ℕ) (ns : List ℕ) → 1 ≤ bytes → Inside end (map (λ (at : ℕ). block at bytes) ns)
    → AllByRecursion (λ (b : Block). (b.at < end) × (1 ≤ b.len)) (map (λ (at : ℕ). block at bytes) ns)
starts end bytes [] some inside = tt
starts end bytes (n ∷ ns) some inside = ((omega (arith, some, inside.0), some), starts end bytes ns some inside.1)

module _ (s : Space) (shape : Shape) (root : ℕ) (chunks : AreChunksApart s shape root) (some : 1 ≤ shape.bytes) where
  abbrev V : Reading
  V = node_at s.bytes (shape_kind s.bytes shape)

  abbrev in_nodes : List Block
  in_nodes = tree_blocks (shape_kind s.bytes shape) (chunk_nodes_told s.bytes shape root)

  abbrev in_chunks : List Block
  in_chunks = map (λ (at : ℕ). block at shape.bytes) (addresses_told s.bytes shape root)

  -- Chunks are fewer than the image's bytes: the superblock has some of these.
  pub chunks_few : length (addresses_told s.bytes shape root) < length s.bytes
  chunks_few =
      let end = length s.bytes in
      let first = block 0 (superblock_length s.bytes) in
      let inside = all_right (λ (b : Block). b.at + b.len ≤ end) in_nodes in_chunks (chunks.read).inside in
      let long = chunks.long in
      let count = length-map (addresses_told s.bytes shape root) (λ (at : ℕ). block at shape.bytes) in
      let few = blocks_few end (first ∷ in_chunks) ((omega (arith, long), omega arith), starts end shape.bytes (addresses_told s.bytes shape root) some inside) (λ p.
      let apart = chunks.apart p in
      let parts = cover-append p in_nodes in_chunks in
      let once = holds-le p 0 end in
      omega (arith, apart, parts, once)) in
      omega (arith, few, count)

  abbrev k : ℕ
  k = chunk_k s.bytes

  -- where the way is full the root is
  root_full : (behind : List ℕ → Bool) (level : ℕ) (way : List Step) → IsWayTo V behind (suc level) root way
      → AllByRecursion (λ (step : Step). length (V step.node).children ≡ 2 * k) way → length (V root).children ≡ 2 * k
  root_full behind level way is full =
      (all_right (λ (step : Step). length (V step.node).children ≡ 2 * k) is.1 (record { node = root; place = is.0 } ∷ [])
      (subst (AllByRecursion (λ (step : Step). length (V step.node).children ≡ 2 * k)) is.4 full)).0

  -- a full root at level 15 has as many chunks below it as an image has bytes
  chunks_many : (low : ℕ) → most_bytes ≤ 2 * k ^ (16 - low) → length (V root).children ≡ 2 * k → IsBushyBelow V k low 15 root
      → most_bytes ≤ length (leaves V 15 (root ∷ []))
  chunks_many low power full bushy =
      let row = (V root).children in
      let all = least_leaves V k low 14 in
      let below : length row * all ≤ length (leaves V 14 row) = bushy_leaves V k low 14 row bushy in
      let same : length (leaves V 15 (root ∷ [])) ≡ length (leaves V 14 row) = ap (λ (ns : List ℕ). length (leaves V 14 ns)) (append-nil row) in
      let wide : length row * all ≡ 2 * (k * all) = ap (λ n. n * all) full ∙ mul_assoc 2 k all in
      let least : k * k ^ (15 - low) ≤ k * all = mul-le-mul_left k (least_power V k low 14) in
      let step : k ^ (16 - low) ≤ k * k ^ (15 - low) = by_low (cases_lt low 16) in
      omega (arith, below, same, wide, least, step, power)
    where
      by_low : (low < 16) ⊎ (16 ≤ low) → k ^ (16 - low) ≤ k * k ^ (15 - low)
      by_low (inl under) =
          let more : 16 - low ≡ suc (15 - low) = omega (arith, under) in
          rw more (omega (arith, pow-succ' k (15 - low)))
      by_low (inr over) =
          let none : 16 - low ≡ 0 = omega (arith, over) in
          let one = ap (λ n. k ^ n) none ∙ pow-zero k in
          absurd (omega (arith, power, one))

-- A TREE WHOSE ROOT WAS LOW NEVER GETS TOO DEEP
pub never_full : (s : Space) (shape : Shape) (root low : ℕ) (offsets : List ℕ) → AreChunksApart s shape root → CanBeStored shape → length s.bytes ≤ most_bytes
    → is_low_level (chunk_k s.bytes) low ≡ true → IsBushy s.bytes shape root low → IsFullAt s.bytes shape root offsets → ⊥
never_full s shape root low offsets chunks storable short is_low bushy full =
    let some = storable.some in
    let V = node_at s.bytes (shape_kind s.bytes shape) in
    let k = chunk_k s.bytes in
    let power : most_bytes ≤ 2 * k ^ (16 - low) = grind (arith, nat_tests, is_low) in
    let few = chunks_few s shape root chunks some in
    let wide = root_full s shape root chunks some (chunk_behind offsets) 14 full.way full.sought full.nodes in
    let many = chunks_many s shape root chunks some low power wide (subst (λ (l : ℕ). IsBushyBelow V k low l root) full.high bushy) in
    let same : length (addresses_told s.bytes shape root) ≡ length (leaves V 15 (root ∷ [])) = ap (λ (l : ℕ). length (leaves V l (root ∷ []))) full.high in
    omega (arith, few, many, same, short)
