-- Trees of chunks in an image that are at least half full: where they begin to be, and what they stay through (File Format
-- Specification 3.0, section III.A.1).
use Rattle.std.proofs.Common.{◌≡◌, inl, inr, ℕ, zero, suc, ◌+◌, ◌≤◌, List, [], ◌∷◌, length, map, refl, sym, ap, ◌∙◌, subst, arith}
use Rattle.std.specs.Ordering.{nat_cmp}
use Rattle.std.specs.Cmp.Lexicographic.{slice_cmp}
use Rattle.std.specs.FinMap.{empty, entries, values}
use Rattle.std.proofs.lemmas.Bool.{cases_lt}
use Rattle.h5_bytes.specs.Blocks.{Keeps, block, cover}
use Rattle.h5_bytes.specs.declared.Block.{Block}
use Rattle.h5_bytes.proofs.BlockLaws.{all_left, cover-append}
use Rattle.h5_model.specs.Format.Chunks.{Chunks}
use Rattle.h5_model.specs.Format.Rows.{Node, Reading, nodes, row_below}
use Rattle.h5_model.specs.Format.Nodes.{HasTree, Kind, chunk_kind, node_at, node_of, tree_blocks}
use Rattle.h5_model.specs.Format.Reached.{Shape, level_at, shape_kind}
use Rattle.h5_model.specs.Format.Superblock.{chunk_k}
use Rattle.h5_model.proofs.KLaws.{same_chunk}
use Rattle.h5_model.proofs.MapSteps.{entries-empty}
use Rattle.h5_model.proofs.OneTree.{level_is}
use Rattle.h5_laws.proofs.Lists.{In, all_in}
use Rattle.h5_laws.proofs.Subtrees.{child_below}
use Rattle.h5_space.specs.Space.{Space}
use Rattle.h5_space.specs.Moves.{Moves}
use Rattle.h5_space.proofs.MovesLaws.{moves_kept}
use Rattle.h5_chunks.specs.Bushy.{IsBushy, IsBushyBelow}
use Rattle.h5_chunks.specs.Edited.{AreChunksApart}
use Rattle.h5_chunks.specs.Read.{AreChunksRead}
use Rattle.h5_chunks.specs.Told.{addresses_told, chunk_nodes_told, chunks_told}
use Rattle.h5_chunks.proofs.BushyNodes.{IsBushyNode, bushy_same, least_is_one}
use Rattle.h5_chunks.proofs.ChunkFound.{items_are, stored_there, top}
use Rattle.h5_chunks.proofs.SuperblockStays.{k_stays, superblock_of}
use Rattle.h5_chunks.proofs.KeysRise.{some_children, some_under}

-- by the level that the tree has
pub bushy_told : (image : List ℕ) (shape : Shape) (root level low : ℕ) (owned list : List ℕ) → HasTree image (shape_kind image shape) root level owned list
    → IsBushyBelow (node_at image (shape_kind image shape)) (shape_kind image shape).k low level root → IsBushy image shape root low
bushy_told image shape root level low owned list has is =
    let kind = shape_kind image shape in
    subst (λ (l : ℕ). IsBushyBelow (node_at image kind) kind.k low l root) (sym (level_is image kind root level owned list has)) is

pub bushy_below : (image : List ℕ) (shape : Shape) (root level low : ℕ) (owned list : List ℕ) → HasTree image (shape_kind image shape) root level owned list
    → IsBushy image shape root low → IsBushyBelow (node_at image (shape_kind image shape)) (shape_kind image shape).k low level root
bushy_below image shape root level low owned list has is =
    let kind = shape_kind image shape in
    subst (λ (l : ℕ). IsBushyBelow (node_at image kind) kind.k low l root) (level_is image kind root level owned list has) is

-- no node stands below a root at level 0
pub bushy_first : (image : List ℕ) (shape : Shape) (root low : ℕ) (owned list : List ℕ)
    → HasTree image (shape_kind image shape) root 0 owned list → IsBushy image shape root low
bushy_first image shape root low owned list has = bushy_told image shape root 0 low owned list has tt

-- ---- a tree of which only the root may be as high as that

module _ (image : List ℕ) (shape : Shape) (root low level : ℕ) (owned list : List ℕ)
    (has : HasTree image (shape_kind image shape) root level owned list) (deep : level ≤ low) where
  abbrev V : Reading
  V = node_at image (shape_kind image shape)

  abbrev k : ℕ
  k = (shape_kind image shape).k

  -- each node below the root has a child
  low_below : (l d at : ℕ) → d + l ≡ level → In at (row_below V d (root ∷ [])) → IsBushyBelow V k low l at
  low_below zero d at sum there = tt
  low_below (suc l) d at sum there = all_in (IsBushyNode V k low l) (V at).children (λ child under.
      let here = child_below V d at child (root ∷ []) there under in
      let one = least_is_one k low l (omega (arith, sum, deep)) in
      let some = some_children image shape root level owned list has (suc d) l child (omega (arith, sum)) (omega (arith, sum)) here in
      (omega (arith, one, some), low_below l (suc d) child (omega (arith, sum)) here))

  pub low_bushy : IsBushy image shape root low
  low_bushy = bushy_told image shape root level low owned list has (low_below level 0 root (omega arith) (inl refl))

pub bushy_start : (image : List ℕ) (shape : Shape) (root low : ℕ) → AreChunksRead image shape root → level_at image (shape_kind image shape) root ≤ low
    → IsBushy image shape root low
bushy_start image shape root low read deep =
    let high = top image shape root read in
    low_bushy image shape root low (read.stored).level (read.stored).owned (values (chunks_told image shape root)) (stored_there image shape root read)
    (omega (arith, high, deep))

-- ---- where the bytes of its nodes stay

nodes_kept : (old new : List ℕ) (kind : Kind) (ns : List ℕ) → Keeps old new (tree_blocks kind ns) → (n : ℕ) → In n ns → node_at new kind n ≡ node_at old kind n
nodes_kept old new kind [] kept n at = absurd at
nodes_kept old new kind (m ∷ ns) kept n (inl same) = subst (λ (a : ℕ). node_at new kind a ≡ node_at old kind a) same (ap (node_of kind) kept.0)
nodes_kept old new kind (m ∷ ns) kept n (inr at) = nodes_kept old new kind ns kept.1 n at

pub bushy_kept : (old new : List ℕ) (shape : Shape) (root low : ℕ) → chunk_k new ≡ chunk_k old → Keeps old new (tree_blocks (shape_kind old shape) (chunk_nodes_told old shape root))
    → IsBushy old shape root low → IsBushy new shape root low
bushy_kept old new shape root low k kept is =
    let kind = shape_kind old shape in
    let kinds : shape_kind new shape ≡ kind = ap (λ n. chunk_kind n (length shape.sizes)) k in
    let level = level_at old kind root in
    let each = nodes_kept old new kind (chunk_nodes_told old shape root) kept in
    let same : level_at new kind root ≡ level = ap (λ (n : Node). n.level) (each root (root_told level)) in
    subst (λ (x : Kind). IsBushyBelow (node_at new x) x.k low (level_at new x root) root) (sym kinds)
    (subst (λ (l : ℕ). IsBushyBelow (node_at new kind) kind.k low l root) (sym same)
    (bushy_same (node_at old kind) (node_at new kind) kind.k low level root (λ n at. ap (λ (o : Node). o.children) (each n at)) is))
  where
    root_told : (level : ℕ) → In root (nodes (node_at old (shape_kind old shape)) level (root ∷ []))
    root_told zero = inl refl
    root_told (suc level) = inl refl

-- where a block of a chunk is written, or one is taken
pub bushy_beside : (s t : Space) (shape : Shape) (root low : ℕ) (a b : List Block) → AreChunksApart s shape root → Moves s t a b
    → ((p : ℕ) → cover p a ≤ cover p (map (λ (at : ℕ). block at shape.bytes) (addresses_told s.bytes shape root)))
    → IsBushy s.bytes shape root low → IsBushy t.bytes shape root low
bushy_beside s t shape root low a b chunks moves within is =
    let in_nodes = tree_blocks (shape_kind s.bytes shape) (chunk_nodes_told s.bytes shape root) in
    let in_chunks = map (λ (at : ℕ). block at shape.bytes) (addresses_told s.bytes shape root) in
    let inside = all_left (λ (x : Block). x.at + x.len ≤ length s.bytes) in_nodes in_chunks (chunks.read).inside in
    let stays = k_stays s t a b [] moves (λ p.
    let apart = chunks.apart p in
    let parts = cover-append p in_nodes in_chunks in
    let both = cover-append p a (superblock_of s ∷ []) in
    let few = within p in
    omega (arith, apart, parts, both, few)) chunks.long in
    bushy_kept s.bytes t.bytes shape root low (same_chunk t.bytes s.bytes stays) (moves_kept s t a b in_nodes moves (λ p.
    let apart = chunks.apart p in
    let parts = cover-append p in_nodes in_chunks in
    let both = cover-append p a in_nodes in
    let few = within p in
    omega (arith, apart, parts, both, few)) inside) is

-- ---- a tree without a chunk

module _ (image : List ℕ) (shape : Shape) (root : ℕ) (read : AreChunksRead image shape root) (none : chunks_told image shape root ≡ empty) where
  pub empty_level : level_at image (shape_kind image shape) root ≡ 0
  empty_level =
      let level = (read.stored).level in
      let high = top image shape root read in
      let no_entries : length (entries (chunks_told image shape root)) ≡ 0
      = ap (λ (c : Chunks). length (entries c)) none ∙ ap (λ (es : List (List ℕ × ℕ)). length es) (entries-empty (slice_cmp nat_cmp)) in
      elim (cases_lt 0 level) [
        | inl deep ↦
            let one = some_under image shape root level (read.stored).owned (values (chunks_told image shape root))
            (stored_there image shape root read) level 0 root (omega arith)
            (omega (arith, deep)) (inl refl) in
            let same = ap (λ (es : List (List ℕ × ℕ)). length es) (items_are image shape root read) in
            absurd (omega (arith, one, same, no_entries))
        | inr low ↦ omega (arith, low, high)
      ]

  pub bushy_empty : (low : ℕ) → IsBushy image shape root low
  bushy_empty low = let flat = empty_level in bushy_start image shape root low read (omega (arith, flat))
