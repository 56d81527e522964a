-- A chunk goes out of a tree: the others stay, and its block is the tree's no more.
use Rattle.std.proofs.Common.{◌≡◌, ℕ, suc, ◌+◌, ◌<◌, ◌≤◌, ◌^◌, List, [], ◌∷◌, ◌++◌, length, map, take, drop, get_or, refl, sym, ap, ◌∙◌, subst, arith}
use Rattle.std.specs.Prelude.{T}
use Rattle.std.specs.Ordering.{nat_cmp}
use Rattle.std.specs.Cmp.Lexicographic.{slice_cmp}
use Rattle.std.specs.FinMap.{entries_sorted, is_sorted, remove, values}
use Rattle.std.specs.List.{AllByRecursion, remove as without}
use Rattle.std.proofs.lemmas.List.{map-append}
use Rattle.h5_bytes.specs.Blocks.{Inside, Keeps, block, cover, holds}
use Rattle.h5_bytes.specs.declared.Block.{Block}
use Rattle.h5_bytes.proofs.BlockLaws.{all_append, all_right, all_so, cover-append, holds-le}
use Rattle.h5_model.specs.Format.Chunks.{chunks_at, offsets_in}
use Rattle.h5_model.specs.Format.Nodes.{HasTree, Kind, node_at, tree_blocks}
use Rattle.h5_model.specs.Format.Reached.{Shape, shape_kind}
use Rattle.h5_model.specs.Format.Rows.{Reading, row_below}
use Rattle.h5_model.specs.Format.Superblock.{chunk_k, k_values, highest_k}
use Rattle.h5_model.proofs.KLaws.{same_chunk, same_length}
use Rattle.h5_laws.specs.ChunkLadders.{rising_chunk_sides}
use Rattle.h5_laws.specs.KeyEdits.{IsTaken}
use Rattle.h5_laws.proofs.ChunkLadders.{chunk_order}
use Rattle.h5_space.specs.Moves.{Moves}
use Rattle.h5_space.specs.Space.{Space}
use Rattle.h5_space.specs.Whole.{IsApart}
use Rattle.h5_space.proofs.MovesLaws.{moves_apart, moves_beside, moves_give, moves_kept, moves_same, moves_then}
use Rattle.h5_btree.specs.Removal.{IsChildTaken, IsTakenAlong}
use Rattle.h5_btree.specs.Walk.Forms.{OfChunks}
use Rattle.h5_btree.specs.Walk.Trees.{IsTree}
use Rattle.h5_btree.specs.declared.way.Step.{Step}
use Rattle.h5_btree.proofs.ClimbSteps.{blocks_inside}
use Rattle.h5_btree.proofs.KeyedFrom.{all_removed}
use Rattle.h5_btree.proofs.KeyedOwn.{all_stand}
use Rattle.h5_btree.proofs.KeyedTakes.{taken_sorted}
use Rattle.h5_btree.proofs.KeyedTrees.{cut_at}
use Rattle.h5_btree.proofs.WayEnds.{end_listed}
use Rattle.h5_chunks.specs.Edited.{AreChunksApart, HasChunksNow}
use Rattle.h5_chunks.specs.Order.{AreChunksOrdered}
use Rattle.h5_chunks.specs.Read.{AreChunksRead}
use Rattle.h5_chunks.specs.Told.{chunk_blocks_told, chunks_told, listed_told}
use Rattle.h5_chunks.proofs.ChunkFound.{each_rises, entries_are, stored_there}
use Rattle.h5_chunks.proofs.ChunkWays.{ChunkWay, chunks_cover}
use Rattle.h5_chunks.proofs.KeyedChunks.{AreInOrder, HasShape, chunks_in_order, chunks_keyed, chunks_of, chunks_ordered, items_are, keyed_chunk}
use Rattle.h5_chunks.proofs.OrderFaults.{listed_is}
use Rattle.h5_chunks.proofs.Readable.{each_formed, stored_tree}
use Rattle.h5_chunks.proofs.Stored.{blocks_are, chunks_read}
use Rattle.h5_chunks.proofs.SuperblockStays.{k_stays, kind_stays, superblock_of}
use Rattle.h5_chunks.proofs.TakenEntries.{taken_ascends, taken_map}

inside_made : (f : ℕ → Block) (old new : ℕ) (xs : List ℕ) → old ≤ new → Inside old (map f xs) → Inside new (map f xs)
inside_made f old new xs low inside = all_so (λ (b : Block). b.at + b.len ≤ old) (λ (b : Block). b.at + b.len ≤ new) (map f xs) (λ b end. omega (arith, end, low)) inside

inside_less : (f : ℕ → Block) (end : ℕ) (xs : List ℕ) (k : ℕ) → Inside end (map f xs) → Inside end (map f (without xs k))
inside_less f end xs k inside = to_map (without xs k) (all_removed (λ (x : ℕ). (f x).at + (f x).len ≤ end) xs k (from_map xs inside)) where
  from_map : (xs : List ℕ) → Inside end (map f xs) → AllByRecursion (λ (x : ℕ). (f x).at + (f x).len ≤ end) xs
  from_map [] all = tt
  from_map (x ∷ xs) all = (all.0, from_map xs all.1)

  to_map : (xs : List ℕ) → AllByRecursion (λ (x : ℕ). (f x).at + (f x).len ≤ end) xs → Inside end (map f xs)
  to_map [] all = tt
  to_map (x ∷ xs) all = (all.0, to_map xs all.1)

module _ (s u : Space) (shape : Shape) (root : ℕ) (chunks : AreChunksApart s shape root) (way : List Step) (k : ℕ) (e : ChunkWay s shape root chunks way k)
    (taken : IsTakenAlong s u (shape_kind s.bytes shape) root way (without (values (chunks_told s.bytes shape root)) k) ((chunks.read).stored).owned) where
  abbrev kind : Kind
  kind = shape_kind s.bytes shape

  abbrev rank : ℕ
  rank = length shape.sizes

  abbrev owned : List ℕ
  owned = ((chunks.read).stored).owned

  abbrev level : ℕ
  level = ((chunks.read).stored).level

  abbrev list : List ℕ
  list = values (chunks_told s.bytes shape root)

  abbrev own : List ℕ
  own = taken.4

  abbrev height : ℕ
  height = taken.3

  abbrev rest : List ℕ
  rest = without list k

  abbrev x : ℕ
  x = get_or list k 0

  abbrev chunk_block : ℕ → Block
  chunk_block at = block at shape.bytes

  abbrev nodes : List Block
  nodes = tree_blocks kind owned

  abbrev nodes' : List Block
  nodes' = tree_blocks kind own

  abbrev stored : List Block
  stored = map chunk_block list

  abbrev stored' : List Block
  stored' = map chunk_block rest

  abbrev superblock : Block
  superblock = superblock_of s

  abbrev step : Step
  step = e.step

  done : IsChildTaken s u kind root height taken.1.node taken.1.place rest owned own
  done = taken.7

  there : (k < length list) × (x ≡ get_or (node_at s.bytes kind step.node).children step.place 0)
  there = end_listed s kind root level way owned list k e

  -- ---- blocks

  cut : list ≡ take k list ++ x ∷ drop (suc k) list
  cut = cut_at list k 0 there.0

  stored_cover : (p : ℕ) → cover p stored ≡ holds p x shape.bytes + cover p stored'
  stored_cover p =
      let all = ap (cover p) (ap (map chunk_block) cut ∙ map-append chunk_block (take k list) (x ∷ drop (suc k) list)) in
      let less = ap (cover p) (map-append chunk_block (take k list) (drop (suc k) list)) in
      omega (
        arith,
        all,
        less,
        cover-append p (map chunk_block (take k list)) (chunk_block x ∷ map chunk_block (drop (suc k) list)),
        cover-append p (map chunk_block (take k list)) (map chunk_block (drop (suc k) list)),
      )

  all_inside : Inside (length s.bytes) (nodes ++ stored)
  all_inside = subst (Inside (length s.bytes)) ((chunks.read).stored).laid (chunks.read).inside

  stored_inside : Inside (length s.bytes) stored
  stored_inside = all_right (λ (b : Block). b.at + b.len ≤ length s.bytes) nodes stored all_inside

  beside : IsApart (nodes ++ (superblock ∷ stored)) s.free (length s.bytes)
  beside p = omega (arith, chunks.apart p, chunks_cover s shape root chunks p, cover-append p nodes (superblock ∷ stored))

  -- no chunk's byte changes
  pub chunks_kept : Keeps s.bytes u.bytes stored
  chunks_kept = moves_kept s u nodes nodes' stored done.moves
      (λ p. omega (arith, chunks.apart p, chunks_cover s shape root chunks p, cover-append p nodes stored)) stored_inside

  beside_then : IsApart (nodes' ++ (superblock ∷ stored)) u.free (length u.bytes)
  beside_then = moves_apart s u nodes nodes' (superblock ∷ stored) done.moves beside

  pub chunk_inside : x + shape.bytes ≤ length u.bytes
  chunk_inside =
      let parts = subst (Inside (length s.bytes)) (ap (map chunk_block) cut ∙ map-append chunk_block (take k list) (x ∷ drop (suc k) list)) stored_inside in
      let one = (all_right (λ (b : Block). b.at + b.len ≤ length s.bytes) (map chunk_block (take k list))
      (chunk_block x ∷ map chunk_block (drop (suc k) list)) parts).0 in
      omega (arith, one, done.moves.grown)

  pub chunk_held : (p : ℕ) → cover p u.free + holds p x shape.bytes ≤ 1
  chunk_held p = omega (arith, beside_then p, cover-append p nodes' (superblock ∷ stored), stored_cover p, holds-le p 0 (length u.bytes))

  -- ---- the block is given back

  module _ (t : Space) (bytes : t.bytes ≡ u.bytes) (given : (p : ℕ) → cover p t.free ≡ cover p u.free + holds p x shape.bytes) (size : length u.bytes ≤ length s.bytes)
      (short : length s.bytes < 2 ^ 64) (offsets : List ℕ) (key_has : offsets_in rank (get_or (node_at s.bytes kind step.node).keys step.place []) ≡ offsets) where
    abbrev V : Reading
    V = node_at s.bytes kind

    abbrev before : List Block
    before = nodes ++ chunk_block x ∷ []

    moved : Moves s t before nodes'
    moved =
        let first = moves_beside s u nodes nodes' (chunk_block x ∷ []) done.moves in
        let second = moves_beside u t (chunk_block x ∷ []) [] nodes' (moves_give u t x shape.bytes bytes given) in
        moves_then s u t before (nodes' ++ chunk_block x ∷ []) nodes' first
        (moves_same u t ((chunk_block x ∷ []) ++ nodes') ([] ++ nodes') (nodes' ++ chunk_block x ∷ []) nodes'
        (λ p. omega (arith, cover-append p nodes' (chunk_block x ∷ []), cover-append p (chunk_block x ∷ []) nodes')) (λ p. refl) second)

    parted : (p : ℕ) → cover p (chunk_blocks_told s.bytes shape root) ≡ cover p (before ++ stored')
    parted p = omega (arith, chunks_cover s shape root chunks p, stored_cover p, cover-append p before stored', cover-append p nodes (chunk_block x ∷ []))

    beside_now : IsApart (nodes' ++ (superblock ∷ stored')) t.free (length t.bytes)
    beside_now = moves_apart s t before nodes' (superblock ∷ stored') moved
        (λ p. omega (arith, chunks.apart p, parted p, cover-append p before stored', cover-append p before (superblock ∷ stored')))

    -- the superblock is none of the blocks that are moved
    k_now : k_values t.bytes ≡ k_values s.bytes
    k_now = k_stays s t before nodes' stored' moved
        (λ p. omega (arith, chunks.apart p, parted p, cover-append p before stored', cover-append p before (superblock ∷ stored'))) chunks.long

    kind_now : shape_kind t.bytes shape ≡ kind
    kind_now = kind_stays s t shape k_now

    same_k : chunk_k t.bytes ≡ chunk_k s.bytes
    same_k = same_chunk t.bytes s.bytes k_now

    abbrev kind' : Kind
    kind' = shape_kind t.bytes shape

    tree : HasTree t.bytes kind' root height own rest
    tree = subst (λ (k : Kind). HasTree t.bytes k root height own rest) (sym kind_now) (subst (λ (b : List ℕ). HasTree b kind root height own rest) (sym bytes) done.tree)

    -- ---- keys and chunks

    abbrev IsLeft : Kind → List ℕ → Type 0
    IsLeft kind image = AreInOrder kind image shape height root × IsTaken (offsets, x) (chunks_at V rank (row_below V level (root ∷ [])))
        (chunks_at (node_at image kind) rank (row_below (node_at image kind) height (root ∷ [])))

    left : IsLeft kind' t.bytes
    left =
        let was = stored_tree s.bytes shape root (chunks_told s.bytes shape root) (chunk_blocks_told s.bytes shape root) (chunks.read).stored in
        let order = chunks_in_order kind s.bytes shape root level owned list (stored_there s.bytes shape root chunks.read)
        (each_rises s.bytes shape root chunks.read) was.keyed in
        let one : chunks_of rank (keyed_chunk (get_or (V step.node).keys step.place []) (get_or (V step.node).children step.place 0)) ≡ (offsets, x) ∷ []
        = ap (λ (o : List ℕ). (o, get_or (V step.node).children step.place 0) ∷ []) key_has ∙ ap (λ (n : ℕ). (offsets, n) ∷ []) (sym there.1) in
        let now = taken_sorted (rising_chunk_sides rank) (chunk_order rank) (chunks_of rank) (HasShape shape) [] refl tt (offsets, x)
        s u kind root level way owned list k e taken
        (omega (arith, short, size)) keyed_chunk keyed_chunk (all_stand V V keyed_chunk rest) one order in
        let exact : IsLeft kind u.bytes = (
          now.0,
          subst (λ (es : List (List ℕ × ℕ)). IsTaken (offsets, x) es (chunks_at (node_at u.bytes kind) rank (row_below (node_at u.bytes kind) height (root ∷ []))))
              (items_are kind s.bytes shape root level) (subst (IsTaken (offsets, x) _) (items_are kind u.bytes shape root height) now.1),
        ) in
        subst (λ (k : Kind). IsLeft k t.bytes) (sym kind_now) (subst (IsLeft kind) (sym bytes) exact)

    stands : IsTree t.bytes (OfChunks shape) root own rest
    stands = record {
      level = height;
      tree = tree;
      formed = each_formed t.bytes shape rest;
      keyed = chunks_keyed kind' t.bytes shape root height own rest tree left.0;
    }

    abbrev told_before : List (List ℕ × ℕ)
    told_before = listed_told s.bytes shape root

    same_taken : IsTaken (offsets, x) told_before (listed_told t.bytes shape root)
    unfolding stands
    same_taken =
        let was = stored_tree s.bytes shape root (chunks_told s.bytes shape root) (chunk_blocks_told s.bytes shape root) (chunks.read).stored in
        subst (λ (es : List (List ℕ × ℕ)). IsTaken (offsets, x) es (listed_told t.bytes shape root)) (sym (listed_is s.bytes shape root owned list was))
        (subst (IsTaken (offsets, x) _) (sym (listed_is t.bytes shape root own rest stands)) left.1)

    sorted : T (is_sorted (slice_cmp nat_cmp) told_before)
    sorted =
        let was = stored_tree s.bytes shape root (chunks_told s.bytes shape root) (chunk_blocks_told s.bytes shape root) (chunks.read).stored in
        subst (λ (es : List (List ℕ × ℕ)). T (is_sorted (slice_cmp nat_cmp) es))
        (entries_are s.bytes shape root chunks.read ∙ sym (listed_is s.bytes shape root owned list was))
        (entries_sorted (chunks_told s.bytes shape root))

    ordered : AreChunksOrdered t.bytes shape root own
    ordered = record {
      ascending = taken_ascends (offsets, x) told_before (listed_told t.bytes shape root) same_taken sorted;
      ordered = chunks_ordered kind' t.bytes shape root height own rest tree left.0;
    }

    -- ---- the blocks now

    now_blocks : nodes' ++ stored' ≡ chunk_blocks_told t.bytes shape root
    now_blocks = ap (λ (k : Kind). tree_blocks k own ++ stored') (sym kind_now) ∙ blocks_are t.bytes shape root own rest stands

    inside_now : Inside (length t.bytes) (nodes' ++ stored')
    inside_now = all_append (λ (b : Block). b.at + b.len ≤ length t.bytes) nodes' stored'
        (blocks_inside t kind own (λ p. omega (arith, beside_now p, cover-append p nodes' (superblock ∷ stored'))))
        (inside_made chunk_block (length s.bytes) (length t.bytes) rest moved.grown (inside_less chunk_block (length s.bytes) list k stored_inside))

    read_now : AreChunksRead t.bytes shape root
    read_now = chunks_read t.bytes shape root own rest stands ordered (subst (λ n. 1 ≤ n) (sym same_k) (chunks.read).k_some)
        (subst (λ n. n ≤ highest_k) (sym same_k) (chunks.read).k_few) (subst (λ (k : Kind). Inside (length t.bytes) (tree_blocks k own ++ stored')) (sym kind_now) inside_now)

    abbrev IsApartNow : List Block → Type 0
    IsApartNow blocks = IsApart (superblock ∷ blocks) t.free (length t.bytes)

    -- THE OTHER CHUNKS STAY
    pub chunk_taken : HasChunksNow s t shape root (remove (chunks_told s.bytes shape root) offsets)
    chunk_taken = record {
      told = taken_map (offsets, x) told_before (listed_told t.bytes shape root) same_taken sorted;
      stand = record {
        read = read_now;
        apart = subst (λ n. IsApart (block 0 n ∷ chunk_blocks_told t.bytes shape root) t.free (length t.bytes)) (sym (same_length t.bytes s.bytes k_now))
            (subst IsApartNow now_blocks (λ p. omega (arith, beside_now p, cover-append p nodes' (superblock ∷ stored'), cover-append p nodes' stored')));
        long = omega (arith, chunks.long, moved.grown, same_length t.bytes s.bytes k_now);
      };
      moves = subst (Moves s t (chunk_blocks_told s.bytes shape root)) now_blocks
          (moves_same s t (before ++ stored') (nodes' ++ stored') (chunk_blocks_told s.bytes shape root) (nodes' ++ stored') parted (λ p. refl)
          (moves_beside s t before nodes' stored' moved));
      k = k_now;
    }
