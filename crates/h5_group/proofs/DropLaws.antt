-- A symbol node without entries goes out of a group's tree: links and texts stay, and its block is the group's no more.
use Rattle.std.proofs.Common.{◌≡◌, inl, inr, ℕ, suc, ◌+◌, ◌-◌, ◌*◌, ◌<◌, ◌≤◌, Bool, true, false, List, [], ◌∷◌, ◌++◌, map, length, take, drop, get_or, refl, sym, ap, ◌∙◌, subst, arith}
use Rattle.std.specs.Prelude.{◌==◌, if◌then◌else◌}
use Rattle.std.specs.Bool.{⊤}
use Rattle.std.specs.List.{AllByRecursion, flat_map, list_any, remove}
use Rattle.std.proofs.lemmas.Bool.{cases_lt}
use Rattle.std.proofs.lemmas.List.{append_assoc, map-append}
use Rattle.std.proofs.lemmas.Grind.{flat_map-append}
use Rattle.h5_bytes.specs.Blocks.{block, cover, holds, Inside, IsKept, Keeps}
use Rattle.h5_bytes.specs.Texts.{text_at}
use Rattle.h5_bytes.specs.declared.Block.{Block}
use Rattle.h5_bytes.proofs.BlockLaws.{all_append, all_left, all_right, all_so, cover-append, holds_in, holds_past, holds-le}
use Rattle.h5_model.specs.Format.Addresses.{SymbolTable}
use Rattle.h5_model.specs.Format.Superblock.{leaf_k, internal_k}
use Rattle.h5_model.specs.Format.Heap.{heap_blocks, heap_header, segment_of, segment_place, segment_size, HasNames, KeyNames}
use Rattle.h5_model.specs.Format.Links.{AreLinks, HasLinks, Symbols, key_offsets}
use Rattle.h5_model.specs.Format.Nodes.{Kind, HasTree, node_at, reading_of, tree_blocks}
use Rattle.h5_model.specs.Format.Rows.{Reading, only}
use Rattle.h5_model.specs.Format.Symbols.{Entry, IsEntry, IsSymbolNode, Target, entries_of, link_of, symbol_block, symbol_bytes, symbols_at, symbols_of, texts_of}
use Rattle.h5_model.proofs.Frames.{heap-same}
use Rattle.h5_model.proofs.RowLaws.{only_here}
use Rattle.h5_model.proofs.Members.{all_both}
use Rattle.h5_laws.specs.NameLadders.{key_text, name_sides}
use Rattle.h5_laws.proofs.Entries.{flat-same}
use Rattle.h5_laws.proofs.Lists.{all_in, in_all}
use Rattle.h5_laws.proofs.NameLadders.{name_order}
use Rattle.h5_space.specs.Space.{Space}
use Rattle.h5_space.specs.Moves.{Moves}
use Rattle.h5_space.specs.Whole.{IsApart}
use Rattle.h5_space.proofs.MovesLaws.{moves_beside, moves_give, moves_same, moves_then}
use Rattle.h5_btree.specs.Keyed.{AtChild, IsInOrder}
use Rattle.h5_btree.specs.Removal.{EndsInTree, IsChildTaken, IsTakenAlong}
use Rattle.h5_btree.specs.declared.way.Step.{Step}
use Rattle.h5_btree.proofs.KeyedBare.{bare_sorted}
use Rattle.h5_btree.proofs.KeyedForms.{group_in_order, group_ordered, names_at_child}
use Rattle.h5_btree.proofs.KeyedFrom.{all_removed, keys_before}
use Rattle.h5_btree.proofs.KeyedTrees.{cut_at}
use Rattle.h5_btree.proofs.WayEnds.{end_listed}
use Rattle.h5_group.specs.Edited.{HasGroupMoved, IsGroupIn, superblock_block}
use Rattle.h5_group.specs.Nodes.Trees.{kind_in}
use Rattle.h5_group.proofs.EditFrames.{group_apart, group_moves, internal_kept, k_kept, leaf_kept, rest_kept, still_long}
use Rattle.h5_group.proofs.Ways.{others_inside, trees_parted}

-- ---- blocks and lists

-- blocks with bytes that share none lie before the end
inside_apart : (bs free : List Block) (end : ℕ) → IsApart bs free end → AllByRecursion (λ (b : Block). 1 ≤ b.len) bs → Inside end bs
inside_apart [] free end apart some = tt
inside_apart (b ∷ bs) free end apart some = (here, inside_apart bs free end (λ p. omega (arith, apart p)) some.1) where
  here : b.at + b.len ≤ end
  here =
      let last = b.at + (b.len - 1) in
      let one : holds last b.at b.len ≡ 1 = holds_in last b.at b.len (omega arith) (omega (arith, some.0)) in
      elim (cases_lt last end) [
        | inl low ↦ omega (arith, low, some.0)
        | inr past ↦ absurd (omega (arith, one, apart last, holds_past last 0 end (omega (arith, past))))
      ]

some_symbols : (leaf : ℕ) (ns : List ℕ) → AllByRecursion (λ (b : Block). 1 ≤ b.len) (map (symbol_block leaf) ns)
some_symbols leaf [] = tt
some_symbols leaf (n ∷ ns) = (omega arith, some_symbols leaf ns)

kept_each : (old new : List ℕ) (leaf : ℕ) (ns : List ℕ) → Keeps old new (map (symbol_block leaf) ns) → AllByRecursion (λ n. symbol_bytes new leaf n ≡ symbol_bytes old leaf n) ns
kept_each old new leaf [] kept = tt
kept_each old new leaf (n ∷ ns) kept = (kept.0, kept_each old new leaf ns kept.1)

only_none : (f : ℕ → List Entry) (owned : List ℕ) (n : ℕ) → f n ≡ [] → only [] f owned n ≡ []
only_none f owned n none = go (list_any (λ m. m == n) owned) where
  go : (b : Bool) → (if b then f n else []) ≡ []
  go true = none
  go false = refl

-- ---- what is known before its block is given back

module _ (s u : Space) (table : SymbolTable) (links : List (List ℕ × Target)) (spare : List ℕ) (blocks : List Block) (group : IsGroupIn s table links spare blocks)
    (way : List Step) (k : ℕ) (e : EndsInTree s (kind_in s.bytes) table.tree (group.linked).level way (group.linked).owned (group.linked).symbol_nodes k)
    (taken : IsTakenAlong s u (kind_in s.bytes) table.tree way (remove (group.linked).symbol_nodes k) (group.linked).owned) where
  abbrev kind : Kind
  kind = kind_in s.bytes

  abbrev leaf : ℕ
  leaf = leaf_k s.bytes

  abbrev root : ℕ
  root = table.tree

  abbrev has : HasLinks s.bytes (leaf_k s.bytes) (internal_k s.bytes) table.tree table.heap links blocks
  has = group.linked

  abbrev owned : List ℕ
  owned = has.owned

  abbrev list : List ℕ
  list = has.symbol_nodes

  abbrev own : List ℕ
  own = taken.4

  abbrev rest : List ℕ
  rest = remove list k

  abbrev front : List ℕ
  front = take k list

  abbrev back : List ℕ
  back = drop (suc k) list

  abbrev x : ℕ
  x = get_or list k 0

  abbrev len : ℕ
  len = 8 + 80 * leaf

  abbrev T : List Block
  T = tree_blocks kind owned

  abbrev T' : List Block
  T' = tree_blocks kind own

  abbrev N : List Block
  N = map (symbol_block leaf) list

  abbrev N' : List Block
  N' = map (symbol_block leaf) rest

  abbrev H : List Block
  H = heap_blocks s.bytes table.heap

  done : IsChildTaken s u kind root taken.3 taken.1.node taken.1.place rest owned own
  done = taken.7

  pub there : (k < length list) × (x ≡ get_or (node_at s.bytes kind e.step.node).children e.step.place 0)
  there = end_listed s kind root has.level way owned list k e

  cut : list ≡ front ++ x ∷ back
  cut = cut_at list k 0 there.0

  nodes_cut : N ≡ map (symbol_block leaf) front ++ symbol_block leaf x ∷ map (symbol_block leaf) back
  nodes_cut = ap (map (symbol_block leaf)) cut ∙ map-append (symbol_block leaf) front (x ∷ back)

  pub nodes_cover : (p : ℕ) → cover p N ≡ holds p x len + cover p N'
  nodes_cover p =
      let all = ap (cover p) nodes_cut in
      let less = ap (cover p) (map-append (symbol_block leaf) front back) in
      omega (
        arith,
        all,
        less,
        cover-append p (map (symbol_block leaf) front) (symbol_block leaf x ∷ map (symbol_block leaf) back),
        cover-append p (map (symbol_block leaf) front) (map (symbol_block leaf) back),
      )

  parted : (p : ℕ) → cover p blocks ≡ cover p (T ++ (N ++ H))
  parted = trees_parted s table links spare blocks group

  some_each : AllByRecursion (λ (b : Block). 1 ≤ b.len) (N ++ H)
  some_each = all_append (λ (b : Block). 1 ≤ b.len) N H (some_symbols leaf list) (omega arith, (omega (arith, has.listed.heap_form.size), tt))

  within : Inside (length s.bytes) (N ++ H)
  within = others_inside s table links spare blocks group

  kept : Keeps s.bytes u.bytes (N ++ H)
  kept = rest_kept s u table links spare blocks group T T' (N ++ H) done.moves parted within

  apart_then : IsApart (superblock_block u.bytes ∷ (T' ++ (N ++ H))) u.free (length u.bytes)
  apart_then = group_apart s u table links spare blocks group T T' (N ++ H) done.moves parted within (T' ++ (N ++ H)) (λ p. refl)

  pub node_inside : x + len ≤ length u.bytes
  node_inside =
      let all = subst (Inside (length s.bytes)) nodes_cut (all_left (λ (b : Block). b.at + b.len ≤ length s.bytes) N H within) in
      let one = (all_right (λ (b : Block). b.at + b.len ≤ length s.bytes) (map (symbol_block leaf) front) (symbol_block leaf x ∷ map (symbol_block leaf) back) all).0 in
      omega (arith, one, done.moves.grown)

  pub node_held : (p : ℕ) → cover p u.free + holds p x len ≤ 1
  node_held p = omega (arith, apart_then p, cover-append p T' (N ++ H), cover-append p N H, nodes_cover p, holds-le p 0 (length u.bytes))

  pub heaps : (heap_header u.bytes table.heap ≡ heap_header s.bytes table.heap) × (segment_of u.bytes table.heap ≡ segment_of s.bytes table.heap)
  heaps = heap-same s.bytes u.bytes table.heap (all_right (IsKept s.bytes u.bytes) N H kept)

  pub segment_same : segment_of u.bytes table.heap ≡ segment_of s.bytes table.heap
  segment_same = heaps.1

  -- ---- and where it is

  module _ (t : Space) (bytes : t.bytes ≡ u.bytes) (given : (p : ℕ) → cover p t.free ≡ cover p u.free + holds p x len) (bare : symbols_at s.bytes leaf x ≡ [])
      (size : length u.bytes ≤ length s.bytes) where
    abbrev S : Symbols
    S = symbols_of s.bytes leaf list

    abbrev S' : Symbols
    S' = symbols_of t.bytes leaf rest

    abbrev segs : List ℕ
    segs = segment_of s.bytes table.heap

    stays : Keeps s.bytes t.bytes (N ++ H)
    stays = subst (λ (b : List ℕ). Keeps s.bytes b (N ++ H)) (sym bytes) kept

    pub tree : HasTree t.bytes kind root taken.3 own rest
    tree = subst (λ (b : List ℕ). HasTree b kind root taken.3 own rest) (sym bytes) done.tree

    heads : (heap_header t.bytes table.heap ≡ heap_header s.bytes table.heap) × (segment_of t.bytes table.heap ≡ segs)
    heads = heap-same s.bytes t.bytes table.heap (all_right (IsKept s.bytes t.bytes) N H stays)

    -- ---- symbol nodes

    pub nodes_stay : AllByRecursion (λ n. symbol_bytes t.bytes leaf n ≡ symbol_bytes s.bytes leaf n) list
    nodes_stay = kept_each s.bytes t.bytes leaf list (all_left (IsKept s.bytes t.bytes) N H stays)

    formed : AllByRecursion (λ n. IsSymbolNode leaf (symbol_bytes t.bytes leaf n)) rest
    formed = all_removed (λ n. IsSymbolNode leaf (symbol_bytes t.bytes leaf n)) list k
        (all_so (λ n. IsSymbolNode leaf (symbol_bytes s.bytes leaf n) × (symbol_bytes t.bytes leaf n ≡ symbol_bytes s.bytes leaf n)) (λ n. IsSymbolNode leaf (symbol_bytes t.bytes leaf n)) list
        (λ n both. subst (IsSymbolNode leaf) (sym both.1) both.0)
        (all_both (λ n. IsSymbolNode leaf (symbol_bytes s.bytes leaf n)) (λ n. symbol_bytes t.bytes leaf n ≡ symbol_bytes s.bytes leaf n) list has.formed nodes_stay))

    read_alike : AllByRecursion (λ n. S' n ≡ S n) rest
    read_alike = all_in (λ n. S' n ≡ S n) rest (λ n at.
        sym (in_all (λ m. symbols_at t.bytes leaf m ≡ S' m) n rest (only_here [] (symbols_at t.bytes leaf) rest) at)
        ∙ ap entries_of (in_all (λ m. symbol_bytes t.bytes leaf m ≡ symbol_bytes s.bytes leaf m) n rest
        (all_removed (λ m. symbol_bytes t.bytes leaf m ≡ symbol_bytes s.bytes leaf m) list k nodes_stay) at)
        ∙ in_all (λ m. symbols_at s.bytes leaf m ≡ S m) n rest (all_removed (λ m. symbols_at s.bytes leaf m ≡ S m) list k (only_here [] (symbols_at s.bytes leaf) list)) at)

    none : S x ≡ []
    none = only_none (symbols_at s.bytes leaf) list x bare

    entries_same : flat_map S' rest ≡ flat_map S list
    entries_same =
        flat-same S' S rest read_alike ∙ flat_map-append S front back
        ∙ ap (λ (es : List Entry). flat_map S front ++ (es ++ flat_map S back)) (sym none)
        ∙ sym (flat_map-append S front (x ∷ back)) ∙ ap (flat_map S) (sym cut)

    -- ---- keys

    abbrev at_old : AtChild (List (List ℕ))
    at_old = names_at_child S segs

    abbrev at_new : AtChild (List (List ℕ))
    at_new = names_at_child S' segs

    abbrev IsSorted : List ℕ → AtChild (List (List ℕ)) → ℕ → Type 0
    IsSorted b at l = IsInOrder (name_sides (key_text segs)) (λ (ns : List (List ℕ)). ns) (λ (ns : List (List ℕ)). ⊤) b kind at l root

    sorted : IsSorted u.bytes at_new taken.3
    sorted =
        let short = group.short in
        (bare_sorted (name_sides (key_text segs)) (name_order (key_text segs)) (λ (ns : List (List ℕ)). ns) (λ (ns : List (List ℕ)). ⊤) [] refl tt s u kind root has.level way owned list k e taken
        (omega (arith, short, size)) at_old at_new
        (all_so (λ n. S' n ≡ S n) (λ n. (key : List ℕ) → at_new key n ≡ at_old key n) rest (λ n is key. ap (λ (es : List Entry). map (λ (d : Entry). text_at segs d.name) (es ++ [])) is) read_alike)
        (ap (λ (es : List Entry). map (λ (d : Entry). text_at segs d.name) (es ++ [])) (subst (λ c. S c ≡ []) there.1 none))
        (group_in_order s.bytes kind root has.level owned list has.tree S segs has.listed.ordered)).0

    abbrev Y' : Reading
    Y' = reading_of t.bytes kind own

    abbrev entries : List Entry
    entries = flat_map S list

    keyed : AllByRecursion (KeyNames (map (λ (d : Entry). d.name) entries ++ texts_of entries) has.listed.loose) (key_offsets Y' own)
    keyed =
        let names = KeyNames (map (λ (d : Entry). d.name) entries ++ texts_of entries) has.listed.loose in
        subst (λ (b : List ℕ). AllByRecursion names (key_offsets (reading_of b kind own) own)) (sym bytes)
        (keys_before s u kind root has.level taken.3 taken.1.node taken.1.place list rest owned own has.tree done names has.listed.spans.keyed)

    -- ---- the links

    abbrev AreSame : List ℕ → List ℕ → Type 0
    AreSame header segment = (are : AreLinks Y' S' header segment own rest links) × (are.loose ≡ has.listed.loose)

    abbrev HasTexts : List Entry → Type 0
    HasTexts es = HasNames segs has.listed.free (map (λ (d : Entry). d.name) es) (texts_of es) (key_offsets Y' own) has.listed.loose

    listed : AreSame (heap_header s.bytes table.heap) segs
    listed =
        let old = has.listed in (
          record {
            cached = subst (AllByRecursion IsEntry) (sym entries_same) old.cached;
            all = old.all ∙ ap (map (link_of segs)) (sym entries_same);
            ascending = old.ascending;
            named = old.named;
            ordered = group_ordered t.bytes kind root taken.3 own rest tree S' segs (subst (λ (b : List ℕ). IsSorted b at_new taken.3) (sym bytes) sorted);
            free = old.free;
            loose = old.loose;
            heap_form = old.heap_form;
            spans = subst HasTexts (sym entries_same)
                (record { empty = old.spans.empty; aligned = old.spans.aligned; apart = old.spans.apart; within = old.spans.within; keyed = keyed });
          },
          refl,
        )

    abbrev blocks' : List Block
    blocks' = T' ++ (N' ++ H)

    abbrev HasSame : ℕ → ℕ → Type 0
    HasSame l n = (same : HasLinks t.bytes l n root table.heap links blocks') × (same.listed.loose ≡ has.listed.loose)

    linked_then : HasSame leaf (internal_k s.bytes)
    linked_then =
        let now = subst (λ (h : List ℕ). AreSame h (segment_of t.bytes table.heap)) (sym heads.0) (subst (AreSame (heap_header s.bytes table.heap)) (sym heads.1) listed) in (
          record {
            level = taken.3;
            owned = own;
            symbol_nodes = rest;
            tree = tree;
            formed = formed;
            listed = now.0;
            laid = sym (append_assoc T' N' H) ∙ ap (λ (h : List ℕ). (T' ++ N') ++ (block table.heap 32 ∷ block (segment_place h) (segment_size h) ∷ [])) (sym heads.0);
          },
          now.1,
        )

    -- ---- the blocks

    abbrev A : List Block
    A = T ++ symbol_block leaf x ∷ []

    moved : Moves s t A T'
    moved =
        let first = moves_beside s u T T' (symbol_block leaf x ∷ []) done.moves in
        let second = moves_beside u t (symbol_block leaf x ∷ []) [] T' (moves_give u t x len bytes given) in
        moves_then s u t A (T' ++ symbol_block leaf x ∷ []) T' first
        (moves_same u t ((symbol_block leaf x ∷ []) ++ T') ([] ++ T') (T' ++ symbol_block leaf x ∷ []) T'
        (λ p. omega (arith, cover-append p T' (symbol_block leaf x ∷ []), cover-append p (symbol_block leaf x ∷ []) T')) (λ p. refl) second)

    parted_then : (p : ℕ) → cover p blocks ≡ cover p (A ++ (N' ++ H))
    parted_then p = omega (
      arith,
      parted p,
      nodes_cover p,
      cover-append p T (N ++ H),
      cover-append p N H,
      cover-append p A (N' ++ H),
      cover-append p N' H,
      cover-append p T (symbol_block leaf x ∷ []),
    )

    within_then : Inside (length s.bytes) (N' ++ H)
    within_then = inside_apart (N' ++ H) s.free (length s.bytes)
        (λ p. omega (arith, group.apart p, parted_then p, cover-append p A (N' ++ H)))
        (all_append (λ (b : Block). 1 ≤ b.len) N' H (some_symbols leaf rest) (all_right (λ (b : Block). 1 ≤ b.len) N H some_each))

    pub leaf_is : leaf_k t.bytes ≡ leaf
    leaf_is = leaf_kept s t table links spare blocks group A T' (N' ++ H) moved parted_then within_then

    pub internal_is : internal_k t.bytes ≡ internal_k s.bytes
    internal_is = internal_kept s t table links spare blocks group A T' (N' ++ H) moved parted_then within_then

    linked : HasSame (leaf_k t.bytes) (internal_k t.bytes)
    linked = subst (λ l. HasSame l (internal_k t.bytes)) (sym leaf_is) (subst (HasSame leaf) (sym internal_is) linked_then)

    -- THE GROUP STAYS
    pub node_dropped : HasGroupMoved s t table blocks links spare
    node_dropped = record {
      blocks = blocks';
      group = record {
        linked = linked.0;
        more = group.more;
        spared = linked.1 ∙ group.spared;
        apart = group_apart s t table links spare blocks group A T' (N' ++ H) moved parted_then within_then blocks' (λ p. refl);
        long = still_long s t table links spare blocks group A T' (N' ++ H) moved parted_then within_then;
        leaf_some = omega (arith, leaf_is, group.leaf_some);
        leaf_few = omega (arith, leaf_is, group.leaf_few);
        some = omega (arith, internal_is, group.some);
        few = omega (arith, internal_is, group.few);
        short = let long = ap length bytes in omega (arith, long, size, group.short);
      };
      moves = group_moves s t table links spare blocks group A T' (N' ++ H) moved parted_then within_then blocks' (λ p. refl);
      k = k_kept s t table links spare blocks group A T' (N' ++ H) moved parted_then within_then;
    }
