-- A symbol node of a group is cut in two, and then the new half comes into the tree: what stays of the group (File Format Specification 3.0,
-- sections III.A.1, III.B and III.D).
use Rattle.std.proofs.Common.{◌≡◌, ℕ, ◌+◌, ◌*◌, ◌^◌, ◌<◌, ◌≤◌, List, [], ◌∷◌, ◌++◌, map, length, refl, sym, ap, ap₂, ◌∙◌, subst, arith}
use Rattle.std.proofs.lemmas.List.{append_assoc, map-append}
use Rattle.std.proofs.lemmas.Grind.{flat_map-append}
use Rattle.std.specs.List.{AllByRecursion, flat_map}
use Rattle.h5_bytes.specs.Bytes.{undefined_address}
use Rattle.h5_bytes.specs.Blocks.{block, cover, Inside, IsKept, Keeps}
use Rattle.h5_bytes.specs.declared.Block.{Block}
use Rattle.h5_bytes.proofs.BlockLaws.{cover-append, all_append, all_left, all_right}
use Rattle.h5_model.specs.Format.Addresses.{SymbolTable}
use Rattle.h5_model.specs.Format.Superblock.{leaf_k}
use Rattle.h5_model.specs.Format.Heap.{heap_blocks, segment_of, segment_place, segment_size}
use Rattle.h5_model.specs.Format.Nodes.{Kind, reading_of, tree_blocks}
use Rattle.h5_model.specs.Format.Rows.{Reading, IsRow, next_row}
use Rattle.h5_model.specs.Format.Symbols.{Entry, IsSymbolNode, Target, entries_of, symbol_block, symbol_bytes, symbols_at, symbols_of}
use Rattle.h5_model.proofs.Frames.{heap-same, reading-same, tree-same, read-same, each-same}
use Rattle.h5_model.proofs.RowLaws.{only_here}
use Rattle.h5_laws.proofs.Entries.{flat-same}
use Rattle.h5_space.specs.Moves.{Moves}
use Rattle.h5_space.specs.Space.{Space}
use Rattle.h5_space.specs.Whole.{IsApart}
use Rattle.h5_space.proofs.MovesLaws.{moves_beside, moves_kept, moves_same, moves_then}
use Rattle.h5_btree.specs.Climb.{IsWay}
use Rattle.h5_btree.specs.Insertion.{IsChildPut}
use Rattle.h5_btree.specs.Removal.{EndsInTree}
use Rattle.h5_btree.specs.declared.way.Step.{Step}
use Rattle.h5_btree.proofs.BlocksInside.{inside_held, made_long}
use Rattle.h5_group.specs.Edited.{IsGroupIn, superblock_block}
use Rattle.h5_group.specs.Nodes.Trees.{group_nodes_blocks, kind_in}
use Rattle.h5_group.specs.Split.{AreHalves}
use Rattle.h5_group.proofs.EditFrames.{group_apart, rest_kept}
use Rattle.h5_group.proofs.EntryFrames.{entries_cut, parted, within}

-- a way ends where it did, where the nodes of its tree keep their bytes
abbrev pub ends_still : (s u : Space) (kind : Kind) (root level : ℕ) (way : List Step) (owned list : List ℕ) (k : ℕ) → EndsInTree s kind root level way owned list k
    → Keeps s.bytes u.bytes (tree_blocks kind owned) → IsApart (tree_blocks kind owned) u.free (length u.bytes) → length u.bytes < 2 ^ 64
    → EndsInTree u kind root level way owned list k
ends_still s u kind root level way owned list k e kept apart short =
    let rows : reading_of u.bytes kind owned ≡ reading_of s.bytes kind owned = reading-same s.bytes u.bytes kind owned kept in
    record {
      tree = tree-same s.bytes u.bytes kind owned kept root level list e.tree;
      apart = apart;
      short = short;
      step = e.step;
      above = e.above;
      way_is = e.way_is;
      front = e.front;
      back = e.back;
      leads = subst (λ (v : Reading). IsWay v 0 root e.above (e.step).node e.front e.back) (sym rows) e.leads;
      row = subst (λ (v : Reading). IsRow v 0 undefined_address (e.front ++ (e.step).node ∷ e.back)) (sym rows) e.row;
      place = subst (λ (v : Reading). (e.step).place < length (v (e.step).node).children) (sym rows) e.place;
      number = subst (λ (v : Reading). k ≡ length (next_row v e.front) + (e.step).place) (sym rows) e.number;
    }

module _ (s u : Space) (table : SymbolTable) (links : List (List ℕ × Target)) (spare : List ℕ) (blocks : List Block)
    (group : IsGroupIn s table links spare blocks) (node new : ℕ) (front back : List ℕ) (cut : (group.linked).symbol_nodes ≡ front ++ node ∷ back)
    (left right : List Entry) (halves : AreHalves s u (leaf_k s.bytes) node new left right) where
  abbrev l : ℕ
  l = leaf_k s.bytes

  abbrev kind : Kind
  kind = kind_in s.bytes

  abbrev own : List ℕ
  own = (group.linked).owned

  abbrev listed : List ℕ
  listed = (group.linked).symbol_nodes

  abbrev pub nodes' : List ℕ
  nodes' = front ++ node ∷ new ∷ back

  abbrev T : List Block
  T = tree_blocks kind own

  abbrev a : List Block
  a = symbol_block l node ∷ []

  abbrev b : List Block
  b = symbol_block l node ∷ symbol_block l new ∷ []

  abbrev FB : List Block
  FB = map (symbol_block l) front ++ map (symbol_block l) back

  abbrev R : List Block
  R = (T ++ FB) ++ heap_blocks s.bytes table.heap

  abbrev S' : List Block
  S' = map (symbol_block l) nodes'

  kept : Keeps s.bytes u.bytes R
  kept = rest_kept s u table links spare blocks group a b R halves.moves (parted s u table links spare blocks group node front back cut) (within s u table links spare blocks group node front back cut)

  -- the heap keeps its bytes
  pub segment_kept : segment_of u.bytes table.heap ≡ segment_of s.bytes table.heap
  segment_kept = (heap-same s.bytes u.bytes table.heap (all_right (IsKept s.bytes u.bytes) (T ++ FB) (heap_blocks s.bytes table.heap) kept)).1

  pub heap_inside : Inside (length u.bytes) (heap_blocks u.bytes table.heap)
  heap_inside =
      let here = all_right (λ (h : Block). h.at + h.len ≤ length s.bytes) (T ++ FB) (heap_blocks s.bytes table.heap) (within s u table links spare blocks group node front back cut) in
      let header = (heap-same s.bytes u.bytes table.heap (all_right (IsKept s.bytes u.bytes) (T ++ FB) (heap_blocks s.bytes table.heap) kept)).0 in
      let grown = halves.moves.grown in
      let then : Inside (length u.bytes) (heap_blocks s.bytes table.heap) = (omega (arith, here.0, grown), (omega (arith, here.1.0, grown), tt)) in
      subst (λ (h : List ℕ). Inside (length u.bytes) (block table.heap 32 ∷ block (segment_place h) (segment_size h) ∷ [])) (sym header) then

  trees_symbols : Keeps s.bytes u.bytes (T ++ FB)
  trees_symbols = all_left (IsKept s.bytes u.bytes) (T ++ FB) (heap_blocks s.bytes table.heap) kept

  -- the tree's nodes keep their bytes, and so do the other symbol nodes
  pub nodes_kept : Keeps s.bytes u.bytes T
  nodes_kept = all_left (IsKept s.bytes u.bytes) T FB trees_symbols

  symbols_kept : Keeps s.bytes u.bytes FB
  symbols_kept = all_right (IsKept s.bytes u.bytes) T FB trees_symbols

  front_kept : Keeps s.bytes u.bytes (map (symbol_block l) front)
  front_kept = all_left (IsKept s.bytes u.bytes) (map (symbol_block l) front) (map (symbol_block l) back) symbols_kept

  back_kept : Keeps s.bytes u.bytes (map (symbol_block l) back)
  back_kept = all_right (IsKept s.bytes u.bytes) (map (symbol_block l) front) (map (symbol_block l) back) symbols_kept

  all_apart : IsApart (superblock_block u.bytes ∷ (b ++ R)) u.free (length u.bytes)
  all_apart = group_apart s u table links spare blocks group a b R halves.moves (parted s u table links spare blocks group node front back cut)
      (within s u table links spare blocks group node front back cut) (b ++ R) (λ p. refl)

  new_cover : (p : ℕ) → cover p S' ≡ cover p (map (symbol_block l) front) + (cover p b + cover p (map (symbol_block l) back))
  new_cover p = ap (cover p) (map-append (symbol_block l) front (node ∷ new ∷ back))
      ∙ cover-append p (map (symbol_block l) front) (symbol_block l node ∷ symbol_block l new ∷ map (symbol_block l) back) ∙ omega arith

  old_cover : (p : ℕ) → cover p (map (symbol_block l) listed) ≡ cover p (map (symbol_block l) front) + (cover p a + cover p (map (symbol_block l) back))
  old_cover p = ap (cover p) (ap (map (symbol_block l)) cut ∙ map-append (symbol_block l) front (node ∷ back))
      ∙ cover-append p (map (symbol_block l) front) (symbol_block l node ∷ map (symbol_block l) back) ∙ omega arith

  -- the tree and the symbol nodes share no byte
  pub trees_apart : IsApart (T ++ S') u.free (length u.bytes)
  trees_apart p = omega (
    arith,
    all_apart p,
    new_cover p,
    cover-append p T S',
    cover-append p b R,
    cover-append p (T ++ FB) (heap_blocks s.bytes table.heap),
    cover-append p T FB,
    cover-append p (map (symbol_block l) front) (map (symbol_block l) back),
  )

  pub tree_apart : IsApart T u.free (length u.bytes)
  tree_apart p = omega (arith, trees_apart p, cover-append p T S')

  symbols_inside : Inside (length u.bytes) S'
  symbols_inside = inside_held (length u.bytes) S' (λ p. omega (arith, trees_apart p, cover-append p T S')) (made_long (symbol_block l) nodes' (λ n. omega arith))

  -- ---- then the new half comes into the tree

  module _ (t : Space) (height : ℕ) (all : List ℕ) (put : IsChildPut u t kind table.tree height nodes' own all) where
    abbrev T' : List Block
    T' = tree_blocks kind all

    then_kept : Keeps u.bytes t.bytes S'
    then_kept = moves_kept u t T T' S' put.moves trees_apart symbols_inside

    parts_kept : Keeps u.bytes t.bytes (map (symbol_block l) front ++ (symbol_block l node ∷ symbol_block l new ∷ map (symbol_block l) back))
    parts_kept = subst (Keeps u.bytes t.bytes) (map-append (symbol_block l) front (node ∷ new ∷ back)) then_kept

    front_then : Keeps u.bytes t.bytes (map (symbol_block l) front)
    front_then = all_left (IsKept u.bytes t.bytes) (map (symbol_block l) front) (symbol_block l node ∷ symbol_block l new ∷ map (symbol_block l) back) parts_kept

    rest_then : Keeps u.bytes t.bytes (symbol_block l node ∷ symbol_block l new ∷ map (symbol_block l) back)
    rest_then = all_right (IsKept u.bytes t.bytes) (map (symbol_block l) front) (symbol_block l node ∷ symbol_block l new ∷ map (symbol_block l) back) parts_kept

    both_kept : (xs : List ℕ) → Keeps s.bytes u.bytes (map (symbol_block l) xs) → Keeps u.bytes t.bytes (map (symbol_block l) xs) → Keeps s.bytes t.bytes (map (symbol_block l) xs)
    both_kept [] one two = tt
    both_kept (x ∷ xs) one two = (two.0 ∙ one.0, both_kept xs one.1 two.1)

    front_stays : Keeps s.bytes t.bytes (map (symbol_block l) front)
    front_stays = both_kept front front_kept front_then

    back_stays : Keeps s.bytes t.bytes (map (symbol_block l) back)
    back_stays = both_kept back back_kept rest_then.1.1

    fronts_same : AllByRecursion (λ at. symbols_at t.bytes l at ≡ symbols_at s.bytes l at) front
    fronts_same = read-same s.bytes t.bytes entries_of (8 + 80 * l) front front_stays

    backs_same : AllByRecursion (λ at. symbols_at t.bytes l at ≡ symbols_at s.bytes l at) back
    backs_same = read-same s.bytes t.bytes entries_of (8 + 80 * l) back back_stays

    -- the other symbol nodes read as before, and these two as the halves
    pub others_same : AllByRecursion (λ at. symbols_at t.bytes l at ≡ symbols_at s.bytes l at) (front ++ back)
    others_same = all_append (λ at. symbols_at t.bytes l at ≡ symbols_at s.bytes l at) front back fronts_same backs_same

    pub left_says : symbols_at t.bytes l node ≡ left
    left_says = ap entries_of rest_then.0 ∙ halves.left_says

    pub right_says : symbols_at t.bytes l new ≡ right
    right_says = ap entries_of rest_then.1.0 ∙ halves.right_says

    pub all_formed : AllByRecursion (λ at. IsSymbolNode l (symbol_bytes t.bytes l at)) nodes'
    all_formed =
        let P : ℕ → Type 0 = λ at. IsSymbolNode l (symbol_bytes s.bytes l at) in
        let Q : ℕ → Type 0 = λ at. IsSymbolNode l (symbol_bytes t.bytes l at) in
        let old = subst (AllByRecursion P) cut (group.linked).formed in
        all_append Q front (node ∷ new ∷ back)
        (each-same s.bytes t.bytes (IsSymbolNode l) (8 + 80 * l) front front_stays (all_left P front (node ∷ back) old)) (
          subst (IsSymbolNode l) (sym rest_then.0) halves.left_form,
          (
            subst (IsSymbolNode l) (sym rest_then.1.0) halves.right_form,
            each-same s.bytes t.bytes (IsSymbolNode l) (8 + 80 * l) back back_stays (all_right P front (node ∷ back) old).1,
          ),
        )

    pub all_moves : Moves s t (group_nodes_blocks s.bytes own listed) (group_nodes_blocks s.bytes all nodes')
    all_moves =
        let first = moves_beside s u a b (T ++ FB) halves.moves in
        let second = moves_beside u t T T' S' put.moves in
        let fb : (p : ℕ) → cover p FB ≡ cover p (map (symbol_block l) front) + cover p (map (symbol_block l) back)
        = λ p. cover-append p (map (symbol_block l) front) (map (symbol_block l) back) in
        let old : (p : ℕ) → cover p (group_nodes_blocks s.bytes own listed) ≡ cover p (a ++ (T ++ FB))
        = λ p. omega (arith, old_cover p, fb p, cover-append p T (map (symbol_block l) listed), cover-append p a (T ++ FB), cover-append p T FB) in
        let middle : (p : ℕ) → cover p (T ++ S') ≡ cover p (b ++ (T ++ FB))
        = λ p. omega (arith, new_cover p, fb p, cover-append p T S', cover-append p b (T ++ FB), cover-append p T FB) in
        moves_then s u t (group_nodes_blocks s.bytes own listed) (T ++ S') (T' ++ S')
        (moves_same s u (a ++ (T ++ FB)) (b ++ (T ++ FB)) (group_nodes_blocks s.bytes own listed) (T ++ S') old middle first) second

    -- ---- all entries, with one more

    module _ (e : Entry) (xs ys : List Entry) (was : symbols_at s.bytes (leaf_k s.bytes) node ≡ xs ++ ys) (now : left ++ right ≡ xs ++ e ∷ ys) where
      abbrev F : List Entry
      F = flat_map (symbols_at s.bytes l) front

      abbrev G : List Entry
      G = flat_map (symbols_at s.bytes l) back

      abbrev pub ahead : List Entry
      ahead = flat_map (symbols_at s.bytes (leaf_k s.bytes)) front ++ xs

      abbrev pub behind : List Entry
      behind = ys ++ flat_map (symbols_at s.bytes (leaf_k s.bytes)) back

      regroup : (zs : List Entry) → F ++ ((xs ++ zs) ++ G) ≡ (F ++ xs) ++ (zs ++ G)
      regroup zs = ap (λ (es : List Entry). F ++ es) (append_assoc xs zs G) ∙ sym (append_assoc F xs (zs ++ G))

      pub old_flat : flat_map (symbols_of s.bytes l listed) listed ≡ ahead ++ behind
      old_flat = entries_cut s.bytes l node front back listed cut ∙ ap (λ (es : List Entry). F ++ (es ++ G)) was ∙ regroup ys

      pub new_flat : flat_map (symbols_of t.bytes l nodes') nodes' ≡ ahead ++ e ∷ behind
      new_flat =
          let W = symbols_at t.bytes l in
          sym (flat-same W (symbols_of t.bytes l nodes') nodes' (only_here [] W nodes'))
          ∙ flat_map-append W front (node ∷ new ∷ back)
          ∙ ap₂ (λ (us vs : List Entry). us ++ (W node ++ (W new ++ vs))) (flat-same W (symbols_at s.bytes l) front fronts_same) (flat-same W (symbols_at s.bytes l) back backs_same)
          ∙ ap₂ (λ (us vs : List Entry). F ++ (us ++ (vs ++ G))) left_says right_says
          ∙ ap (λ (es : List Entry). F ++ es) (sym (append_assoc left right G)) ∙ ap (λ (es : List Entry). F ++ (es ++ G)) now ∙ regroup (e ∷ ys)
