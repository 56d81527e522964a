-- The walk when a group was read: what was followed, and the fields of its links.
use Rattle.std.proofs.Common.{◌≡◌, ◌≢◌, ℕ, ◌+◌, ◌-◌, ◌*◌, ◌<◌, ◌≤◌, ◌⊎◌, inl, inr, List, [], ◌∷◌, ◌++◌, length, refl, sym, ap, ◌∙◌, subst, arith, append_assoc}
use Rattle.std.specs.Prelude.{map, false}
use Rattle.std.specs.List.{AllByRecursion, Contains}
use Rattle.h5_bytes.specs.Blocks.{holds, cover, Separate, Inside}
use Rattle.h5_bytes.specs.declared.Block.{Block}
use Rattle.h5_bytes.proofs.BlockLaws.{holds_in, cover-append, all_append, all_right, all_so}
use Rattle.h5_model.specs.Format.Addresses.{SymbolTable}
use Rattle.h5_model.specs.Format.Superblock.{leaf_k}
use Rattle.h5_model.specs.Format.Heap.{heap_blocks}
use Rattle.h5_model.specs.Format.Nodes.{tree_blocks}
use Rattle.h5_model.specs.Format.Symbols.{IsSymbolNode, symbol_block, symbol_bytes}
use Rattle.h5_model.specs.Format.Reached.{Named, Reached, by_block}
use Rattle.h5_model.specs.Faults.Breaches.{is_header}
use Rattle.h5_header.specs.Walk.Walked.{IsWalked}
use Rattle.h5_header.specs.Walk.Met.{IsMet}
use Rattle.h5_header.proofs.WalkLaws.WalkedLaws.{not_followed}
use Rattle.h5_laws.proofs.Lists.{In, in_all, in_map, in_contains}
use Rattle.h5_btree.specs.Walk.Forms.{OfGroup}
use Rattle.h5_btree.specs.Walk.Followed.{IsTreeFollowed}
use Rattle.h5_group.specs.Nodes.Trees.{kind_in, group_nodes_blocks}
use Rattle.h5_group.specs.Nodes.Walk.{AreSymbolsReached}
use Rattle.h5_group.specs.Told.{symbol_nodes_told}
use Rattle.h5_group.specs.Walk.{IsGroupMet, IsGroupFollowed, IsHard, entry_field}
use Rattle.h5_group.proofs.HeapSteps.{heap_field, segment_field, heap_walked}

-- ---- symbol nodes that hold a byte

held_among : (leaf p at : ℕ) (nodes : List ℕ) → In at nodes → holds p at (8 + 80 * leaf) ≤ cover p (map (symbol_block leaf) nodes)
held_among leaf p at [] there = absurd there
held_among leaf p at (n ∷ ns) (inl e) =
    let same : holds p n (8 + 80 * leaf) ≡ holds p at (8 + 80 * leaf) = ap (λ (m : ℕ). holds p m (8 + 80 * leaf)) e in
    omega (arith, same)
held_among leaf p at (n ∷ ns) (inr there) = omega (arith, held_among leaf p at ns there)

-- two that hold one byte are one
one_holder : (leaf p a b : ℕ) (nodes : List ℕ) → In a nodes → In b nodes → holds p a (8 + 80 * leaf) ≡ 1 → holds p b (8 + 80 * leaf) ≡ 1
    → cover p (map (symbol_block leaf) nodes) ≤ 1 → a ≡ b
one_holder leaf p a b [] at_a at_b here there once = absurd at_a
one_holder leaf p a b (n ∷ ns) (inl e) (inl f) here there once = sym e ∙ f
one_holder leaf p a b (n ∷ ns) (inl e) (inr at_b) here there once =
    let same : holds p n (8 + 80 * leaf) ≡ holds p a (8 + 80 * leaf) = ap (λ (m : ℕ). holds p m (8 + 80 * leaf)) e in
    absurd (omega (arith, same, here, there, once, held_among leaf p b ns at_b))
one_holder leaf p a b (n ∷ ns) (inr at_a) (inl f) here there once =
    let same : holds p n (8 + 80 * leaf) ≡ holds p b (8 + 80 * leaf) = ap (λ (m : ℕ). holds p m (8 + 80 * leaf)) f in
    absurd (omega (arith, same, here, there, once, held_among leaf p a ns at_a))
one_holder leaf p a b (n ∷ ns) (inr at_a) (inr at_b) here there once = one_holder leaf p a b ns at_a at_b here there (omega (arith, once))

module _ (image : List ℕ) (held : List Block) (followed : List Named) (first second depth : ℕ) (table : SymbolTable)
    (met : IsGroupMet image held followed first second depth table)
    (h1 : List Block) (inside : Inside (length image) (heap_blocks image table.heap))
    (claimed : (p : ℕ) → cover p h1 ≡ cover p held + cover p (heap_blocks image table.heap)) (separate : Separate h1) where
  abbrev heap_fields : List Named
  heap_fields = segment_field image held followed first second depth table met ∷ heap_field image held followed first second depth table met ∷ []

  walked1 : IsWalked image h1 (heap_fields ++ followed)
  walked1 = heap_walked image held followed first second depth table met h1 inside claimed separate

  module _ (h2 : List Block) (nodes leaves : List ℕ) (told : leaves ≡ symbol_nodes_told image table) (there : Inside (length image) (group_nodes_blocks image nodes leaves))
      (claimed2 : (p : ℕ) → cover p h2 ≡ cover p h1 + cover p (group_nodes_blocks image nodes leaves)) (separate2 : Separate h2)
      (formed : AllByRecursion (λ at. IsSymbolNode (leaf_k image) (symbol_bytes image (leaf_k image) at)) leaves)
      (tree : IsTreeFollowed image OfGroup h2 (heap_fields ++ followed) first table.tree table.heap depth nodes leaves) where
    abbrev tree_cover : ℕ → ℕ
    tree_cover p = cover p (tree_blocks (kind_in image) nodes)

    abbrev symbol_cover : ℕ → ℕ
    symbol_cover p = cover p (map (symbol_block (leaf_k image)) leaves)

    all_cover : (p : ℕ) → cover p h2 ≡ cover p held + cover p (heap_blocks image table.heap) + tree_cover p + symbol_cover p
    all_cover p = omega (arith, claimed p, claimed2 p, cover-append p (tree_blocks (kind_in image) nodes) (map (symbol_block (leaf_k image)) leaves))

    -- ---- where the fields stand

    abbrev Stands : Named → Type 0
    Stands y = (y.field ≡ first) ⊎ ((y.field ≡ second) ⊎ (cover (y.field - 8) held ≡ 0))

    tree_stands : (y : Named) → (y.field ≡ first) ⊎ (1 ≤ tree_cover (y.field - 8)) → Stands y
    tree_stands y (inl e) = inl e
    tree_stands y (inr some) = inr (inr (omega (arith, some, all_cover (y.field - 8), separate2 (y.field - 8))))

    segment_new : cover (table.heap + 24 - 8) held ≡ 0
    segment_new =
        let p = table.heap + 24 - 8 in
        let here : holds p table.heap 32 ≡ 1 = holds_in p table.heap 32 (omega arith) (omega arith) in
        omega (arith, here, claimed p, separate p)

    stands : AllByRecursion Stands (tree.new ++ heap_fields)
    stands = all_append Stands tree.new heap_fields
        (all_so (λ (y : Named). (y.field ≡ first) ⊎ (1 ≤ tree_cover (y.field - 8))) Stands tree.new tree_stands tree.stands)
        (inr (inr segment_new), (inr (inl refl), tt))

    joined : tree.new ++ (heap_fields ++ followed) ≡ (tree.new ++ heap_fields) ++ followed
    joined = sym (append_assoc tree.new heap_fields followed)

    walked : IsWalked image h2 ((tree.new ++ heap_fields) ++ followed)
    walked = subst (IsWalked image h2) joined tree.walked

    -- ---- the field of an entry

    module _ (node i : ℕ) (hard : IsHard image table node i) where
      abbrev place : ℕ
      place = node + 16 + 40 * i - 8

      node_in : In node leaves
      node_in = in_contains node leaves (subst (λ (ns : List ℕ). Contains ns node) (sym told) hard.node_of)

      room : i < 2 * leaf_k image
      room =
          let form = in_all (λ at. IsSymbolNode (leaf_k image) (symbol_bytes image (leaf_k image) at)) node leaves formed node_in in
          omega (arith, form.roomy, hard.below)

      node_end : node + (8 + 80 * leaf_k image) ≤ length image
      node_end =
          in_all (λ (b : Block). b.at + b.len ≤ length image) (symbol_block (leaf_k image) node) (map (symbol_block (leaf_k image)) leaves)
          (all_right (λ (b : Block). b.at + b.len ≤ length image) (tree_blocks (kind_in image) nodes) (map (symbol_block (leaf_k image)) leaves) there)
          (in_map (symbol_block (leaf_k image)) node leaves node_in)

      holder : holds place node (8 + 80 * leaf_k image) ≡ 1
      holder = holds_in place node (8 + 80 * leaf_k image) (omega arith) (omega (arith, room))

      some_held : 1 ≤ symbol_cover place
      some_held = omega (arith, holder, held_among (leaf_k image) place node leaves node_in)

      entry_new : cover place held ≡ 0
      entry_new = omega (arith, some_held, all_cover place, separate2 place)

      none_before : cover place h1 ≡ 0
      none_before = omega (arith, some_held, claimed place, all_cover place, separate2 place)

      no_tree : tree_cover place ≡ 0
      no_tree = omega (arith, some_held, all_cover place, separate2 place)

      entry_reached : Reached image (entry_field image depth node i)
      entry_reached =
          let by = in_all (AreSymbolsReached image table.tree table.heap depth) node leaves tree.leaves_reached node_in in
          by_block {y = entry_field image depth node i} by.1 (i, hard.below, room, hard.hard, refl) (omega (arith, node_end, room))

      other_than : (z : Named) → (z.field ≡ first) ⊎ (1 ≤ tree_cover (z.field - 8)) → z.field ≢ node + 16 + 40 * i
      other_than z (inl e) same =
          let one : 1 ≤ cover place held = subst (λ (f : ℕ). 1 ≤ cover (f - 8) held) (sym e ∙ same) (met.tree).stands in
          omega (arith, one, entry_new)
      other_than z (inr some) same =
          let one : 1 ≤ tree_cover place = subst (λ (f : ℕ). 1 ≤ tree_cover (f - 8)) same some in
          omega (arith, one, no_tree)

      entry_fresh : AllByRecursion (λ (z : Named). z.field ≢ node + 16 + 40 * i) (tree.new ++ (heap_fields ++ followed))
      entry_fresh = all_append (λ (z : Named). z.field ≢ node + 16 + 40 * i) tree.new (heap_fields ++ followed)
          (all_so (λ (y : Named). (y.field ≡ first) ⊎ (1 ≤ tree_cover (y.field - 8))) (λ (z : Named). z.field ≢ node + 16 + 40 * i) tree.new other_than tree.stands)
          (not_followed image h1 (heap_fields ++ followed) walked1 (node + 16 + 40 * i) (omega arith) none_before)

      entry_met : IsMet image h2 ((tree.new ++ heap_fields) ++ followed) (entry_field image depth node i)
      entry_met = record {
        reached = entry_reached;
        behind = omega arith;
        stands = omega (arith, some_held, all_cover place);
        fresh = subst (AllByRecursion (λ (z : Named). z.field ≢ node + 16 + 40 * i)) joined entry_fresh;
      }

    apart : (node i other j : ℕ) → IsHard image table node i → IsHard image table other j → node + 16 + 40 * i ≡ other + 16 + 40 * j → (node ≡ other) × (i ≡ j)
    apart node i other j hard too e =
        let p = node + 16 + 40 * i - 8 in
        let here = holder node i hard in
        let back : other + 16 + 40 * j - 8 ≡ p = omega (arith, e) in
        let also : holds p other (8 + 80 * leaf_k image) ≡ 1 = subst (λ (q : ℕ). holds q other (8 + 80 * leaf_k image) ≡ 1) back (holder other j too) in
        let once : symbol_cover p ≤ 1 = omega (arith, all_cover p, separate2 p) in
        let same : node ≡ other = one_holder (leaf_k image) p node other leaves (node_in node i hard) (node_in other j too) here also once in
        (same, omega (arith, same, e))

    pub group_followed : IsGroupFollowed image held h2 followed first second depth table
    group_followed = record {
      new = tree.new ++ heap_fields;
      walked = walked;
      inner = all_append (λ (y : Named). is_header y.role ≡ false) tree.new heap_fields tree.inner (refl, (refl, tt));
      stands = stands;
      symbols_reached = subst (AllByRecursion (AreSymbolsReached image table.tree table.heap depth)) told tree.leaves_reached;
      entries_met = entry_met;
      entries_new = entry_new;
      entries_apart = apart;
    }
