-- A tree whose blocks can all be claimed is refused for want of memory alone.
use Rattle.std.proofs.Common.{◌≡◌, ℕ, zero, suc, ◌+◌, ◌<◌, ◌≤◌, ◌⊎◌, inl, inr, List, [], ◌∷◌, ◌++◌, length, refl, sym, ap, ◌∙◌, subst, arith}
use Rattle.std.specs.Prelude.{slice_index_or}
use Rattle.std.specs.List.{AllByRecursion}
use Rattle.h5_bytes.specs.Blocks.{holds, cover}
use Rattle.h5_bytes.specs.declared.Block.{Block}
use Rattle.h5_bytes.proofs.BlockLaws.{all_left, all_right, holds_in}
use Rattle.h5_model.specs.Format.Limits.{highest_level}
use Rattle.h5_model.specs.Format.Rows.{Node, IsRow, AreRows, next_row, leaves, nodes}
use Rattle.h5_model.specs.Format.Nodes.{node_block, node_bytes, node_length, entries_in}
use Rattle.h5_model.specs.Faults.TreeFaults.{NodeBreach, SiblingBreach}
use Rattle.h5_model.specs.declared.open_fault.Cause.{Cause}
use Rattle.h5_model.specs.declared.open_fault.Cause.TheVariants.{Truncated, Overlap, NodeForm, NoMemory, Sibling}
use Rattle.h5_model.proofs.OneTree.{level_is, owned_is, children_are}
use Rattle.h5_laws.proofs.Lists.{In, in_all}
use Rattle.h5_laws.proofs.Rows.{in_nodes}
use Rattle.h5_laws.proofs.Trees.{tree_rows}
use Rattle.h5_laws.proofs.NodeExcluded.{node_excluded, sibling_excluded}
use Rattle.h5_btree.specs.Walk.Forms.{TreeForm, kind_of, leaf_block, LeafBreach}
use Rattle.h5_btree.specs.Walk.Trees.{nodes_blocks}
use Rattle.h5_btree.specs.Walk.Stands.{IsNodeAt}
use Rattle.h5_btree.specs.Walk.Below.{reading_in, IsInner, IsBottom, IsTakenBelow, AreBelow}
use Rattle.h5_btree.specs.Walk.Keyed.{AreKeyedBelow}
use Rattle.h5_btree.specs.Walk.Readable.{IsTreeReadable, AreReadableBelow}
use Rattle.h5_btree.specs.Walk.Refused.{IsRefusedFor, IsLeafRefused}
use Rattle.h5_btree.proofs.LeafLaws.{next_row-append}
use Rattle.h5_btree.proofs.WalkLaws.FormLaws.{leaf_formed}
use Rattle.h5_btree.proofs.WalkLaws.KeyLaws.{row_keyed}
use Rattle.h5_btree.proofs.WalkLaws.StandLaws.{nodes_stand, leaves_stand}
use Rattle.h5_btree.proofs.WalkLaws.Taken.{blocks_below, blocks-append, blocks_bottom, blocks_inner, next_one}

-- a block of this form that can be claimed
only_memory : (Broken : Type 0) (end : ℕ) (held : List Block) (b : Block) (cause : Cause) → b.at + b.len ≤ end
    → ((p : ℕ) → cover p held + holds p b.at b.len ≤ 1) → (Broken → ⊥) → IsRefusedFor Broken end held b cause → cause ≡ NoMemory
only_memory Broken end held b Truncated inside once formed h = absurd (omega (arith, h, inside))
only_memory Broken end held b Overlap inside once formed h = absurd (omega (arith, h.1, h.2, once h.0))
only_memory Broken end held b NodeForm inside once formed h = absurd (formed h.1)
only_memory Broken end held b NoMemory inside once formed h = refl
only_memory Broken end held b _ inside once formed h = absurd h

module _ (image : List ℕ) (form : TreeForm) where
  -- ---- rows of two parts

  below_left : (level : ℕ) (xs ys : List ℕ) → AreBelow image form level (xs ++ ys) → AreBelow image form level xs
  below_left zero xs ys all = all_left (IsBottom image form) xs ys all
  below_left (suc level) xs ys all = (
    all_left (IsInner image form level) xs ys all.0,
    below_left level (next_row (reading_in image form) xs) (next_row (reading_in image form) ys)
        (subst (AreBelow image form level) (next_row-append (reading_in image form) xs ys) all.1),
  )

  below_right : (level : ℕ) (xs ys : List ℕ) → AreBelow image form level (xs ++ ys) → AreBelow image form level ys
  below_right zero xs ys all = all_right (IsBottom image form) xs ys all
  below_right (suc level) xs ys all = (
    all_right (IsInner image form level) xs ys all.0,
    below_right level (next_row (reading_in image form) xs) (next_row (reading_in image form) ys)
        (subst (AreBelow image form level) (next_row-append (reading_in image form) xs ys) all.1),
  )

  -- ---- one block

  inner_formed : (root level at : ℕ) → level ≤ highest_level → IsInner image form level at → NodeBreach image (kind_of image form) root level at → ⊥
  inner_formed root level at low inner (inl signature) = signature ((inner.stands).formed).signed
  inner_formed root level at low inner (inr (inl type_byte)) = type_byte ((inner.stands).formed).type_byte
  inner_formed root level at low inner (inr (inr (inl other))) = other (inner.stands).high
  inner_formed root level at low inner (inr (inr (inr (inl deep)))) = absurd (omega (arith, deep, low))
  inner_formed root level at low inner (inr (inr (inr (inr (inl many))))) = absurd (omega (arith, many, ((inner.stands).formed).roomy))
  inner_formed root level at low inner (inr (inr (inr (inr (inr (none, other)))))) = absurd (omega (arith, none, inner.some))

  -- ---- the next child of a node, where those before it were claimed

  module _ (level : ℕ) (node : Node) (row : List ℕ) (child : ℕ) (rest : List ℕ) (split : node.children ≡ (row ++ child ∷ []) ++ rest) (old mid : List Block)
      (readable : AreReadableBelow image form level node old) (taken : IsTakenBelow image form level row old mid) where
    here : AreBelow image form level (child ∷ [])
    here = below_right level row (child ∷ []) (below_left level (row ++ child ∷ []) rest (subst (AreBelow image form level) split readable.below))

    once : (p : ℕ) → cover p mid + cover p (blocks_below image form level (child ∷ [])) ≤ 1
    once p =
        let all : cover p (blocks_below image form level node.children) ≡ cover p (blocks_below image form level ((row ++ child ∷ []) ++ rest))
        = ap (λ (r : List ℕ). cover p (blocks_below image form level r)) split in
        omega (
          arith,
          all,
          readable.separate p,
          taken.claimed p,
          blocks-append image form p level (row ++ child ∷ []) rest,
          blocks-append image form p level row (child ∷ []),
        )

  pub leaf_memory : (at : ℕ) (node : Node) (i : ℕ) → i < length node.children → (row rest : List ℕ)
      → node.children ≡ (row ++ slice_index_or node.children i 0 ∷ []) ++ rest → (old mid : List Block)
      → AreReadableBelow image form 0 node old → IsTakenBelow image form 0 row old mid → (cause : Cause) (address : ℕ)
      → IsLeafRefused image form mid at node i cause address → cause ≡ NoMemory
  leaf_memory at node i low row rest split old mid readable taken cause address (inl (is, refused)) =
      let child = slice_index_or node.children i 0 in
      let bottom : IsBottom image form child = (here 0 node row child rest split old mid readable taken).0 in
      only_memory (LeafBreach image form child) (length image) mid (leaf_block image form child) cause bottom.there
      (λ p. omega (arith, once 0 node row child rest split old mid readable taken p, blocks_bottom image form p child))
      (leaf_formed image form child bottom.formed) refused
  leaf_memory at node i low row rest split old mid readable taken cause address (inr (is, there, other)) = absurd (other (readable.keyed i low))

  module _ (level : ℕ) (node : Node) (row : List ℕ) (child : ℕ) (rest : List ℕ) (split : node.children ≡ (row ++ child ∷ []) ++ rest) (old mid : List Block)
      (readable : AreReadableBelow image form (suc level) node old) (taken : IsTakenBelow image form (suc level) row old mid) where
    both : AreBelow image form (suc level) (child ∷ [])
    both = here (suc level) node row child rest split old mid readable taken

    abbrev AreKeyedAt : ℕ → Type 0
    AreKeyedAt at = AreKeyedBelow image form level (reading_in image form at)

    keyed_here : AreKeyedBelow image form level (reading_in image form child)
    keyed_here = (all_right AreKeyedAt row (child ∷ []) (all_left AreKeyedAt (row ++ child ∷ []) rest (subst (AllByRecursion AreKeyedAt) split readable.keyed))).0

    apart : (p : ℕ) → cover p mid + (holds p child (node_length (kind_of image form)) + cover p (blocks_below image form level (reading_in image form child).children)) ≤ 1
    apart p = omega (arith, once (suc level) node row child rest split old mid readable taken p, blocks_inner image form p level child)

    still : 1 ≤ cover readable.root mid
    still = omega (arith, readable.rooted, taken.claimed readable.root)

    pub inner_memory : (cause : Cause)
        → IsRefusedFor ((root : ℕ) → 1 ≤ cover root mid → NodeBreach image (kind_of image form) root level child) (length image) mid (node_block (kind_of image form) child) cause
        → cause ≡ NoMemory
    inner_memory cause refused =
        let inner : IsInner image form level child = both.0.0 in
        only_memory ((root : ℕ) → 1 ≤ cover root mid → NodeBreach image (kind_of image form) root level child) (length image) mid (node_block (kind_of image form) child) cause
        (inner.stands).there (λ p. omega (arith, apart p))
        (λ broken. inner_formed readable.root level child (omega (arith, readable.low)) inner (broken readable.root still)) refused

    pub below_readable : (now : List Block) → ((p : ℕ) → cover p now ≡ cover p mid + holds p child (node_length (kind_of image form)))
        → AreReadableBelow image form level (reading_in image form child) now
    below_readable now claimed = record {
      root = readable.root;
      rooted = omega (arith, still, claimed readable.root);
      low = omega (arith, readable.low);
      below = subst (AreBelow image form level) (next_one image form child) both.1;
      keyed = keyed_here;
      separate = λ p. omega (arith, apart p, claimed p);
    }

  -- ---- the rows of a tree

  abbrev IsFilled : ℕ → Type 0
  IsFilled at = 1 ≤ entries_in (node_bytes image (kind_of image form) at)

  row_inner : (level left : ℕ) (row : List ℕ) → IsRow (reading_in image form) level left row → AllByRecursion (IsNodeAt image form) row → AllByRecursion IsFilled row
      → AllByRecursion (IsInner image form level) row
  row_inner level left [] is stands filled = tt
  row_inner level left (n ∷ row) is stands filled = (
    record { stands = record { formed = (stands.0).formed; high = is.0; there = (stands.0).inside }; some = filled.0 },
    row_inner level n row is.3 stands.1 filled.1,
  )

  rows_inner : (level : ℕ) (row : List ℕ) → AreRows (reading_in image form) level row → AllByRecursion (IsNodeAt image form) (nodes (reading_in image form) level row)
      → AllByRecursion IsFilled (nodes (reading_in image form) level row) → AllByRecursion (IsBottom image form) (leaves (reading_in image form) level row)
      → AllByRecursion (IsInner image form level) row × AreBelow image form level (next_row (reading_in image form) row)
  rows_inner zero row are stands filled bottoms = (row_inner 0 _ row are stands filled, bottoms)
  rows_inner (suc level) row are stands filled bottoms =
      let next = next_row (reading_in image form) row in
      let ns = nodes (reading_in image form) level next in (
        row_inner (suc level) _ row are.0 (all_left (IsNodeAt image form) row ns stands) (all_left IsFilled row ns filled),
        rows_inner level next are.1 (all_right (IsNodeAt image form) row ns stands) (all_right IsFilled row ns filled) bottoms,
      )

  below_root : (level root : ℕ) → AreRows (reading_in image form) level (root ∷ []) → AllByRecursion (IsNodeAt image form) (nodes (reading_in image form) level (root ∷ []))
      → (1 ≤ level → AllByRecursion IsFilled (nodes (reading_in image form) level (root ∷ []))) → AllByRecursion (IsBottom image form) (leaves (reading_in image form) level (root ∷ []))
      → AreBelow image form level (next_row (reading_in image form) (root ∷ []))
  below_root zero root are stands filled bottoms = bottoms
  below_root (suc level) root are stands filled bottoms = (rows_inner (suc level) (root ∷ []) are stands (filled (omega arith)) bottoms).1

  -- ---- a whole tree

  module _ (root : ℕ) (held : List Block) (readable : IsTreeReadable image form root held) where
    abbrev level : ℕ
    level = (readable.has).level

    level_of_root : (reading_in image form root).level ≡ level
    level_of_root = level_is image (kind_of image form) root level readable.nodes readable.leaves (readable.has).tree

    owned_are : readable.nodes ≡ nodes (reading_in image form) level (root ∷ [])
    owned_are = owned_is image (kind_of image form) root level readable.nodes readable.leaves (readable.has).tree

    leaves_are : readable.leaves ≡ leaves (reading_in image form) level (root ∷ [])
    leaves_are = children_are image (kind_of image form) root level readable.nodes readable.leaves (readable.has).tree

    stand : AllByRecursion (IsNodeAt image form) readable.nodes
    stand = nodes_stand image form root readable.nodes readable.leaves readable.has readable.inside

    bottoms : AllByRecursion (IsBottom image form) readable.leaves
    bottoms = leaves_stand image form root readable.nodes readable.leaves readable.has readable.inside

    keyed_root : AreKeyedBelow image form level (reading_in image form root)
    keyed_root = (row_keyed image form level (root ∷ []) (readable.has).keyed).0

    all : (p : ℕ) → cover p (nodes_blocks image form readable.nodes readable.leaves)
        ≡ holds p root (node_length (kind_of image form)) + cover p (blocks_below image form level (reading_in image form root).children)
    all p =
        ap (λ (ns : List ℕ). cover p (nodes_blocks image form ns readable.leaves)) owned_are
        ∙ ap (λ (ss : List ℕ). cover p (nodes_blocks image form (nodes (reading_in image form) level (root ∷ [])) ss)) leaves_are
        ∙ blocks_inner image form p level root

    root_stands : IsNodeAt image form root
    root_stands = in_all (IsNodeAt image form) root readable.nodes stand
        (subst (In root) (sym owned_are) (in_nodes (reading_in image form) 0 level level root (root ∷ []) (omega arith) (inl refl)))

    pub root_memory : (cause : Cause)
        → IsRefusedFor (NodeBreach image (kind_of image form) root (reading_in image form root).level root) (length image) held (node_block (kind_of image form) root) cause → cause ≡ NoMemory
    root_memory cause refused =
        only_memory (NodeBreach image (kind_of image form) root (reading_in image form root).level root) (length image) held (node_block (kind_of image form) root) cause root_stands.inside
        (λ p. omega (arith, readable.separate p, all p))
        (λ broken. node_excluded image (kind_of image form) root level readable.nodes readable.leaves (readable.has).tree 0 level root (omega arith) (inl refl)
        (subst (λ (l : ℕ). NodeBreach image (kind_of image form) root l root) level_of_root broken)) refused

    pub root_readable : (now : List Block) → ((p : ℕ) → cover p now ≡ cover p held + holds p root (node_length (kind_of image form)))
        → AreReadableBelow image form (reading_in image form root).level (reading_in image form root) now
    root_readable now claimed =
        let one : holds root root (node_length (kind_of image form)) ≡ 1 = holds_in root root (node_length (kind_of image form)) (omega arith) (omega arith) in
        let rows = tree_rows image (kind_of image form) root level readable.nodes readable.leaves (readable.has).tree in
        let under : AreBelow image form level (next_row (reading_in image form) (root ∷ []))
        = below_root level root rows (subst (AllByRecursion (IsNodeAt image form)) owned_are stand)
        (λ high. subst (AllByRecursion IsFilled) owned_are ((readable.has).tree.filled high)) (subst (AllByRecursion (IsBottom image form)) leaves_are bottoms) in
        subst (λ (l : ℕ). AreReadableBelow image form l (reading_in image form root) now) (sym level_of_root) (record {
          root = root;
          rooted = omega (arith, one, claimed root);
          low = (readable.has).tree.low;
          below = subst (AreBelow image form level) (next_one image form root) under;
          keyed = keyed_root;
          separate = λ p. omega (arith, readable.separate p, all p, claimed p);
        })

    pub rows_memory : (cause : Cause) (address : ℕ) → (cause ≡ NoMemory) ⊎ ((cause ≡ Sibling) × SiblingBreach image (kind_of image form) root address) → cause ≡ NoMemory
    rows_memory cause address (inl e) = e
    rows_memory cause address (inr (e, breach)) =
        absurd (sibling_excluded image (kind_of image form) root level readable.nodes readable.leaves (readable.has).tree address breach)
