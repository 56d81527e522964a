-- On the way down a tree each node is formed, lies in the image, and has a child.
use Rattle.std.proofs.Common.{◌≡◌, ℕ, zero, suc, ◌+◌, ◌<◌, ◌≤◌, inl, inr, Bool, true, false, List, [], ◌∷◌, length, slice_index_or, get_or, refl, sym, ap, subst, ◌∙◌, arith}
use Rattle.std.specs.Prelude.{◌==◌}
use Rattle.std.specs.List.{AllByRecursion, Contains, list_any}
use Rattle.std.proofs.lemmas.List.Elements.{Contains-append_left, Contains-append_right}
use Rattle.h5_bytes.specs.Bytes.{undefined_address}
use Rattle.h5_bytes.specs.Blocks.{Inside}
use Rattle.h5_model.specs.Format.Limits.{highest_level}
use Rattle.h5_model.specs.Format.Rows.{Node, Reading, next_row, IsRow, nodes}
use Rattle.h5_model.specs.Format.Nodes.{Kind, HasTree, IsNode, node_at, node_bytes, node_length, entries_in, reading_of, tree_blocks}
use Rattle.h5_model.proofs.OneTree.{level_is}
use Rattle.h5_model.proofs.RowLaws.{at_listed}
use Rattle.h5_laws.proofs.Rows.{row_is}
use Rattle.h5_btree.specs.Form.{IsRefusedAt, MayBeRoot, MayStandAt}
use Rattle.h5_btree.specs.Descent.{IsInRow}
use Rattle.h5_btree.specs.declared.read.NodeFault.{NodeFault}
use Rattle.h5_btree.specs.declared.read.NodeFault.TheVariants.{NodeForm, Truncated}
use Rattle.h5_btree.proofs.NodeLaws.{length-children}

-- ---- rows

row_level : (V : Reading) (level left : ℕ) (row : List ℕ) (k at : ℕ) → IsRow V level left row → k < length row → get_or row k at ≡ at → (V at).level ≡ level
row_level V level left [] k at rows low is = absurd (omega arith)
row_level V level left (x ∷ xs) zero at rows low is = subst (λ n. (V n).level ≡ level) is rows.0
row_level V level left (x ∷ xs) (suc k) at rows low is = row_level V level x xs k at rows.3 (omega arith) is

in_next_row : (V : Reading) (row : List ℕ) (k at child : ℕ) → k < length row → get_or row k at ≡ at → Contains (V at).children child → Contains (next_row V row) child
in_next_row V [] k at child low is has = absurd (omega arith)
in_next_row V (x ∷ xs) zero at child low is has =
    Contains-append_left (V x).children (next_row V xs) child (subst (λ n. Contains (V n).children child) (sym is) has)
in_next_row V (x ∷ xs) (suc k) at child low is has =
    Contains-append_right (V x).children (next_row V xs) child (in_next_row V xs k at child (omega arith) is has)

-- ---- a node that a tree reads at a level is one of its own

module _ (image : List ℕ) (kind : Kind) (owned : List ℕ) (level at : ℕ) (low : level ≤ highest_level) (is : (reading_of image kind owned at).level ≡ level) where
  pub owned_here : list_any (λ n. n == at) owned ≡ true
  owned_here = by_test (list_any (λ n. n == at) owned) refl where
    by_test : (b : Bool) → list_any (λ n. n == at) owned ≡ b → b ≡ true
    by_test true e = refl
    by_test false e = let none : 16 ≡ level = rw e at is in absurd (omega arith)

  pub read_here : reading_of image kind owned at ≡ node_at image kind at
  read_here = rw owned_here refl

-- the block of a listed node is inside
inside_each : (kind : Kind) (end : ℕ) (owned : List ℕ) → Inside end (tree_blocks kind owned) → AllByRecursion (λ a. a + node_length kind ≤ end) owned
inside_each kind end [] inside = tt
inside_each kind end (x ∷ xs) inside = (inside.0, inside_each kind end xs inside.1)

-- a formed node that is inside is refused by no fault
read_all : (image : List ℕ) (kind : Kind) (at : ℕ) (fault : NodeFault) → at + node_length kind ≤ length image → IsNode kind (node_bytes image kind at)
    → IsRefusedAt image kind at fault → ⊥
read_all image kind at Truncated inside formed refused = absurd (omega arith)
read_all image kind at NodeForm inside formed refused =
    elim refused.1 [
      | inl unsigned ↦ unsigned formed.signed
      | inr rest ↦ elim rest [ inl other ↦ other formed.type_byte | inr full ↦ absurd (omega (arith, formed.roomy, full)) ]
    ]

module _ (image : List ℕ) (kind : Kind) (owned : List ℕ) (level : ℕ) (row : List ℕ) (at : ℕ) (r : IsInRow image kind owned level row at) where
  pub level_in_row : (reading_of image kind owned at).level ≡ level
  level_in_row = row_level (reading_of image kind owned) level undefined_address row r.here.0 at (row_is (reading_of image kind owned) level row r.rows) r.here.1 (here_at r.here.0 r.here.1 r.here.2) where
    here_at : (k : ℕ) → k < length row → slice_index_or row k at ≡ at → get_or row k at ≡ at
    here_at k low is = is

  pub reads_in_row : (fault : NodeFault) → IsRefusedAt image kind at fault → ⊥
  reads_in_row fault refused =
      let own = owned_here image kind owned level at r.low level_in_row in
      read_all image kind at fault
      (at_listed (λ a. a + node_length kind ≤ length image) owned at (inside_each kind (length image) owned r.inside) own)
      (at_listed (λ a. IsNode kind (node_bytes image kind a)) owned at r.formed own) refused

  pub stands_in_row : MayStandAt level (node_at image kind at)
  stands_in_row =
      let own = owned_here image kind owned level at r.low level_in_row in
      let some : 1 ≤ entries_in (node_bytes image kind at) = at_listed (λ a. 1 ≤ entries_in (node_bytes image kind a)) owned at r.filled own in
      let count = length-children kind (node_bytes image kind at) (node_at image kind at) refl in
      (ap (λ (n : Node). n.level) (sym (read_here image kind owned level at r.low level_in_row)) ∙ level_in_row, omega arith)

pub child_in_row : (image : List ℕ) (kind : Kind) (owned : List ℕ) (level : ℕ) (row : List ℕ) (at i child : ℕ) → IsInRow image kind owned (suc level) row at
    → i < length (node_at image kind at).children → get_or (node_at image kind at).children i child ≡ child
    → IsInRow image kind owned level (next_row (reading_of image kind owned) row) child
child_in_row image kind owned level row at i child r low is = record {
  formed = r.formed;
  filled = r.filled;
  inside = r.inside;
  low = omega (arith, r.low);
  rows = r.rows.1;
  here =
      let read : reading_of image kind owned at ≡ node_at image kind at
      = read_here image kind owned (suc level) at r.low (level_in_row image kind owned (suc level) row at r) in
      let has : Contains (node_at image kind at).children child = (i, low, is) in
      in_next_row (reading_of image kind owned) row r.here.0 at child r.here.1 r.here.2
      (subst (λ (n : Node). Contains n.children child) (sym read) has);
}

-- ---- the root

module _ (image : List ℕ) (kind : Kind) (root level : ℕ) (owned children : List ℕ) (t : HasTree image kind root level owned children) (inside : Inside (length image) (tree_blocks kind owned)) where
  root_level : (reading_of image kind owned root).level ≡ level
  root_level = row_level (reading_of image kind owned) level undefined_address (root ∷ []) 0 root (row_is (reading_of image kind owned) level (root ∷ []) t.rows) (omega arith) refl

  pub root_may : MayBeRoot (node_at image kind root)
  root_may =
      let own = owned_here image kind owned level root t.low root_level in
      let at = level_is image kind root level owned children t in
      let low = t.low in
      let count = length-children kind (node_bytes image kind root) (node_at image kind root) refl in (
        omega arith,
        λ high.
            let some : 1 ≤ entries_in (node_bytes image kind root) = at_listed (λ a. 1 ≤ entries_in (node_bytes image kind a)) owned root (t.filled (omega arith)) own in
            omega arith,
      )

  pub root_in_row : 1 ≤ length (node_at image kind root).children → IsInRow image kind owned (node_at image kind root).level (root ∷ []) root
  root_in_row some = subst (λ (l : ℕ). IsInRow image kind owned l (root ∷ []) root) (sym (level_is image kind root level owned children t)) (record {
    formed = t.formed;
    filled = all_filled level t.owns t.filled;
    inside = inside;
    low = t.low;
    rows = t.rows;
    here = (0, omega arith, refl);
  }) where
    all_filled : (l : ℕ) → owned ≡ nodes (reading_of image kind owned) l (root ∷ []) → (1 ≤ l → AllByRecursion (λ a. 1 ≤ entries_in (node_bytes image kind a)) owned)
        → AllByRecursion (λ a. 1 ≤ entries_in (node_bytes image kind a)) owned
    all_filled zero owns filled =
        let count = length-children kind (node_bytes image kind root) (node_at image kind root) refl in
        subst (λ (xs : List ℕ). AllByRecursion (λ a. 1 ≤ entries_in (node_bytes image kind a)) xs) (sym owns) (omega arith, tt)
    all_filled (suc l) owns filled = filled (omega arith)
