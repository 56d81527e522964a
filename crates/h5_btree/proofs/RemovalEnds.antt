-- Where a removal ends, and where it goes on to the node above.
use Rattle.std.proofs.Common.{◌≡◌, ◌≢◌, ℕ, suc, ◌+◌, ◌^◌, ◌<◌, List, [], ◌∷◌, length, refl, sym, ap, ◌∙◌, subst, arith}
use Rattle.std.specs.List.{remove}
use Rattle.h5_bytes.specs.Bytes.{undefined_address}
use Rattle.h5_bytes.specs.Blocks.{cover, holds}
use Rattle.h5_model.specs.Format.Rows.{Node, first_or_undefined}
use Rattle.h5_model.specs.Format.Nodes.{Kind, node_at, node_length, reading_of, tree_blocks}
use Rattle.h5_space.specs.Space.{Space}
use Rattle.h5_space.proofs.MovesLaws.{moves_give}
use Rattle.h5_model.proofs.RowLaws.{at_listed}
use Rattle.h5_btree.specs.Insertion.{KeepsEntries}
use Rattle.h5_btree.specs.Rewritten.{IsRewritten}
use Rattle.h5_btree.specs.Removal.{IsShrinking, IsChildTaken, IsTakenAlong}
use Rattle.h5_btree.specs.declared.way.Step.{Step}
use Rattle.h5_btree.proofs.RowEdits.{last_of, left_here, right_here}
use Rattle.h5_btree.proofs.DropLaws.{remove_alone}
use Rattle.h5_btree.proofs.DropSteps.{without, shrink_kept, shrink_emptied}
use Rattle.h5_btree.proofs.UnlinkSteps.{MayBeWritten, shrink_unlink}
use Rattle.h5_btree.proofs.WaySteps.{roomy, moves_roomy}
use Rattle.h5_btree.proofs.RemovalSteps.{top, out, own_p, same_p, place_p, first, second, spends₁, spends₂}

taken_here : (s u : Space) (kind : Kind) (root level : ℕ) (step : Step) (above : List Step) (list owned own : List ℕ)
    → IsChildTaken s u kind root level step.node step.place list owned own → IsTakenAlong s u kind root (step ∷ above) list owned
taken_here s u kind root level step above list owned own done = ([], step, above, level, own, refl, tt, done)

-- it stopped at a step above
pub taken_above : (s u : Space) (kind : Kind) (root : ℕ) (step : Step) (above : List Step) (list owned : List ℕ) → length (node_at s.bytes kind step.node).children ≡ 1
    → IsTakenAlong s u kind root above list owned → IsTakenAlong s u kind root (step ∷ above) list owned
taken_above s u kind root step above list owned one t =
    (step ∷ t.0, t.1, t.2, t.3, t.4, ap (λ (ws : List Step). step ∷ ws) t.5, (one, t.6), t.7)

-- a node that has one child had one
pub one_before : (s t : Space) (kind : Kind) (root m : ℕ) (step : Step) (above : List Step) (list owned own : List ℕ)
    → IsShrinking s t kind root m step.node above step.place list owned own → length (node_at t.bytes kind step.node).children ≡ 1
    → length (node_at s.bytes kind step.node).children ≡ 1
one_before s t kind root m step above list owned own c one =
    let same = at_listed (KeepsEntries s.bytes t.bytes kind) own step.node c.entries (own_p s t kind root m step.node above step.place list owned own c) in
    ap (λ (xs : List ℕ). length xs) (sym same.1) ∙ one

-- the node had another child
pub taken_kept : (s t u : Space) (kind : Kind) (root m : ℕ) (step : Step) (above : List Step) (list owned own : List ℕ)
    → IsShrinking s t kind root m step.node above step.place list owned own → 1 < length (node_at t.bytes kind step.node).children
    → IsRewritten t u kind step.node
    (record (node_at t.bytes kind step.node) { keys = remove (node_at t.bytes kind step.node).keys step.place; children = remove (node_at t.bytes kind step.node).children step.place })
    → IsTakenAlong s u kind root (step ∷ above) list owned
taken_kept s t u kind root m step above list owned own c more r =
    taken_here s u kind root _ step above list owned _ (shrink_kept s t u kind root m step.node above step.place list owned own c (omega (arith, more)) r)

-- the root had no other child
emptied : (s t u : Space) (kind : Kind) (root m i : ℕ) (list owned own : List ℕ) → IsShrinking s t kind root m root [] i list owned own
    → length (node_at t.bytes kind root).children ≡ 1
    → IsRewritten t u kind root (record (node_at t.bytes kind root) { level = 0; keys = remove (node_at t.bytes kind root).keys i; children = remove (node_at t.bytes kind root).children i })
    → IsChildTaken s u kind root 0 root i list owned (root ∷ [])
emptied s t u kind root m i list owned own c one r =
    let V = reading_of t.bytes kind own in
    let old = node_at t.bytes kind root in
    let low = top s t kind root m root [] i list owned own c in
    let none = out s t kind root m root [] i list owned own c in
    let same = same_p s t kind root m root [] i list owned own c in
    let left : old.left ≡ undefined_address
    = ap (λ (n : Node). n.left) (sym same) ∙ left_here V m root c.over.front c.over.back low none c.over.row ∙ ap (last_of undefined_address) c.over.above.1 in
    let right : old.right ≡ undefined_address
    = ap (λ (n : Node). n.right) (sym same) ∙ right_here V m root c.over.front c.over.back low none c.over.row ∙ ap first_or_undefined c.over.above.2 in
    let gone : remove old.children i ≡ [] = remove_alone old.children i one (place_p s t kind root m root [] i list owned own c) in
    let keys = remove old.keys i in
    let by_left = subst (λ (l : ℕ). IsRewritten t u kind root (record { level = 0; left = l; right = old.right; keys = keys; children = remove old.children i })) left r in
    let by_right = subst (λ (n : ℕ). IsRewritten t u kind root (record { level = 0; left = undefined_address; right = n; keys = keys; children = remove old.children i })) right by_left in
    let all = subst (λ (xs : List ℕ). IsRewritten t u kind root (record { level = 0; left = undefined_address; right = undefined_address; keys = keys; children = xs })) gone by_right in
    (shrink_emptied s t u kind root m i list owned own c (ap (λ (n : Node). length n.children) same ∙ one) all).0

pub taken_emptied : (s t u : Space) (kind : Kind) (root m : ℕ) (step : Step) (list owned own : List ℕ)
    → IsShrinking s t kind root m step.node [] step.place list owned own → length (node_at t.bytes kind step.node).children ≡ 1
    → IsRewritten t u kind step.node
    (record (node_at t.bytes kind step.node) { level = 0; keys = remove (node_at t.bytes kind step.node).keys step.place; children = remove (node_at t.bytes kind step.node).children step.place })
    → IsTakenAlong s u kind root (step ∷ []) list owned
taken_emptied s t u kind root m step list owned own c one r =
    taken_here s u kind root 0 step [] list owned (root ∷ [])
    (at step.node c.over.above.0 c one r)
  where
    at : (p : ℕ) → p ≡ root → IsShrinking s t kind root m p [] step.place list owned own → length (node_at t.bytes kind p).children ≡ 1
        → IsRewritten t u kind p (record (node_at t.bytes kind p) { level = 0; keys = remove (node_at t.bytes kind p).keys step.place; children = remove (node_at t.bytes kind p).children step.place })
        → IsChildTaken s u kind root 0 p step.place list owned (root ∷ [])
    at p e = subst (λ (n : ℕ). IsShrinking s t kind root m n [] step.place list owned own → length (node_at t.bytes kind n).children ≡ 1
        → IsRewritten t u kind n (record (node_at t.bytes kind n) { level = 0; keys = remove (node_at t.bytes kind n).keys step.place; children = remove (node_at t.bytes kind n).children step.place })
        → IsChildTaken s u kind root 0 n step.place list owned (root ∷ [])) (sym e) (emptied s t u kind root m step.place list owned own)

-- it had no other child and is not the root: the one above has a child too much
module _ (s t t₁ t₂ u : Space) (kind : Kind) (root m : ℕ) (step next : Step) (above : List Step) (list owned own : List ℕ)
    (c : IsShrinking s t kind root m step.node (next ∷ above) step.place list owned own) (one : length (node_at t.bytes kind step.node).children ≡ 1)
    (l r : ℕ) (el : l ≡ (node_at t.bytes kind step.node).left) (er : r ≡ (node_at t.bytes kind step.node).right)
    (w₁ : l ≢ undefined_address → IsRewritten t t₁ kind l (record (node_at t.bytes kind l) { right = r })) (n₁ : l ≡ undefined_address → t₁ ≡ t)
    (w₂ : r ≢ undefined_address → IsRewritten t₁ t₂ kind r (record (node_at t₁.bytes kind r) { left = l })) (n₂ : r ≡ undefined_address → t₂ ≡ t₁)
    (bytes : u.bytes ≡ t₂.bytes) (given : (x : ℕ) → cover x u.free ≡ cover x t₂.free + holds x step.node (node_length kind)) where
  write_left : MayBeWritten t t₁ kind own (node_at t.bytes kind step.node).left (record (node_at t.bytes kind (node_at t.bytes kind step.node).left) { right = (node_at t.bytes kind step.node).right })
  write_left = subst (λ (a : ℕ). MayBeWritten t t₁ kind own a (record (node_at t.bytes kind a) { right = (node_at t.bytes kind step.node).right })) el
      (subst (λ (b : ℕ). MayBeWritten t t₁ kind own l (record (node_at t.bytes kind l) { right = b })) er
      (first s t kind root m step.node (next ∷ above) step.place list owned own c l r el er t₁ w₁ n₁))

  write_right : MayBeWritten t₁ t₂ kind own (node_at t.bytes kind step.node).right (record (node_at t.bytes kind (node_at t.bytes kind step.node).right) { left = (node_at t.bytes kind step.node).left })
  write_right = subst (λ (a : ℕ). MayBeWritten t₁ t₂ kind own a (record (node_at t.bytes kind a) { left = (node_at t.bytes kind step.node).left })) er
      (subst (λ (b : ℕ). MayBeWritten t₁ t₂ kind own r (record (node_at t.bytes kind r) { left = b })) el
      (second s t kind root m step.node (next ∷ above) step.place list owned own c l r el er t₁ w₁ n₁ t₂ w₂ n₂))

  short : length u.bytes < 2 ^ 64
  short =
      let a = (spends₁ s t kind root m step.node (next ∷ above) step.place list owned own c l r el er t₁ w₁ n₁).grown in
      let b = (spends₂ s t kind root m step.node (next ∷ above) step.place list owned own c l r el er t₁ w₁ n₁ t₂ w₂ n₂).grown in
      let same : length u.bytes ≡ length t₂.bytes = ap (λ (xs : List ℕ). length xs) bytes in
      let low = c.short in
      omega (arith, a, b, same, low)

  pub goes_on : IsShrinking s u kind root (suc m) next.node above next.place list owned (without step.node own)
  goes_on = shrink_unlink s t t₁ t₂ u kind root m step.node next above step.place list owned own c
      (ap (λ (n : Node). length n.children) (same_p s t kind root m step.node (next ∷ above) step.place list owned own c) ∙ one)
      write_left write_right (moves_give t₂ u step.node (node_length kind) bytes given) short

-- what was reserved is no part of it
pub taken_roomy : (s u : Space) (bytes blocks : ℕ) (kind : Kind) (root : ℕ) (way : List Step) (list owned : List ℕ)
    → IsTakenAlong (roomy s bytes blocks) u kind root way list owned → IsTakenAlong s u kind root way list owned
taken_roomy s u bytes blocks kind root way list owned t = (
  t.0,
  t.1,
  t.2,
  t.3,
  t.4,
  t.5,
  t.6,
  record {
    tree = (t.7).tree;
    moves = moves_roomy s u bytes blocks (tree_blocks kind owned) (tree_blocks kind t.4) (t.7).moves;
    entries = (t.7).entries;
    stops = (t.7).stops;
  },
)
