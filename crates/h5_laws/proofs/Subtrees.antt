-- What stands below a node of a tree is owned by the tree.
use Rattle.std.proofs.Common.{◌≡◌, inl, inr, ℕ, zero, suc, ◌+◌, ◌<◌, List, [], ◌∷◌, length, refl, sym, ap, subst, arith}
use Rattle.std.specs.Prelude.{slice_index_or}
use Rattle.h5_model.specs.Format.Rows.{Node, Reading, blank, next_row, row_below, leaves, nodes}
use Rattle.h5_model.specs.Format.Nodes.{Kind, HasTree, node_at, reading_of}
use Rattle.h5_model.specs.Format.Links.{symbol_nodes_below}
use Rattle.h5_model.proofs.RowLaws.{Agree, only_here}
use Rattle.h5_laws.proofs.Lists.{In, in_all, all_in, in_left, in_right, in_either, in_flat, from_flat}
use Rattle.h5_laws.proofs.Rows.{row_after}

-- each of one list is one of the other
abbrev pub Within : {X : Type 0} → List X → List X → Type 0
Within {X} xs ys = (x : X) → In x xs → In x ys

pub index_in : {X : Type 0} (xs : List X) (i : ℕ) (d : X) → i < length xs → In (slice_index_or xs i d) xs
index_in [] i d low = absurd (omega (arith, low))
index_in (x ∷ xs) zero d low = inl refl
index_in (x ∷ xs) (suc i) d low = inr (index_in xs i d (omega (arith, low)))

module _ (V : Reading) where
  next_within : (r s : List ℕ) → Within r s → Within (next_row V r) (next_row V s)
  next_within r s sub x at =
      let by = from_flat (λ n. (V n).children) x r at in
      in_flat (λ n. (V n).children) by.0 x s (sub by.0 by.1) by.2

  pub rows_within : (d : ℕ) (r s : List ℕ) → Within r s → Within (row_below V d r) (row_below V d s)
  rows_within zero r s sub x at = sub x at
  rows_within (suc d) r s sub x at = rows_within d (next_row V r) (next_row V s) (next_within r s sub) x at

  pub nodes_within : (level : ℕ) (r s : List ℕ) → Within r s → Within (nodes V level r) (nodes V level s)
  nodes_within zero r s sub x at = sub x at
  nodes_within (suc level) r s sub x at = elim (in_either x r (nodes V level (next_row V r)) at) [
    | inl here ↦ in_left x s (nodes V level (next_row V s)) (sub x here)
    | inr below ↦ in_right x s (nodes V level (next_row V s)) (nodes_within level (next_row V r) (next_row V s) (next_within r s sub) x below)
  ]

  pub leaves_within : (level : ℕ) (r s : List ℕ) → Within r s → Within (leaves V level r) (leaves V level s)
  leaves_within level r s sub = next_within (row_below V level r) (row_below V level s) (rows_within level r s sub)

  -- all nodes from a row below on are among the nodes
  pub nodes_below : (d l level : ℕ) (row : List ℕ) → d + l ≡ level → Within (nodes V l (row_below V d row)) (nodes V level row)
  nodes_below zero l level row e x at = let same : l ≡ level = omega arith in subst (λ (n : ℕ). In x (nodes V n row)) same at
  nodes_below (suc d) l zero row e x at = absurd (omega (arith, e))
  nodes_below (suc d) l (suc level) row e x at = in_right x row (nodes V level (next_row V row)) (nodes_below d l level (next_row V row) (omega (arith, e)) x at)

  -- a child of a node of a row stands in the next
  pub child_below : (d at c : ℕ) (row : List ℕ) → In at (row_below V d row) → In c (V at).children → In c (row_below V (suc d) row)
  child_below d at c row there child =
      subst (In c) (sym (row_after V d row)) (in_flat (λ n. (V n).children) at c (row_below V d row) there child)

  pub one_within : (c : ℕ) (row : List ℕ) → In c row → Within (c ∷ []) row
  one_within c row at x (inl e) = subst (λ (n : ℕ). In n row) e at
  one_within c row at x (inr none) = absurd none

  -- ---- what stands below child i of a node

  abbrev pub below_child : ℕ → ℕ → List ℕ
  below_child zero c = c ∷ []
  below_child (suc l) c = leaves V l (c ∷ [])

  pub below_is : (node : Node) (l i : ℕ) → node.level ≡ l → symbol_nodes_below V node i ≡ below_child l (slice_index_or node.children i 0)
  below_is node zero i e = ap (λ (n : ℕ). symbol_nodes_below V (record node { level = n }) i) e
  below_is node (suc l) i e = ap (λ (n : ℕ). symbol_nodes_below V (record node { level = n }) i) e

module _ (image : List ℕ) (kind : Kind) (root level : ℕ) (owned children : List ℕ) (has : HasTree image kind root level owned children) where
  -- at its own nodes the tree is read as they stand
  pub read_same : (at : ℕ) → In at owned → reading_of image kind owned at ≡ node_at image kind at
  read_same at there = sym (in_all (λ n. node_at image kind n ≡ reading_of image kind owned n) at owned (only_here blank (node_at image kind) owned) there)

  pub all_agree : (xs : List ℕ) → Within xs owned → Agree (node_at image kind) (reading_of image kind owned) xs
  all_agree xs sub = all_in (λ n. reading_of image kind owned n ≡ node_at image kind n) xs (λ n at. read_same n (sub n at))
