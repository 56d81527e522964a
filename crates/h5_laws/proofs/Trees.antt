-- A tree that is read, by what is read at each address.
use Rattle.std.proofs.Common.{◌≡◌, ℕ, ◌+◌, ◌≤◌, List, [], ◌∷◌, sym, subst}
use Rattle.h5_model.specs.Format.Rows.{blank, AreRows, nodes, row_below}
use Rattle.h5_model.specs.Format.Nodes.{Kind, HasTree, IsNode, node_at, node_bytes, entries_in, reading_of}
use Rattle.h5_model.proofs.RowLaws.{Agree, only_here, AreRows-same}
use Rattle.h5_model.proofs.OneTree.{owned_is}
use Rattle.h5_laws.proofs.Lists.{In, in_all}
use Rattle.h5_laws.proofs.Rows.{in_nodes}

module _ (image : List ℕ) (kind : Kind) (root level : ℕ) (owned children : List ℕ) (has : HasTree image kind root level owned children) where
  pub agrees : Agree (reading_of image kind owned) (node_at image kind) (nodes (reading_of image kind owned) level (root ∷ []))
  agrees = subst (λ ns. Agree (reading_of image kind owned) (node_at image kind) ns) has.owns (only_here blank (node_at image kind) owned)

  pub tree_rows : AreRows (node_at image kind) level (root ∷ [])
  tree_rows = AreRows-same (reading_of image kind owned) (node_at image kind) level (root ∷ []) agrees has.rows

  module _ (d l at : ℕ) (e : d + l ≡ level) (there : In at (row_below (node_at image kind) d (root ∷ []))) where
    -- a node of a row is owned
    pub row_owned : In at owned
    row_owned = subst (In at) (sym (owned_is image kind root level owned children has)) (in_nodes (node_at image kind) d l level at (root ∷ []) e there)

    pub row_node : IsNode kind (node_bytes image kind at)
    row_node = in_all (λ n. IsNode kind (node_bytes image kind n)) at owned has.formed row_owned

    pub row_filled : 1 ≤ level → 1 ≤ entries_in (node_bytes image kind at)
    row_filled high = in_all (λ n. 1 ≤ entries_in (node_bytes image kind n)) at owned (has.filled high) row_owned
