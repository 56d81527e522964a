-- The way that was found in a tree, by the rows that it passes: so an edit at its end can begin.
use Rattle.std.proofs.Common.{◌≡◌, ℕ, zero, suc, ◌^◌, ◌<◌, Bool, List, [], ◌∷◌, ◌++◌, length, slice_index, refl, sym, ap, ◌∙◌, arith, subst, append-nil}
use Rattle.std.proofs.lemmas.List.{append_assoc}
use Rattle.h5_bytes.specs.Bytes.{undefined_address}
use Rattle.h5_model.specs.Format.Rows.{Node, Reading, IsRow, AreRows}
use Rattle.h5_model.specs.Format.Nodes.{Kind, HasTree, node_at, reading_of, tree_blocks}
use Rattle.h5_space.specs.Space.{Space}
use Rattle.h5_space.specs.Whole.{IsApart}
use Rattle.h5_btree.specs.Climb.{IsNoNode, IsWay}
use Rattle.h5_btree.specs.Descent.{IsWayTo}
use Rattle.h5_btree.specs.Removal.{EndsInTree}
use Rattle.h5_btree.specs.declared.way.Step.{Step}
use Rattle.h5_btree.proofs.RowEdits.{level_here}
use Rattle.h5_btree.proofs.TreeReadings.{owned_at, owned_of_level}
use Rattle.h5_btree.proofs.WayRows.{way_root, way_down, rows_down}
use Rattle.h5_btree.proofs.ClimbSteps.{undefined_free}

module _ (image : List ℕ) (kind : Kind) (owned : List ℕ) (root : ℕ) (behind : List ℕ → Bool) (out : IsNoNode (reading_of image kind owned) undefined_address) where
  abbrev V : Reading
  V = reading_of image kind owned

  -- these steps, and then those above, are a way from a child of a node of level 0
  abbrev IsFound : List Step → List Step → Type 0
  IsFound way above =
      (step : Step) × (rest : List Step) × (front : List ℕ) × (back : List ℕ) × (way ++ above ≡ step ∷ rest) × IsWay V 0 root rest step.node front back
      × IsRow V 0 undefined_address (front ++ step.node ∷ back) × (step.place < length (V step.node).children)

  same_there : (level at : ℕ) (f bk : List ℕ) → level < 16 → IsRow V level undefined_address (f ++ at ∷ bk) → V at ≡ node_at image kind at
  same_there level at f bk low row =
      owned_at (node_at image kind) owned at (owned_of_level (node_at image kind) owned at (let l = level_here V level at f bk low out row in omega (arith, l, low)))

  pub way_in_rows : (level at : ℕ) (way above : List Step) (f bk : List ℕ) → level < 16 → IsWay V level root above at f bk → AreRows V level (f ++ at ∷ bk)
      → IsWayTo (node_at image kind) behind level at way → IsFound way above
  way_in_rows zero at way above f bk low w rows to =
      let same = same_there 0 at f bk low rows in (
        record { node = at; place = to.0 },
        above,
        f,
        bk,
        ap (λ (xs : List Step). xs ++ above) to.2,
        w,
        rows,
        subst (λ (n : Node). to.0 < length n.children) (sym same) (to.1).child,
      )
  way_in_rows (suc level) at way above f bk low w rows to =
      let s : Step = record { node = at; place = to.0 } in
      let same = same_there (suc level) at f bk low rows.0 in
      let place : to.0 < length (V at).children = subst (λ (n : Node). to.0 < length n.children) (sym same) (to.2).child in
      let there : IsWayTo (node_at image kind) behind level (slice_index (V at).children to.0) to.1
      = subst (λ (n : Node). IsWayTo (node_at image kind) behind level (slice_index n.children to.0) to.1) (sym same) to.3 in
      let r = way_in_rows level (slice_index (V at).children to.0) to.1 (s ∷ above) _ _ (omega (arith, low))
      (way_down V level root at to.0 above s f bk refl refl w rows place) (rows_down V level root at to.0 above s f bk refl refl w rows place) there in
      (r.0, r.1, r.2, r.3, ap (λ (xs : List Step). xs ++ above) to.4 ∙ append_assoc to.1 (s ∷ []) above ∙ r.4, r.5, r.6, r.7)

-- the way from the root of a tree ends in it
pub way_in_tree : (s : Space) (kind : Kind) (root level : ℕ) (owned list : List ℕ) (behind : List ℕ → Bool) (way : List Step) → HasTree s.bytes kind root level owned list
    → IsApart (tree_blocks kind owned) s.free (length s.bytes) → length s.bytes < 2 ^ 64 → IsWayTo (node_at s.bytes kind) behind level root way
    → (k : ℕ) × EndsInTree s kind root level way owned list k
way_in_tree s kind root level owned list behind way tree apart short to =
    let V = reading_of s.bytes kind owned in
    let r = way_in_rows s.bytes kind owned root behind (undefined_free s kind owned apart short) level root way [] [] [] (let l = tree.low in omega (arith, l))
    (way_root V level root) tree.rows to in (
      _,
      record {
        tree = tree;
        apart = apart;
        short = short;
        step = r.0;
        above = r.1;
        way_is = sym (append-nil way) ∙ r.4;
        front = r.2;
        back = r.3;
        leads = r.5;
        row = r.6;
        place = r.7;
        number = refl;
      },
    )
