-- The nodes of a tree off a way: what is below them stays where an edit writes on the way alone.
use Rattle.std.proofs.Common.{◌≡◌, ◌≢◌, ℕ, suc, ◌+◌, ◌<◌, List, [], ◌∷◌, ◌++◌, length, take, drop, sym, ap, ap₂, ◌∙◌, subst, arith}
use Rattle.std.specs.List.{AllByRecursion, remove}
use Rattle.h5_bytes.specs.Bytes.{undefined_address}
use Rattle.h5_bytes.proofs.BlockLaws.{all_left, all_right, all_so}
use Rattle.h5_model.specs.Format.Rows.{Node, Reading, next_row, AreRows, leaves}
use Rattle.h5_model.specs.Format.Nodes.{Kind, node_at, reading_of}
use Rattle.h5_model.proofs.RowLaws.{root_level}
use Rattle.h5_space.specs.Space.{Space}
use Rattle.h5_btree.specs.Climb.{IsNoNode}
use Rattle.h5_btree.specs.Insertion.{KeepsEntries, Owns}
use Rattle.h5_btree.specs.Keyed.{AtChild}
use Rattle.h5_btree.specs.Removal.{EndsInTree}
use Rattle.h5_btree.specs.declared.way.Step.{Step}
use Rattle.h5_btree.proofs.ClimbSteps.{undefined_free}
use Rattle.h5_btree.proofs.RowEdits.{level_here}
use Rattle.h5_btree.proofs.TreeReadings.{owned_at, owned_of_level}
use Rattle.h5_btree.proofs.WayRows.{leaves_here, remove_below}
use Rattle.h5_btree.proofs.KeyedOwn.{keys_count}
use Rattle.h5_btree.proofs.KeyedTrees.{IsAlike, StandsAlike, IsOther, IsOffWay, front_apart, back_apart, way_higher, lower_apart, off_way}

module _ {B : Type 0} (s t : Space) (kind : Kind) (root level : ℕ) (way : List Step) (owned list : List ℕ) (k : ℕ) (e : EndsInTree s kind root level way owned list k)
    (others : (n : ℕ) → Owns owned n → AllByRecursion (λ (step : Step). n ≢ step.node) way → KeepsEntries s.bytes t.bytes kind n)
    (was now : AtChild B) (same : AllByRecursion (λ c. (key : List ℕ) → now key c ≡ was key c) (remove list k)) where
  abbrev V : Reading
  V = node_at s.bytes kind

  abbrev W : Reading
  W = node_at t.bytes kind

  abbrev Y : Reading
  Y = reading_of s.bytes kind owned

  abbrev p : ℕ
  p = e.step.node

  abbrev i : ℕ
  i = e.step.place

  pub off_out : IsNoNode Y undefined_address
  off_out = undefined_free s kind owned e.apart e.short

  bottom : AreRows Y (length e.above) (root ∷ []) × (leaves Y (length e.above) (root ∷ []) ≡ next_row Y (e.front ++ p ∷ e.back))
  bottom = leaves_here Y root p e.above e.front e.back e.leads e.row

  pub off_steps : level ≡ length e.above
  off_steps = sym (root_level Y level root e.tree.rows) ∙ root_level Y (length e.above) root bottom.0

  pub high_low : length e.above + 0 < 16
  high_low = let l = e.tree.low in let h = off_steps in omega (arith, l, h)

  pub off_here : Y p ≡ V p
  off_here = owned_at V owned p (owned_of_level V owned p (let l = level_here Y 0 p e.front e.back (omega arith) off_out e.row in omega (arith, l)))

  pub off_count : length (Y p).keys ≡ length (Y p).children + 1
  off_count = subst (λ (o : Node). length o.keys ≡ length o.children + 1) (sym off_here) (keys_count s.bytes kind p)

  -- ---- what stands at the other children

  pub off_list : remove list k ≡ next_row Y e.front ++ (remove (Y p).children i ++ next_row Y e.back)
  off_list =
      let all : list ≡ next_row Y (e.front ++ p ∷ e.back) = e.tree.all ∙ ap (λ (l : ℕ). leaves Y l (root ∷ [])) off_steps ∙ bottom.1 in
      ap₂ (λ (xs : List ℕ) (n : ℕ). remove xs n) all e.number ∙ remove_below Y e.front e.back p i e.place

  stands : AllByRecursion (StandsAlike Y W was now) (next_row Y e.front ++ ((take i (Y p).children ++ drop (suc i) (Y p).children) ++ next_row Y e.back))
  stands = subst (AllByRecursion (StandsAlike Y W was now)) off_list same

  pub off_stands : AllByRecursion (StandsAlike Y W was now) (take i (Y p).children ++ drop (suc i) (Y p).children)
  off_stands = all_left (StandsAlike Y W was now) (take i (Y p).children ++ drop (suc i) (Y p).children) (next_row Y e.back)
      (all_right (StandsAlike Y W was now) (next_row Y e.front) ((take i (Y p).children ++ drop (suc i) (Y p).children) ++ next_row Y e.back) stands)

  keeps : (n : ℕ) → (Y n).level < 16 → AllByRecursion (λ (st : Step). n ≢ st.node) (e.step ∷ e.above) → IsAlike Y W was now n
  keeps n lower apart =
      let listed = owned_of_level V owned n lower in
      let is = owned_at V owned n listed in
      let keep = others n listed (subst (AllByRecursion (λ (st : Step). n ≢ st.node)) (sym e.way_is) apart) in
      (keep.0 ∙ ap (λ (o : Node). o.keys) (sym is), keep.1 ∙ ap (λ (o : Node). o.children) (sym is))

  p_level : (Y p).level ≡ 0
  p_level = level_here Y 0 p e.front e.back (omega arith) off_out e.row

  beside : (n : ℕ) → IsOther Y 0 p e.front e.back (omega arith) off_out e.row n → IsAlike Y W was now n
  beside n o = keeps n (omega (arith, o.0))
      (o.1, lower_apart Y off_out 0 n e.above (omega (arith, o.0)) (way_higher Y off_out 0 root e.above p e.front e.back high_low e.leads))

  pub off_is : IsOffWay Y W was now 0 e.above
  off_is = off_way Y W was now off_out 0 root e.above p e.front e.back high_low e.leads
      (λ n above lower apart. keeps n lower ((λ at. let q = ap (λ (m : ℕ). (Y m).level) at in let z = p_level in omega (arith, q, z, above)), apart)) (
        all_so (IsOther Y 0 p e.front e.back (omega arith) off_out e.row) (IsAlike Y W was now) e.front beside (front_apart Y 0 p e.front e.back (omega arith) off_out e.row),
        all_left (StandsAlike Y W was now) (next_row Y e.front) ((take i (Y p).children ++ drop (suc i) (Y p).children) ++ next_row Y e.back) stands,
      ) (
        all_so (IsOther Y 0 p e.front e.back (omega arith) off_out e.row) (IsAlike Y W was now) e.back beside (back_apart Y 0 p e.front e.back (omega arith) off_out e.row),
        all_right (StandsAlike Y W was now) (take i (Y p).children ++ drop (suc i) (Y p).children) (next_row Y e.back)
            (all_right (StandsAlike Y W was now) (next_row Y e.front) ((take i (Y p).children ++ drop (suc i) (Y p).children) ++ next_row Y e.back) stands),
      )
